-- What the keys of the program stand for in the definitions of a product file.
use Rattle.std.specs.Prelude.{List, map}
use Rattle.product_file.specs.Keys as file
use Rattle.file_tree.specs.declared.keys.Kind.{Kind}
use Rattle.file_tree.specs.declared.keys.Kind.TheVariants.{Whole, Text, Array, Wholes, Table}
use Rattle.file_tree.specs.declared.keys.Key.{Key}

-- what may stand at a key
abbrev pub kind_of : Kind → file.Kind
kind_of Whole = file.Whole
kind_of Text = file.Text
kind_of Array = file.Array
kind_of (Wholes most) = file.Wholes most
kind_of Table = file.Table

-- a key
abbrev pub key_of : Key → file.Key
key_of key = record { name = key.name.now; kind = kind_of key.kind; is_needed = key.is_needed }

-- some keys
abbrev pub keys_of : List Key → List file.Key
keys_of keys = map key_of keys
