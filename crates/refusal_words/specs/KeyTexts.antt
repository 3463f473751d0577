-- The lines under a key of the top table that is missing or has a value of a wrong type.
use Rattle.std.specs.Prelude.{ℕ, List, [], ◌++◌, codes, if◌then◌else◌}
use Rattle.toml.specs.Data.{Members}
use Rattle.product_file.specs.Members.{is_absent}
use Rattle.refusal_words.specs.declared.places.Thing.{Thing}
use Rattle.refusal_words.specs.declared.places.Thing.TheVariants as thing
use Rattle.refusal_words.specs.Places.{word_of}

-- what stands at the key, as a line
unfoldable pub key_wanted : Thing → List ℕ
key_wanted thing.Format = codes "wanted: format = a whole number\n"
key_wanted thing.Name = codes "wanted: name = a string\n"
key_wanted thing.Months = codes "wanted: months = a whole number\n"
key_wanted thing.Den = codes "wanted: den = a whole number\n"
key_wanted thing.Start = codes "wanted: start = a string\n"
key_wanted thing.States = codes "wanted: states = an array of strings\n"
key_wanted thing.Interest = codes "wanted: interest = an array of pieces\n"
key_wanted thing.Transition = codes "wanted: transition = an array of tables, each headed by [[transition]]\n"
key_wanted thing.Sojourn = codes "wanted: sojourn = an array of tables, each headed by [[sojourn]]\n"
key_wanted thing.Lump = codes "wanted: lump = an array of tables, each headed by [[lump]]\n"
key_wanted thing.Premium = codes "wanted: premium = a table, headed by [premium]\n"
key_wanted other = []

-- what is found at the key, where that is nothing
unfoldable pub key_found : Members → Thing → List ℕ
key_found tree key = if is_absent (word_of key) tree then codes "found: no such key\n" else []

-- both lines of a key
unfoldable pub key_lines : Members → Thing → List ℕ
key_lines tree key = key_found tree key ++ key_wanted key
