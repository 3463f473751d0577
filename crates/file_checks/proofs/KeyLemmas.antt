-- The keys of the top table by their places.
use Rattle.std.proofs.Common.{◌≡◌, ℕ, ◌<◌, List, [], length, get_or, ap, sym, ◌∙◌}
use Rattle.std.proofs.lemmas.List.{get_or-map}
use Rattle.product_file.specs.Keys.{Text, optional, top_keys}
use Rattle.file_tree.specs.declared.keys.Key.{Key}
use Rattle.file_tree.specs.KeyTables.{key_of, keys_of}

-- a key of the program stands for the one at its place
pub key_at : (keys : List Key) (i : ℕ) (none : Key) → keys_of keys ≡ top_keys → i < length keys
    → key_of (get_or keys i none) ≡ get_or top_keys i (optional [] Text)
key_at keys i none same inside =
    sym (get_or-map key_of keys i none (optional [] Text) inside) ∙ ap (λ ks. get_or ks i (optional [] Text)) same
