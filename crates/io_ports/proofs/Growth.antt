-- How told bytes grow by one piece of a text after the other.
use Rattle.std.proofs.Common.{ℕ, ◌+◌, List, take, drop, Option}
use Rattle.std.proofs.Math.Seq.{take-add}
use Rattle.std.proofs.KnownBytes.{Appends-trans}
use Rattle.std.specs.Io.KnownBytes.{Appends}

-- the text up to a piece, and the piece, are the text up to the piece's end
pub Appends-take-add : (a b c : Option (List ℕ)) (text : List ℕ) (at size : ℕ) → Appends a b (take at text)
    → Appends b c (take size (drop at text)) → Appends a c (take (at + size) text)
Appends-take-add a b c text at size before piece =
    rw (take-add at size text)
    (Appends-trans a b c (take at text) (take size (drop at text)) before piece)
