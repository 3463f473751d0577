use Rattle.std.proofs.Common.{◌<◌, ◌⊎◌, inl, inr, length, arith}
use Rattle.std.proofs.lemmas.List.{length-map}
use Rattle.std.specs.Prelude.{string_bytes}
use Rattle.command_words.specs.Readings.{words_of}
use Rattle.command_words.proofs.Readings.{has_words}
use Rattle.command_words.proofs.words.command_in.Goals as goal

pub returns-in_default-clause-none : goal.returns-in_default-clause-none
returns-in_default-clause-none c =
    let outside : (length c.args.line.now < 1) ⊎ (5 < length c.args.line.now) =
    elim c.in_default.branch [
      | goal.in_default-via-then-line-lt1 w ↦ inl (grind arith)
      | goal.in_default-via-else-line-lt1+else-line-lt2+else-line-lt3+else-line-lt4+else-line-lt5+else-line-lt6 w ↦
          inr (grind arith)
    ] in
    λ read.
    let count = has_words (words_of c.args.line.now) read.0 read.1 in
    let same = length-map c.args.line.now string_bytes in
    elim outside [ inl few ↦ omega (arith, count.0, same, few) | inr many ↦ omega (arith, count.1, same, many) ]
