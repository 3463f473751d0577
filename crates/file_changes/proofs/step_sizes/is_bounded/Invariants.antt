use Rattle.std.proofs.Common.{◌≡◌, ℕ, ◌*◌, ◌^◌, ◌<◌, nat_le, true, pos, get_or}
use Rattle.std.specs.Prelude.{unsigned_abs}
use Rattle.named_numbers.specs.Numbers.{most_coefficient}
use Rattle.file_changes.proofs.step_sizes.is_bounded.Given as goal

-- the power of the months, and the coefficients so far
abbrev pub invariant-loop-number : goal.invariant-loop-number
invariant-loop-number l =
    (l.power ≡ l.months ^ l.number-index)
    × ((i : ℕ) → i < l.number-index
    → nat_le (unsigned_abs (get_or l.c i (pos 0)) * l.months ^ i) most_coefficient ≡ true)
