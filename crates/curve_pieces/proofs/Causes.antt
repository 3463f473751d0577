-- The first broken place is one place.
use Rattle.std.proofs.Common.{◌≡◌, ℕ, arith, subst, inl, inr}
use Rattle.curve_pieces.specs.BrokenRules.{IsFirstBroken}
use Rattle.std.proofs.lemmas.Bool.{cases_lt}

pub first_broken_is_one : (Holds : ℕ → Type 0) (i j : ℕ) → IsFirstBroken Holds i → IsFirstBroken Holds j → i ≡ j
first_broken_is_one Holds i j a b =
    elim (cases_lt i j) [
      | inl below ↦ absurd (a.broken (b.before i below))
      | inr above ↦ elim (cases_lt j i) [
        | inl below ↦ absurd (b.broken (a.before j below))
        | inr upto ↦ omega arith
      ]
    ]

-- a cause and its place, where another fact holds beside it
pub cause_at : (Holds : ℕ → Type 0) (Beside : Type 0) (i j : ℕ) → Beside → IsFirstBroken Holds i
    → i ≡ j → Beside × IsFirstBroken Holds j
cause_at Holds Beside i j beside first same = (beside, subst (IsFirstBroken Holds) same first)
