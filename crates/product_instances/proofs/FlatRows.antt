-- Values and rows of states that are never left.
use Rattle.std.specs.Prelude.{◌≡◌, ℕ, zero, suc, ◌<◌, ◌≤◌, ◌^◌, ℤ, pos, ◌==◌, nat_le, false, [], refl}
use Rattle.std.proofs.Common.{ap, ◌∙◌, sym, arith, inl, inr, lit<, lit≤}
use Rattle.std.proofs.Math.Dec.{leb-zero}
use Rattle.std.proofs.lemmas.Bool.{false≢true}
use Rattle.std.proofs.lemmas.Bool.Decides.{eqb_tells, leb_tells}
use Rattle.frac_laws.specs.Fraction.{whole, opposite, ◌+ℚ◌, ◌-ℚ◌, ◌*ℚ◌, ◌≤ℚ◌, ◌<ℚ◌, is_not_negative}
use Rattle.frac_laws.proofs.FractionTerms.{ring, terms}
use Rattle.model_specs.specs.Product.{no_pattern}
use Rattle.model_specs.specs.Payments.{payment_plan, pattern_plan, constant_step, sojourn_at}
use Rattle.model_specs.specs.Runs.{benefits, pattern_value}
use Rattle.model_specs.specs.Rows.{IsBetween, IsPremium}
use Rattle.model_laws.proofs.FlatInstances.{lump_at_the_term}
use Rattle.model_laws.proofs.MomentInstances.{lump_has_no_variance}
use Rattle.product_instances.specs.FlatRows.{from_second, paid_by, ValueOfTheStart, PremiumHolds}
use Rattle.product_instances.specs.FlatRows.{HigherPremiumDoesNotHold, NoPremiumHolds, CertainRowsHold}
use Rattle.product_instances.proofs.FlatRooms.{month-adds, adds-up}

-- two numbers that are not one
other : (a b : ℕ) → (a ≡ b → ⊥) → (a == b) ≡ false
other a b differ = elim (eqb_tells a b) [
  | inl same ↦ absurd (differ same.1)
  | inr not_same ↦ not_same.0
]

-- from the second state: 24 a year for a month, and 9 at issue
second_amount : ℕ → ℤ
second_amount zero = pos 12
second_amount (suc zero) = pos 24
second_amount (suc (suc j)) = pos 0

second_steady : (month j : ℕ) → month < 1
    → sojourn_at (payment_plan from_second) j month ≡ constant_step 0 (second_amount j)
unfolding second_amount
second_steady zero zero b = refl
second_steady zero (suc zero) b = refl
second_steady zero (suc (suc j)) b =
    rw (other 0 (suc (suc j)) (λ e. omega (arith, e)), other 1 (suc (suc j)) (λ e. omega (arith, e))) refl
second_steady (suc month) j b = absurd (omega (arith, b))

pub value_of_the_start : ValueOfTheStart
unfolding second_amount
value_of_the_start n =
    ap (λ x. x +ℚ whole (pos 9)) (month-adds 1 1 from_second.sojourns from_second.lumps no_pattern
    (payment_plan from_second) second_amount second_steady 1 (lit< tt) n 0 (lit< tt))
    ∙ ring [] (hlevel terms) refl

-- 384 a year in the first state
first_amount : ℕ → ℤ
first_amount zero = pos 384
first_amount (suc j) = pos 0

first_steady : (payer month j : ℕ) → month < 12
    → sojourn_at (payment_plan (paid_by payer)) j month ≡ constant_step 0 (first_amount j)
unfolding first_amount
first_steady payer month zero b = rw (leb-zero month) refl
first_steady payer month (suc j) b = rw (other 0 (suc j) (λ e. omega (arith, e))) refl

benefits-is : (payer n : ℕ) → benefits (paid_by payer) (suc n) ≡ whole (pos 384)
unfolding first_amount
benefits-is payer n =
    ap (λ x. x +ℚ whole (pos 0)) (adds-up 0 12 (paid_by payer).sojourns [] (paid_by payer).pattern
    (payment_plan (paid_by payer)) first_amount (first_steady payer) 0 (lit< tt) (λ date. refl) n 12 (lit≤ tt))
    ∙ ring [] (hlevel terms) refl

-- a month of the term is before the pattern's end
before_end : (month : ℕ) → month < 12 → nat_le 12 month ≡ false
before_end month b = elim (leb_tells 12 month) [
  | inl after ↦ absurd (omega (arith, after.1, b))
  | inr before ↦ before.0
]

-- a premium of 1 a year in the first state, or in the second
first_pays : ℕ → ℤ
first_pays zero = pos 1
first_pays (suc j) = pos 0

first_pattern : (month j : ℕ) → month < 12
    → sojourn_at (pattern_plan (paid_by 0)) j month ≡ constant_step 0 (first_pays j)
unfolding first_pays
first_pattern month zero b = rw (leb-zero month, before_end month b) refl
first_pattern month (suc j) b = rw (other 0 (suc j) (λ e. omega (arith, e))) refl

pattern-is : (n : ℕ) → pattern_value (paid_by 0) (suc n) ≡ whole (pos 1)
unfolding first_pays
pattern-is n =
    ap (λ x. x +ℚ whole (pos 0)) (adds-up 0 12 (paid_by 0).sojourns [] (paid_by 0).pattern
    (pattern_plan (paid_by 0)) first_pays first_pattern 0 (lit< tt) (λ date. refl) n 12 (lit≤ tt))
    ∙ ring [] (hlevel terms) refl

second_pays : ℕ → ℤ
second_pays zero = pos 0
second_pays (suc zero) = pos 1
second_pays (suc (suc j)) = pos 0

second_pattern : (month j : ℕ) → month < 12
    → sojourn_at (pattern_plan (paid_by 1)) j month ≡ constant_step 0 (second_pays j)
unfolding second_pays
second_pattern month zero b = refl
second_pattern month (suc zero) b = rw (leb-zero month, before_end month b) refl
second_pattern month (suc (suc j)) b = rw (other 1 (suc (suc j)) (λ e. omega (arith, e))) refl

pattern-none : (n : ℕ) → pattern_value (paid_by 1) (suc n) ≡ whole (pos 0)
unfolding second_pays
pattern-none n =
    ap (λ x. x +ℚ whole (pos 0)) (adds-up 0 12 (paid_by 1).sojourns [] (paid_by 1).pattern
    (pattern_plan (paid_by 1)) second_pays second_pattern 0 (lit< tt) (λ date. refl) n 12 (lit≤ tt))
    ∙ ring [] (hlevel terms) refl

premium_384 : IsPremium (pos 384000000) (pos 384000000) (whole (pos 384)) (whole (pos 1))
unfolding ◌+ℚ◌ ◌*ℚ◌ ◌-ℚ◌ opposite is_not_negative
premium_384 = record {
  pays = record { lt = refl };
  at_least = record { le = refl };
  at_most = record { le = refl };
}

pub premium_holds : PremiumHolds
premium_holds zero least = absurd (omega arith)
premium_holds (suc n) least = rw (benefits-is 0 n, pattern-is n) premium_384

too_high : ¬ (whole (pos 384000001) *ℚ whole (pos 1) ≤ℚ whole (pos (10 ^ 6)) *ℚ whole (pos 384))
unfolding ◌+ℚ◌ ◌*ℚ◌ ◌-ℚ◌ opposite is_not_negative
too_high h = false≢true h.le

pub higher_premium_does_not_hold : HigherPremiumDoesNotHold
higher_premium_does_not_hold least holds =
    let says : IsPremium (pos 384000001) (pos 385000000) (benefits (paid_by 0) (suc least))
    (pattern_value (paid_by 0) (suc least)) = holds (suc least) (omega arith) in
    too_high (rw (benefits-is 0 least, pattern-is least) at says.at_least)

nothing_pays : ¬ (whole (pos 0) <ℚ whole (pos 0))
unfolding ◌+ℚ◌ ◌*ℚ◌ ◌-ℚ◌ opposite is_not_negative
nothing_pays h = false≢true (sym h.lt)

pub no_premium_holds : NoPremiumHolds
no_premium_holds lo hi least holds =
    let says : IsPremium lo hi (benefits (paid_by 1) (suc least)) (pattern_value (paid_by 1) (suc least)) =
    holds (suc least) (omega arith) in
    nothing_pays (rw (pattern-none least) at says.pays)

-- a certain lump
square_row : IsBetween (pos 10000) (pos 10000) 1 (whole (pos 10000))
unfolding ◌+ℚ◌ ◌*ℚ◌ ◌-ℚ◌ opposite is_not_negative
square_row = record { at_least = record { le = refl }; at_most = record { le = refl } }

zero_row : IsBetween (pos 0) (pos 0) 1 (whole (pos 0))
unfolding ◌+ℚ◌ ◌*ℚ◌ ◌-ℚ◌ opposite is_not_negative
zero_row = record { at_least = record { le = refl }; at_most = record { le = refl } }

hundred_row : IsBetween (pos 100000000) (pos 100000000) (10 ^ 6) (whole (pos 100))
unfolding ◌+ℚ◌ ◌*ℚ◌ ◌-ℚ◌ opposite is_not_negative
hundred_row = record { at_least = record { le = refl }; at_most = record { le = refl } }

-- from degree 1 on
from_one : (P : ℕ → Type 0) → ((n : ℕ) → P (suc n)) → (n : ℕ) → 1 ≤ n → P n
from_one P holds zero above = absurd (omega (arith, above))
from_one P holds (suc n) above = holds n

pub certain_rows_hold : CertainRowsHold
certain_rows_hold = (
  from_one _ (λ n. rw (lump_has_no_variance n).0 square_row),
  from_one _ (λ n. rw (lump_has_no_variance n).1 zero_row),
  from_one _ (λ n. rw (lump_at_the_term n).1 hundred_row),
  from_one _ (λ n. rw (lump_at_the_term n).1 hundred_row),
)
