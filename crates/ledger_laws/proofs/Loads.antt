-- How large the loads of payments are.
use Rattle.std.specs.Prelude.{◌≡◌, ℕ, suc, ◌+◌, ◌-◌, ◌*◌, ◌^◌, ◌<◌, ◌≤◌, ℤ, pos, negsuc, ◌-ℤ◌, ◌≤ℤ◌}
use Rattle.std.specs.Prelude.{unsigned_abs, All, List, [], ◌∷◌, map, slice_index, slice_index_or}
use Rattle.std.specs.Int.{div_ceil}
use Rattle.std.proofs.Common.{arith, ap}
use Rattle.std.proofs.lemmas.Int.{ints}
use Rattle.std.proofs.lemmas.List.Elements.{All-map, All-weaker}
use Rattle.std.proofs.Math.Nat.{pow-zero}
use mathlib.Core.Path.{ap₂}
use Rattle.whole_laws.specs.Whole.{greatest_whole, least_whole, greatest_natural, natural_part}
use Rattle.model_specs.specs.Product.{Step}
use Rattle.model_specs.specs.Payments.{constant_step, step_at}
use Rattle.model_specs.specs.MonthNumbers.{bernstein_numerator, bernstein_numerators}
use Rattle.model_specs.specs.Growth.{load}
use Rattle.model_specs.specs.RecordRules.{IsPayment, IsBoundedPayment, step_starts}
use Rattle.whole_laws.proofs.Extremes.{greatest_natural_most, greatest_whole_most, least_whole_least}
use Rattle.ledger_laws.proofs.HeldSteps.{no_step, step_at-has, start-is}
use Rattle.ledger_laws.proofs.Rounding.{div_ceil_most}

-- numbers within a bound make nine times it
abbrev pub load_of : List ℤ → ℕ
load_of b = div_ceil (greatest_natural (map unsigned_abs b) + 4 * natural_part (greatest_whole b -ℤ least_whole b))
    2488320

abs_below : (z : ℤ) (m : ℕ) → unsigned_abs z ≤ m → z ≤ℤ pos m
abs_below (pos n) m h = omega (arith, ints)
abs_below (negsuc n) m h = omega (arith, ints)

abs_above : (z : ℤ) (m : ℕ) → unsigned_abs z ≤ m → (pos 0 -ℤ pos m) ≤ℤ z
abs_above (pos n) m h = omega (arith, ints)
abs_above (negsuc n) m h = omega (arith, ints)

spread_most : (high low : ℤ) (m : ℕ) → high ≤ℤ pos m → (pos 0 -ℤ pos m) ≤ℤ low → natural_part (high -ℤ low) ≤ 2 * m
spread_most high low m h k = part (high -ℤ low) m (omega (arith, ints))
  where
    part : (z : ℤ) (m : ℕ) → z ≤ℤ pos (2 * m) → natural_part z ≤ 2 * m
    part (pos n) m h = omega (arith, ints)
    part (negsuc n) m h = omega arith

pub load_most : (b : List ℤ) (m : ℕ) → All (λ z. unsigned_abs z ≤ m * 2488320) b → load_of b ≤ 9 * m
load_most b m h = within (greatest_natural (map unsigned_abs b)) (natural_part (greatest_whole b -ℤ least_whole b)) m
    (greatest_natural_most (map unsigned_abs b) (m * 2488320)
    (All-map (λ n. n ≤ m * 2488320) unsigned_abs b h))
    (spread_most (greatest_whole b) (least_whole b) (m * 2488320)
    (greatest_whole_most b (pos (m * 2488320)) (omega (arith, ints))
    (All-weaker (λ z. unsigned_abs z ≤ m * 2488320) (λ z. z ≤ℤ pos (m * 2488320))
    (λ z within. abs_below z (m * 2488320) within) b h))
    (least_whole_least b (pos 0 -ℤ pos (m * 2488320)) (omega (arith, ints))
    (All-weaker (λ z. unsigned_abs z ≤ m * 2488320) (λ z. (pos 0 -ℤ pos (m * 2488320)) ≤ℤ z)
    (λ z within. abs_above z (m * 2488320) within) b h)))
  where
    within : (size spread m : ℕ) → size ≤ m * 2488320 → spread ≤ 2 * (m * 2488320)
        → div_ceil (size + 4 * spread) 2488320 ≤ 9 * m
    within size spread m h k = div_ceil_most (size + 4 * spread) 2488320 (9 * m) (omega arith) (omega (arith, h, k))

-- a constant payment of 0 and of 1
abbrev sixfold : ℤ → List ℤ
sixfold z = z ∷ z ∷ z ∷ z ∷ z ∷ z ∷ []

pub six_alike : (f : ℕ → ℤ) (z : ℤ) → f 0 ≡ z → f 1 ≡ z → f 2 ≡ z → f 3 ≡ z → f 4 ≡ z → f 5 ≡ z
    → f 0 ∷ f 1 ∷ f 2 ∷ f 3 ∷ f 4 ∷ f 5 ∷ [] ≡ sixfold z
six_alike f z a b c d e g = ap₂ (λ x xs. x ∷ xs) a (ap₂ (λ x xs. x ∷ xs) b (ap₂ (λ x xs. x ∷ xs) c
    (ap₂ (λ x xs. x ∷ xs) d (ap₂ (λ x xs. x ∷ xs) e (ap (λ x. x ∷ []) g)))))

abbrev constant : ℕ → List ℤ
constant a = pos a ∷ pos 0 ∷ pos 0 ∷ pos 0 ∷ []

pub constant_numerators : (a k : ℕ) → bernstein_numerators (constant a) k ≡ sixfold (pos (2488320 * a))
constant_numerators a k = six_alike (bernstein_numerator (constant a) k) (pos (2488320 * a))
    (rw (pow-zero k) (ap (λ n. pos n) (omega arith)))
    (rw (pow-zero k) (ap (λ n. pos n) (omega arith)))
    (rw (pow-zero k) (ap (λ n. pos n) (omega arith)))
    (rw (pow-zero k) (ap (λ n. pos n) (omega arith)))
    (rw (pow-zero k) (ap (λ n. pos n) (omega arith)))
    (rw (pow-zero k) (ap (λ n. pos n) (omega arith)))

pub load_zero : (from month : ℕ) → load (constant_step from (pos 0)) month ≡ 0
load_zero from month = ap load_of (constant_numerators 0 (month - from))

pub load_one : (from month : ℕ) → load (constant_step from (pos 1)) month ≡ 1
load_one from month = ap load_of (constant_numerators 1 (month - from))

-- the steps of a payment by rules 10 and 11
pub load_of_payment : (months month : ℕ) (steps : List Step) → month < months → IsPayment months steps
    → IsBoundedPayment months steps → load (step_at steps month) month ≤ 9 * 10 ^ 12
load_of_payment months month steps below payment bounded =
    step_at-has (λ s. load s month ≤ 9 * 10 ^ 12) months month steps below payment.starts
    (λ k inside from before. load_most
    (bernstein_numerators (slice_index_or steps k no_step).c (month - (slice_index_or steps k no_step).from))
    (10 ^ 12) ((bounded k inside).amounts (month - (slice_index_or steps k no_step).from)
    (held month (slice_index (step_starts steps) k) (slice_index_or steps k no_step).from
    (slice_index_or (step_starts steps) (suc k) months) (start-is steps k) from before)))
  where
    held : (month from start next : ℕ) → from ≡ start → from ≤ month → month < next → month - start < next - from
    held month from start next same h b = omega arith

pub load_of_none : (month : ℕ) → load (step_at [] month) month ≤ 9 * 10 ^ 12
load_of_none month = omega (arith, load_zero 0 month)
