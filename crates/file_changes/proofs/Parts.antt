-- The parts of a change, and the first one that is broken.
use Rattle.std.proofs.Common.{◌≡◌, ℕ, zero, suc, ◌^◌, ◌<◌, ◌≤◌, ℤ, pos, ◌*ℤ◌, List, [], ◌∷◌, map, ap, ◌∙◌, arith, refl}
use Rattle.std.specs.Prelude.{Bool, true, false, if◌then◌else◌}
use Rattle.named_numbers.specs.Numbers.{most_denominator}
use Rattle.model_specs.specs.Curve.{Piece}
use Rattle.model_specs.specs.Product.{Product, Transition}
use Rattle.curve_pieces.specs.BrokenRules.{IsFirstBroken}
use Rattle.file_changes.specs.Asks.{BasisAsks}
use Rattle.file_changes.specs.BasisChanges.{finer, leads, changed_pieces, changed_rate, with_finer_basis}
use Rattle.file_changes.specs.BasisChanges.{shifted, multiplied}
use Rattle.file_changes.proofs.Words.{zero_times}

-- part 1 is the first, part 2 where part 1 holds, and part 3 where both do
pub first_is_1 : (den : ℕ) (Curves Transition : Type 0) → most_denominator < den
    → IsFirstBroken (BasisAsks den Curves Transition) 1
first_is_1 den Curves Transition large = record {
  broken = λ small. absurd (omega (arith, small, large));
  before = before;
}
  where
    before : (i : ℕ) → i < 1 → BasisAsks den Curves Transition i
    before zero low = tt
    before (suc i) low = absurd (omega (arith, low))

pub first_is_2 : (den : ℕ) (Curves Transition : Type 0) → den ≤ most_denominator → ¬ Curves
    → IsFirstBroken (BasisAsks den Curves Transition) 2
first_is_2 den Curves Transition small wide = record { broken = wide; before = before }
  where
    before : (i : ℕ) → i < 2 → BasisAsks den Curves Transition i
    before zero low = tt
    before (suc zero) low = small
    before (suc (suc i)) low = absurd (omega (arith, low))

pub first_is_3 : (den : ℕ) (Curves Transition : Type 0) → den ≤ most_denominator → Curves → ¬ Transition
    → IsFirstBroken (BasisAsks den Curves Transition) 3
first_is_3 den Curves Transition small curves none = record { broken = none; before = before }
  where
    before : (i : ℕ) → i < 3 → BasisAsks den Curves Transition i
    before zero low = tt
    before (suc zero) low = small
    before (suc (suc zero)) low = curves
    before (suc (suc (suc i))) low = absurd (omega (arith, low))

-- all parts hold where these three do
pub all_hold : (den : ℕ) (Curves Transition : Type 0) → den ≤ most_denominator → Curves → Transition
    → (part : ℕ) → BasisAsks den Curves Transition part
all_hold den Curves Transition small curves some zero = tt
all_hold den Curves Transition small curves some (suc zero) = small
all_hold den Curves Transition small curves some (suc (suc zero)) = curves
all_hold den Curves Transition small curves some (suc (suc (suc zero))) = some
all_hold den Curves Transition small curves some (suc (suc (suc (suc part)))) = tt

-- one factor for all intensities
either_way : {A : Type 0} (test : Bool) (x : A) → (if test then x else x) ≡ x
either_way true x = refl
either_way false x = refl

-- a transition with another intensity
abbrev with_rate : (Transition → List Piece) → Transition → Transition
with_rate rate t = record { from = t.from; to = t.to; rate = rate t; sum = t.sum }

same_rates : (f g : Transition → List Piece) → ((t : Transition) → f t ≡ g t) → (ts : List Transition)
    → map (with_rate f) ts ≡ map (with_rate g) ts
same_rates f g same [] = refl
same_rates f g same (t ∷ ts) =
    ap (λ rate. record { from = t.from; to = t.to; rate = rate; sum = t.sum } ∷ map (with_rate f) ts) (same t)
    ∙ ap (λ us. with_rate g t ∷ us) (same_rates f g same ts)

pub shifted_is : (units : ℤ) (places : ℕ) (p : Product) (from to : List ℕ)
    → with_finer_basis places (units *ℤ pos p.den) from to (pos (10 ^ places)) p ≡ shifted units places p
shifted_is units places p from to = ap (λ ts. record {
  name = p.name;
  states = p.states;
  start = p.start;
  months = p.months;
  den = finer places p;
  interest = changed_pieces (pos (10 ^ places)) (units *ℤ pos p.den) p.interest;
  transitions = ts;
  sojourns = p.sojourns;
  lumps = p.lumps;
  pattern = p.pattern;
}) (same_rates (changed_rate p from to (pos (10 ^ places)) (pos (10 ^ places)))
    (λ t. changed_pieces (pos (10 ^ places)) (pos 0) t.rate)
    (λ t. ap (λ factor. changed_pieces factor (pos 0) t.rate) (either_way (leads p from to t) (pos (10 ^ places))))
    p.transitions)

-- nothing is added to the force of interest
pub multiplied_is : (from to : List ℕ) (units : ℤ) (places : ℕ) (p : Product)
    → with_finer_basis places (pos 0 *ℤ pos p.den) from to units p ≡ multiplied from to units places p
multiplied_is from to units places p =
    ap (λ more. with_finer_basis places more from to units p) (zero_times (pos p.den))
