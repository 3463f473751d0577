-- The coefficients of tame systems and pairs decay, and what follows power 24 is below a unit of 2^-64.
use Rattle.std.specs.Prelude.{ℕ, pos, ◌+◌, ◌*◌, ◌^◌}
use Rattle.frac_laws.specs.Fraction.{Fraction, over, whole, ◌≤ℚ◌}
use Rattle.frac_laws.specs.Sums.{sum_to}
use Rattle.frac_laws.specs.Lists.{Vector}
use Rattle.frac_laws.specs.Norms.{Norm, Sup, norm_of_vector}
use Rattle.cell_laws.specs.Systems.{System, coefficient}
use Rattle.cell_laws.specs.Pairs.{CoupledPair, second_coefficient}
use Rattle.cell_laws.specs.Tame.{weighted, IsTame, IsTamePair}

-- the norm of each vector of a sequence
abbrev pub norms : Norm → (ℕ → Vector) → ℕ → Fraction
norms norm y k = norm_of_vector norm (y k)

-- 8^k |y_k| is at most the bound for every k
abbrev pub DecaysBelow : Norm → Fraction → (ℕ → Vector) → Type 0
DecaysBelow norm bound y = (k : ℕ) → weighted (norms norm y) k ≤ℚ bound

-- one of some parts of a unit of 2^-64
abbrev pub unit_part : ℕ → Fraction
unit_part parts = over (pos 1) (parts * 2 ^ 64)

-- |y_25| + |y_26| + .. is at most one of some parts of a unit, however many terms are added
abbrev pub HasTailBelow : Norm → ℕ → (ℕ → Vector) → Type 0
HasTailBelow norm parts y =
    (terms : ℕ) → sum_to terms (λ i. norm_of_vector norm (y (25 + i))) ≤ℚ unit_part parts

-- from a start of norm at most 2 the coefficients of a tame system decay below 2
abbrev pub CoefficientsDecay : Type 0
CoefficientsDecay = (norm : Norm) (kappa40 : ℕ) (s : System) (y : Vector) → IsTame norm kappa40 s
    → norm_of_vector norm y ≤ℚ whole (pos 2) → DecaysBelow norm (whole (pos 2)) (coefficient s y)

-- and those past power 24 add up to at most 1/896 of a unit
abbrev pub TailsAreBelowAUnit : Type 0
TailsAreBelowAUnit = (norm : Norm) (kappa40 : ℕ) (s : System) (y : Vector) → IsTame norm kappa40 s
    → norm_of_vector norm y ≤ℚ whole (pos 2) → HasTailBelow norm 896 (coefficient s y)

-- from a stored start, which may be of norm up to 17/8, they decay below 17/8
abbrev pub StoredCoefficientsDecay : Type 0
StoredCoefficientsDecay = (norm : Norm) (kappa40 : ℕ) (s : System) (y : Vector) → IsTame norm kappa40 s
    → norm_of_vector norm y ≤ℚ over (pos 17) 8 → DecaysBelow norm (over (pos 17) 8) (coefficient s y)

-- and those past power 24 add up to at most 1/400 of a unit
abbrev pub StoredTailsAreBelowAUnit : Type 0
StoredTailsAreBelowAUnit = (norm : Norm) (kappa40 : ℕ) (s : System) (y : Vector) → IsTame norm kappa40 s
    → norm_of_vector norm y ≤ℚ over (pos 17) 8 → HasTailBelow norm 400 (coefficient s y)

-- the starts w and z of the two halves of a pair both have at most a norm
abbrev pub StartsWithin : Fraction → Vector → Vector → Type 0
StartsWithin start w z = (norm_of_vector Sup w ≤ℚ start) × (norm_of_vector Sup z ≤ℚ start)

-- from starts of norm at most 1 the coefficients of a tame pair's first half decay below 3/2
abbrev pub FirstHalvesDecay : Type 0
FirstHalvesDecay = (kappa40 : ℕ) (c : Fraction) (p : CoupledPair) (w z : Vector) → IsTamePair kappa40 c p
    → StartsWithin (whole (pos 1)) w z → DecaysBelow Sup (over (pos 3) 2) (coefficient p.first w)

-- those of its second half decay below 2
abbrev pub SecondHalvesDecay : Type 0
SecondHalvesDecay = (kappa40 : ℕ) (c : Fraction) (p : CoupledPair) (w z : Vector) → IsTamePair kappa40 c p
    → StartsWithin (whole (pos 1)) w z → DecaysBelow Sup (whole (pos 2)) (second_coefficient p w z)

-- and the second half's past power 24 add up to at most 1/896 of a unit
abbrev pub SecondTailsAreBelowAUnit : Type 0
SecondTailsAreBelowAUnit =
    (kappa40 : ℕ) (c : Fraction) (p : CoupledPair) (w z : Vector) → IsTamePair kappa40 c p
    → StartsWithin (whole (pos 1)) w z → HasTailBelow Sup 896 (second_coefficient p w z)

-- from stored starts, which may be of norm up to 17/16, those of the first half decay below 49/32
abbrev pub StoredFirstHalvesDecay : Type 0
StoredFirstHalvesDecay =
    (kappa40 : ℕ) (c : Fraction) (p : CoupledPair) (w z : Vector) → IsTamePair kappa40 c p
    → StartsWithin (over (pos 17) 16) w z → DecaysBelow Sup (over (pos 49) 32) (coefficient p.first w)

-- those of the second half decay below 17/8
abbrev pub StoredSecondHalvesDecay : Type 0
StoredSecondHalvesDecay =
    (kappa40 : ℕ) (c : Fraction) (p : CoupledPair) (w z : Vector) → IsTamePair kappa40 c p
    → StartsWithin (over (pos 17) 16) w z → DecaysBelow Sup (over (pos 17) 8) (second_coefficient p w z)

-- and the second half's past power 24 add up to at most 1/400 of a unit
abbrev pub StoredSecondTailsAreBelowAUnit : Type 0
StoredSecondTailsAreBelowAUnit =
    (kappa40 : ℕ) (c : Fraction) (p : CoupledPair) (w z : Vector) → IsTamePair kappa40 c p
    → StartsWithin (over (pos 17) 16) w z → HasTailBelow Sup 400 (second_coefficient p w z)
