-- Sequences of vectors that obey the recurrence of a list of matrices up to some power, with any right sides:
-- runs, runs that are cut, and what two runs differ by.
use Rattle.std.specs.Prelude.{◌≡◌, ℕ, suc, pos, List, ◌<◌, ◌≤◌}
use Rattle.frac_laws.specs.Fraction.{Fraction, over, whole, ◌+ℚ◌, ◌*ℚ◌, ◌≤ℚ◌}
use Rattle.frac_laws.specs.Sums.{sum_to}
use Rattle.frac_laws.specs.Convolution.{convolution}
use Rattle.frac_laws.specs.Lists.{Vector, Matrix, number_at}
use Rattle.frac_laws.specs.Norms.{Norm, Sup}
use Rattle.cell_laws.specs.Systems.{System}
use Rattle.cell_laws.specs.Pairs.{CoupledPair}
use Rattle.cell_laws.specs.Tame.{matrix_norm_at, vector_norm_at, weighted, IsTame, IsTamePair}
use Rattle.cell_laws.specs.Driven.{IsNatural, IsDriven}
use Rattle.cell_laws.specs.Recurrence.{convolved}
use Rattle.cell_laws.specs.DecayLaws.{norms}

-- (k + 1) x_(k+1) = A_0 x_k + .. + A_k x_0 + r_k for each k below n, number by number
abbrev pub Solves : ℕ → List Matrix → (ℕ → Vector) → (ℕ → Vector) → Type 0
Solves n matrices r x = (k i : ℕ) → k < n →
    whole (pos (suc k)) *ℚ number_at (x (suc k)) i ≡ convolved matrices x k i +ℚ number_at (r k) i

-- the norms of such a sequence are driven by the norms of the matrices and of the right sides
abbrev pub SolutionsAreDriven : Type 0
SolutionsAreDriven =
    (norm : Norm) (n : ℕ) (matrices : List Matrix) (r x : ℕ → Vector) → Solves n matrices r x
    → IsDriven n (matrix_norm_at norm matrices) (norms norm r) (norms norm x)

-- where the factors add up to at most 1/64, 63 (v_0 + .. + v_n) is at most 64 times v_0 and all right sides
abbrev pub DefectsRespond : Type 0
DefectsRespond =
    (n : ℕ) (a r v : ℕ → Fraction) → IsDriven n a r v → IsNatural r → sum_to n a ≤ℚ over (pos 1) 64
    → whole (pos 63) *ℚ sum_to (suc n) v ≤ℚ whole (pos 64) *ℚ (v 0 +ℚ sum_to n r)

-- 8^j v_j is at most 2 up to k
abbrev pub IsHeldTo : ℕ → (ℕ → Fraction) → Type 0
IsHeldTo k v = (j : ℕ) → j ≤ k → weighted v j ≤ℚ whole (pos 2)

-- the right side of a system's recurrence in the norms, at power k
abbrev pub right_side : Norm → System → (ℕ → Fraction) → ℕ → Fraction
right_side norm s v k = convolution (matrix_norm_at norm s.matrices) v k +ℚ vector_norm_at norm s.free k

-- and that of a pair's second half, where v are the norms of the first half and u of the second
abbrev pub second_right_side : CoupledPair → (ℕ → Fraction) → (ℕ → Fraction) → ℕ → Fraction
second_right_side p v u k = convolution (matrix_norm_at Sup p.second.matrices) u k
    +ℚ convolution (matrix_norm_at Sup p.coupling) v k +ℚ vector_norm_at Sup p.second.free k

-- then 8^k times the right side of a tame system is at most 1/4
abbrev pub TameRightSidesAreSmall : Type 0
TameRightSidesAreSmall = (norm : Norm) (kappa40 : ℕ) (s : System) (v : ℕ → Fraction) (k : ℕ)
    → IsTame norm kappa40 s → IsHeldTo k v
    → weighted (right_side norm s v) k ≤ℚ over (pos 1) 4

-- without free vectors it is at most 1/8
abbrev pub HomogeneousRightSidesAreSmall : Type 0
HomogeneousRightSidesAreSmall = (norm : Norm) (kappa40 : ℕ) (s : System) (v : ℕ → Fraction) (k : ℕ)
    → IsTame norm kappa40 s → IsHeldTo k v
    → weighted (convolution (matrix_norm_at norm s.matrices) v) k ≤ℚ over (pos 1) 8

-- of a tame pair's second half it is at most 15/32
abbrev pub SecondRightSidesAreSmall : Type 0
SecondRightSidesAreSmall =
    (kappa40 : ℕ) (c : Fraction) (p : CoupledPair) (v u : ℕ → Fraction) (k : ℕ) → IsTamePair kappa40 c p
    → IsHeldTo k v → IsHeldTo k u
    → weighted (second_right_side p v u) k ≤ℚ over (pos 15) 32
