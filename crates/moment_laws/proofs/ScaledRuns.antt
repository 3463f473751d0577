-- A scale goes through the Taylor values of a system and of a pair.
use Rattle.std.specs.Prelude.{◌≡◌, ℕ, zero, suc, pos, map, List, [], ◌∷◌}
use Rattle.std.proofs.Common.{refl, ap, ◌∙◌}
use mathlib.Core.Path.{ap₂}
use Rattle.frac_laws.specs.Fraction.{Fraction, over, ◌*ℚ◌}
use Rattle.frac_laws.specs.Lists.{Vector, Matrix, vector_at, add_lists, scale_list, sum_of_vectors, dot, image}
use Rattle.frac_laws.specs.Lists.{scale_matrix}
use Rattle.frac_laws.proofs.FractionTerms.{ring, terms}
use Rattle.frac_laws.proofs.Vectors.{dot-scale_left, dot-scale_right}
use Rattle.cell_laws.specs.Systems.{sum_of_images, run, coefficients}
use Rattle.cell_laws.specs.Pairs.{CoupledPair, received}
use Rattle.cell_bounds.specs.ScaledSystems.{scaled_pair}
use Rattle.moment_laws.specs.CellRuns.{TaylorValuesScale, SecondTaylorValuesScale}
use Rattle.whole_laws.proofs.Members.{at-map}

pub scale-add : (c : Fraction) (u v : Vector)
    → add_lists (scale_list c u) (scale_list c v) ≡ scale_list c (add_lists u v)
scale-add c [] v = refl
scale-add c (x ∷ u) [] = refl
scale-add c (x ∷ u) (y ∷ v) =
    ap₂ (λ z zs. z ∷ zs) (ring (c ∷ x ∷ y ∷ []) (hlevel terms) refl) (scale-add c u v)

scale-scale : (c d : Fraction) (v : Vector) → scale_list c (scale_list d v) ≡ scale_list (c *ℚ d) v
scale-scale c d [] = refl
scale-scale c d (x ∷ v) = ap₂ (λ z zs. z ∷ zs) (ring (c ∷ d ∷ x ∷ []) (hlevel terms) refl) (scale-scale c d v)

scale-swap : (c d : Fraction) (v : Vector) → scale_list c (scale_list d v) ≡ scale_list d (scale_list c v)
scale-swap c d [] = refl
scale-swap c d (x ∷ v) = ap₂ (λ z zs. z ∷ zs) (ring (c ∷ d ∷ x ∷ []) (hlevel terms) refl) (scale-swap c d v)

image-scaled : (c : Fraction) (a : Matrix) (v : Vector) → image a (scale_list c v) ≡ scale_list c (image a v)
image-scaled c [] v = refl
image-scaled c (row ∷ a) v = ap₂ (λ z zs. z ∷ zs) (dot-scale_right c row v) (image-scaled c a v)

image-both : (c : Fraction) (a : Matrix) (v : Vector)
    → image (scale_matrix c a) (scale_list c v) ≡ scale_list (c *ℚ c) (image a v)
image-both c [] v = refl
image-both c (row ∷ a) v =
    ap₂ (λ z zs. z ∷ zs) (dot-scale_left c row (scale_list c v) ∙ ap (λ z. c *ℚ z) (dot-scale_right c row v)
    ∙ ring (c ∷ dot row v ∷ []) (hlevel terms) refl) (image-both c a v)

images-scaled : (c : Fraction) (matrices : List Matrix) (vs : List Vector)
    → sum_of_images matrices (map (scale_list c) vs) ≡ scale_list c (sum_of_images matrices vs)
images-scaled c [] vs = refl
images-scaled c (a ∷ matrices) [] = refl
images-scaled c (a ∷ matrices) (v ∷ vs) =
    ap₂ add_lists (image-scaled c a v) (images-scaled c matrices vs)
    ∙ scale-add c (image a v) (sum_of_images matrices vs)

images-both : (c : Fraction) (matrices : List Matrix) (vs : List Vector)
    → sum_of_images (map (scale_matrix c) matrices) (map (scale_list c) vs)
    ≡ scale_list (c *ℚ c) (sum_of_images matrices vs)
images-both c [] vs = refl
images-both c (a ∷ matrices) [] = refl
images-both c (a ∷ matrices) (v ∷ vs) =
    ap₂ add_lists (image-both c a v) (images-both c matrices vs)
    ∙ scale-add (c *ℚ c) (image a v) (sum_of_images matrices vs)

sum-scaled : (c : Fraction) (vs : List Vector) → sum_of_vectors (map (scale_list c) vs)
    ≡ scale_list c (sum_of_vectors vs)
sum-scaled c [] = refl
sum-scaled c (v ∷ vs) =
    ap (add_lists (scale_list c v)) (sum-scaled c vs) ∙ scale-add c v (sum_of_vectors vs)

-- a run with scaled right sides from a scaled start
run-scaled : (c : Fraction) (matrices : List Matrix) (f g : ℕ → Vector) (y : Vector) (n : ℕ)
    → ((k : ℕ) → g k ≡ scale_list c (f k))
    → run matrices g (scale_list c y) n ≡ map (scale_list c) (run matrices f y n)
run-scaled c matrices f g y zero h = refl
run-scaled c matrices f g y (suc k) h =
    let r = over (pos 1) (suc k) in
    ap₂ (λ vs v. scale_list r (add_lists (sum_of_images matrices vs) v) ∷ vs) (run-scaled c matrices f g y k h) (h k)
    ∙ ap (λ v. scale_list r v ∷ map (scale_list c) (run matrices f y k))
    (ap (λ u. add_lists u (scale_list c (f k))) (images-scaled c matrices (run matrices f y k))
    ∙ scale-add c (sum_of_images matrices (run matrices f y k)) (f k))
    ∙ ap (λ v. v ∷ map (scale_list c) (run matrices f y k))
    (scale-swap r c (add_lists (sum_of_images matrices (run matrices f y k)) (f k)))

pub free-scaled : (c : Fraction) (vs : List Vector) (k : ℕ)
    → vector_at (map (scale_list c) vs) k ≡ scale_list c (vector_at vs k)
free-scaled c vs k = at-map (scale_list c) vs k []

pub taylor_values_scale : TaylorValuesScale
taylor_values_scale c s y n =
    ap sum_of_vectors (run-scaled c s.matrices (vector_at s.free) (vector_at (map (scale_list c) s.free)) y n
    (free-scaled c s.free))
    ∙ sum-scaled c (coefficients s y n)

received-scaled : (c : Fraction) (p : CoupledPair) (w : Vector) (k : ℕ)
    → received (scaled_pair c p) (scale_list c w) k ≡ scale_list (c *ℚ c) (received p w k)
received-scaled c p w k =
    ap₂ add_lists
    (ap (sum_of_images (map (scale_matrix c) p.coupling)) (run-scaled c p.first.matrices (vector_at p.first.free)
    (vector_at (map (scale_list c) p.first.free)) w k (free-scaled c p.first.free))
    ∙ images-both c p.coupling (coefficients p.first w k))
    (free-scaled (c *ℚ c) p.second.free k)
    ∙ scale-add (c *ℚ c) (sum_of_images p.coupling (coefficients p.first w k)) (vector_at p.second.free k)

pub second_taylor_values_scale : SecondTaylorValuesScale
second_taylor_values_scale c p w z n =
    ap sum_of_vectors (run-scaled (c *ℚ c) p.second.matrices (received p w)
    (received (scaled_pair c p) (scale_list c w)) z n (received-scaled c p w))
    ∙ sum-scaled (c *ℚ c) (run p.second.matrices (received p w) z n)
