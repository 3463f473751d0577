-- The lengths of sums, multiples and images of vectors.
use Rattle.std.specs.Prelude.{◌≡◌, ℕ, suc, zero, negsuc, [], ◌∷◌, length, ◌≤◌, pos, ◌-◌, ℤ, List}
use Rattle.std.proofs.Common.{refl, ap, arith}
use Rattle.std.proofs.lemmas.List.{get_or_past}
use Rattle.frac_laws.specs.Fraction.{Fraction, whole}
use Rattle.frac_laws.specs.Lists.{Vector, Matrix, add_lists, scale_list, subtract_lists, image, number_at}
use Rattle.frac_laws.specs.Lists.{scale_matrix, add_matrices}
use Rattle.frac_laws.specs.Polynomials.{all_over}

pub length-scale_list : (c : Fraction) (v : Vector) → length (scale_list c v) ≡ length v
length-scale_list c [] = refl
length-scale_list c (x ∷ v) = ap suc (length-scale_list c v)

pub length-image : (a : Matrix) (v : Vector) → length (image a v) ≡ length a
length-image [] v = refl
length-image (row ∷ a) v = ap suc (length-image a v)

-- a sum is no longer than the longer part
pub add_lists_fits : (d : ℕ) (u v : Vector) → length u ≤ d → length v ≤ d → length (add_lists u v) ≤ d
add_lists_fits d [] v h k = k
add_lists_fits d (x ∷ u) [] h k = h
add_lists_fits zero (x ∷ u) (y ∷ v) h k = absurd (omega arith)
add_lists_fits (suc d) (x ∷ u) (y ∷ v) h k =
    let e : length (add_lists u v) ≤ d = add_lists_fits d u v (omega arith) (omega arith) in omega arith

pub scale_list_fits : (d : ℕ) (c : Fraction) (v : Vector) → length v ≤ d → length (scale_list c v) ≤ d
scale_list_fits d c v h = rw (length-scale_list c v) h

pub subtract_lists_fits : (d : ℕ) (u v : Vector) → length u ≤ d → length v ≤ d
    → length (subtract_lists u v) ≤ d
subtract_lists_fits d u v h k =
    add_lists_fits d u (scale_list (whole (negsuc 0)) v) h (scale_list_fits d (whole (negsuc 0)) v k)

pub image_fits : (d : ℕ) (a : Matrix) (v : Vector) → length a ≤ d → length (image a v) ≤ d
image_fits d a v h = rw (length-image a v) h

-- nothing stands past the end
pub number_at-past : (v : Vector) (d m : ℕ) → length v ≤ d → d ≤ m → number_at v m ≡ whole (pos 0)
number_at-past v d m short past = get_or_past v m (whole (pos 0)) (omega arith)

-- lengths of made lists
pub length-all_over : (den : ℕ) (c : List ℤ) → length (all_over den c) ≡ length c
length-all_over den [] = refl
length-all_over den (x ∷ c) = ap (λ n. suc n) (length-all_over den c)

pub length-scale_matrix : (c : Fraction) (a : Matrix) → length (scale_matrix c a) ≡ length a
length-scale_matrix c [] = refl
length-scale_matrix c (row ∷ a) = ap suc (length-scale_matrix c a)

pub add_matrices_fits : (d : ℕ) (a b : Matrix) → length a ≤ d → length b ≤ d → length (add_matrices a b) ≤ d
add_matrices_fits d [] b h k = k
add_matrices_fits d (row ∷ a) [] h k = h
add_matrices_fits zero (row ∷ a) (other ∷ b) h k = absurd (omega arith)
add_matrices_fits (suc d) (row ∷ a) (other ∷ b) h k =
    let e : length (add_matrices a b) ≤ d = add_matrices_fits d a b (omega arith) (omega arith) in
    omega arith
