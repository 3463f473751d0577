-- The coefficients over a part, power by power.
use Rattle.std.proofs.Common.{◌≡◌, ℕ, zero, suc, pos, ◌+◌, ◌*◌, ◌^◌, ◌≤◌, [], ◌∷◌, refl, ap, sym, subst, ◌∙◌, arith}
use Rattle.frac_laws.specs.Fraction.{Fraction, whole, size, ◌+ℚ◌, ◌-ℚ◌, ◌*ℚ◌, ◌≤ℚ◌}
use Rattle.frac_laws.specs.Sums.{power}
use Rattle.frac_laws.specs.Lists.{scale_list, number_at}
use Rattle.frac_laws.specs.Bernstein.{binomial}
use Rattle.frac_laws.proofs.FractionTerms.{ring, terms}
use Rattle.frac_laws.proofs.Linear.{linear, claims, natural, ◌⊞◌, ◌⊠◌}
use Rattle.frac_laws.proofs.Sizes.{size_add, size_sub, size_mul, size_natural, size_le_of_between}
use Rattle.frac_laws.proofs.Sizes.{le_of_size_le, opposite_le_of_size_le}
use Rattle.frac_laws.proofs.Norms.{size_zero}
use Rattle.frac_laws.proofs.Signs.{signs}
use Rattle.std.proofs.Math.Nat.{pow-suc}
use Rattle.std.proofs.Math.IntN.{pos-*ℤ-pos}
use Rattle.frac_laws.proofs.Order.{le_trans, add_mono, mul_mono, le_of_equal}
use Rattle.frac_laws.proofs.Quotients.{whole_add, whole_mul}
use Rattle.frac_laws.proofs.Vectors.{number_at-add_lists, number_at-scale_list}
use Rattle.curve_laws.specs.PartLaws.{coefficient_bound}
use Rattle.curve_laws.proofs.ControlLists.{differences, mixed, part_form}

-- a number between two numbers keeps their bounds
pub mixed_le : {x y m : Fraction} (s : Fraction) → whole (pos 0) ≤ℚ s → s ≤ℚ whole (pos 1) → x ≤ℚ m → y ≤ℚ m
    → x +ℚ s *ℚ (y -ℚ x) ≤ℚ m
mixed_le {x} {y} {m} s low high h k =
    linear (x ∷ y ∷ m ∷ s ∷ []) (high ⊠ h ⊞ low ⊠ k) (hlevel claims) refl

pub le_mixed : {x y m : Fraction} (s : Fraction) → whole (pos 0) ≤ℚ s → s ≤ℚ whole (pos 1) → m ≤ℚ x → m ≤ℚ y
    → m ≤ℚ x +ℚ s *ℚ (y -ℚ x)
le_mixed {x} {y} {m} s low high h k =
    linear (x ∷ y ∷ m ∷ s ∷ []) (high ⊠ h ⊞ low ⊠ k) (hlevel claims) refl

mixed_size : (x y m s : Fraction) → whole (pos 0) ≤ℚ s → s ≤ℚ whole (pos 1) → size x ≤ℚ m → size y ≤ℚ m
    → size (x +ℚ s *ℚ (y -ℚ x)) ≤ℚ m
mixed_size x y m s low high h k =
    size_le_of_between
    (le_mixed {x = x} {y = y} s low high (opposite_le_of_size_le h) (opposite_le_of_size_le k))
    (mixed_le {x = x} {y = y} s low high (le_of_size_le h) (le_of_size_le k))

-- the numbers of a control list are small and near each other
pub record IsControlled (n : ℕ) (most apart : Fraction) (b : ℕ → Fraction) : Type 0 where
  pub sizes : (j : ℕ) → j ≤ n → size (b j) ≤ℚ most
  pub spread : (i j : ℕ) → i ≤ n → j ≤ n → size (b i -ℚ b j) ≤ℚ apart

mixed_controlled : (n : ℕ) (s most apart : Fraction) (b : ℕ → Fraction) → whole (pos 0) ≤ℚ s → s ≤ℚ whole (pos 1)
    → IsControlled (suc n) most apart b → IsControlled n most apart (mixed s b)
mixed_controlled n s most apart b low high c = record {
  sizes = λ j below. mixed_size (b j) (b (suc j)) most s low high (c.sizes j (omega arith)) (c.sizes (suc j)
      (omega arith));
  spread = λ i j first second. near i j first second;
}
  where
    near : (i j : ℕ) → i ≤ n → j ≤ n → size (mixed s b i -ℚ mixed s b j) ≤ℚ apart
    near i j first second =
        let P : Fraction → Type 0 = λ z. size z ≤ℚ apart in
        subst P
        (ring (s ∷ b i ∷ b (suc i) ∷ b j ∷ b (suc j) ∷ []) (hlevel terms) refl)
        (mixed_size (b i -ℚ b j) (b (suc i) -ℚ b (suc j)) apart s low high (c.spread i j (omega arith) (omega arith))
        (c.spread (suc i) (suc j) (omega arith) (omega arith)))

differences_controlled : (n : ℕ) (most apart : Fraction) (b : ℕ → Fraction) → IsControlled (suc n) most apart b
    → IsControlled n apart (whole (pos 2) *ℚ apart) (differences b)
differences_controlled n most apart b c = record {
  sizes = λ j below. c.spread (suc j) j (omega arith) (omega arith);
  spread = λ i j first second. near i j first second;
}
  where
    near : (i j : ℕ) → i ≤ n → j ≤ n → size (differences b i -ℚ differences b j) ≤ℚ whole (pos 2) *ℚ apart
    near i j first second =
        linear (size (differences b i -ℚ differences b j) ∷ size (differences b i) ∷ size (differences b j) ∷
        apart ∷ [])
        (size_sub (differences b i) (differences b j)
        ⊞ c.spread (suc i) i (omega arith) (omega arith) ⊞ c.spread (suc j) j (omega arith) (omega arith))
        (hlevel claims) refl

-- what the differences add to a bound
added_share : (n : ℕ) (h most apart : Fraction) (m : ℕ)
    → coefficient_bound n h most apart (suc m) +ℚ h *ℚ coefficient_bound n h apart (whole (pos 2) *ℚ apart) m
    ≡ coefficient_bound (suc n) h most apart (suc m)
added_share n h most apart zero =
    ring (h ∷ apart ∷ whole (pos (binomial n 1 * 1)) ∷ []) (hlevel terms) refl
    ∙ ap (λ z. z *ℚ (h *ℚ whole (pos 1)) *ℚ apart)
    (sym (whole_add (pos 1) (pos (binomial n 1 * 1))) ∙ ap (λ k. whole (pos k)) same)
  where
    same : 1 + binomial n 1 * 1 ≡ binomial (suc n) 1 * 1
    same = omega arith
added_share n h most apart (suc m) =
    ring (h ∷ apart ∷ power h m ∷ whole (pos (binomial n (suc (suc m)) * 2 ^ suc m))
    ∷ whole (pos (binomial n (suc m) * 2 ^ m)) ∷ []) (hlevel terms) refl
    ∙ ap (λ z. z *ℚ (h *ℚ (h *ℚ power h m)) *ℚ apart)
    (ap (λ z. whole (pos (binomial n (suc (suc m)) * 2 ^ suc m)) +ℚ z)
    (sym (whole_mul (pos (binomial n (suc m) * 2 ^ m)) (pos 2)) ∙ ap whole (pos-*ℤ-pos (binomial n (suc m) * 2 ^ m) 2))
    ∙ sym (whole_add (pos (binomial n (suc (suc m)) * 2 ^ suc m)) (pos (binomial n (suc m) * 2 ^ m * 2)))
    ∙ ap (λ k. whole (pos k)) same)
  where
    same : binomial n (suc (suc m)) * 2 ^ suc m + binomial n (suc m) * 2 ^ m * 2
        ≡ (binomial n (suc m) + binomial n (suc (suc m))) * 2 ^ suc m
    same = rw (pow-suc 2 m) (omega arith)

pub part_bound : (n : ℕ) (s d h most apart : Fraction) (b : ℕ → Fraction) → whole (pos 0) ≤ℚ s → s ≤ℚ whole (pos 1)
    → size d ≤ℚ h → IsControlled n most apart b
    → (m : ℕ) → size (number_at (part_form n s d b) m) ≤ℚ coefficient_bound n h most apart m
part_bound zero s d h most apart b low high near c zero = c.sizes 0 (omega arith)
part_bound zero s d h most apart b low high near c (suc m) =
    let length : whole (pos 0) ≤ℚ h = le_trans (size_natural d) near in
    let distance : whole (pos 0) ≤ℚ apart =
    le_trans (size_natural (b 0 -ℚ b 0)) (c.spread 0 0 (omega arith) (omega arith)) in
    let factor : whole (pos 0) ≤ℚ whole (pos (binomial 0 (suc m) * 2 ^ m)) = natural (binomial 0 (suc m) * 2 ^ m) 1 in
    rw size_zero (hlevel signs)
part_bound (suc n) s d h most apart b low high near c zero =
    let P : Fraction → Type 0 = λ z. size z ≤ℚ most in
    subst P
    (sym (number_at-add_lists (part_form n s d (mixed s b))
    (whole (pos 0) ∷ scale_list d (part_form n s d (differences b))) 0
    ∙ ring (number_at (part_form n s d (mixed s b)) 0 ∷ []) (hlevel terms) refl))
    (part_bound n s d h most apart (mixed s b) low high near (mixed_controlled n s most apart b low high c) 0)
part_bound (suc n) s d h most apart b low high near c (suc m) =
    let first = part_bound n s d h most apart (mixed s b) low high near
    (mixed_controlled n s most apart b low high c) (suc m) in
    let second = part_bound n s d h apart (whole (pos 2) *ℚ apart) (differences b) low high near
    (differences_controlled n most apart b c) m in
    let product = mul_mono near second (size_natural d)
    (le_trans (size_natural (number_at (part_form n s d (differences b)) m)) second) in
    let x = number_at (part_form n s d (mixed s b)) (suc m) in
    let y = number_at (part_form n s d (differences b)) m in
    let P : Fraction → Fraction → Type 0 = λ z r. size z ≤ℚ r in
    let sum : size (x +ℚ d *ℚ y) ≤ℚ coefficient_bound n h most apart (suc m) +ℚ h *ℚ
    coefficient_bound n h apart (whole (pos 2) *ℚ apart) m =
    le_trans (size_add x (d *ℚ y)) (add_mono first (le_trans (le_of_equal (size_mul d y)) product)) in
    subst (P (number_at (part_form (suc n) s d b) (suc m))) (added_share n h most apart m)
    (subst (λ z. P z (coefficient_bound n h most apart (suc m) +ℚ h *ℚ
    coefficient_bound n h apart (whole (pos 2) *ℚ apart) m))
    (sym (number_at-add_lists (part_form n s d (mixed s b))
    (whole (pos 0) ∷ scale_list d (part_form n s d (differences b))) (suc m)
    ∙ ap (λ z. x +ℚ z) (number_at-scale_list d (part_form n s d (differences b)) m))) sum)
