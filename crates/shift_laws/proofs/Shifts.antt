-- The laws of shifted polynomials, coefficient by coefficient.
use Rattle.std.specs.Prelude.{◌≡◌, ℕ, zero, suc, pos, List, [], ◌∷◌, length, ◌-◌}
use Rattle.std.proofs.Common.{refl, ap, sym, ◌∙◌, arith}
use mathlib.Core.Path.{ap₂, fun_ext}
use Rattle.frac_laws.specs.Fraction.{Fraction, whole, size, ◌+ℚ◌, ◌*ℚ◌, ◌≤ℚ◌}
use Rattle.frac_laws.specs.Sums.{sum_to}
use Rattle.frac_laws.specs.Convolution.{convolution}
use Rattle.frac_laws.specs.Lists.{number_at, add_lists, scale_list}
use Rattle.frac_laws.specs.ListProducts.{product_of_lists}
use Rattle.frac_laws.specs.Polynomials.{value_at, times_linear, shifted}
use Rattle.frac_laws.proofs.FractionTerms.{ring, terms}
use Rattle.frac_laws.proofs.Linear.{linear, claims, ◌⊞◌, ◌⊠◌}
use Rattle.frac_laws.proofs.Order.{le_refl, le_trans}
use Rattle.frac_laws.proofs.Sizes.{size_natural, size_add, size_mul, size_of_natural}
use Rattle.frac_laws.proofs.Quotients.{whole_suc}
use Rattle.frac_laws.proofs.Sums.{sum_to_ext, sum_to_first, sum_to_scale, sum_to_zeros}
use Rattle.frac_laws.proofs.Vectors.{number_at-add_lists, number_at-scale_list}
use Rattle.frac_laws.proofs.Polynomials.{shifted-add_lists, shifted-scale_list, value_at-shifted}
use Rattle.frac_laws.proofs.Polynomials.{zero-times_linear, length-shifted}
use Rattle.frac_laws.proofs.Convolutions.{convolution-add_left}
use Rattle.shift_laws.specs.Shifts.{derivative, size_at, ProductsShift, DerivativesShift, SizesShift}
use Rattle.shift_laws.specs.Shifts.{FirstIsAValue, SumsAreValues}

-- a sequence moved up by one place
abbrev pub up : (ℕ → Fraction) → ℕ → Fraction
up f zero = whole (pos 0)
up f (suc k) = f k

pub number_at-times_linear : (b : Fraction) (p : List Fraction) (k : ℕ)
    → number_at (times_linear b p) k ≡ b *ℚ number_at p k +ℚ up (number_at p) k
number_at-times_linear b p zero = number_at-add_lists (scale_list b p) (whole (pos 0) ∷ p) 0
    ∙ ap (λ z. z +ℚ whole (pos 0)) (number_at-scale_list b p 0)
number_at-times_linear b p (suc k) = number_at-add_lists (scale_list b p) (whole (pos 0) ∷ p) (suc k)
    ∙ ap (λ z. z +ℚ number_at p k) (number_at-scale_list b p (suc k))

pub number_at-shifted : (b c : Fraction) (p : List Fraction) (k : ℕ)
    → number_at (shifted b (c ∷ p)) k
    ≡ number_at (c ∷ []) k +ℚ (b *ℚ number_at (shifted b p) k +ℚ up (number_at (shifted b p)) k)
number_at-shifted b c p k = number_at-add_lists (c ∷ []) (times_linear b (shifted b p)) k
    ∙ ap (λ z. number_at (c ∷ []) k +ℚ z) (number_at-times_linear b (shifted b p) k)

pub convolution-scale : (c : Fraction) (f h : ℕ → Fraction) (k : ℕ)
    → convolution (λ m. c *ℚ f m) h k ≡ c *ℚ convolution f h k
convolution-scale c f h k =
    ap (sum_to (suc k)) (fun_ext (λ m. ring (c ∷ f m ∷ h (k - m) ∷ []) (hlevel terms) refl))
    ∙ sum_to_scale (suc k) c (λ m. f m *ℚ h (k - m))

pub convolution-up : (f h : ℕ → Fraction) (k : ℕ) → convolution (up f) h k ≡ up (convolution f h) k
convolution-up f h zero = ring (h (zero - zero) ∷ []) (hlevel terms) refl
convolution-up f h (suc k) = sum_to_first (suc k) (λ m. up f m *ℚ h (suc k - m))
    ∙ ring (h (suc k - 0) ∷ sum_to (suc k) (λ m. f m *ℚ h (suc k - suc m)) ∷ []) (hlevel terms) refl
    ∙ sum_to_ext (suc k) (λ m b. let e : suc k - suc m ≡ k - m = omega arith in ap (λ i. f m *ℚ h i) e)

pub convolution-constant : (c : Fraction) (h : ℕ → Fraction) (k : ℕ)
    → convolution (number_at (c ∷ [])) h k ≡ c *ℚ h k
convolution-constant c h k = sum_to_first k (λ m. number_at (c ∷ []) m *ℚ h (k - m))
    ∙ ap (λ z. c *ℚ h (k - 0) +ℚ z) (sum_to_zeros k (λ m b. ring (h (k - suc m) ∷ []) (hlevel terms) refl))
    ∙ ring (c ∷ h (k - 0) ∷ []) (hlevel terms) refl
    ∙ (let e : k - 0 ≡ k = omega arith in ap (λ i. c *ℚ h i) e)

-- products
pub products_shift : ProductsShift
products_shift b [] q k = sym (sum_to_zeros (suc k)
    (λ m c. ring (number_at (shifted b q) (k - m) ∷ []) (hlevel terms) refl))
products_shift b (c ∷ p) q k =
    ap (λ l. number_at l k) (shifted-add_lists b (scale_list c q) (whole (pos 0) ∷ product_of_lists p q)
    ∙ ap₂ add_lists (shifted-scale_list b c q) (zero-times_linear b (shifted b (product_of_lists p q))))
    ∙ number_at-add_lists (scale_list c Q) (times_linear b (shifted b (product_of_lists p q))) k
    ∙ ap₂ ◌+ℚ◌ (number_at-scale_list c Q k)
    (number_at-times_linear b (shifted b (product_of_lists p q)) k
    ∙ ap (λ f. b *ℚ f k +ℚ up f k) (fun_ext (products_shift b p q)))
    ∙ sym (ap (λ f. convolution f (number_at Q) k) (fun_ext (number_at-shifted b c p))
    ∙ convolution-add_left (number_at (c ∷ [])) (λ m. b *ℚ number_at P m +ℚ up (number_at P) m) (number_at Q) k
    ∙ ap₂ ◌+ℚ◌ (convolution-constant c (number_at Q) k)
    (convolution-add_left (λ m. b *ℚ number_at P m) (up (number_at P)) (number_at Q) k
    ∙ ap₂ ◌+ℚ◌ (convolution-scale b (number_at P) (number_at Q) k)
    (convolution-up (number_at P) (number_at Q) k)))
  where
    P : List Fraction
    P = shifted b p

    Q : List Fraction
    Q = shifted b q

-- derivatives
up-derivative : (f g : ℕ → Fraction) → ((k : ℕ) → whole (pos (suc k)) *ℚ f (suc k) ≡ g k) → (k : ℕ)
    → up g k ≡ whole (pos k) *ℚ f k
up-derivative f g h zero = ring (f 0 ∷ []) (hlevel terms) refl
up-derivative f g h (suc k) = sym (h k)

pub derivatives_shift : DerivativesShift
derivatives_shift b [] k = ring (whole (pos (suc k)) ∷ []) (hlevel terms) refl
derivatives_shift b (c ∷ p) k =
    ap (λ z. whole (pos (suc k)) *ℚ z) (number_at-shifted b c p (suc k))
    ∙ ring (whole (pos (suc k)) ∷ b ∷ number_at P (suc k) ∷ number_at P k ∷ []) (hlevel terms) refl
    ∙ ap₂ (λ y z. b *ℚ y +ℚ z *ℚ number_at P k) (derivatives_shift b p k) (whole_suc k)
    ∙ ring (b ∷ number_at D k ∷ whole (pos k) ∷ number_at P k ∷ []) (hlevel terms) refl
    ∙ ap (λ z. number_at P k +ℚ (b *ℚ number_at D k +ℚ z))
    (sym (up-derivative (number_at P) (number_at D) (derivatives_shift b p) k))
    ∙ sym (ap (λ l. number_at l k) (shifted-add_lists b p (whole (pos 0) ∷ derivative p)
    ∙ ap (add_lists P) (zero-times_linear b D))
    ∙ number_at-add_lists P (times_linear b D) k
    ∙ ap (λ z. number_at P k +ℚ z) (number_at-times_linear b D k))
  where
    P : List Fraction
    P = shifted b p

    D : List Fraction
    D = shifted b (derivative p)

-- sizes
pub size_at-natural : (w : Fraction) (p : List Fraction) → whole (pos 0) ≤ℚ w → whole (pos 0) ≤ℚ size_at w p
size_at-natural w [] h = le_refl _
size_at-natural w (c ∷ p) h =
    linear (size c ∷ w ∷ size_at w p ∷ []) (size_natural c ⊞ h ⊠ size_at-natural w p h) (hlevel claims) refl

size_at-add_lists : (w : Fraction) (p q : List Fraction) → whole (pos 0) ≤ℚ w
    → size_at w (add_lists p q) ≤ℚ size_at w p +ℚ size_at w q
size_at-add_lists w [] q h = linear (size_at w q ∷ []) (le_refl (whole (pos 0))) (hlevel claims) refl
size_at-add_lists w (c ∷ p) [] h =
    linear (size c ∷ w ∷ size_at w p ∷ []) (le_refl (whole (pos 0))) (hlevel claims) refl
size_at-add_lists w (c ∷ p) (d ∷ q) h = linear
    (size (c +ℚ d) ∷ size c ∷ size d ∷ w ∷ size_at w (add_lists p q) ∷ size_at w p ∷ size_at w q ∷ [])
    (size_add c d ⊞ h ⊠ size_at-add_lists w p q h) (hlevel claims) refl

size_at-scale_list : (w b : Fraction) (p : List Fraction) → whole (pos 0) ≤ℚ b
    → size_at w (scale_list b p) ≡ b *ℚ size_at w p
size_at-scale_list w b [] h = ring (b ∷ []) (hlevel terms) refl
size_at-scale_list w b (c ∷ p) h =
    ap₂ (λ y z. y +ℚ w *ℚ z) (size_mul b c ∙ ap (λ z. z *ℚ size c) (size_of_natural h)) (size_at-scale_list w b p h)
    ∙ ring (w ∷ b ∷ size c ∷ size_at w p ∷ []) (hlevel terms) refl

size_at-times_linear : (w b : Fraction) (p : List Fraction) → whole (pos 0) ≤ℚ w → whole (pos 0) ≤ℚ b
    → size_at w (times_linear b p) ≤ℚ (w +ℚ b) *ℚ size_at w p
size_at-times_linear w b p hw hb = le_trans (size_at-add_lists w (scale_list b p) (whole (pos 0) ∷ p) hw)
    (rw (size_at-scale_list w b p hb, size_of_natural (le_refl (whole (pos 0))))
    (linear (w ∷ b ∷ size_at w p ∷ []) (le_refl (whole (pos 0))) (hlevel claims) refl))

pub shifted_sizes : SizesShift
shifted_sizes w b [] hw hb = le_refl _
shifted_sizes w b (c ∷ p) hw hb = le_trans
    (size_at-add_lists w (c ∷ []) (times_linear b (shifted b p)) hw)
    (linear (size c ∷ w ∷ b ∷ size_at w (times_linear b (shifted b p)) ∷ size_at w (shifted b p)
    ∷ size_at (w +ℚ b) p ∷ [])
    (size_at-times_linear w b (shifted b p) hw hb ⊞ (hw ⊞ hb) ⊠ shifted_sizes w b p hw hb) (hlevel claims) refl)

-- values
pub first_of_shifted : FirstIsAValue
first_of_shifted b [] = refl
first_of_shifted b (c ∷ p) = number_at-shifted b c p 0
    ∙ ap (λ z. c +ℚ (b *ℚ z +ℚ whole (pos 0))) (first_of_shifted b p)
    ∙ ring (c ∷ b ∷ value_at p b ∷ []) (hlevel terms) refl

pub sum_to-numbers : (p : List Fraction) → sum_to (length p) (number_at p) ≡ value_at p (whole (pos 1))
sum_to-numbers [] = refl
sum_to-numbers (c ∷ p) = sum_to_first (length p) (number_at (c ∷ p))
    ∙ ap (λ z. c +ℚ z) (sum_to-numbers p) ∙ ring (c ∷ value_at p (whole (pos 1)) ∷ []) (hlevel terms) refl

pub sums_of_shifted : SumsAreValues
sums_of_shifted b p n e = ap (λ m. sum_to m (number_at (shifted b p))) (sym (length-shifted b p ∙ e))
    ∙ sum_to-numbers (shifted b p) ∙ value_at-shifted b p (whole (pos 1))
