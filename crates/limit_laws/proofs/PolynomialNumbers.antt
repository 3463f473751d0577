-- The coefficients and values of sums, derivatives and products of polynomials.
use Rattle.std.specs.Prelude.{◌≡◌, ℕ, zero, suc, pos, negsuc, [], ◌∷◌, ◌-◌}
use Rattle.std.proofs.Common.{refl, ap, sym, ◌∙◌}
use mathlib.Core.Path.{ap₂, fun_ext}
use Rattle.frac_laws.specs.Fraction.{Fraction, whole, opposite, ◌+ℚ◌, ◌-ℚ◌, ◌*ℚ◌}
use Rattle.frac_laws.specs.Sums.{sum_to}
use Rattle.frac_laws.specs.Convolution.{convolution}
use Rattle.frac_laws.specs.Lists.{number_at}
use Rattle.frac_laws.proofs.FractionTerms.{ring, terms}
use Rattle.frac_laws.proofs.ListProducts.{number_at-product}
use Rattle.frac_laws.proofs.Quotients.{whole_suc}
use Rattle.frac_laws.proofs.Sums.{sum_to_ext, sum_to_add, sum_to_sub, sum_to_scale, sum_to_scale_right, sum_to_exchange}
use Rattle.frac_laws.proofs.Vectors.{number_at-add_lists, number_at-scale_list}
use Rattle.frac_laws.specs.Polynomials.{value_at}
use Rattle.frac_laws.proofs.Polynomials.{value_at-add_lists, value_at-scale_list}
use Rattle.frac_laws.proofs.Convolutions.{convolution-add_left}
use Rattle.limit_laws.specs.WrittenEquations.{PolynomialsAreFunctions, SumsOfPolynomialsAreFunctions}
use Rattle.limit_laws.specs.WrittenEquations.{Polynomial, ◌+ₚ◌, ◌*ₚ◌, ◌·ₚ◌, sum_of, derivative}

pub number_at-sum_of : (n : ℕ) (p : ℕ → Polynomial) (k : ℕ)
    → number_at (sum_of n p) k ≡ sum_to n (λ j. number_at (p j) k)
number_at-sum_of zero p k = refl
number_at-sum_of (suc n) p k =
    number_at-add_lists (sum_of n p) (p n) k ∙ ap (λ z. z +ℚ number_at (p n) k) (number_at-sum_of n p k)

pub number_at-derivative : (p : Polynomial) (k : ℕ)
    → number_at (derivative p) k ≡ whole (pos (suc k)) *ℚ number_at p (suc k)
number_at-derivative [] k = ring (whole (pos (suc k)) ∷ []) (hlevel terms) refl
number_at-derivative (c ∷ p) zero = number_at-add_lists p (whole (pos 0) ∷ derivative p) 0
    ∙ ring (number_at p 0 ∷ []) (hlevel terms) refl
number_at-derivative (c ∷ p) (suc k) = number_at-add_lists p (whole (pos 0) ∷ derivative p) (suc k)
    ∙ ap (λ z. number_at p (suc k) +ℚ z) (number_at-derivative p k)
    ∙ ring (number_at p (suc k) ∷ whole (pos (suc k)) ∷ []) (hlevel terms) refl
    ∙ ap (λ z. z *ℚ number_at p (suc k)) (sym (whole_suc (suc k)))

-- convolutions are linear
pub convolution-add : (a b c : ℕ → Fraction) (k : ℕ)
    → convolution a (λ m. b m +ℚ c m) k ≡ convolution a b k +ℚ convolution a c k
convolution-add a b c k =
    sum_to_ext (suc k) (λ m _. ring (a m ∷ b (k - m) ∷ c (k - m) ∷ []) (hlevel terms) refl)
    ∙ sum_to_add (suc k) (λ m. a m *ℚ b (k - m)) (λ m. a m *ℚ c (k - m))

pub convolution-sub : (a b c : ℕ → Fraction) (k : ℕ)
    → convolution a (λ m. b m -ℚ c m) k ≡ convolution a b k -ℚ convolution a c k
convolution-sub a b c k =
    sum_to_ext (suc k) (λ m _. ring (a m ∷ b (k - m) ∷ c (k - m) ∷ []) (hlevel terms) refl)
    ∙ sum_to_sub (suc k) (λ m. a m *ℚ b (k - m)) (λ m. a m *ℚ c (k - m))

pub convolution-scale : (a b : ℕ → Fraction) (c : Fraction) (k : ℕ)
    → convolution a (λ m. c *ℚ b m) k ≡ c *ℚ convolution a b k
convolution-scale a b c k =
    sum_to_ext (suc k) (λ m _. ring (a m ∷ b (k - m) ∷ c ∷ []) (hlevel terms) refl)
    ∙ sum_to_scale (suc k) c (λ m. a m *ℚ b (k - m))

pub convolution-scale_left : (a b : ℕ → Fraction) (c : Fraction) (k : ℕ)
    → convolution (λ m. c *ℚ a m) b k ≡ c *ℚ convolution a b k
convolution-scale_left a b c k =
    sum_to_ext (suc k) (λ m _. ring (a m ∷ b (k - m) ∷ c ∷ []) (hlevel terms) refl)
    ∙ sum_to_scale (suc k) c (λ m. a m *ℚ b (k - m))

pub convolution-sum_left : (n : ℕ) (a : ℕ → ℕ → Fraction) (b : ℕ → Fraction) (k : ℕ)
    → convolution (λ m. sum_to n (λ j. a j m)) b k ≡ sum_to n (λ j. convolution (a j) b k)
convolution-sum_left n a b k =
    sum_to_ext (suc k) (λ m _. sym (sum_to_scale_right n (b (k - m)) (λ j. a j m)))
    ∙ sum_to_exchange (suc k) n (λ m j. a j m *ℚ b (k - m))

-- a row of a system: -a on the diagonal beside the mu, by convolutions
pub row_sums : (n : ℕ) (a f : ℕ → Fraction) (mu g : ℕ → ℕ → Fraction) (k : ℕ)
    → sum_to (suc k) (λ m. opposite (a m) *ℚ f (k - m) +ℚ sum_to n (λ j. mu j m *ℚ g j (k - m)))
    ≡ sum_to n (λ j. convolution (mu j) (g j) k) -ℚ convolution a f k
row_sums n a f mu g k =
    sum_to_ext (suc k) (λ m _. ring (a m ∷ f (k - m) ∷ sum_to n (λ j. mu j m *ℚ g j (k - m)) ∷ []) (hlevel terms) refl)
    ∙ sum_to_sub (suc k) (λ m. sum_to n (λ j. mu j m *ℚ g j (k - m))) (λ m. a m *ℚ f (k - m))
    ∙ ap (λ z. z -ℚ convolution a f k) (sum_to_exchange (suc k) n (λ m j. mu j m *ℚ g j (k - m)))

-- products of polynomials are associative
product-assoc : (p q s : Polynomial) (k : ℕ) → number_at ((p *ₚ q) *ₚ s) k ≡ number_at (p *ₚ (q *ₚ s)) k
product-assoc [] q s k = refl
product-assoc (c ∷ p) q s k =
    number_at-product (c ·ₚ q +ₚ later) s k
    ∙ ap (λ f. convolution f (number_at s) k) (fun_ext (λ m. number_at-add_lists (c ·ₚ q) later m
    ∙ ap (λ z. z +ℚ number_at later m) (number_at-scale_list c q m)))
    ∙ convolution-add_left (λ m. c *ℚ number_at q m) (number_at later) (number_at s) k
    ∙ ap₂ ◌+ℚ◌ (convolution-scale_left (number_at q) (number_at s) c k
    ∙ ap (λ z. c *ℚ z) (sym (number_at-product q s k))
    ∙ sym (number_at-scale_list c (q *ₚ s) k))
    (sym (number_at-product later s k) ∙ number_at-add_lists (whole (pos 0) ·ₚ s) (whole (pos 0) ∷ ((p *ₚ q) *ₚ s)) k
    ∙ ap (λ z. z +ℚ number_at (whole (pos 0) ∷ ((p *ₚ q) *ₚ s)) k) (number_at-scale_list (whole (pos 0)) s k)
    ∙ ring (number_at s k ∷ number_at (whole (pos 0) ∷ ((p *ₚ q) *ₚ s)) k ∷ []) (hlevel terms) refl
    ∙ moved (product-assoc p q s) k)
    ∙ sym (number_at-add_lists (c ·ₚ (q *ₚ s)) (whole (pos 0) ∷ (p *ₚ (q *ₚ s))) k)
  where
    later : Polynomial
    later = whole (pos 0) ∷ (p *ₚ q)

    moved : ((k : ℕ) → number_at ((p *ₚ q) *ₚ s) k ≡ number_at (p *ₚ (q *ₚ s)) k) → (k : ℕ)
        → number_at (whole (pos 0) ∷ ((p *ₚ q) *ₚ s)) k ≡ number_at (whole (pos 0) ∷ (p *ₚ (q *ₚ s))) k
    moved same zero = refl
    moved same (suc k) = same k

-- and so are convolutions
pub convolution-assoc : (p q s : Polynomial) (k : ℕ)
    → convolution (number_at p) (convolution (number_at q) (number_at s)) k
    ≡ convolution (convolution (number_at p) (number_at q)) (number_at s) k
convolution-assoc p q s k =
    ap (λ f. convolution (number_at p) f k) (fun_ext (λ m. sym (number_at-product q s m)))
    ∙ sym (number_at-product p (q *ₚ s) k) ∙ sym (product-assoc p q s k) ∙ number_at-product (p *ₚ q) s k
    ∙ ap (λ f. convolution f (number_at s) k) (fun_ext (λ m. number_at-product p q m))

-- values
value_at-product : (p q : Polynomial) (x : Fraction) → value_at (p *ₚ q) x ≡ value_at p x *ℚ value_at q x
value_at-product [] q x = ring (value_at q x ∷ []) (hlevel terms) refl
value_at-product (c ∷ p) q x = value_at-add_lists (c ·ₚ q) (whole (pos 0) ∷ (p *ₚ q)) x
    ∙ ap₂ (λ a b. a +ℚ (whole (pos 0) +ℚ x *ℚ b)) (value_at-scale_list c q x) (value_at-product p q x)
    ∙ ring (c ∷ x ∷ value_at p x ∷ value_at q x ∷ []) (hlevel terms) refl

pub polynomials_are_functions : PolynomialsAreFunctions
polynomials_are_functions p q c x = record {
  sums = value_at-add_lists p q x;
  differences = value_at-add_lists p (whole (negsuc 0) ·ₚ q) x
      ∙ ap (λ z. value_at p x +ℚ z) (value_at-scale_list (whole (negsuc 0)) q x)
      ∙ ring (value_at p x ∷ value_at q x ∷ []) (hlevel terms) refl;
  products = value_at-product p q x;
  multiples = value_at-scale_list c p x;
  derivatives = number_at-derivative p;
}

pub sums_of_polynomials_are_functions : SumsOfPolynomialsAreFunctions
sums_of_polynomials_are_functions zero p x = refl
sums_of_polynomials_are_functions (suc n) p x = value_at-add_lists (sum_of n p) (p n) x
    ∙ ap (λ z. z +ℚ value_at (p n) x) (sums_of_polynomials_are_functions n p x)
