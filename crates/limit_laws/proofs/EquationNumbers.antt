-- The coefficients of what polynomials leave of the equations, by convolutions of the cell's curves and payments.
use Rattle.std.specs.Prelude.{◌≡◌, ℕ, suc, pos, negsuc, [], ◌∷◌}
use Rattle.std.proofs.Common.{refl, ap, sym, ◌∙◌}
use mathlib.Core.Path.{ap₂, fun_ext}
use Rattle.frac_laws.specs.Fraction.{Fraction, whole, ◌+ℚ◌, ◌-ℚ◌, ◌*ℚ◌}
use Rattle.frac_laws.specs.Sums.{sum_to}
use Rattle.frac_laws.specs.Convolution.{convolution}
use Rattle.frac_laws.specs.Lists.{number_at}
use Rattle.frac_laws.proofs.FractionTerms.{ring, terms}
use Rattle.frac_laws.proofs.ListProducts.{number_at-product}
use Rattle.frac_laws.proofs.Sums.{sum_to_ext, sum_to_add, sum_to_sub, sum_to_scale}
use Rattle.frac_laws.proofs.Vectors.{number_at-add_lists, number_at-scale_list, number_at-subtract_lists}
use Rattle.frac_laws.proofs.Convolutions.{convolution-add_left}
use Rattle.model_specs.specs.Cells.{CellCurves}
use Rattle.model_specs.specs.Systems.{interest_at, intensity_at, sojourn_rate_at, leaving_at}
use Rattle.model_specs.specs.Systems.{first_payment_at, second_payment_at}
use Rattle.limit_laws.specs.WrittenEquations.{Polynomial, ◌+ₚ◌, ◌-ₚ◌, ◌*ₚ◌, ◌·ₚ◌, sum_of, derivative, negative}
use Rattle.limit_laws.specs.WrittenEquations.{thiele_right_side, norberg_right_side, kolmogorov_right_side}
use Rattle.limit_laws.specs.WrittenEquations.{thiele_defect, norberg_defect, kolmogorov_defect, with_payments_times}
use Rattle.limit_laws.proofs.PolynomialNumbers.{number_at-sum_of, number_at-derivative}
use Rattle.limit_laws.proofs.PolynomialNumbers.{convolution-add, convolution-sub, convolution-scale}
use Rattle.limit_laws.proofs.PolynomialNumbers.{convolution-scale_left, convolution-sum_left}
use Rattle.limit_laws.proofs.PolynomialNumbers.{convolution-assoc}

-- the derivative's number less that of a right side
defect_number : (p q : Polynomial) (k : ℕ) → number_at (derivative p -ₚ q) k
    ≡ whole (pos (suc k)) *ℚ number_at p (suc k) -ℚ number_at q k
defect_number p q k = number_at-subtract_lists (derivative p) q k
    ∙ ap (λ z. z -ℚ number_at q k) (number_at-derivative p k)

-- payments are c times the cell's
module _ (cell : CellCurves) (c : Fraction) where
  abbrev d : ℕ
  d = cell.states

  abbrev mu : ℕ → ℕ → Polynomial
  mu i j = cell.intensity i j

  abbrev b : ℕ → ℕ → Polynomial
  b i j = cell.sum i j

  -- c b as a sequence
  times_c : (p : Polynomial) → number_at (c ·ₚ p) ≡ (λ m. c *ℚ number_at p m)
  times_c p = fun_ext (λ m. number_at-scale_list c p m)

  -- what a transition adds to Thiele's right side
  thiele_term : (V : ℕ → Polynomial) (i j k : ℕ) → number_at (mu i j *ₚ (c ·ₚ b i j +ₚ V j -ₚ V i)) k
      ≡ c *ℚ first_payment_at cell i j k +ℚ convolution (number_at (mu i j)) (number_at (V j)) k
      -ℚ convolution (number_at (mu i j)) (number_at (V i)) k
  thiele_term V i j k = number_at-product (mu i j) (c ·ₚ b i j +ₚ V j -ₚ V i) k
      ∙ ap (λ f. convolution (number_at (mu i j)) f k) (fun_ext (λ m.
      number_at-subtract_lists (c ·ₚ b i j +ₚ V j) (V i) m
      ∙ ap (λ z. z -ℚ number_at (V i) m) (number_at-add_lists (c ·ₚ b i j) (V j) m
      ∙ ap (λ z. z +ℚ number_at (V j) m) (number_at-scale_list c (b i j) m))))
      ∙ convolution-sub (number_at (mu i j)) (λ m. c *ℚ number_at (b i j) m +ℚ number_at (V j) m) (number_at (V i)) k
      ∙ ap (λ z. z -ℚ convolution (number_at (mu i j)) (number_at (V i)) k)
      (convolution-add (number_at (mu i j)) (λ m. c *ℚ number_at (b i j) m) (number_at (V j)) k
      ∙ ap (λ z. z +ℚ convolution (number_at (mu i j)) (number_at (V j)) k)
      (convolution-scale (number_at (mu i j)) (number_at (b i j)) c k))

  pub thiele_number : (V : ℕ → Polynomial) (i k : ℕ) → number_at (thiele_defect (with_payments_times c cell) V i) k
      ≡ whole (pos (suc k)) *ℚ number_at (V i) (suc k)
      -ℚ (sum_to d (λ j. convolution (intensity_at cell i j) (number_at (V j)) k)
      -ℚ convolution (λ m. whole (pos 1) *ℚ interest_at cell m +ℚ leaving_at cell i m) (number_at (V i)) k
      +ℚ c *ℚ (sojourn_rate_at cell i k +ℚ sum_to d (λ j. first_payment_at cell i j k)))
  thiele_number V i k = defect_number (V i) (negative (thiele_right_side (with_payments_times c cell) V i)) k
      ∙ ap (λ y. whole (pos (suc k)) *ℚ number_at (V i) (suc k) -ℚ y)
      (number_at-scale_list (whole (negsuc 0)) (thiele_right_side (with_payments_times c cell) V i) k
      ∙ ap (λ z. whole (negsuc 0) *ℚ z) right)
      ∙ gather (whole (pos (suc k)) *ℚ number_at (V i) (suc k)) rv (sojourn_rate_at cell i k) paid there here
      ∙ ap (λ z. whole (pos (suc k)) *ℚ number_at (V i) (suc k)
      -ℚ (there -ℚ z +ℚ c *ℚ (sojourn_rate_at cell i k +ℚ paid)))
      (sym (convolution-add_left (λ m. whole (pos 1) *ℚ interest_at cell m) (leaving_at cell i) (number_at (V i)) k
      ∙ ap₂ ◌+ℚ◌ (convolution-scale_left (interest_at cell) (number_at (V i)) (whole (pos 1)) k)
      (convolution-sum_left d (λ j. intensity_at cell i j) (number_at (V i)) k)))
    where
      rv : Fraction
      rv = convolution (interest_at cell) (number_at (V i)) k

      paid : Fraction
      paid = sum_to d (λ j. first_payment_at cell i j k)

      there : Fraction
      there = sum_to d (λ j. convolution (intensity_at cell i j) (number_at (V j)) k)

      here : Fraction
      here = sum_to d (λ j. convolution (intensity_at cell i j) (number_at (V i)) k)

      right : number_at (thiele_right_side (with_payments_times c cell) V i) k
          ≡ rv -ℚ c *ℚ sojourn_rate_at cell i k -ℚ (c *ℚ paid +ℚ there -ℚ here)
      right = number_at-subtract_lists (cell.interest *ₚ V i -ₚ c ·ₚ cell.sojourn i)
          (sum_of d (λ j. mu i j *ₚ (c ·ₚ b i j +ₚ V j -ₚ V i))) k
          ∙ ap₂ ◌-ℚ◌ (number_at-subtract_lists (cell.interest *ₚ V i) (c ·ₚ cell.sojourn i) k
          ∙ ap₂ ◌-ℚ◌ (number_at-product cell.interest (V i) k) (number_at-scale_list c (cell.sojourn i) k))
          (number_at-sum_of d (λ j. mu i j *ₚ (c ·ₚ b i j +ₚ V j -ₚ V i)) k
          ∙ sum_to_ext d (λ j _. thiele_term V i j k)
          ∙ sum_to_sub d
          (λ j. c *ℚ first_payment_at cell i j k +ℚ convolution (intensity_at cell i j) (number_at (V j)) k)
          (λ j. convolution (intensity_at cell i j) (number_at (V i)) k)
          ∙ ap (λ z. z -ℚ here) (sum_to_add d (λ j. c *ℚ first_payment_at cell i j k)
          (λ j. convolution (intensity_at cell i j) (number_at (V j)) k)
          ∙ ap (λ z. z +ℚ there) (sum_to_scale d c (λ j. first_payment_at cell i j k))))

      gather : (x rv s p t h : Fraction)
          → x -ℚ whole (negsuc 0) *ℚ (rv -ℚ c *ℚ s -ℚ (c *ℚ p +ℚ t -ℚ h))
          ≡ x -ℚ (t -ℚ (whole (pos 1) *ℚ rv +ℚ h) +ℚ c *ℚ (s +ℚ p))
      gather x rv s p t h = ring (x ∷ rv ∷ s ∷ p ∷ t ∷ h ∷ c ∷ []) (hlevel terms) refl

  -- what it adds to Norberg's
  norberg_term : (V Z : ℕ → Polynomial) (i j k : ℕ)
      → number_at (mu i j *ₚ ((c ·ₚ b i j) *ₚ (c ·ₚ b i j) +ₚ whole (pos 2) ·ₚ ((c ·ₚ b i j) *ₚ V j) +ₚ Z j)) k
      ≡ (c *ℚ c) *ℚ second_payment_at cell i j k
      +ℚ (whole (pos 2) *ℚ c) *ℚ convolution (first_payment_at cell i j) (number_at (V j)) k
      +ℚ convolution (intensity_at cell i j) (number_at (Z j)) k
  norberg_term V Z i j k =
      number_at-product (mu i j) (square +ₚ whole (pos 2) ·ₚ cross +ₚ Z j) k
      ∙ ap (λ f. convolution (number_at (mu i j)) f k) (fun_ext inner)
      ∙ convolution-add (number_at (mu i j)) (λ m. (c *ℚ c) *ℚ convolution (number_at (b i j)) (number_at (b i j)) m
      +ℚ (whole (pos 2) *ℚ c) *ℚ convolution (number_at (b i j)) (number_at (V j)) m) (number_at (Z j)) k
      ∙ ap (λ z. z +ℚ convolution (number_at (mu i j)) (number_at (Z j)) k)
      (convolution-add (number_at (mu i j)) (λ m. (c *ℚ c) *ℚ convolution (number_at (b i j)) (number_at (b i j)) m)
      (λ m. (whole (pos 2) *ℚ c) *ℚ convolution (number_at (b i j)) (number_at (V j)) m) k
      ∙ ap₂ ◌+ℚ◌
      (convolution-scale (number_at (mu i j)) (convolution (number_at (b i j)) (number_at (b i j))) (c *ℚ c) k
      ∙ ap (λ z. (c *ℚ c) *ℚ z) (convolution-assoc (mu i j) (b i j) (b i j) k))
      (convolution-scale (number_at (mu i j)) (convolution (number_at (b i j)) (number_at (V j))) (whole (pos 2) *ℚ c) k
      ∙ ap (λ z. (whole (pos 2) *ℚ c) *ℚ z) (convolution-assoc (mu i j) (b i j) (V j) k)))
    where
      square : Polynomial
      square = (c ·ₚ b i j) *ₚ (c ·ₚ b i j)

      cross : Polynomial
      cross = (c ·ₚ b i j) *ₚ V j

      once : (q : ℕ → Fraction) (m : ℕ) → convolution (number_at (c ·ₚ b i j)) q m
          ≡ c *ℚ convolution (number_at (b i j)) q m
      once q m = ap (λ f. convolution f q m) (times_c (b i j)) ∙ convolution-scale_left (number_at (b i j)) q c m

      squared : (m : ℕ) → number_at square m ≡ (c *ℚ c) *ℚ convolution (number_at (b i j)) (number_at (b i j)) m
      squared m = number_at-product (c ·ₚ b i j) (c ·ₚ b i j) m ∙ once (number_at (c ·ₚ b i j)) m
          ∙ ap (λ z. c *ℚ z) (ap (λ f. convolution (number_at (b i j)) f m) (times_c (b i j))
          ∙ convolution-scale (number_at (b i j)) (number_at (b i j)) c m)
          ∙ ring (c ∷ convolution (number_at (b i j)) (number_at (b i j)) m ∷ []) (hlevel terms) refl

      inner : (m : ℕ) → number_at (square +ₚ whole (pos 2) ·ₚ cross +ₚ Z j) m
          ≡ (c *ℚ c) *ℚ convolution (number_at (b i j)) (number_at (b i j)) m
          +ℚ (whole (pos 2) *ℚ c) *ℚ convolution (number_at (b i j)) (number_at (V j)) m +ℚ number_at (Z j) m
      inner m = number_at-add_lists (square +ₚ whole (pos 2) ·ₚ cross) (Z j) m
          ∙ ap (λ z. z +ℚ number_at (Z j) m) (number_at-add_lists square (whole (pos 2) ·ₚ cross) m
          ∙ ap₂ ◌+ℚ◌ (squared m) (number_at-scale_list (whole (pos 2)) cross m
          ∙ ap (λ z. whole (pos 2) *ℚ z) (number_at-product (c ·ₚ b i j) (V j) m ∙ once (number_at (V j)) m)
          ∙ ring (c ∷ convolution (number_at (b i j)) (number_at (V j)) m ∷ []) (hlevel terms) refl))

  pub norberg_number : (V Z : ℕ → Polynomial) (i k : ℕ)
      → number_at (norberg_defect (with_payments_times c cell) V Z i) k
      ≡ whole (pos (suc k)) *ℚ number_at (Z i) (suc k)
      -ℚ (sum_to d (λ j. convolution (intensity_at cell i j) (number_at (Z j)) k)
      -ℚ convolution (λ m. whole (pos 2) *ℚ interest_at cell m +ℚ leaving_at cell i m) (number_at (Z i)) k
      +ℚ (c *ℚ (whole (pos 2) *ℚ convolution (sojourn_rate_at cell i) (number_at (V i)) k
      +ℚ whole (pos 2) *ℚ sum_to d (λ j. convolution (first_payment_at cell i j) (number_at (V j)) k))
      +ℚ (c *ℚ c) *ℚ sum_to d (λ j. second_payment_at cell i j k)))
  norberg_number V Z i k = defect_number (Z i) (negative (norberg_right_side (with_payments_times c cell) V Z i)) k
      ∙ ap (λ y. whole (pos (suc k)) *ℚ number_at (Z i) (suc k) -ℚ y)
      (number_at-scale_list (whole (negsuc 0)) (norberg_right_side (with_payments_times c cell) V Z i) k
      ∙ ap (λ z. whole (negsuc 0) *ℚ z) right)
      ∙ ring ((whole (pos (suc k)) *ℚ number_at (Z i) (suc k)) ∷ rz ∷ bv ∷ dv ∷ ee ∷ mz ∷ c ∷ []) (hlevel terms) refl
    where
      rates : Polynomial
      rates = whole (pos 2) ·ₚ cell.interest +ₚ sum_of d (cell.intensity i)

      rz : Fraction
      rz = convolution (λ m. whole (pos 2) *ℚ interest_at cell m +ℚ leaving_at cell i m) (number_at (Z i)) k

      bv : Fraction
      bv = convolution (sojourn_rate_at cell i) (number_at (V i)) k

      dv : Fraction
      dv = sum_to d (λ j. convolution (first_payment_at cell i j) (number_at (V j)) k)

      ee : Fraction
      ee = sum_to d (λ j. second_payment_at cell i j k)

      mz : Fraction
      mz = sum_to d (λ j. convolution (intensity_at cell i j) (number_at (Z j)) k)

      term : ℕ → Polynomial
      term j = mu i j *ₚ ((c ·ₚ b i j) *ₚ (c ·ₚ b i j) +ₚ whole (pos 2) ·ₚ ((c ·ₚ b i j) *ₚ V j) +ₚ Z j)

      right : number_at (norberg_right_side (with_payments_times c cell) V Z i) k
          ≡ rz -ℚ whole (pos 2) *ℚ (c *ℚ bv) -ℚ ((c *ℚ c) *ℚ ee +ℚ (whole (pos 2) *ℚ c) *ℚ dv +ℚ mz)
      right =
          number_at-subtract_lists (rates *ₚ Z i -ₚ whole (pos 2) ·ₚ ((c ·ₚ cell.sojourn i) *ₚ V i)) (sum_of d term) k
          ∙ ap₂ ◌-ℚ◌
          (number_at-subtract_lists (rates *ₚ Z i) (whole (pos 2) ·ₚ ((c ·ₚ cell.sojourn i) *ₚ V i)) k
          ∙ ap₂ ◌-ℚ◌
          (number_at-product rates (Z i) k ∙ ap (λ f. convolution f (number_at (Z i)) k) (fun_ext (λ m.
          number_at-add_lists (whole (pos 2) ·ₚ cell.interest) (sum_of d (cell.intensity i)) m
          ∙ ap₂ ◌+ℚ◌ (number_at-scale_list (whole (pos 2)) cell.interest m) (number_at-sum_of d (cell.intensity i) m))))
          (number_at-scale_list (whole (pos 2)) ((c ·ₚ cell.sojourn i) *ₚ V i) k
          ∙ ap (λ z. whole (pos 2) *ℚ z) (number_at-product (c ·ₚ cell.sojourn i) (V i) k
          ∙ ap (λ f. convolution f (number_at (V i)) k) (times_c (cell.sojourn i))
          ∙ convolution-scale_left (sojourn_rate_at cell i) (number_at (V i)) c k)))
          (number_at-sum_of d term k
          ∙ sum_to_ext d (λ j _. norberg_term V Z i j k)
          ∙ sum_to_add d (λ j. (c *ℚ c) *ℚ second_payment_at cell i j k
          +ℚ (whole (pos 2) *ℚ c) *ℚ convolution (first_payment_at cell i j) (number_at (V j)) k)
          (λ j. convolution (intensity_at cell i j) (number_at (Z j)) k)
          ∙ ap (λ z. z +ℚ mz) (sum_to_add d (λ j. (c *ℚ c) *ℚ second_payment_at cell i j k)
          (λ j. (whole (pos 2) *ℚ c) *ℚ convolution (first_payment_at cell i j) (number_at (V j)) k)
          ∙ ap₂ ◌+ℚ◌ (sum_to_scale d (c *ℚ c) (λ j. second_payment_at cell i j k))
          (sum_to_scale d (whole (pos 2) *ℚ c) (λ j. convolution (first_payment_at cell i j) (number_at (V j)) k))))

pub kolmogorov_number : (cell : CellCurves) (p : ℕ → Polynomial) (j k : ℕ) → number_at (kolmogorov_defect cell p j) k
    ≡ whole (pos (suc k)) *ℚ number_at (p j) (suc k)
    -ℚ (sum_to cell.states (λ i. convolution (intensity_at cell i j) (number_at (p i)) k)
    -ℚ convolution (leaving_at cell j) (number_at (p j)) k)
kolmogorov_number cell p j k = defect_number (p j) (kolmogorov_right_side cell p j) k
    ∙ ap (λ z. whole (pos (suc k)) *ℚ number_at (p j) (suc k) -ℚ z)
    (number_at-subtract_lists (sum_of cell.states (λ i. cell.intensity i j *ₚ p i))
    (sum_of cell.states (cell.intensity j) *ₚ p j) k
    ∙ ap₂ ◌-ℚ◌ (number_at-sum_of cell.states (λ i. cell.intensity i j *ₚ p i) k
    ∙ sum_to_ext cell.states (λ i _. number_at-product (cell.intensity i j) (p i) k))
    (number_at-product (sum_of cell.states (cell.intensity j)) (p j) k
    ∙ ap (λ f. convolution f (number_at (p j)) k) (fun_ext (number_at-sum_of cell.states (cell.intensity j)))))
