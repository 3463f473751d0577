-- Tables of polynomials, and what systems do to them.
use Rattle.std.specs.Prelude.{◌≡◌, ℕ, zero, suc, pos, List, [], ◌∷◌, length, ◌-◌, ◌<◌, ◌≤◌}
use Rattle.std.proofs.Common.{refl, ap, sym, ◌∙◌, arith}
use Rattle.std.proofs.lemmas.List.{get_or_past}
use mathlib.Core.Path.{ap₂, fun_ext}
use Rattle.frac_laws.specs.Fraction.{Fraction, whole, size, ◌+ℚ◌, ◌*ℚ◌, ◌-ℚ◌, ◌≤ℚ◌}
use Rattle.frac_laws.specs.Sums.{sum_to}
use Rattle.frac_laws.specs.Convolution.{convolution}
use Rattle.frac_laws.specs.Lists.{Vector, Matrix, number_at, vector_at, matrix_at, add_lists, scale_list}
use Rattle.frac_laws.specs.Lists.{subtract_lists, dot, image}
use Rattle.frac_laws.specs.Norms.{Norm, Sup, Sum, norm_of_vector}
use Rattle.frac_laws.specs.ListProducts.{product_of_lists}
use Rattle.frac_laws.specs.Polynomials.{shifted, value_at}
use Rattle.frac_laws.proofs.FractionTerms.{ring, terms}
use Rattle.frac_laws.proofs.Linear.{linear, claims, natural}
use Rattle.frac_laws.proofs.Order.{le_refl, le_trans, le_of_equal, add_mono}
use Rattle.frac_laws.proofs.Sizes.{size_natural}
use Rattle.frac_laws.proofs.Extremes.{greater_le}
use Rattle.frac_laws.proofs.Sums.{sum_to_ext, sum_to_first, sum_to_sub, sum_to_exchange, sum_to_zeros, sum_to_mono}
use Rattle.frac_laws.proofs.Sums.{sum_to_zero}
use Rattle.frac_laws.proofs.Quotients.{whole_suc}
use Rattle.frac_laws.proofs.Norms.{norm_natural, size_zero}
use Rattle.frac_laws.proofs.ListProducts.{number_at-product}
use Rattle.frac_laws.proofs.Vectors.{number_at-add_lists, number_at-subtract_lists}
use Rattle.frac_laws.proofs.Vectors.{number_at-image}
use Rattle.frac_laws.proofs.Polynomials.{shifted-add_lists, shifted-scale_list}
use Rattle.cell_laws.specs.Systems.{System}
use Rattle.cell_laws.specs.Recurrence.{convolved}
use Rattle.cell_laws.proofs.VectorSums.{norm_of_none}
use Rattle.whole_laws.specs.Whole.{list_of}
use Rattle.whole_laws.proofs.ListsByPlace.{at-list_of, past-list_of}
use Rattle.shift_laws.specs.Shifts.{derivative, size_at}
use Rattle.polynomial_runs.specs.PolynomialSystems.{HasPolynomials, table, values, added, residual}
use Rattle.shift_laws.proofs.Shifts.{products_shift, derivatives_shift, size_at-natural}
use Rattle.step_laws.proofs.Images.{image-subtract}

-- added polynomials
pub number_at-added : (d : ℕ) (f : ℕ → List Fraction) (k : ℕ)
    → number_at (added d f) k ≡ sum_to d (λ j. number_at (f j) k)
number_at-added zero f k = refl
number_at-added (suc d) f k =
    number_at-add_lists (added d f) (f d) k ∙ ap (λ z. z +ℚ number_at (f d) k) (number_at-added d f k)

pub shifted-added : (b : Fraction) (d : ℕ) (f : ℕ → List Fraction)
    → shifted b (added d f) ≡ added d (λ j. shifted b (f j))
shifted-added b zero f = refl
shifted-added b (suc d) f =
    shifted-add_lists b (added d f) (f d) ∙ ap (λ z. add_lists z (shifted b (f d))) (shifted-added b d f)

shifted-subtract : (b : Fraction) (p q : List Fraction)
    → shifted b (subtract_lists p q) ≡ subtract_lists (shifted b p) (shifted b q)
shifted-subtract b p q =
    shifted-add_lists b p (scale_list _ q) ∙ ap (add_lists (shifted b p)) (shifted-scale_list b _ q)

pub number_at-derivative : (p : List Fraction) (k : ℕ)
    → number_at (derivative p) k ≡ whole (pos (suc k)) *ℚ number_at p (suc k)
number_at-derivative [] k = ring (whole (pos (suc k)) ∷ []) (hlevel terms) refl
number_at-derivative (c ∷ p) zero = number_at-add_lists p (whole (pos 0) ∷ derivative p) 0
    ∙ ring (number_at p 0 ∷ []) (hlevel terms) refl
number_at-derivative (c ∷ p) (suc k) = number_at-add_lists p (whole (pos 0) ∷ derivative p) (suc k)
    ∙ ap (λ z. number_at p (suc k) +ℚ z) (number_at-derivative p k)
    ∙ ring (number_at p (suc k) ∷ whole (pos (suc k)) ∷ []) (hlevel terms) refl
    ∙ ap (λ z. z *ℚ number_at p (suc k)) (sym (whole_suc (suc k)))

-- the numbers of what is missed, and of its shift
pub number_at-residual : (d : ℕ) (e : ℕ → ℕ → List Fraction) (g p : ℕ → List Fraction) (i k : ℕ)
    → number_at (residual d e g p i) k
    ≡ whole (pos (suc k)) *ℚ number_at (p i) (suc k)
    -ℚ (sum_to d (λ j. convolution (number_at (e i j)) (number_at (p j)) k) +ℚ number_at (g i) k)
number_at-residual d e g p i k =
    number_at-subtract_lists (derivative (p i)) (add_lists (added d (λ j. product_of_lists (e i j) (p j))) (g i)) k
    ∙ ap₂ ◌-ℚ◌ (number_at-derivative (p i) k)
    (number_at-add_lists (added d (λ j. product_of_lists (e i j) (p j))) (g i) k
    ∙ ap (λ z. z +ℚ number_at (g i) k) (number_at-added d (λ j. product_of_lists (e i j) (p j)) k
    ∙ ap (sum_to d) (fun_ext (λ j. number_at-product (e i j) (p j) k))))

pub number_at-shifted_residual : (b : Fraction) (d : ℕ) (e : ℕ → ℕ → List Fraction) (g p : ℕ → List Fraction)
    (i k : ℕ) → number_at (shifted b (residual d e g p i)) k
    ≡ whole (pos (suc k)) *ℚ number_at (shifted b (p i)) (suc k)
    -ℚ (sum_to d (λ j. convolution (number_at (shifted b (e i j))) (number_at (shifted b (p j))) k)
    +ℚ number_at (shifted b (g i)) k)
number_at-shifted_residual b d e g p i k =
    ap (λ l. number_at l k) (shifted-subtract b (derivative (p i)) (add_lists products (g i)))
    ∙ number_at-subtract_lists (shifted b (derivative (p i))) (shifted b (add_lists products (g i))) k
    ∙ ap₂ ◌-ℚ◌ (sym (derivatives_shift b (p i) k))
    (ap (λ l. number_at l k) (shifted-add_lists b products (g i))
    ∙ number_at-add_lists (shifted b products) (shifted b (g i)) k
    ∙ ap (λ z. z +ℚ number_at (shifted b (g i)) k)
    (ap (λ l. number_at l k) (shifted-added b d (λ j. product_of_lists (e i j) (p j)))
    ∙ number_at-added d (λ j. shifted b (product_of_lists (e i j) (p j))) k
    ∙ ap (sum_to d) (fun_ext (λ j. products_shift b (e i j) (p j) k))))
  where
    products : List Fraction
    products = added d (λ j. product_of_lists (e i j) (p j))

-- the numbers of a table
pub table-at : (d : ℕ) (p : ℕ → List Fraction) (k i : ℕ) → i < d → number_at (table d p k) i ≡ number_at (p i) k
table-at d p k i b = at-list_of d (λ i. number_at (p i) k) i (whole (pos 0)) b

pub table-past : (d : ℕ) (p : ℕ → List Fraction) (k i : ℕ) → d ≤ i → number_at (table d p k) i ≡ whole (pos 0)
table-past d p k i b = past-list_of d (λ i. number_at (p i) k) i (whole (pos 0)) b

pub values-at : (d : ℕ) (p : ℕ → List Fraction) (x : Fraction) (i : ℕ) → i < d
    → number_at (values d p x) i ≡ value_at (p i) x
values-at d p x i b = at-list_of d (λ i. value_at (p i) x) i (whole (pos 0)) b

pub values-past : (d : ℕ) (p : ℕ → List Fraction) (x : Fraction) (i : ℕ) → d ≤ i
    → number_at (values d p x) i ≡ whole (pos 0)
values-past d p x i b = past-list_of d (λ i. value_at (p i) x) i (whole (pos 0)) b

pub convolved-subtract : (matrices : List Matrix) (y x : ℕ → Vector) (k i : ℕ)
    → convolved matrices (λ m. subtract_lists (y m) (x m)) k i ≡ convolved matrices y k i -ℚ convolved matrices x k i
convolved-subtract matrices y x k i =
    ap (sum_to (suc k)) (fun_ext (λ m. image-subtract (matrix_at matrices m) (y (k - m)) (x (k - m)) i))
    ∙ sum_to_sub (suc k) (λ m. number_at (image (matrix_at matrices m) (y (k - m))) i)
    (λ m. number_at (image (matrix_at matrices m) (x (k - m))) i)

-- what the matrices make of a table of polynomials
module _ (s : System) (d : ℕ) (e : ℕ → ℕ → List Fraction) (g : ℕ → List Fraction) (h : HasPolynomials s d e g) where
  pub convolved-is : (y : ℕ → Vector) (k i : ℕ) → i < d → convolved s.matrices y k i
      ≡ sum_to d (λ j. convolution (number_at (e i j)) (λ m. number_at (y m) j) k)
  convolved-is y k i low = ap (sum_to (suc k)) (fun_ext (λ m. h.entries m i (y (k - m)) low))
      ∙ sum_to_exchange (suc k) d (λ m j. number_at (e i j) m *ℚ number_at (y (k - m)) j)

  pub convolved-table : (p : ℕ → List Fraction) (k i : ℕ) → i < d → convolved s.matrices (table d p) k i
      ≡ sum_to d (λ j. convolution (number_at (e i j)) (number_at (p j)) k)
  convolved-table p k i low = convolved-is (table d p) k i low
      ∙ sum_to_ext d (λ j b. ap (λ f. convolution (number_at (e i j)) f k) (fun_ext (λ m. table-at d p m j b)))

  pub convolved-past : (y : ℕ → Vector) (k i : ℕ) → d ≤ i → convolved s.matrices y k i ≡ whole (pos 0)
  convolved-past y k i high = sum_to_zeros (suc k) (λ m b. number_at-image (matrix_at s.matrices m) (y (k - m)) i
      ∙ ap (λ r. dot r (y (k - m))) (get_or_past (matrix_at s.matrices m) i [] (past m)))
    where
      past : (m : ℕ) → length (matrix_at s.matrices m) ≤ i
      past m = let a : length (matrix_at s.matrices m) ≤ s.dimension = h.keeps.rows m in
          let b : s.dimension ≡ d = h.dimension in omega arith

  pub free-past : (k i : ℕ) → d ≤ i → number_at (vector_at s.free k) i ≡ whole (pos 0)
  free-past k i high = get_or_past (vector_at s.free k) i (whole (pos 0))
      (let a : length (vector_at s.free k) ≤ s.dimension = h.keeps.free k in
      let b : s.dimension ≡ d = h.dimension in omega arith)

-- norms and sizes
norm-longer : (norm : Norm) (x : Fraction) (v : Vector)
    → norm_of_vector norm (x ∷ v) ≤ℚ size x +ℚ norm_of_vector norm v
norm-longer Sup x v = greater_le (size x) (norm_of_vector Sup v)
    (linear (size x ∷ norm_of_vector Sup v ∷ []) (norm_natural Sup v) (hlevel claims) refl)
    (linear (size x ∷ norm_of_vector Sup v ∷ []) (size_natural x) (hlevel claims) refl)
norm-longer Sum x v = le_refl _

pub norm-list_of : (norm : Norm) (d : ℕ) (f : ℕ → Fraction)
    → norm_of_vector norm (list_of d f) ≤ℚ sum_to d (λ i. size (f i))
norm-list_of norm zero f = norm_of_none norm
norm-list_of norm (suc d) f = le_trans (norm-longer norm (f 0) (list_of d (λ i. f (suc i))))
    (rw (sum_to_first d (λ i. size (f i))) (add_mono (le_refl _) (norm-list_of norm d (λ i. f (suc i)))))

-- the sizes of the first coefficients add up to at most all of them
pub sizes_within : (p : List Fraction) (n : ℕ) → sum_to n (λ k. size (number_at p k)) ≤ℚ size_at (whole (pos 1)) p
sizes_within [] n = le_trans (sum_to_mono n (λ k b. le_of_equal size_zero)) (le_of_equal (sum_to_zero n))
sizes_within (c ∷ p) zero = size_at-natural (whole (pos 1)) (c ∷ p) (natural 1 1)
sizes_within (c ∷ p) (suc n) = rw (sum_to_first n (λ k. size (number_at (c ∷ p) k)))
    (linear (size c ∷ sum_to n (λ k. size (number_at p k)) ∷ size_at (whole (pos 1)) p ∷ [])
    (sizes_within p n) (hlevel claims) refl)

-- the norms of the vectors of a table add up to at most the sizes of the polynomials
pub norms_of_table : (norm : Norm) (d : ℕ) (p : ℕ → List Fraction) (n : ℕ)
    → sum_to n (λ k. norm_of_vector norm (table d p k)) ≤ℚ sum_to d (λ i. size_at (whole (pos 1)) (p i))
norms_of_table norm d p n = le_trans (sum_to_mono n (λ k b. norm-list_of norm d (λ i. number_at (p i) k)))
    (rw (sum_to_exchange n d (λ k i. size (number_at (p i) k))) (sum_to_mono d (λ i b. sizes_within (p i) n)))
