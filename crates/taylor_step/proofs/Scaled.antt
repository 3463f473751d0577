-- The whole-number step, in units: the sum that each rounded number is the floor of.
use Rattle.std.specs.Prelude.{◌≡◌, ℕ, suc, zero, pos, ℤ, List, [], ◌∷◌, ◌++◌, length, refl, ◌<◌, ◌≤◌, ◌+◌}
use Rattle.std.specs.Prelude.{◌*◌, ◌-◌, ◌^◌, Bool, true, false, cond, nat_eq, slice_index_or}
use Rattle.std.proofs.Common.{ap, sym, ◌∙◌, arith}
use Rattle.std.proofs.lemmas.List.{get_or_past}
use mathlib.Core.Path.{ap₂}
use mathlib.Core.Quot.{sound}
use Rattle.taylor_step.proofs.Sparse.{row_sum}
use Rattle.taylor_step.proofs.Turns.{past_rows}
use Rattle.taylor_step.specs.WholeRun.{strip, past, coefficient}
use Rattle.fixed_num.specs.Products.{sum_of_products}
use Rattle.linear_system.specs.StoredSystem.{StoredSystem, StoredRow, row_of, dim_of, stored_number}
use Rattle.linear_system.specs.StoredSystem.{stored_free, number_in_row, place_of, AreDistinct, IsSystem}
use Rattle.linear_system.specs.StoredSystem.{IsRow}
use Rattle.frac_laws.proofs.FractionTerms.{ring, terms}
use Rattle.taylor_step.proofs.SumForms.{sums_equal}
use Rattle.frac_laws.proofs.Sums.{sum_to_add, sum_to_scale, sum_to_zero}
use Rattle.frac_laws.specs.Fraction.{Fraction, over, whole, ◌+ℚ◌, ◌*ℚ◌}
use Rattle.frac_laws.specs.Sums.{sum_to}
use Rattle.frac_laws.proofs.Quotients.{over_is}
use Rattle.taylor_step.specs.RoundedRun.{stored_image}
use Rattle.linear_system.specs.StandsFor.{units}

abbrev pub unit : Fraction
unit = over (pos 1) (2 ^ 64)

pub units_is : (n : ℤ) → units n ≡ whole n *ℚ unit
units_is n = over_is n (2 ^ 64)

pub sum_longer : (n e : ℕ) (f : ℕ → Fraction) → ((m : ℕ) → n ≤ m → f m ≡ whole (pos 0))
    → sum_to (n + e) f ≡ sum_to n f
sum_longer n zero f h = let e : n + 0 ≡ n = omega arith in rw e refl
sum_longer n (suc e) f h = let q : n + suc e ≡ suc (n + e) =
    omega arith in rw q (ap₂ ◌+ℚ◌ (sum_longer n e f h) (h (n + e) (omega arith)) ∙ ring (sum_to n f ∷ [])
    (hlevel terms) refl)

-- two ends, past each of which all is 0
sum_both : (n k : ℕ) (f : ℕ → Fraction) → ((m : ℕ) → n ≤ m → f m ≡ whole (pos 0))
    → ((m : ℕ) → k ≤ m → f m ≡ whole (pos 0)) → sum_to n f ≡ sum_to k f
sum_both n k f h g = sym (sum_longer n k f h) ∙ (let q : n + k ≡ k + n =
    omega arith in rw q (sum_longer k n f g))

pub past-back : (s : StoredSystem) (mid : List ℤ) (k m c : ℕ) → m ≤ k
    → past s mid k m c ≡ coefficient s mid (k - m) c
unfolding past
past-back s mid k zero c h = let e : k - 0 ≡ k = omega arith in rw e refl
past-back s mid zero (suc m) c h = absurd (omega arith)
past-back s mid (suc k) (suc m) c h = let e : suc k - suc m ≡ k - m =
    omega arith in rw e (past-back s mid k m c (omega arith))

pub past-none : (s : StoredSystem) (mid : List ℤ) (k m c : ℕ) → suc k ≤ m → past s mid k m c ≡ pos 0
unfolding past
past-none s mid k zero c h = absurd (omega arith)
past-none s mid zero (suc m) c h = refl
past-none s mid (suc k) (suc m) c h = past-none s mid k m c (omega arith)

pub free-first : (s : StoredSystem) (mid : List ℤ) → length mid ≡ dim_of s
    → coefficient s mid 0 (dim_of s) ≡ pos (2 ^ 64)
unfolding past
free-first s mid l = at_end mid (dim_of s) l
  where
    at_end : (mid : List ℤ) (d : ℕ) → length mid ≡ d
        → slice_index_or (mid ++ pos (2 ^ 64) ∷ []) d (pos 0) ≡ pos (2 ^ 64)
    at_end [] zero l = refl
    at_end [] (suc d) l = absurd (omega arith)
    at_end (x ∷ mid) zero l = absurd (omega arith)
    at_end (x ∷ mid) (suc d) l = at_end mid d (omega arith)

pub free-later : (s : StoredSystem) (mid : List ℤ) (k : ℕ) → coefficient s mid (suc k) (dim_of s) ≡ pos 0
unfolding past
free-later s mid k = past_rows s (past s mid k) k

-- past the greatest power a row has no number
pub number_beyond : (r : StoredRow) (top j m : ℕ) → length r.numbers ≡ (top + 1) * length r.columns
    → top + 1 ≤ m → number_in_row r j m ≡ pos 0
number_beyond r top j m l h = cases (nat_eq (place_of r.columns j) (length r.columns))
    (get_or_past r.numbers (m * length r.columns + place_of r.columns j) (pos 0)
    (far top m (length r.columns) _ _ l h))
  where
    far : (top m w p n : ℕ) → n ≡ (top + 1) * w → top + 1 ≤ m → n ≤ m * w + p
    far top m w p n e h = grind arith

    cases : (b : Bool) → slice_index_or r.numbers (m * length r.columns + place_of r.columns j) (pos 0) ≡ pos
        0 → cond b (pos 0) (slice_index_or r.numbers (m * length r.columns + place_of r.columns j) (pos 0)) ≡
        pos 0
    cases true g = refl
    cases false g = g

pub no_units : units (pos 0) ≡ whole (pos 0)
no_units = units_is (pos 0) ∙ ring [] (hlevel terms) refl

nothing_times : (x : Fraction) → units (pos 0) *ℚ x ≡ whole (pos 0)
nothing_times x = ap (λ z. z *ℚ x) no_units ∙ ring (x ∷ []) (hlevel terms) refl

times_nothing : (x : Fraction) → x *ℚ units (pos 0) ≡ whole (pos 0)
times_nothing x = ap (λ z. x *ℚ z) no_units ∙ ring (x ∷ []) (hlevel terms) refl

one_unit : units (pos (2 ^ 64)) ≡ whole (pos 1)
one_unit = sound refl

module _ (s : StoredSystem) (mid : List ℤ) (sys : IsSystem s) (long : length mid ≡ dim_of s) (i : ℕ)
    (b : i < dim_of s) (apart : AreDistinct (suc (dim_of s)) (row_of s i).columns) where
  term : ℕ → ℕ → Fraction
  term k m = stored_image s m (past s mid k m) i

  last : ℕ → ℕ → Fraction
  last k m = units (stored_free s i m) *ℚ units (past s mid k m (dim_of s))

  at_power : (k m : ℕ) → sum_to (suc (dim_of s)) (λ j. whole (number_in_row (row_of s i) j m) *ℚ whole
      (past s mid k m j)) *ℚ (unit *ℚ unit) ≡ term k m +ℚ last k m
  unfolding term last
  at_power k m = scaled (suc (dim_of s)) (λ j. number_in_row (row_of s i) j m) (past s mid k m)
    where
      scaled : (n : ℕ) (f g : ℕ → ℤ) → sum_to n (λ j. whole (f j) *ℚ whole (g j)) *ℚ (unit *ℚ unit) ≡ sum_to n
          (λ j. units (f j) *ℚ units (g j))
      scaled n f g = ring (sum_to n (λ j. whole (f j) *ℚ whole (g j)) ∷ unit ∷ []) (hlevel terms) refl ∙ sym
          (sum_to_scale n (unit *ℚ unit) (λ j. whole (f j) *ℚ whole (g j)))
          ∙ sums_equal n _ _ (λ j c. ring (whole (f j) ∷ whole (g j) ∷ unit ∷ []) (hlevel terms) refl ∙ sym
          (ap₂ ◌*ℚ◌ (units_is (f j)) (units_is (g j))))

  row : IsRow (dim_of s) s.degree (row_of s i)
  row = sys.each i b

  term-far : (k m : ℕ) → suc s.degree ≤ m → term k m ≡ whole (pos 0)
  unfolding term
  term-far k m h = sums_equal (dim_of s) _ (λ j. whole (pos 0))
      (λ j c. ap (λ z. units z *ℚ units (past s mid k m j))
      (number_beyond (row_of s i) s.degree j m row.full (omega arith)) ∙ nothing_times
      (units (past s mid k m j))) ∙ sum_to_zero (dim_of s)

  term-early : (k m : ℕ) → suc k ≤ m → term k m ≡ whole (pos 0)
  unfolding term
  term-early k m h = sums_equal (dim_of s) _ (λ j. whole (pos 0))
      (λ j c. ap (λ z. units (stored_number s i j m) *ℚ units z) (past-none s mid k m j h) ∙ times_nothing
      (units (stored_number s i j m))) ∙ sum_to_zero (dim_of s)

  last-far : (k m : ℕ) → suc s.degree ≤ m → last k m ≡ whole (pos 0)
  unfolding last
  last-far k m h = ap (λ z. units z *ℚ units (past s mid k m (dim_of s)))
      (number_beyond (row_of s i) s.degree (dim_of s) m row.full (omega arith)) ∙ nothing_times
      (units (past s mid k m (dim_of s)))

  last-early : (k m : ℕ) → suc k ≤ m → last k m ≡ whole (pos 0)
  unfolding last
  last-early k m h = ap (λ z. units (stored_free s i m) *ℚ units z) (past-none s mid k m (dim_of s) h) ∙
      times_nothing (units (stored_free s i m))

  last-before : (k m : ℕ) → m < k → last k m ≡ whole (pos 0)
  unfolding last
  last-before k m h = ap (λ z. units (stored_free s i m) *ℚ units z)
      (past-back s mid k m (dim_of s) (omega arith) ∙ later (k - m) (omega arith)) ∙ times_nothing
      (units (stored_free s i m))
    where
      later : (q : ℕ) → 0 < q → coefficient s mid q (dim_of s) ≡ pos 0
      later zero c = absurd (omega arith)
      later (suc q) c = free-later s mid q

  last-now : (k : ℕ) → last k k ≡ units (stored_free s i k)
  unfolding last
  last-now k = ap (λ z. units (stored_free s i k) *ℚ units z)
      (past-back s mid k k (dim_of s) (omega arith) ∙
      (let e : k - k ≡ 0 = omega arith in ap (λ q. coefficient s mid q (dim_of s)) e) ∙ free-first s mid long)
      ∙ ap (λ z. units (stored_free s i k) *ℚ z) one_unit ∙ ring (units (stored_free s i k) ∷ [])
      (hlevel terms) refl

  terms_are : (k : ℕ) → sum_to (suc k) (term k) ≡ sum_to (suc k)
      (λ m. stored_image s m (coefficient s mid (k - m)) i)
  unfolding term
  terms_are k = sums_equal (suc k) _ _ (λ m c. sums_equal (dim_of s) _ _
      (λ j d. ap (λ z. units (stored_number s i j m) *ℚ units z) (past-back s mid k m j (omega arith))))

  -- the exact sum, in units, that the coefficient coefficient k + 1 is the floor of
  pub exact_sum : (k : ℕ) → whole (sum_of_products (row_of s i).numbers
      (strip (row_of s i).columns (past s mid k) (suc s.degree))) *ℚ (unit *ℚ unit)
      ≡ sum_to (suc k) (λ m. stored_image s m (coefficient s mid (k - m)) i) +ℚ units (stored_free s i k)
  exact_sum k = ap (λ z. z *ℚ (unit *ℚ unit)) (row_sum (suc (dim_of s)) (row_of s i) (past s mid k)
      (suc s.degree) apart (row.full ∙ (let e : (s.degree + 1) * length (row_of s i).columns ≡ suc s.degree *
      length (row_of s i).columns = grind arith in e)))
      ∙ ring (sum_to (suc s.degree) (λ m. sum_to (suc (dim_of s))
      (λ j. whole (number_in_row (row_of s i) j m) *ℚ whole (past s mid k m j))) ∷ unit ∷ [])
      (hlevel terms) refl
      ∙ sym (sum_to_scale (suc s.degree) (unit *ℚ unit)
      (λ m. sum_to (suc (dim_of s)) (λ j. whole (number_in_row (row_of s i) j m) *ℚ whole
      (past s mid k m j))))
      ∙ sums_equal (suc s.degree) _ (λ m. term k m +ℚ last k m)
      (λ m c. ring ((unit *ℚ unit) ∷ sum_to (suc (dim_of s))
      (λ j. whole (number_in_row (row_of s i) j m) *ℚ whole (past s mid k m j)) ∷ []) (hlevel terms) refl
      ∙ at_power k m)
      ∙ sum_to_add (suc s.degree) (term k) (last k)
      ∙ ap₂ ◌+ℚ◌ (sum_both (suc s.degree) (suc k) (term k) (term-far k) (term-early k) ∙ terms_are k)
      (sum_both (suc s.degree) (suc k) (last k) (last-far k) (last-early k) ∙ ap₂ ◌+ℚ◌
      (sums_equal k (last k) (λ m. whole (pos 0)) (last-before k) ∙ sum_to_zero k) (last-now k) ∙ ring
      (units (stored_free s i k) ∷ []) (hlevel terms) refl)
