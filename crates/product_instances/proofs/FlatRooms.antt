-- Two states that are never left, without interest: what a plan pays in one of them adds up.
use Rattle.std.specs.Prelude.{◌≡◌, ℕ, zero, suc, ◌+◌, ◌-◌, ◌*◌, ◌<◌, ◌≤◌, ℤ, pos, negsuc, List, [], ◌∷◌, refl}
use Rattle.std.proofs.Common.{ap, ◌∙◌, lit≤, arith}
use Rattle.frac_laws.specs.Fraction.{Fraction, whole, over, ◌+ℚ◌, ◌*ℚ◌}
use Rattle.frac_laws.specs.Lists.{Vector, number_at, add_lists}
use Rattle.frac_laws.specs.Polynomials.{shifted, stretched}
use Rattle.frac_laws.proofs.FractionTerms.{ring, terms}
use Rattle.frac_laws.proofs.Quotients.{over_is, whole_suc}
use Rattle.frac_laws.proofs.Vectors.{number_at-scale_list, number_at-add_lists}
use Rattle.model_specs.specs.Product.{Product, Sojourn, Lump, PremiumPattern}
use Rattle.model_specs.specs.Payments.{Plan, constant_step, sojourn_at, lump_at}
use Rattle.model_specs.specs.Cells.{CellCurves, Backward, cells_of_32, cell_curves}
use Rattle.model_specs.specs.Systems.{thiele_system, interest_at, sojourn_rate_at}
use Rattle.model_specs.specs.Runs.{first_before_term, lump_vector}
use Rattle.model_laws.proofs.FlatRuns.{piece-constant, constant-number, zero-number}
use Rattle.whole_laws.proofs.ListsByPlace.{at-list_of}
use Rattle.product_instances.specs.FlatRows.{two_rooms}
use Rattle.product_instances.proofs.FlatStates.{IsFlatIn, cell_adds, month_adds}

module _ (start months : ℕ) (sojourns : List Sojourn) (lumps : List Lump) (pattern : PremiumPattern) (plan : Plan)
    (amount : ℕ → ℤ) (steady_at : (month j : ℕ) → month < months → sojourn_at plan j month ≡ constant_step 0 (amount j))
    (i : ℕ) (inside : i < 2) where
  abbrev product : Product
  product = two_rooms start months sojourns lumps pattern

  abbrev cell_at : ℕ → ℕ → CellCurves
  cell_at month cell = cell_curves (cells_of_32 Backward) product plan month cell

  abbrev paid : Fraction
  paid = over (pos 1) 384 *ℚ over (amount i) 1

  -- where x is 0 in a cell of a month, in years
  abbrev cell_end : ℕ → ℕ → Fraction
  cell_end month cell = over (pos (suc ((month - 0) * 32 + cell))) 384

  abbrev none : List Fraction
  none = whole (pos 0) ∷ whole (pos 0) ∷ whole (pos 0) ∷ whole (pos 0) ∷ whole (pos 0) ∷ whole (pos 0) ∷ []

  interest-none : (month cell m : ℕ) → interest_at (cell_at month cell) m ≡ whole (pos 0)
  interest-none month cell m = rw (piece-constant (pos 0) month)
      (number_at-scale_list (over (pos 1) 384) (stretched (over (negsuc 0) 384) (shifted (cell_end month cell)
      none)) m
      ∙ ap (λ z. over (pos 1) 384 *ℚ z) (zero-number (over (negsuc 0) 384) (cell_end month cell) m)
      ∙ ring [] (hlevel terms) refl)

  rate-is : (month cell m : ℕ) → month < months → sojourn_rate_at (cell_at month cell) i m
      ≡ over (pos 1) 384 *ℚ number_at (over (amount i) 1 ∷ []) m
  rate-is month cell m b = rw (steady_at month i b)
      (number_at-scale_list (over (pos 1) 384) (stretched (over (negsuc 0) 384) (shifted (cell_end month cell)
      (over (amount i) 1 ∷ whole (pos 0) ∷ whole (pos 0) ∷ whole (pos 0) ∷ []))) m
      ∙ ap (λ z. over (pos 1) 384 *ℚ z)
      (constant-number (over (negsuc 0) 384) (cell_end month cell) (over (amount i) 1) m))

  flat : (month cell : ℕ) → month < months → IsFlatIn (cell_at month cell) i paid
  flat month cell b = record {
    quintic = record {
      interest = rw (piece-constant (pos 0) month) (lit≤ tt);
      intensity = λ i j. lit≤ tt;
      sojourn = λ j. rw (steady_at month j b) (lit≤ tt);
      sum = λ i j. lit≤ tt;
    };
    inside = inside;
    interest = interest-none month cell;
    intensity = λ j m. refl;
    rate = rate-is month cell 0 b;
    constant = λ m. rate-is month cell (suc m) b ∙ ring [] (hlevel terms) refl;
  }

  -- a month back adds the lump of its end, and a twelfth of what is paid a year
  pub month-adds : (n k : ℕ) → k < months →
      number_at (first_before_term (cells_of_32 Backward) product plan (suc n) (suc k)) i
      ≡ number_at (first_before_term (cells_of_32 Backward) product plan (suc n) k) i
      +ℚ whole (lump_at plan (suc (months - suc k)) i) +ℚ over (amount i) 12
  month-adds n k b =
      let before : Vector = first_before_term (cells_of_32 Backward) product plan (suc n) k in
      let month = months - suc k in
      let low : month < months = omega (arith, b) in
      month_adds (λ cell. thiele_system (cell_at month cell)) i paid (suc n) 32
      (λ cell v. cell_adds (cell_at month cell) i paid (flat month cell low) v n)
      (add_lists before (lump_vector product plan (suc month)))
      ∙ rw (
        number_at-add_lists before (lump_vector product plan (suc month)) i,
        at-list_of 2 (λ i. whole (lump_at plan (suc month) i)) i (whole (pos 0)) inside,
        over_is (amount i) 1,
        over_is (amount i) 12,
      )
      (ring (number_at before i ∷ whole (lump_at plan (suc month) i) ∷ whole (amount i) ∷ []) (hlevel terms) refl)

  -- without lumps
  pub adds-up : ((date : ℕ) → lump_at plan date i ≡ pos 0) → (n k : ℕ) → k ≤ months
      → number_at (first_before_term (cells_of_32 Backward) product plan (suc n) k) i
      ≡ whole (pos k) *ℚ over (amount i) 12
  adds-up no_lumps n zero b =
      at-list_of 2 (λ i. whole (pos 0)) i (whole (pos 0)) inside ∙ ring (over (amount i) 12 ∷ []) (hlevel terms) refl
  adds-up no_lumps n (suc k) b = month-adds n k (omega (arith, b))
      ∙ rw (adds-up no_lumps n k (omega (arith, b)), no_lumps (suc (months - suc k)), whole_suc k)
      (ring (whole (pos k) ∷ over (amount i) 12 ∷ []) (hlevel terms) refl)
