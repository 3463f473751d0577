-- A product of one state without interest: what is paid adds up.
use Rattle.std.specs.Prelude.{◌≡◌, ℕ, zero, suc, ◌+◌, ◌-◌, ◌*◌, ◌≤◌, ℤ, pos, negsuc, List, [], ◌∷◌}
use Rattle.std.specs.Prelude.{length, refl}
use Rattle.std.proofs.Common.{ap, ◌∙◌, inl, inr, lit≤, lit<}
use Rattle.std.proofs.Math.Dec.{leb-zero}
use Rattle.std.proofs.lemmas.Bool.Decides.{eqb_tells}
use Rattle.frac_laws.specs.Fraction.{Fraction, whole, over, ◌+ℚ◌, ◌*ℚ◌}
use Rattle.frac_laws.specs.Lists.{Vector, number_at, add_lists}
use Rattle.frac_laws.specs.Polynomials.{shifted, stretched}
use Rattle.frac_laws.proofs.FractionTerms.{ring, terms}
use Rattle.frac_laws.proofs.Quotients.{over_is}
use Rattle.frac_laws.proofs.Vectors.{number_at-scale_list, number_at-add_lists}
use Rattle.model_specs.specs.Curve.{piece_at}
use Rattle.model_specs.specs.Product.{Lump}
use Rattle.model_specs.specs.Payments.{payment_plan, constant_step, sojourn_at, lump_at}
use Rattle.model_specs.specs.Cells.{CellCurves, Backward, cells_of_32, cell_curves}
use Rattle.model_specs.specs.Systems.{thiele_system, interest_at, sojourn_rate_at}
use Rattle.model_specs.specs.Runs.{first_before_term, lump_vector}
use Rattle.model_laws.specs.Examples.{constant_curve}
use Rattle.model_laws.specs.FlatLaws.{steady_product, FlatMonthsAddUp}
use Rattle.model_laws.proofs.FlatCells.{IsFlatCell, cell_adds, month_adds}

-- the one piece of a constant curve, and the one step of a steady payment, hold in each month
pub piece-constant : (c : ℤ) (month : ℕ) → piece_at (constant_curve c) month
    ≡ record { from = 0; c = c ∷ pos 0 ∷ pos 0 ∷ pos 0 ∷ pos 0 ∷ pos 0 ∷ [] }
piece-constant c month = rw (leb-zero month) refl

pub step-constant : (months month : ℕ) (amount : ℤ) (lumps : List Lump)
    → sojourn_at (payment_plan (steady_product months amount lumps)) 0 month ≡ constant_step 0 amount
step-constant months month amount lumps = rw (leb-zero month) refl

-- a constant stays one where it is moved and stretched
pub constant-number : (h b x : Fraction) (i : ℕ)
    → number_at (stretched h (shifted b (x ∷ whole (pos 0) ∷ whole (pos 0) ∷ whole (pos 0) ∷ []))) i
    ≡ number_at (x ∷ []) i
constant-number h b x zero = ring (h ∷ b ∷ x ∷ []) (hlevel terms) refl
constant-number h b x (suc zero) = ring (h ∷ b ∷ x ∷ []) (hlevel terms) refl
constant-number h b x (suc (suc zero)) = ring (h ∷ b ∷ x ∷ []) (hlevel terms) refl
constant-number h b x (suc (suc (suc zero))) = ring (h ∷ b ∷ x ∷ []) (hlevel terms) refl
constant-number h b x (suc (suc (suc (suc i)))) = refl

-- and a curve that is 0 stays so
abbrev six_zeros : List Fraction
six_zeros = whole (pos 0) ∷ whole (pos 0) ∷ whole (pos 0) ∷ whole (pos 0) ∷ whole (pos 0) ∷ whole (pos 0) ∷ []

pub zero-number : (h b : Fraction) (i : ℕ) → number_at (stretched h (shifted b six_zeros)) i ≡ whole (pos 0)
zero-number h b zero = ring (h ∷ b ∷ []) (hlevel terms) refl
zero-number h b (suc zero) = ring (h ∷ b ∷ []) (hlevel terms) refl
zero-number h b (suc (suc zero)) = ring (h ∷ b ∷ []) (hlevel terms) refl
zero-number h b (suc (suc (suc zero))) = ring (h ∷ b ∷ []) (hlevel terms) refl
zero-number h b (suc (suc (suc (suc zero)))) = ring (h ∷ b ∷ []) (hlevel terms) refl
zero-number h b (suc (suc (suc (suc (suc zero))))) = ring (h ∷ b ∷ []) (hlevel terms) refl
zero-number h b (suc (suc (suc (suc (suc (suc i)))))) = refl

module _ (months : ℕ) (amount : ℤ) (lumps : List Lump) where
  abbrev pub flat_cell : ℕ → ℕ → CellCurves
  flat_cell month cell = cell_curves (cells_of_32 Backward) (steady_product months amount lumps)
      (payment_plan (steady_product months amount lumps)) month cell

  abbrev pub paid : Fraction
  paid = over (pos 1) 384 *ℚ over amount 1

  -- where x is 0 in a cell of a month, in years
  abbrev cell_end : ℕ → ℕ → Fraction
  cell_end month cell = over (pos (suc ((month - 0) * 32 + cell))) 384

  interest-none : (month cell m : ℕ) → interest_at (flat_cell month cell) m ≡ whole (pos 0)
  interest-none month cell m = rw (piece-constant (pos 0) month)
      (number_at-scale_list (over (pos 1) 384)
      (stretched (over (negsuc 0) 384) (shifted (cell_end month cell) six_zeros)) m
      ∙ ap (λ z. over (pos 1) 384 *ℚ z) (zero-number (over (negsuc 0) 384) (cell_end month cell) m)
      ∙ ring [] (hlevel terms) refl)

  rate-is : (month cell m : ℕ) → sojourn_rate_at (flat_cell month cell) 0 m
      ≡ over (pos 1) 384 *ℚ number_at (over amount 1 ∷ []) m
  rate-is month cell m = rw (step-constant months month amount lumps)
      (number_at-scale_list (over (pos 1) 384) (stretched (over (negsuc 0) 384) (shifted (cell_end month cell)
      (over amount 1 ∷ whole (pos 0) ∷ whole (pos 0) ∷ whole (pos 0) ∷ []))) m
      ∙ ap (λ z. over (pos 1) 384 *ℚ z)
      (constant-number (over (negsuc 0) 384) (cell_end month cell) (over amount 1) m))

  pub flat : (month cell : ℕ) → IsFlatCell (flat_cell month cell) paid
  flat month cell = record {
    quintic = record {
      interest = rw (piece-constant (pos 0) month) (lit≤ tt);
      intensity = λ i j. lit≤ tt;
      sojourn = λ i. four i month cell;
      sum = λ i j. lit≤ tt;
    };
    some = lit< tt;
    interest = interest-none month cell;
    intensity = λ i j m. refl;
    rate = rate-is month cell 0;
    constant = λ m. rate-is month cell (suc m) ∙ ring [] (hlevel terms) refl;
  }
    where
      four : (i month cell : ℕ) → length ((flat_cell month cell).sojourn i) ≤ 4
      four i month cell = elim (eqb_tells 0 i) [
        | inl same ↦ rw (same.0, leb-zero month) (lit≤ tt)
        | inr other ↦ rw other.0 (lit≤ tt)
      ]

  -- a month back adds the lumps of its end, and 32 times what a cell pays
  month-adds : (n k : ℕ) →
      number_at (first_before_term (cells_of_32 Backward) (steady_product months amount lumps)
      (payment_plan (steady_product months amount lumps)) (suc n) (suc k)) 0
      ≡ number_at (first_before_term (cells_of_32 Backward) (steady_product months amount lumps)
      (payment_plan (steady_product months amount lumps)) (suc n) k) 0
      +ℚ whole (lump_at (payment_plan (steady_product months amount lumps)) (suc (months - suc k)) 0)
      +ℚ over amount 12
  month-adds n k =
      month_adds (λ cell. thiele_system (flat_cell (months - suc k) cell)) paid (suc n) 32
      (λ cell v. cell_adds (flat_cell (months - suc k) cell) paid (flat (months - suc k) cell) v n)
      (add_lists before (lump_vector (steady_product months amount lumps)
      (payment_plan (steady_product months amount lumps)) (suc (months - suc k))))
      ∙ rw (
        number_at-add_lists before (lump_vector (steady_product months amount lumps)
            (payment_plan (steady_product months amount lumps)) (suc (months - suc k))) 0,
        over_is amount 1,
        over_is amount 12,
      )
      (ring (number_at before 0
      ∷ whole (lump_at (payment_plan (steady_product months amount lumps)) (suc (months - suc k)) 0)
      ∷ whole amount ∷ []) (hlevel terms) refl)
    where
      before : Vector
      before = first_before_term (cells_of_32 Backward) (steady_product months amount lumps)
          (payment_plan (steady_product months amount lumps)) (suc n) k

pub flat_months_add_up : FlatMonthsAddUp
flat_months_add_up months n k amount lumps = month-adds months amount lumps n k
