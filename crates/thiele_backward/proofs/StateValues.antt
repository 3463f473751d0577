-- The value of one state: from a vector near numbers at the plan's scale to an interval in minor units.
use Rattle.std.specs.Prelude.{◌≡◌, ℕ, pos, ◌-◌, ◌^◌, ◌<◌, ◌≤◌, min, ℤ, List, [], ◌∷◌, length, replicate}
use Rattle.std.specs.Prelude.{slice_index_or}
use Rattle.std.proofs.Common.{refl, ap, sym, ◌∙◌, arith, inl, inr, pow_pos}
use Rattle.std.proofs.lemmas.Bool.{cases_lt}
use Rattle.frac_laws.specs.Fraction.{Fraction, over, whole, size, ◌-ℚ◌, ◌*ℚ◌, ◌≤ℚ◌}
use Rattle.frac_laws.specs.Lists.{Vector, number_at, scale_list, subtract_lists}
use Rattle.frac_laws.specs.Norms.{Sup, norm_of_vector}
use Rattle.frac_laws.proofs.FractionTerms.{ring, terms}
use Rattle.frac_laws.proofs.Linear.{natural}
use Rattle.frac_laws.proofs.Norms.{norm-same}
use Rattle.frac_laws.proofs.Order.{le_trans, le_of_equal}
use Rattle.frac_laws.proofs.Quotients.{inverse}
use Rattle.frac_laws.proofs.Vectors.{number_at-scale_list, number_at-subtract_lists}
use Rattle.named_numbers.specs.Numbers.{pay_unit}
use Rattle.model_specs.specs.Product.{Product}
use Rattle.model_specs.specs.Payments.{Plan}
use Rattle.model_specs.specs.Cells.{Backward, cells_of_32}
use Rattle.model_specs.specs.Ledgers.{radius, bound_before_term}
use Rattle.model_specs.specs.Runs.{first_before_term}
use Rattle.model_laws.proofs.CellEntries.{list-length}
use Rattle.whole_laws.proofs.ListsByPlace.{at-list_of, past-list_of}
use Rattle.product_cells.specs.EachCell.{plan_scaling}
use Rattle.sweep_laws.proofs.PairSweeps.{number_near}
use Rattle.thiele_backward.specs.MonthRuns.{AreWithin, IsNearAt}
use Rattle.thiele_backward.proofs.SweepSteps.{radius_some}
use Rattle.linear_system.proofs.NumbersInUnits.{zeros_none, at-units}
use Rattle.linear_system.specs.StandsFor.{in_units}

pub state_near : (product : Product) (plan : Plan) (rad : ℕ) (values : Vector) (mid : List ℤ) (state : ℕ)
    → AreWithin product plan rad values mid → state < length mid
    → size (plan_scaling product plan *ℚ number_at values state -ℚ over (slice_index_or mid state (pos 0)) (2 ^ 64))
    ≤ℚ over (pos rad) (2 ^ 64)
state_near product plan rad values mid state near b =
    let h = plan_scaling product plan in
    le_trans (le_of_equal (ap size (ap (λ x. x -ℚ over (slice_index_or mid state (pos 0)) (2 ^ 64))
    (sym (number_at-scale_list h values state))
    ∙ ap (λ y. number_at (scale_list h values) state -ℚ y) (sym (at-units mid state b)))))
    (le_trans (number_near (scale_list h values) (in_units mid) state) near)

-- G times a value divided by G
pub unscaled : (g : ℕ) (v : Fraction) → whole (pos (2 ^ g)) *ℚ (over (pos 1) (2 ^ g) *ℚ v) ≡ v
unscaled g v = join (whole (pos (2 ^ g))) (over (pos 1) (2 ^ g)) v (inverse (2 ^ g) (pow_pos g))
  where
    join : (G h v : Fraction) → G *ℚ h ≡ whole (pos 1) → G *ℚ (h *ℚ v) ≡ v
    join G h v is =
        ring (G ∷ h ∷ v ∷ []) (hlevel terms) refl ∙ ap (λ x. x *ℚ v) is ∙ ring (v ∷ []) (hlevel terms) refl

-- the unit to spare is there where a month was gone back
pub spare_within : (product : Product) (begun left rad : ℕ) → rad ≡ radius product left → begun ≤ product.months
    → rad - (rad - min 1 (begun - left)) ≡ min 1 (begun - left)
spare_within product begun left rad is within = elim (cases_lt left begun) [
  | inl less ↦ omega (arith, is, radius_some product left (omega (arith, less, within)))
  | inr most ↦ omega (arith, most)
]

-- nothing at the term
none_at : (product : Product) (plan : Plan) (n i : ℕ)
    → number_at (first_before_term (cells_of_32 Backward) product plan n 0) i ≡ whole (pos 0)
none_at product plan n i = elim (cases_lt i (length product.states)) [
  | inl b ↦ at-list_of (length product.states) (λ k. whole (pos 0)) i (whole (pos 0)) b
  | inr past ↦ past-list_of (length product.states) (λ k. whole (pos 0)) i (whole (pos 0)) past
]

pub zeros_near : (product : Product) (plan : Plan) (n : ℕ)
    → IsNearAt product plan product.months (replicate (length product.states) (pos 0))
    (first_before_term (cells_of_32 Backward) product plan n 0)
zeros_near product plan n =
    let zeros = first_before_term (cells_of_32 Backward) product plan n 0 in
    let h = plan_scaling product plan in
    let numbers = in_units (replicate (length product.states) (pos 0)) in
    let none : norm_of_vector Sup zeros
    ≡ norm_of_vector Sup [] = norm-same Sup zeros [] (λ i. none_at product plan n i) in
    record {
      begins = record {
        fits = list-length (length product.states) (λ i. whole (pos 0));
        within = le_trans (le_of_equal (ap (λ x. whole (pos pay_unit) *ℚ x) none ∙ ring [] (hlevel terms) refl))
            (natural (bound_before_term product plan (product.months - product.months)) 1);
      };
      near = le_trans (le_of_equal (norm-same Sup (subtract_lists (scale_list h zeros) numbers) [] (λ i.
          number_at-subtract_lists (scale_list h zeros) numbers i
          ∙ gone h (number_at (scale_list h zeros) i) (number_at zeros i) (number_at numbers i)
          (number_at-scale_list h zeros i) (none_at product plan n i) (zeros_none (length product.states) i))))
          (natural (radius product product.months) (2 ^ 64));
    }
  where
    gone : (h s x y : Fraction) → s ≡ h *ℚ x → x ≡ whole (pos 0) → y ≡ whole (pos 0) → s -ℚ y ≡ whole (pos 0)
    gone h s x y is none zero = rw (is, none, zero) (ring (h ∷ []) (hlevel terms) refl)
