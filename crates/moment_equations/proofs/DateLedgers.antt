-- What the lumps of a date add to the second radius, and what a cell takes of the first one: as the law of sweeps has
-- it.
-- date by date and cell by cell.
use Rattle.std.specs.Prelude.{◌≡◌, ℕ, pos, ◌+◌, ◌*◌, ◌^◌, ◌<◌, ◌≤◌, unsigned_abs, ℤ, List, [], ◌∷◌, length, map}
use Rattle.std.specs.Int.{div_ceil}
use Rattle.std.proofs.Common.{refl, ap, sym, ◌∙◌, arith, inl, inr, pow_pos}
use Rattle.std.proofs.lemmas.Bool.{cases_lt}
use Rattle.std.proofs.lemmas.Int.{ints}
use Rattle.std.proofs.lemmas.List.{get_or_past}
use mathlib.Core.Path.{ap₂}
use Rattle.frac_laws.specs.Fraction.{Fraction, whole, size, ◌+ℚ◌, ◌-ℚ◌, ◌*ℚ◌, ◌≤ℚ◌}
use Rattle.frac_laws.specs.Lists.{Vector, number_at, scale_list}
use Rattle.frac_laws.specs.Norms.{Sup}
use Rattle.frac_laws.proofs.FractionTerms.{ring, terms}
use Rattle.frac_laws.proofs.Linear.{linear, claims, natural, ◌⊠◌}
use Rattle.frac_laws.proofs.Norms.{size_zero}
use Rattle.frac_laws.proofs.Order.{le_trans, le_of_equal}
use Rattle.frac_laws.proofs.Sizes.{size_mul, size_of_natural}
use Rattle.frac_laws.proofs.Vectors.{number_at-scale_list}
use Rattle.cell_laws.specs.ErrorLaws.{distance}
use Rattle.model_specs.specs.Product.{Product}
use Rattle.model_specs.specs.Payments.{Plan, payment_plan, lump_at, lumps_at}
use Rattle.whole_laws.specs.Whole.{greatest_natural}
use Rattle.model_specs.specs.Ledgers.{date_adds, greatest_lump, scale}
use Rattle.model_specs.specs.Runs.{Moments, before_lumps}
use Rattle.whole_laws.proofs.ListsByPlace.{at-list_of, past-list_of}
use Rattle.product_cells.specs.EachCell.{plan_scaling}
use Rattle.sweep_laws.specs.SweepLaws.{units}
use Rattle.sweep_laws.specs.PairSweepLaws.{AnswersDate}
use Rattle.moment_laws.proofs.LumpSizes.{lump_within, size-whole}
use Rattle.sweep_laws.proofs.PairSweeps.{distance_most, number_near, date_number, date_ledger}
use Rattle.sweep_laws.proofs.Sweeps.{units-order}

module _ (product : Product) (date : ℕ) (v : Moments) (w0 z0 z1 : Vector) (r s : ℕ)
    (answer : AnswersDate product date w0 z0 z1) where
  abbrev plan : Plan
  plan = payment_plan product

  abbrev h : Fraction
  h = plan_scaling product plan

  abbrev states : ℕ
  states = length product.states

  abbrev l : ℕ → Fraction
  l i = whole (lump_at plan date i)

  abbrev number : ℕ → Fraction
  number i = number_at v.second i +ℚ whole (pos 2) *ℚ l i *ℚ number_at v.first i +ℚ l i *ℚ l i

  abbrev exact : Vector
  exact = scale_list (h *ℚ h) (before_lumps product plan date v).second

  exact-at : (i : ℕ) → i < states → number_at exact i ≡ h *ℚ h *ℚ number i
  exact-at i b = number_at-scale_list (h *ℚ h) (before_lumps product plan date v).second i
      ∙ ap (λ z. h *ℚ h *ℚ z) (at-list_of states number i (whole (pos 0)) b)

  beyond : (i : ℕ) → states ≤ i → number_at exact i -ℚ number_at z1 i ≡ whole (pos 0)
  beyond i b =
      ap₂ ◌-ℚ◌ (number_at-scale_list (h *ℚ h) (before_lumps product plan date v).second i
      ∙ ap (λ z. h *ℚ h *ℚ z) (past-list_of states number i (whole (pos 0)) b))
      (get_or_past z1 i (whole (pos 0)) (omega (arith, b, answer.fits)))
      ∙ ring (h ∷ []) (hlevel terms) refl

  nothing : (z : ℤ) → unsigned_abs z ≤ 0 → z ≡ pos 0
  nothing z b = grind (arith, ints, b)

  none_at : lumps_at states plan date ≡ [] → (i : ℕ) → i < states → lump_at plan date i ≡ pos 0
  none_at none i b =
      let most : greatest_lump product plan date ≡ 0 =
      ap (λ ls. greatest_natural (map (λ (x : ℕ × ℤ). unsigned_abs x.1) ls)) none in
      nothing (lump_at plan date i) (omega (arith, lump_within product plan date i b, most))

  pub date_near : (near : distance Sup (scale_list h v.first) w0 ≤ℚ units r)
      (near_too : distance Sup (scale_list (h *ℚ h) v.second) z0 ≤ℚ units s)
      (ls : List (ℕ × ℤ)) → lumps_at states plan date ≡ ls
      → distance Sup exact z1 ≤ℚ units (s + date_adds ls (greatest_lump product plan date) r (2 ^ scale product plan))
  date_near near near_too [] none =
      distance_most exact z1 _ (natural (s + 0) (2 ^ 64)) (λ i. elim (cases_lt i states) [
        | inl b ↦ le_trans (le_of_equal (ap size (unchanged i b)))
            (le_trans (number_near (scale_list (h *ℚ h) v.second) z0 i)
            (le_trans near_too (units-order s (s + 0) (omega arith))))
        | inr b ↦ rw (beyond i b, size_zero) (natural (s + 0) (2 ^ 64))
      ])
    where
      unchanged : (i : ℕ) → i < states
          → number_at exact i -ℚ number_at z1 i ≡ number_at (scale_list (h *ℚ h) v.second) i -ℚ number_at z0 i
      unchanged i b = ap₂ ◌-ℚ◌
          (exact-at i b ∙ ap (λ x. h *ℚ h *ℚ (number_at v.second i +ℚ whole (pos 2) *ℚ whole x *ℚ number_at v.first i
          +ℚ whole x *ℚ whole x)) (none_at none i b)
          ∙ ring (h ∷ number_at v.second i ∷ number_at v.first i ∷ []) (hlevel terms) refl
          ∙ sym (number_at-scale_list (h *ℚ h) v.second i))
          (answer.no_lumps none i)
  date_near near near_too (x ∷ ls) some =
      let most = greatest_lump product plan date in
      let G = 2 ^ scale product plan in
      let total = s + (div_ceil (2 * most * r) G + 4) in
      distance_most exact z1 (units total) (natural total (2 ^ 64)) (λ i. elim (cases_lt i states) [
        | inl b ↦ le_trans (le_of_equal (ap (λ y. size (y -ℚ number_at z1 i)) (moved i b)))
            (le_trans (date_number (number_at (scale_list (h *ℚ h) v.second) i) (number_at (scale_list h v.first) i)
            (h *ℚ l i) (number_at z0 i) (number_at w0 i) (number_at z1 i) (units s) (units r) (h *ℚ whole (pos most))
            (le_trans (number_near (scale_list (h *ℚ h) v.second) z0 i) near_too)
            (le_trans (number_near (scale_list h v.first) w0 i) near) (lump_small i b) (answer.lumps i b))
            (date_ledger s most r G (pow_pos (scale product plan))))
        | inr b ↦ rw (beyond i b, size_zero) (natural total (2 ^ 64))
      ])
    where
      moved : (i : ℕ) → i < states → number_at exact i
          ≡ number_at (scale_list (h *ℚ h) v.second) i
          +ℚ whole (pos 2) *ℚ (h *ℚ l i) *ℚ number_at (scale_list h v.first) i +ℚ (h *ℚ l i) *ℚ (h *ℚ l i)
      moved i b = exact-at i b
          ∙ ring (h ∷ number_at v.second i ∷ number_at v.first i ∷ l i ∷ []) (hlevel terms) refl
          ∙ sym (ap₂ (λ p q. p +ℚ whole (pos 2) *ℚ (h *ℚ l i) *ℚ q +ℚ (h *ℚ l i) *ℚ (h *ℚ l i))
          (number_at-scale_list (h *ℚ h) v.second i) (number_at-scale_list h v.first i))

      lump_small : (i : ℕ) → i < states → size (h *ℚ l i) ≤ℚ h *ℚ whole (pos (greatest_lump product plan date))
      lump_small i b =
          let some_h = natural 1 (2 ^ scale product plan) in
          le_trans (le_of_equal (size_mul h (l i) ∙ ap (λ z. z *ℚ size (l i)) (size_of_natural some_h)))
          (linear (h ∷ size (l i) ∷ whole (pos (greatest_lump product plan date)) ∷ [])
          (size-whole (lump_at plan date i) (greatest_lump product plan date) (lump_within product plan date i b) ⊠
          some_h)
          (hlevel claims) refl)
