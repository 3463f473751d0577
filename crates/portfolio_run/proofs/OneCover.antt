-- Which holdings a portfolio covers depends on the products of its files alone.
use Rattle.std.proofs.Common.{◌≡◌, ℕ, ◌<◌, List, length, map, take, get_or, slice_get, refl, sym, ap, subst, ◌∙◌, arith}
use Rattle.std.specs.Prelude.{All, Some}
use Rattle.std.specs.Option.{option_map}
use Rattle.std.proofs.lemmas.List.{get_or-take, length-take}
use Rattle.std.proofs.lemmas.Option.{get_or_from_slice_get, slice_get-map, slice_get_within}
use Rattle.model_specs.specs.Product.{Product}
use Rattle.rule_breaks.specs.declared.breaks.RowBreak.{RowBreak}
use Rattle.portfolio_run.specs.declared.valued.Missing.{Missing}
use Rattle.portfolio_run.specs.declared.valued.Missing.TheVariants as missing
use Rattle.portfolio_run.specs.Holdings.{Holding}
use Rattle.portfolio_run.specs.Names.{place_in}
use Rattle.portfolio_run.specs.Readings.{files_of}
use Rattle.portfolio_run.specs.Stored.{portfolio_of}
use Rattle.portfolio_run.specs.Totals.{HasItsReserve, IsFirstUncovered, valued_for}
use Rattle.portfolio_run.specs.Values.{HasReserve, IsMissing, ValuedProduct, part_of_missing}

-- what is valued at a place has the product at that place
same_product : (v w : List ValuedProduct) (k : ℕ) (a b : ValuedProduct)
    → map (λ x. x.product) v ≡ map (λ x. x.product) w → slice_get v k ≡ Some a → slice_get w k ≡ Some b
    → a.product ≡ b.product
same_product v w k a b same x y =
    let left : slice_get (map (λ z. z.product) v) k ≡ Some a.product =
    slice_get-map (λ z. z.product) v k ∙ ap (option_map (λ z. z.product)) x in
    let right : slice_get (map (λ z. z.product) w) k ≡ Some b.product =
    slice_get-map (λ z. z.product) w k ∙ ap (option_map (λ z. z.product)) y in
    let both : slice_get (map (λ z. z.product) v) k ≡ slice_get (map (λ z. z.product) w) k =
    ap (λ all. slice_get all k) same in
    cc (left, right, both)

-- a reserve is there, or something is missing
reserve_or_missing : (product : Product) (month : ℕ) (state : List ℕ) (a : Missing) → HasReserve product month state
    → IsMissing product month state a → ⊥
reserve_or_missing product month state missing.Month has is = omega (arith, has.in_term, is)
reserve_or_missing product month state missing.State has is = omega (arith, has.known, is.1)

-- one thing is missing first
one_missing : (product : Product) (month : ℕ) (state : List ℕ) (a b : Missing) → IsMissing product month state a
    → IsMissing product month state b → a ≡ b
one_missing product month state missing.Month missing.Month x y = refl
one_missing product month state missing.Month missing.State x y = absurd (omega (arith, x, y.0))
one_missing product month state missing.State missing.Month x y = absurd (omega (arith, x.0, y))
one_missing product month state missing.State missing.State x y = refl

-- the first uncovered holding is not covered by the same products
not_covered : (holdings : List Holding) (v w : List ValuedProduct) (row part : ℕ) (holding : Holding)
    → map (λ x. x.product) v ≡ map (λ x. x.product) w → (x : IsFirstUncovered (portfolio_of holdings w) row part)
    → holding ≡ x.holding → HasItsReserve (portfolio_of holdings v) holding → ⊥
not_covered holdings v w row part holding same x is covered =
    let here : HasItsReserve (portfolio_of holdings v) x.holding =
    subst (HasItsReserve (portfolio_of holdings v)) is covered in
    let product : here.by.product ≡ x.by.product =
    same_product v w (place_in (files_of holdings) x.holding.file) here.by x.by same here.file x.file in
    reserve_or_missing x.by.product x.holding.month x.holding.state x.missing
    (subst (λ p. HasReserve p x.holding.month x.holding.state) product here.has) x.is_missing

-- holdings are all covered, or one is the first that is not
pub covered_or_uncovered : (holdings : List Holding) (v w : List ValuedProduct) (row part : ℕ)
    → map (λ x. x.product) v ≡ map (λ x. x.product) w → All (HasItsReserve (portfolio_of holdings v)) holdings
    → IsFirstUncovered (portfolio_of holdings w) row part → ⊥
covered_or_uncovered holdings v w row part same all x =
    not_covered holdings v w row part (get_or holdings x.place x.holding) same x
    (get_or_from_slice_get holdings x.place x.holding x.holding x.here)
    (all x.place x.holding (slice_get_within holdings x.place x.holding x.here))

-- the first uncovered row is not behind another one
not_before : (holdings : List Holding) (v w : List ValuedProduct) (r p s q : ℕ)
    → map (λ x. x.product) v ≡ map (λ x. x.product) w → IsFirstUncovered (portfolio_of holdings v) r p
    → IsFirstUncovered (portfolio_of holdings w) s q → r < s → ⊥
not_before holdings v w r p s q same x y early =
    let place : x.place < y.place = omega (arith, early, x.row_is, y.row_is) in
    let inside : x.place < length holdings = slice_get_within holdings x.place x.holding x.here in
    let within : x.place < length (take y.place holdings) =
    omega (arith, length-take y.place holdings, place, inside) in
    not_covered holdings w v r p (get_or (take y.place holdings) x.place x.holding) (sym same) x
    (get_or-take y.place holdings x.place x.holding place
    ∙ get_or_from_slice_get holdings x.place x.holding x.holding x.here)
    (y.before x.place x.holding within)

-- holdings have one first uncovered row
pub one_uncovered : (holdings : List Holding) (v w : List ValuedProduct) (a b : RowBreak)
    → map (λ x. x.product) v ≡ map (λ x. x.product) w → IsFirstUncovered (portfolio_of holdings v) a.row a.part
    → IsFirstUncovered (portfolio_of holdings w) b.row b.part → a ≡ b
one_uncovered holdings v w a b same x y =
    let not_less : ¬ (a.row < b.row) = not_before holdings v w a.row a.part b.row b.part same x y in
    let not_more : ¬ (b.row < a.row) = not_before holdings w v b.row b.part a.row a.part (sym same) y x in
    let row : a.row ≡ b.row = omega (arith, not_less, not_more) in
    let place : x.place ≡ y.place = omega (arith, x.row_is, y.row_is, row) in
    let holding : x.holding ≡ y.holding = cc (x.here, y.here, place) in
    let there : valued_for (portfolio_of holdings w) x.holding ≡ Some y.by =
    ap (valued_for (portfolio_of holdings w)) holding ∙ y.file in
    let product : x.by.product ≡ y.by.product =
    same_product v w (place_in (files_of holdings) x.holding.file) x.by y.by same x.file there in
    let first : x.missing ≡ y.missing =
    one_missing y.by.product y.holding.month y.holding.state x.missing y.missing
    (subst (λ h. IsMissing y.by.product h.month h.state x.missing) holding
    (subst (λ p. IsMissing p x.holding.month x.holding.state x.missing) product x.is_missing)) y.is_missing in
    let part : a.part ≡ b.part = x.part_is ∙ ap part_of_missing first ∙ sym y.part_is in
    λ k. record { row = row k; part = part k }
