-- The intensities of a generated product in a month: from 0 to a quarter a year.
use Rattle.std.proofs.Common.{◌≡◌, ℕ, ◌+◌, ◌-◌, ◌*◌, ◌<◌, ◌≤◌, List, arith, refl, ap, sym, subst, ◌∙◌}
use Rattle.std.specs.Prelude.{ℤ, map, All}
use Rattle.std.proofs.lemmas.Int.{ints}
use Rattle.std.proofs.lemmas.List.Elements.{All-weaker}
use Rattle.toml.specs.View.{items_of}
use Rattle.whole_laws.specs.Whole.{list_of}
use Rattle.whole_laws.proofs.ListsByPlace.{map-list_of}
use Rattle.model_specs.specs.Curve.{Piece}
use Rattle.model_specs.specs.MonthNumbers.{bernstein_numerators, curve_numerators}
use Rattle.product_file.specs.Members.{listed}
use Rattle.product_file.specs.CurveRules.{piece_of}
use Rattle.workload_gen.specs.declared.transition.Transition.{Transition}
use Rattle.workload_gen.specs.Draws.{state_after, draw_at}
use Rattle.workload_gen.specs.Transitions.{level_of, spread_of}
use Rattle.workload_gen.specs.Tree.{rate, year_piece}
use Rattle.workload_gen.proofs.CurveRules.{rate-years, drawn_below, level_most, spread_most}
use Rattle.workload_gen.proofs.Numerators.{IsUpTo, cubic, cubic_numerators}
use Rattle.workload_gen.proofs.YearlyPieces.{yearly-has}

-- a quarter a year, over the unit of a month
abbrev pub quarter : ℕ
quarter = 2488320 * 250000000

weaker : (n : ℕ) (z : ℤ) → n ≤ 250000000 → IsUpTo (2488320 * n) z → IsUpTo quarter z
weaker n z h k = (k.0, omega (arith, ints, k.1))

abbrev IsSmallIn : ℕ → Piece → Type 0
IsSmallIn month piece = All (IsUpTo quarter) (bernstein_numerators piece.c (month - piece.from))

-- a year's piece in a month of its year
year_small : (t : Transition) (x year month : ℕ) → year < 65 → 12 * year ≤ month → month < 12 * year + 12
    → IsSmallIn month (piece_of (year_piece t x year))
year_small t x year month below start end =
    let y = state_after x (4 * year) in
    let c0 = level_of t year + draw_at y 0 (spread_of t) in
    let c1 = draw_at y 1 1000000 in
    let c2 = draw_at y 2 500000 in
    let c3 = draw_at y 3 100000 in
    let total : c0 + c1 + c2 + c3 ≤ 250000000 =
    omega (
      arith,
      level_most t year below,
      (spread_most t).1,
      drawn_below y 0 (spread_of t) (spread_most t).0,
      drawn_below y 1 1000000 (omega arith),
      drawn_below y 2 500000 (omega arith),
      drawn_below y 3 100000 (omega arith),
    ) in
    All-weaker (IsUpTo (2488320 * (c0 + c1 + c2 + c3))) (IsUpTo quarter) (λ z. weaker (c0 + c1 + c2 + c3) z total)
    (bernstein_numerators (cubic c0 c1 c2 c3) (month - 12 * year))
    (cubic_numerators c0 c1 c2 c3 (month - 12 * year) (omega arith))

-- the pieces of a transition
abbrev pub rate_pieces : Transition → ℕ → List Piece
rate_pieces t x = map piece_of (listed (items_of (rate t x)))

pub rates_small : (t : Transition) (x month : ℕ) → month < 780
    → All (IsUpTo quarter) (curve_numerators (rate_pieces t x) month)
rates_small t x month below =
    let years : rate_pieces t x ≡ list_of 65 (λ year. piece_of (year_piece t x year)) =
    ap (map piece_of) (rate-years t x) ∙ map-list_of piece_of 65 (year_piece t x) in
    let AreSmall : List Piece → Type 0 = λ pieces. All (IsUpTo quarter) (curve_numerators pieces month) in
    subst AreSmall (sym years)
    (yearly-has (IsSmallIn month) 65 month (λ year. piece_of (year_piece t x year)) (λ i. refl) (omega arith)
    (λ i inside start end. year_small t x i month inside start end))
