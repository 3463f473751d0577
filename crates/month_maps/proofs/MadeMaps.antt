-- Maps that are made of constant cells: the start, each doubling, and what a month is then.
use Rattle.std.proofs.Common.{◌≡◌, ℕ, suc, ◌*◌, ◌/◌, ◌%◌, ◌^◌, ◌<◌, ◌≤◌, ℤ, List, subst, sym}
use Rattle.std.proofs.Common.{◌∙◌, arith, inl, inr}
use Rattle.std.proofs.Math.Nat.{mul-le-mul_right}
use Rattle.std.proofs.lemmas.Bool.{cases_lt}
use Rattle.std.proofs.lemmas.Int.{ints}
use Rattle.std.proofs.lemmas.List.{get_or_past}
use Rattle.std.proofs.lemmas.Nat.{div-add-mod', mod_below}
use Rattle.frac_laws.specs.Lists.{Vector}
use Rattle.cell_laws.specs.Systems.{System}
use Rattle.linear_system.specs.StoredSystem.{StoredSystem, dim_of}
use Rattle.map_laws.specs.Applied.{IsApplied}
use Rattle.map_laws.specs.CellMaps.{doubled}
use Rattle.map_laws.specs.CellOfSystem.{cell_map}
use Rattle.map_laws.specs.MapLaws.{IsNarrowAfter}
use Rattle.map_laws.specs.Maps.{AffineMap, HoldsMap, IsSquareOf, twice}
use Rattle.map_laws.specs.MonthOfCells.{IsConstantCell, IsStartOf, StaysNearFor32Cells}
use Rattle.map_laws.proofs.MonthOfCells.{months_stay_within_their_radius}
use Rattle.map_laws.proofs.FiveDoublings.{doublings_keep_their_bounds, ends_stay_small}
use Rattle.map_laws.proofs.MonthOfCells.{constant_cells_are_narrow}
use Rattle.fixed_interval.specs.declared.interval.Interval.{Interval}
use Rattle.fixed_interval.specs.Intervals.{HasEndsUpTo}
use Rattle.linear_system.specs.StoredSystem.{IsSystem}
use Rattle.month_maps.specs.MadeMaps.{CanMake, can_make, HoldsColumns, HoldsFree, IsMadeAfter, IsMadeFor}
use Rattle.month_maps.specs.StoredMap.{StoredMap, IsAlike, IsFull, HaveEndsUpTo, interval_at, interval_map, map_of}
use Rattle.month_maps.specs.StoredMap.{zero_interval}

pub stays_near : (s : StoredSystem) (kappa40 radius n : ℕ) (e : System) (y : Vector) (m : StoredMap) (mid new : ℕ → ℤ)
    → IsMadeFor s m → IsConstantCell s kappa40 e → m.degree ≤ n → IsApplied m.dim (map_of m) mid new
    → IsStartOf m.dim radius y mid → StaysNearFor32Cells e kappa40 radius n y new
stays_near s kappa40 radius n e y m mid new for cell late applied start =
    let made = for.made in
    let degree = made.degree in
    let same : m.dim ≡ e.dimension = made.dim ∙ sym cell.stands.dimension in
    let some : 1 ≤ n = omega (arith, degree, late) in
    let enough : 8 ≤ n = omega (arith, degree, late) in
    months_stay_within_their_radius s kappa40 radius n e (map_of m) y mid new made.system cell some
    (subst (λ d. IsNarrowAfter 5 d (map_of m)) same made.narrow)
    (subst (λ d. HoldsMap d (map_of m) (doubled d 5 (cell_map e n))) same (made.holds kappa40 n e cell enough))
    (subst (λ d. IsApplied d (map_of m) mid new) same applied)
    (subst (λ d. IsStartOf d radius y mid) same start)

-- ---- the start

holds_start : (s : StoredSystem) (kappa40 n : ℕ) (e : System) (numbers free : List Interval)
    → HoldsColumns s (dim_of s) numbers → HoldsFree s free → IsConstantCell s kappa40 e → 8 ≤ n
    → HoldsMap (dim_of s) (interval_map (dim_of s) numbers free) (cell_map e n)
holds_start s kappa40 n e numbers free columns frees cell late = record {
  at = λ row col r c. (columns row col r c).holds kappa40 n e cell late;
  free = λ row r. (frees row r).holds kappa40 n e cell late;
}

narrow_start : (s : StoredSystem) (numbers free : List Interval) → IsSystem s → CanMake s
    → HoldsColumns s (dim_of s) numbers → HoldsFree s free
    → IsNarrowAfter 0 (dim_of s) (interval_map (dim_of s) numbers free)
narrow_start s numbers free sys (can_make kappa40 e only cell) columns frees =
    subst (λ d. IsNarrowAfter 0 d (interval_map (dim_of s) numbers free)) cell.stands.dimension
    (constant_cells_are_narrow s kappa40 8 e (interval_map (dim_of s) numbers free) sys (omega arith) (record {
      cell = cell;
      holds = subst (λ d. HoldsMap d (interval_map (dim_of s) numbers free) (cell_map e 8)) (sym cell.stands.dimension)
          (holds_start s kappa40 8 e numbers free columns frees cell (omega arith));
      narrow = λ row col r c. (columns row col (subst (λ d. row < d) cell.stands.dimension r)
          (subst (λ d. col < d) cell.stands.dimension c)).narrow;
      free_narrow = λ row r. (frees row (subst (λ d. row < d) cell.stands.dimension r)).narrow;
    }))

pub made_start : (s : StoredSystem) (m : StoredMap) → IsSystem s → CanMake s → m.dim ≡ dim_of s → m.degree ≡ 8
    → IsFull m → HoldsColumns s (dim_of s) m.numbers → HoldsFree s m.free → IsMadeAfter 0 s m
made_start s m sys can same degree full columns frees = record {
  system = sys;
  dim = same;
  degree = degree;
  full = full;
  narrow = subst (λ d. IsNarrowAfter 0 d (interval_map d m.numbers m.free)) (sym same)
      (narrow_start s m.numbers m.free sys can columns frees);
  holds = λ kappa40 n e cell late. subst (λ d. HoldsMap d (interval_map d m.numbers m.free) (cell_map e n)) (sym same)
      (holds_start s kappa40 n e m.numbers m.free columns frees cell late);
}

-- ---- doublings

few_numbers : (s : StoredSystem) (m : StoredMap) → CanMake s → m.dim ≡ dim_of s → m.dim ≤ 12
few_numbers s m (can_make kappa40 e only cell) same =
    let few = cell.few in let dimension = cell.stands.dimension in omega (arith, few, dimension, same)

pub made_next : (doublings : ℕ) (s : StoredSystem) (old new : StoredMap) → doublings < 5 → CanMake s
    → IsMadeAfter doublings s old → IsAlike old new → IsFull new → IsSquareOf old.dim (map_of old) (map_of new)
    → ((a : AffineMap) → HoldsMap old.dim (map_of old) a → HoldsMap old.dim (map_of new) (twice old.dim a))
    → IsMadeAfter (suc doublings) s new
made_next doublings s old new b can made alike full square encloses = record {
  system = made.system;
  dim = alike.dim ∙ made.dim;
  degree = alike.degree ∙ made.degree;
  full = full;
  narrow = subst (λ d. IsNarrowAfter (suc doublings) d (map_of new)) (sym alike.dim)
      (doublings_keep_their_bounds doublings old.dim (map_of old) (map_of new) (few_numbers s old can made.dim) b square
      made.narrow);
  holds = λ kappa40 n e cell late. subst (λ d. HoldsMap d (map_of new) (doubled d (suc doublings) (cell_map e n)))
      (sym alike.dim) (encloses (doubled old.dim doublings (cell_map e n)) (made.holds kappa40 n e cell late));
}

-- ---- ends

-- a place in a square matrix has a row and a column
row_of_place : (k d : ℕ) → k < d * d → k / d < d
row_of_place k d b = elim (cases_lt (k / d) d) [
  | inl less ↦ less
  | inr more ↦ let rows : d * d ≤ k / d * d = mul-le-mul_right d more in
      absurd (omega (arith, rows, b, div-add-mod' k d))
]

zero_ends : HasEndsUpTo (2 ^ 65) zero_interval
zero_ends = record { lo = omega (arith, ints); hi = omega (arith, ints) }

pub ends_are_small : (doublings : ℕ) (s : StoredSystem) (m : StoredMap) → IsMadeAfter doublings s m
    → HaveEndsUpTo (2 ^ 65) m.numbers × HaveEndsUpTo (2 ^ 65) m.free
ends_are_small doublings s m made =
    let ends = ends_stay_small doublings m.dim (map_of m) made.narrow in (
      λ k. elim (cases_lt k (m.dim * m.dim)) [
        | inl b ↦ subst (λ i. HasEndsUpTo (2 ^ 65) (interval_at m.numbers i)) (div-add-mod' k m.dim)
            (ends.0 (k / m.dim) (k % m.dim) (row_of_place k m.dim b) (mod_below k m.dim (some k m.dim b)))
        | inr b ↦ subst (HasEndsUpTo (2 ^ 65))
            (sym (get_or_past m.numbers k zero_interval (let n = made.full.numbers in omega (arith, n, b)))) zero_ends
      ],
      λ k. elim (cases_lt k m.dim) [
        | inl b ↦ ends.1 k b
        | inr b ↦ subst (HasEndsUpTo (2 ^ 65))
            (sym (get_or_past m.free k zero_interval (let n = made.full.free in omega (arith, n, b)))) zero_ends
      ],
    )
  where
    some : (k d : ℕ) → k < d * d → 0 < d
    some k d b = grind arith
