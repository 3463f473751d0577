-- From steps to the intervals of the map of a cell, and from there to a month.
use Rattle.std.proofs.Common.{◌≡◌, ◌≢◌, ℕ, ◌+◌, ◌*◌, ◌^◌, ◌<◌, ◌≤◌, ℤ, pos, ◌-ℤ◌, List, [], ◌∷◌}
use Rattle.std.proofs.Common.{refl, sym, subst, arith, below_more}
use Rattle.std.specs.Prelude.{true, false, cond, nat_lt, slice_index_or}
use Rattle.std.proofs.lemmas.Bool.Decides.{nat_tests}
use Rattle.frac_laws.specs.Fraction.{Fraction, size, ◌+ℚ◌, ◌-ℚ◌, ◌≤ℚ◌}
use Rattle.frac_laws.proofs.Linear.{linear, claims, natural, ◌⊞◌}
use Rattle.frac_laws.proofs.Order.{le_trans}
use Rattle.frac_laws.proofs.Quotients.{over_add, over_sub}
use Rattle.frac_laws.proofs.Sizes.{le_of_size_le, opposite_le_of_size_le}
use Rattle.cell_laws.specs.Systems.{System}
use Rattle.fixed_interval.specs.declared.interval.Interval.{Interval}
use Rattle.fixed_interval.specs.Intervals.{LiesIn}
use Rattle.linear_system.specs.StandsFor.{units}
use Rattle.linear_system.specs.StoredSystem.{StoredSystem, dim_of}
use Rattle.map_laws.specs.CellOfSystem.{cell_map}
use Rattle.map_laws.specs.MonthOfCells.{IsConstantCell}
use Rattle.map_laws.specs.Widths.{width}
use Rattle.month_maps.specs.MadeMaps.{IsStepFrom, IsAround, HoldsNumber, HoldsColumns, HoldsFree}
use Rattle.month_maps.specs.StoredMap.{interval_at}

-- ---- intervals around differences and numbers

around_narrow : (spare : ℕ) (mid : ℤ) (i : Interval) → IsAround spare mid i
    → width i ≤ℚ units (pos spare) +ℚ units (pos spare)
around_narrow spare mid i is = rw (is.lo, is.hi, over_add mid (pos spare) (2 ^ 64), over_sub mid (pos spare) (2 ^ 64))
    (linear (units mid ∷ units (pos spare) ∷ []) (natural 0 1) (hlevel claims) refl)

-- a number within the spare of the middle
lies_around : (spare : ℕ) (mid : ℤ) (i : Interval) (x : Fraction) → IsAround spare mid i
    → units mid -ℚ units (pos spare) ≤ℚ x → x ≤ℚ units mid +ℚ units (pos spare) → LiesIn x i
lies_around spare mid i x is low high = record {
  at_least = rw (is.lo, over_sub mid (pos spare) (2 ^ 64)) low;
  at_most = rw (is.hi, over_add mid (pos spare) (2 ^ 64)) high;
}

-- what is within 16 units of a number
lies_within_16 : (mid : ℤ) (i : Interval) (x : Fraction) → IsAround 16 mid i → size (x -ℚ units mid) ≤ℚ units (pos 16)
    → LiesIn x i
lies_within_16 mid i x is near = lies_around 16 mid i x is
    (linear (x ∷ units mid ∷ []) (opposite_le_of_size_le near) (hlevel claims) refl)
    (linear (x ∷ units mid ∷ []) (le_of_size_le near) (hlevel claims) refl)

-- what two numbers differ by, each within 16 units
lies_within_32 : (mid origin : ℤ) (i : Interval) (x f : Fraction) → IsAround 32 (mid -ℤ origin) i
    → size (f +ℚ x -ℚ units mid) ≤ℚ units (pos 16) → size (f -ℚ units origin) ≤ℚ units (pos 16) → LiesIn x i
lies_within_32 mid origin i x f is near origin_near = lies_around 32 (mid -ℤ origin) i x is
    (rw (over_sub mid origin (2 ^ 64)) (linear (x ∷ f ∷ units mid ∷ units origin ∷ [])
    (opposite_le_of_size_le near ⊞ le_of_size_le origin_near) (hlevel claims) refl))
    (rw (over_sub mid origin (2 ^ 64)) (linear (x ∷ f ∷ units mid ∷ units origin ∷ [])
    (le_of_size_le near ⊞ opposite_le_of_size_le origin_near) (hlevel claims) refl))

-- ---- columns and free numbers

-- the step from 0 is near the free numbers
origin_near : (s : StoredSystem) (origin : List ℤ) (kappa40 n : ℕ) (e : System) (row : ℕ)
    → IsStepFrom s (dim_of s) origin → IsConstantCell s kappa40 e → 8 ≤ n → row < dim_of s
    → size ((cell_map e n).free row -ℚ units (slice_index_or origin row (pos 0))) ≤ℚ units (pos 16)
origin_near s origin kappa40 n e row from cell late b =
    let past : nat_lt (dim_of s) (dim_of s) ≡ false = grind (arith, nat_tests) in
    subst (λ t. size (cond t ((cell_map e n).free row +ℚ (cell_map e n).at row (dim_of s)) ((cell_map e n).free row)
    -ℚ units (slice_index_or origin row (pos 0))) ≤ℚ units (pos 16)) past
    (from.near kappa40 n e row cell late b)

-- and a step from 1 at a place is near that and the column
column_near : (s : StoredSystem) (column : List ℤ) (col kappa40 n : ℕ) (e : System) (row : ℕ) → col < dim_of s
    → IsStepFrom s col column → IsConstantCell s kappa40 e → 8 ≤ n → row < dim_of s
    → size ((cell_map e n).free row +ℚ (cell_map e n).at row col -ℚ units (slice_index_or column row (pos 0)))
    ≤ℚ units (pos 16)
column_near s column col kappa40 n e row c from cell late b =
    let before : nat_lt col (dim_of s) ≡ true = grind (arith, nat_tests) in
    subst (λ t. size (cond t ((cell_map e n).free row +ℚ (cell_map e n).at row col) ((cell_map e n).free row)
    -ℚ units (slice_index_or column row (pos 0))) ≤ℚ units (pos 16)) before
    (from.near kappa40 n e row cell late b)

pub holds_free : (s : StoredSystem) (origin : List ℤ) (free : List Interval) → IsStepFrom s (dim_of s) origin
    → ((row : ℕ) → row < dim_of s → IsAround 16 (slice_index_or origin row (pos 0)) (interval_at free row))
    → HoldsFree s free
holds_free s origin free from around row b = record {
  narrow = le_trans (around_narrow 16 (slice_index_or origin row (pos 0)) (interval_at free row) (around row b))
      (linear [] (natural 0 1) (hlevel claims) refl);
  holds = λ kappa40 n e cell late. lies_within_16 (slice_index_or origin row (pos 0)) (interval_at free row)
      ((cell_map e n).free row) (around row b) (origin_near s origin kappa40 n e row from cell late b);
}

-- one column more
pub holds_columns_more : (s : StoredSystem) (origin column : List ℤ) (col : ℕ) (old numbers : List Interval)
    → IsStepFrom s (dim_of s) origin → IsStepFrom s col column → col < dim_of s → HoldsColumns s col old
    → ((row : ℕ) → row < dim_of s → IsAround 32
    (slice_index_or column row (pos 0) -ℤ slice_index_or origin row (pos 0))
    (interval_at numbers (row * dim_of s + col)))
    → ((row other : ℕ) → row < dim_of s → other < dim_of s → other ≢ col
    → interval_at numbers (row * dim_of s + other) ≡ interval_at old (row * dim_of s + other))
    → HoldsColumns s (col + 1) numbers
holds_columns_more s origin column col old numbers from column_from c so_far done others row k b d =
    below_more (λ k. HoldsNumber s 64 (λ a. a.at row k) (interval_at numbers (row * dim_of s + k))) col
    (λ k l. let ne : k ≢ col = omega arith in
    subst (HoldsNumber s 64 (λ a. a.at row k)) (sym (others row k b (omega (arith, c, l)) ne)) (so_far row k b l))
    (record {
      narrow = le_trans (around_narrow 32 _ (interval_at numbers (row * dim_of s + col)) (done row b))
          (linear [] (natural 0 1) (hlevel claims) refl);
      holds = λ kappa40 n e cell late. lies_within_32 (slice_index_or column row (pos 0))
          (slice_index_or origin row (pos 0)) (interval_at numbers (row * dim_of s + col)) ((cell_map e n).at row col)
          ((cell_map e n).free row) (done row b) (column_near s column col kappa40 n e row c column_from cell late b)
          (origin_near s origin kappa40 n e row from cell late b);
    }) k d
