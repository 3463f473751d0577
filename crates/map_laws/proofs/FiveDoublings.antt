-- Five doublings: bounds in whole units, each step a closed inequality.
use Rattle.std.proofs.Common.{ℕ, zero, suc, ◌^◌, ◌≤◌, pos, arith}
use Rattle.std.specs.Prelude.{[], refl}
use Rattle.frac_laws.specs.Fraction.{over, whole, ◌+ℚ◌, ◌*ℚ◌, ◌≤ℚ◌}
use Rattle.frac_laws.proofs.Linear.{linear, claims, natural}
use Rattle.frac_laws.proofs.Order.{le_trans}
use Rattle.frac_laws.proofs.Sums.{term_le_sum_to}
use Rattle.linear_system.specs.StandsFor.{units}
use Rattle.map_laws.specs.Maps.{IntervalMap, IsSquareOf}
use Rattle.map_laws.specs.Widths.{IsNarrow, extent}
use Rattle.map_laws.specs.MapLaws.{DoublingsKeepTheirBounds, EndsStaySmall, row_sizes, free_sizes}
use Rattle.map_laws.proofs.CellMaps.{within}
use Rattle.map_laws.proofs.Narrow.{doublings_stay_narrow}
use Rattle.map_laws.proofs.ProductWidths.{extent_natural}

-- rows of n / 2^40 and w units, free numbers of c / 2^20 and y units
abbrev pub Narrow : ℕ → (n w c y : ℕ) → IntervalMap → Type 0
Narrow d n w c y m = IsNarrow d (over (pos n) (2 ^ 40)) (units (pos w)) (over (pos c) (2 ^ 20)) (units (pos y)) m

-- one doubling, where the next bounds are enough
record Suffices (n w c y n2 w2 c2 y2 : ℕ) : Type 0 where
  sizes : over (pos n) (2 ^ 40) *ℚ over (pos n) (2 ^ 40) +ℚ units (pos 144) ≤ℚ over (pos n2) (2 ^ 40)
  widths : whole (pos 2) *ℚ over (pos n) (2 ^ 40) *ℚ units (pos w) +ℚ units (pos 288) ≤ℚ units (pos w2)
  free_size : over (pos c) (2 ^ 20) +ℚ over (pos n) (2 ^ 40) *ℚ over (pos c) (2 ^ 20) +ℚ units (pos 12)
      ≤ℚ over (pos c2) (2 ^ 20)
  free_width : units (pos y) +ℚ over (pos n) (2 ^ 40) *ℚ units (pos y) +ℚ over (pos c) (2 ^ 20) *ℚ units (pos w)
      +ℚ units (pos 24) ≤ℚ units (pos y2)

doubled : (d n w c y n2 w2 c2 y2 : ℕ) (m square : IntervalMap) → d ≤ 12 → IsSquareOf d m square
    → Narrow d n w c y m → whole (pos 0) ≤ℚ over (pos n) (2 ^ 40) → whole (pos 0) ≤ℚ units (pos w)
    → whole (pos 0) ≤ℚ over (pos c) (2 ^ 20) → whole (pos 0) ≤ℚ units (pos y)
    → Suffices n w c y n2 w2 c2 y2 → Narrow d n2 w2 c2 y2 square
doubled d n w c y n2 w2 c2 y2 m square few is narrow p q r s enough =
    let next = doublings_stay_narrow d (over (pos n) (2 ^ 40)) (units (pos w)) (over (pos c) (2 ^ 20)) (units (pos y))
    m square few is narrow p q r s in
    record {
      rows_fit = λ row b. le_trans (next.rows_fit row b) enough.sizes;
      rows_narrow = λ row b. le_trans (next.rows_narrow row b) enough.widths;
      free_fits = λ row b. le_trans (next.free_fits row b) enough.free_size;
      free_narrow = λ row b. le_trans (next.free_narrow row b) enough.free_width;
    }

first : Suffices 1100585369601 768 33027 32 1101660160003 1826 66087 113
first = record {
  sizes = linear [] (natural 0 1) (hlevel claims) refl;
  widths = linear [] (natural 0 1) (hlevel claims) refl;
  free_size = linear [] (natural 0 1) (hlevel claims) refl;
  free_width = linear [] (natural 0 1) (hlevel claims) refl;
}

first_doubling : (d : ℕ) (m square : IntervalMap) → d ≤ 12 → IsSquareOf d m square
    → Narrow d 1100585369601 768 33027 32 m → Narrow d 1101660160003 1826 66087 113 square
first_doubling d m square few is narrow =
    doubled d 1100585369601 768 33027 32 1101660160003 1826 66087 113 m square few is narrow
    (natural 1100585369601 (2 ^ 40)) (natural 768 (2 ^ 64)) (natural 33027 (2 ^ 20)) (natural 32 (2 ^ 64)) first

second : Suffices 1101660160003 1826 66087 113 1103812890632 3948 132304 366
second = record {
  sizes = linear [] (natural 0 1) (hlevel claims) refl;
  widths = linear [] (natural 0 1) (hlevel claims) refl;
  free_size = linear [] (natural 0 1) (hlevel claims) refl;
  free_width = linear [] (natural 0 1) (hlevel claims) refl;
}

second_doubling : (d : ℕ) (m square : IntervalMap) → d ≤ 12 → IsSquareOf d m square
    → Narrow d 1101660160003 1826 66087 113 m → Narrow d 1103812890632 3948 132304 366 square
second_doubling d m square few is narrow =
    doubled d 1101660160003 1826 66087 113 1103812890632 3948 132304 366 m square few is narrow
    (natural 1101660160003 (2 ^ 40)) (natural 1826 (2 ^ 64)) (natural 66087 (2 ^ 20)) (natural 113 (2 ^ 64)) second

third : Suffices 1103812890632 3948 132304 366 1108130979925 8215 265126 1256
third = record {
  sizes = linear [] (natural 0 1) (hlevel claims) refl;
  widths = linear [] (natural 0 1) (hlevel claims) refl;
  free_size = linear [] (natural 0 1) (hlevel claims) refl;
  free_width = linear [] (natural 0 1) (hlevel claims) refl;
}

third_doubling : (d : ℕ) (m square : IntervalMap) → d ≤ 12 → IsSquareOf d m square
    → Narrow d 1103812890632 3948 132304 366 m → Narrow d 1108130979925 8215 265126 1256 square
third_doubling d m square few is narrow =
    doubled d 1103812890632 3948 132304 366 1108130979925 8215 265126 1256 m square few is narrow
    (natural 1103812890632 (2 ^ 40)) (natural 3948 (2 ^ 64)) (natural 132304 (2 ^ 20)) (natural 366 (2 ^ 64)) third

fourth : Suffices 1108130979925 8215 265126 1256 1116817901375 16847 532331 4623
fourth = record {
  sizes = linear [] (natural 0 1) (hlevel claims) refl;
  widths = linear [] (natural 0 1) (hlevel claims) refl;
  free_size = linear [] (natural 0 1) (hlevel claims) refl;
  free_width = linear [] (natural 0 1) (hlevel claims) refl;
}

fourth_doubling : (d : ℕ) (m square : IntervalMap) → d ≤ 12 → IsSquareOf d m square
    → Narrow d 1108130979925 8215 265126 1256 m → Narrow d 1116817901375 16847 532331 4623 square
fourth_doubling d m square few is narrow =
    doubled d 1108130979925 8215 265126 1256 1116817901375 16847 532331 4623 m square few is narrow
    (natural 1108130979925 (2 ^ 40)) (natural 8215 (2 ^ 64)) (natural 265126 (2 ^ 20)) (natural 1256 (2 ^ 64)) fourth

fifth : Suffices 1116817901375 16847 532331 4623 1134396575100 34513 1073041 17896
fifth = record {
  sizes = linear [] (natural 0 1) (hlevel claims) refl;
  widths = linear [] (natural 0 1) (hlevel claims) refl;
  free_size = linear [] (natural 0 1) (hlevel claims) refl;
  free_width = linear [] (natural 0 1) (hlevel claims) refl;
}

fifth_doubling : (d : ℕ) (m square : IntervalMap) → d ≤ 12 → IsSquareOf d m square
    → Narrow d 1116817901375 16847 532331 4623 m → Narrow d 1134396575100 34513 1073041 17896 square
fifth_doubling d m square few is narrow =
    doubled d 1116817901375 16847 532331 4623 1134396575100 34513 1073041 17896 m square few is narrow
    (natural 1116817901375 (2 ^ 40)) (natural 16847 (2 ^ 64)) (natural 532331 (2 ^ 20)) (natural 4623 (2 ^ 64)) fifth

pub doublings_keep_their_bounds : DoublingsKeepTheirBounds
doublings_keep_their_bounds zero d m square few b is narrow = first_doubling d m square few is narrow
doublings_keep_their_bounds (suc zero) d m square few b is narrow = second_doubling d m square few is narrow
doublings_keep_their_bounds (suc (suc zero)) d m square few b is narrow = third_doubling d m square few is narrow
doublings_keep_their_bounds (suc (suc (suc zero))) d m square few b is narrow = fourth_doubling d m square few is narrow
doublings_keep_their_bounds (suc (suc (suc (suc zero)))) d m square few b is narrow =
    fifth_doubling d m square few is narrow
doublings_keep_their_bounds (suc (suc (suc (suc (suc doublings))))) d m square few b is narrow = absurd (omega arith)

-- ---- ends

-- no row of sizes and no free number is more than 2
sizes_small : (doublings : ℕ) → over (pos (row_sizes doublings)) (2 ^ 40) ≤ℚ whole (pos 2)
sizes_small zero = linear [] (natural 0 1) (hlevel claims) refl
sizes_small (suc zero) = linear [] (natural 0 1) (hlevel claims) refl
sizes_small (suc (suc zero)) = linear [] (natural 0 1) (hlevel claims) refl
sizes_small (suc (suc (suc zero))) = linear [] (natural 0 1) (hlevel claims) refl
sizes_small (suc (suc (suc (suc zero)))) = linear [] (natural 0 1) (hlevel claims) refl
sizes_small (suc (suc (suc (suc (suc doublings))))) = linear [] (natural 0 1) (hlevel claims) refl

free_sizes_small : (doublings : ℕ) → over (pos (free_sizes doublings)) (2 ^ 20) ≤ℚ whole (pos 2)
free_sizes_small zero = linear [] (natural 0 1) (hlevel claims) refl
free_sizes_small (suc zero) = linear [] (natural 0 1) (hlevel claims) refl
free_sizes_small (suc (suc zero)) = linear [] (natural 0 1) (hlevel claims) refl
free_sizes_small (suc (suc (suc zero))) = linear [] (natural 0 1) (hlevel claims) refl
free_sizes_small (suc (suc (suc (suc zero)))) = linear [] (natural 0 1) (hlevel claims) refl
free_sizes_small (suc (suc (suc (suc (suc doublings))))) = linear [] (natural 0 1) (hlevel claims) refl

pub ends_stay_small : EndsStaySmall
ends_stay_small doublings d m narrow = (
  λ row col r c. within (m.at row col) _
      (le_trans (term_le_sum_to d col {f = λ j. extent (m.at row j)} (λ j b. extent_natural (m.at row j)) c)
      (narrow.rows_fit row r)) (sizes_small doublings),
  λ row r. within (m.free row) _ (narrow.free_fits row r) (free_sizes_small doublings),
)
