-- The products of a step fit, where the stored system stands for a tame one: no coefficient outgrows the
-- start.
use Rattle.std.specs.Prelude.{◌≡◌, ℕ, suc, zero, pos, ℤ, ◌+ℤ◌, List, [], ◌∷◌, ◌++◌, length, map, refl, ◌+◌}
use Rattle.std.specs.Prelude.{◌*◌, unsigned_abs, slice_index_or, cond, Bool, true, false}
use Rattle.std.proofs.Common.{ap, ◌∙◌}
use Rattle.std.proofs.lemmas.List.{map-append}
use Rattle.std.proofs.Math.ListN.{length-map}
use mathlib.Core.Path.{ap₂, fun_ext}
use Rattle.taylor_step.proofs.Sparse.{row_sum}
use Rattle.taylor_step.specs.WholeRun.{strip}
use Rattle.fixed_num.specs.Products.{sum_of_products, sum_of_sizes}
use Rattle.linear_system.specs.StoredSystem.{StoredRow, number_in_row, place_of, AreDistinct}
use Rattle.frac_laws.specs.Fraction.{whole, ◌*ℚ◌}
use Rattle.frac_laws.specs.Sums.{sum_to}

abbrev pub size_of : ℤ → ℤ
size_of z = pos (unsigned_abs z)

sizes_are : (ns vs : List ℤ) → pos (sum_of_sizes ns vs) ≡ sum_of_products (map size_of ns) (map size_of vs)
sizes_are [] vs = refl
sizes_are (n ∷ ns) [] = refl
sizes_are (n ∷ ns) (v ∷ vs) = ap (λ z. pos (unsigned_abs n * unsigned_abs v) +ℤ z) (sizes_are ns vs)

map-strip : (cs : List ℕ) (p : ℕ → ℕ → ℤ) (n : ℕ) → map size_of (strip cs p n) ≡ strip cs
    (λ m c. size_of (p m c)) n
map-strip cs p zero = refl
map-strip cs p (suc n) = map-append size_of (map (p 0) cs) (strip cs (λ m. p (suc m)) n) ∙ ap₂ ◌++◌ (twice cs)
    (map-strip cs (λ m. p (suc m)) n)
  where
    twice : (cs : List ℕ) → map size_of (map (p 0) cs) ≡ map (λ c. size_of (p 0 c)) cs
    twice [] = refl
    twice (c ∷ cs) = ap (λ l. size_of (p 0 c) ∷ l) (twice cs)

at_map : (ns : List ℤ) (q : ℕ) → slice_index_or (map size_of ns) q (pos 0) ≡ size_of
    (slice_index_or ns q (pos 0))
at_map [] q = refl
at_map (n ∷ ns) zero = refl
at_map (n ∷ ns) (suc q) = at_map ns q

-- the sum_of_sizes of a row's sum_of_products, over powers and all columns
pub sizes_sum : (d : ℕ) (r : StoredRow) (p : ℕ → ℕ → ℤ) (n : ℕ) → AreDistinct d r.columns
    → length r.numbers ≡ n * length r.columns
    → whole (pos (sum_of_sizes r.numbers (strip r.columns p n))) ≡ sum_to n
    (λ m. sum_to d (λ j. whole (size_of (number_in_row r j m)) *ℚ whole (size_of (p m j))))
sizes_sum d r p n a l = ap whole (sizes_are r.numbers (strip r.columns p n) ∙ ap
    (sum_of_products (map size_of r.numbers)) (map-strip r.columns p n))
    ∙ row_sum d (record { columns = r.columns; numbers = map size_of r.numbers }) (λ m c. size_of (p m c)) n a
    ((let e : length (map size_of r.numbers) ≡ length r.numbers = simp length-map refl in e) ∙ l)
    ∙ sums_same
  where
    same : (b : Bool) (q : ℕ) → cond b (pos 0) (slice_index_or (map size_of r.numbers) q (pos 0)) ≡ size_of
        (cond b (pos 0) (slice_index_or r.numbers q (pos 0)))
    same true q = refl
    same false q = at_map r.numbers q

    sums_same : sum_to n (λ m. sum_to d (λ j. whole
        (number_in_row (record { columns = r.columns; numbers = map size_of r.numbers }) j m) *ℚ whole
        (size_of (p m j)))) ≡ sum_to n (λ m. sum_to d
        (λ j. whole (size_of (number_in_row r j m)) *ℚ whole (size_of (p m j))))
    sums_same = ap (sum_to n) (fun_ext (λ m. ap (sum_to d)
        (fun_ext (λ j. ap (λ z. whole z *ℚ whole (size_of (p m j)))
        (same _ (m * length r.columns + place_of r.columns j))))))
