use Rattle.std.proofs.Common.{◌≤◌, ◌^◌, ◌-◌, ◌+◌, pos, to_z, arith, rules, refl, ap, ◌∙◌, sym, ◌≡◌, ◌<◌}
use Rattle.std.proofs.Common.{slice_index_or, FitsSigned}
use Rattle.std.specs.Prelude.{◌+ℤ◌, ◌*ℤ◌, unsigned_abs, ℤ, ℕ, List, ◌*◌}
use Rattle.std.specs.Int.{w128, int_shr}
use Rattle.std.proofs.lemmas.Int.{to_z-of_z, fits_signed_from_abs}
use Rattle.frac_laws.specs.Rounding.{floor_of}
use Rattle.frac_laws.proofs.Floors.{shift-floor}
use Rattle.cell_coeffs.specs.Products.{products_to, sizes_to}
use Rattle.cell_coeffs.proofs.Products.{product_size, products_more, sum_fits, term_fits, shifted_size, sizes_mono}
use Rattle.cell_coeffs.proofs.paid.paid.Goals as goal

pub overflow_mul-total : goal.overflow_mul-total
overflow_mul-total c =
    let rate_fits : FitsSigned w128 (slice_index_or c.args.rate.now c.loop-a.a (pos 0)) = search rules in
    let sum_fits : FitsSigned w128 (slice_index_or c.args.sum.now (c.args.m - c.loop-a.a) (pos 0)) = search rules in
    simp to_z-of_z (term_fits c.args.rate.now c.loop-a.a _ _ refl (omega (arith, c.loop-a-test.true)) c.requires.rates
    (c.requires.sums (c.args.m - c.loop-a.a)))

pub overflow_add-total : goal.overflow_add-total
overflow_add-total c =
    let r = slice_index_or c.args.rate.now c.loop-a.a (pos 0) in
    let s = slice_index_or c.args.sum.now (c.args.m - c.loop-a.a) (pos 0) in
    let rate_fits : FitsSigned w128 (slice_index_or c.args.rate.now c.loop-a.a (pos 0)) = search rules in
    let sum_number_fits : FitsSigned w128 (slice_index_or c.args.sum.now (c.args.m - c.loop-a.a) (pos 0)) =
    search rules in
    let product_fits : FitsSigned w128 (r *ℤ s) = term_fits c.args.rate.now c.loop-a.a r s refl
    (omega (arith, c.loop-a-test.true)) c.requires.rates (c.requires.sums (c.args.m - c.loop-a.a)) in
    simp to_z-of_z (sum_fits c.args.rate.now (c.loop-a.a + 1) (to_z w128 c.loop-a.total-bits +ℤ (r *ℤ s))
    (omega (arith, c.loop-a-test.true)) c.requires.rates
    (product_size c.args.rate.now c.loop-a.a (to_z w128 c.loop-a.total-bits) r s refl
    (c.requires.sums (c.args.m - c.loop-a.a)) c.loop-a.invariant.size))

pub loop-a-preserved : goal.loop-a-preserved
loop-a-preserved c =
    let r = slice_index_or c.args.rate.now c.loop-a.a (pos 0) in
    let s = slice_index_or c.args.sum.now (c.args.m - c.loop-a.a) (pos 0) in
    let rate_fits : FitsSigned w128 (slice_index_or c.args.rate.now c.loop-a.a (pos 0)) = search rules in
    let sum_number_fits : FitsSigned w128 (slice_index_or c.args.sum.now (c.args.m - c.loop-a.a) (pos 0)) =
    search rules in
    let product_fits : FitsSigned w128 (r *ℤ s) = term_fits c.args.rate.now c.loop-a.a r s refl
    (omega (arith, c.loop-a-test.true)) c.requires.rates (c.requires.sums (c.args.m - c.loop-a.a)) in
    let size = product_size c.args.rate.now c.loop-a.a (to_z w128 c.loop-a.total-bits) r s refl
    (c.requires.sums (c.args.m - c.loop-a.a))
    c.loop-a.invariant.size in
    let total_fits =
    sum_fits c.args.rate.now (c.loop-a.a + 1) (to_z w128 c.loop-a.total-bits +ℤ (r *ℤ s))
    (omega (arith, c.loop-a-test.true)) c.requires.rates size in
    simp to_z-of_z (record {
      value = ap (λ (t : ℤ). t +ℤ (r *ℤ s)) c.loop-a.invariant.value
          ∙ sym (products_more c.args.rate.now c.args.sum.now c.args.m c.loop-a.a);
      size = size;
    })

below : (rate : List ℤ) (a : ℕ) (total : ℤ) → a ≤ 9 → sizes_to rate 9 < 2 ^ 63
    → unsigned_abs total ≤ sizes_to rate a * 2 ^ 64
    → unsigned_abs total < 2 ^ 127
below rate a total few rates size = omega (arith, sizes_mono rate a 9 few)

pub returns : goal.returns
returns c =
    let all : c.loop-a.a ≡ c.args.m + 1 = omega (arith, c.loop-a-test.false, c.loop-a.auto.a-end) in
    let few : c.loop-a.a ≤ 9 = omega (arith, all, c.requires.power) in
    let small = below c.args.rate.now c.loop-a.a (to_z w128 c.loop-a.total-bits) few c.requires.rates
    c.loop-a.invariant.size in
    let size = shifted_size (to_z w128 c.loop-a.total-bits) small in
    let total_fits : FitsSigned w128 (to_z w128 c.loop-a.total-bits) =
    fits_signed_from_abs w128 (to_z w128 c.loop-a.total-bits) (omega (arith, small)) in
    let shifted_fits = fits_signed_from_abs w128 (int_shr (to_z w128 c.loop-a.total-bits) 64) (omega (arith, size)) in
    simp to_z-of_z (record {
      value = shift-floor (to_z w128 c.loop-a.total-bits) 64
          ∙ ap (λ (z : ℤ). floor_of z (pos (2 ^ 64))) (c.loop-a.invariant.value
          ∙ ap (products_to c.args.rate.now c.args.sum.now c.args.m) all);
      size = size;
    })
