use Rattle.std.proofs.Common.{◌≤◌, ◌^◌, ◌-◌, ◌+◌, pos, to_z, arith, rules, ap, ◌∙◌, sym, ◌≡◌, ◌<◌}
use Rattle.std.proofs.Common.{FitsSigned}
use Rattle.std.specs.Prelude.{◌+ℤ◌, ◌*ℤ◌, unsigned_abs, ℤ, ℕ, List, ◌*◌}
use Rattle.std.specs.Int.{w128, int_shr}
use Rattle.std.proofs.lemmas.Int.{to_z-of_z, fits_signed_from_abs}
use mathlib.Core.Path.{ap₂}
use Rattle.frac_laws.specs.Rounding.{floor_of}
use Rattle.frac_laws.proofs.Floors.{shift-floor}
use Rattle.cell_coeffs.specs.Products.{products_to, sizes_to}
use Rattle.cell_coeffs.proofs.Products.{product_size, products_more, sum_fits_to, term_fits_to, shifted_size}
use Rattle.cell_coeffs.proofs.Products.{sizes_mono}
use Rattle.cell_coeffs.proofs.twice.paid_twice.Goals as goal

pub overflow_mul-total : goal.overflow_mul-total
overflow_mul-total c =
    let r_fits : FitsSigned w128 c.number_of.result = search rules in
    let s_fits : FitsSigned w128 c.number_of-in-loop-a.result = search rules in
    let small : unsigned_abs c.number_of-in-loop-a.result ≤ 2 ^ 64 =
    rw c.number_of-in-loop-a.ensures (c.requires.sums (c.args.m - c.loop-a.a)) in
    simp to_z-of_z (term_fits_to 12 c.args.paid.now c.loop-a.a c.number_of.result c.number_of-in-loop-a.result
    c.number_of.ensures (omega (arith, c.loop-a-test.true, c.requires.power)) c.requires.payments small)

pub overflow_add-total : goal.overflow_add-total
overflow_add-total c =
    let r = c.number_of.result in
    let s = c.number_of-in-loop-a.result in
    let r_fits : FitsSigned w128 c.number_of.result = search rules in
    let s_fits : FitsSigned w128 c.number_of-in-loop-a.result = search rules in
    let few : c.loop-a.a < 12 = omega (arith, c.loop-a-test.true, c.requires.power) in
    let small : unsigned_abs c.number_of-in-loop-a.result ≤ 2 ^ 64 =
    rw c.number_of-in-loop-a.ensures (c.requires.sums (c.args.m - c.loop-a.a)) in
    let product_fits : FitsSigned w128 (r *ℤ s) =
    term_fits_to 12 c.args.paid.now c.loop-a.a r s c.number_of.ensures few c.requires.payments small in
    simp to_z-of_z (sum_fits_to 12 c.args.paid.now (c.loop-a.a + 1) (to_z w128 c.loop-a.total-bits +ℤ (r *ℤ s))
    (omega (arith, few)) c.requires.payments
    (product_size c.args.paid.now c.loop-a.a (to_z w128 c.loop-a.total-bits) r s c.number_of.ensures small
    c.loop-a.invariant.size))

pub loop-a-preserved : goal.loop-a-preserved
loop-a-preserved c =
    let r = c.number_of.result in
    let s = c.number_of-in-loop-a.result in
    let r_fits : FitsSigned w128 c.number_of.result = search rules in
    let s_fits : FitsSigned w128 c.number_of-in-loop-a.result = search rules in
    let few : c.loop-a.a < 12 = omega (arith, c.loop-a-test.true, c.requires.power) in
    let small : unsigned_abs c.number_of-in-loop-a.result ≤ 2 ^ 64 =
    rw c.number_of-in-loop-a.ensures (c.requires.sums (c.args.m - c.loop-a.a)) in
    let product_fits : FitsSigned w128 (r *ℤ s) =
    term_fits_to 12 c.args.paid.now c.loop-a.a r s c.number_of.ensures few c.requires.payments small in
    let size = product_size c.args.paid.now c.loop-a.a (to_z w128 c.loop-a.total-bits) r s c.number_of.ensures small
    c.loop-a.invariant.size in
    let total_fits = sum_fits_to 12 c.args.paid.now (c.loop-a.a + 1) (to_z w128 c.loop-a.total-bits +ℤ (r *ℤ s))
    (omega (arith, few)) c.requires.payments size in
    simp to_z-of_z (record {
      value = ap₂ (λ (t z : ℤ). t +ℤ z) c.loop-a.invariant.value
          (ap₂ (λ (x y : ℤ). x *ℤ y) c.number_of.ensures c.number_of-in-loop-a.ensures)
          ∙ sym (products_more c.args.paid.now c.args.sum.now c.args.m c.loop-a.a);
      size = size;
    })

below : (payments : List ℤ) (a : ℕ) (total : ℤ) → a ≤ 12 → sizes_to payments 12 < 2 ^ 63
    → unsigned_abs total ≤ sizes_to payments a * 2 ^ 64 → unsigned_abs total < 2 ^ 127
below payments a total few small size = omega (arith, sizes_mono payments a 12 few)

pub returns : goal.returns
returns c =
    let all : c.loop-a.a ≡ c.args.m + 1 = omega (arith, c.loop-a-test.false, c.loop-a.auto.a-end) in
    let few : c.loop-a.a ≤ 12 = omega (arith, all, c.requires.power) in
    let small = below c.args.paid.now c.loop-a.a (to_z w128 c.loop-a.total-bits) few c.requires.payments
    c.loop-a.invariant.size in
    let size = shifted_size (to_z w128 c.loop-a.total-bits) small in
    let total_fits : FitsSigned w128 (to_z w128 c.loop-a.total-bits) =
    fits_signed_from_abs w128 (to_z w128 c.loop-a.total-bits) (omega (arith, small)) in
    let shifted_fits = fits_signed_from_abs w128 (int_shr (to_z w128 c.loop-a.total-bits) 64) (omega (arith, size)) in
    simp to_z-of_z (record {
      value = shift-floor (to_z w128 c.loop-a.total-bits) 64
          ∙ ap (λ (z : ℤ). floor_of z (pos (2 ^ 64))) (c.loop-a.invariant.value
          ∙ ap (products_to c.args.paid.now c.args.sum.now c.args.m) all);
      size = size;
    })
