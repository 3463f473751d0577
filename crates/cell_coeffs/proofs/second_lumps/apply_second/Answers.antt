use Rattle.std.proofs.Common.{◌≡◌, ◌^◌, ◌<◌, ◌≤◌, pos, ap, ◌∙◌, length, length-set, slice_index_or}
use Rattle.std.proofs.Common.{FitsSigned, arith, rules}
use Rattle.std.specs.Prelude.{◌+ℤ◌, ℤ, unsigned_abs}
use Rattle.std.specs.Int.{w64, w128}
use Rattle.std.proofs.lemmas.Int.{ints, to_z-of_z, fits_signed_from_abs}
use Rattle.cell_coeffs.specs.SecondLumps.{amount_in, lumped_units}
use Rattle.cell_coeffs.proofs.SecondLumps.{amount_small, rule_more, kept_more, lumped_near}
use Rattle.cell_coeffs.proofs.second_lumps.apply_second.Goals as goal

sum_fits : (a b : ℤ) → unsigned_abs a ≤ 2 ^ 65 → unsigned_abs b ≤ 2 ^ 67 → FitsSigned w128 (a +ℤ b)
sum_fits a b h k = fits_signed_from_abs w128 (a +ℤ b) (sum_size a b h k)
  where
    sum_size : (a b : ℤ) → unsigned_abs a ≤ 2 ^ 65 → unsigned_abs b ≤ 2 ^ 67 → unsigned_abs (a +ℤ b) < 2 ^ 127
    sum_size a b h k = omega (arith, ints)

pub lumped-requires-clause-amount : goal.lumped-requires-clause-amount
lumped-requires-clause-amount c =
    let lump_fits : FitsSigned w64 c.lump_of.result = search rules in
    simp to_z-of_z (rw c.lump_of.ensures
    (amount_small c.args.lumps.now c.loop-state.state (2 ^ c.args.g) c.requires.amounts))

pub loop-state-preserved : goal.loop-state-preserved
loop-state-preserved c =
    let k = c.loop-state.state in
    let old = slice_index_or c.loop-state.second c.loop-state.state (pos 0) in
    let lump_fits : FitsSigned w64 c.lump_of.result = search rules in
    let first_fits : FitsSigned w128 (slice_index_or c.args.first.now c.loop-state.state (pos 0)) = search rules in
    let lumped_fits : FitsSigned w128 c.lumped.result = search rules in
    let old_fits : FitsSigned w128 (slice_index_or c.loop-state.second c.loop-state.state (pos 0)) = search rules in
    let kept = c.loop-state.invariant.kept c.loop-state.state (omega arith) in
    let small : unsigned_abs (slice_index_or c.loop-state.second c.loop-state.state (pos 0)) ≤ 2 ^ 65 =
    rw kept (c.requires.seconds c.loop-state.state) in
    let fits = sum_fits (slice_index_or c.loop-state.second c.loop-state.state (pos 0)) c.lumped.result small
    c.lumped.ensures.size in
    let inside : c.loop-state.state < length c.loop-state.second =
    omega (arith, c.loop-state-test.true, c.loop-state.invariant.long) in
    let value : c.lumped.result ≡ lumped_units c.args.g (amount_in c.args.lumps.now c.loop-state.state)
    (slice_index_or c.args.first.now c.loop-state.state (pos 0)) =
    simp to_z-of_z at c.lumped.ensures.value
    ∙ ap (λ (a : ℤ). lumped_units c.args.g a (slice_index_or c.args.first.now c.loop-state.state (pos 0)))
    c.lump_of.ensures in
    simp to_z-of_z (record {
      long = length-set _ _ _ ∙ c.loop-state.invariant.long;
      done = rule_more c.args.second.now c.loop-state.second c.args.first.now c.args.lumps.now c.args.g k
          (old +ℤ c.lumped.result) inside (ap (λ (z : ℤ). old +ℤ z) value) kept c.loop-state.invariant.done;
      kept = kept_more c.args.second.now c.loop-state.second c.args.first.now c.args.lumps.now c.args.g k
          (old +ℤ c.lumped.result) c.loop-state.invariant.kept;
    })

pub returns-clause-near : goal.returns-clause-near
returns-clause-near c i inside =
    let all : i < c.loop-state.state = omega (arith, c.loop-state-test.false, c.loop-state.auto.state-end, inside) in
    rw (c.loop-state.invariant.done i all)
    (lumped_near (amount_in c.args.lumps.now i) (slice_index_or c.args.first.now i (pos 0)) c.args.g c.requires.scale
    (amount_small c.args.lumps.now i (2 ^ c.args.g) c.requires.amounts) (c.requires.firsts i)
    (slice_index_or c.args.second.now i (pos 0)))
