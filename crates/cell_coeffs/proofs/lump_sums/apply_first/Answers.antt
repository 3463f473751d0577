use Rattle.std.proofs.Common.{◌≡◌, ◌<◌, ◌≤◌, ◌-◌, ◌^◌, ℕ, pos, refl, arith, rules, ◌∙◌, length, length-set}
use Rattle.std.proofs.Common.{slice_index_or, FitsSigned}
use Rattle.std.specs.Prelude.{◌+◌, ◌*ℤ◌, ◌+ℤ◌, ℤ, unsigned_abs}
use Rattle.std.specs.Int.{w64, w128}
use Rattle.std.proofs.lemmas.Int.{to_z-of_z}
use Rattle.std.proofs.lemmas.List.Elements.{All-get_or}
use Rattle.cell_coeffs.proofs.LumpSteps.{lump_size, grown_size, grown_fits, term_fits, value_more, size_more}
use Rattle.cell_coeffs.proofs.lump_sums.apply_first.Goals as goal

pub overflow_mul-mid : goal.overflow_mul-mid
overflow_mul-mid c =
    let lump = slice_index_or c.args.lumps.now c.loop-lump.lump-index (0, pos 0) in
    let lump_fits : FitsSigned w64 lump.1 = search rules in
    let from_fits : FitsSigned w128 c.from.result = search rules in
    let pow_fits : FitsSigned w128 c.pow-unit.result = search rules in
    let is : c.from.result ≡ lump.1 = simp to_z-of_z at c.from.ensures in
    let small =
    All-get_or (λ (l : ℕ × ℤ). unsigned_abs l.1 ≤ 2 ^ c.args.g) c.args.lumps.now c.loop-lump.lump-index (0, pos 0)
    c.loop-lump-test.true c.requires.amounts in
    simp to_z-of_z (rw (is, c.pow-unit.ensures) (term_fits (lump.1 *ℤ pos (2 ^ (64 - c.args.g)))
    (lump_size lump.1 c.args.g c.requires.scale small)))

pub overflow_add-mid : goal.overflow_add-mid
overflow_add-mid c =
    let lump = slice_index_or c.args.lumps.now c.loop-lump.lump-index (0, pos 0) in
    let lump_fits : FitsSigned w64 lump.1 = search rules in
    let from_fits : FitsSigned w128 c.from.result = search rules in
    let pow_fits : FitsSigned w128 c.pow-unit.result = search rules in
    let is : c.from.result ≡ lump.1 = simp to_z-of_z at c.from.ensures in
    let small =
    All-get_or (λ (l : ℕ × ℤ). unsigned_abs l.1 ≤ 2 ^ c.args.g) c.args.lumps.now c.loop-lump.lump-index (0, pos 0)
    c.loop-lump-test.true c.requires.amounts in
    let size = lump_size lump.1 c.args.g c.requires.scale small in
    let product_fits : FitsSigned w128 (c.from.result *ℤ c.pow-unit.result) =
    rw (is, c.pow-unit.ensures) (term_fits (lump.1 *ℤ pos (2 ^ (64 - c.args.g))) size) in
    let mid_fits : FitsSigned w128 (slice_index_or c.loop-lump.mid lump.0 (pos 0)) = search rules in
    simp to_z-of_z (rw (is, c.pow-unit.ensures) (grown_fits _ _ (omega (arith, c.requires.few, c.loop-lump-test.true))
    (grown_size (slice_index_or c.loop-lump.mid lump.0 (pos 0)) (lump.1 *ℤ pos (2 ^ (64 - c.args.g)))
    c.loop-lump.lump-index
    (c.loop-lump.invariant.size lump.0) size)))

pub loop-lump-preserved : goal.loop-lump-preserved
loop-lump-preserved c =
    let lump = slice_index_or c.args.lumps.now c.loop-lump.lump-index (0, pos 0) in
    let lump_fits : FitsSigned w64 lump.1 = search rules in
    let from_fits : FitsSigned w128 c.from.result = search rules in
    let pow_fits : FitsSigned w128 c.pow-unit.result = search rules in
    let is : c.from.result ≡ lump.1 = simp to_z-of_z at c.from.ensures in
    let small =
    All-get_or (λ (l : ℕ × ℤ). unsigned_abs l.1 ≤ 2 ^ c.args.g) c.args.lumps.now c.loop-lump.lump-index (0, pos 0)
    c.loop-lump-test.true c.requires.amounts in
    let size = lump_size lump.1 c.args.g c.requires.scale small in
    let inside : lump.0 < length c.loop-lump.mid = rw c.loop-lump.invariant.long
    (All-get_or (λ (l : ℕ × ℤ). l.0 < length c.args.mid.now) c.args.lumps.now c.loop-lump.lump-index (0, pos 0)
    c.loop-lump-test.true c.requires.states) in
    let product_fits : FitsSigned w128 (c.from.result *ℤ c.pow-unit.result) =
    rw (is, c.pow-unit.ensures) (term_fits (lump.1 *ℤ pos (2 ^ (64 - c.args.g))) size) in
    let mid_fits : FitsSigned w128 (slice_index_or c.loop-lump.mid lump.0 (pos 0)) = search rules in
    let sum_fits =
    grown_fits (slice_index_or c.loop-lump.mid lump.0 (pos 0) +ℤ (lump.1 *ℤ pos (2 ^ (64 - c.args.g))))
    (c.loop-lump.lump-index + 1)
    (omega (arith, c.requires.few, c.loop-lump-test.true))
    (grown_size (slice_index_or c.loop-lump.mid lump.0 (pos 0)) (lump.1 *ℤ pos (2 ^ (64 - c.args.g)))
    c.loop-lump.lump-index
    (c.loop-lump.invariant.size lump.0) size) in
    simp to_z-of_z (rw (is, c.pow-unit.ensures) (simp to_z-of_z (record {
      long = length-set _ _ _ ∙ c.loop-lump.invariant.long;
      value = value_more c.loop-lump.mid c.args.mid.now c.args.g c.loop-lump.lump-index lump.0 lump.1
          c.args.lumps.now inside refl
          c.loop-lump.invariant.value;
      size = size_more c.loop-lump.mid c.args.mid.now c.args.g c.loop-lump.lump-index lump.0 lump.1 c.args.lumps.now
          inside refl
          c.loop-lump.invariant.size size;
    })))
