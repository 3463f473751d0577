use Rattle.std.proofs.Common.{◌^◌, ◌≤◌, ℤ, pos, ◌+ℤ◌, ◌*ℤ◌, FitsSigned, arith, rules, sym, subst}
use Rattle.std.specs.Prelude.{unsigned_abs}
use Rattle.std.specs.Int.{w128}
use Rattle.std.proofs.lemmas.Int.{ints, to_z-of_z}
use Rattle.frac_laws.proofs.RoundingLaws.{floor_size}
use Rattle.fixed_num.proofs.Division.{floor_in_two_steps}
use Rattle.fixed_num.proofs.fraction.from_fraction.Goals as goal

shifted_fits : (high : ℤ) → unsigned_abs high ≤ 2 ^ 32 → FitsSigned w128 (high *ℤ pos (2 ^ 32))
shifted_fits high size = omega (arith, ints)

joined_fits : (high low : ℤ) → unsigned_abs high ≤ 2 ^ 32 → unsigned_abs low ≤ 2 ^ 32
    → FitsSigned w128 ((high *ℤ pos (2 ^ 32)) +ℤ low)
joined_fits high low size_high size_low = omega (arith, ints)

pub overflow_add-result : goal.overflow_add-result
overflow_add-result c =
    let high_fits : FitsSigned w128 c.next_bits-high.result.quotient = search rules in
    let low_fits : FitsSigned w128 c.next_bits-low.result.quotient = search rules in
    let product_fits = shifted_fits c.next_bits-high.result.quotient c.next_bits-high.ensures.size in
    let high = c.next_bits-high.result.quotient in
    let low = c.next_bits-low.result.quotient in
    simp to_z-of_z (joined_fits high low c.next_bits-high.ensures.size c.next_bits-low.ensures.size)

pub returns-clause-value : goal.returns-clause-value
returns-clause-value c =
    let high_fits : FitsSigned w128 c.next_bits-high.result.quotient = search rules in
    let low_fits : FitsSigned w128 c.next_bits-low.result.quotient = search rules in
    let left_fits : FitsSigned w128 c.next_bits-high.result.left = search rules in
    let num_fits : FitsSigned w128 c.args.num = search rules in
    let den_fits : FitsSigned w128 c.args.den = search rules in
    let product_fits = shifted_fits c.next_bits-high.result.quotient c.next_bits-high.ensures.size in
    let high = c.next_bits-high.result in
    let low = c.next_bits-low.result in
    let high_size = c.next_bits-high.ensures.size in
    let low_size = c.next_bits-low.ensures.size in
    let total_fits = joined_fits high.quotient low.quotient high_size low_size in
    let first = simp to_z-of_z at c.next_bits-high.ensures.whole in
    let second = simp to_z-of_z at c.next_bits-low.ensures.whole in
    let last = simp to_z-of_z at c.next_bits-low.ensures.high in
    let floor =
    floor_in_two_steps c.args.num high.quotient high.left low.quotient low.left c.args.den
    c.requires.positive first second c.next_bits-low.ensures.low last in
    simp to_z-of_z (sym floor)

pub returns-clause-size : goal.returns-clause-size
returns-clause-size c =
    let P : ℤ → Type 0 = λ z. unsigned_abs z ≤ 2 ^ 64 in
    let size = floor_size c.args.num c.args.den (2 ^ 64) c.requires.positive c.requires.within in
    subst P (sym (returns-clause-value c)) size
