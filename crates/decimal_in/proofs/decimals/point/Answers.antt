use Rattle.std.proofs.Common.{◌≤◌, length, eqb, sym, arith, rules}
use Rattle.std.proofs.lemmas.List.Sums.{position_or_len_is}
use Rattle.decimal_in.proofs.decimals.point.Goals as goal

pub returns-then-byte-eq46 : goal.returns-then-byte-eq46
returns-then-byte-eq46 c =
    let within : c.loop-i.i ≤ length c.args.text.now = omega arith in
    sym (position_or_len_is (λ byte. eqb byte 46) c.args.text.now c.loop-i.i 0 within c.loop-i.invariant
    (λ _. search rules))

pub returns : goal.returns
returns c =
    let end : length c.args.text.now ≤ c.loop-i.i = omega arith in
    sym (position_or_len_is (λ byte. eqb byte 46) c.args.text.now (length c.args.text.now) 0 (omega arith)
    (λ k within. c.loop-i.invariant k (omega (arith, end, within))) (λ past. absurd (omega (arith, past))))
