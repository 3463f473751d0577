use Rattle.std.proofs.Common.{pos, arith, FitsSigned}
use Rattle.std.specs.Int.{w64}
use Rattle.std.proofs.lemmas.Int.{to_z-of_z}
use Rattle.std.proofs.lemmas.List.{length-map}
use Rattle.payment_plan.specs.declared.lump.Lump.{Lump}
use Rattle.payment_plan.specs.Records.{lump_of, lumps_of, pattern_rule_of}
use Rattle.product_reader.proofs.Grown.{all_made}
use Rattle.file_changes.specs.Charges.{charged_lump}
use Rattle.file_changes.proofs.Lumps.{charged_more, small_more, lump_is_too_large}
use Rattle.file_changes.proofs.charged.charged_lumps.Goals as goal

pub returns-in-None-clause-too_large : goal.returns-in-None-clause-too_large
returns-in-None-clause-too_large c =
    let none : Lump = record { month = 0; state = 0; amount = pos 0 } in
    let amount : FitsSigned w64 c.args.amount = c.ranges.amount in
    let wide = simp to_z-of_z at c.in-None.ensures.too_large in
    lump_is_too_large c.args.amount (pattern_rule_of c.args.rule.now) c.args.lumps.now c.loop-i.i none
    c.loop-i-test.true wide

pub loop-i-preserved : goal.loop-i-preserved
loop-i-preserved c =
    let none : Lump = record { month = 0; state = 0; amount = pos 0 } in
    rw c.in_ok-push-in-Some.ensures.items (record {
      made = charged_more _ _ c.args.lumps.now c.loop-i.changed.items c.loop-i.i none c.in-Some.lump
          c.loop-i.invariant.made c.in-Some.ensures.changed c.loop-i-test.true;
      small = small_more c.loop-i.changed.items c.in-Some.lump c.loop-i.invariant.small c.in-Some.ensures.small;
    })

pub returns-clause-changed : goal.returns-clause-changed
returns-clause-changed c =
    let amount : FitsSigned w64 c.args.amount = c.ranges.amount in
    let made = simp to_z-of_z at c.loop-i.invariant.made in
    all_made (charged_lump c.args.amount (pattern_rule_of c.args.rule.now))
    (lumps_of c.args.lumps.now) c.loop-i.i _ made
    (omega (arith, c.loop-i-test.false, length-map c.args.lumps.now lump_of))
