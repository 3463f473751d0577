use Rattle.std.proofs.Common.{◌<◌, [], sym, subst, arith}
use Rattle.std.specs.Prelude.{All}
use Rattle.std.proofs.lemmas.List.{get_or-map, length-map, take_all}
use Rattle.std.proofs.lemmas.List.Elements.{All-more}
use Rattle.model_specs.specs.Product.{Step}
use Rattle.payment_plan.specs.declared.step.StepAmount.{StepAmount}
use Rattle.payment_plan.specs.Records.{record_of, steps_of}
use Rattle.file_changes.specs.ContinuousAsks.{AreWords}
use Rattle.file_changes.proofs.charged_sojourns.have_words.Goals as goal

pub loop-i-preserved : goal.loop-i-preserved
loop-i-preserved c =
    let none : StepAmount = record { from = 0; c = [] } in
    let steps = c.args.steps.now in
    All-more (λ (s : Step). AreWords s.c) (steps_of steps) c.loop-i.i (record_of none)
    (subst (λ n. c.loop-i.i < n) (sym (length-map steps record_of)) c.loop-i-test.true) c.loop-i.invariant
    (subst (λ (s : Step). AreWords s.c) (sym (get_or-map record_of steps c.loop-i.i none (record_of none)
    c.loop-i-test.true)) c.has_words-first.ensures)

pub returns : goal.returns
returns c =
    subst (All (λ (s : Step). AreWords s.c)) (take_all c.loop-i.i (steps_of c.args.steps.now)
    (omega (arith, c.loop-i-test.false, length-map c.args.steps.now record_of))) c.loop-i.invariant
