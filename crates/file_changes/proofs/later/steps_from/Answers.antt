use Rattle.std.proofs.Common.{◌++◌, ◌∷◌, [], pos, ap, sym, ◌∙◌, arith, subst, List}
use Rattle.std.specs.Prelude.{All, Vec}
use Rattle.std.specs.declared.alloc.Global.{Global}
use Rattle.std.proofs.lemmas.Bool.{le-ltb, lt-ltb}
use Rattle.model_specs.specs.Payments.{constant_step, step_at}
use Rattle.model_specs.specs.Product.{Step}
use Rattle.payment_plan.specs.declared.step.StepAmount.{StepAmount}
use Rattle.payment_plan.specs.Records.{steps_of}
use Rattle.file_changes.specs.ContinuousAsks.{AreWords}
use Rattle.file_changes.specs.ContinuousCharges as charges
use Rattle.file_changes.proofs.LaterSteps.{step_is_taken, step_is_passed, one_more_words}
use Rattle.file_changes.proofs.later.steps_from.Goals as goal
use Rattle.file_changes.proofs.later.steps_from.Goals.{then-month-steps+in_ok-push-2, else-month-steps}

pub returns-in_default-clause-too_large : goal.returns-in_default-clause-too_large
returns-in_default-clause-too_large c =
    λ all. c.in_default.ensures.too_large (all 0 (constant_step 0 (pos 0)) (omega arith))

pub loop-i-preserved : goal.loop-i-preserved
loop-i-preserved c =
    let none : StepAmount = record { from = 0; c = [] } in
    let steps : List StepAmount = c.args.steps.now in
    let first = charges.continued_step c.args.month (step_at (steps_of steps) c.args.month) in
    elim c.if-month-steps.branch [
      | then-month-steps+in_ok-push-2 w ↦
          let items = ap (λ (v : Vec StepAmount Global). v.items) w.later-is ∙ w.in_ok-push-2.ensures.items in (
            ap steps_of items
                ∙ ap (λ (s : StepAmount). steps_of (c.loop-i.later.items ++ s ∷ [])) w.same_step.ensures.same
                ∙ step_is_taken c.args.month steps c.loop-i.i none c.loop-i-test.true first c.loop-i.later.items
                c.loop-i.invariant.0 (lt-ltb c.args.month _ w.if-month-steps.true),
            subst (λ (ss : List StepAmount). All (λ (s : Step). AreWords s.c) (steps_of ss)) (sym items)
                (one_more_words c.loop-i.later.items w.same_step.result c.loop-i.invariant.1 w.same_step.ensures.words),
          )
      | else-month-steps w ↦
          let items = ap (λ (v : Vec StepAmount Global). v.items) w.later-is in (
            ap steps_of items
                ∙ step_is_passed c.args.month steps c.loop-i.i none c.loop-i-test.true first c.loop-i.later.items
                c.loop-i.invariant.0 (le-ltb c.args.month _ w.if-month-steps.false),
            subst (λ (ss : List StepAmount). All (λ (s : Step). AreWords s.c) (steps_of ss)) (sym items)
                c.loop-i.invariant.1,
          )
    ]
