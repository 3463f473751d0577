use Rattle.std.proofs.Common.{◌≡◌, suc, ◌-◌, ◌+◌, ◌≤◌, List, [], ap, sym, ◌∙◌, arith}
use Rattle.std.specs.Prelude.{slice_index_or}
use mathlib.Core.Path.{ap₂}
use Rattle.payment_plan.specs.declared.step.StepAmount.{StepAmount}
use Rattle.payment_plan.specs.Records.{starts_of}
use Rattle.file_changes.proofs.StepMonths.{start_at, start_or, term_after, starts_within}
use Rattle.file_changes.proofs.step_sizes.months_of.Goals as goal
use Rattle.file_changes.proofs.step_sizes.months_of.Goals.{then-k-steps, else-k-steps}

pub returns-clause-value : goal.returns-clause-value
returns-clause-value c =
    let none : StepAmount = record { from = 0; c = [] } in
    let steps : List StepAmount = c.args.steps.now in
    let next : suc c.args.k ≡ c.args.k + 1 = omega arith in
    let end_is : c.if-k-steps.end ≡ slice_index_or (starts_of steps) (suc c.args.k) c.args.months =
    elim c.if-k-steps.branch [
      | then-k-steps w ↦
          w.end-is ∙ sym (start_or steps (c.args.k + 1) c.args.months none w.if-k-steps.true)
          ∙ ap (λ n. slice_index_or (starts_of steps) n c.args.months) (sym next)
      | else-k-steps w ↦
          w.end-is ∙ sym (term_after steps (c.args.k + 1) c.args.months (omega (arith, w.if-k-steps.false)))
          ∙ ap (λ n. slice_index_or (starts_of steps) n c.args.months) (sym next)
    ] in
    c.saturating_sub.ensures
    ∙ ap₂ (λ a b. a - b) end_is (sym (start_at steps c.args.k none c.requires.inside))

pub returns-clause-few : goal.returns-clause-few
returns-clause-few c =
    let none : StepAmount = record { from = 0; c = [] } in
    let end : c.if-k-steps.end ≤ c.args.months =
    elim c.if-k-steps.branch [
      | then-k-steps w ↦
          omega (
            arith,
            w.end-is,
            starts_within c.args.steps.now (c.args.k + 1) c.args.months none
                c.requires.within w.if-k-steps.true,
          )
      | else-k-steps w ↦ omega (arith, w.end-is)
    ] in
    omega (arith, c.saturating_sub.ensures, end, c.requires.term)
