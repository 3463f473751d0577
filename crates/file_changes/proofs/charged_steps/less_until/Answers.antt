use Rattle.std.proofs.Common.{List, ◌++◌, ap, sym, ◌∙◌, FitsSigned}
use Rattle.std.specs.Prelude.{Vec}
use Rattle.std.specs.Int.{w64}
use Rattle.std.specs.declared.alloc.Global.{Global}
use Rattle.std.proofs.lemmas.Int.{to_z-of_z}
use Rattle.std.proofs.lemmas.List.{map-append}
use Rattle.std.proofs.lemmas.List.Elements.{All-append}
use mathlib.Core.Path.{ap₂}
use Rattle.model_specs.specs.Product.{Step}
use Rattle.payment_plan.specs.declared.step.StepAmount.{StepAmount}
use Rattle.payment_plan.specs.Records.{record_of, steps_of}
use Rattle.file_changes.specs.ContinuousAsks.{AreWords}
use Rattle.file_changes.proofs.ChargedWords.{charged_to_the_term, charged_in_two, front_is_too_large, back_is_too_large}
use Rattle.file_changes.proofs.charged_steps.less_until.Goals as goal

pub returns-in_default-clause-too_large : goal.returns-in_default-clause-too_large
returns-in_default-clause-too_large c =
    let amount : FitsSigned w64 c.args.amount = c.ranges.amount in
    let wide = simp to_z-of_z at (rw c.in_default.is at c.in_ok-charged.ensures.too_large) in
    front_is_too_large c.args.amount c.args.months c.args.until (steps_of c.args.steps.now) wide

pub returns-in_default-2-clause-too_large : goal.returns-in_default-2-clause-too_large
returns-in_default-2-clause-too_large c =
    back_is_too_large c.args.amount c.args.months c.args.until (steps_of c.args.steps.now) c.if-until-months.true
    (rw c.in_default-2.is at c.in_ok-later.ensures.too_large)

pub returns-clause-changed : goal.returns-clause-changed
returns-clause-changed c =
    let amount : FitsSigned w64 c.args.amount = c.ranges.amount in
    let made = simp to_z-of_z at (rw c.in-Some.is at c.in_ok-charged.ensures.changed) in
    elim c.if-until-months.branch [
      | goal.then-until-months+in_ok-later+in-Some-2+in_ok-extend_from_slice w ↦
          ap (λ (v : Vec StepAmount Global). steps_of v.items) w.charged-is
          ∙ ap steps_of w.in_ok-extend_from_slice.ensures.items
          ∙ ap (λ (xs : List StepAmount). steps_of (c.in-Some.charged.items ++ xs)) w.deref.ensures.value
          ∙ map-append record_of c.in-Some.charged.items w.in-Some-2.later.items
          ∙ ap₂ (λ (xs ys : List Step). xs ++ ys) made (rw w.in-Some-2.is at w.in_ok-later.ensures.changed)
          ∙ sym (charged_in_two c.args.amount c.args.months c.args.until (steps_of c.args.steps.now)
          w.if-until-months.true)
      | goal.else-until-months w ↦
          ap (λ (v : Vec StepAmount Global). steps_of v.items) w.charged-is ∙ made
          ∙ sym (charged_to_the_term c.args.amount c.args.months c.args.until (steps_of c.args.steps.now)
          w.if-until-months.false)
    ]

pub returns-clause-words : goal.returns-clause-words
returns-clause-words c =
    let front = rw c.in-Some.is at c.in_ok-charged.ensures.words in
    elim c.if-until-months.branch [
      | goal.then-until-months+in_ok-later+in-Some-2+in_ok-extend_from_slice w ↦
          rw (
            w.charged-is,
            w.in_ok-extend_from_slice.ensures.items,
            w.deref.ensures.value,
            map-append record_of c.in-Some.charged.items w.in-Some-2.later.items,
          )
          (All-append (λ (s : Step). AreWords s.c) (steps_of c.in-Some.charged.items) (steps_of w.in-Some-2.later.items)
          front (rw w.in-Some-2.is at w.in_ok-later.ensures.words))
      | goal.else-until-months w ↦ rw w.charged-is front
    ]
