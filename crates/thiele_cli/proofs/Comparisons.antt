-- The answer to a comparison, from what its calls answer.
use Rattle.std.proofs.Common.{◌≡◌, ℕ, Some, None, inl, inr, refl, ap, subst, ◌∙◌}
use Rattle.rule_breaks.specs.Breaks.{break_of}
use Rattle.rule_breaks.specs.declared.breaks.RuleBreak.{RuleBreak}
use Rattle.model_specs.specs.Product.{Product}
use Rattle.model_specs.specs.ValuationRules.{IsAdmissible, first_broken}
use Rattle.basis_compare.specs.declared.change_rows.Changes.{Changes}
use Rattle.basis_compare.specs.declared.differing.CompareBreak.{CompareBreak}
use Rattle.basis_compare.specs.Bases.{hybrid_of, first_difference, BreaksAtMostTheLastRule}
use Rattle.basis_compare.specs.Changes.{AreChanges}
use Rattle.thiele_cli.specs.declared.answer.Answer.TheVariants as answer
use Rattle.thiele_cli.specs.declared.refusal.Refusal.{Refusal}
use Rattle.thiele_cli.specs.declared.refusal.Refusal.TheVariants as refusal
use Rattle.thiele_cli.specs.BasesBetween.{IsBetween, HaveNone}
use Rattle.thiele_cli.specs.Comparisons.{AnswersComparison}

-- bases that differ are refused
pub bases_refused : (old new : Product) (broken : CompareBreak) → first_difference old new ≡ Some broken
    → HaveNone old new (refusal.Compare broken)
bases_refused old new broken first =
    record { refused = inl (record { broken = broken; answers = refl; first = first }); line = tt }

-- a hybrid that is not admitted is refused
pub no_hybrid : (old new basis : Product) (found : RuleBreak) → basis ≡ hybrid_of old new
    → first_difference old new ≡ None → BreaksAtMostTheLastRule basis → first_broken basis ≡ Some (break_of found)
    → HaveNone old new (refusal.Derived found)
no_hybrid old new basis found is alike last broken = record {
  refused = inr (record {
    found = found;
    answers = refl;
    alike = alike;
    broken = subst (λ p. first_broken p ≡ Some (break_of found)) is broken;
    last_rule = ap (λ b. b.rule) (last.at_last (break_of found) broken);
  });
  line = tt;
}

-- one that is admitted stands between
pub stands_between : (old new basis admitted : Product) → admitted ≡ basis → basis ≡ hybrid_of old new
    → first_difference old new ≡ None → IsAdmissible admitted → IsBetween old new admitted
stands_between old new basis admitted same is alike admissible =
    record { alike = alike; hybrid = same ∙ is; admissible = admissible }

-- and gives the changes
pub have_changes : (old new basis : Product) (every : ℕ) (changes : Changes) → IsBetween old new basis
    → AreChanges old new every changes → AnswersComparison old new every (answer.Changes old new changes)
have_changes old new basis every changes h right = inr (inr (record {
  changes = changes;
  answers = refl;
  alike = h.alike;
  valued = subst (λ p. first_broken p ≡ None) h.hybrid h.admissible.valuation;
  right = right;
}))

-- a refusal is an answer
pub none_answers : (old new : Product) (every : ℕ) (why : Refusal) → HaveNone old new why
    → AnswersComparison old new every (answer.Refused why)
none_answers old new every why none = elim none.refused [
  | inl refused ↦ inl refused
  | inr hybrid ↦ inr (inl hybrid)
]
