-- The answer to a request to join two lives, from what its calls answer.
use Rattle.std.proofs.Common.{◌≡◌, ℕ, Vec, Some, None, inl, inr, refl, subst, ◌∙◌}
use Rattle.std.specs.declared.alloc.Global.{Global}
use Rattle.rule_breaks.specs.Breaks.{break_of}
use Rattle.rule_breaks.specs.declared.breaks.RuleBreak.{RuleBreak}
use Rattle.model_specs.specs.Product.{Product}
use Rattle.model_specs.specs.ValuationRules.{first_broken}
use Rattle.product_file.specs.Verdict.{IsValid}
use Rattle.file_upgrade.specs.Upgraded.{IsOfFormat2}
use Rattle.joint_life.specs.Breaks.{first_break}
use Rattle.joint_life.specs.JointRecord.{joint_of}
use Rattle.joint_life.specs.Marginals.{HasMarginals}
use Rattle.thiele_cli.specs.declared.answer.Answer.TheVariants as answer
use Rattle.thiele_cli.specs.declared.refusal.Refusal.TheVariants as refusal
use Rattle.thiele_cli.specs.JointFiles.{AnswersJoin}

-- a joint record that is not admitted is refused
pub no_joint_file : (old new joint : Product) (found : RuleBreak) → joint ≡ joint_of old new
    → first_break old new ≡ None → first_broken joint ≡ Some (break_of found)
    → AnswersJoin old new (answer.Refused (refusal.Derived found))
no_joint_file old new joint found is joined broken = inr (inl (record {
  found = found;
  answers = refl;
  joined = joined;
  broken = subst (λ p. first_broken p ≡ Some (break_of found)) is broken;
}))

-- one that is admitted is written
pub are_joined : (old new product joint : Product) (text : Vec ℕ Global) → joint ≡ product → product ≡ joint_of old new
    → first_break old new ≡ None → IsValid text.items joint → IsOfFormat2 text.items → HasMarginals product old new
    → AnswersJoin old new (answer.File text)
are_joined old new product joint text same is joined valid format marginals = inr (inr (record {
  text = text;
  answers = refl;
  joined = joined;
  valid = subst (λ p. IsValid text.items p) (same ∙ is) valid;
  format = format;
  marginals = subst (λ p. HasMarginals p old new) is marginals;
}))
