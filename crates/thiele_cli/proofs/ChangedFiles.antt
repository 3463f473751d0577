-- The answer to a request to change a product, or to merge totals, from what its calls answer.
use Rattle.std.proofs.Common.{◌≡◌, ℕ, List, Vec, Some, inl, inr, refl, subst, ◌∙◌}
use Rattle.std.specs.declared.alloc.Global.{Global}
use Rattle.curve_pieces.specs.BrokenRules.{IsFirstBroken}
use Rattle.rule_breaks.specs.Breaks.{break_of}
use Rattle.rule_breaks.specs.declared.breaks.RuleBreak.{RuleBreak}
use Rattle.model_specs.specs.Product.{Product}
use Rattle.model_specs.specs.ValuationRules.{first_broken}
use Rattle.product_file.specs.Verdict.{IsValid}
use Rattle.file_changes.specs.declared.breaks.ChangeBreak.{ChangeBreak}
use Rattle.file_upgrade.specs.Upgraded.{IsOfFormat2}
use Rattle.thiele_cli.specs.declared.answer.Answer.{Answer}
use Rattle.thiele_cli.specs.declared.answer.Answer.TheVariants as answer
use Rattle.thiele_cli.specs.declared.refusal.Refusal.TheVariants as refusal
use Rattle.thiele_cli.specs.AskedAnswers.{AnswersAsked}
use Rattle.thiele_cli.specs.Cases.{Files, HasFault, HasProduct, FirstRefused, AnsweredOfChange}
use Rattle.thiele_cli.specs.ChangedFiles.{AnswersChange, ChangeAsks, changed_by}
use Rattle.thiele_cli.specs.FileFaults.{FileFault}
use Rattle.thiele_cli.specs.Questions.{Change, OfChange}
use Rattle.thiele_cli.specs.RefusedTexts.{IsRefusedText}

-- a product that cannot be changed so
pub not_changed : (change : Change) (product : Product) (broken : ChangeBreak)
    → IsFirstBroken (ChangeAsks change product) broken.part
    → AnswersChange change product (answer.Refused (refusal.Change broken))
not_changed change product broken first =
    inl (record { broken = broken; answers = refl; first = first })

-- a changed record that is not admitted is refused
pub no_changed_file : (change : Change) (product changed : Product) (found : RuleBreak)
    → changed ≡ changed_by change product → ((part : ℕ) → ChangeAsks change product part)
    → first_broken changed ≡ Some (break_of found)
    → AnswersChange change product (answer.Refused (refusal.Derived found))
no_changed_file change product changed found is keeps broken = inr (inl (record {
  found = found;
  answers = refl;
  keeps = keeps;
  broken = subst (λ p. first_broken p ≡ Some (break_of found)) is broken;
}))

-- one that is admitted is written
pub is_changed : (change : Change) (product changed new : Product) (text : Vec ℕ Global) → new ≡ changed
    → changed ≡ changed_by change product → ((part : ℕ) → ChangeAsks change product part) → IsValid text.items new
    → IsOfFormat2 text.items → AnswersChange change product (answer.File text)
is_changed change product changed new text same is keeps valid format = inr (inr (record {
  text = text;
  answers = refl;
  keeps = keeps;
  valid = subst (λ p. IsValid text.items p) (same ∙ is) valid;
  format = format;
}))

-- the file is refused
pub refused_to_change : (files : Files) (name : List ℕ) (change : Change) (fault : FileFault) (given : Answer)
    → HasFault files name fault → IsRefusedText (refusal.First fault.cause) fault.text given
    → AnswersAsked files (OfChange name change) given
refused_to_change files name change fault given has says =
    record { case = FirstRefused fault; holds = inl (fault, has, refl); says = says }

-- its product is asked to be changed
pub answered_change : (files : Files) (name : List ℕ) (change : Change) (product : Product) (given : Answer)
    → HasProduct files name product → AnswersChange change product given
    → AnswersAsked files (OfChange name change) given
answered_change files name change product given has says =
    record { case = AnsweredOfChange change product; holds = inr (product, has, refl); says = says }
