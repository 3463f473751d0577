use Rattle.std.proofs.Common.{ℕ, subst, sym, FitsSigned, rules}
use Rattle.std.specs.Int.{w128, w64}
use Rattle.std.specs.Prelude.{◌≡◌, Err, IfOk}
use Rattle.std.proofs.lemmas.Int.{to_z-of_z}
use Rattle.curve_pieces.specs.BrokenRules.{IsFirstBroken}
use Rattle.file_changes.specs.declared.breaks.ChangeBreak.{ChangeBreak}
use Rattle.file_changes.specs.declared.breaks.ChangeError.TheVariants as error
use Rattle.thiele_cli.specs.ChangedFiles.{ChangeAsks}
use Rattle.thiele_cli.specs.Inquiries.{change_of}
use Rattle.thiele_cli.proofs.changing.changed.Goals as goal

pub returns-in-Shifted-clause-keeps : goal.returns-in-Shifted-clause-keeps
returns-in-Shifted-clause-keeps c =
    let fits : FitsSigned w128 c.in-Shifted.rate.units = search rules in
    subst (λ change. IfOk c.shift.result (λ _. (part : ℕ) → ChangeAsks (change_of change) c.args.product.now part))
    (sym c.in-Shifted.is) (simp to_z-of_z at c.shift.ensures.keeps)

pub returns-in-Shifted-clause-refused : goal.returns-in-Shifted-clause-refused
returns-in-Shifted-clause-refused c =
    let fits : FitsSigned w128 c.in-Shifted.rate.units = search rules in
    subst (λ change. (broken : ChangeBreak) → c.shift.result ≡ Err (error.Change broken)
    → IsFirstBroken (ChangeAsks (change_of change) c.args.product.now) broken.part)
    (sym c.in-Shifted.is) (simp to_z-of_z at c.shift.ensures.refused)

pub returns-in-Multiplied-clause-keeps : goal.returns-in-Multiplied-clause-keeps
returns-in-Multiplied-clause-keeps c =
    let fits : FitsSigned w128 c.in-Multiplied.factor.units = search rules in
    subst (λ change. IfOk c.multiply.result (λ _. (part : ℕ) → ChangeAsks (change_of change) c.args.product.now part))
    (sym c.in-Multiplied.is) (simp to_z-of_z at c.multiply.ensures.keeps)

pub returns-in-Multiplied-clause-refused : goal.returns-in-Multiplied-clause-refused
returns-in-Multiplied-clause-refused c =
    let fits : FitsSigned w128 c.in-Multiplied.factor.units = search rules in
    subst (λ change. (broken : ChangeBreak) → c.multiply.result ≡ Err (error.Change broken)
    → IsFirstBroken (ChangeAsks (change_of change) c.args.product.now) broken.part)
    (sym c.in-Multiplied.is) (simp to_z-of_z at c.multiply.ensures.refused)

pub returns-in-Charged-clause-keeps : goal.returns-in-Charged-clause-keeps
returns-in-Charged-clause-keeps c =
    let fits : FitsSigned w64 c.in-Charged.amount = search rules in
    subst (λ change. IfOk c.charge.result (λ _. (part : ℕ) → ChangeAsks (change_of change) c.args.product.now part))
    (sym c.in-Charged.is) (simp to_z-of_z at c.charge.ensures.keeps)

pub returns-in-Charged-clause-refused : goal.returns-in-Charged-clause-refused
returns-in-Charged-clause-refused c =
    let fits : FitsSigned w64 c.in-Charged.amount = search rules in
    subst (λ change. (broken : ChangeBreak) → c.charge.result ≡ Err (error.Change broken)
    → IsFirstBroken (ChangeAsks (change_of change) c.args.product.now) broken.part)
    (sym c.in-Charged.is) (simp to_z-of_z at c.charge.ensures.refused)
