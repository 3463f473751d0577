use Rattle.std.proofs.Common.{◌≡◌, pos, get_or, length, rules, FitsSigned}
use Rattle.std.specs.Int.{w64}
use Rattle.file_changes.proofs.Words.{four_words}
use Rattle.file_changes.proofs.charged_sojourns.has_words.Goals as goal

pub returns : goal.returns
returns c =
    let four : length c.args.step.now.c ≡ 4 = search rules in
    let number-0 : FitsSigned w64 (get_or c.args.step.now.c 0 (pos 0)) = search rules in
    let number-1 : FitsSigned w64 (get_or c.args.step.now.c 1 (pos 0)) = search rules in
    let number-2 : FitsSigned w64 (get_or c.args.step.now.c 2 (pos 0)) = search rules in
    let number-3 : FitsSigned w64 (get_or c.args.step.now.c 3 (pos 0)) = search rules in
    four_words c.args.step.now.c four number-0 number-1 number-2 number-3
