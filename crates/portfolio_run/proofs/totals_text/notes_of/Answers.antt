use Rattle.std.proofs.Common.{◌≡◌, ◌++◌, ◌∷◌, [], ◌∙◌, ap, sym, take, FitsSigned, rules}
use Rattle.std.specs.Int.{w128}
use Rattle.std.proofs.lemmas.Int.{to_z-of_z}
use Rattle.portfolio_run.specs.TotalsText.{note_of, notes_from}
use Rattle.portfolio_run.proofs.TotalLines.{notes_more}
use Rattle.portfolio_run.proofs.totals_text.notes_of.Goals as goal

pub loop-i-preserved : goal.loop-i-preserved
loop-i-preserved c =
    let total = c.index-groups-i.result in
    let lo_fits : FitsSigned w128 c.index-groups-i.result.lo = search rules in
    let hi_fits : FitsSigned w128 c.index-groups-i.result.hi = search rules in
    let items : c.push.new.self.items ≡ c.loop-i.notes.items ++ note_of c.loop-i.i total ∷ [] =
    simp to_z-of_z at c.in_ok-push.ensures.items in
    items ∙ ap (λ notes. notes ++ note_of c.loop-i.i total ∷ []) c.loop-i.invariant
    ∙ ap (λ t. notes_from 0 (take c.loop-i.i c.args.groups.now) ++ note_of c.loop-i.i t ∷ []) c.index-groups-i.is
    ∙ sym (notes_more c.args.groups.now c.loop-i.i total c.loop-i-test.true)
