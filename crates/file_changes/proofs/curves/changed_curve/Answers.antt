use Rattle.std.proofs.Common.{◌≡◌, ℕ, ◌*ℤ◌, ap, sym, ◌∙◌, subst, FitsSigned, List}
use Rattle.std.specs.Prelude.{IfOk}
use Rattle.std.specs.Int.{w64, w128}
use Rattle.std.proofs.lemmas.Int.{to_z-of_z}
use Rattle.model_specs.specs.Curve as model
use Rattle.curve_pieces.specs.PiecewiseCurves.{PiecewiseCurve, IsAllowed}
use Rattle.curve_pieces.specs.Records.{records_of}
use Rattle.file_changes.specs.Asks.{IsSmallCurve}
use Rattle.file_changes.specs.BasisChanges.{changed_pieces}
use Rattle.file_changes.proofs.Pieces.{changed_is_allowed, ok_gives, not_ok_gives}
use Rattle.file_changes.proofs.curves.changed_curve.Goals as goal

-- a curve by its parts
abbrev curve_with : List model.Piece → ℕ → PiecewiseCurve
curve_with pieces months = record { pieces = pieces; months = months }

pub returns-in-Some-clause-changed : goal.returns-in-Some-clause-changed
returns-in-Some-clause-changed c =
    let factor : FitsSigned w128 c.args.factor = c.ranges.factor in
    let units : FitsSigned w128 c.args.units = c.ranges.units in
    let den : FitsSigned w64 c.args.den = c.ranges.den in
    let more = c.args.units *ℤ c.args.den in
    let made : records_of c.in-Some.pieces.items ≡ changed_pieces c.args.factor more (records_of c.pieces.result.now) =
    simp to_z-of_z at (rw c.in-Some.is at c.in_ok-pieces.ensures.changed) in
    let same = made ∙ ap (changed_pieces c.args.factor more) c.pieces.ensures in
    let curve : PiecewiseCurve = record {
      pieces = changed_pieces c.args.factor more c.args.curve.now.pieces;
      months = c.args.curve.now.months;
    } in
    let parts = ap (λ (ps : List model.Piece). curve_with ps c.months-months.result) same
    ∙ ap (curve_with (changed_pieces c.args.factor more c.args.curve.now.pieces)) c.months-months.ensures.value in
    rw c.ok.ensures.value (ok_gives c.new.result (λ (changed : PiecewiseCurve). changed ≡ curve)
    (subst (λ (q : PiecewiseCurve). IfOk c.new.result (λ changed. changed ≡ q)) parts c.new.ensures.ok))

pub returns-in-Some-clause-too_large : goal.returns-in-Some-clause-too_large
returns-in-Some-clause-too_large c =
    let factor : FitsSigned w128 c.args.factor = c.ranges.factor in
    let units : FitsSigned w128 c.args.units = c.ranges.units in
    let den : FitsSigned w64 c.args.den = c.ranges.den in
    let more = c.args.units *ℤ c.args.den in
    let made : records_of c.in-Some.pieces.items ≡ changed_pieces c.args.factor more (records_of c.pieces.result.now) =
    simp to_z-of_z at (rw c.in-Some.is at c.in_ok-pieces.ensures.changed) in
    let same = made ∙ ap (changed_pieces c.args.factor more) c.pieces.ensures in
    let curve : PiecewiseCurve = record {
      pieces = changed_pieces c.args.factor more c.args.curve.now.pieces;
      months = c.args.curve.now.months;
    } in
    let parts = ap (λ (ps : List model.Piece). curve_with ps c.months-months.result) same
    ∙ ap (curve_with (changed_pieces c.args.factor more c.args.curve.now.pieces)) c.months-months.ensures.value in
    rw c.ok.ensures.value (not_ok_gives c.new.result
    (IsSmallCurve c.args.curve.now.months (changed_pieces c.args.factor more c.args.curve.now.pieces))
    (λ small. c.new.ensures.lawful.1 (subst IsAllowed (sym parts)
    (changed_is_allowed c.args.factor more c.args.curve.now.pieces c.args.curve.now.months
    c.months-months.ensures.lawful small.bounded))))
