use Rattle.std.proofs.Common.{map, subst, sym}
use Rattle.std.specs.Prelude.{List}
use Rattle.toml.specs.View.{view}
use Rattle.model_specs.specs.Curve.{Piece}
use Rattle.curve_pieces.specs.PiecewiseCurves.{IsAllowed}
use Rattle.product_file.specs.CurveRules.{piece_of}
use Rattle.product_reader.proofs.Starts.{curve_starts, curve_is_allowed}
use Rattle.product_reader.proofs.curves.curve_from.Goals as goal

pub pieces_from-requires : goal.pieces_from-requires
pieces_from-requires c =
    curve_starts c.args.months (map view c.args.values.now) c.requires.rule_8 c.requires.most_months

pub unwrap-requires : goal.unwrap-requires
unwrap-requires c =
    c.new.ensures.lawful.1
    (subst (λ (pieces : List Piece). IsAllowed (record { pieces = pieces; months = c.args.months }))
    (sym c.in_ok-pieces.ensures)
    (curve_is_allowed c.args.months (map piece_of (map view c.args.values.now)) c.requires.some_month
    c.requires.most_months c.requires.rule_8 c.requires.rule_9))
