-- The widest of some rows, one row more.
use Rattle.std.proofs.Common.{◌≡◌, ℕ, ◌+◌, ◌<◌, List, [], ◌∷◌, arith, ap, ◌∙◌, get_or, max, take, length}
use Rattle.std.specs.Prelude.{map}
use Rattle.std.proofs.lemmas.List.{take_more, map-append}
use Rattle.whole_laws.specs.Whole.{greatest_natural}
use Rattle.rate_bounds.proofs.LeastAndGreatest.{greatest_natural-push}
use Rattle.report_columns.specs.declared.note.Note.{Note}
use Rattle.reserve_report.specs.LoadText.{width_of, widest}

pub widest_more : (rows : List Note) (i : ℕ) (d : Note) (most x next : ℕ) → i < length rows
    → most ≡ widest (take i rows) → x ≡ width_of (get_or rows i d) → next ≡ max x most
    → next ≡ widest (take (i + 1) rows)
widest_more rows i d most x next inside sofar here is =
    let more : widest (take (i + 1) rows) ≡ max (widest (take i rows)) (width_of (get_or rows i d)) =
    ap widest (take_more rows i d inside)
    ∙ ap greatest_natural (map-append width_of (take i rows) (get_or rows i d ∷ []))
    ∙ greatest_natural-push (map width_of (take i rows)) (width_of (get_or rows i d)) in
    omega (arith, more)
