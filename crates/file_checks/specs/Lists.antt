-- The checks of an item of a list, by the list and the place.
use Rattle.std.specs.Prelude.{◌≡◌, ℕ, ◌<◌, codes, List, length, map, Bool, true, ◌&&◌}
use Rattle.toml.specs.Data.{Data, Members}
use Rattle.whole_laws.specs.Whole.{natural_part}
use Rattle.model_specs.specs.RecordRules.{months_of, is_bounded}
use Rattle.product_file.specs.Members.{whole_of, item_at}
use Rattle.product_file.specs.CurveRules.{most_coefficients, is_piece, is_in_order, start_of, piece_of}
use Rattle.product_file.specs.CurveRules.{months_of_term}
use Rattle.product_file.specs.PaymentRules.{is_step, step_of, is_bounded_step}

-- the piece at a place of a curve is one, and starts in order
abbrev pub is_good_piece : Members → List Data → ℕ → Bool
is_good_piece tree items i = is_piece (most_coefficients tree) (item_at items i)
    && is_in_order (whole_of (codes "months") tree) items i

-- the step at a place of a list of steps is one, and starts in order
abbrev pub is_good_step : Members → List Data → ℕ → Bool
is_good_step tree items i = is_step tree (item_at items i) && is_in_order (whole_of (codes "months") tree) items i

-- the starts of some pieces or steps are in order
abbrev pub AreInOrder : Members → List Data → Type 0
AreInOrder tree items =
    (i : ℕ) → i < length items → is_in_order (whole_of (codes "months") tree) items i ≡ true

-- the months at which pieces or steps start
abbrev pub starts_of : List Data → List ℕ
starts_of items = map (λ d. natural_part (start_of d)) items

-- the piece at a place of a curve is bounded
abbrev pub is_bounded_piece : Members → List Data → ℕ → Bool
is_bounded_piece tree items i =
    is_bounded (piece_of (item_at items i)).c (months_of (months_of_term tree) (starts_of items) i)

-- the step at a place of a list of steps is bounded, and so are its amounts
abbrev pub is_bounded_step_at : Members → List Data → ℕ → Bool
is_bounded_step_at tree items i =
    is_bounded_step (step_of tree (item_at items i)) (months_of (months_of_term tree) (starts_of items) i)
