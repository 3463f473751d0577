-- Rules 10 and 11 of a product file: the steps of its payments. List k is the sum of transition k; after the
-- transitions come the sojourns.
use Rattle.std.specs.Prelude.{ℕ, ◌*◌, nat_le, ◌==◌, ℤ, pos, unsigned_abs, codes, List, [], ◌∷◌, ◌++◌, length}
use Rattle.std.specs.Prelude.{map, take, slice_index_or, Bool, false, not, ◌&&◌, if◌then◌else◌, is_some}
use Rattle.std.specs.List.{list_all, list_any}
use Rattle.toml.specs.Data.{Data, Members}
use Rattle.named_numbers.specs.Numbers.{most_amount, bernstein_unit}
use Rattle.whole_laws.specs.Whole.{list_of, places, natural_part}
use Rattle.model_specs.specs.Product.{Step}
use Rattle.model_specs.specs.Payments.{constant_step}
use Rattle.model_specs.specs.MonthNumbers.{bernstein_numerators}
use Rattle.model_specs.specs.RecordRules.{months_of, step_starts, is_bounded}
use Rattle.product_file.specs.Members.{is_absent, whole_of, items_of, item_at, members_of}
use Rattle.product_file.specs.Keys.{constant_step_keys, piece_keys, sojourn_keys, is_table_of}
use Rattle.product_file.specs.HeadRules.{is_format_1}
use Rattle.product_file.specs.TransitionRule.{transition_items, state_at, state_index}
use Rattle.product_file.specs.CurveRules.{start_of, is_in_order, not_empty}
use Rattle.product_file.specs.CurveRules.{coefficients_of, months_of_term}

-- a step is a table of the keys of the file's format: a constant amount, or 1 to 4 coefficients
abbrev pub is_step : Members → Data → Bool
is_step tree d = if is_format_1 tree then is_table_of constant_step_keys d else is_table_of (piece_keys 4) d

-- rule 10 of a list of steps: it has a step, each is one, and their starts are in order
abbrev pub steps_rule_10 : Members → List Data → List Bool
steps_rule_10 tree items = not_empty (length items)
    (λ i. is_step tree (item_at items i) && is_in_order (whole_of (codes "months") tree) items i)

-- a sojourn is a table of its keys
abbrev pub is_sojourn : Data → Bool
is_sojourn d = is_table_of sojourn_keys d

-- the sojourns of the file
abbrev pub sojourn_items : Members → List Data
sojourn_items tree = items_of (codes "sojourn") tree

-- a sojourn at a place is one, names a state, and no earlier one names it
abbrev pub is_good_sojourn : Members → ℕ → Bool
is_good_sojourn tree s =
    let d = item_at (sojourn_items tree) s in
    is_sojourn d && is_some (state_at tree (codes "state") d)
    && not (list_any (λ e. state_index tree (codes "state") e == state_index tree (codes "state") d)
    (take s (sojourn_items tree)))

-- the steps of a transition's sum, of which there are none where it has no sum
abbrev pub sum_items : Data → List Data
sum_items d = items_of (codes "sum") (members_of d)

-- the steps of a sojourn
abbrev pub steps_items : Data → List Data
steps_items d = items_of (codes "steps") (members_of d)

-- rule 10 of a transition's sum: a transition without one has nothing to be broken
abbrev pub sum_rule_10 : Members → Data → List Bool
sum_rule_10 tree d =
    if is_absent (codes "sum") (members_of d) then [] else steps_rule_10 tree (sum_items d)

-- rule 10 of a sojourn at a place: a fault of the sojourn itself is broken at step 0
abbrev pub sojourn_rule_10 : Members → ℕ → List Bool
sojourn_rule_10 tree s =
    if is_good_sojourn tree s then steps_rule_10 tree (steps_items (item_at (sojourn_items tree) s))
    else (false ∷ [])

-- rule 10: place 4096 list + step
abbrev pub rule_10 : Members → List (List Bool)
rule_10 tree = map (sum_rule_10 tree) (transition_items tree)
    ++ list_of (length (sojourn_items tree)) (sojourn_rule_10 tree)

-- the four coefficients of a step: a constant amount in format 1, and else those of the file, 0 for those left out
abbrev pub amount_of : Members → Data → List ℤ
amount_of tree d =
    let t = members_of d in
    if is_format_1 tree then whole_of (codes "amount") t ∷ pos 0 ∷ pos 0 ∷ pos 0 ∷ []
    else coefficients_of 4 (codes "c") t

-- a step of the product
abbrev pub step_of : Members → Data → Step
step_of tree d = record { from = natural_part (start_of d); c = amount_of tree d }

-- each Bernstein numerator of an amount in a month is not too large
abbrev pub are_small : List ℤ → Bool
are_small numerators = list_all (λ b. nat_le (unsigned_abs b) (most_amount * bernstein_unit)) numerators

-- rule 11 of a step of s months: it is bounded, and so is its amount in each month
abbrev pub is_bounded_step : Step → ℕ → Bool
is_bounded_step step s = is_bounded step.c s && list_all (λ k. are_small (bernstein_numerators step.c k)) (places s)

-- rule 11 of a list of steps: each is bounded
abbrev pub steps_rule_11 : Members → List Data → List Bool
steps_rule_11 tree items =
    let steps = map (step_of tree) items in
    list_of (length steps) (λ i. is_bounded_step (slice_index_or steps i (constant_step 0 (pos 0)))
    (months_of (months_of_term tree) (step_starts steps) i))

-- rule 11: place 4096 list + step
abbrev pub rule_11 : Members → List (List Bool)
rule_11 tree = map (λ d. steps_rule_11 tree (sum_items d)) (transition_items tree)
    ++ map (λ d. steps_rule_11 tree (steps_items d)) (sojourn_items tree)
