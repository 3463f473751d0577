-- A premium that is charged: the premium pattern times an amount is taken off the payments. This product's own.
use Rattle.std.specs.Prelude.{ℕ, ◌*◌, ◌/◌, ◌%◌, ℤ, pos, ◌-ℤ◌, ◌==◌, ◌&&◌, not, Bool, if◌then◌else◌}
use Rattle.std.specs.Prelude.{List, ◌++◌, length, map, filter}
use Rattle.std.specs.List.{list_any}
use Rattle.whole_laws.specs.Whole.{places}
use Rattle.model_specs.specs.Product.{Product, Lump, Sojourn, PremiumPattern}
use Rattle.payment_plan.specs.Tables.{is_payer, pays_at_date}
use Rattle.file_changes.specs.ContinuousCharges.{charged_sojourns}

-- the pattern pays at a date in a state
abbrev pub is_due : PremiumPattern → (date state : ℕ) → Bool
is_due pattern date state = pays_at_date pattern date && is_payer pattern.payers state

-- one of some lumps has a date and a state
abbrev pub has_lump : List Lump → (date state : ℕ) → Bool
has_lump lumps date state = list_any (λ l. (l.month == date) && (l.state == state)) lumps

-- the premium is due where no lump is, at a date and in a state that have one place together: date by date, and state
-- by state
abbrev pub is_missing : (states : ℕ) → List Lump → PremiumPattern → (place : ℕ) → Bool
is_missing states lumps pattern place =
    is_due pattern (place / states) (place % states) && not (has_lump lumps (place / states) (place % states))

-- a lump of nothing at such a place
abbrev pub zero_lump : (states : ℕ) → (place : ℕ) → Lump
zero_lump states place = record { month = place / states; state = place % states; amount = pos 0 }

-- some lumps, and one of nothing wherever the premium is due and none is
abbrev pub completed_lumps : (states : ℕ) → List Lump → PremiumPattern → List Lump
completed_lumps states lumps pattern =
    lumps ++ map (zero_lump states) (filter (is_missing states lumps pattern) (places (pattern.until * states)))

-- a lump less an amount, where the premium is due
abbrev pub charged_lump : (amount : ℤ) → PremiumPattern → Lump → Lump
charged_lump amount pattern l = record {
  month = l.month;
  state = l.state;
  amount = if is_due pattern l.month l.state then l.amount -ℤ amount else l.amount;
}

-- the lumps of a product, each less the amount where a premium is due at its date
abbrev pub charged_lumps : (amount : ℤ) → Product → List Lump
charged_lumps amount product = map (charged_lump amount product.pattern)
    (completed_lumps (length product.states) product.lumps product.pattern)

-- a product with other lumps
abbrev pub with_lumps : List Lump → Product → Product
with_lumps lumps product = record {
  name = product.name;
  states = product.states;
  start = product.start;
  months = product.months;
  den = product.den;
  interest = product.interest;
  transitions = product.transitions;
  sojourns = product.sojourns;
  lumps = lumps;
  pattern = product.pattern;
}

-- a product with other sojourn payments
abbrev pub with_sojourns : List Sojourn → Product → Product
with_sojourns sojourns product = record {
  name = product.name;
  states = product.states;
  start = product.start;
  months = product.months;
  den = product.den;
  interest = product.interest;
  transitions = product.transitions;
  sojourns = sojourns;
  lumps = product.lumps;
  pattern = product.pattern;
}

-- a product with an amount for each 1 of its premium pattern taken off its payments: off its sojourn payments where the
-- premium is continuous, and else off its lumps
abbrev pub charged : (amount : ℤ) → Product → Product
charged amount product = if product.pattern.every == 0
    then with_sojourns (charged_sojourns amount product) product
    else with_lumps (charged_lumps amount product) product
