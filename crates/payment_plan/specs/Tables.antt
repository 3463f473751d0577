-- What a plan keeps to answer at once: the lumps of each date, and those of the pattern.
use Rattle.std.specs.Prelude.{◌≡◌, ℕ, suc, ◌+◌, ◌*◌, ◌%◌, ◌==◌, ◌&&◌, nat_lt, ℤ, pos, not, Bool, List, []}
use Rattle.std.specs.Prelude.{length, map, filter_map, find, option_map, slice_index_or, Option, Some, None}
use Rattle.std.specs.Prelude.{Vec, slice_range, if◌then◌else◌}
use Rattle.std.specs.List.{list_any}
use Rattle.std.specs.declared.alloc.Global.{Global}
use Rattle.whole_laws.specs.Whole.{list_of, places}
use Rattle.model_specs.specs.Product.{Lump, PremiumPattern}
use Rattle.model_specs.specs.Payments.{lumps_at}
use Rattle.payment_plan.specs.Payments.{Payments, IsAllowed, benefits_of}

-- an amount with its state
abbrev pub with_state : ℕ → Option ℤ → Option (ℕ × ℤ)
with_state i None = None
with_state i (Some amount) = Some (i, amount)

-- the amount of the first lump of a date and a state
abbrev pub amount_at : List Lump → ℕ → ℕ → Option ℤ
amount_at lumps month state = option_map (λ l. l.amount) (find (λ l. (l.month == month) && (l.state == state)) lumps)

-- the lumps of a date in the first states, by the amounts of the states
abbrev pub row_upto : List (Option ℤ) → ℕ → List (ℕ × ℤ)
row_upto amounts n = filter_map (λ i. with_state i (slice_index_or amounts i None)) (places n)

-- and in all of them
abbrev pub row_of : List (Option ℤ) → List (ℕ × ℤ)
row_of amounts = row_upto amounts (length amounts)

-- the lumps of a date of a table that has a row of states for each date
abbrev pub row_at : List (Option ℤ) → ℕ → ℕ → List (ℕ × ℤ)
row_at table states date = row_of (slice_range table (date * states) ((date + 1) * states))

-- the lumps of a date, each with its state, in order of states
abbrev pub dated_lumps : ℕ → List Lump → ℕ → List (ℕ × ℤ)
dated_lumps states lumps month =
    lumps_at states (record { sums = []; sojourns = []; lumps = lumps }) month

-- vectors, as lists
abbrev pub lists_of : List (Vec (ℕ × ℤ) Global) → List (List (ℕ × ℤ))
lists_of rows = map (λ row. row.items) rows

-- whether a state is a payer
abbrev pub is_payer : List ℕ → ℕ → Bool
is_payer payers state = list_any (λ payer. payer == state) payers

-- a lump of 1 in a payer state
abbrev pub payer_at : List ℕ → ℕ → Option (ℕ × ℤ)
payer_at payers i = if is_payer payers i then Some (i, pos 1) else None

-- a lump of 1 in each payer state, in order of states
abbrev pub payers_in_order : ℕ → List ℕ → List (ℕ × ℤ)
payers_in_order states payers = filter_map (payer_at payers) (places states)

-- whether a pattern pays continuously in a state in a month
abbrev pub pays_in_month : PremiumPattern → ℕ → ℕ → Bool
pays_in_month pattern state month =
    (pattern.every == 0) && nat_lt month pattern.until && is_payer pattern.payers state

-- whether a pattern pays at a date
abbrev pub pays_at_date : PremiumPattern → ℕ → Bool
pays_at_date pattern date =
    not (pattern.every == 0) && nat_lt date pattern.until && (date % pattern.every == 0)

-- the plan obeys its rules, and keeps the lumps of each date up to the term, and a lump of 1 for each payer
pub record KeepsTables (p : Payments) (dated : List (List (ℕ × ℤ))) (payers : List (ℕ × ℤ)) : Type 0 where
  pub allowed : IsAllowed p
  pub dates_are : dated ≡ list_of (suc p.months) (lumps_at p.states (benefits_of p))
  pub payers_are : payers ≡ payers_in_order p.states p.pattern.payers
