-- A table with a place for each date and state, and its rows.
use Rattle.std.proofs.Common.{◌≡◌, ℕ, suc, ◌+◌, ◌-◌, ◌*◌, ◌<◌, ◌≤◌, ℤ, List, [], ◌∷◌, length, get_or, drop}
use Rattle.std.proofs.Common.{true, false, arith, refl, ap, sym, subst, ◌∙◌, inl, inr, add-one}
use Rattle.std.proofs.Common.{length-drop, ◌++◌, pos, cond, Bool, append-nil}
use Rattle.std.specs.Prelude.{Option, Some, None, option_map, find, ◌==◌, ◌&&◌, slice_range}
use Rattle.std.specs.Option.{option_to_list}
use mathlib.Core.Path.{ap₂}
use Rattle.std.specs.declared.alloc.Global.{Global}
use Rattle.std.specs.Prelude.{Vec}
use Rattle.std.proofs.Math.ListN.{set}
use Rattle.std.proofs.Math.Nat.{mul-le-mul_right}
use Rattle.std.proofs.Math.Seq.{drop-cons}
use Rattle.std.proofs.lemmas.Bool.Decides.{eqb_tells}
use Rattle.std.proofs.lemmas.List.{get_or-set_same, get_or-set_other, get_or-drop, get_or-take, length-take, map-append}
use Rattle.whole_laws.specs.Whole.{list_of}
use Rattle.model_specs.specs.Product as model
use Rattle.payment_plan.specs.declared.lump.Lump.{Lump}
use Rattle.payment_plan.specs.Records.{lumps_of}
use Rattle.payment_plan.specs.Tables.{with_state, amount_at, row_upto, row_at, dated_lumps, lists_of}
use Rattle.payment_plan.specs.Tables.{is_payer, payer_at, payers_in_order}
use Rattle.std.proofs.lemmas.Bool.{cases_lt}
use Rattle.whole_laws.proofs.Places.{places-agree, places-more}
use Rattle.whole_laws.proofs.ListsByPlace.{list_of-more}

next_row : (s m n : ℕ) → m < n → m * s + s ≤ n * s
next_row s m n h = let row : suc m ≤ n = omega arith in omega (arith, mul-le-mul_right s row)

-- the place of a date and a state is that of no other ones
pub one_place : (s m i n j : ℕ) → i < s → j < s → m * s + i ≡ n * s + j → (m ≡ n) × (i ≡ j)
one_place s m i n j below other same =
    elim (cases_lt m n) [
      | inl before ↦ absurd (omega (arith, next_row s m n before))
      | inr upto ↦ elim (cases_lt n m) [
        | inl after ↦ absurd (omega (arith, next_row s n m after))
        | inr both ↦ let equal : m ≡ n = omega arith in
            let P : ℕ → Type 0 = λ k. m * s + i ≡ k * s + j in
            let here : m * s + i ≡ m * s + j = subst P (sym equal) same in (equal, omega (arith, here))
      ]
    ]

-- a table holds the amounts of some lumps
abbrev pub HoldsAmounts : List (Option ℤ) → ℕ → List Lump → Type 0
HoldsAmounts table states lumps = (month state : ℕ) → state < states → month * states + state < length table
    → get_or table (month * states + state) None ≡ amount_at (lumps_of lumps) month state

-- the lump of this date and state comes first
first_amount : (l : Lump) (rest : List Lump) (month state : ℕ) → l.month ≡ month → l.state ≡ state
    → amount_at (lumps_of (l ∷ rest)) month state ≡ Some l.amount
first_amount l rest month state h k =
    elim (eqb_tells l.month month) [
      | inl same ↦ elim (eqb_tells l.state state) [
        | inl equal ↦ rw (same.0, equal.0) refl
        | inr differs ↦ absurd (differs.1 k)
      ]
      | inr differs ↦ absurd (differs.1 h)
    ]

-- a lump of another date or state does not count
later_amount : (l : Lump) (rest : List Lump) (month state : ℕ) → ¬ ((l.month ≡ month) × (l.state ≡ state))
    → amount_at (lumps_of (l ∷ rest)) month state ≡ amount_at (lumps_of rest) month state
later_amount l rest month state h =
    elim (eqb_tells l.month month) [
      | inl same ↦ elim (eqb_tells l.state state) [
        | inl equal ↦ absurd (h (same.1, equal.1))
        | inr differs ↦ rw (same.0, differs.0) refl
      ]
      | inr differs ↦ rw differs.0 refl
    ]

written_at : (table : List (Option ℤ)) (states at : ℕ) (l : Lump) (rest : List Lump)
    → HoldsAmounts table states rest → at ≡ l.month * states + l.state → l.state < states → at < length table
    → (month state : ℕ) → state < states → month * states + state < length table
    → get_or (set table at (Some l.amount)) (month * states + state) None
    ≡ amount_at (lumps_of (l ∷ rest)) month state
written_at table states at l rest held place own inside month state below within =
    elim (eqb_tells (month * states + state) at) [
      | inl here ↦
          let same = one_place states month state l.month l.state below own (here.1 ∙ place) in
          ap (λ k. get_or (set table at (Some l.amount)) k None) here.1
          ∙ get_or-set_same table at (Some l.amount) None inside
          ∙ sym (first_amount l rest month state (sym same.0) (sym same.1))
      | inr other ↦
          get_or-set_other table at (month * states + state) (Some l.amount) None other.1
          ∙ held month state below within
          ∙ sym (later_amount l rest month state (λ both. other.1 (elsewhere both)))
    ]
  where
    elsewhere : (l.month ≡ month) × (l.state ≡ state) → month * states + state ≡ at
    elsewhere both =
        let P : ℕ → Type 0 = λ k. k * states + state ≡ at in
        subst P both.0
        (let Q : ℕ → Type 0 = λ k. l.month * states + k ≡ at in subst Q both.1 (sym place))

-- one more lump, from the last one on
pub record WritesLump (table : List (Option ℤ)) (lumps : List Lump) (states i at : ℕ) (l : Lump) : Type 0 where
  pub held : HoldsAmounts table states (drop i lumps)
  pub some : 0 < i
  pub upto : i ≤ length lumps
  pub lump_is : l ≡ get_or lumps (i - 1) l
  pub place : at ≡ l.month * states + l.state
  pub own : l.state < states
  pub inside : at < length table

pub writes_lump : (table : List (Option ℤ)) (lumps : List Lump) (states i at : ℕ) (l : Lump)
    → WritesLump table lumps states i at l → (month state : ℕ) → state < states → month * states + state < length table
    → get_or (set table at (Some l.amount)) (month * states + state) None
    ≡ amount_at (lumps_of (drop (i - 1) lumps)) month state
writes_lump table lumps states i at l w month state below within =
    let e : suc (i - 1) ≡ i = omega (arith, w.some) in
    let from_here : drop (i - 1) lumps ≡ l ∷ drop i lumps =
    drop-cons lumps (i - 1) l (omega (arith, w.some, w.upto))
    ∙ ap (λ x. x ∷ drop (suc (i - 1)) lumps) (sym w.lump_is) ∙ ap (λ j. l ∷ drop j lumps) e in
    written_at table states at l (drop i lumps) w.held w.place w.own w.inside month state below within
    ∙ ap (λ ls. amount_at (lumps_of ls) month state) (sym from_here)

-- a row of a table
pub record IsTable (table : List (Option ℤ)) (states months : ℕ) (lumps : List Lump) : Type 0 where
  pub long : length table ≡ (months + 1) * states
  pub amounts : HoldsAmounts table states lumps

row_end : (states months date : ℕ) → date < months + 1 → (date + 1) * states ≤ (months + 1) * states
row_end states months date h = mul-le-mul_right states (omega arith)

row_length : (states date : ℕ) → (date + 1) * states - date * states ≡ states
row_length states date = omega arith

length-row : (table : List (Option ℤ)) (states months date : ℕ) (lumps : List Lump) → IsTable table states months lumps
    → date < months + 1 → length (slice_range table (date * states) ((date + 1) * states)) ≡ states
length-row table states months date lumps t h =
    omega (
      arith,
      length-take ((date + 1) * states - date * states) (drop (date * states) table),
      length-drop (date * states) table,
      row_length states date,
      row_end states months date h,
      t.long,
    )

at_row : (table : List (Option ℤ)) (states months date i : ℕ) (lumps : List Lump) → IsTable table states months lumps
    → date < months + 1 → i < states
    → get_or (slice_range table (date * states) ((date + 1) * states)) i None ≡ amount_at (lumps_of lumps) date i
at_row table states months date i lumps t h below =
    get_or-take ((date + 1) * states - date * states) (drop (date * states) table) i None
    (omega (arith, row_length states date))
    ∙ get_or-drop (date * states) table i None
    ∙ t.amounts date i below (omega (arith, row_end states months date h, t.long))

state_joined : (i : ℕ) (o : Option model.Lump)
    → with_state i (option_map (λ l. l.amount) o) ≡ option_map (λ l. (i, l.amount)) o
state_joined i None = refl
state_joined i (Some l) = refl

pub row_is : (table : List (Option ℤ)) (states months : ℕ) (lumps : List Lump) → IsTable table states months lumps
    → (date : ℕ) → date < months + 1 → row_at table states date ≡ dated_lumps states (lumps_of lumps) date
row_is table states months lumps t date h =
    let row = slice_range table (date * states) ((date + 1) * states) in
    ap (row_upto row) (length-row table states months date lumps t h)
    ∙ places-agree states _ _ (λ i below. ap (with_state i) (at_row table states months date i lumps t h below)
    ∙ state_joined i (find (λ l. (l.month == date) && (l.state == i)) (lumps_of lumps)))

-- the row grows by a state that has a lump, and stays as it is at one that has none
pub row-more : (amounts : List (Option ℤ)) (n : ℕ) (amount : ℤ) (old new : List (ℕ × ℤ))
    → old ≡ row_upto amounts n → get_or amounts n None ≡ Some amount → new ≡ old ++ (n, amount) ∷ []
    → new ≡ row_upto amounts (n + 1)
row-more amounts n amount old new so_far here more =
    more ∙ ap (λ xs. xs ++ (n, amount) ∷ []) so_far
    ∙ ap (λ o. row_upto amounts n ++ option_to_list (with_state n o)) (sym here)
    ∙ sym (places-more n (λ i. with_state i (get_or amounts i None)))

pub row-same : (amounts : List (Option ℤ)) (n : ℕ) (old : List (ℕ × ℤ))
    → old ≡ row_upto amounts n → get_or amounts n None ≡ None → old ≡ row_upto amounts (n + 1)
row-same amounts n old so_far here =
    so_far ∙ sym (append-nil (row_upto amounts n))
    ∙ ap (λ o. row_upto amounts n ++ option_to_list (with_state n o)) (sym here)
    ∙ sym (places-more n (λ i. with_state i (get_or amounts i None)))

-- and so do the payers
pub payers-more : (payers : List ℕ) (n : ℕ) (old new : List (ℕ × ℤ))
    → old ≡ payers_in_order n payers → is_payer payers n ≡ true → new ≡ old ++ (n, pos 1) ∷ []
    → new ≡ payers_in_order (n + 1) payers
payers-more payers n old new so_far here more =
    more ∙ ap (λ xs. xs ++ (n, pos 1) ∷ []) so_far
    ∙ ap (λ b. payers_in_order n payers ++ option_to_list (cond b (Some (n, pos 1)) None)) (sym here)
    ∙ sym (places-more n (payer_at payers))

pub payers-same : (payers : List ℕ) (n : ℕ) (old : List (ℕ × ℤ))
    → old ≡ payers_in_order n payers → is_payer payers n ≡ false → old ≡ payers_in_order (n + 1) payers
payers-same payers n old so_far here =
    so_far ∙ sym (append-nil (payers_in_order n payers))
    ∙ ap (λ b. payers_in_order n payers ++ option_to_list (one b)) (sym here)
    ∙ sym (places-more n (payer_at payers))
  where
    one : Bool → Option (ℕ × ℤ)
    one b = cond b (Some (n, pos 1)) None

-- one more date
pub dates-more : (old new : List (Vec (ℕ × ℤ) Global)) (row : Vec (ℕ × ℤ) Global) (n : ℕ) (f : ℕ → List (ℕ × ℤ))
    → lists_of old ≡ list_of n f → new ≡ old ++ row ∷ [] → row.items ≡ f n → lists_of new ≡ list_of (n + 1) f
dates-more old new row n f so_far more here =
    ap lists_of more ∙ map-append (λ r. r.items) old (row ∷ [])
    ∙ ap₂ (λ xs x. xs ++ x ∷ []) so_far here ∙ sym (list_of-more n f) ∙ ap (λ k. list_of k f) (sym (add-one n))
