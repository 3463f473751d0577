-- A CSV text has one list of holdings, or one first wrong row.
use Rattle.std.proofs.Common.{◌≡◌, ℕ, ◌+◌, ◌-◌, ◌<◌, ◌≤◌, List, [], length, take, inl, inr}
use Rattle.std.proofs.Common.{refl, sym, ap, subst, ◌∙◌, arith}
use Rattle.std.specs.Prelude.{Option, Some, None, IsSome}
use Rattle.std.proofs.lemmas.List.{ext_get_or, get_or-take, length-take, take_all}
use Rattle.claim_audit.specs.Readings.{record_at}
use Rattle.claim_audit.proofs.OneReading.{one_records}
use Rattle.portfolio_run.specs.declared.fields.Fault.{Fault}
use Rattle.portfolio_run.specs.declared.fields.Fault.TheVariants as fault
use Rattle.portfolio_run.specs.declared.reading.PolicyError.TheVariants as error
use Rattle.rule_breaks.specs.declared.breaks.RowBreak.{RowBreak}
use Rattle.portfolio_run.specs.Holdings.{Holding, part_of, AreRight, FieldsHaveFault, HasFault, IsHolding}
use Rattle.portfolio_run.specs.Readings.{AreHoldings, AreHoldingsIn, BeginWith, IsFirstFault, IsFirstWrong}
use Rattle.portfolio_run.specs.Readings.{TellsWrongIn, files_of, holding_at}

-- ---- a record

-- a record says one holding
one_holding : (f g fields : List (List ℕ)) (a b : Holding) → IsHolding f fields a → IsHolding g fields b → a ≡ b
one_holding f g fields a b x y =
    let file : a.file ≡ b.file = cc (x.five, y.five) in
    let group : a.group ≡ b.group = cc (x.five, y.five) in
    let month : a.month ≡ b.month = cc (x.five, y.five, x.right.month_is, y.right.month_is) in
    let state : a.state ≡ b.state = cc (x.five, y.five) in
    let count : a.count ≡ b.count = cc (x.five, y.five, x.right.count_is, y.right.count_is) in
    λ k. record { file = file k; group = group k; month = month k; state = state k; count = count k }

-- a missing number is none
none_there : (o : Option ℕ) → IsSome o → o ≡ None → ⊥
none_there None there none = let no = there in cc
none_there (Some n) there none = cc

-- fields have one first fault
same_fault : (files : List (List ℕ)) (file group month count : List ℕ) (a b : Fault)
    → FieldsHaveFault files file group month count a → FieldsHaveFault files file group month count b → a ≡ b
same_fault files file group month count fault.Fields b x y = absurd x
same_fault files file group month count fault.File fault.Fields x y = absurd y
same_fault files file group month count fault.File fault.File x y = refl
same_fault files file group month count fault.File fault.Group x y = absurd (x y.0)
same_fault files file group month count fault.File fault.Month x y = absurd (x y.0)
same_fault files file group month count fault.File fault.Count x y = absurd (x y.0)
same_fault files file group month count fault.Group fault.Fields x y = absurd y
same_fault files file group month count fault.Group fault.File x y = absurd (y x.0)
same_fault files file group month count fault.Group fault.Group x y = refl
same_fault files file group month count fault.Group fault.Month x y = absurd (x.1 y.1)
same_fault files file group month count fault.Group fault.Count x y = absurd (x.1 y.1)
same_fault files file group month count fault.Month fault.Fields x y = absurd y
same_fault files file group month count fault.Month fault.File x y = absurd (y x.0)
same_fault files file group month count fault.Month fault.Group x y = absurd (y.1 x.1)
same_fault files file group month count fault.Month fault.Month x y = refl
same_fault files file group month count fault.Month fault.Count x y = absurd (none_there _ y.2 x.2)
same_fault files file group month count fault.Count fault.Fields x y = absurd y
same_fault files file group month count fault.Count fault.File x y = absurd (y x.0)
same_fault files file group month count fault.Count fault.Group x y = absurd (y.1 x.1)
same_fault files file group month count fault.Count fault.Month x y = absurd (none_there _ x.2 y.2)
same_fault files file group month count fault.Count fault.Count x y = refl

-- the same of fields that are equal
fault_again : (files : List (List ℕ)) (file group month count file' group' month' count' : List ℕ) (a : Fault)
    → file ≡ file' → group ≡ group' → month ≡ month' → count ≡ count'
    → FieldsHaveFault files file group month count a → FieldsHaveFault files file' group' month' count' a
fault_again files file group month count file' group' month' count' a e f g h x =
    subst (λ z. FieldsHaveFault files file' group' month' z a) h
    (subst (λ z. FieldsHaveFault files file' group' z count a) g
    (subst (λ z. FieldsHaveFault files file' z month count a) f
    (subst (λ z. FieldsHaveFault files z group month count a) e x)))

-- a record has one first fault
one_fault : (files fields : List (List ℕ)) (a b : Fault) → HasFault files fields a → HasFault files fields b → a ≡ b
one_fault files fields a b (inl x) (inl y) = x.0 ∙ sym y.0
one_fault files fields a b (inl x) (inr y) = absurd (x.1 (ap length y.five))
one_fault files fields a b (inr x) (inl y) = absurd (y.1 (ap length x.five))
one_fault files fields a b (inr x) (inr y) =
    same_fault files y.file y.group y.month y.count a b
    (fault_again files x.file x.group x.month x.count y.file y.group y.month y.count a (cc (x.five, y.five))
    (cc (x.five, y.five)) (cc (x.five, y.five)) (cc (x.five, y.five)) x.fails) y.fails

-- right fields have none
no_fault : (files : List (List ℕ)) (file group month count : List ℕ) (a : Fault) (date contracts : ℕ)
    → AreRight files file group month count date contracts → FieldsHaveFault files file group month count a → ⊥
no_fault files file group month count fault.Fields date contracts right x = x
no_fault files file group month count fault.File date contracts right x = x right.file_is
no_fault files file group month count fault.Group date contracts right x = x.1 right.group_is
no_fault files file group month count fault.Month date contracts right x = cc (right.month_is, x.2)
no_fault files file group month count fault.Count date contracts right x = cc (right.count_is, x.3)

-- a record that says a holding has no fault
holding_or_fault : (files fields : List (List ℕ)) (holding : Holding) (a : Fault) → IsHolding files fields holding
    → HasFault files fields a → ⊥
holding_or_fault files fields holding a x (inl y) = y.1 (ap length x.five)
holding_or_fault files fields holding a x (inr y) =
    no_fault files holding.file holding.group x.month x.count a holding.month holding.count x.right
    (fault_again files y.file y.group y.month y.count holding.file holding.group x.month x.count a
    (cc (y.five, x.five)) (cc (y.five, x.five)) (cc (y.five, x.five)) (cc (y.five, x.five)) y.fails)

-- ---- all records

-- what a list of holdings has past its end
abbrev no_holding : Holding
no_holding = record { file = []; group = []; month = 0; state = []; count = 0 }

-- of two lists of first records' holdings the longer one begins with the other
same_first : (records : List (List (List ℕ))) (a b : List Holding) → BeginWith records a → BeginWith records b
    → length a ≤ length b → take (length a) b ≡ a
same_first records a b x y longer =
    let count : length (take (length a) b) ≡ length a = omega (arith, length-take (length a) b, longer) in
    ext_get_or no_holding (take (length a) b) a count (λ k within.
    get_or-take (length a) b k no_holding (omega (arith, within, count))
    ∙ one_holding _ _ (record_at records (k + 1)) (holding_at b k) (holding_at a k)
    (y.each k (omega (arith, within, count, longer))) (x.each k (omega (arith, within, count))))

-- records are one list of holdings
pub one_holdings : (records : List (List (List ℕ))) (a b : List Holding) → AreHoldings records a
    → AreHoldings records b → a ≡ b
one_holdings records a b x y =
    let count : length a ≡ length b = omega (arith, x.all, y.all) in
    sym (sym (take_all (length a) b (omega (arith, count)))
    ∙ same_first records a b x.begin y.begin (omega (arith, count)))

-- a record of a holding is not the first at fault
not_first : (records : List (List (List ℕ))) (row part : ℕ) (holdings : List Holding) → BeginWith records holdings
    → IsFirstFault records row part → row < length holdings + 1 → ⊥
not_first records row part holdings begin x early =
    let place : row ≡ length x.before + 1 = x.row_is in
    let inside : length x.before < length holdings = omega (arith, place, early) in
    let before : take (length x.before) holdings ≡ x.before =
    same_first records x.before holdings x.begin begin (omega (arith, inside)) in
    holding_or_fault (files_of x.before) (record_at records row) (holding_at holdings (length x.before)) x.first
    (subst (λ r. IsHolding (files_of x.before) (record_at records r) (holding_at holdings (length x.before)))
    (sym place)
    (subst (λ h. IsHolding (files_of h) (record_at records (length x.before + 1))
    (holding_at holdings (length x.before))) before (begin.each (length x.before) inside))) x.fault

-- two first faults of the same row
same_part : (records : List (List (List ℕ))) (row part other : ℕ) → IsFirstFault records row part
    → IsFirstFault records row other → part ≡ other
same_part records row part other x y =
    let count : length x.before ≡ length y.before = omega (arith, x.row_is, y.row_is) in
    let before : y.before ≡ x.before = sym (take_all (length x.before) y.before (omega (arith, count)))
    ∙ same_first records x.before y.before x.begin y.begin (omega (arith, count)) in
    x.part_is ∙ ap part_of (one_fault (files_of x.before) (record_at records row) x.first y.first x.fault
    (subst (λ h. HasFault (files_of h) (record_at records row) y.first) before y.fault)) ∙ sym y.part_is

-- the row of a first fault is one
same_row : (records : List (List (List ℕ))) (r p s q : ℕ) → IsFirstFault records r p → IsFirstFault records s q
    → r ≡ s
same_row records r p s q x y =
    let not_less : ¬ (r < s) = λ less. not_first records r p y.before y.begin x (omega (arith, less, y.row_is)) in
    let not_more : ¬ (s < r) = λ more. not_first records s q x.before x.begin y (omega (arith, more, x.row_is)) in
    omega (arith, not_less, not_more)

-- records have one first wrong row
one_wrong : (records : List (List (List ℕ))) (a b : RowBreak) → IsFirstWrong records a.row a.part
    → IsFirstWrong records b.row b.part → a ≡ b
one_wrong records a b (inl x) (inl y) = λ k. record { row = (x.0 ∙ sym y.0) k; part = (x.1 ∙ sym y.1) k }
one_wrong records a b (inl x) (inr y) = absurd (x.2 y.0)
one_wrong records a b (inr x) (inl y) = absurd (y.2 x.0)
one_wrong records a b (inr x) (inr y) =
    let row : a.row ≡ b.row = same_row records a.row a.part b.row b.part x.1 y.1 in
    let part : a.part ≡ b.part = same_part records b.row a.part b.part
    (subst (λ r. IsFirstFault records r a.part) row x.1) y.1 in
    λ k. record { row = row k; part = part k }

-- ---- a text

-- a text has one list of holdings
pub one_text_holdings : (text : List ℕ) (a b : List Holding) → AreHoldingsIn text a → AreHoldingsIn text b → a ≡ b
one_text_holdings text a b x y =
    one_holdings y.0 a b (subst (λ r. AreHoldings r a) (one_records text x.0 y.0 x.1 y.1) x.3) y.3

-- or one first wrong row
pub one_text_wrong : (text : List ℕ) (a b : RowBreak) → TellsWrongIn text (error.Row a)
    → TellsWrongIn text (error.Row b) → a ≡ b
one_text_wrong text a b x y =
    one_wrong y.0 a b (subst (λ r. IsFirstWrong r a.row a.part) (one_records text x.0 y.0 x.1 y.1) x.2) y.2

-- and not both
pub wrong_or_holdings : (text : List ℕ) (a : RowBreak) (holdings : List Holding) → TellsWrongIn text (error.Row a)
    → AreHoldingsIn text holdings → ⊥
wrong_or_holdings text a holdings x y =
    by (subst (λ r. IsFirstWrong r a.row a.part) (one_records text x.0 y.0 x.1 y.1) x.2)
  where
    by : IsFirstWrong y.0 a.row a.part → ⊥
    by (inl none) = none.2 y.2
    by (inr first) = not_first y.0 a.row a.part holdings y.3.begin first.1
        (omega (arith, first.1.within, y.3.all))
