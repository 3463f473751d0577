-- Places of a table: dates, states, and rows one by one.
use Rattle.std.proofs.Common.{◌≡◌, ℕ, ◌+◌, ◌*◌, ◌/◌, ◌%◌, ◌<◌, ◌≤◌, List, [], ◌∷◌, ◌++◌, ap, sym, ◌∙◌}
use Rattle.std.proofs.Common.{arith}
use Rattle.std.proofs.Math.Nat.{div-add-mod, div-lt_iff_lt-mul, mul-le-mul}
use Rattle.fixed_interval.specs.declared.tables.Table.{Table}
use Rattle.fixed_interval.specs.declared.tables.MomentTable.{MomentTable}
use Rattle.whole_laws.specs.Whole.{list_of}
use Rattle.whole_laws.proofs.ListsByPlace.{list_of-next}
use Rattle.report_columns.specs.declared.note.Note.{Note}
use Rattle.report_columns.specs.declared.note.What.{What}
use Rattle.report_columns.specs.declared.note.What.TheVariants as what
use Rattle.reserve_report.specs.Reports.{moment_of}
use Rattle.reserve_report.specs.TableRows.{row_at, table_of, moment_row_at}

-- a place of a table is one of its dates
pub date_of_place : (place dates states : ℕ) → 0 < states → place < dates * states → place / states < dates
date_of_place place dates states some inside = (div-lt_iff_lt-mul some).1 inside

pub place_again : (place states : ℕ) → place / states * states + place % states ≡ place
place_again place states = omega (arith, div-add-mod place states)

-- the last date is at most the term
pub date_in_term : (k every term : ℕ) → k < term / every + 1 → k * every ≤ term
date_in_term k every term last =
    let few : k ≤ term / every = omega (arith, last) in
    let whole : k * every ≤ term / every * every = mul-le-mul few (omega arith) in
    omega (arith, div-add-mod term every, whole)

-- ---- rows one by one

pub rows_more : (about : What) (t : Table) (place : ℕ) (row : Note) (rows new : List Note)
    → rows ≡ list_of place (row_at about t) → row ≡ row_at about t place → new ≡ rows ++ row ∷ []
    → new ≡ list_of (place + 1) (row_at about t)
rows_more about t place row rows new so_far is pushed =
    pushed ∙ ap (λ found. found ++ row ∷ []) so_far
    ∙ ap (λ found. list_of place (row_at about t) ++ found ∷ []) is
    ∙ sym (list_of-next place (row_at about t))

-- three more of a list that is made by places
three_more : {A : Type 0} (f : ℕ → A) (k : ℕ) (a b c : A) (old one two new : List A) → old ≡ list_of k f
    → a ≡ f k → b ≡ f (k + 1) → c ≡ f (k + 2) → one ≡ old ++ a ∷ [] → two ≡ one ++ b ∷ [] → new ≡ two ++ c ∷ []
    → new ≡ list_of (k + 3) f
three_more f k a b c old one two new so_far first second third x y z =
    let after_one : one ≡ list_of (k + 1) f =
    x ∙ ap (λ found. found ++ a ∷ []) so_far ∙ ap (λ found. list_of k f ++ found ∷ []) first ∙ sym (list_of-next k f) in
    let after_two : two ≡ list_of (k + 1 + 1) f =
    y ∙ ap (λ found. found ++ b ∷ []) after_one ∙ ap (λ found. list_of (k + 1) f ++ found ∷ []) second
    ∙ sym (list_of-next (k + 1) f) in
    let after_three : new ≡ list_of (k + 1 + 1 + 1) f =
    z ∙ ap (λ found. found ++ c ∷ []) (after_two ∙ ap (λ n. list_of n f) two_is)
    ∙ ap (λ found. list_of (k + 2) f ++ found ∷ []) third ∙ sym (list_of-next (k + 2) f) ∙ ap (λ n. list_of n f)
    three_is in
    after_three ∙ ap (λ n. list_of n f) three_again
  where
    two_is : k + 1 + 1 ≡ k + 2
    two_is = omega arith

    three_is : k + 2 + 1 ≡ k + 1 + 1 + 1
    three_is = omega arith

    three_again : k + 1 + 1 + 1 ≡ k + 3
    three_again = omega arith

-- the row of moments at three times a place, and at the next two
third_of : (place k : ℕ) → k < 3 → (3 * place + k) / 3 ≡ place
third_of place k few = omega arith

rest_of : (place k : ℕ) → k < 3 → (3 * place + k) % 3 ≡ k
rest_of place k few = omega arith

pub moment_row_is : (t : MomentTable) (place k : ℕ) → k < 3
    → row_at (moment_of k) (table_of t k) place ≡ moment_row_at t (3 * place + k)
moment_row_is t place k few =
    ap (λ at. row_at (moment_of k) (table_of t k) at) (sym (third_of place k few))
    ∙ ap (λ rest. row_at (moment_of rest) (table_of t rest) ((3 * place + k) / 3)) (sym (rest_of place k few))

pub moments_more : (t : MomentTable) (place : ℕ) (a b c : Note) (old one two new : List Note)
    → old ≡ list_of (3 * place) (moment_row_at t) → a ≡ row_at what.First t.first place
    → b ≡ row_at what.Second t.second place → c ≡ row_at what.Variance t.variance place
    → one ≡ old ++ a ∷ [] → two ≡ one ++ b ∷ [] → new ≡ two ++ c ∷ []
    → new ≡ list_of (3 * (place + 1)) (moment_row_at t)
moments_more t place a b c old one two new so_far first second third x y z =
    three_more (moment_row_at t) (3 * place) a b c old one two new so_far
    (first ∙ moment_row_is t place 0 (omega arith) ∙ ap (moment_row_at t) plain)
    (second ∙ moment_row_is t place 1 (omega arith)) (third ∙ moment_row_is t place 2 (omega arith)) x y z
    ∙ ap (λ n. list_of n (moment_row_at t)) more
  where
    plain : 3 * place + 0 ≡ 3 * place
    plain = omega arith

    more : 3 * place + 3 ≡ 3 * (place + 1)
    more = omega arith
