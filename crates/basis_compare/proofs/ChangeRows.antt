-- The rows of the reserves of three bases, one by one and all together.
use Rattle.std.proofs.Common.{◌≡◌, ℕ, ◌+◌, ◌*◌, ◌/◌, ◌%◌, ◌<◌, ◌≤◌, max, List, [], ◌∷◌, ◌++◌, length, map}
use Rattle.std.proofs.Common.{refl, ap, sym, subst, ◌∙◌, arith}
use Rattle.std.specs.Prelude.{All}
use Rattle.std.proofs.Math.Nat.{mod-lt}
use Rattle.fixed_interval.specs.declared.tables.Table.{Table}
use Rattle.fixed_interval.specs.Tables.{IsAnsweredDegree}
use Rattle.whole_laws.specs.Whole.{list_of}
use Rattle.whole_laws.proofs.ListsByPlace.{All-list_of, map-list_of, list_of-agree, list_of-next}
use Rattle.model_specs.specs.Product.{Product}
use Rattle.thiele_backward.specs.Results.{AreReserves}
use Rattle.basis_compare.specs.declared.change_rows.Part.{Part}
use Rattle.basis_compare.specs.declared.change_rows.Part.TheVariants.{Interest, Rest, Total}
use Rattle.basis_compare.specs.declared.change_rows.Change.{Change}
use Rattle.basis_compare.specs.declared.change_rows.Changes.{Changes}
use Rattle.basis_compare.specs.declared.differences.PrintedReserve.{PrintedReserve}
use Rattle.basis_compare.specs.Bases.{hybrid_of}
use Rattle.basis_compare.specs.Changes.{before, after, part_of, subject_of, subject_at, IsChange, AreChanges}
use Rattle.basis_compare.specs.Differences.{printed_at, reserve_at, change_in, change_at}
use Rattle.basis_compare.proofs.Alike.{AreAlike}
use Rattle.basis_compare.proofs.RightChanges.{IsPrintedAt, change_is_right}
use Rattle.basis_compare.proofs.Listed.{AreListed, reserves_are_listed}

-- ---- rows one by one

-- the row at three times a place, and at the next two
row_is : (a h b : List PrintedReserve) (place k : ℕ) → k < 3
    → change_in (part_of k) a h b place ≡ change_at a h b (3 * place + k)
row_is a h b place k few =
    ap (λ at. change_in (part_of k) a h b at) (sym third)
    ∙ ap (λ rest. change_in (part_of rest) a h b ((3 * place + k) / 3)) (sym rest)
  where
    third : (3 * place + k) / 3 ≡ place
    third = omega (arith, few)

    rest : (3 * place + k) % 3 ≡ k
    rest = omega (arith, few)

pub changes_more : (a h b : List PrintedReserve) (place : ℕ) (interest rest total : Change)
    (old one two new : List Change) → old ≡ list_of (3 * place) (change_at a h b)
    → interest ≡ change_in Interest a h b place → rest ≡ change_in Rest a h b place
    → total ≡ change_in Total a h b place → one ≡ old ++ interest ∷ [] → two ≡ one ++ rest ∷ []
    → new ≡ two ++ total ∷ [] → new ≡ list_of (3 * (place + 1)) (change_at a h b)
changes_more a h b place interest rest total old one two new so_far first second third x y z =
    let after_one : one ≡ list_of (3 * place + 1) (change_at a h b) =
    one_more (change_at a h b) (3 * place) interest old one so_far
    (first ∙ row_is a h b place 0 (omega arith) ∙ ap (change_at a h b) plain) x in
    let after_two : two ≡ list_of (3 * place + 1 + 1) (change_at a h b) =
    one_more (change_at a h b) (3 * place + 1) rest one two after_one (second ∙ row_is a h b place 1 (omega arith)) y in
    let after_three : new ≡ list_of (3 * place + 1 + 1 + 1) (change_at a h b) =
    one_more (change_at a h b) (3 * place + 1 + 1) total two new after_two
    (third ∙ row_is a h b place 2 (omega arith) ∙ ap (change_at a h b) next) z in
    after_three ∙ ap (λ n. list_of n (change_at a h b)) more
  where
    one_more : (f : ℕ → Change) (k : ℕ) (row : Change) (old new : List Change) → old ≡ list_of k f → row ≡ f k
        → new ≡ old ++ row ∷ [] → new ≡ list_of (k + 1) f
    one_more f k row old new so_far is pushed =
        pushed ∙ ap (λ rows. rows ++ row ∷ []) so_far ∙ ap (λ r. list_of k f ++ r ∷ []) is ∙ sym (list_of-next k f)

    plain : 3 * place + 0 ≡ 3 * place
    plain = omega arith

    next : 3 * place + 2 ≡ 3 * place + 1 + 1
    next = omega arith

    more : 3 * place + 1 + 1 + 1 ≡ 3 * (place + 1)
    more = omega arith

-- ---- all rows

-- the reserves of all three bases
pub record AreAllListed (a b : Product) (degree states every count : ℕ) (old between new : List PrintedReserve)
    : Type 0 where
  pub in_old : AreListed a degree states every count old
  pub in_hybrid : AreListed (hybrid_of a b) degree states every count between
  pub in_new : AreListed b degree states every count new

from_is_listed : (a b : Product) (part : Part) (degree states every count : ℕ) (old between new : List PrintedReserve)
    (place : ℕ) → AreAllListed a b degree states every count old between new → place < count
    → IsPrintedAt (before part a (hybrid_of a b) b) degree states every place
    (reserve_at (before part old between new) place)
from_is_listed a b Interest degree states every count old between new place all inside = all.in_old.each place inside
from_is_listed a b Rest degree states every count old between new place all inside = all.in_hybrid.each place inside
from_is_listed a b Total degree states every count old between new place all inside = all.in_old.each place inside

to_is_listed : (a b : Product) (part : Part) (degree states every count : ℕ) (old between new : List PrintedReserve)
    (place : ℕ) → AreAllListed a b degree states every count old between new → place < count
    → IsPrintedAt (after part a (hybrid_of a b) b) degree states every place
    (reserve_at (after part old between new) place)
to_is_listed a b Interest degree states every count old between new place all inside = all.in_hybrid.each place inside
to_is_listed a b Rest degree states every count old between new place all inside = all.in_new.each place inside
to_is_listed a b Total degree states every count old between new place all inside = all.in_new.each place inside

row_is_right : (a b : Product) (degree states every count : ℕ) (old between new : List PrintedReserve) (k : ℕ)
    → AreAllListed a b degree states every count old between new → k < 3 * count
    → IsChange a b degree (change_at old between new k)
row_is_right a b degree states every count old between new k all inside =
    change_is_right a b (part_of (k % 3)) degree states every (k / 3) _ _
    (from_is_listed a b (part_of (k % 3)) degree states every count old between new (k / 3) all
    (omega (arith, inside)))
    (to_is_listed a b (part_of (k % 3)) degree states every count old between new (k / 3) all
    (omega (arith, inside)))

row_is_asked : (a b : Product) (degree states every count : ℕ) (old between new : List PrintedReserve) (k : ℕ)
    → AreAllListed a b degree states every count old between new → k < 3 * count
    → subject_of (change_at old between new k) ≡ subject_at states every k
row_is_asked a b degree states every count old between new k all inside =
    let at = from_is_listed a b (part_of (k % 3)) degree states every count old between new (k / 3) all
    (omega (arith, inside)) in
    ap (λ month. record {
      month = month;
      state = (reserve_at (before (part_of (k % 3)) old between new) (k / 3)).state;
      part = part_of (k % 3);
    }) at.month
    ∙ ap (λ state. record { month = k / 3 / states * every; state = state; part = part_of (k % 3) }) at.state

pub rows_are_changes : (a b : Product) (every count : ℕ) (old between new : List PrintedReserve) (c : Changes)
    → count ≡ (a.months / every + 1) * length a.states → IsAnsweredDegree c.degree
    → AreAllListed a b c.degree (length a.states) every count old between new
    → c.rows.items ≡ list_of (3 * count) (change_at old between new) → AreChanges a b every c
rows_are_changes a b every count old between new c count_is answered all rows = record {
  degree = answered;
  rows = ap (map subject_of) rows ∙ map-list_of subject_of (3 * count) (change_at old between new)
      ∙ list_of-agree (3 * count) (λ k. subject_of (change_at old between new k)) (subject_at (length a.states) every)
      (λ k inside. row_is_asked a b c.degree (length a.states) every count old between new k all inside)
      ∙ ap (λ n. list_of (3 * n) (subject_at (length a.states) every)) count_is;
  right = subst (All (IsChange a b c.degree)) (sym rows)
      (All-list_of (IsChange a b c.degree) (3 * count) (change_at old between new)
      (λ k inside. row_is_right a b c.degree (length a.states) every count old between new k all inside));
}

-- each row is about a state
pub rows_have_states : (a b : Product) (degree every count : ℕ) (old between new : List PrintedReserve)
    (rows : List Change)
    → 0 < length a.states → AreAllListed a b degree (length a.states) every count old between new
    → rows ≡ list_of (3 * count) (change_at old between new) → All (λ row. row.state < length a.states) rows
rows_have_states a b degree every count old between new rows some all is =
    subst (All (λ row. row.state < length a.states)) (sym is)
    (All-list_of (λ row. row.state < length a.states) (3 * count) (change_at old between new)
    (λ k inside. subst (λ state. state < length a.states)
    (sym (from_is_listed a b (part_of (k % 3)) degree (length a.states) every count old between new (k / 3) all
    (omega (arith, inside))).state) (mod-lt (k / 3) some)))

-- ---- three tables

-- the tables of the three bases, and their reserves
pub record AreOfBases (a h b : Product) (every : ℕ) (ta th tb : Table) (old between new : List PrintedReserve)
    : Type 0 where
  pub hybrid_is : h ≡ hybrid_of a b
  pub alike : AreAlike a b
  pub table_a : AreReserves a every ta
  pub table_h : AreReserves h every th
  pub table_b : AreReserves b every tb
  pub old_are : old ≡ list_of (length ta.cells.items) (printed_at a ta)
  pub between_are : between ≡ list_of (length th.cells.items) (printed_at h th)
  pub new_are : new ≡ list_of (length tb.cells.items) (printed_at b tb)

-- they are right from each degree on that none of the tables exceeds
pub are_listed : (a h b : Product) (degree every : ℕ) (ta th tb : Table) (old between new : List PrintedReserve)
    → AreOfBases a h b every ta th tb old between new → ta.degree ≤ degree → th.degree ≤ degree → tb.degree ≤ degree
    → AreAllListed a b degree (length a.states) every ((a.months / every + 1) * length a.states) old between new
are_listed a h b degree every ta th tb old between new are least middle last =
    let listed_b = reserves_are_listed b degree every tb new are.table_b last are.new_are in
    record {
      in_old = reserves_are_listed a degree every ta old are.table_a least are.old_are;
      in_hybrid = reserves_are_listed (hybrid_of a b) degree every th between
          (subst (λ p. AreReserves p every th) are.hybrid_is are.table_h) middle
          (are.between_are ∙ ap (λ p. list_of (length th.cells.items) (printed_at p th)) are.hybrid_is);
      in_new = subst (λ s. AreListed b degree s every ((a.months / every + 1) * length a.states) new)
          (sym are.alike.count)
          (subst (λ n. AreListed b degree (length b.states) every n new) (sym same_count) listed_b);
    }
  where
    same_count : (a.months / every + 1) * length a.states ≡ (b.months / every + 1) * length b.states
    same_count = ap (λ m. (m / every + 1) * length a.states) are.alike.months
        ∙ ap (λ s. (b.months / every + 1) * s) are.alike.count

-- so the lists are of one length
pub same_lengths : (a h b : Product) (every : ℕ) (ta th tb : Table) (old between new : List PrintedReserve)
    → AreOfBases a h b every ta th tb old between new
    → (length between ≡ length old) × (length new ≡ length old)
same_lengths a h b every ta th tb old between new are =
    let listed = are_listed a h b (ta.degree + th.degree + tb.degree) every ta th tb old between new are
    (omega arith) (omega arith) (omega arith) in
    (listed.in_hybrid.count_is ∙ sym listed.in_old.count_is, listed.in_new.count_is ∙ sym listed.in_old.count_is)

-- the changes that they make
pub changes_of_bases : (a h b : Product) (every : ℕ) (ta th tb : Table) (old between new : List PrintedReserve)
    (c : Changes) → AreOfBases a h b every ta th tb old between new
    → c.degree ≡ max (max ta.degree th.degree) tb.degree
    → c.rows.items ≡ list_of (3 * length old) (change_at old between new) → AreChanges a b every c
changes_of_bases a h b every ta th tb old between new c are degree rows =
    let listed = are_listed a h b c.degree every ta th tb old between new are (omega (arith, degree))
    (omega (arith, degree)) (omega (arith, degree)) in
    rows_are_changes a b every ((a.months / every + 1) * length a.states) old between new c refl
    (record {
      least = omega (arith, degree, are.table_a.degree.least);
      highest = omega (
        arith,
        degree,
        are.table_a.degree.highest,
        are.table_h.degree.highest,
        are.table_b.degree.highest,
      );
    })
    listed (rows ∙ ap (λ n. list_of (3 * n) (change_at old between new)) listed.in_old.count_is)

-- and each of them is about a state
pub changes_have_states : (a h b : Product) (every : ℕ) (ta th tb : Table) (old between new : List PrintedReserve)
    (rows : List Change) → AreOfBases a h b every ta th tb old between new → 0 < length a.states
    → rows ≡ list_of (3 * length old) (change_at old between new)
    → All (λ row. row.state < length a.states) rows
changes_have_states a h b every ta th tb old between new rows are some is =
    let listed = are_listed a h b (ta.degree + th.degree + tb.degree) every ta th tb old between new are
    (omega arith) (omega arith) (omega arith) in
    rows_have_states a b (ta.degree + th.degree + tb.degree) every ((a.months / every + 1) * length a.states) old
    between new rows some listed
    (is ∙ ap (λ n. list_of (3 * n) (change_at old between new)) listed.in_old.count_is)
