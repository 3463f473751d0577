-- A system that is filled with listed numbers, the last one first.
use Rattle.std.proofs.Common.{◌≡◌, ℕ, suc, zero, ◌+◌, ◌-◌, ◌<◌, ◌≤◌, length, get_or, drop, List, [], ◌∷◌}
use Rattle.std.proofs.Common.{refl, ap, ◌∙◌, arith, Bool, true, false}
use Rattle.std.proofs.Math.Seq.{drop-cons}
use Rattle.std.specs.Prelude.{cond, IsTrue, ◌&&◌}
use Rattle.std.specs.List.{list_all}
use Rattle.linear_system.specs.Setting.{IsMadeFor, SetsOnly, HasNoNumbers, is_same_place}
use Rattle.linear_system.specs.StoredSystem.{StoredSystem, stored_number}
use Rattle.taylor_step.specs.ListedNumbers.{Entry, listed}

-- a system made for some links has the listed numbers, and else 0
pub record IsFilledWith (dim degree : ℕ) (links : List (ℕ × ℕ)) (entries : List Entry)
    (s : StoredSystem) : Type 0 where
  pub made : IsMadeFor dim degree links s
  pub numbers : (row col m : ℕ) → stored_number s row col m ≡ listed entries row col m

pub nothing_filled : (dim degree : ℕ) (links : List (ℕ × ℕ)) (entries : List Entry) (s : StoredSystem)
    → IsMadeFor dim degree links s
    → HasNoNumbers s → entries ≡ [] → IsFilledWith dim degree links entries s
nothing_filled dim degree links entries s made none e = rw e (record { made = made; numbers = none })

pub none_left : (entries : List Entry) (n : ℕ) → length entries ≤ n → drop n entries ≡ []
none_left [] zero h = refl
none_left [] (suc n) h = refl
none_left (e ∷ entries) zero h = absurd (omega arith)
none_left (e ∷ entries) (suc n) h = none_left entries n (omega arith)

pub one_filled : (dim degree : ℕ) (links : List (ℕ × ℕ)) (entries : List Entry) (k : ℕ) (d : Entry)
    (old new : StoredSystem)
    → k < length entries → IsFilledWith dim degree links (drop (length entries - k) entries) old
    → IsMadeFor dim degree links new
    → SetsOnly old new (get_or entries (length entries - 1 - k) d).0
    (get_or entries (length entries - 1 - k) d).1
    (get_or entries (length entries - 1 - k) d).2 (get_or entries (length entries - 1 - k) d).3
    → IsFilledWith dim degree links (drop (length entries - (k + 1)) entries) new
one_filled dim degree links entries k d old new b h made set = record {
  made = made;
  numbers = λ row col m. rw split (set.numbers row col m
      ∙ ap (λ z. cond (is_same_place e.0 e.1 e.2 row col m) e.3 z) (h.numbers row col m));
}
  where
    e : Entry
    e = get_or entries (length entries - 1 - k) d

    split : drop (length entries - (k + 1)) entries ≡ get_or entries (length entries - 1 - k) d ∷ drop
        (length entries - k) entries
    split =
        let at : length entries - (k + 1) ≡ length entries - 1 - k = omega arith in
        let next : suc (length entries - 1 - k) ≡ length entries - k = omega arith in
        rw at (drop-cons entries (length entries - 1 - k) d (omega arith) ∙ ap
        (λ n. get_or entries (length entries - 1 - k) d ∷ drop n entries) next)

pub one_held : (test : Entry → Bool) (entries : List Entry) (i : ℕ) (d : Entry)
    → IsTrue (list_all test entries) → i < length entries
    → IsTrue (test (get_or entries i d))
one_held test [] i d h b = absurd (omega arith)
one_held test (e ∷ entries) zero d h b = (both (test e) _ h).0
  where
    both : (a b : Bool) → (a && b) ≡ true → (a ≡ true) × (b ≡ true)
    both true b h = (refl, h)
    both false b h = absurd (cc)
one_held test (e ∷ entries) (suc i) d h b = one_held test entries i d (both (test e) _ h).1 (omega arith)
  where
    both : (a b : Bool) → (a && b) ≡ true → (a ≡ true) × (b ≡ true)
    both true b h = (refl, h)
    both false b h = absurd (cc)
