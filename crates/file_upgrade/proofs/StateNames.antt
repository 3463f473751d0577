-- A state is found by its name.
use Rattle.std.proofs.Common.{◌≡◌, ℕ, zero, suc, ◌<◌, List, [], ◌∷◌, length, get_or, arith, refl, sym}
use Rattle.std.specs.Prelude.{Bool, true, false, Some, position, bytes_eq}
use Rattle.std.proofs.lemmas.Bool.{lt-ltb, false_from_ne_true}
use Rattle.std.proofs.lemmas.Slice.Eq.{bytes_eq-Decides}
use Rattle.model_specs.specs.RecordRules.{AreDistinct}
use Rattle.std.specs.List.{position_or_len}

-- the first place that passes a test
first_place : {A : Type 0} (test : A → Bool) (xs : List A) (k : ℕ) (d : A) → k < length xs
    → test (get_or xs k d) ≡ true → ((i : ℕ) → i < k → test (get_or xs i d) ≡ false) → position_or_len test xs ≡ k
first_place test [] k d below here before = absurd (omega arith)
first_place test (x ∷ xs) zero d below here before = rw here refl
first_place test (x ∷ xs) (suc k) d below here before =
    let rest : position_or_len test xs ≡ k =
    first_place test xs k d (omega arith) here (λ i low. before (suc i) (omega arith)) in
    rw (before 0 (omega arith)) (omega (arith, rest))

found : {A : Type 0} (test : A → Bool) (xs : List A) (k : ℕ) → k < length xs → position_or_len test xs ≡ k
    → position test xs ≡ Some k
found test xs k below at = rw (at, lt-ltb k (length xs) below) refl

pub state_is_found : (names : List (List ℕ)) (k : ℕ) → AreDistinct [] names → k < length names
    → position (bytes_eq (get_or names k [])) names ≡ Some k
state_is_found names k distinct below =
    let name = get_or names k [] in
    found (bytes_eq name) names k below (first_place (bytes_eq name) names k [] below
    ((bytes_eq-Decides name name).1 refl)
    (λ i low. false_from_ne_true _ (λ same. distinct i k low below
    (sym ((bytes_eq-Decides name (get_or names i [])).0 same)))))
