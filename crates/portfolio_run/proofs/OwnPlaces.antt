-- Different names are found at their own places.
use Rattle.std.proofs.Common.{◌≡◌, ◌≢◌, ℕ, ◌<◌, Bool, true, false, cond, List, [], ◌∷◌, ◌++◌, length}
use Rattle.std.proofs.Common.{refl, sym, ap, ◌∙◌, arith, subst, below_more, inl, inr}
use Rattle.std.specs.Prelude.{◌==◌, bytes_eq, fold}
use Rattle.std.proofs.lemmas.Bool.Decides.{eqb_tells}
use Rattle.std.proofs.lemmas.List.{get_or_append_left, length_push}
use Rattle.std.proofs.Math.Seq.{get_or-append_seam}
use Rattle.std.proofs.lemmas.List.Folds.{list_any_at}
use Rattle.std.proofs.lemmas.List.Sums.{position_or_len_is}
use Rattle.std.proofs.lemmas.Slice.Eq.{bytes_eq-Decides}
use Rattle.portfolio_run.specs.Names.{first_seen, is_among, place_in, with_name}
use Rattle.portfolio_run.specs.Stored.{name_at}

-- each name is first at its own place
abbrev pub HaveOwnPlaces : List (List ℕ) → Type 0
HaveOwnPlaces names = (k : ℕ) → k < length names → place_in names (name_at names k) ≡ k

-- a test that does not pass fails
fails : (b : Bool) → (b ≡ true → ⊥) → b ≡ false
fails true never = absurd (never refl)
fails false never = refl

-- names at two places differ
names_differ : (names : List (List ℕ)) → HaveOwnPlaces names → (i k : ℕ) → i < length names → k < length names
    → i ≢ k → bytes_eq (name_at names k) (name_at names i) ≡ false
names_differ names own i k i_within k_within apart =
    fails (bytes_eq (name_at names k) (name_at names i)) (λ same.
    let alike : name_at names k ≡ name_at names i =
    (bytes_eq-Decides (name_at names k) (name_at names i)).0 same in
    apart (sym (own i i_within) ∙ ap (place_in names) (sym alike) ∙ own k k_within))

-- a name that is not among them differs from each
pub differs : (names : List (List ℕ)) (name : List ℕ) → is_among names name ≡ false → (k : ℕ) → k < length names
    → bytes_eq name (name_at names k) ≡ false
differs names name new k within = fails (bytes_eq name (name_at names k)) (λ same.
    let there = list_any_at (bytes_eq name) names k [] within same in absurd (let both = there in cc))

-- one name more
own_places_more : (names : List (List ℕ)) (name : List ℕ) → HaveOwnPlaces names → is_among names name ≡ false
    → HaveOwnPlaces (names ++ name ∷ [])
own_places_more names name own new k within =
    let before : (j : ℕ) → j < length names → name_at (names ++ name ∷ []) j ≡ name_at names j =
    λ j inside. get_or_append_left names (name ∷ []) [] j inside in
    let last : name_at (names ++ name ∷ []) (length names) ≡ name = get_or-append_seam names name [] [] in
    below_more (λ j. place_in (names ++ name ∷ []) (name_at (names ++ name ∷ []) j) ≡ j) (length names)
    (λ j inside. position_or_len_is (bytes_eq (name_at (names ++ name ∷ []) j)) (names ++ name ∷ []) j []
    (rw (length_push names name) (omega (arith, inside)))
    (λ i early. rw (before j inside, before i (omega (arith, early, inside)))
    (names_differ names own i j (omega (arith, early, inside)) inside (λ same. omega (arith, early, same))))
    (λ _. (bytes_eq-Decides (name_at (names ++ name ∷ []) j) (name_at (names ++ name ∷ []) j)).1 refl))
    (position_or_len_is (bytes_eq (name_at (names ++ name ∷ []) (length names))) (names ++ name ∷ []) (length names) []
    (rw (length_push names name) (omega arith))
    (λ i early. rw (last, before i early) (differs names name new i early))
    (λ _. (bytes_eq-Decides (name_at (names ++ name ∷ []) (length names))
    (name_at (names ++ name ∷ []) (length names))).1 refl))
    k (rw (sym (length_push names name)) within)

own_places_with : (names : List (List ℕ)) (name : List ℕ) → HaveOwnPlaces names → HaveOwnPlaces (with_name names name)
own_places_with names name own = by (is_among names name) refl
  where
    by : (there : Bool) → is_among names name ≡ there → HaveOwnPlaces (with_name names name)
    by true e = subst HaveOwnPlaces (sym (ap (λ b. cond b names (names ++ name ∷ [])) e)) own
    by false e = subst HaveOwnPlaces (sym (ap (λ b. cond b names (names ++ name ∷ [])) e))
        (own_places_more names name own e)

own_places_from : (names xs : List (List ℕ)) → HaveOwnPlaces names → HaveOwnPlaces (fold with_name names xs)
own_places_from names [] own = own
own_places_from names (x ∷ xs) own = own_places_from (with_name names x) xs (own_places_with names x own)

-- so are names in the order in which they are first seen
pub first_seen_have_own_places : (xs : List (List ℕ)) → HaveOwnPlaces (first_seen xs)
first_seen_have_own_places xs = own_places_from [] xs (λ k within. absurd (omega (arith, within)))

-- and a name is that at a place exactly where its place is this one
pub same_place : (names : List (List ℕ)) → HaveOwnPlaces names → (i k : ℕ) → i < length names → k < length names
    → bytes_eq (name_at names k) (name_at names i) ≡ (i == k)
same_place names own i k i_within k_within = elim (eqb_tells i k) [
  | inl here ↦ rw (here.0, here.1) ((bytes_eq-Decides (name_at names k) (name_at names k)).1 refl)
  | inr apart ↦ rw apart.0 (names_differ names own i k i_within k_within apart.1)
]
