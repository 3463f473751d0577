-- The columns of a row, one after another.
use Rattle.std.proofs.Common.{◌≡◌, ℕ, suc, zero, ◌+◌, ◌<◌, ◌≤◌, ◌⊎◌, inl, inr, length, get_or, List, [], ◌∷◌}
use Rattle.std.proofs.Common.{◌++◌}
use Rattle.std.proofs.Common.{refl, ap, arith, Bool, true, false, add-one}
use Rattle.std.specs.Prelude.{nat_eq, cond, ◌↔◌, IsTrue}
use Rattle.std.proofs.Math.ListN.{length-append}
use Rattle.linear_system.specs.StoredSystem.{AreColumns, AreDistinct, none, also, place_of}
use Rattle.whole_laws.proofs.Tests.{same_is, other_is_not}

-- a column past the bound has no place
pub place_of-beyond : {bound : ℕ} {cs : List ℕ} (c : ℕ) → AreDistinct bound cs → bound ≤ c
    → place_of cs c ≡ length cs
place_of-beyond c none h = refl
place_of-beyond {bound} {cs} c (also {c = x} {columns = rest} b e a) h =
    rw (other_is_not x c (λ q. absurd (omega arith))) (ap suc (place_of-beyond c a h))

-- a column that is pushed leaves the places of the others
pub place_of-push : (cs : List ℕ) (n c : ℕ) → place_of cs c ≡ length cs → (n ≡ c → ⊥)
    → place_of (cs ++ n ∷ []) c ≡ length (cs ++ n ∷ [])
place_of-push [] n c e h = rw (other_is_not n c h) refl
place_of-push (x ∷ cs) n c e h = cases (nat_eq x c) (λ q. place_of-push cs n c q h) e
  where
    cases : (b : Bool) → (place_of cs c ≡ length cs → place_of (cs ++ n ∷ []) c ≡ length (cs ++ n ∷ []))
        → cond b 0 (suc (place_of cs c)) ≡ suc (length cs)
        → cond b 0 (suc (place_of (cs ++ n ∷ []) c)) ≡ suc (length (cs ++ n ∷ []))
    cases true g e = absurd (omega arith)
    cases false g e = ap suc (g (omega arith))

pub place_of-kept : (cs : List ℕ) (n c : ℕ) → place_of cs c < length cs
    → place_of (cs ++ n ∷ []) c < length (cs ++ n ∷ [])
place_of-kept [] n c e = absurd (omega arith)
place_of-kept (x ∷ cs) n c e = cases (nat_eq x c) (place_of-kept cs n c) e
  where
    cases : (b : Bool) → (place_of cs c < length cs → place_of (cs ++ n ∷ []) c < length (cs ++ n ∷ []))
        → cond b 0 (suc (place_of cs c)) < suc (length cs)
        → cond b 0 (suc (place_of (cs ++ n ∷ []) c)) < suc (length (cs ++ n ∷ []))
    cases true g e = omega arith
    cases false g e = omega (arith, g (omega arith))

pub place_of-at_most : (cs : List ℕ) (c : ℕ) → place_of cs c ≤ length cs
place_of-at_most [] c = omega arith
place_of-at_most (x ∷ cs) c = cases (nat_eq x c) (place_of-at_most cs c)
  where
    cases : (b : Bool) → place_of cs c ≤ length cs → cond b 0 (suc (place_of cs c)) ≤ suc (length cs)
    cases true g = omega arith
    cases false g = omega arith

-- it has a place itself
pub place_of-pushed : (cs : List ℕ) (n : ℕ) → place_of (cs ++ n ∷ []) n < length (cs ++ n ∷ [])
place_of-pushed [] n = rw (same_is n) (omega arith)
place_of-pushed (c ∷ cs) n =
    elim (nat_eq c n) as (λ b. cond b 0 (suc (place_of (cs ++ n ∷ []) n)) < suc (length (cs ++ n ∷ [])))
    [ true ↦ omega arith | false ↦ omega (arith, place_of-pushed cs n) ]

-- the other columns have a place after the push where they had one before
pub place_of-others : (cs : List ℕ) (n c : ℕ) → (n ≡ c → ⊥)
    → (place_of (cs ++ n ∷ []) c < length (cs ++ n ∷ [])) ↔ (place_of cs c < length cs)
place_of-others cs n c h = (
  λ b. elim (found (place_of cs c) (length cs) (place_of-at_most cs c)) [
    | inl l ↦ l
    | inr e ↦ absurd (let q = place_of-push cs n c e h in omega arith)
  ],
  λ b. place_of-kept cs n c b,
)
  where
    found : (p l : ℕ) → p ≤ l → (p < l) ⊎ (p ≡ l)
    found p l b = grind arith

pub distinct-more : {n : ℕ} {cs : List ℕ} → AreDistinct n cs → AreDistinct (n + 1) cs
distinct-more none = none
distinct-more (also h e a) = also (omega arith) e (distinct-more a)

pub distinct-push : {n : ℕ} {cs : List ℕ} → AreDistinct n cs → AreDistinct (n + 1) (cs ++ n ∷ [])
distinct-push none = also (omega arith) refl none
distinct-push {n} (also {c} {columns = cs} h e a) =
    also (omega arith) (place_of-push cs n c e (λ q. absurd (omega arith))) (distinct-push a)

-- the columns below `col` that have been taken, of those that a test wants
pub record AreTaken (wanted : ℕ → Bool) (dim col : ℕ) (cs : List ℕ) : Type 0 where
  pub distinct : AreDistinct col cs
  pub few : length cs ≤ col
  pub below : (place : ℕ) → place < length cs → get_or cs place 0 ≤ dim
  pub places : (c : ℕ) → c < col → (place_of cs c < length cs) ↔ IsTrue (wanted c)

pub none_taken : (wanted : ℕ → Bool) (dim : ℕ) → AreTaken wanted dim 0 []
none_taken wanted dim = record {
  distinct = none;
  few = omega arith;
  below = λ p b. absurd (omega arith);
  places = λ c b. absurd (omega arith);
}

below_pushed : (cs : List ℕ) (n dim : ℕ) → n ≤ dim → ((p : ℕ) → p < length cs → get_or cs p 0 ≤ dim)
    → (p : ℕ) → p < length (cs ++ n ∷ []) → get_or (cs ++ n ∷ []) p 0 ≤ dim
below_pushed [] n dim h g zero b = omega arith
below_pushed [] n dim h g (suc p) b = absurd (omega arith)
below_pushed (c ∷ cs) n dim h g zero b = g 0 (omega arith)
below_pushed (c ∷ cs) n dim h g (suc p) b = below_pushed cs n dim h (λ q d. g (suc q) (omega arith)) p
    (omega arith)

last_or : (c d : ℕ) → c < d + 1 → (c < d) ⊎ (c ≡ d)
last_or c d h = grind arith

pub taken_one : (wanted : ℕ → Bool) (dim col : ℕ) (cs cs' : List ℕ) → cs' ≡ cs ++ col ∷ [] → col < dim
    → wanted col ≡ true
    → AreTaken wanted dim col cs → AreTaken wanted dim (col + 1) cs'
taken_one wanted dim col cs cs' e h w t = rw e (record {
  distinct = distinct-push t.distinct;
  few = omega (arith, length-append cs (col ∷ []), t.few);
  below = below_pushed cs col dim (omega arith) t.below;
  places = λ c b. elim (last_or c col b) [
    | inl l ↦ (
      λ p. (t.places c l).0 ((place_of-others cs col c (λ q. absurd (omega arith))).0 p),
      λ p. (place_of-others cs col c (λ q. absurd (omega arith))).1 ((t.places c l).1 p),
    )
    | inr q ↦ rw q (λ p. w, λ p. place_of-pushed cs col)
  ];
})

pub passed_one : (wanted : ℕ → Bool) (dim col : ℕ) (cs cs' : List ℕ) → cs' ≡ cs → wanted col ≡ false
    → AreTaken wanted dim col cs → AreTaken wanted dim (col + 1) cs'
passed_one wanted dim col cs cs' e w t = rw e (record {
  distinct = distinct-more t.distinct;
  few = omega (arith, t.few);
  below = t.below;
  places = λ c b. elim (last_or c col b) [
    | inl l ↦ t.places c l
    | inr q ↦ rw q (
      λ p. absurd (let z = place_of-beyond col t.distinct (omega arith) in omega arith),
      λ p.
          absurd (no (wanted col) w p),
    )
  ];
})
  where
    no : (b : Bool) → b ≡ false → b ≡ true → ⊥
    no b e f = cc

pub with_free : (wanted : ℕ → Bool) (dim : ℕ) (cs cs' : List ℕ) → cs' ≡ cs ++ dim ∷ []
    → AreTaken wanted dim dim cs → AreColumns dim cs'
with_free wanted dim cs cs' e t = rw e (record {
  distinct = rw add-one at (distinct-push t.distinct);
  few = omega (arith, length-append cs (dim ∷ []), t.few);
  free = place_of-pushed cs dim;
  in_range = below_pushed cs dim dim (omega arith) t.below;
})

pub with_free_places : (wanted : ℕ → Bool) (dim : ℕ) (cs cs' : List ℕ) → cs' ≡ cs ++ dim ∷ []
    → AreTaken wanted dim dim cs
    → (c : ℕ) → c < dim → (place_of cs' c < length cs') ↔ IsTrue (wanted c)
with_free_places wanted dim cs cs' e t c b = rw e (
  λ p. (t.places c b).0 ((place_of-others cs dim c (λ q. absurd (omega arith))).0 p),
  λ p. (place_of-others cs dim c (λ q. absurd (omega arith))).1 ((t.places c b).1 p),
)
