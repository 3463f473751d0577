-- A row's product over its places is the product over all columns.
use Rattle.std.specs.Prelude.{◌≡◌, ℕ, suc, zero, pos, ℤ, ◌*ℤ◌, List, [], ◌∷◌, ◌++◌, length, map, take, drop}
use Rattle.std.specs.Prelude.{refl, ◌<◌, ◌≤◌, ◌+◌, ◌*◌, ◌⊎◌, Bool, true, false, cond, nat_eq, slice_index_or}
use Rattle.std.proofs.Common.{ap, sym, ◌∙◌, arith, inl, inr}
use Rattle.std.proofs.lemmas.List.{length-take, length-drop, get_or-drop, get_or-take}
use Rattle.std.proofs.lemmas.List.{take-append-drop}
use mathlib.Core.Path.{ap₂}
use Rattle.taylor_step.specs.WholeRun.{strip}
use Rattle.fixed_num.specs.Products.{sum_of_products}
use Rattle.linear_system.specs.StoredSystem.{StoredRow, number_in_row, place_of, AreDistinct, also}
use Rattle.linear_system.proofs.Columns.{place_of-at_most}
use Rattle.frac_laws.proofs.FractionTerms.{ring, terms}
use Rattle.taylor_step.proofs.SumForms.{sums_equal}
use Rattle.frac_laws.proofs.Sums.{sum_to_zero, sum_to_first}
use Rattle.frac_laws.proofs.Quotients.{whole_mul, whole_add}
use Rattle.frac_laws.specs.Fraction.{Fraction, whole, ◌+ℚ◌, ◌*ℚ◌}
use Rattle.frac_laws.specs.Sums.{sum_to}
use Rattle.whole_laws.proofs.Tests.{same_is, other_is_not}

-- the number held for a column, 0 where it has no place
pub held : List ℕ → List ℤ → ℕ → ℤ
held [] ns j = pos 0
held (c ∷ cs) [] j = pos 0
held (c ∷ cs) (n ∷ ns) j = cond (nat_eq c j) n (held cs ns j)

-- the sum over the places
pub spread : List ℕ → List ℤ → (ℕ → Fraction) → Fraction
spread [] ns x = whole (pos 0)
spread (c ∷ cs) [] x = whole (pos 0)
spread (c ∷ cs) (n ∷ ns) x = whole n *ℚ x c +ℚ spread cs ns x

nothing_held : (cs : List ℕ) (ns : List ℤ) (j : ℕ) → place_of cs j ≡ length cs → held cs ns j ≡ pos 0
unfolding held
nothing_held [] ns j h = refl
nothing_held (c ∷ cs) [] j h = refl
nothing_held (c ∷ cs) (n ∷ ns) j h = cases (nat_eq c j) (λ q. nothing_held cs ns j q) h
  where
    cases : (b : Bool) → (place_of cs j ≡ length cs → held cs ns j ≡ pos 0)
        → cond b 0 (suc (place_of cs j)) ≡ suc (length cs) → cond b n (held cs ns j) ≡ pos 0
    cases true g e = absurd (omega arith)
    cases false g e = g (omega arith)

last_or : (c d : ℕ) → c < suc d → (c < d) ⊎ (c ≡ d)
last_or c d h = grind arith

-- a sum with one term changed, where it was 0
sum_changed : (d c : ℕ) (n : ℤ) (f : ℕ → ℤ) (x : ℕ → Fraction) → c < d → f c ≡ pos 0
    → sum_to d (λ j. whole (cond (nat_eq c j) n (f j)) *ℚ x j) ≡ whole n *ℚ x c +ℚ sum_to d
    (λ j. whole (f j) *ℚ x j)
sum_changed zero c n f x h e = absurd (omega arith)
sum_changed (suc d) c n f x h e = elim (last_or c d h) [
  | inl b ↦ (let o : nat_eq c d ≡ false = other_is_not c d (λ q. absurd (omega arith)) in ap₂
      (λ s t. s +ℚ whole (cond t n (f d)) *ℚ x d) (sum_changed d c n f x b e) o ∙ ring
      ((whole n *ℚ x c) ∷ sum_to d (λ j. whole (f j) *ℚ x j) ∷ whole (f d) ∷ x d ∷ []) (hlevel terms) refl)
  | inr q ↦ (let s : sum_to d (λ j. whole (cond (nat_eq c j) n (f j)) *ℚ x j) ≡ sum_to d
      (λ j. whole (f j) *ℚ x j) = sums_equal d _ _ (λ j b. ap (λ t. whole (cond t n (f j)) *ℚ x j)
      (other_is_not c j (λ r. absurd (omega arith)))) in
      let t : nat_eq c d ≡ true = rw (← q) (same_is c) in let z : f d ≡ pos 0 = rw (← q) e in
      ap₂ (λ u v. u +ℚ whole (cond v n (f d)) *ℚ x d) s t ∙ ap
      (λ j. sum_to d (λ j. whole (f j) *ℚ x j) +ℚ whole n *ℚ x j) (sym q) ∙ ring
      (whole n ∷ x c ∷ x d ∷ sum_to d (λ j. whole (f j) *ℚ x j) ∷ []) (hlevel terms) refl ∙ ap
      (λ y. whole n *ℚ x c +ℚ (sum_to d (λ j. whole (f j) *ℚ x j) +ℚ whole y *ℚ x d)) (sym z))
]

pub spread_is : (d : ℕ) (cs : List ℕ) (ns : List ℤ) (x : ℕ → Fraction) → AreDistinct d cs
    → length ns ≡ length cs → spread cs ns x ≡ sum_to d (λ j. whole (held cs ns j) *ℚ x j)
unfolding spread held
spread_is d [] ns x a l = sym (sums_equal d _ (λ j. whole (pos 0))
    (λ j b. ring (x j ∷ []) (hlevel terms) refl) ∙ sum_to_zero d)
spread_is d (c ∷ cs) [] x a l = absurd (omega arith)
spread_is d (c ∷ cs) (n ∷ ns) x (also b e a) l = ap (λ z. whole n *ℚ x c +ℚ z)
    (spread_is d cs ns x a (omega arith)) ∙ sym (sum_changed d c n (held cs ns) x b (nothing_held cs ns c e))

-- one block of a row
products_block : (cs : List ℕ) (ns : List ℤ) (p : ℕ → ℤ) (rest vs : List ℤ) → length ns ≡ length cs
    → whole (sum_of_products (ns ++ rest) (map p cs ++ vs)) ≡ spread cs ns (λ c. whole (p c)) +ℚ whole
    (sum_of_products rest vs)
unfolding spread
products_block [] [] p rest vs l = ring (whole (sum_of_products rest vs) ∷ []) (hlevel terms) refl
products_block [] (n ∷ ns) p rest vs l = absurd (omega arith)
products_block (c ∷ cs) [] p rest vs l = absurd (omega arith)
products_block (c ∷ cs) (n ∷ ns) p rest vs l = whole_add (n *ℤ p c)
    (sum_of_products (ns ++ rest) (map p cs ++ vs)) ∙ ap₂ ◌+ℚ◌ (whole_mul n (p c))
    (products_block cs ns p rest vs (omega arith)) ∙ ring
    ((whole n *ℚ whole (p c)) ∷ spread cs ns (λ c. whole (p c)) ∷ whole (sum_of_products rest vs) ∷ [])
    (hlevel terms) refl

abbrev block : List ℕ → List ℤ → ℕ → List ℤ
block cs ns zero = take (length cs) ns
block cs ns (suc m) = block cs (drop (length cs) ns) m

length-block : (n w : ℕ) (ns : List ℤ) → length ns ≡ suc n * w
    → (length (take w ns) ≡ w) × (length (drop w ns) ≡ n * w)
length-block n w ns l = let e : suc n * w ≡ w + n * w =
    grind arith in (simp length-take (omega arith), simp length-drop (omega arith))

-- a row's product as a sum over powers and places
by_powers : (cs : List ℕ) (ns : List ℤ) (p : ℕ → ℕ → ℤ) (n : ℕ) → length ns ≡ n * length cs
    → whole (sum_of_products ns (strip cs p n)) ≡ sum_to n
    (λ m. spread cs (block cs ns m) (λ c. whole (p m c)))
by_powers cs ns p zero l = nothing_left ns (omega arith)
  where
    nothing_left : (ns : List ℤ) → length ns ≡ 0 → whole (sum_of_products ns []) ≡ whole (pos 0)
    nothing_left [] l = refl
    nothing_left (n ∷ ns) l = absurd (omega arith)
by_powers cs ns p (suc n) l = ap (λ (z : List ℤ). whole (sum_of_products z (strip cs p (suc n))))
    (sym (take-append-drop (length cs) ns))
    ∙ products_block cs (take (length cs) ns) (p 0) (drop (length cs) ns) (strip cs (λ m. p (suc m)) n)
    (length-block n (length cs) ns l).0
    ∙ ap (λ z. spread cs (take (length cs) ns) (λ c. whole (p 0 c)) +ℚ z)
    (by_powers cs (drop (length cs) ns) (λ m. p (suc m)) n (length-block n (length cs) ns l).1)
    ∙ sym (sum_to_first n (λ m. spread cs (block cs ns m) (λ c. whole (p m c))))

held_is : (cs : List ℕ) (ns : List ℤ) (j : ℕ) → held cs ns j ≡ cond (nat_eq (place_of cs j) (length cs))
    (pos 0) (slice_index_or ns (place_of cs j) (pos 0))
unfolding held
held_is [] ns j = refl
held_is (c ∷ cs) [] j = empty _ (place_of (c ∷ cs) j)
  where
    empty : (b : Bool) (i : ℕ) → pos 0 ≡ cond b (pos 0) (slice_index_or [] i (pos 0))
    empty true i = refl
    empty false i = refl
held_is (c ∷ cs) (n ∷ ns) j = cases (nat_eq c j) (held_is cs ns j)
  where
    zero_or : (l : ℕ) → nat_eq 0 (suc l) ≡ false
    zero_or l = grind arith

    sucs : (a b : ℕ) → nat_eq (suc a) (suc b) ≡ nat_eq a b
    sucs a b = grind arith

    cases : (b : Bool) → held cs ns j ≡ cond (nat_eq (place_of cs j) (length cs)) (pos 0)
        (slice_index_or ns (place_of cs j) (pos 0))
        → cond b n (held cs ns j) ≡ cond (nat_eq (cond b 0 (suc (place_of cs j))) (suc (length cs))) (pos 0)
        (slice_index_or (n ∷ ns) (cond b 0 (suc (place_of cs j))) (pos 0))
    cases true g = rw (zero_or (length cs)) refl
    cases false g = rw (sucs (place_of cs j) (length cs)) g

at_block : (cs : List ℕ) (ns : List ℤ) (m q : ℕ) → q < length cs
    → slice_index_or (block cs ns m) q (pos 0) ≡ slice_index_or ns (m * length cs + q) (pos 0)
at_block cs ns zero q h = let e : 0 * length cs + q ≡ q = omega arith in rw e (first ns)
  where
    first : (ns : List ℤ) → slice_index_or (take (length cs) ns) q (pos 0) ≡ slice_index_or ns q (pos 0)
    first ns = get_or-take (length cs) ns q (pos 0) h
at_block cs ns (suc m) q h = at_block cs (drop (length cs) ns) m q h ∙ get_or-drop (length cs) ns
    (m * length cs + q) (pos 0) ∙ (let e : length cs + (m * length cs + q) ≡ suc m * length cs + q =
    grind arith in rw e refl)

-- the whole row: over powers and all columns, by the numbers that contracts speak of
pub row_sum : (d : ℕ) (r : StoredRow) (p : ℕ → ℕ → ℤ) (n : ℕ) → AreDistinct d r.columns
    → length r.numbers ≡ n * length r.columns
    → whole (sum_of_products r.numbers (strip r.columns p n)) ≡ sum_to n
    (λ m. sum_to d (λ j. whole (number_in_row r j m) *ℚ whole (p m j)))
row_sum d r p n a l = by_powers r.columns r.numbers p n l ∙ sums_equal n _ _
    (λ m b. spread_is d r.columns (block r.columns r.numbers m) (λ c. whole (p m c)) a
    (block_long r.columns r.numbers n m l b) ∙ sums_equal d _ _
    (λ j c. ap (λ z. whole z *ℚ whole (p m j)) (entry m j)))
  where
    block_long : (cs : List ℕ) (ns : List ℤ) (n m : ℕ) → length ns ≡ n * length cs → m < n
        → length (block cs ns m) ≡ length cs
    block_long cs ns zero m l b = absurd (omega arith)
    block_long cs ns (suc n) zero l b = (length-block n (length cs) ns l).0
    block_long cs ns (suc n) (suc m) l b = block_long cs (drop (length cs) ns) n m
        (length-block n (length cs) ns l).1 (omega arith)

    below : (q w : ℕ) → q ≤ w → (nat_eq q w ≡ true) ⊎ (q < w)
    below q w h = grind arith

    entry : (m j : ℕ) → held r.columns (block r.columns r.numbers m) j ≡ number_in_row r j m
    entry m j = held_is r.columns (block r.columns r.numbers m) j ∙ elim
        (below (place_of r.columns j) (length r.columns) (place_of-at_most r.columns j)) [
          | inl e ↦ rw e refl
          | inr h ↦ ap (λ z. cond (nat_eq (place_of r.columns j) (length r.columns)) (pos 0) z)
              (at_block r.columns r.numbers m (place_of r.columns j) h)
        ]
