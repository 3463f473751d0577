-- The members of a list: what one has, what all have.
use Rattle.std.specs.Prelude.{zero, suc, All, [], ◌∷◌, ◌≡◌, Bool, true, List, ℕ, map, slice_index_or, pos, ℤ}
use Rattle.std.specs.Prelude.{◌≤◌, length, Option, Some, None, option_map}
use Rattle.std.proofs.Common.{arith, ◌-◌, refl}
use Rattle.std.proofs.lemmas.List.Elements.{All-cons}
use Rattle.std.specs.List.{list_all}
use Rattle.whole_laws.proofs.Tests.{both_pass}

-- all members of short lists
pub All-one : {A : Type 0} (P : A → Type 0) (x : A) → P x → All P (x ∷ [])
All-one P x holds zero d b = holds
All-one P x holds (suc k) d b = absurd (omega arith)

pub All-two : {A : Type 0} (P : A → Type 0) (x y : A) → P x → P y → All P (x ∷ y ∷ [])
All-two P x y h k = All-cons P x (y ∷ []) h (All-one P y k)

-- what all members of a list pass, each passes
pub each_passes : {A : Type 0} (test : A → Bool) (xs : List A) → list_all test xs ≡ true
    → All (λ x. test x ≡ true) xs
each_passes test [] h k d b = absurd (omega arith)
each_passes test (x ∷ xs) h zero d b = (both_pass (test x) (list_all test xs) h).0
each_passes test (x ∷ xs) h (suc k) d b =
    each_passes test xs (both_pass (test x) (list_all test xs) h).1 k d (omega arith)

-- what stands at a place of the mapped list
pub at-map : {A B : Type 0} (f : A → B) (xs : List A) (i : ℕ) (d : A)
    → slice_index_or (map f xs) i (f d) ≡ f (slice_index_or xs i d)
at-map f [] i d = refl
at-map f (x ∷ xs) zero d = refl
at-map f (x ∷ xs) (suc i) d = at-map f xs i d

-- nothing but 0 stands past the end
pub past_end : (ns : List ℤ) (k : ℕ) → length ns ≤ k → slice_index_or ns k (pos 0) ≡ pos 0
past_end [] k past = refl
past_end (z ∷ ns) zero past = absurd (omega arith)
past_end (z ∷ ns) (suc k) past = past_end ns k (omega arith)

-- nothing is read of nothing alone
pub none-of-map : {A B : Type 0} (f : A → B) (o : Option A) → option_map f o ≡ None → o ≡ None
none-of-map f None h = refl
none-of-map f (Some x) h = absurd (some≢none (f x) h)
  where
    some≢none : {B : Type 0} (x : B) → Some x ≡ None → ⊥
    some≢none x h = cc
