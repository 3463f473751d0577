-- The greatest and the least of whole numbers.
use Rattle.std.proofs.Common.{◌≡◌, ℕ, zero, suc, ◌+◌, ◌<◌, ◌≤◌, ℤ, pos, negsuc, List, [], ◌∷◌, ◌++◌}
use Rattle.std.proofs.Common.{Bool, true, false, arith, refl, ap, sym, ◌∙◌, get_or, max}
use Rattle.std.specs.Prelude.{unsigned_abs, ◌&&◌}
use Rattle.std.specs.List.{list_all}
use Rattle.std.specs.Int.{int_max, int_min}
use Rattle.std.proofs.lemmas.Int.{ints}
use Rattle.whole_laws.specs.Whole.{list_of, greatest_whole, least_whole, greatest_natural, natural_part}
use Rattle.whole_laws.proofs.ListsByPlace.{list_of-next}

size_of_max : (a b : ℤ) (l : ℕ) → unsigned_abs a < l → unsigned_abs b < l → unsigned_abs (int_max a b) < l
size_of_max a b l h k = grind (arith, ints)

pub greatest_is_below : (xs : List ℤ) (l : ℕ) → 1 ≤ l → ((j : ℕ) → unsigned_abs (get_or xs j (pos 0)) < l)
    → unsigned_abs (greatest_whole xs) < l
greatest_is_below [] l some h = some
greatest_is_below (x ∷ []) l some h = h 0
greatest_is_below (x ∷ y ∷ xs) l some h =
    size_of_max x (greatest_whole (y ∷ xs)) l (h 0) (greatest_is_below (y ∷ xs) l some (λ j. h (suc j)))

pub natural_part_is_below : (z : ℤ) (l : ℕ) → unsigned_abs z < l → natural_part z < l
natural_part_is_below (pos n) l h = h
natural_part_is_below (negsuc n) l h = omega arith

-- a number, and 0 in place of one below 0
pub size_from_zero : (z : ℤ) → unsigned_abs (int_max z (pos 0)) ≡ natural_part z
size_from_zero (pos zero) = refl
size_from_zero (pos (suc n)) = grind (arith, ints)
size_from_zero (negsuc n) = grind (arith, ints)

pub greatest_natural-push : (xs : List ℕ) (x : ℕ) → greatest_natural (xs ++ x ∷ []) ≡ max (greatest_natural xs) x
greatest_natural-push [] x = omega arith
greatest_natural-push (y ∷ xs) x = omega (arith, greatest_natural-push xs x)

pub greatest_natural_more : (n : ℕ) (f : ℕ → ℕ)
    → greatest_natural (list_of (n + 1) f) ≡ max (greatest_natural (list_of n f)) (f n)
greatest_natural_more n f = ap greatest_natural (list_of-next n f) ∙ greatest_natural-push (list_of n f) (f n)

int_min_assoc : (a b c : ℤ) → int_min a (int_min b c) ≡ int_min (int_min a b) c
int_min_assoc a b c = grind (arith, ints)

least-push : (x : ℤ) (xs : List ℤ) (y : ℤ) → least_whole ((x ∷ xs) ++ y ∷ []) ≡ int_min (least_whole (x ∷ xs)) y
least-push x [] y = refl
least-push x (z ∷ xs) y = ap (int_min x) (least-push z xs y) ∙ int_min_assoc x (least_whole (z ∷ xs)) y

least_more : (n : ℕ) (f : ℕ → ℤ)
    → least_whole (list_of (suc n + 1) f) ≡ int_min (least_whole (list_of (suc n) f)) (f (suc n))
least_more n f = ap least_whole (list_of-next (suc n) f) ∙ least-push (f 0) (list_of n (λ i. f (suc i))) (f (suc n))

int_max_assoc : (a b c : ℤ) → int_max a (int_max b c) ≡ int_max (int_max a b) c
int_max_assoc a b c = grind (arith, ints)

greatest-push : (x : ℤ) (xs : List ℤ) (y : ℤ)
    → greatest_whole ((x ∷ xs) ++ y ∷ []) ≡ int_max (greatest_whole (x ∷ xs)) y
greatest-push x [] y = refl
greatest-push x (z ∷ xs) y = ap (int_max x) (greatest-push z xs y) ∙ int_max_assoc x (greatest_whole (z ∷ xs)) y

greatest_more : (n : ℕ) (f : ℕ → ℤ)
    → greatest_whole (list_of (suc n + 1) f) ≡ int_max (greatest_whole (list_of (suc n) f)) (f (suc n))
greatest_more n f =
    ap greatest_whole (list_of-next (suc n) f) ∙ greatest-push (f 0) (list_of n (λ i. f (suc i))) (f (suc n))

-- the greatest, with one number more
pub greatest_more_at : (n : ℕ) (f : ℕ → ℤ) (most x next : ℤ) → 1 ≤ n → most ≡ greatest_whole (list_of n f) → x ≡ f n
    → next ≡ int_max most x → next ≡ greatest_whole (list_of (n + 1) f)
greatest_more_at zero f most x next some sofar here is = absurd (omega arith)
greatest_more_at (suc n) f most x next some sofar here is =
    is ∙ ap (λ z. int_max z x) sofar ∙ ap (int_max (greatest_whole (list_of (suc n) f))) here ∙ sym (greatest_more n f)

-- a test that the lesser of two numbers passes where both do
pub record GoesByLeast (P : ℤ → Bool) : Type 0 where
  pub none : P (pos 0) ≡ true
  pub lesser : (a b : ℤ) → P (int_min a b) ≡ (P a && P b)

-- and the greater
pub record GoesByGreatest (P : ℤ → Bool) : Type 0 where
  pub none : P (pos 0) ≡ true
  pub greater : (a b : ℤ) → P (int_max a b) ≡ (P a && P b)

and-true : (a : Bool) → (a && true) ≡ a
and-true true = refl
and-true false = refl

pub all_by_least : (P : ℤ → Bool) (xs : List ℤ) → GoesByLeast P → list_all P xs ≡ P (least_whole xs)
all_by_least P [] goes = sym goes.none
all_by_least P (x ∷ []) goes = and-true (P x)
all_by_least P (x ∷ y ∷ xs) goes =
    ap (λ b. P x && b) (all_by_least P (y ∷ xs) goes) ∙ sym (goes.lesser x (least_whole (y ∷ xs)))

pub all_by_greatest : (P : ℤ → Bool) (xs : List ℤ) → GoesByGreatest P → list_all P xs ≡ P (greatest_whole xs)
all_by_greatest P [] goes = sym goes.none
all_by_greatest P (x ∷ []) goes = and-true (P x)
all_by_greatest P (x ∷ y ∷ xs) goes =
    ap (λ b. P x && b) (all_by_greatest P (y ∷ xs) goes) ∙ sym (goes.greater x (greatest_whole (y ∷ xs)))

exchange : (a b c d : Bool) → ((a && b) && (c && d)) ≡ ((a && c) && (b && d))
exchange true true c d = refl
exchange true false true d = refl
exchange true false false d = refl
exchange false b c d = refl

pub list_all-both : {A : Type 0} (P Q : A → Bool) (xs : List A)
    → list_all (λ x. P x && Q x) xs ≡ (list_all P xs && list_all Q xs)
list_all-both P Q [] = refl
list_all-both P Q (x ∷ xs) =
    ap (λ b. (P x && Q x) && b) (list_all-both P Q xs) ∙ exchange (P x) (Q x) (list_all P xs) (list_all Q xs)

-- the least, with one number more
pub least_more_at : (n : ℕ) (f : ℕ → ℤ) (lowest x next : ℤ) → 1 ≤ n → lowest ≡ least_whole (list_of n f) → x ≡ f n
    → next ≡ int_min lowest x → next ≡ least_whole (list_of (n + 1) f)
least_more_at zero f lowest x next some sofar here is = absurd (omega arith)
least_more_at (suc n) f lowest x next some sofar here is =
    is ∙ ap (λ z. int_min z x) sofar ∙ ap (int_min (least_whole (list_of (suc n) f))) here ∙ sym (least_more n f)
