-- Bounds on the greatest and the least of a list, and on sums.
use Rattle.std.specs.Prelude.{◌≡◌, ℕ, zero, suc, ◌<◌, ◌≤◌, max, ℤ, pos, ◌+ℤ◌, ◌≤ℤ◌, ◌-◌}
use Rattle.std.specs.Prelude.{Bool, true, false, All, List, [], ◌∷◌, length, cond, refl}
use Rattle.std.specs.Prelude.{slice_index_or, int_lt, Option, Some, None, find}
use Rattle.std.specs.Int.{int_min, int_max}
use Rattle.std.specs.Prelude.{map, filter}
use Rattle.std.proofs.Common.{arith, inl, inr}
use Rattle.std.proofs.lemmas.Bool.{cases_lt}
use Rattle.std.proofs.lemmas.Int.{ints, clamps}
use Rattle.std.proofs.lemmas.List.Elements.{All-nil, All-tail, All-head, All-cons, All-map, All-filter}
use Rattle.whole_laws.specs.Whole.{list_of, whole_sum, greatest_whole, least_whole}
use Rattle.whole_laws.specs.Whole.{greatest_natural}
use Rattle.whole_laws.proofs.ListsByPlace.{length-list_of, at-list_of}

-- the greatest of natural numbers
pub greatest_natural_most : (xs : List ℕ) (m : ℕ) → All (λ x. x ≤ m) xs → greatest_natural xs ≤ m
greatest_natural_most [] m h = omega arith
greatest_natural_most (x ∷ xs) m h =
    omega (arith, All-head (λ y. y ≤ m) x xs h, greatest_natural_most xs m (All-tail (λ y. y ≤ m) x xs h))

pub greatest_natural_least : (xs : List ℕ) (k d : ℕ) → k < length xs → slice_index_or xs k d ≤ greatest_natural xs
greatest_natural_least [] k d b = absurd (omega arith)
greatest_natural_least (x ∷ xs) zero d b = omega arith
greatest_natural_least (x ∷ xs) (suc k) d b = omega (arith, greatest_natural_least xs k d (omega arith))

-- the greatest of whole numbers
pub greatest_whole_most : (xs : List ℤ) (m : ℤ) → pos 0 ≤ℤ m → All (λ x. x ≤ℤ m) xs → greatest_whole xs ≤ℤ m
greatest_whole_most [] m some h = some
greatest_whole_most (x ∷ []) m some h = h 0 x (omega arith)
greatest_whole_most (x ∷ y ∷ xs) m some h =
    omega (
      arith,
      ints,
      clamps,
      All-head (λ z. z ≤ℤ m) x (y ∷ xs) h,
      greatest_whole_most (y ∷ xs) m some (All-tail (λ z. z ≤ℤ m) x (y ∷ xs) h),
    )

pub greatest_whole_least : (xs : List ℤ) (k : ℕ) (d : ℤ) → k < length xs → slice_index_or xs k d ≤ℤ greatest_whole xs
greatest_whole_least [] k d b = absurd (omega arith)
greatest_whole_least (x ∷ []) zero d b = omega (arith, ints)
greatest_whole_least (x ∷ []) (suc k) d b = absurd (omega arith)
greatest_whole_least (x ∷ y ∷ xs) zero d b = omega (arith, ints, clamps)
greatest_whole_least (x ∷ y ∷ xs) (suc k) d b =
    omega (arith, ints, clamps, greatest_whole_least (y ∷ xs) k d (omega arith))

pub greatest_whole_natural : (xs : List ℤ) → All (λ x. pos 0 ≤ℤ x) xs → pos 0 ≤ℤ greatest_whole xs
greatest_whole_natural [] h = omega (arith, ints)
greatest_whole_natural (x ∷ xs) h =
    omega (arith, ints, h 0 x (omega arith), greatest_whole_least (x ∷ xs) 0 x (omega arith))

-- the least of whole numbers
pub least_whole_least : (xs : List ℤ) (m : ℤ) → m ≤ℤ pos 0 → All (λ x. m ≤ℤ x) xs → m ≤ℤ least_whole xs
least_whole_least [] m none h = none
least_whole_least (x ∷ []) m none h = h 0 x (omega arith)
least_whole_least (x ∷ y ∷ xs) m none h =
    omega (
      arith,
      ints,
      clamps,
      All-head (λ z. m ≤ℤ z) x (y ∷ xs) h,
      least_whole_least (y ∷ xs) m none (All-tail (λ z. m ≤ℤ z) x (y ∷ xs) h),
    )

-- a sum of numbers that are not negative is none either
pub whole_sum_natural : (xs : List ℤ) → All (λ x. pos 0 ≤ℤ x) xs → pos 0 ≤ℤ whole_sum xs
whole_sum_natural [] h = omega (arith, ints)
whole_sum_natural (x ∷ xs) h =
    omega (
      arith,
      ints,
      All-head (λ z. pos 0 ≤ℤ z) x xs h,
      whole_sum_natural xs (All-tail (λ z. pos 0 ≤ℤ z) x xs h),
    )

-- what each member of a list and 0 have, the greatest and the least have
greater-has : (P : ℕ → Type 0) (a b : ℕ) → P a → P b → P (max a b)
greater-has P a b x y =
    elim (cases_lt a b) [
      | inl less ↦ let same : max a b ≡ b = omega arith in rw same y
      | inr most ↦ let same : max a b ≡ a = omega arith in rw same x
    ]

pub greatest_natural-has : (P : ℕ → Type 0) (xs : List ℕ) → P 0 → All P xs → P (greatest_natural xs)
greatest_natural-has P [] none all = none
greatest_natural-has P (x ∷ xs) none all =
    greater-has P x (greatest_natural xs) (All-head P x xs all)
    (greatest_natural-has P xs none (All-tail P x xs all))

pub lesser_whole-has : (P : ℤ → Type 0) (a b : ℤ) → P a → P b → P (int_min a b)
lesser_whole-has P a b x y = elim (int_lt b a) as (λ t. P (cond t b a)) [ true ↦ y | false ↦ x ]

pub least_whole-has : (P : ℤ → Type 0) (xs : List ℤ) → P (pos 0) → All P xs → P (least_whole xs)
least_whole-has P [] none all = none
least_whole-has P (x ∷ []) none all = All-head P x [] all
least_whole-has P (x ∷ y ∷ xs) none all =
    lesser_whole-has P x (least_whole (y ∷ xs)) (All-head P x (y ∷ xs) all)
    (least_whole-has P (y ∷ xs) none (All-tail P x (y ∷ xs) all))

-- a search that finds nothing
pub nothing_found : {A : Type 0} (test : A → Bool) (xs : List A) → find test xs ≡ None
    → All (λ x. test x ≡ false) xs
nothing_found test [] h = All-nil (λ x. test x ≡ false)
nothing_found test (x ∷ xs) h =
    All-cons (λ y. test y ≡ false) x xs (passes_over (test x) x (find test xs) h).0
    (nothing_found test xs (passes_over (test x) x (find test xs) h).1)
  where
    passes_over : {A : Type 0} (t : Bool) (x : A) (rest : Option A) → cond t (Some x) rest ≡ None
        → (t ≡ false) × (rest ≡ None)
    passes_over true x rest h = absurd (some≢none x h)
      where
        some≢none : {A : Type 0} (x : A) → Some x ≡ None → ⊥
        some≢none x h = cc
    passes_over false x rest h = (refl, h)

-- what a member that passes a test adds is at most what all that pass add up to
pub part_of_sum : {A : Type 0} (f : A → ℤ) (test : A → Bool) (xs : List A) (k : ℕ) (d : A) → k < length xs
    → test (slice_index_or xs k d) ≡ true → All (λ x. pos 0 ≤ℤ f x) xs
    → f (slice_index_or xs k d) ≤ℤ whole_sum (map f (filter test xs))
part_of_sum f test [] k d below passes natural = absurd (omega arith)
part_of_sum f test (x ∷ xs) zero d below passes natural =
    rw passes (first_part (f x) (whole_sum (map f (filter test xs))) (rest_natural f test x xs natural))
  where
    first_part : (a b : ℤ) → pos 0 ≤ℤ b → a ≤ℤ (a +ℤ b)
    first_part a b h = omega (arith, ints)

    rest_natural : {A : Type 0} (f : A → ℤ) (test : A → Bool) (x : A) (xs : List A)
        → All (λ y. pos 0 ≤ℤ f y) (x ∷ xs) → pos 0 ≤ℤ whole_sum (map f (filter test xs))
    rest_natural f test x xs natural = whole_sum_natural (map f (filter test xs))
        (All-map (λ z. pos 0 ≤ℤ z) f (filter test xs)
        (All-filter test (λ y. pos 0 ≤ℤ f y) xs (All-tail (λ y. pos 0 ≤ℤ f y) x xs natural)))
part_of_sum f test (x ∷ xs) (suc k) d below passes natural =
    elim (test x) as (λ b. f (slice_index_or xs k d)
    ≤ℤ whole_sum (map f (cond b (x ∷ filter test xs) (filter test xs)))) [
      | true ↦ later_part (f (slice_index_or xs k d)) (f x) (whole_sum (map f (filter test xs)))
          (All-head (λ y. pos 0 ≤ℤ f y) x xs natural)
          (part_of_sum f test xs k d (omega arith) passes (All-tail (λ y. pos 0 ≤ℤ f y) x xs natural))
      | false ↦ part_of_sum f test xs k d (omega arith) passes (All-tail (λ y. pos 0 ≤ℤ f y) x xs natural)
    ]
  where
    later_part : (a b c : ℤ) → pos 0 ≤ℤ b → a ≤ℤ c → a ≤ℤ (b +ℤ c)
    later_part a b c h k = omega (arith, ints)

-- what stands at a place is at most the greatest
pub within_greatest : (n : ℕ) (f : ℕ → ℤ) (i : ℕ) → i < n → f i ≤ℤ greatest_whole (list_of n f)
within_greatest n f i b = rw (at-list_of n f i (pos 0) b) at
    (greatest_whole_least (list_of n f) i (pos 0) (rw (length-list_of n f) b))

-- a fact of the lesser or the greater of two numbers
pub greater_whole-has : (P : ℤ → Type 0) (x y : ℤ) → P x → P y → P (int_max x y)
greater_whole-has P x y hx hy = choose (int_lt y x)
  where
    choose : (b : Bool) → P (cond b x y)
    choose true = hx
    choose false = hy

pub least_le_left : (x y : ℤ) → int_min x y ≤ℤ x
least_le_left x y = omega (arith, ints, clamps)

pub least_le_right : (x y : ℤ) → int_min x y ≤ℤ y
least_le_right x y = omega (arith, ints, clamps)

pub left_le_greatest : (x y : ℤ) → x ≤ℤ int_max x y
left_le_greatest x y = omega (arith, ints, clamps)

pub right_le_greatest : (x y : ℤ) → y ≤ℤ int_max x y
right_le_greatest x y = omega (arith, ints, clamps)
