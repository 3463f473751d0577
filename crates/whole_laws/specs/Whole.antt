-- Whole numbers: lists by place, sums, the greatest and the least.
use Rattle.std.specs.Prelude.{ℕ, zero, suc, max, ℤ, pos, negsuc, ◌+ℤ◌, List, [], ◌∷◌, Bool, true, ◌&&◌}
use Rattle.std.specs.Int.{int_min, int_max}

-- f 0, .., f (n - 1)
abbrev pub list_of : {A : Type 0} → ℕ → (ℕ → A) → List A
list_of zero f = []
list_of (suc n) f = f 0 ∷ list_of n (λ i. f (suc i))

-- 0, .., n - 1
abbrev pub places : ℕ → List ℕ
places n = list_of n (λ i. i)

-- the last of a list, or a value that stands for none
abbrev pub last_or : {A : Type 0} → A → List A → A
last_or none [] = none
last_or none (x ∷ xs) = last_or x xs

-- the sum of whole numbers
abbrev pub whole_sum : List ℤ → ℤ
whole_sum [] = pos 0
whole_sum (x ∷ xs) = x +ℤ whole_sum xs

-- the greatest of whole numbers, and 0 where there is none
abbrev pub greatest_whole : List ℤ → ℤ
greatest_whole [] = pos 0
greatest_whole (x ∷ []) = x
greatest_whole (x ∷ y ∷ xs) = int_max x (greatest_whole (y ∷ xs))

-- the least of whole numbers, and 0 where there is none
abbrev pub least_whole : List ℤ → ℤ
least_whole [] = pos 0
least_whole (x ∷ []) = x
least_whole (x ∷ y ∷ xs) = int_min x (least_whole (y ∷ xs))

-- the greatest of natural numbers, and 0 where there is none
abbrev pub greatest_natural : List ℕ → ℕ
greatest_natural [] = 0
greatest_natural (x ∷ xs) = max x (greatest_natural xs)

-- a whole number, or 0 where it is below 0
abbrev pub natural_part : ℤ → ℕ
natural_part (pos n) = n
natural_part (negsuc n) = 0

-- a test holds for each number below n
abbrev pub holds_below : ℕ → (ℕ → Bool) → Bool
holds_below zero test = true
holds_below (suc n) test = holds_below n test && test n
