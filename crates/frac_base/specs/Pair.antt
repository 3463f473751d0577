-- Pairs of whole numbers that stand for fractions: a top, and a bottom that is at least one.
use Rattle.std.specs.Prelude.{◌≡◌, ℕ, suc, pred, ◌*◌, ℤ, pos, negsuc, ◌+ℤ◌, ◌*ℤ◌, neg_ℤ, Bool, true, false}

-- the number top / (below + 1)
pub record Pair : Type 0 where
  pub top : ℤ
  pub below : ℕ

-- the number under the line
abbrev pub bottom : Pair → ℤ
bottom p = pos (suc p.below)

-- the two pairs stand for one number: their cross products are equal
abbrev pub Same : Pair → Pair → Type 0
Same p q = p.top *ℤ bottom q ≡ q.top *ℤ bottom p

-- one less than the product of the two bottoms
abbrev pub both_below : Pair → Pair → ℕ
both_below p q = pred (suc p.below * suc q.below)

-- the sum, over the product of the two bottoms
abbrev pub sum_of : Pair → Pair → Pair
sum_of p q = record { top = p.top *ℤ bottom q +ℤ q.top *ℤ bottom p; below = both_below p q }

-- the product, over the product of the two bottoms
abbrev pub product_of : Pair → Pair → Pair
product_of p q = record { top = p.top *ℤ q.top; below = both_below p q }

-- the number with the other sign
abbrev pub opposite_of : Pair → Pair
opposite_of p = record { top = neg_ℤ p.top; below = p.below }

-- a whole number is 0 or above
abbrev pub is_natural : ℤ → Bool
is_natural (pos n) = true
is_natural (negsuc n) = false

-- 0 as a pair
abbrev pub zero_pair : Pair
zero_pair = record { top = pos 0; below = 0 }

-- 1 as a pair
abbrev pub one_pair : Pair
one_pair = record { top = pos 1; below = 0 }
