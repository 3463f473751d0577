-- Whole and natural numbers: order, size, products and powers.
use Rattle.std.specs.Prelude.{◌≡◌, ℕ, suc, ◌≤◌, ◌⊎◌, ℤ, ◌≤ℤ◌, ◌+◌, ◌+ℤ◌, unsigned_abs}
use Rattle.std.proofs.Common.{arith, pos, negsuc, refl, ◌*◌, ◌-◌, ◌^◌}
use Rattle.std.proofs.lemmas.Int.{ints}
use Rattle.std.proofs.Math.Nat.{mul-le-mul_left, pow-le-pow_left}
use Rattle.whole_laws.specs.Whole.{natural_part}

-- a number up to the next one is at most this one, or the next one
pub at_most_or_next : (n m : ℕ) → n ≤ suc m → (n ≤ m) ⊎ (n ≡ suc m)
at_most_or_next n m b = grind arith

-- whole numbers in order both ways are one
pub whole_antisym : (n m : ℤ) → n ≤ℤ m → m ≤ℤ n → n ≡ m
whole_antisym n m h k = omega (arith, ints)

-- the size of a sum
pub size_of_sum : (s t : ℤ) → unsigned_abs (s +ℤ t) ≤ unsigned_abs s + unsigned_abs t
size_of_sum s t = grind (arith, ints)

-- the size of a number that is not negative
pub natural_part_is : (z : ℤ) → pos 0 ≤ℤ z → unsigned_abs z ≡ natural_part z
natural_part_is (pos n) h = refl
natural_part_is (negsuc n) h = absurd (omega (arith, ints))

-- products and powers in order
pub nat_product_le : (a b d : ℕ) → a ≤ b → a * d ≤ b * d
nat_product_le a b d order = grind arith

pub shorter_power : (n s t j l : ℕ) → s ≤ t → n * t ^ j ≤ l → n * s ^ j ≤ l
shorter_power n s t j l h k = omega (arith, mul-le-mul_left n (pow-le-pow_left h j))
