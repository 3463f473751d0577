-- Products of whole numbers by a natural number. A whole number z is read as `up z - down z`.
use Rattle.std.proofs.Common.{◌≡◌, ℕ, ◌+◌, ◌*◌, ◌<◌, ◌≤◌, ap, sym, ◌∙◌, arith}
use Rattle.std.proofs.Common.{ℤ, pos, negsuc, neg_ℤ, ◌+ℤ◌, ◌*ℤ◌, ◌≤ℤ◌, ◌<ℤ◌}
use Rattle.std.proofs.lemmas.Int.{ints, by_lt_z}
use Rattle.std.proofs.Math.IntN.{pos-*ℤ-pos, negsuc-*ℤ-pos}
use Rattle.std.proofs.Math.Nat.{mul_comm}
use Rattle.whole_laws.proofs.Numbers.{nat_product_le}
use borrow.Author.Differences.{up, down}

pub up-product : (a : ℤ) (d : ℕ) → up (a *ℤ pos d) ≡ up a * d
up-product (pos a) d = ap up (pos-*ℤ-pos a d)
up-product (negsuc a) d = omega (arith, ints, negsuc-*ℤ-pos a d)

pub down-product : (a : ℤ) (d : ℕ) → down (a *ℤ pos d) ≡ down a * d
down-product (pos a) d = omega (arith, ints, pos-*ℤ-pos a d)
down-product (negsuc a) d = omega (arith, ints, negsuc-*ℤ-pos a d)

pub sum-product : (a b : ℤ) (d : ℕ) → (a +ℤ b) *ℤ pos d ≡ (a *ℤ pos d) +ℤ (b *ℤ pos d)
sum-product a b d =
    let sum : up (a +ℤ b) + down a + down b ≡ down (a +ℤ b) + up a + up b = omega (arith, ints) in
    let product = ap (λ n. n * d) sum in
    omega (
      arith,
      ints,
      up-product (a +ℤ b) d,
      down-product (a +ℤ b) d,
      up-product a d,
      down-product a d,
      up-product b d,
      down-product b d,
    )

pub product-product : (a : ℤ) (m n : ℕ) → (a *ℤ pos m) *ℤ pos n ≡ a *ℤ pos (m * n)
product-product a m n =
    let up_twice = ap (λ k. k * n) (up-product a m) in
    let down_twice = ap (λ k. k * n) (down-product a m) in
    omega (
      arith,
      ints,
      up-product (a *ℤ pos m) n,
      down-product (a *ℤ pos m) n,
      up-product a (m * n),
      down-product a (m * n),
    )

-- two factors in the other order
pub product_swap : (a : ℤ) (m n : ℕ) → (a *ℤ pos m) *ℤ pos n ≡ (a *ℤ pos n) *ℤ pos m
product_swap a m n = product-product a m n ∙ ap (λ k. a *ℤ pos k) (mul_comm m n) ∙ sym (product-product a n m)

pub neg-product : (a : ℤ) (d : ℕ) → neg_ℤ a *ℤ pos d ≡ neg_ℤ (a *ℤ pos d)
neg-product a d =
    let opposite : up (neg_ℤ a) + up a ≡ down (neg_ℤ a) + down a = omega (arith, ints) in
    let product = ap (λ n. n * d) opposite in
    omega (arith, ints, up-product a d, down-product a d, up-product (neg_ℤ a) d, down-product (neg_ℤ a) d)

-- a factor that is a natural number keeps the order
pub product_le : (a b : ℤ) (d : ℕ) → a ≤ℤ b → (a *ℤ pos d) ≤ℤ (b *ℤ pos d)
product_le a b d order =
    let apart : up a + down b ≤ up b + down a = omega (arith, ints) in
    let product = nat_product_le (up a + down b) (up b + down a) d apart in
    omega (arith, ints, up-product a d, down-product a d, up-product b d, down-product b d)

-- the next multiple of d
pub next-product : (a : ℤ) (d : ℕ) → (a +ℤ pos 1) *ℤ pos d ≡ (a *ℤ pos d) +ℤ pos d
next-product a d = omega (arith, ints, sum-product a (pos 1) d, pos-*ℤ-pos 1 d)

-- a multiple below the next multiple of b is at most that of b
pub product_lt_next : (a b : ℤ) (d : ℕ) → (a *ℤ pos d) <ℤ ((b *ℤ pos d) +ℤ pos d) → a ≤ℤ b
product_lt_next a b d order =
    let next = next-product b d in
    by_lt_z b a
    (λ less. absurd (omega (arith, ints, product_le (b +ℤ pos 1) a d (omega (arith, ints)))))
    (λ le. le)

-- a positive factor is taken off both sides
pub product_le_cancel : (a b : ℤ) (d : ℕ) → 0 < d → (a *ℤ pos d) ≤ℤ (b *ℤ pos d) → a ≤ℤ b
product_le_cancel a b d positive order = product_lt_next a b d (omega (arith, ints))
