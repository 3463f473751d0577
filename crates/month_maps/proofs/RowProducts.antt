-- A row's products, added one by one.
use Rattle.std.proofs.Common.{◌≡◌, ℕ, suc, zero, ◌+◌, ◌*◌, ◌^◌, ◌<◌, ◌≤◌, ℤ, ◌+ℤ◌, List, [], ◌∷◌, length}
use Rattle.std.proofs.Common.{refl, ap, ◌∙◌, arith, get_or}
use Rattle.std.specs.Prelude.{unsigned_abs}
use mathlib.Core.Path.{ap₂}
use Rattle.std.proofs.lemmas.Int.{ints}
use Rattle.fixed_interval.specs.declared.interval.Interval.{Interval}
use Rattle.fixed_interval.specs.Intervals.{HasEndsUpTo}
use Rattle.map_laws.specs.Maps.{total, product_lo, product_hi}
use Rattle.month_maps.specs.StoredMap.{interval_at, zero_interval}

-- inside a list what is read does not depend on what stands for the numbers past its end
pub inside : (numbers : List Interval) (k : ℕ) (d e : Interval) → k < length numbers
    → get_or numbers k d ≡ get_or numbers k e
inside [] k d e h = absurd (omega arith)
inside (a ∷ numbers) zero d e h = refl
inside (a ∷ numbers) (suc k) d e h = inside numbers k d e (omega arith)

pub total-next : (i : ℕ) (f : ℕ → ℤ) → total (i + 1) f ≡ total i f +ℤ f i
total-next i f = let e : i + 1 ≡ suc i = omega arith in ap (λ k. total k f) e

-- the first i products, added to a start
pub record IsPartialProduct (lows highs : ℕ → ℤ) (start sum : Interval) (i : ℕ) : Type 0 where
  pub lo : sum.lo ≡ start.lo +ℤ total i lows
  pub hi : sum.hi ≡ start.hi +ℤ total i highs
  pub lo_small : unsigned_abs sum.lo ≤ 2 ^ 65 + i * 2 ^ 68
  pub hi_small : unsigned_abs sum.hi ≤ 2 ^ 65 + i * 2 ^ 68

pub partial_product-none : (lows highs : ℕ → ℤ) (start : Interval) → HasEndsUpTo (2 ^ 65) start
    → IsPartialProduct lows highs start start 0
partial_product-none lows highs start small = record {
  lo = omega (arith, ints);
  hi = omega (arith, ints);
  lo_small = omega (arith, small.lo);
  hi_small = omega (arith, small.hi);
}

pub partial_product-more : (lows highs : ℕ → ℤ) (start sum product next : Interval) (i : ℕ)
    → IsPartialProduct lows highs start sum i → product.lo ≡ lows i → product.hi ≡ highs i
    → HasEndsUpTo (2 ^ 68) product → next.lo ≡ sum.lo +ℤ product.lo → next.hi ≡ sum.hi +ℤ product.hi
    → IsPartialProduct lows highs start next (i + 1)
partial_product-more lows highs start sum product next i so_far product_lo product_hi small next_lo next_hi =
    record {
      lo = more sum.lo start.lo (total i lows) product.lo (lows i) next.lo (total (i + 1) lows)
          so_far.lo product_lo next_lo (total-next i lows);
      hi = more sum.hi start.hi (total i highs) product.hi (highs i) next.hi (total (i + 1) highs)
          so_far.hi product_hi next_hi (total-next i highs);
      lo_small = larger sum.lo product.lo next.lo so_far.lo_small small.lo next_lo;
      hi_small = larger sum.hi product.hi next.hi so_far.hi_small small.hi next_hi;
    }
  where
    more : (s a t p f n u : ℤ) → s ≡ a +ℤ t → p ≡ f → n ≡ s +ℤ p → u ≡ t +ℤ f → n ≡ a +ℤ u
    more s a t p f n u e g h k = omega (arith, ints)

    larger : (s p n : ℤ) → unsigned_abs s ≤ 2 ^ 65 + i * 2 ^ 68 → unsigned_abs p ≤ 2 ^ 68 → n ≡ s +ℤ p
        → unsigned_abs n ≤ 2 ^ 65 + (i + 1) * 2 ^ 68
    larger s p n h k e = omega (arith, ints)

pub sum_is_within : (lows highs : ℕ → ℤ) (start sum : Interval) (i : ℕ) → IsPartialProduct lows highs start sum i
    → i < 12 → HasEndsUpTo (2 ^ 125) sum
sum_is_within lows highs start sum i so_far few = record {
  lo = omega (arith, so_far.lo_small);
  hi = omega (arith, so_far.hi_small);
}

-- a product of what is read at two places
pub product_at : (product a b : Interval) (numbers others : List Interval) (j k : ℕ) → j < length numbers
    → k < length others → a ≡ get_or numbers j a → b ≡ get_or others k b
    → product.lo ≡ product_lo a b → product.lo ≡ product_lo (interval_at numbers j) (interval_at others k)
product_at product a b numbers others j k j_in k_in a_is b_is e =
    e ∙ ap₂ product_lo (a_is ∙ inside numbers j a zero_interval j_in) (b_is ∙ inside others k b zero_interval k_in)

pub high_product_at : (product a b : Interval) (numbers others : List Interval) (j k : ℕ) → j < length numbers
    → k < length others → a ≡ get_or numbers j a → b ≡ get_or others k b
    → product.hi ≡ product_hi a b → product.hi ≡ product_hi (interval_at numbers j) (interval_at others k)
high_product_at product a b numbers others j k j_in k_in a_is b_is e =
    e ∙ ap₂ product_hi (a_is ∙ inside numbers j a zero_interval j_in) (b_is ∙ inside others k b zero_interval k_in)

pub all_products : (products : ℕ → ℤ) (start sum : ℤ) (i dim : ℕ) → sum ≡ start +ℤ total i products → i ≡ dim
    → sum ≡ start +ℤ total dim products
all_products products start sum i dim e is = e ∙ ap (λ k. start +ℤ total k products) is
