-- Sums, powers and products of lists.
use Rattle.std.specs.Prelude.{◌≡◌, ◌≢◌, ℕ, pos, List, ◌+◌, ◌-◌, ◌<◌}
use Rattle.frac_laws.specs.Fraction.{Fraction, whole, size, ◌+ℚ◌, ◌-ℚ◌, ◌*ℚ◌, ◌≤ℚ◌}
use Rattle.frac_laws.specs.Sums.{sum_to, sum_of_list, power}
use Rattle.frac_laws.specs.Lists.{number_at}
use Rattle.frac_laws.specs.ListProducts.{product_of_lists}
use Rattle.frac_laws.specs.Convolution.{convolution}

-- the sum of f + g
abbrev pub SumOfSums : Type 0
SumOfSums = (n : ℕ) (f g : ℕ → Fraction) → sum_to n (λ k. f k +ℚ g k) ≡ sum_to n f +ℚ sum_to n g

-- the sum of c f
abbrev pub SumOfMultiples : Type 0
SumOfMultiples = (n : ℕ) (c : Fraction) (f : ℕ → Fraction) → sum_to n (λ k. c *ℚ f k) ≡ c *ℚ sum_to n f

-- the order of two sums may be changed
abbrev pub SumsExchange : Type 0
SumsExchange = (n m : ℕ) (f : ℕ → ℕ → Fraction)
    → sum_to n (λ i. sum_to m (λ j. f i j)) ≡ sum_to m (λ j. sum_to n (λ i. f i j))

-- the size of a sum is at most the sum of the sizes
abbrev pub SizeOfSumIsWithinSizes : Type 0
SizeOfSumIsWithinSizes = (n : ℕ) (f : ℕ → Fraction) → size (sum_to n f) ≤ℚ sum_to n (λ k. size (f k))

-- a sum in which one term alone is not 0 is that term
abbrev pub SumOfOneTerm : Type 0
SumOfOneTerm = (n i : ℕ) (f : ℕ → Fraction) → i < n → ((j : ℕ) → j ≢ i → f j ≡ whole (pos 0))
    → sum_to n f ≡ f i

-- x^(n + m) = x^n x^m
abbrev pub PowersAdd : Type 0
PowersAdd = (x : Fraction) (n m : ℕ) → power x (n + m) ≡ power x n *ℚ power x m

-- (x y)^n = x^n y^n
abbrev pub PowersOfProducts : Type 0
PowersOfProducts = (x y : Fraction) (n : ℕ) → power (x *ℚ y) n ≡ power x n *ℚ power y n

-- (1 + q + .. + q^(n-1)) (1 - q) = 1 - q^n
abbrev pub PowersSum : Type 0
PowersSum = (q : Fraction) (n : ℕ)
    → sum_to n (power q) *ℚ (whole (pos 1) -ℚ q) ≡ whole (pos 1) -ℚ power q n

-- where 8^k v(k) <= B from s on: 7 * 8^s (v(s) + .. + v(s + r - 1)) <= 8 B
abbrev pub TailOfEighthsIsSmall : Type 0
TailOfEighthsIsSmall = (bound : Fraction) (v : ℕ → Fraction) (s r : ℕ) → whole (pos 0) ≤ℚ bound
    → ((i : ℕ) → i < r → power (whole (pos 8)) (s + i) *ℚ v (s + i) ≤ℚ bound)
    → whole (pos 7) *ℚ power (whole (pos 8)) s *ℚ sum_to r (λ i. v (s + i)) ≤ℚ whole (pos 8) *ℚ bound

-- the total of a product of lists is the product of the totals
abbrev pub TotalOfListProduct : Type 0
TotalOfListProduct = (xs ys : List Fraction)
    → sum_of_list (product_of_lists xs ys) ≡ sum_of_list xs *ℚ sum_of_list ys

-- a product of lists has the convolution of the numbers
abbrev pub NumbersOfListProduct : Type 0
NumbersOfListProduct = (xs ys : List Fraction) (k : ℕ)
    → number_at (product_of_lists xs ys) k ≡ convolution (number_at xs) (number_at ys) k

-- the total of a convolution
abbrev pub ConvolutionTotal : Type 0
ConvolutionTotal = (n : ℕ) (a b : ℕ → Fraction)
    → sum_to n (convolution a b) ≡ sum_to n (λ m. a m *ℚ sum_to (n - m) b)

-- for numbers that are not negative, the total of a convolution is at most the product of the totals
abbrev pub ConvolutionIsWithinTotals : Type 0
ConvolutionIsWithinTotals = (n : ℕ) (a b : ℕ → Fraction) → ((k : ℕ) → whole (pos 0) ≤ℚ a k)
    → ((k : ℕ) → whole (pos 0) ≤ℚ b k) → sum_to n (convolution a b) ≤ℚ sum_to n a *ℚ sum_to n b
