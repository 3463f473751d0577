-- One more term of a sum of products.
use Rattle.std.proofs.Common.{◌≡◌, ℕ, ◌+◌, ◌^◌, ◌<◌, ◌≤◌, ℤ, pos, ◌+ℤ◌, ◌*ℤ◌, FitsSigned}
use Rattle.std.proofs.Common.{List, length, drop, get_or, arith, add-one, refl, sym, ◌∙◌}
use Rattle.std.proofs.Math.ListN.{length-map}
use Rattle.std.specs.Prelude.{unsigned_abs}
use Rattle.std.specs.Int.{w128}
use Rattle.std.proofs.Math.Seq.{drop-cons}
use Rattle.std.proofs.Math.IntN.{+ℤ_assoc, +ℤ_idr}
use Rattle.std.proofs.lemmas.Int.{unsigned_abs-mul, fits_signed_from_abs}
use Rattle.std.proofs.lemmas.List.{drop_all, get_or-map}
use Rattle.fixed_num.specs.Products.{sum_of_products, sum_of_sizes, items_at}
use Rattle.whole_laws.proofs.Numbers.{size_of_sum}

-- the sum of the first i products: with the products that are left it is the whole sum
pub record IsPartialSum (xs factors : List ℤ) (i : ℕ) (sum : ℤ) : Type 0 where
  pub rest : sum +ℤ sum_of_products (drop i xs) (drop i factors) ≡ sum_of_products xs factors
  pub size : unsigned_abs sum + sum_of_sizes (drop i xs) (drop i factors) ≤ sum_of_sizes xs factors

-- the product at place i
abbrev pub term : List ℤ → List ℤ → ℕ → ℤ
term xs factors i = get_or xs i (pos 0) *ℤ get_or factors i (pos 0)

sum_of_products-drop : (xs factors : List ℤ) (i : ℕ) → i < length xs → i < length factors
    → sum_of_products (drop i xs) (drop i factors)
    ≡ term xs factors i +ℤ sum_of_products (drop (i + 1) xs) (drop (i + 1) factors)
sum_of_products-drop xs factors i in_xs in_factors =
    rw (add-one, drop-cons xs i (pos 0) in_xs, drop-cons factors i (pos 0) in_factors) refl

sum_of_sizes-drop : (xs factors : List ℤ) (i : ℕ) → i < length xs → i < length factors
    → sum_of_sizes (drop i xs) (drop i factors)
    ≡ unsigned_abs (term xs factors i) + sum_of_sizes (drop (i + 1) xs) (drop (i + 1) factors)
sum_of_sizes-drop xs factors i in_xs in_factors =
    let size = unsigned_abs-mul (get_or xs i (pos 0)) (get_or factors i (pos 0)) in
    rw (size, add-one, drop-cons xs i (pos 0) in_xs, drop-cons factors i (pos 0) in_factors) refl

fits_by_size : (z : ℤ) (m : ℕ) → unsigned_abs z ≤ m → m < 2 ^ 126 → FitsSigned w128 z
fits_by_size z m within small = fits_signed_from_abs w128 z (omega arith)

pub partial_sum-more : (xs factors : List ℤ) (i : ℕ) (sum : ℤ) → i < length xs → length factors ≡ length xs
    → IsPartialSum xs factors i sum → IsPartialSum xs factors (i + 1) (sum +ℤ term xs factors i)
partial_sum-more xs factors i sum inside lengths so_far =
    let left = sum_of_sizes-drop xs factors i inside (omega arith) in
    record {
      rest = rw (+ℤ_assoc, ← sum_of_products-drop xs factors i inside (omega arith)) so_far.rest;
      size = omega (arith, so_far.size, size_of_sum sum (term xs factors i));
    }

pub term_fits : (xs factors : List ℤ) (i : ℕ) (sum : ℤ) → i < length xs → length factors ≡ length xs
    → IsPartialSum xs factors i sum → sum_of_sizes xs factors < 2 ^ 126 → FitsSigned w128 (term xs factors i)
term_fits xs factors i sum inside lengths so_far fits =
    let within : unsigned_abs (term xs factors i) ≤ sum_of_sizes xs factors =
    omega (arith, so_far.size, sum_of_sizes-drop xs factors i inside (omega arith)) in
    fits_by_size (term xs factors i) (sum_of_sizes xs factors) within fits

pub partial_sum_fits : (xs factors : List ℤ) (i : ℕ) (sum : ℤ) → IsPartialSum xs factors i sum
    → sum_of_sizes xs factors < 2 ^ 126 → FitsSigned w128 sum
partial_sum_fits xs factors i sum so_far fits =
    fits_by_size sum (sum_of_sizes xs factors) (omega (arith, so_far.size)) fits

-- at the end the partial sum is the sum
pub partial_sum-all : (xs factors : List ℤ) (i : ℕ) (sum : ℤ) → length xs ≤ i → IsPartialSum xs factors i sum
    → sum ≡ sum_of_products xs factors
partial_sum-all xs factors i sum past so_far = sym (+ℤ_idr sum) ∙ (rw (drop_all i xs past) at so_far.rest)

-- the next product of two numbers that were read, and the sum with it
pub record IsNextTerm (xs factors : List ℤ) (i : ℕ) (sum x factor : ℤ) : Type 0 where
  pub product_fits : FitsSigned w128 (x *ℤ factor)
  pub sum_fits : FitsSigned w128 (sum +ℤ (x *ℤ factor))
  pub more : IsPartialSum xs factors (i + 1) (sum +ℤ (x *ℤ factor))

pub next_term : (xs factors : List ℤ) (i : ℕ) (sum x factor : ℤ) → i < length xs → length factors ≡ length xs
    → IsPartialSum xs factors i sum → sum_of_sizes xs factors < 2 ^ 126 → x ≡ get_or xs i (pos 0)
    → factor ≡ get_or factors i (pos 0) → IsNextTerm xs factors i sum x factor
next_term xs factors i sum x factor inside lengths so_far fits is_x is_factor =
    let more = partial_sum-more xs factors i sum inside lengths so_far in
    rw (is_x, is_factor) (record {
      product_fits = term_fits xs factors i sum inside lengths so_far fits;
      sum_fits = partial_sum_fits xs factors (i + 1) _ more fits;
      more = more;
    })

-- the items at some places, one after another
pub length-items_at : (items : List ℤ) (places : List ℕ) (n : ℕ) → length places ≡ n
    → length (items_at items places) ≡ n
length-items_at items places n e = simp length-map e

pub item_at : (items : List ℤ) (places : List ℕ) (i n : ℕ) → i < n → length places ≡ n
    → get_or (items_at items places) i (pos 0) ≡ get_or items (get_or places i 0) (pos 0)
item_at items places i n inside e =
    get_or-map (λ place. get_or items place (pos 0)) places i 0 (pos 0) (omega (arith, inside, e))
