-- The lumps of a date are of at most the size that the ledger adds.
use Rattle.std.specs.Prelude.{◌≡◌, ℕ, zero, suc, pos, negsuc, ◌<◌, ◌≤◌, ℤ, neg_ℤ, ◌≤ℤ◌, unsigned_abs, ◌==◌, ◌&&◌}
use Rattle.std.specs.Prelude.{Option, Some}
use Rattle.std.specs.Prelude.{None, option_map, unwrap_or, find, map, filter_map, List, [], ◌∷◌, length}
use Rattle.std.specs.Prelude.{slice_index_or}
use Rattle.std.specs.List.{cons_option}
use Rattle.std.proofs.Common.{refl, sym, arith}
use Rattle.std.proofs.lemmas.Int.{ints}
use Rattle.frac_laws.specs.Fraction.{whole, size, ◌≤ℚ◌}
use Rattle.frac_laws.specs.Norms.{Sup, norm_of_vector}
use Rattle.frac_laws.proofs.Linear.{natural}
use Rattle.frac_laws.proofs.Order.{le_trans, le_of_equal}
use Rattle.frac_laws.proofs.Quotients.{whole_le, whole-opposite}
use Rattle.frac_laws.proofs.Sizes.{size_le_of_between}
use Rattle.whole_laws.specs.Whole.{places, greatest_natural}
use Rattle.model_specs.specs.Product.{Product, Lump}
use Rattle.model_specs.specs.Payments.{Plan, lump_at}
use Rattle.model_specs.specs.Ledgers.{greatest_lump}
use Rattle.model_specs.specs.Runs.{lump_vector}
use Rattle.whole_laws.proofs.ListsByPlace.{length-list_of, at-list_of}
use Rattle.cell_bounds.proofs.TableNorms.{vector_most}

-- the size of what is given, and 0 where there is none
abbrev given_size : Option (ℕ × ℤ) → ℕ
given_size None = 0
given_size (Some l) = unsigned_abs l.1

abbrev sizes_of : List (ℕ × ℤ) → ℕ
sizes_of ls = greatest_natural (map (λ l. unsigned_abs l.1) ls)

first_given : (o : Option (ℕ × ℤ)) (ls : List (ℕ × ℤ)) → given_size o ≤ sizes_of (cons_option o ls)
first_given None ls = omega arith
first_given (Some l) ls = omega arith

later_given : (o : Option (ℕ × ℤ)) (ls : List (ℕ × ℤ)) → sizes_of ls ≤ sizes_of (cons_option o ls)
later_given None ls = omega arith
later_given (Some l) ls = omega arith

given_within : (f : ℕ → Option (ℕ × ℤ)) (xs : List ℕ) (k : ℕ) → k < length xs
    → given_size (f (slice_index_or xs k 0)) ≤ sizes_of (filter_map f xs)
given_within f [] k b = absurd (omega (arith, b))
given_within f (x ∷ xs) zero b = first_given (f x) (filter_map f xs)
given_within f (x ∷ xs) (suc k) b =
    omega (arith, given_within f xs k (omega (arith, b)), later_given (f x) (filter_map f xs))

amount-is : (i : ℕ) (found : Option Lump) → unsigned_abs (unwrap_or (option_map (λ l. l.amount) found) (pos 0))
    ≡ given_size (option_map (λ l. (i, l.amount)) found)
amount-is i None = refl
amount-is i (Some l) = refl

pub lump_within : (product : Product) (plan : Plan) (date i : ℕ) → i < length product.states
    → unsigned_abs (lump_at plan date i) ≤ greatest_lump product plan date
lump_within product plan date i b =
    let found : ℕ → Option Lump = λ k. find (λ l. (l.month == date) && (l.state == k)) plan.lumps in
    let f : ℕ → Option (ℕ × ℤ) = λ k. option_map (λ l. (k, l.amount)) (found k) in
    let n = length product.states in
    rw (amount-is i (found i))
    (rw (at-list_of n (λ k. k) i 0 b) at (given_within f (places n) i (rw (length-list_of n (λ k. k)) b)))

pub size-whole : (z : ℤ) (n : ℕ) → unsigned_abs z ≤ n → size (whole z) ≤ℚ whole (pos n)
size-whole z n h = size_le_of_between
    (le_trans (le_of_equal (sym (whole-opposite (pos n)))) (whole_le (low z n h))) (whole_le (high z n h))
  where
    high : (z : ℤ) (n : ℕ) → unsigned_abs z ≤ n → z ≤ℤ pos n
    high (pos z) n h = omega (arith, ints, h)
    high (negsuc z) n h = omega (arith, ints, h)

    low : (z : ℤ) (n : ℕ) → unsigned_abs z ≤ n → neg_ℤ (pos n) ≤ℤ z
    low z n h = grind (arith, ints, h)

pub lumps_norm : (product : Product) (plan : Plan) (date : ℕ)
    → norm_of_vector Sup (lump_vector product plan date) ≤ℚ whole (pos (greatest_lump product plan date))
lumps_norm product plan date =
    vector_most (length product.states) (λ i. whole (lump_at plan date i))
    (whole (pos (greatest_lump product plan date))) (natural (greatest_lump product plan date) 1)
    (λ i b. size-whole (lump_at plan date i) (greatest_lump product plan date) (lump_within product plan date i b))
