-- A row's new number, from what the program reads of the row, of the start and of the strip.
use Rattle.std.proofs.Common.{◌≡◌, ℕ, ◌+◌, ◌*◌, ◌-◌, ◌<◌, ◌≤◌, ◌^◌, length, get_or, set, List, take, drop, ℤ, pos}
use Rattle.std.proofs.Common.{◌+ℤ◌, ◌∙◌, arith, inl, inr}
use Rattle.std.specs.Prelude.{unsigned_abs}
use Rattle.std.proofs.lemmas.Bool.{cases_lt}
use Rattle.std.proofs.lemmas.List.{get_or-set_other, get_or-set_same}
use Rattle.frac_laws.specs.Rounding.{floor_of}
use Rattle.fixed_num.specs.Products.{sum_of_products, sum_of_sizes, items_at}
use Rattle.linear_system.specs.StoredSystem.{StoredSystem, row_of}
use Rattle.taylor_step.specs.Strips.{strip_of, numbers_at, start_products, products_of, sizes_of}
use Rattle.taylor_step.proofs.Turns.{size-products}

module _ (s : StoredSystem) (start : List ℤ) (strips : List (List ℤ)) (k i : ℕ) (given : ℤ) (numbers : List ℤ)
    (columns : List ℕ) (strip : List ℤ) (is_given : given ≡ start_products (row_of s i) start k)
    (are_numbers : numbers ≡ (row_of s i).numbers) (are_columns : columns ≡ (row_of s i).columns)
    (is_strip : strip ≡ strip_of strips i) where
  pub row_fits : sizes_of s start strips k i < 2 ^ 126
      → unsigned_abs given + sum_of_sizes numbers (take (length numbers) (drop ((24 - k) * length columns) strip))
      < 2 ^ 126
  row_fits fit = rw (is_given, are_numbers, are_columns, is_strip)
      (omega (arith, size-products (numbers_at (row_of s i) k) (items_at start (row_of s i).columns), fit))

  pub row_is : (number : ℤ) (div : ℕ) → number ≡ floor_of
      (given +ℤ sum_of_products numbers (take (length numbers) (drop ((24 - k) * length columns) strip)))
      (pos (2 ^ 64 * div)) → div ≡ k + 1
      → number ≡ floor_of (products_of s start strips k i) (pos (2 ^ 64 * (k + 1)))
  row_is number div e d = rw (is_given, are_numbers, are_columns, is_strip, d) at e

-- a list with one more number put in its place: those before it are done, and those behind it are left
pub one_more_done : (now : List ℤ) (wanted : ℕ → ℤ) (i : ℕ) (number : ℤ) → i < length now
    → ((j : ℕ) → j < i → get_or now j (pos 0) ≡ wanted j) → number ≡ wanted i
    → (j : ℕ) → j < i + 1 → get_or (set now i number) j (pos 0) ≡ wanted j
one_more_done now wanted i number room done new j b = elim (cases_lt j i) [
  | inl l ↦ get_or-set_other now i j number (pos 0) (λ q. absurd (omega arith)) ∙ done j l
  | inr l ↦ let e : j ≡ i = omega arith in rw e (get_or-set_same now i number (pos 0) room ∙ new)
]

pub one_less_left : (now : List ℤ) (wanted : ℕ → ℤ) (i : ℕ) (number : ℤ)
    → ((j : ℕ) → i ≤ j → get_or now j (pos 0) ≡ wanted j)
    → (j : ℕ) → i + 1 ≤ j → get_or (set now i number) j (pos 0) ≡ wanted j
one_less_left now wanted i number left j b =
    get_or-set_other now i j number (pos 0) (λ q. absurd (omega arith)) ∙ left j (omega arith)
