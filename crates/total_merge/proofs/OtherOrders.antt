-- Sums over entries in another order.
use Rattle.std.proofs.Common.{◌≡◌, ℕ, suc, ◌+◌, ℤ, pos, negsuc, ◌+ℤ◌, ◌-ℤ◌, Bool, true, false, cond}
use Rattle.std.proofs.Common.{List, [], ◌∷◌, fold, refl, sym, ap, ap₂, ◌∙◌, arith}
use Rattle.std.specs.Prelude.{IsPermutation, sum_by, if◌then◌else◌}
use Rattle.std.proofs.lemmas.Int.{ints}
use Rattle.std.proofs.lemmas.List.Sums.{sum_by-cons}
use Rattle.std.proofs.lemmas.List.Sorted.{sum_by-IsPermutation}
use Rattle.portfolio_run.specs.Sums.{total_where}
use Rattle.total_merge.specs.Laws.{OrderMattersNot}
use Rattle.total_merge.specs.Sums.{is_of, whole_where}

-- what a number has above nothing, and what it has below
abbrev above : ℤ → ℕ
above (pos n) = n
above (negsuc n) = 0

abbrev below : ℤ → ℕ
below (pos n) = 0
below (negsuc n) = suc n

module _ {A : Type 0} (belongs : A → Bool) where
  -- a sum of those that belong to it, as one over all
  abbrev counts : (A → ℕ) → A → ℕ
  counts value item = cond (belongs item) (value item) 0

  total_more : (b : Bool) (total v : ℕ) → cond b (total + v) total ≡ total + cond b v 0
  total_more true total v = refl
  total_more false total v = omega arith

  total_from : (value : A → ℕ) (total : ℕ) (items : List A)
      → fold (λ sum item. if belongs item then sum + value item else sum) total items
      ≡ total + sum_by (counts value) items
  total_from value total [] = omega arith
  total_from value total (x ∷ items) =
      let rest = total_from value (cond (belongs x) (total + value x) total) items in
      let first = total_more (belongs x) total (value x) in
      let both = sum_by-cons (counts value) x items in
      rest ∙ omega (arith, first, both)

  whole_more : (b : Bool) (sum n : ℤ) → cond b (sum +ℤ n) sum
      ≡ (sum +ℤ pos (cond b (above n) 0)) -ℤ pos (cond b (below n) 0)
  whole_more true sum (pos n) = omega (arith, ints)
  whole_more true sum (negsuc n) = omega (arith, ints)
  whole_more false sum n = omega (arith, ints)

  whole_from : (number : A → ℤ) (sum : ℤ) (items : List A)
      → fold (λ total item. if belongs item then total +ℤ number item else total) sum items
      ≡ (sum +ℤ pos (sum_by (counts (λ item. above (number item))) items))
      -ℤ pos (sum_by (counts (λ item. below (number item))) items)
  whole_from number sum [] = omega (arith, ints)
  whole_from number sum (x ∷ items) =
      let rest = whole_from number (cond (belongs x) (sum +ℤ number x) sum) items in
      let first = whole_more (belongs x) sum (number x) in
      let up = sum_by-cons (counts (λ item. above (number item))) x items in
      let down = sum_by-cons (counts (λ item. below (number item))) x items in
      rest ∙ omega (arith, ints, first, up, down)

  totals_keep : (value : A → ℕ) (items other : List A) → IsPermutation items other
      → total_where belongs value items ≡ total_where belongs value other
  totals_keep value items other moved =
      total_from value 0 items ∙ ap (λ n. 0 + n) (sym (sum_by-IsPermutation (counts value) items other moved))
      ∙ sym (total_from value 0 other)

  wholes_keep : (number : A → ℤ) (items other : List A) → IsPermutation items other
      → whole_where belongs number items ≡ whole_where belongs number other
  wholes_keep number items other moved =
      whole_from number (pos 0) items
      ∙ ap₂ (λ up down. (pos 0 +ℤ pos up) -ℤ pos down)
      (sym (sum_by-IsPermutation (counts (λ item. above (number item))) items other moved))
      (sym (sum_by-IsPermutation (counts (λ item. below (number item))) items other moved))
      ∙ sym (whole_from number (pos 0) other)

-- they are the same
pub order_matters_not : OrderMattersNot
order_matters_not entries other moved = record {
  lo = λ name. wholes_keep (is_of name) (λ entry. entry.lo) entries other moved;
  hi = λ name. wholes_keep (is_of name) (λ entry. entry.hi) entries other moved;
  tol = λ name. totals_keep (is_of name) (λ entry. entry.tol) entries other moved;
}
