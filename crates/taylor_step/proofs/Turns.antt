-- The strips hold the last steps, before and after a turn.
use Rattle.std.proofs.Common.{◌≡◌, ℕ, suc, ◌^◌, ◌+◌, ◌*◌, ◌-◌, ◌/◌, ◌<◌, ◌≤◌, ◌⊎◌, inl, inr, length, get_or}
use Rattle.std.proofs.Common.{map, List, [], ◌∷◌, ℤ, pos, negsuc, ◌+ℤ◌, ◌*ℤ◌, refl, ap, sym, ◌∙◌, arith}
use Rattle.std.proofs.Common.{add-one}
use Rattle.std.specs.Prelude.{unsigned_abs}
use Rattle.std.proofs.lemmas.Int.{unsigned_abs-mul}
use Rattle.std.proofs.lemmas.List.{get_or_past}
use Rattle.std.proofs.lemmas.Nat.{shr_below}
use Rattle.std.proofs.Math.Nat.{zero-div, div-div-eq-div-mul, div-le_self}
use mathlib.Core.Path.{ap₂}
use Rattle.taylor_step.proofs.Windows.{first_window, next_window}
use Rattle.taylor_step.proofs.Starts.{products_are}
use Rattle.taylor_step.specs.Strips.{put_at, zeros, products_of, HasRoom, IsStart, IsHistory}
use Rattle.taylor_step.specs.WholeRun.{strip, past, later, coefficient, new_number, ProductsFit}
use Rattle.fixed_num.specs.Products.{sum_of_products, sum_of_sizes}
use Rattle.frac_laws.specs.Rounding.{floor_of}
use Rattle.linear_system.specs.StoredSystem.{StoredSystem, row_of, dim_of, no_row, IsSystem}
use Rattle.whole_laws.proofs.Numbers.{size_of_sum}

map_same : (cs : List ℕ) (f g : ℕ → ℤ) → ((p : ℕ) → p < length cs → f (get_or cs p 0) ≡ g (get_or cs p 0))
    → map f cs ≡ map g cs
map_same [] f g h = refl
map_same (c ∷ cs) f g h = ap₂ (λ x l. x ∷ l) (h 0 (omega arith))
    (map_same cs f g (λ p b. h (suc p) (omega arith)))

blocks_in : (w dim n m : ℕ) → w ≤ dim + 1 → n ≡ 36 * (dim + 1) → 36 * w ≤ n
blocks_in w dim n m h e = grind arith

pub history_start : (s : StoredSystem) (mid : List ℤ) (old new : List (List ℤ)) → IsSystem s → HasRoom s old
    → ((i : ℕ) → i < dim_of s → get_or new i [] ≡ put_at (get_or old i []) (24 * length (row_of s i).columns)
    (zeros ((s.degree + 1) * length (row_of s i).columns)))
    → IsHistory s mid 0 new
unfolding later
history_start s mid old new sys room zeros_at i b =
    let row = sys.each i b in
    rw (zeros_at i b)
    (first_window (get_or old i []) (row_of s i).columns s.degree _ _ refl row.full
    (blocks_in _ (dim_of s) _ 0 row.columns.few (room.blocks i b)) sys.degree_small)

-- what stands past the rows is 0, as the free column's number is after the start_number
pub past_rows : (s : StoredSystem) (p : ℕ → ℕ → ℤ) (k : ℕ)
    → new_number (row_of s (dim_of s)) s.degree p k ≡ pos 0
past_rows s p k = let e : row_of s (dim_of s) ≡ no_row =
    get_or_past s.rows (dim_of s) no_row (omega arith) in rw e (ap pos (zero-div _))

pub new_is : (s : StoredSystem) (mid start newest : List ℤ) (k : ℕ) (strips : List (List ℤ)) → IsSystem s
    → IsStart mid start → IsHistory s mid k strips
    → ((i : ℕ) → i < dim_of s → get_or newest i (pos 0) ≡ floor_of (products_of s start strips k i)
    (pos (2 ^ 64 * (k + 1))))
    → (i : ℕ) → i < dim_of s → get_or newest i (pos 0) ≡ coefficient s mid (suc k) i
unfolding past
new_is s mid start newest k strips sys is_start history done i b =
    done i b ∙ ap (λ z. floor_of z (pos (2 ^ 64 * (k + 1))))
    (products_are s mid start k strips sys is_start history i b)
    ∙ rw add-one refl

pub history_more : (s : StoredSystem) (mid newest : List ℤ) (k : ℕ) (old new : List (List ℤ)) → IsSystem s
    → HasRoom s old → k < 24 → IsHistory s mid k old
    → ((i : ℕ) → i < dim_of s → get_or newest i (pos 0) ≡ coefficient s mid (suc k) i)
    → get_or newest (dim_of s) (pos 0) ≡ pos 0
    → ((i : ℕ) → i < dim_of s → get_or new i [] ≡ put_at (get_or old i [])
    ((23 - k) * length (row_of s i).columns) (map (λ c. get_or newest c (pos 0)) (row_of s i).columns))
    → IsHistory s mid (suc k) new
unfolding past later
history_more s mid newest k old new sys room below history is_new free written i b =
    let row = sys.each i b in
    let e : 23 - k ≡ 24 - suc k = omega arith in
    rw (
      written i b,
      e,
      map_same (row_of s i).columns (λ c. get_or newest c (pos 0))
          (λ c. new_number (row_of s c) s.degree (past s mid k) k) (λ p q. each _ (row.columns.in_range p q)),
    )
    (next_window (get_or old i []) (row_of s i).columns (later s mid k) _ s.degree k _ below row.full
    (blocks_in _ (dim_of s) _ 0 row.columns.few (room.blocks i b)) (history i b))
  where
    last_or : (c d : ℕ) → c ≤ d → (c < d) ⊎ (c ≡ d)
    last_or c d h = grind arith

    each : (c : ℕ) → c ≤ dim_of s → get_or newest c (pos 0) ≡ new_number (row_of s c) s.degree (past s mid k) k
    each c h = elim (last_or c (dim_of s) h) [
      | inl l ↦ is_new c l
      | inr q ↦ ap
          (λ j. get_or newest j (pos 0)) q ∙ free ∙ sym (past_rows s (past s mid k) k) ∙ sym
          (ap (λ j. new_number (row_of s j) s.degree (past s mid k) k) q)
    ]

pub size-products : (xs vs : List ℤ) → unsigned_abs (sum_of_products xs vs) ≤ sum_of_sizes xs vs
size-products [] vs = omega arith
size-products (x ∷ xs) [] = omega arith
size-products (x ∷ xs) (v ∷ vs) = omega (
  arith,
  size_of_sum (x *ℤ v) (sum_of_products xs vs),
  unsigned_abs-mul x
      v,
  size-products xs vs,
)

pub floor_small : (z : ℤ) (k : ℕ) → unsigned_abs z < 2 ^ 126
    → unsigned_abs (floor_of z (pos (2 ^ 64 * (k + 1)))) ≤ 2 ^ 62
floor_small (pos n) k h = omega (
  arith,
  sym (div-div-eq-div-mul n (2 ^ 64) (k + 1)),
  div-le_self (n / 2 ^ 64)
      (k + 1),
  shr_below n 62 64 (omega arith),
)
floor_small (negsuc n) k h = omega (
  arith,
  sym (div-div-eq-div-mul n (2 ^ 64) (k + 1)),
  div-le_self
      (n / 2 ^ 64) (k + 1),
  shr_below n 62 64 (omega arith),
)

coefficient_small : (s : StoredSystem) (mid : List ℤ) (k i : ℕ) → ProductsFit s mid → k < 24 → i < dim_of s
    → unsigned_abs (coefficient s mid (suc k) i) ≤ 2 ^ 62
unfolding past
coefficient_small s mid k i fit below b = rw (← add-one k) (floor_small _ k (omega (
  arith,
  size-products (row_of s i).numbers (strip (row_of s i).columns (past s mid k) (suc s.degree)),
  fit.fit k i below b,
)))

pub new_small : (s : StoredSystem) (mid newest : List ℤ) (k : ℕ) → ProductsFit s mid → k < 24
    → length newest ≡ dim_of s + 1
    → ((i : ℕ) → i < dim_of s → get_or newest i (pos 0) ≡ coefficient s mid (suc k) i)
    → get_or newest (dim_of s) (pos 0) ≡ pos 0 → (i : ℕ) → unsigned_abs (get_or newest i (pos 0)) ≤ 2 ^ 62
new_small s mid newest k fit below long is_new free i = by_place (place i (dim_of s))
  where
    place : (i d : ℕ) → (i < d) ⊎ ((i ≡ d) ⊎ (d + 1 ≤ i))
    place i d = grind arith

    by_place : (i < dim_of s) ⊎ ((i ≡ dim_of s) ⊎ (dim_of s + 1 ≤ i))
        → unsigned_abs (get_or newest i (pos 0)) ≤ 2 ^ 62
    by_place (inl b) = rw (is_new i b) (coefficient_small s mid k i fit below b)
    by_place (inr (inl e)) = rw (e, free) (omega arith)
    by_place (inr (inr h)) = rw (get_or_past newest i (pos 0) (omega arith)) (omega arith)

pub sum_small : (a b : ℤ) (k : ℕ) → unsigned_abs a ≤ 2 ^ 66 + k * 2 ^ 63 → unsigned_abs b ≤ 2 ^ 62
    → unsigned_abs (a +ℤ b) ≤ 2 ^ 66 + (k + 1) * 2 ^ 63
sum_small a b k h j = omega (arith, size_of_sum a b)

pub sums_small : (mid mid' nx : List ℤ) (k : ℕ) → length mid' ≡ length mid
    → ((i : ℕ) → i < length mid → get_or mid' i (pos 0) ≡ get_or mid i (pos 0) +ℤ get_or nx i (pos 0))
    → ((i : ℕ) → unsigned_abs (get_or mid i (pos 0)) ≤ 2 ^ 66 + k * 2 ^ 63)
    → ((i : ℕ) → unsigned_abs (get_or nx i (pos 0)) ≤ 2 ^ 62)
    → (i : ℕ) → unsigned_abs (get_or mid' i (pos 0)) ≤ 2 ^ 66 + (k + 1) * 2 ^ 63
sums_small mid mid' nx k l h a b i = elim (place i (length mid)) [
  | inl q ↦ rw (h i q) (sum_small (get_or mid i (pos 0)) (get_or nx i (pos 0)) k (a i) (b i))
  | inr q ↦ rw (get_or_past mid' i (pos 0) (omega arith)) (omega arith)
]
  where
    place : (i d : ℕ) → (i < d) ⊎ (d ≤ i)
    place i d = grind arith
