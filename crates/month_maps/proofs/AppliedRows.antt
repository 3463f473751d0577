-- A row's products as a total over its places.
use Rattle.std.proofs.Common.{◌≡◌, ℕ, suc, zero, ◌+◌, ◌*◌, ◌^◌, ◌<◌, ◌≤◌, ℤ, pos, ◌+ℤ◌, List, [], ◌∷◌, length, take}
use Rattle.std.proofs.Common.{drop}
use Rattle.std.proofs.Common.{refl, sym, ap, subst, ◌∙◌, arith, get_or}
use mathlib.Core.Path.{ap₂}
use Rattle.std.proofs.lemmas.Int.{ints}
use Rattle.std.proofs.lemmas.List.{get_or-take, get_or-drop}
use Rattle.fixed_interval.specs.declared.interval.Interval.{Interval}
use Rattle.fixed_interval.specs.Intervals.{HasEndsUpTo}
use Rattle.fixed_interval.specs.Products.{low_end, high_end}
use Rattle.fixed_interval.specs.Rows.{low_ends, high_ends}
use Rattle.map_laws.specs.Maps.{total}
use Rattle.std.proofs.Common.{◌≢◌, set, length-take, length-drop, get_or-set_other, get_or-set_same, below_more}
use Rattle.std.proofs.Math.Nat.{mul-le-mul_right}
use Rattle.frac_laws.specs.Rounding.{floor_of}
use Rattle.map_laws.specs.Applied.{lo_at, hi_at, IsApplied}
use Rattle.month_maps.specs.StoredMap.{interval_at, interval_map, zero_interval, HaveEndsUpTo}
use Rattle.month_maps.proofs.RowProducts.{inside}

total-first : (n : ℕ) (f : ℕ → ℤ) → total (suc n) f ≡ f 0 +ℤ total n (λ k. f (suc k))
total-first zero f = zeros (f 0)
  where
    zeros : (z : ℤ) → pos 0 +ℤ z ≡ z +ℤ pos 0
    zeros z = omega (arith, ints)
total-first (suc n) f = ap (λ z. z +ℤ f (suc n)) (total-first n f) ∙ regroup (f 0) (total n (λ k. f (suc k)))
    (f (suc n))
  where
    regroup : (a b c : ℤ) → (a +ℤ b) +ℤ c ≡ a +ℤ (b +ℤ c)
    regroup a b c = omega (arith, ints)

pub total-below : (n : ℕ) (f g : ℕ → ℤ) → ((l : ℕ) → l < n → f l ≡ g l) → total n f ≡ total n g
total-below zero f g h = refl
total-below (suc n) f g h = ap₂ ◌+ℤ◌ (total-below n f g (λ l b. h l (omega arith))) (h n (omega arith))

pub low_ends-total : (row : List Interval) (mid : List ℤ) → length mid ≡ length row
    → low_ends row mid ≡ total (length row) (λ l. low_end (get_or mid l (pos 0)) (interval_at row l))
low_ends-total [] mid h = refl
low_ends-total (a ∷ row) [] h = absurd (omega arith)
low_ends-total (a ∷ row) (m ∷ mid) h =
    ap (λ z. low_end m a +ℤ z) (low_ends-total row mid (omega arith))
    ∙ sym (total-first (length row) (λ l. low_end (get_or (m ∷ mid) l (pos 0)) (interval_at (a ∷ row) l)))

pub high_ends-total : (row : List Interval) (mid : List ℤ) → length mid ≡ length row
    → high_ends row mid ≡ total (length row) (λ l. high_end (get_or mid l (pos 0)) (interval_at row l))
high_ends-total [] mid h = refl
high_ends-total (a ∷ row) [] h = absurd (omega arith)
high_ends-total (a ∷ row) (m ∷ mid) h =
    ap (λ z. high_end m a +ℤ z) (high_ends-total row mid (omega arith))
    ∙ sym (total-first (length row) (λ l. high_end (get_or (m ∷ mid) l (pos 0)) (interval_at (a ∷ row) l)))

-- a row of a longer list
pub row-read : (numbers : List Interval) (from dim l : ℕ) (d : Interval) → l < dim
    → get_or (take dim (drop from numbers)) l d ≡ get_or numbers (from + l) d
row-read numbers from dim l d h = get_or-take dim (drop from numbers) l d h ∙ get_or-drop from numbers l d

weaker : (a : Interval) → HasEndsUpTo (2 ^ 65) a → HasEndsUpTo (2 ^ 66) a
weaker a small = record { lo = omega (arith, small.lo); hi = omega (arith, small.hi) }

pub row_is_within : (numbers : List Interval) (from dim : ℕ) → HaveEndsUpTo (2 ^ 65) numbers
    → from + dim ≤ length numbers → (k : ℕ) (d : Interval) → k < dim
    → HasEndsUpTo (2 ^ 66) (get_or (take dim (drop from numbers)) k d)
row_is_within numbers from dim small long k d h =
    let P : Interval → Type 0 = λ a. HasEndsUpTo (2 ^ 66) a in
    let there : from + k < length numbers = omega arith in
    subst P (sym (row-read numbers from dim k d h ∙ inside numbers (from + k) d zero_interval there))
    (weaker _ (small (from + k)))

row-length : (numbers : List Interval) (row dim : ℕ) → length numbers ≡ dim * dim → row < dim
    → length (take dim (drop (row * dim) numbers)) ≡ dim
row-length numbers row dim whole r =
    let rows : (row + 1) * dim ≤ dim * dim = mul-le-mul_right dim (omega arith) in
    omega (arith, rows, length-take {A = Interval}, length-drop {A = Interval})

low_at : (numbers : List Interval) (old : List ℤ) (row dim : ℕ) → length numbers ≡ dim * dim → length old ≡ dim
    → row < dim → low_ends (take dim (drop (row * dim) numbers)) old
    ≡ total dim (λ col. low_end (get_or old col (pos 0)) (interval_at numbers (row * dim + col)))
low_at numbers old row dim whole lengths r =
    let slice = take dim (drop (row * dim) numbers) in
    let count = row-length numbers row dim whole r in
    low_ends-total slice old (lengths ∙ sym count)
    ∙ ap (λ n. total n (λ l. low_end (get_or old l (pos 0)) (interval_at slice l))) count
    ∙ total-below dim _ _ (λ l b. ap (λ a. low_end (get_or old l (pos 0)) a)
    (row-read numbers (row * dim) dim l zero_interval b))

high_at : (numbers : List Interval) (old : List ℤ) (row dim : ℕ) → length numbers ≡ dim * dim → length old ≡ dim
    → row < dim → high_ends (take dim (drop (row * dim) numbers)) old
    ≡ total dim (λ col. high_end (get_or old col (pos 0)) (interval_at numbers (row * dim + col)))
high_at numbers old row dim whole lengths r =
    let slice = take dim (drop (row * dim) numbers) in
    let count = row-length numbers row dim whole r in
    high_ends-total slice old (lengths ∙ sym count)
    ∙ ap (λ n. total n (λ l. high_end (get_or old l (pos 0)) (interval_at slice l))) count
    ∙ total-below dim _ _ (λ l b. ap (λ a. high_end (get_or old l (pos 0)) a)
    (row-read numbers (row * dim) dim l zero_interval b))

-- the middle of a row's value
pub middle_is : (numbers free : List Interval) (old : List ℤ) (row dim : ℕ) (start : Interval) (middle : ℤ)
    → length numbers ≡ dim * dim → length old ≡ dim → row < dim → start ≡ interval_at free row
    → middle ≡ floor_of ((start.lo +ℤ low_ends (take dim (drop (row * dim) numbers)) old)
    +ℤ (start.hi +ℤ high_ends (take dim (drop (row * dim) numbers)) old)) (pos 2)
    → middle ≡ floor_of (lo_at dim (interval_map dim numbers free) (λ col. get_or old col (pos 0)) row
    +ℤ hi_at dim (interval_map dim numbers free) (λ col. get_or old col (pos 0)) row) (pos 2)
middle_is numbers free old row dim start middle whole lengths r start_is h =
    h ∙ ap (λ z. floor_of z (pos 2))
    (ap₂ ◌+ℤ◌ (ap₂ ◌+ℤ◌ (ap (λ s. s.lo) start_is) (low_at numbers old row dim whole lengths r))
    (ap₂ ◌+ℤ◌ (ap (λ s. s.hi) start_is) (high_at numbers old row dim whole lengths r)))

-- one more number is written
pub numbers_more : (next : List ℤ) (n : ℕ) (z : ℤ) (value : ℕ → ℤ)
    → ((row : ℕ) → row < n → get_or next row (pos 0) ≡ value row) → n < length next → z ≡ value n
    → (row : ℕ) → row < n + 1 → get_or (set next n z) row (pos 0) ≡ value row
numbers_more next n z value so_far in_range is =
    below_more (λ row. get_or (set next n z) row (pos 0) ≡ value row) n
    (λ row h. let ne : row ≢ n = omega arith in get_or-set_other next n row z (pos 0) ne ∙ so_far row h)
    (get_or-set_same next n z (pos 0) in_range ∙ is)

-- the middles of all rows, where the lists are read under other names
pub applied_by : (d : ℕ) (numbers numbers2 free free2 : List Interval) (old old2 new : List ℤ) → numbers2 ≡ numbers
    → free2 ≡ free → old2 ≡ old
    → ((row : ℕ) → row < d → get_or new row (pos 0)
    ≡ floor_of (lo_at d (interval_map d numbers2 free2) (λ col. get_or old2 col (pos 0)) row
    +ℤ hi_at d (interval_map d numbers2 free2) (λ col. get_or old2 col (pos 0)) row) (pos 2))
    → IsApplied d (interval_map d numbers free) (λ col. get_or old col (pos 0)) (λ row. get_or new row (pos 0))
applied_by d numbers numbers2 free free2 old old2 new e f g rows =
    let P : List Interval → Type 0 = λ xs.
    IsApplied d (interval_map d xs free) (λ col. get_or old col (pos 0)) (λ row. get_or new row (pos 0)) in
    let Q : List Interval → Type 0 = λ xs.
    IsApplied d (interval_map d numbers2 xs) (λ col. get_or old col (pos 0)) (λ row. get_or new row (pos 0)) in
    let R : List ℤ → Type 0 = λ xs.
    IsApplied d (interval_map d numbers2 free2) (λ col. get_or xs col (pos 0)) (λ row. get_or new row (pos 0)) in
    subst P e (subst Q f (subst R g (record { middle = rows })))
