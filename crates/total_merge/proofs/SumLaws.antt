-- What holds of sums over entries, one by one.
use Rattle.std.proofs.Common.{ℕ, ◌+◌, ◌*◌, ◌^◌, ◌<◌, ◌≤◌, ℤ, pos, ◌+ℤ◌, ◌≤ℤ◌, Bool, true, false, cond}
use Rattle.std.proofs.Common.{List, [], ◌∷◌, length, map, fold, refl, sym, subst, arith}
use Rattle.std.specs.Prelude.{All, unsigned_abs, if◌then◌else◌}
use Rattle.std.proofs.lemmas.Int.{ints}
use Rattle.std.proofs.lemmas.List.Elements.{All-head, All-tail}
use Rattle.frac_laws.specs.Fraction.{Fraction, whole, ◌+ℚ◌, ◌*ℚ◌, ◌≤ℚ◌}
use Rattle.frac_laws.proofs.Linear.{linear, claims, natural, ◌⊞◌}
use Rattle.frac_laws.proofs.Quotients.{whole_add}
use Rattle.fixed_interval.specs.Printing.{LiesBetween}
use Rattle.whole_laws.proofs.Numbers.{size_of_sum}
use Rattle.portfolio_run.specs.declared.totals.Total.{Total}
use Rattle.portfolio_run.specs.Stored.{most_bytes}
use Rattle.portfolio_run.specs.TotalsText.{HasTotalEnds}
use Rattle.total_merge.specs.Entries.{AreWithin, Entry, IsInRange, IsNarrow}
use Rattle.total_merge.specs.Laws.{Held, IsHeld, SumsAreHeld, SumsAreNarrow}
use Rattle.total_merge.specs.Sums.{hi_of, is_of, lo_of, name_of, tol_of, whole_where, HasRoom, HasSums}

-- ---- intervals hold the sums

lower : (lo l : ℤ) (x y : Fraction) → whole lo ≤ℚ whole (pos (10 ^ 6)) *ℚ x → whole l ≤ℚ whole (pos (10 ^ 6)) *ℚ y
    → whole (lo +ℤ l) ≤ℚ whole (pos (10 ^ 6)) *ℚ (x +ℚ y)
lower lo l x y below_x below_y =
    subst (λ w. w ≤ℚ whole (pos (10 ^ 6)) *ℚ (x +ℚ y)) (sym (whole_add lo l))
    (linear (whole lo ∷ whole l ∷ x ∷ y ∷ []) (below_x ⊞ below_y) (hlevel claims) refl)

upper : (hi h : ℤ) (x y : Fraction) → whole (pos (10 ^ 6)) *ℚ x ≤ℚ whole hi → whole (pos (10 ^ 6)) *ℚ y ≤ℚ whole h
    → whole (pos (10 ^ 6)) *ℚ (x +ℚ y) ≤ℚ whole (hi +ℤ h)
upper hi h x y above_x above_y =
    subst (λ w. whole (pos (10 ^ 6)) *ℚ (x +ℚ y) ≤ℚ w) (sym (whole_add hi h))
    (linear (whole hi ∷ whole h ∷ x ∷ y ∷ []) (above_x ⊞ above_y) (hlevel claims) refl)

-- one entry more, of the group or not
hold_more : (b : Bool) (lo hi l h : ℤ) (x y : Fraction) → LiesBetween (record { lo = lo; hi = hi }) x
    → LiesBetween (record { lo = l; hi = h }) y
    → LiesBetween (record { lo = cond b (lo +ℤ l) lo; hi = cond b (hi +ℤ h) hi }) (cond b (x +ℚ y) x)
hold_more true lo hi l h x y lies more = record {
  at_least = lower lo l x y lies.at_least more.at_least;
  at_most = upper hi h x y lies.at_most more.at_most;
}
hold_more false lo hi l h x y lies more = lies

hold_from : (name : List ℕ) (held : List Held) (lo hi : ℤ) (x : Fraction)
    → LiesBetween (record { lo = lo; hi = hi }) x → All IsHeld held
    → LiesBetween (record {
      lo = fold (λ sum entry. if is_of name entry then sum +ℤ entry.lo else sum) lo (map (λ h. h.entry) held);
      hi = fold (λ sum entry. if is_of name entry then sum +ℤ entry.hi else sum) hi (map (λ h. h.entry) held);
    })
    (fold (λ total h. if is_of name h.entry then total +ℚ h.value else total) x held)
hold_from name [] lo hi x lies all = lies
hold_from name (h ∷ held) lo hi x lies all =
    hold_from name held _ _ _
    (hold_more (is_of name h.entry) lo hi h.entry.lo h.entry.hi x h.value lies (All-head IsHeld h held all))
    (All-tail IsHeld h held all)

-- where each interval holds a number, that of a group holds their sum
pub sums_are_held : SumsAreHeld
sums_are_held held all name =
    hold_from name held (pos 0) (pos 0) (whole (pos 0)) (record {
      at_least = linear [] (natural 0 1) (hlevel claims) refl;
      at_most = linear [] (natural 0 1) (hlevel claims) refl;
    }) all

-- ---- widths

narrow_more : (b : Bool) (lo hi l h : ℤ) (tol t : ℕ) → hi ≤ℤ (lo +ℤ pos tol) → h ≤ℤ (l +ℤ pos t)
    → cond b (hi +ℤ h) hi ≤ℤ (cond b (lo +ℤ l) lo +ℤ pos (cond b (tol + t) tol))
narrow_more true lo hi l h tol t narrow more = omega (arith, ints, narrow, more)
narrow_more false lo hi l h tol t narrow more = narrow

narrow_from : (name : List ℕ) (entries : List Entry) (lo hi : ℤ) (tol : ℕ) → hi ≤ℤ (lo +ℤ pos tol)
    → All IsNarrow entries
    → fold (λ sum entry. if is_of name entry then sum +ℤ entry.hi else sum) hi entries
    ≤ℤ (fold (λ sum entry. if is_of name entry then sum +ℤ entry.lo else sum) lo entries
    +ℤ pos (fold (λ total entry. if is_of name entry then total + entry.tol else total) tol entries))
narrow_from name [] lo hi tol narrow all = narrow
narrow_from name (e ∷ entries) lo hi tol narrow all =
    narrow_from name entries _ _ _
    (narrow_more (is_of name e) lo hi e.lo e.hi tol e.tol narrow (All-head IsNarrow e entries all))
    (All-tail IsNarrow e entries all)

-- where no entry is wider than its tolerance, no group is
pub sums_are_narrow : SumsAreNarrow
sums_are_narrow entries all name = narrow_from name entries (pos 0) (pos 0) 0 (omega (arith, ints)) all

-- so no total is
pub total_is_narrow : (entries : List Entry) (total : Total) → All IsNarrow entries → HasSums entries total
    → AreWithin total.lo total.hi total.tol
total_is_narrow entries total all has =
    rw (has.lo_is, has.hi_is, has.tol_is) (sums_are_narrow entries all (name_of total))

-- ---- order

ordered_more : (b : Bool) (lo hi l h : ℤ) → lo ≤ℤ hi → l ≤ℤ h → cond b (lo +ℤ l) lo ≤ℤ cond b (hi +ℤ h) hi
ordered_more true lo hi l h ordered more = omega (arith, ints, ordered, more)
ordered_more false lo hi l h ordered more = ordered

ordered_from : (name : List ℕ) (entries : List Entry) (lo hi : ℤ) → lo ≤ℤ hi → All IsInRange entries
    → fold (λ sum entry. if is_of name entry then sum +ℤ entry.lo else sum) lo entries
    ≤ℤ fold (λ sum entry. if is_of name entry then sum +ℤ entry.hi else sum) hi entries
ordered_from name [] lo hi ordered all = ordered
ordered_from name (e ∷ entries) lo hi ordered all =
    ordered_from name entries _ _
    (ordered_more (is_of name e) lo hi e.lo e.hi ordered (All-head IsInRange e entries all).ordered)
    (All-tail IsInRange e entries all)

-- the ends of a group stand in their order
pub sums_are_ordered : (name : List ℕ) (entries : List Entry) → All IsInRange entries
    → lo_of name entries ≤ℤ hi_of name entries
sums_are_ordered name entries all = ordered_from name entries (pos 0) (pos 0) (omega (arith, ints)) all

-- ---- sizes

size_more : (b : Bool) (sum number : ℤ) (k : ℕ) → unsigned_abs sum ≤ k * 10 ^ 24 → unsigned_abs number < 10 ^ 24
    → unsigned_abs (cond b (sum +ℤ number) sum) ≤ (k + 1) * 10 ^ 24
size_more true sum number k so_far more = omega (arith, size_of_sum sum number, so_far, more)
size_more false sum number k so_far more = omega (arith, so_far)

size_from : (belongs : Entry → Bool) (number : Entry → ℤ) (entries : List Entry) (sum : ℤ) (k : ℕ)
    → unsigned_abs sum ≤ k * 10 ^ 24 → All (λ entry. unsigned_abs (number entry) < 10 ^ 24) entries
    → unsigned_abs (fold (λ total entry. if belongs entry then total +ℤ number entry else total) sum entries)
    ≤ (k + length entries) * 10 ^ 24
size_from belongs number [] sum k so_far all = omega (arith, so_far)
size_from belongs number (e ∷ entries) sum k so_far all =
    let rest = size_from belongs number entries (cond (belongs e) (sum +ℤ number e) sum) (k + 1)
    (size_more (belongs e) sum (number e) k so_far (all 0 e (omega arith)))
    (All-tail (λ entry. unsigned_abs (number entry) < 10 ^ 24) e entries all) in
    omega (arith, rest)

-- a sum over entries is at most so large for each of them
pub whole_is_small : (belongs : Entry → Bool) (number : Entry → ℤ) (entries : List Entry)
    → All (λ entry. unsigned_abs (number entry) < 10 ^ 24) entries
    → unsigned_abs (whole_where belongs number entries) ≤ length entries * 10 ^ 24
whole_is_small belongs number entries all =
    let whole = size_from belongs number entries (pos 0) 0 (omega arith) all in omega (arith, whole)

tol_more : (b : Bool) (total t k : ℕ) → total ≤ k * 10 ^ 24 → t < 10 ^ 24 → cond b (total + t) total ≤ (k + 1) * 10 ^ 24
tol_more true total t k so_far more = omega (arith, so_far, more)
tol_more false total t k so_far more = omega (arith, so_far)

tol_from : (name : List ℕ) (entries : List Entry) (total k : ℕ) → total ≤ k * 10 ^ 24 → All IsInRange entries
    → fold (λ sum entry. if is_of name entry then sum + entry.tol else sum) total entries
    ≤ (k + length entries) * 10 ^ 24
tol_from name [] total k so_far all = omega (arith, so_far)
tol_from name (e ∷ entries) total k so_far all =
    let rest = tol_from name entries (cond (is_of name e) (total + e.tol) total) (k + 1)
    (tol_more (is_of name e) total e.tol k so_far (All-head IsInRange e entries all).tol)
    (All-tail IsInRange e entries all) in
    omega (arith, rest)

-- so is a sum of tolerances
pub tol_is_small : (name : List ℕ) (entries : List Entry) → All IsInRange entries
    → tol_of name entries ≤ length entries * 10 ^ 24
tol_is_small name entries all = let whole = tol_from name entries 0 0 (omega arith) all in omega (arith, whole)

-- a total of so few entries has room for one more
pub sums_have_room : (entries : List Entry) (total : Total) → All IsInRange entries → length entries ≤ most_bytes
    → HasSums entries total → HasRoom total
sums_have_room entries total all few has =
    let name = name_of total in
    let lo = whole_is_small (is_of name) (λ entry. entry.lo) entries (λ k d within. (all k d within).lo) in
    let hi = whole_is_small (is_of name) (λ entry. entry.hi) entries (λ k d within. (all k d within).hi) in
    let tol = tol_is_small name entries all in
    record {
      lo = rw has.lo_is (omega (arith, lo, few));
      hi = rw has.hi_is (omega (arith, hi, few));
      tol = rw has.tol_is (omega (arith, tol, few));
    }

-- and a text
pub sums_have_ends : (entries : List Entry) (total : Total) → All IsInRange entries → length entries ≤ most_bytes
    → HasSums entries total → HasTotalEnds total
sums_have_ends entries total all few has =
    let room = sums_have_room entries total all few has in
    record {
      ordered = rw (has.lo_is, has.hi_is) (sums_are_ordered (name_of total) entries all);
      lo = omega (arith, room.lo);
      hi = omega (arith, room.hi);
    }
