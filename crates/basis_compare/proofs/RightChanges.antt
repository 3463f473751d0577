-- The change between two printed reserves is right: its ends hold the exact change, and its turn says the order.
use Rattle.std.proofs.Common.{◌≡◌, ℕ, ◌+◌, ◌*◌, ◌/◌, ◌%◌, ◌^◌, ◌≤◌, ℤ, pos, ◌+ℤ◌, ◌-ℤ◌, ◌≤ℤ◌, ◌<ℤ◌}
use Rattle.std.proofs.Common.{Bool, true, false, cond, [], ◌∷◌, refl, ap, sym, subst, ◌∙◌, arith}
use Rattle.std.specs.Prelude.{int_lt}
use Rattle.std.proofs.lemmas.Int.{ints}
use Rattle.frac_laws.specs.Fraction.{Fraction, whole, size, ◌+ℚ◌, ◌*ℚ◌, ◌-ℚ◌, ◌≤ℚ◌, ◌<ℚ◌}
use Rattle.frac_laws.proofs.Linear.{linear, claims, natural, ◌⊞◌, ◌⊠◌}
use Rattle.frac_laws.proofs.Order.{le_trans, lt_of_not_le, not_le_of_lt}
use Rattle.frac_laws.proofs.Quotients.{whole_add, whole_sub, whole_le, whole_lt}
use Rattle.frac_laws.proofs.Sizes.{size_le, size_mul_natural}
use Rattle.fixed_interval.specs.Printing.{LiesBetween}
use Rattle.fixed_interval.specs.Tables.{AreEndsFor}
use Rattle.model_specs.specs.Product.{Product}
use Rattle.basis_compare.specs.declared.change_rows.Part.{Part}
use Rattle.basis_compare.specs.declared.change_rows.Change.{Change}
use Rattle.basis_compare.specs.declared.change_rows.Turn.{Turn}
use Rattle.basis_compare.specs.declared.change_rows.Turn.TheVariants.{Above, Below, Open}
use Rattle.basis_compare.specs.declared.differences.PrintedReserve.{PrintedReserve}
use Rattle.basis_compare.specs.Bases.{hybrid_of}
use Rattle.basis_compare.specs.Changes.{before, after, reserve_of, reserve_tolerance}
use Rattle.basis_compare.specs.Changes.{turn_of, Says, IsChange}
use Rattle.basis_compare.specs.Differences.{change_between}

-- ---- ends

-- the least difference is at most the exact one
least_difference : (x y : Fraction) (most least : ℤ) → whole (pos (10 ^ 6)) *ℚ x ≤ℚ whole most
    → whole least ≤ℚ whole (pos (10 ^ 6)) *ℚ y → whole (least -ℤ most) ≤ℚ whole (pos (10 ^ 6)) *ℚ (y -ℚ x)
least_difference x y most least at_most at_least =
    subst (λ low. low ≤ℚ whole (pos (10 ^ 6)) *ℚ (y -ℚ x)) (sym (whole_sub least most))
    (linear (x ∷ y ∷ whole most ∷ whole least ∷ []) (at_most ⊞ at_least) (hlevel claims) refl)

-- and the greatest one at least that
greatest_difference : (x y : Fraction) (least most : ℤ) → whole least ≤ℚ whole (pos (10 ^ 6)) *ℚ x
    → whole (pos (10 ^ 6)) *ℚ y ≤ℚ whole most → whole (pos (10 ^ 6)) *ℚ (y -ℚ x) ≤ℚ whole (most -ℤ least)
greatest_difference x y least most at_least at_most =
    subst (λ high. whole (pos (10 ^ 6)) *ℚ (y -ℚ x) ≤ℚ high) (sym (whole_sub most least))
    (linear (x ∷ y ∷ whole least ∷ whole most ∷ []) (at_least ⊞ at_most) (hlevel claims) refl)

-- both widths together
widths : (from_lo from_hi to_lo to_hi : ℤ) (from to : ℕ) → from_hi ≤ℤ (from_lo +ℤ pos from)
    → to_hi ≤ℤ (to_lo +ℤ pos to) → (to_hi -ℤ from_lo) ≤ℤ ((to_lo -ℤ from_hi) +ℤ pos (from + to))
widths from_lo from_hi to_lo to_hi from to h k = omega (arith, ints)

-- ---- turns

pub above_is_above : (lo : ℤ) (x : Fraction) → int_lt (pos 0) lo ≡ true → whole lo ≤ℚ whole (pos (10 ^ 6)) *ℚ x
    → whole (pos 0) <ℚ x
above_is_above lo x test at_least =
    let above : pos 0 <ℤ lo = grind (arith, ints) in
    lt_of_not_le (λ (h : x ≤ℚ whole (pos 0)). not_le_of_lt (whole_lt above)
    (le_trans at_least (linear (x ∷ []) (natural (10 ^ 6) 1 ⊠ h) (hlevel claims) refl)))

pub below_is_below : (hi : ℤ) (x : Fraction) → int_lt hi (pos 0) ≡ true → whole (pos (10 ^ 6)) *ℚ x ≤ℚ whole hi
    → x <ℚ whole (pos 0)
below_is_below hi x test at_most =
    let below : hi <ℤ pos 0 = grind (arith, ints) in
    lt_of_not_le (λ (h : whole (pos 0) ≤ℚ x). not_le_of_lt (whole_lt below)
    (le_trans (linear (x ∷ []) (natural (10 ^ 6) 1 ⊠ h) (hlevel claims) refl) at_most))

-- a number between ends on both sides of 0 is no larger than these lie apart
pub open_is_small : (lo hi : ℤ) (tolerance : ℕ) (x : Fraction) → lo ≤ℤ pos 0 → pos 0 ≤ℤ hi
    → hi ≤ℤ (lo +ℤ pos tolerance) → LiesBetween (record { lo = lo; hi = hi }) x
    → whole (pos (10 ^ 6)) *ℚ size x ≤ℚ whole (pos tolerance)
open_is_small lo hi tolerance x under over narrow between =
    let up : whole hi ≤ℚ whole (pos tolerance) = whole_le (high lo hi tolerance under narrow) in
    let down : whole (pos 0) ≤ℚ whole (lo +ℤ pos tolerance) = whole_le (low lo hi tolerance over narrow) in
    let plain : whole (pos 0) ≤ℚ whole lo +ℚ whole (pos tolerance) =
    subst (λ sum. whole (pos 0) ≤ℚ sum) (whole_add lo (pos tolerance)) down in
    subst (λ product. product ≤ℚ whole (pos tolerance)) (size_mul_natural x (natural (10 ^ 6) 1))
    (size_le (le_trans between.at_most up)
    (linear (x ∷ whole lo ∷ whole (pos tolerance) ∷ []) (plain ⊞ between.at_least) (hlevel claims) refl))
  where
    high : (lo hi : ℤ) (tolerance : ℕ) → lo ≤ℤ pos 0 → hi ≤ℤ (lo +ℤ pos tolerance) → hi ≤ℤ pos tolerance
    high lo hi tolerance under narrow = omega (arith, ints)

    low : (lo hi : ℤ) (tolerance : ℕ) → pos 0 ≤ℤ hi → hi ≤ℤ (lo +ℤ pos tolerance) → pos 0 ≤ℤ (lo +ℤ pos tolerance)
    low lo hi tolerance over narrow = omega (arith, ints)

-- what the test of an order says
is_at_least : (a b : ℤ) → int_lt a b ≡ false → b ≤ℤ a
is_at_least a b test = grind (arith, ints)

says_by_tests : (lo hi : ℤ) (tolerance : ℕ) (x : Fraction) (t u : Bool) → int_lt (pos 0) lo ≡ t
    → int_lt hi (pos 0) ≡ u → hi ≤ℤ (lo +ℤ pos tolerance) → LiesBetween (record { lo = lo; hi = hi }) x
    → Says (cond t Above (cond u Below Open)) tolerance x
says_by_tests lo hi tolerance x true u above other narrow between =
    above_is_above lo x above between.at_least
says_by_tests lo hi tolerance x false true other below narrow between =
    below_is_below hi x below between.at_most
says_by_tests lo hi tolerance x false false under over narrow between =
    open_is_small lo hi tolerance x (is_at_least (pos 0) lo under) (is_at_least hi (pos 0) over) narrow between

pub turn_says : (lo hi : ℤ) (tolerance : ℕ) (x : Fraction) → hi ≤ℤ (lo +ℤ pos tolerance)
    → LiesBetween (record { lo = lo; hi = hi }) x → Says (turn_of lo hi) tolerance x
turn_says lo hi tolerance x narrow between =
    says_by_tests lo hi tolerance x (int_lt (pos 0) lo) (int_lt hi (pos 0)) refl refl narrow between

-- ---- the change of a reserve

-- the reserve at a place, by date and then by state, with the ends that hold it from a degree on
pub record IsPrintedAt (product : Product) (degree states every place : ℕ) (r : PrintedReserve) : Type 0 where
  pub month : r.month ≡ place / states * every
  pub state : r.state ≡ place % states
  pub ends : AreEndsFor degree (λ n. reserve_of product n r.month r.state) r.tol (record { lo = r.lo; hi = r.hi })
  pub tolerance_is : r.tol ≡ reserve_tolerance product r.month

-- two reserves at one place are of the same date and state
ends_at_same : (product : Product) (degree states every place : ℕ) (from to : PrintedReserve) (X : Type 0)
    → IsPrintedAt product degree states every place to → from.month ≡ place / states * every
    → from.state ≡ place % states
    → (AreEndsFor degree (λ n. reserve_of product n from.month from.state) to.tol (record { lo = to.lo; hi = to.hi })
    → to.tol ≡ reserve_tolerance product from.month → X) → X
ends_at_same product degree states every place from to X at month state use_of =
    let ends_for : ℕ → ℕ → Type 0 = λ m s. AreEndsFor degree (λ n. reserve_of product n m s) to.tol
    (record { lo = to.lo; hi = to.hi }) in
    use_of
    (subst (λ m. ends_for m from.state) (at.month ∙ sym month)
    (subst (λ s. ends_for to.month s) (at.state ∙ sym state) at.ends))
    (at.tolerance_is ∙ ap (reserve_tolerance product) (at.month ∙ sym month))

pub change_is_right : (a b : Product) (part : Part) (degree states every place : ℕ) (from to : PrintedReserve)
    → IsPrintedAt (before part a (hybrid_of a b) b) degree states every place from
    → IsPrintedAt (after part a (hybrid_of a b) b) degree states every place to
    → IsChange a b degree (change_between part from to)
change_is_right a b part degree states every place from to at_from at_to =
    ends_at_same (after part a (hybrid_of a b) b) degree states every place from to
    (IsChange a b degree (change_between part from to)) at_to at_from.month at_from.state
    (λ ends tolerance_is.
    let x : ℕ → Fraction = λ n. reserve_of (before part a (hybrid_of a b) b) n from.month from.state in
    let y : ℕ → Fraction = λ n. reserve_of (after part a (hybrid_of a b) b) n from.month from.state in
    let narrow = widths from.lo from.hi to.lo to.hi from.tol to.tol at_from.ends.narrow ends.narrow in
    let between : (n : ℕ) → degree ≤ n
    → LiesBetween (record { lo = to.lo -ℤ from.hi; hi = to.hi -ℤ from.lo }) (y n -ℚ x n) = λ n reached. record {
      at_least = least_difference (x n) (y n) from.hi to.lo (at_from.ends.holds n reached).at_most
          (ends.holds n reached).at_least;
      at_most = greatest_difference (x n) (y n) from.lo to.hi (at_from.ends.holds n reached).at_least
          (ends.holds n reached).at_most;
    } in
    record {
      holds = between;
      narrow = narrow;
      tolerance_is = ap (λ t. t + to.tol) at_from.tolerance_is
          ∙ ap (λ t. reserve_tolerance (before part a (hybrid_of a b) b) from.month + t) tolerance_is;
      turn_is = refl;
      order = λ n reached. turn_says (to.lo -ℤ from.hi) (to.hi -ℤ from.lo) (from.tol + to.tol) (y n -ℚ x n) narrow
          (between n reached);
    })

-- ---- a row by its parts

-- a row of the date and state of a reserve
abbrev pub row_with : Part → PrintedReserve → (lo hi : ℤ) → (tol : ℕ) → Turn → Change
row_with part from lo hi tol turn = record {
  month = from.month;
  state = from.state;
  part = part;
  lo = lo;
  hi = hi;
  tol = tol;
  turn = turn;
}

pub row_of_parts : (part : Part) (from to : PrintedReserve) (lo hi low high : ℤ) (turn : Turn)
    → lo ≡ to.lo -ℤ from.hi → hi ≡ to.hi -ℤ from.lo → low ≡ to.lo -ℤ from.hi → high ≡ to.hi -ℤ from.lo
    → turn ≡ turn_of low high
    → row_with part from lo hi (from.tol + to.tol) turn ≡ change_between part from to
row_of_parts part from to lo hi low high turn lo_is hi_is low_is high_is turn_is =
    ap (λ x. row_with part from x hi (from.tol + to.tol) turn) lo_is
    ∙ ap (λ x. row_with part from (to.lo -ℤ from.hi) x (from.tol + to.tol) turn) hi_is
    ∙ ap (row_with part from (to.lo -ℤ from.hi) (to.hi -ℤ from.lo) (from.tol + to.tol))
    (turn_is ∙ ap (λ x. turn_of x high) low_is ∙ ap (turn_of (to.lo -ℤ from.hi)) high_is)
