-- The sizes of the coefficients tell where a step may stop.
use Rattle.std.specs.Prelude.{◌≡◌, ◌⊎◌, ℕ, suc, ◌+◌, ◌-◌, ◌*◌, ◌^◌, ◌<◌, ◌≤◌, ℤ, pos, List, length, refl}
use Rattle.std.specs.Prelude.{◌↔◌, IsTrue, Bool, true, false, cond, nat_lt, unsigned_abs, slice_index_or, slice_set}
use Rattle.std.proofs.Common.{ap, sym, ◌∙◌, subst, arith, inl, inr}
use Rattle.std.proofs.lemmas.Bool.{cases_lt}
use Rattle.std.proofs.lemmas.List.{get_or_past, get_or-set_other, get_or-set_same}
use Rattle.linear_system.specs.StoredSystem.{StoredSystem, IsSystem, dim_of}
use Rattle.linear_system.specs.DegreeLimit.{greatest_power, least_degree}
use Rattle.taylor_step.specs.Stops.{HasSmallBack, IsStop, IsSize, HoldSizes, NoStopTo}
use Rattle.taylor_step.specs.WholeRun.{coefficient}
use Rattle.taylor_step.proofs.Tops.{greatest_le_top}

pub power_most : (s : StoredSystem) → IsSystem s → greatest_power s ≤ 11
power_most s sys = let e = greatest_le_top s s.degree in let t = sys.degree_small in omega (arith, e, t)

pub least_degree_most : (d : ℕ) → d ≤ 11 → (8 ≤ least_degree d) × ((d < least_degree d) × (least_degree d ≤ 12))
least_degree_most d h = by_test (nat_lt d 8) refl
  where
    by_test : (t : Bool) → t ≡ nat_lt d 8
        → (8 ≤ cond t 8 (suc d)) × ((d < cond t 8 (suc d)) × (cond t 8 (suc d) ≤ 12))
    by_test true e = (omega arith, (below d e, omega arith))
      where
        below : (d : ℕ) → true ≡ nat_lt d 8 → d < 8
        below d e = grind arith
    by_test false e = (above d e, (omega arith, omega arith))
      where
        above : (d : ℕ) → false ≡ nat_lt d 8 → 8 ≤ suc d
        above d e = grind arith

is_true : {b : Bool} → b ≡ true → IsTrue b
is_true e = e

not_true : {b : Bool} → b ≡ false → IsTrue b → ⊥
not_true e h = absurd (let z : false ≡ true = sym e ∙ h in cc)

module _ (s : StoredSystem) (mid : List ℤ) (k : ℕ) where
  -- the size of the newest numbers
  pub newest_size : (newest : List ℤ) (size : ℕ) → length newest ≡ dim_of s + 1
      → ((i : ℕ) → i < dim_of s → slice_index_or newest i (pos 0) ≡ coefficient s mid k i)
      → slice_index_or newest (dim_of s) (pos 0) ≡ pos 0
      → ((i : ℕ) → unsigned_abs (slice_index_or newest i (pos 0)) ≤ size)
      → ((most : ℕ) → ((i : ℕ) → unsigned_abs (slice_index_or newest i (pos 0)) ≤ most) → size ≤ most)
      → IsSize s mid k size
  newest_size newest size long new free all least = record {
    all = λ row b. rw (← new row b) (all row);
    least = λ most h. least most (λ i. each most h i (place i (dim_of s)));
  }
    where
      place : (i d : ℕ) → (i < d) ⊎ ((i ≡ d) ⊎ (d + 1 ≤ i))
      place i d = grind arith

      each : (most : ℕ) → ((row : ℕ) → row < dim_of s → unsigned_abs (coefficient s mid k row) ≤ most)
          → (i : ℕ) → (i < dim_of s) ⊎ ((i ≡ dim_of s) ⊎ (dim_of s + 1 ≤ i))
          → unsigned_abs (slice_index_or newest i (pos 0)) ≤ most
      each most h i (inl b) = rw (new i b) (h i b)
      each most h i (inr (inl e)) = rw (e, free) (omega arith)
      each most h i (inr (inr b)) = rw (get_or_past newest i (pos 0) (omega arith)) (omega arith)

  -- the sizes are small so far back just where all numbers are
  pub small_of_sizes : (sizes : List ℕ) → HoldSizes s mid sizes k → greatest_power s < k
      → ((m : ℕ) → m ≤ greatest_power s → slice_index_or sizes (k - m) 0 ≤ 64 * 8 ^ m) → HasSmallBack s mid k
  small_of_sizes sizes hold b small m row c d =
      let h = (hold (k - m) (omega (arith, b, c)) (omega arith)).all row d in
      let l = small m c in omega (arith, h, l)

  pub sizes_of_small : (sizes : List ℕ) → HoldSizes s mid sizes k → greatest_power s < k → HasSmallBack s mid k
      → (m : ℕ) → m ≤ greatest_power s → slice_index_or sizes (k - m) 0 ≤ 64 * 8 ^ m
  sizes_of_small sizes hold b small m c =
      (hold (k - m) (omega (arith, b, c)) (omega arith)).least (64 * 8 ^ m) (λ row d. small m row c d)

-- one more size
pub one_more_size : (s : StoredSystem) (mid : List ℤ) (sizes : List ℕ) (k size : ℕ) → k + 1 < length sizes
    → HoldSizes s mid sizes k → IsSize s mid (suc k) size → HoldSizes s mid (slice_set sizes (k + 1) size) (k + 1)
one_more_size s mid sizes k size room hold new j a b = elim (cases_lt j (k + 1)) [
  | inl l ↦ subst (IsSize s mid j) (sym (get_or-set_other sizes (k + 1) j size 0 (λ q. absurd (omega arith))))
      (hold j a (omega arith))
  | inr l ↦ let e : j ≡ suc k = omega arith in let f : suc k ≡ k + 1 = omega arith in
      rw e (subst (IsSize s mid (suc k)) (sym (ap (λ i. slice_index_or (slice_set sizes (k + 1) size) i 0) f
      ∙ get_or-set_same sizes (k + 1) size 0 room)) new)
]

-- where a step stops
pub stop_at : (s : StoredSystem) (mid : List ℤ) (k : ℕ) → k < 24 → least_degree (greatest_power s) ≤ suc k
    → HasSmallBack s mid (suc k) → NoStopTo s mid k → IsStop s mid (suc k)
stop_at s mid k b least small none = record {
  least = least;
  most = omega arith;
  stops = inr small;
  first = λ j l c h. none j l (omega arith) h;
}

pub stop_last : (s : StoredSystem) (mid : List ℤ) (k : ℕ) → IsSystem s → 24 ≤ k → NoStopTo s mid k → IsStop s mid 24
stop_last s mid k sys b none = record {
  least = let e = (least_degree_most (greatest_power s) (power_most s sys)).1.1 in omega (arith, e);
  most = omega arith;
  stops = inl refl;
  first = λ j l c h. none j l (omega arith) h;
}

pub no_more_stops : (s : StoredSystem) (mid : List ℤ) (k : ℕ) → NoStopTo s mid k
    → (least_degree (greatest_power s) ≤ k + 1 → HasSmallBack s mid (k + 1) → ⊥) → NoStopTo s mid (k + 1)
no_more_stops s mid k before now j l b h = elim (cases_lt j (k + 1)) [
  | inl c ↦ before j l (omega arith) h
  | inr c ↦ let e : j ≡ k + 1 = omega arith in now (omega (arith, e, l)) (subst (HasSmallBack s mid) e h)
]

-- the answer of the test, where the newest sizes stand
module _ (s : StoredSystem) (mid : List ℤ) (sizes : List ℕ) (k top : ℕ) (answer : Bool) (sys : IsSystem s)
    (is_top : top ≡ greatest_power s)
    (tells : IsTrue answer ↔ ((least_degree top ≤ k + 1)
    × ((m : ℕ) → m ≤ top → slice_index_or sizes (k + 1 - m) 0 ≤ 64 * 8 ^ m)))
    (hold : HoldSizes s mid sizes (k + 1)) where
  enough : least_degree (greatest_power s) ≤ k + 1 → greatest_power s < k + 1
  enough l = let m = least_degree_most (greatest_power s) (power_most s sys) in omega (arith, m.1.0, l)

  pub stop_where_true : k < 24 → answer ≡ true → NoStopTo s mid k → IsStop s mid (k + 1)
  stop_where_true b e none =
      let known = tells.0 (is_true e) in
      let least : least_degree (greatest_power s) ≤ k + 1 = subst (λ t. least_degree t ≤ k + 1) is_top known.0 in
      let small : (m : ℕ) → m ≤ greatest_power s → slice_index_or sizes (k + 1 - m) 0 ≤ 64 * 8 ^ m =
      subst (λ t. (m : ℕ) → m ≤ t → slice_index_or sizes (k + 1 - m) 0 ≤ 64 * 8 ^ m) is_top known.1 in
      let e : k + 1 ≡ suc k = omega arith in
      rw e (stop_at s mid k b (rw (sym e) least) (subst (HasSmallBack s mid) e
      (small_of_sizes s mid (k + 1) sizes hold (enough least) small)) none)

  pub none_where_false : answer ≡ false → NoStopTo s mid k → NoStopTo s mid (k + 1)
  none_where_false e none = no_more_stops s mid k none (λ l h. not_true e (tells.1 (
    subst (λ t. least_degree t ≤ k + 1) (sym is_top) l,
    subst (λ t. (m : ℕ) → m ≤ t → slice_index_or sizes (k + 1 - m) 0 ≤ 64 * 8 ^ m) (sym is_top)
        (sizes_of_small s mid (k + 1) sizes hold (enough l) h),
  )))

pub least_stop : (s : StoredSystem) (mid : List ℤ) (degree : ℕ) → IsSystem s → IsStop s mid degree → 8 ≤ degree
least_stop s mid degree sys stop =
    let m = least_degree_most (greatest_power s) (power_most s sys) in let l = stop.least in omega (arith, m.0, l)
