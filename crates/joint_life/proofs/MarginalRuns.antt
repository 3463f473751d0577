-- The marginals of the joint run are the single lives' runs.
use Rattle.std.proofs.Common.{◌≡◌, ℕ, zero, suc, ◌+◌, ◌*◌, ◌<◌, ◌≤◌, [], ◌∷◌, length, arith, refl, ap, sym, ◌∙◌}
use Rattle.std.specs.Prelude.{Bool, true, false, pos, ◌==◌, ◌&&◌, if◌then◌else◌}
use Rattle.frac_laws.specs.Fraction.{Fraction, whole, ◌+ℚ◌}
use Rattle.frac_laws.specs.Lists.{Vector, number_at}
use Rattle.frac_laws.specs.Sums.{sum_to}
use Rattle.frac_laws.proofs.FractionTerms.{ring, terms}
use Rattle.frac_laws.proofs.Sums.{sum_to_ext, sum_to_split, sum_to_exchange}
use Rattle.cell_laws.specs.Systems.{System, coefficient, taylor_value}
use Rattle.cell_laws.proofs.Recurrences.{taylor_value_sums}
use Rattle.model_specs.specs.Product.{Product}
use Rattle.model_specs.specs.Payments.{payment_plan}
use Rattle.model_specs.specs.Cells.{CellCurves, Forward, cells_of_32, cell_curves}
use Rattle.model_specs.specs.Systems.{intensity_at, kolmogorov_system, where_same}
use Rattle.model_specs.specs.Runs.{probabilities, month_forward}
use Rattle.model_specs.specs.RecordRules.{IsWellFormed}
use Rattle.model_laws.specs.Equations.{SolvesKolmogorov}
use Rattle.model_laws.proofs.CellEquations.{kolmogorov_system_solves}
use Rattle.model_laws.proofs.CellShapes.{cells_are_quintic}
use Rattle.whole_laws.proofs.ListsByPlace.{at-list_of}
use Rattle.joint_life.specs.Joining.{CanJoin}
use Rattle.joint_life.specs.JointRecord.{pair_of, joint_of}
use Rattle.joint_life.specs.Laws.{MarginalsAreSingleLives}
use Rattle.joint_life.proofs.CarriedFlows.{carried_sums, sum_same}
use Rattle.joint_life.proofs.JointIntensities.{joint_intensity, by_parts}
use Rattle.joint_life.proofs.PairIndices.{pair_inside, state_count}
use Rattle.joint_life.proofs.Records.{joint_records_are_well_formed}

-- a sum over pairs, row by row
sum_of_rows : (rows columns : ℕ) (f : ℕ → Fraction)
    → sum_to (rows * columns) f ≡ sum_to rows (λ i. sum_to columns (λ j. f (i * columns + j)))
sum_of_rows zero columns f =
    let none : zero * columns ≡ zero = omega arith in
    ap (λ n. sum_to n f) none
sum_of_rows (suc rows) columns f =
    let more : suc rows * columns ≡ rows * columns + columns = omega arith in
    ap (λ n. sum_to n f) more ∙ sum_to_split (rows * columns) columns f
    ∙ ap (λ z. z +ℚ sum_to columns (λ j. f (rows * columns + j))) (sum_of_rows rows columns f)

-- a number that is there by two tests
second_test : (x y : Bool) → (if x && y then whole (pos 1) else whole (pos 0))
    ≡ (if y then (if x then whole (pos 1) else whole (pos 0)) else whole (pos 0))
second_test true true = refl
second_test true false = refl
second_test false true = refl
second_test false false = refl

first_test : (x y : Bool) → (if x && y then whole (pos 1) else whole (pos 0))
    ≡ (if x then (if y then whole (pos 1) else whole (pos 0)) else whole (pos 0))
first_test true y = refl
first_test false y = refl

-- a life's cell
abbrev forward : Product → (month cell : ℕ) → CellCurves
forward p month cell = cell_curves (cells_of_32 Forward) p (payment_plan p) month cell

module _ (a b : Product) (h : CanJoin a b) where
  abbrev joint : Product
  joint = joint_of a b

  split : (f : ℕ → Fraction) → sum_to (length (joint_of a b).states) f
      ≡ sum_to (length a.states) (λ i. sum_to (length b.states) (λ j. f (pair_of b i j)))
  split f = ap (λ n. sum_to n f) (state_count a b h) ∙ sum_of_rows (length a.states) (length b.states) f

  inside : (i j : ℕ) → i < length a.states → j < length b.states → pair_of b i j < length (joint_of a b).states
  inside i j hi hj = omega (arith, pair_inside a b h i j hi hj, state_count a b h)

  -- numbers of the pairs that add up to those of each life
  abbrev AddUpToFirst : Vector → Vector → Type 0
  AddUpToFirst v u = (i : ℕ) → i < length a.states
      → sum_to (length b.states) (λ j. number_at v (pair_of b i j)) ≡ number_at u i

  abbrev AddUpToSecond : Vector → Vector → Type 0
  AddUpToSecond v u = (j : ℕ) → j < length b.states
      → sum_to (length a.states) (λ i. number_at v (pair_of b i j)) ≡ number_at u j

  module _ (n month cell : ℕ) (below : month < a.months) (v : Vector) where
    abbrev pairs : System
    pairs = kolmogorov_system (forward (joint_of a b) month cell)

    abbrev life : Product → System
    life p = kolmogorov_system (forward p month cell)

    solved : (p : Product) → IsWellFormed p → (u : Vector)
        → SolvesKolmogorov (forward p month cell) (λ j k. number_at (coefficient (life p) u k) j)
    solved p formed u = kolmogorov_system_solves (forward p month cell) u
        (cells_are_quintic (cells_of_32 Forward) p month cell formed).0

    first_cell : (u : Vector) → AddUpToFirst v u
        → AddUpToFirst (taylor_value pairs v n) (taylor_value (life a) u n)
    first_cell u start i hi =
        sum_to_ext (length b.states) (λ j hj. taylor_value_sums pairs v n (pair_of b i j))
        ∙ carried_sums (length a.states) (length b.states) (length (joint_of a b).states) (pair_of b) split
        (λ i k m. intensity_at (forward a month cell) i k m) (λ j l m. intensity_at (forward b month cell) j l m)
        (λ x y m. intensity_at (forward (joint_of a b) month cell) x y m)
        (λ i j k l m hi hj hk hl. joint_intensity a b h (cells_of_32 Forward) month cell below i j k l hi hj hk hl m)
        (λ x k. number_at (coefficient pairs v k) x) (λ i k. number_at (coefficient (life a) u k) i)
        inside (solved (joint_of a b) (joint_records_are_well_formed a b h) v) (solved a h.first u) start n i hi
        ∙ sym (taylor_value_sums (life a) u n i)

    second_cell : (u : Vector) → AddUpToSecond v u
        → AddUpToSecond (taylor_value pairs v n) (taylor_value (life b) u n)
    second_cell u start j hj =
        sum_to_ext (length a.states) (λ i hi. taylor_value_sums pairs v n (pair_of b i j))
        ∙ carried_sums (length b.states) (length a.states) (length (joint_of a b).states) (λ j i. pair_of b i j)
        (λ f. split f ∙ sum_to_exchange (length a.states) (length b.states) (λ i j. f (pair_of b i j)))
        (λ j l m. intensity_at (forward b month cell) j l m) (λ i k m. intensity_at (forward a month cell) i k m)
        (λ x y m. intensity_at (forward (joint_of a b) month cell) x y m)
        (λ j i l k m hj hi hl hk.
        joint_intensity a b h (cells_of_32 Forward) month cell below i j k l hi hj hk hl m
        ∙ turned (where_same j l (intensity_at (forward a month cell) i k m))
        (where_same i k (intensity_at (forward b month cell) j l m)))
        (λ x k. number_at (coefficient pairs v k) x) (λ i k. number_at (coefficient (life b) u k) i)
        (λ j i hj hi. inside i j hi hj) (solved (joint_of a b) (joint_records_are_well_formed a b h) v)
        (solved b h.second u) start n j hj
        ∙ sym (taylor_value_sums (life b) u n j)
      where
        turned : (x y : Fraction) → x +ℚ y ≡ y +ℚ x
        turned x y = ring (x ∷ y ∷ []) (hlevel terms) refl

  -- ---- a month, and all dates

  first_month : (n month cells : ℕ) → month < a.months → (v u : Vector) → AddUpToFirst v u
      → AddUpToFirst (month_forward (λ cell. kolmogorov_system (forward (joint_of a b) month cell)) n cells v)
      (month_forward (λ cell. kolmogorov_system (forward a month cell)) n cells u)
  first_month n month zero below v u start = start
  first_month n month (suc cells) below v u start =
      first_cell n month cells below _ _ (first_month n month cells below v u start)

  second_month : (n month cells : ℕ) → month < a.months → (v u : Vector) → AddUpToSecond v u
      → AddUpToSecond (month_forward (λ cell. kolmogorov_system (forward (joint_of a b) month cell)) n cells v)
      (month_forward (λ cell. kolmogorov_system (forward b month cell)) n cells u)
  second_month n month zero below v u start = start
  second_month n month (suc cells) below v u start =
      second_cell n month cells below _ _ (second_month n month cells below v u start)

  abbrev one_at : ℕ → ℕ → Fraction
  one_at k x = if x == k then whole (pos 1) else whole (pos 0)

  -- at issue the pair of the starts has probability 1
  start_at : (n i j : ℕ) → i < length a.states → j < length b.states
      → number_at (probabilities (joint_of a b) n 0) (pair_of b i j)
      ≡ (if (i == a.start) && (j == b.start) then whole (pos 1) else whole (pos 0))
  start_at n i j hi hj =
      at-list_of (length (joint_of a b).states) (one_at (joint_of a b).start) (pair_of b i j) (whole (pos 0))
      (inside i j hi hj)
      ∙ ap (λ t. if t then whole (pos 1) else whole (pos 0)) (by_parts a b h (cells_of_32 Forward) 0 0
      h.first.head.some_month i j a.start b.start hi hj h.first.head.start h.second.head.start i j hj)

  first_start : (n : ℕ) → AddUpToFirst (probabilities (joint_of a b) n 0) (probabilities a n 0)
  first_start n i hi =
      sum_to_ext (length b.states) (λ j hj. start_at n i j hi hj ∙ second_test (i == a.start) (j == b.start))
      ∙ sum_same (length b.states) b.start (λ j. one_at a.start i) h.second.head.start
      ∙ sym (at-list_of (length a.states) (one_at a.start) i (whole (pos 0)) hi)

  second_start : (n : ℕ) → AddUpToSecond (probabilities (joint_of a b) n 0) (probabilities b n 0)
  second_start n j hj =
      sum_to_ext (length a.states) (λ i hi. start_at n i j hi hj ∙ first_test (i == a.start) (j == b.start))
      ∙ sum_same (length a.states) a.start (λ i. one_at b.start j) h.first.head.start
      ∙ sym (at-list_of (length b.states) (one_at b.start) j (whole (pos 0)) hj)

  first_date : (n date : ℕ) → date ≤ a.months → AddUpToFirst (probabilities (joint_of a b) n date)
      (probabilities a n date)
  first_date n zero within = first_start n
  first_date n (suc month) within =
      first_month n month 32 (omega (arith, within)) (probabilities (joint_of a b) n month) (probabilities a n month)
      (first_date n month (omega (arith, within)))

  second_date : (n date : ℕ) → date ≤ a.months
      → AddUpToSecond (probabilities (joint_of a b) n date) (probabilities b n date)
  second_date n zero within = second_start n
  second_date n (suc month) within =
      second_month n month 32 (omega (arith, within)) (probabilities (joint_of a b) n month) (probabilities b n month)
      (second_date n month (omega (arith, within)))

pub marginals_are_single_lives : MarginalsAreSingleLives
marginals_are_single_lives a b h = record {
  first = λ n date i within hi. first_date a b h n date within i hi;
  second = λ n date j within hj. second_date a b h n date within j hj;
}
