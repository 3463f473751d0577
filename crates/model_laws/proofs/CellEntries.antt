-- The entries and lengths of a cell's systems and of the runs.
use Rattle.std.specs.Prelude.{◌≡◌, ℕ, zero, suc, pos, ◌-◌, ◌<◌, ◌≤◌, Bool, true, false, ◌==◌, ◌&&◌}
use Rattle.std.specs.Prelude.{Some, find, map, List, [], ◌∷◌, length, slice_index_or, refl}
use Rattle.std.proofs.Common.{ap, sym, ◌∙◌, inl, inr, arith, ◌*◌, ℤ}
use mathlib.Core.Path.{ap₂}
use Rattle.std.proofs.lemmas.Bool.{cases_lt}
use Rattle.std.proofs.lemmas.Bool.Decides.{eqb_tells}
use Rattle.frac_laws.specs.Fraction.{Fraction, whole, opposite, ◌+ℚ◌, over, ◌*ℚ◌}
use Rattle.frac_laws.specs.Sums.{sum_to}
use Rattle.frac_laws.specs.Lists.{Vector, number_at, vector_at, matrix_at, add_lists}
use Rattle.frac_laws.proofs.Lengths.{add_lists_fits}
use Rattle.frac_laws.proofs.FractionTerms.{ring, terms}
use Rattle.frac_laws.proofs.Quotients.{over_is}
use Rattle.cell_laws.specs.Systems.{System, taylor_value}
use Rattle.cell_laws.specs.Pairs.{CoupledPair, second_taylor_value}
use Rattle.cell_laws.proofs.Dimensions.{taylor_values_keep_dimension, second_taylor_values_keep_dimension}
use Rattle.whole_laws.specs.Whole.{list_of}
use Rattle.model_specs.specs.Product.{Product, Transition, transition_at, no_transition}
use Rattle.model_specs.specs.Payments.{Plan, payment_plan, lump_at}
use Rattle.model_specs.specs.Cells.{Grid, Backward, Forward, cells_of_32, cell_curves}
use Rattle.model_specs.specs.Systems.{matrix_of, vector_of, thiele_system, norberg_pair, kolmogorov_system}
use Rattle.model_specs.specs.Systems.{intensity_at, sojourn_rate_at, leaving_at, first_payment_at}
use Rattle.model_specs.specs.Systems.{second_payment_at, backward_entry, coupling_entry, where_same}
use Rattle.model_specs.specs.Runs.{month_back, month_forward, first_before_term, moments_before_term}
use Rattle.model_specs.specs.Runs.{Moments, moments_month_back, before_lumps, probabilities, lump_vector}
use Rattle.model_laws.specs.EntryLaws.{SystemsHaveEntries, SystemsKeepStates, RunsKeepStates}
use Rattle.model_laws.specs.EntryLaws.{TransitionsAreFound}
use Rattle.whole_laws.proofs.ListsByPlace.{at-list_of, past-list_of, length-list_of}
use Rattle.whole_laws.proofs.Members.{at-map}
use Rattle.named_numbers.specs.Numbers.{cells_of_year}

-- a number of a table of matrices, and of a table of vectors
table-entry : (states powers : ℕ) (f : ℕ → ℕ → ℕ → Fraction) (m i j : ℕ) → m < powers → i < states → j < states
    → number_at (vector_at (matrix_at (list_of powers (λ k. matrix_of states (f k))) m) i) j ≡ f m i j
table-entry states powers f m i j low row column =
    rw (
      at-list_of powers (λ k. matrix_of states (f k)) m [] low,
      at-list_of states (λ k. list_of states (f m k)) i [] row,
    )
    (at-list_of states (f m i) j (whole (pos 0)) column)

vector-entry : (states powers : ℕ) (f : ℕ → ℕ → Fraction) (m i : ℕ) → m < powers → i < states
    → number_at (vector_at (list_of powers (λ k. vector_of states (f k))) m) i ≡ f m i
vector-entry states powers f m i low row =
    rw (at-list_of powers (λ k. vector_of states (f k)) m [] low) (at-list_of states (f m) i (whole (pos 0)) row)

pub systems_have_entries : SystemsHaveEntries
systems_have_entries cell = record {
  thiele = table-entry cell.states 6 (backward_entry cell 1);
  thiele_free = vector-entry cell.states 9
      (λ m i. sojourn_rate_at cell i m +ℚ sum_to cell.states (λ j. first_payment_at cell i j m));
  second = table-entry cell.states 6 (backward_entry cell 2);
  second_free = vector-entry cell.states 12 (λ m i. sum_to cell.states (λ j. second_payment_at cell i j m));
  coupling = table-entry cell.states 9 (coupling_entry cell);
  kolmogorov = table-entry cell.states 6
      (λ m j i. intensity_at cell i j m +ℚ where_same j i (opposite (leaving_at cell j m)));
}

-- a table's lists are as long as there are states, or empty
table-length : {A : Type 0} (states powers : ℕ) (f : ℕ → List A) (m : ℕ) → ((k : ℕ) → length (f k) ≤ states)
    → length (slice_index_or (list_of powers f) m []) ≤ states
table-length states powers f m short = elim (cases_lt m powers) [
  | inl low ↦ rw (at-list_of powers f m [] low) (short m)
  | inr high ↦ rw (past-list_of powers f m [] high) (omega arith)
]

pub list-length : {A : Type 0} (states : ℕ) (f : ℕ → A) → length (list_of states f) ≤ states
list-length states f = rw (length-list_of states f) (omega arith)

pub systems_keep_states : SystemsKeepStates
systems_keep_states cell = record {
  thiele = record {
    rows = λ m. table-length cell.states 6 (λ k. matrix_of cell.states (backward_entry cell 1 k)) m
        (λ k. list-length cell.states (λ i. list_of cell.states (backward_entry cell 1 k i)));
    free = λ m. table-length cell.states 9 (λ k. vector_of cell.states
        (λ i. sojourn_rate_at cell i k +ℚ sum_to cell.states (λ j. first_payment_at cell i j k))) m
        (λ k. list-length cell.states _);
  };
  second = record {
    rows = λ m. table-length cell.states 6 (λ k. matrix_of cell.states (backward_entry cell 2 k)) m
        (λ k. list-length cell.states (λ i. list_of cell.states (backward_entry cell 2 k i)));
    free = λ m. table-length cell.states 12 (λ k. vector_of cell.states
        (λ i. sum_to cell.states (λ j. second_payment_at cell i j k))) m
        (λ k. list-length cell.states _);
  };
  coupling = λ m. table-length cell.states 9 (λ k. matrix_of cell.states (coupling_entry cell k)) m
      (λ k. list-length cell.states (λ i. list_of cell.states (coupling_entry cell k i)));
  kolmogorov = record {
    rows = λ m. table-length cell.states 6 (λ k. matrix_of cell.states
        (λ j i. intensity_at cell i j k +ℚ where_same j i (opposite (leaving_at cell j k)))) m
        (λ k. list-length cell.states _);
    free = λ m. omega arith;
  };
}

-- a month keeps the length of a vector
month-back-length : (system : ℕ → System) (states n cells : ℕ)
    → ((cell : ℕ) (v : Vector) → length v ≤ states → length (taylor_value (system cell) v n) ≤ states)
    → (v : Vector) → length v ≤ states → length (month_back system n cells v) ≤ states
month-back-length system states n zero keeps v short = short
month-back-length system states n (suc cells) keeps v short =
    month-back-length system states n cells keeps (taylor_value (system cells) v n) (keeps cells v short)

month-forward-length : (system : ℕ → System) (states n cells : ℕ)
    → ((cell : ℕ) (v : Vector) → length v ≤ states → length (taylor_value (system cell) v n) ≤ states)
    → (v : Vector) → length v ≤ states → length (month_forward system n cells v) ≤ states
month-forward-length system states n zero keeps v short = short
month-forward-length system states n (suc cells) keeps v short =
    keeps cells (month_forward system n cells v) (month-forward-length system states n cells keeps v short)

month-moments-length : (pair : ℕ → CoupledPair) (states n cells : ℕ)
    → ((cell : ℕ) (w v : Vector) → length v ≤ states → length (second_taylor_value (pair cell) w v n) ≤ states)
    → (v : Moments) → length v.second ≤ states → length (moments_month_back pair n cells v).second ≤ states
month-moments-length pair states n zero keeps v short = short
month-moments-length pair states n (suc cells) keeps v short =
    month-moments-length pair states n cells keeps (record {
      first = taylor_value (pair cells).first v.first n;
      second = second_taylor_value (pair cells) v.first v.second n;
    }) (keeps cells v.first v.second short)

first-length : (grid : Grid) (product : Product) (plan : Plan) (n k : ℕ)
    → length (first_before_term grid product plan n k) ≤ length product.states
first-length grid product plan n zero = list-length (length product.states) (λ i. whole (pos 0))
first-length grid product plan n (suc k) =
    month-back-length (λ cell. thiele_system (cell_curves grid product plan (product.months - suc k) cell))
    (length product.states) n grid.cells
    (λ cell v short. taylor_values_keep_dimension
    (thiele_system (cell_curves grid product plan (product.months - suc k) cell)) v n
    (systems_keep_states (cell_curves grid product plan (product.months - suc k) cell)).thiele short)
    (add_lists (first_before_term grid product plan n k)
    (lump_vector product plan (suc (product.months - suc k))))
    (add_lists_fits (length product.states) (first_before_term grid product plan n k)
    (lump_vector product plan (suc (product.months - suc k))) (first-length grid product plan n k)
    (list-length (length product.states)
    (λ i. whole (lump_at plan (suc (product.months - suc k)) i))))

second-length : (product : Product) (plan : Plan) (n k : ℕ)
    → length (moments_before_term product plan n k).second ≤ length product.states
second-length product plan n zero = list-length (length product.states) (λ i. whole (pos 0))
second-length product plan n (suc k) =
    month-moments-length
    (λ cell. norberg_pair (cell_curves (cells_of_32 Backward) product plan (product.months - suc k) cell))
    (length product.states) n 32
    (λ cell w v short. second_taylor_values_keep_dimension
    (norberg_pair (cell_curves (cells_of_32 Backward) product plan (product.months - suc k) cell)) w v n
    (systems_keep_states
    (cell_curves (cells_of_32 Backward) product plan (product.months - suc k) cell)).second
    (systems_keep_states
    (cell_curves (cells_of_32 Backward) product plan (product.months - suc k) cell)).coupling short)
    (before_lumps product plan (suc (product.months - suc k)) (moments_before_term product plan n k))
    (list-length (length product.states) _)

probabilities-length : (product : Product) (n m : ℕ) → length (probabilities product n m) ≤ length product.states
probabilities-length product n zero = list-length (length product.states) _
probabilities-length product n (suc m) =
    month-forward-length
    (λ cell. kolmogorov_system (cell_curves (cells_of_32 Forward) product (payment_plan product) m cell))
    (length product.states) n 32
    (λ cell v short. taylor_values_keep_dimension
    (kolmogorov_system (cell_curves (cells_of_32 Forward) product (payment_plan product) m cell)) v n
    (systems_keep_states (cell_curves (cells_of_32 Forward) product (payment_plan product) m cell)).kolmogorov
    short)
    (probabilities product n m) (probabilities-length product n m)

pub runs_keep_states : RunsKeepStates
runs_keep_states grid product plan n k =
    (first-length grid product plan n k, second-length product plan n k, probabilities-length product n k)

-- the first place that passes a test, where it is known
find-first : (n e : ℕ) (f : ℕ → ℕ) (test : ℕ → Bool) → e < n → test (f e) ≡ true
    → ((k : ℕ) → k < e → test (f k) ≡ false) → find test (list_of n f) ≡ Some (f e)
find-first zero e f test within here before = absurd (omega arith)
find-first (suc n) zero f test within here before = rw here refl
find-first (suc n) (suc e) f test within here before =
    rw (before 0 (omega arith))
    (find-first n e (λ i. f (suc i)) test (omega arith) here (λ k low. before (suc k) (omega arith)))

length-map : {A B : Type 0} (f : A → B) (xs : List A) → length (map f xs) ≡ length xs
length-map f [] = refl
length-map f (x ∷ xs) = ap (λ n. suc n) (length-map f xs)

same-test : (n : ℕ) → (n == n) ≡ true
same-test n = elim (eqb_tells n n) [ inl same ↦ same.0 | inr other ↦ absurd (other.1 refl) ]

pair-test : (a b c d : ℕ) → ((a ≡ c) → (b ≡ d) → ⊥) → ((a == c) && (b == d)) ≡ false
pair-test a b c d differ = elim (eqb_tells a c) [
  | inl same ↦ elim (eqb_tells b d) [
    | inl too ↦ absurd (differ same.1 too.1)
    | inr other ↦ rw (same.0, other.0) refl
  ]
  | inr other ↦ rw other.0 refl
]

-- the two states of a transition
abbrev pair_of : Transition → ℕ × ℕ
pair_of t = (t.from, t.to)

both : {a b c d : ℕ} → a ≡ c → b ≡ d → ◌≡◌ {A = ℕ × ℕ} (a, b) (c, d)
both from to = ap₂ (λ x y. let pair : ℕ × ℕ = (x, y) in pair) from to

pub transitions_are_found : TransitionsAreFound
transitions_are_found product e good within =
    find-first (length product.transitions) e (λ i. i)
    (λ k. ((transition_at product k).from == (transition_at product e).from)
    && ((transition_at product k).to == (transition_at product e).to))
    within (rw (same-test (transition_at product e).from, same-test (transition_at product e).to) refl)
    (λ k low. pair-test _ _ _ _ (λ from to. good.distinct k e low
    (rw (length-map pair_of product.transitions) within)
    (at-map pair_of product.transitions k no_transition
    ∙ both from to
    ∙ sym (at-map pair_of product.transitions e no_transition))))

-- so many cells are that many 384ths of a year
pub cells_in_years : (n : ℤ) → over (pos 1) cells_of_year *ℚ whole n ≡ over n cells_of_year
cells_in_years n = ring (whole n ∷ over (pos 1) cells_of_year ∷ []) (hlevel terms) refl ∙ sym (over_is n cells_of_year)
