-- A step of the stored numbers of a pair is a rounded step of both its halves.
use Rattle.std.specs.Prelude.{◌≡◌, ℕ, suc, pos, [], ◌∷◌, length, take, drop, ◌<◌, ◌≤◌, ◌+◌, ◌-◌}
use Rattle.std.proofs.Common.{refl, ap, sym, ◌∙◌, subst, arith}
use mathlib.Core.Path.{ap₂}
use Rattle.std.proofs.lemmas.List.{get_or-take, get_or-drop, length-take, length-drop}
use Rattle.frac_laws.specs.Fraction.{Fraction, whole, ◌+ℚ◌, ◌*ℚ◌}
use Rattle.frac_laws.specs.Sums.{sum_to}
use Rattle.frac_laws.specs.Lists.{Vector}
use Rattle.frac_laws.specs.Norms.{Sup}
use Rattle.frac_laws.proofs.FractionTerms.{ring, terms}
use Rattle.frac_laws.proofs.Sums.{sum_to_ext, sum_to_add, sum_to_split, sum_to_zeros}
use Rattle.cell_laws.specs.Systems.{System}
use Rattle.cell_laws.specs.Pairs.{CoupledPair}
use Rattle.step_laws.specs.StandsFor.{StandsFor, MatricesStandFor, VectorsStandFor, PairStandsFor}
use Rattle.step_laws.specs.RoundedRuns.{IsRoundedStep, IsSecondRoundedStep, PairMayStop}
use Rattle.step_laws.specs.RoundedRuns.PairMayStop.{at_last, after_window}
use Rattle.step_laws.specs.RoundedRuns.{unrounded, second_unrounded}
use Rattle.step_laws.specs.StepLaws.{IsStartNear, IsPairStep}
use Rattle.step_laws.specs.StoredSteps.{StoredNumbers, StoredStandForPair, IsStoredStep, stored_sum}
use Rattle.step_laws.specs.StoredSteps.{StoredMayStop}
use Rattle.step_laws.specs.StoredSteps.StoredMayStop.{at_last as stored_at_last, after_window as stored_after_window}
use Rattle.step_laws.specs.StoredSteps.{NumbersStandFor, FreeNumbersStandFor, IsStoredPairStep}
use Rattle.step_laws.specs.StoredSteps.{StoredFirstHalvesStayWithinTheirRadius}
use Rattle.step_laws.specs.StoredSteps.{StoredSecondHalvesStayWithinTheirRadius}
use Rattle.step_laws.proofs.PairRadii.{first_halves_stay_within_their_radius}
use Rattle.step_laws.proofs.PairRadii.{second_halves_stay_within_their_radius}
use Rattle.step_laws.proofs.Listed.{vector_of, matrices_of, vectors_of, convolved_is, free_is}
use Rattle.step_laws.proofs.Listed.{matrices_stand, vectors_stand}
use Rattle.step_laws.proofs.StoredSteps.{listed_run, empty_matrices, empty_vectors, listed_window}

-- a half that lists its own numbers stands for the exact half
half_stands : (half : ℕ) (numbers : (m row col : ℕ) → Fraction) (free : (m row : ℕ) → Fraction)
    (exact : System) → exact.dimension ≡ half → NumbersStandFor 1 half numbers exact.matrices
    → FreeNumbersStandFor 3 half free exact.free
    → StandsFor (record {
      dimension = half;
      matrices = matrices_of half numbers;
      free = vectors_of half free;
    }) exact
half_stands half numbers free exact e h k = record {
  dimension = sym e;
  matrices = subst (λ d. MatricesStandFor 1 d (matrices_of half numbers) exact.matrices) (sym e)
      (matrices_stand 1 half numbers exact.matrices h);
  free = subst (λ d. VectorsStandFor 3 d (vectors_of half free) exact.free) (sym e)
      (vectors_stand 3 half free exact.free k);
}

module _ (degree : ℕ) (s : StoredNumbers) (half : ℕ) (exact : CoupledPair) (mid new : Vector)
    (z : (k row : ℕ) → Fraction) (h : StoredStandForPair s half exact) (step : IsStoredStep degree s mid new z) where
  -- the numbers of the second half, and those of the coupling
  abbrev second_numbers : (m row col : ℕ) → Fraction
  second_numbers m row col = s.numbers m (half + row) (half + col)

  abbrev coupling_numbers : (m row col : ℕ) → Fraction
  coupling_numbers m row col = s.numbers m (half + row) col

  abbrev second_free : (m row : ℕ) → Fraction
  second_free m row = s.free m (half + row)

  abbrev first_run : ℕ → Vector
  first_run k = vector_of half (z k)

  abbrev second_rows : (k row : ℕ) → Fraction
  second_rows k row = z k (half + row)

  abbrev second_run : ℕ → Vector
  second_run k = vector_of half (second_rows k)

  abbrev pair_of : CoupledPair
  pair_of = record {
    first = record {
      dimension = half;
      matrices = matrices_of half s.numbers;
      free = vectors_of half s.free;
    };
    second = record {
      dimension = half;
      matrices = matrices_of half second_numbers;
      free = vectors_of half second_free;
    };
    coupling = matrices_of half coupling_numbers;
  }

  pair_stands : PairStandsFor pair_of exact
  pair_stands = record {
    halves = h.second_dimension ∙ sym h.first_dimension;
    first = half_stands half s.numbers s.free exact.first h.first_dimension h.first h.first_free;
    second =
        half_stands half second_numbers second_free exact.second h.second_dimension h.second h.second_free;
    coupling = subst (λ d. MatricesStandFor 3 d (matrices_of half coupling_numbers) exact.coupling)
        (sym h.first_dimension) (matrices_stand 3 half coupling_numbers exact.coupling h.coupling);
  }

  -- what a row sums at one power, in the columns of each half
  first_columns : (k row m : ℕ) → Fraction
  first_columns k row m = sum_to half (λ col. s.numbers m row col *ℚ z (k - m) col)

  later_columns : (k row m : ℕ) → Fraction
  later_columns k row m = sum_to half (λ col. s.numbers m row (half + col) *ℚ z (k - m) (half + col))

  columns_split : (k row m : ℕ) → sum_to s.dimension (λ col. s.numbers m row col *ℚ z (k - m) col)
      ≡ first_columns k row m +ℚ later_columns k row m
  unfolding first_columns later_columns
  columns_split k row m = ap (λ d. sum_to d (λ col. s.numbers m row col *ℚ z (k - m) col)) h.halves
      ∙ sum_to_split half half (λ col. s.numbers m row col *ℚ z (k - m) col)

  sum_splits : (k row : ℕ) → stored_sum s z k row
      ≡ sum_to (suc k) (first_columns k row) +ℚ sum_to (suc k) (later_columns k row) +ℚ s.free k row
  sum_splits k row = ap (λ t. t +ℚ s.free k row) (sum_to_ext (suc k) (λ m b. columns_split k row m)
      ∙ sum_to_add (suc k) (first_columns k row) (later_columns k row))

  first_sum : (k row : ℕ) → row < half → unrounded pair_of.first first_run k row ≡ stored_sum s z k row
  unfolding first_columns later_columns
  first_sum k row b = ap₂ ◌+ℚ◌ (convolved_is half s.numbers h.first.no_more z k row b)
      (free_is half s.free h.first_free.no_more k row b)
      ∙ sym (sum_splits k row ∙ ap (λ t. sum_to (suc k) (first_columns k row) +ℚ t +ℚ s.free k row)
      (sum_to_zeros (suc k) (λ m c. sum_to_zeros half (λ col l.
      ap (λ t. t *ℚ z (k - m) (half + col)) (h.one_way m row col b l)
      ∙ ring (z (k - m) (half + col) ∷ []) (hlevel terms) refl)))
      ∙ ring (sum_to (suc k) (first_columns k row) ∷ s.free k row ∷ []) (hlevel terms) refl)

  second_sum : (k row : ℕ) → row < half
      → second_unrounded pair_of first_run second_run k row ≡ stored_sum s z k (half + row)
  unfolding first_columns later_columns
  second_sum k row b = ap₂ ◌+ℚ◌ (convolved_is half second_numbers h.second.no_more second_rows k row b)
      (ap₂ ◌+ℚ◌ (convolved_is half coupling_numbers h.coupling.no_more z k row b)
      (free_is half second_free h.second_free.no_more k row b))
      ∙ sym (sum_splits k (half + row)
      ∙ ring (sum_to (suc k) (first_columns k (half + row)) ∷ sum_to (suc k)
      (later_columns k (half + row)) ∷ s.free k (half + row) ∷ []) (hlevel terms) refl)

  in_first : (row : ℕ) → row < half → row < s.dimension
  in_first row b = let e = h.halves in omega (arith, e, b)

  in_second : (row : ℕ) → row < half → half + row < s.dimension
  in_second row b = let e = h.halves in omega (arith, e, b)

  take_fits : (v : Vector) → length (take half v) ≤ half
  take_fits v = let e = length-take half v in omega (arith, e)

  drop_fits : (v : Vector) → length v ≤ s.dimension → length (drop half v) ≤ half
  drop_fits v l = let e = length-drop half v in let f = h.halves in omega (arith, e, f, l)

  pub first_step : IsRoundedStep degree pair_of.first (take half mid) (take half new) first_run
  first_step = listed_run degree half (unrounded pair_of.first first_run) (stored_sum s z) (take half mid)
      (take half new) z (take_fits mid) (take_fits new)
      (λ row b. step.starts row (in_first row b) ∙ sym (get_or-take half mid row (whole (pos 0)) b))
      first_sum (λ k row b c. step.rounded k row b (in_first row c))
      (λ row b. get_or-take half new row (whole (pos 0)) b ∙ step.total row (in_first row b))

  pub second_step : IsSecondRoundedStep degree pair_of first_run (drop half mid) (drop half new) second_run
  second_step = listed_run degree half (second_unrounded pair_of first_run second_run)
      (λ k row. stored_sum s z k (half + row)) (drop half mid) (drop half new) second_rows
      (drop_fits mid step.mid_fits) (drop_fits new step.new_fits)
      (λ row b. step.starts (half + row) (in_second row b) ∙ sym (get_or-drop half mid row (whole (pos 0))))
      second_sum (λ k row b c. step.rounded k (half + row) b (in_second row c))
      (λ row b. get_or-drop half new row (whole (pos 0)) ∙ step.total (half + row) (in_second row b))

  pub pair_stops : StoredMayStop degree s z → PairMayStop degree pair_of first_run second_run
  pair_stops (stored_at_last e) = at_last e
  pair_stops (stored_after_window d stop) = after_window d stop.early
      (empty_matrices half d s.numbers (λ m row col b c l. stop.numbers m row col (in_first row b) (in_first col c) l)
      h.first.no_more)
      (empty_vectors half d s.free (λ m row b l. stop.free m row (in_first row b) l) h.first_free.no_more)
      (empty_matrices half d second_numbers
      (λ m row col b c l. stop.numbers m (half + row) (half + col) (in_second row b) (in_second col c) l)
      h.second.no_more)
      (empty_vectors half d second_free (λ m row b l. stop.free m (half + row) (in_second row b) l)
      h.second_free.no_more)
      (empty_matrices half d coupling_numbers
      (λ m row col b c l. stop.numbers m (half + row) col (in_second row b) (in_first col c) l)
      h.coupling.no_more)
      (listed_window half degree d z (λ m row b l. stop.window m row (in_first row b) l))
      (listed_window half degree d second_rows (λ m row b l. stop.window m (half + row) (in_second row b) l))

module _ (kappa40 rad rad2 received degree : ℕ) (c : Fraction) (s : StoredNumbers) (half : ℕ)
    (exact : CoupledPair) (y y2 mid new : Vector) (z : (k row : ℕ) → Fraction)
    (p : IsStoredPairStep kappa40 rad rad2 received degree c s half exact y y2 mid new z) where
  pub pair_step : IsPairStep kappa40 rad rad2 received degree c
      (pair_of degree s half exact mid new z p.stands p.step) exact
      y (take half mid) (take half new) y2 (drop half mid) (drop half new)
      (first_run degree s half exact mid new z p.stands p.step)
      (second_run degree s half exact mid new z p.stands p.step)
  pair_step = record {
    stands = pair_stands degree s half exact mid new z p.stands p.step;
    dimension = subst (λ d. d ≤ 12) (sym p.stands.first_dimension) p.dimension;
    tame = p.tame;
    first_step = first_step degree s half exact mid new z p.stands p.step;
    second_step = second_step degree s half exact mid new z p.stands p.step;
    stops = pair_stops degree s half exact mid new z p.stands p.step p.stops;
    first_start = subst (λ d. IsStartNear Sup d (whole (pos 1)) rad y (take half mid))
        (sym p.stands.first_dimension) p.first_start;
    second_start = subst (λ d. IsStartNear Sup d (whole (pos 1)) rad2 y2 (drop half mid))
        (sym p.stands.first_dimension) p.second_start;
    receives = p.receives;
  }

pub stored_first_halves_stay_within_their_radius : StoredFirstHalvesStayWithinTheirRadius
stored_first_halves_stay_within_their_radius kappa40 rad rad2 received degree n c s half exact y y2 mid new z p b =
    first_halves_stay_within_their_radius kappa40 rad rad2 received degree n c
    (pair_of degree s half exact mid new z p.stands p.step) exact y (take half mid) (take half new) y2 (drop half mid)
    (drop half new) (first_run degree s half exact mid new z p.stands p.step)
    (second_run degree s half exact mid new z p.stands p.step)
    (pair_step kappa40 rad rad2 received degree c s half exact y y2 mid new z p) b

pub stored_second_halves_stay_within_their_radius : StoredSecondHalvesStayWithinTheirRadius
stored_second_halves_stay_within_their_radius kappa40 rad rad2 received degree n c s half exact y y2 mid new z p b =
    second_halves_stay_within_their_radius kappa40 rad rad2 received degree n c
    (pair_of degree s half exact mid new z p.stands p.step) exact y (take half mid) (take half new) y2 (drop half mid)
    (drop half new) (first_run degree s half exact mid new z p.stands p.step)
    (second_run degree s half exact mid new z p.stands p.step)
    (pair_step kappa40 rad rad2 received degree c s half exact y y2 mid new z p) b
