-- The promise of a step, from the laws of rounded steps.
use Rattle.std.specs.Prelude.{◌≡◌, ◌⊎◌, ℕ, zero, suc, pos, ℤ, List, [], ◌∷◌, refl, length}
use Rattle.std.specs.Prelude.{slice_index_or, unsigned_abs, ◌<◌, ◌≤◌, ◌+◌, ◌-◌, ◌*◌, ◌^◌}
use Rattle.std.proofs.Common.{ap, sym, ◌∙◌, inl, inr, arith}
use Rattle.std.proofs.lemmas.Int.{ints}
use Rattle.std.proofs.lemmas.List.{get_or-map}
use Rattle.std.proofs.Math.ListN.{length-map}
use Rattle.frac_laws.specs.Fraction.{Fraction, over, whole, size, ◌+ℚ◌, ◌*ℚ◌, ◌-ℚ◌, ◌≤ℚ◌, ◌<ℚ◌}
use Rattle.frac_laws.specs.Lists.{Vector, Matrix, number_at}
use Rattle.frac_laws.specs.Norms.{Norm, Sup, Sum}
use Rattle.frac_laws.specs.Sums.{power}
use Rattle.frac_laws.proofs.Linear.{linear, linear_lt, claims, natural, ◌⊞◌, ◌⊠◌}
use Rattle.frac_laws.proofs.Order.{le_trans, le_of_equal}
use Rattle.frac_laws.proofs.Quotients.{whole_le, whole_mul}
use Rattle.cell_laws.specs.Systems.{System}
use Rattle.cell_laws.specs.Pairs.{CoupledPair}
use Rattle.cell_laws.specs.Tame.{IsTame, IsTamePair}
use Rattle.linear_system.specs.StoredSystem.{StoredSystem, IsSystem, dim_of, row_of, stored_number}
use Rattle.linear_system.specs.StoredSystem.{stored_free}
use Rattle.linear_system.specs.StandsFor.{units, StandsFor, StandsForPair, MatricesStandNear, in_units}
use Rattle.linear_system.specs.StandsFor.{VectorsStandNear}
use Rattle.step_laws.specs.RoundedRuns.{window_bound}
use Rattle.linear_system.specs.DegreeLimit.{greatest_power}
use Rattle.step_laws.specs.StepLaws.{most_numbers}
use Rattle.step_laws.specs.StoredSteps.{StoredNumbers, StoredStandFor, StoredStandForPair, IsStoredStep}
use Rattle.step_laws.specs.StoredSteps.{StoredMayStop, at_last, after_window}
use Rattle.taylor_step.specs.Stops.{IsStop, HasSmallBack}
use Rattle.taylor_step.specs.WholeRun.{coefficient}
use Rattle.taylor_step.proofs.Stopping.{power_most, least_degree_most}
use Rattle.taylor_step.proofs.Tops.{none_above_greatest}
use Rattle.taylor_step.proofs.StoredSizes.{size_units}
use Rattle.step_laws.specs.StoredSteps.{NumbersStandFor, FreeNumbersStandFor}
use Rattle.step_laws.proofs.StoredSteps.{stored_steps_stay_within_their_radius}
use Rattle.step_laws.proofs.StoredPairs.{stored_first_halves_stay_within_their_radius}
use Rattle.step_laws.proofs.StoredPairs.{stored_second_halves_stay_within_their_radius}
use Rattle.taylor_step.specs.Enclosures.{Encloses, EnclosesFirst, EnclosesSecond}
use Rattle.taylor_step.specs.RoundedRun.{IsRoundedValue}
use Rattle.taylor_step.proofs.Fits.{coupling_total}
use Rattle.taylor_step.proofs.Scaled.{number_beyond, no_units, unit}

-- the stored numbers as fractions, by power, row and column
abbrev pub numbers_of : StoredSystem → StoredNumbers
numbers_of s = record {
  dimension = dim_of s;
  numbers = λ m row col. units (stored_number s row col m);
  free = λ m row. units (stored_free s row m);
}

-- beyond power 11 nothing is stored
pub nothing_beyond : (s : StoredSystem) → IsSystem s → (m row col : ℕ) → row < dim_of s → 12 ≤ m
    → units (stored_number s row col m) ≡ whole (pos 0)
nothing_beyond s sys m row col b h =
    ap units (number_beyond (row_of s row) s.degree col m (sys.each row b).full
    (let t = sys.degree_small in omega arith)) ∙ no_units

exact_matrices : (error d : ℕ) (stored : ℕ → ℕ → ℕ → ℤ) (matrices : List Matrix)
    → MatricesStandNear error d stored matrices
    → ((m row col : ℕ) → row < d → col < d → 12 ≤ m → units (stored row col m) ≡ whole (pos 0))
    → NumbersStandFor error d (λ m row col. units (stored row col m)) matrices
exact_matrices error d stored matrices h none = record {
  near = λ m row col b c. h.near row col m b c;
  exact_fit = record { rows = h.rows; columns = h.columns; no_more = λ m row col b. h.no_more row col m b };
  no_more = none;
}

exact_vectors : (error d : ℕ) (stored : ℕ → ℕ → ℤ) (vectors : List Vector)
    → VectorsStandNear error d stored vectors
    → ((m row : ℕ) → row < d → 12 ≤ m → units (stored row m) ≡ whole (pos 0))
    → FreeNumbersStandFor error d (λ m row. units (stored row m)) vectors
exact_vectors error d stored vectors h none = record {
  near = λ m row b. h.near row m b;
  exact_fit = record { numbers = h.rows; no_more = λ m row b. h.no_more row m b };
  no_more = none;
}

stands_for : (s : StoredSystem) (e : System) → IsSystem s → StandsFor s e → StoredStandFor (numbers_of s) e
stands_for s e sys h = record {
  dimension = h.dimension;
  matrices = exact_matrices 1 (dim_of s) (stored_number s) e.matrices h.matrices
      (λ m row col b c k. nothing_beyond s sys m row col b k);
  free = exact_vectors 3 (dim_of s) (stored_free s) e.free h.free
      (λ m row b k. nothing_beyond s sys m row (dim_of s) b k);
}

stands_for_pair : (s : StoredSystem) (half : ℕ) (p : CoupledPair) → IsSystem s → StandsForPair s half p
    → StoredStandForPair (numbers_of s) half p
stands_for_pair s half p sys h = record {
  halves = h.halves;
  first_dimension = h.first_dimension;
  second_dimension = h.second_dimension;
  first = exact_matrices 1 half (stored_number s) p.first.matrices h.first
      (λ m row col b c k. nothing_beyond s sys m row col (before row b) k);
  first_free = exact_vectors 3 half (stored_free s) p.first.free h.first_free
      (λ m row b k. nothing_beyond s sys m row (dim_of s) (before row b) k);
  second = exact_matrices 1 half (λ row col m. stored_number s (half + row) (half + col) m) p.second.matrices
      h.second
      (λ m row col b c k. nothing_beyond s sys m (half + row) (half + col) (behind row b) k);
  second_free = exact_vectors 3 half (λ row m. stored_free s (half + row) m) p.second.free h.second_free
      (λ m row b k. nothing_beyond s sys m (half + row) (dim_of s) (behind row b) k);
  coupling = exact_matrices 3 half (λ row col m. stored_number s (half + row) col m) p.coupling h.coupling
      (λ m row col b c k. nothing_beyond s sys m (half + row) col (behind row b) k);
  one_way = λ m row col b c. ap units (h.one_way row (half + col) m b (omega arith) (behind col c)) ∙
      no_units;
}
  where
    before : (i : ℕ) → i < half → i < dim_of s
    before i b = omega (arith, h.halves)

    behind : (i : ℕ) → i < half → half + i < dim_of s
    behind i b = omega (arith, h.halves)

-- what is left out is at least 0 and less than n units: the rounding went down by less than one unit
rounded_down : (x q u n : Fraction) → whole (pos 0) ≤ℚ x -ℚ n *ℚ q → n *ℚ q ≤ℚ x
rounded_down x q u n h = linear (x ∷ q ∷ n ∷ []) h (hlevel claims) refl

rounded_within : (x q u n : Fraction) → x -ℚ n *ℚ q <ℚ n *ℚ u → x <ℚ n *ℚ (q +ℚ u)
rounded_within x q u n h = linear_lt (x ∷ q ∷ u ∷ n ∷ []) h (hlevel claims) refl

at_units : (l : List ℤ) (i : ℕ) → i < length l → number_at (in_units l) i ≡ units (slice_index_or l i (pos 0))
at_units l i b = get_or-map units l i (pos 0) (whole (pos 0)) b

-- a pair's coupling is always at most 15/16, so that the pair is tame with c = 1
coupled_by_one : (kappa40 : ℕ) (c : Fraction) (p : CoupledPair) → IsTamePair kappa40 c p
    → IsTamePair kappa40 (whole (pos 1)) p
coupled_by_one kappa40 c p tame = record {
  first = tame.first;
  second = tame.second;
  second_free = tame.second_free;
  coupling = tame.coupling;
  total_coupling = le_trans (coupling_total kappa40 c p tame) (linear [] (natural 0 1) (hlevel claims) refl);
}

-- a size of at most 64 * 8^m as a number of units
small_units : (z : ℤ) (m : ℕ) → unsigned_abs z ≤ 64 * 8 ^ m → size (units z) ≤ℚ window_bound m
small_units z m h = le_trans (le_of_equal (sym (size_units z)))
    (times (whole (pos (unsigned_abs z))) (whole (pos (64 * 8 ^ m))) (power (whole (pos 8)) m)
    (whole_le (omega (arith, ints, h))) (whole_mul (pos 64) (pos (8 ^ m)) ∙ ap (λ t. whole (pos 64) *ℚ t) (eights m)))
  where
    eights : (m : ℕ) → whole (pos (8 ^ m)) ≡ power (whole (pos 8)) m
    eights zero = refl
    eights (suc m) = (let e : 8 ^ suc m ≡ 8 * 8 ^ m = omega arith in ap (λ n. whole (pos n)) e)
        ∙ whole_mul (pos 8) (pos (8 ^ m)) ∙ ap (λ t. whole (pos 8) *ℚ t) (eights m)

    times : (x y p : Fraction) → x ≤ℚ y → y ≡ whole (pos 64) *ℚ p → x *ℚ unit ≤ℚ over (pos 64) (2 ^ 64) *ℚ p
    times x y p h e = linear (x ∷ y ∷ p ∷ []) (natural 1 (2 ^ 64) ⊠ (h ⊞ le_of_equal e)) (hlevel claims) refl

module _ (s : StoredSystem) (old new : List ℤ) (sys : IsSystem s) (long : length old ≡ dim_of s)
    (degree : ℕ) (value : IsRoundedValue s old degree new)
    (stop : IsStop s old degree) (same : (k row : ℕ) → k ≤ degree → row < dim_of s
    → value.coefficients k row ≡ coefficient s old k row) where
  fits : (l : List ℤ) → length l ≡ dim_of s → length (in_units l) ≤ dim_of s
  fits l e = let m : length (in_units l) ≡ length l = simp length-map refl in omega (arith, m, e)

  stored_step : IsStoredStep degree (numbers_of s) (in_units old) (in_units new)
      (λ k row. units (value.coefficients k row))
  stored_step = record {
    mid_fits = fits old long;
    new_fits = fits new (value.rows ∙ long);
    starts = λ row b. ap units (value.run.first row b) ∙ sym (at_units old row (omega (arith, long)));
    rounded = λ k row c b. record {
      below = rounded_down _ _ (units (pos 1)) _ (value.run.low k row c b);
      within = rounded_within _ _ (units (pos 1)) _ (value.run.high k row c b);
    };
    total = λ row b. at_units new row (omega (arith, long, value.rows)) ∙ value.total row b;
  }

  stored_stops : StoredMayStop degree (numbers_of s) (λ k row. units (value.coefficients k row))
  stored_stops = by_stop stop.stops
    where
      by_stop : (degree ≡ 24) ⊎ HasSmallBack s old degree
          → StoredMayStop degree (numbers_of s) (λ k row. units (value.coefficients k row))
      by_stop (inl e) = at_last e
      by_stop (inr small) = after_window (greatest_power s) (record {
        early = let m = least_degree_most (greatest_power s) (power_most s sys) in let l = stop.least in record {
          least = omega (arith, m.0, l);
          most = stop.most;
          above = omega (arith, m.1.0, l);
        };
        numbers = λ m row col b c l. ap units (none_above_greatest s sys row col m b (omega (arith, c)) l) ∙ no_units;
        free = λ m row b l. ap units (none_above_greatest s sys row (dim_of s) m b (omega arith) l) ∙ no_units;
        window = λ m row b l. rw (same (degree - m) row (omega arith) b)
            (small_units (coefficient s old (degree - m) row) m (small m row l b));
      })

  encloses : (norm : Norm) (e : System) (kappa40 : ℕ) → dim_of s ≤ most_numbers norm → StandsFor s e
      → IsTame norm kappa40 e
      → Encloses norm e kappa40 old new degree
  encloses norm e kappa40 few stands tame y radius n start b =
      stored_steps_stay_within_their_radius norm kappa40 radius degree n (numbers_of s) e y (in_units old)
      (in_units new)
      (λ k row. units (value.coefficients k row)) (stands_for s e sys stands) few tame stored_step stored_stops start b

  pub encloses_in_sup : (e : System) (kappa40 : ℕ) → StandsFor s e → IsTame Sup kappa40 e
      → Encloses Sup e kappa40 old new degree
  encloses_in_sup e kappa40 stands tame = encloses Sup e kappa40 sys.dim_small stands tame

  pub encloses_in_sum : (e : System) (kappa40 : ℕ) → dim_of s ≤ 12 → StandsFor s e → IsTame Sum kappa40 e
      → Encloses Sum e kappa40 old new degree
  encloses_in_sum e kappa40 few stands tame = encloses Sum e kappa40 few stands tame

  half_small : (half : ℕ) → dim_of s ≡ half + half → half ≤ 12
  half_small half e = omega (arith, sys.dim_small, e)

  pub encloses_first : (half : ℕ) (p : CoupledPair) (kappa40 : ℕ) (c : Fraction) → StandsForPair s half p
      → IsTamePair kappa40 c p
      → EnclosesFirst p half kappa40 old new degree
  encloses_first half p kappa40 c stands tame w z radius radius2 n starts b =
      stored_first_halves_stay_within_their_radius kappa40 radius radius2 radius degree n (whole (pos 1))
      (numbers_of s) half p w z
      (in_units old) (in_units new) (λ k row. units (value.coefficients k row)) (record {
        stands = stands_for_pair s half p sys stands;
        dimension = half_small half stands.halves;
        tame = coupled_by_one kappa40 c p tame;
        step = stored_step;
        stops = stored_stops;
        first_start = starts.first;
        second_start = starts.second;
        receives = linear (whole (pos radius) ∷ []) (natural 0 1) (hlevel claims) refl;
      }) b

  pub encloses_second : (half : ℕ) (p : CoupledPair) (kappa40 : ℕ) (c : Fraction) → StandsForPair s half p
      → IsTamePair kappa40 c p
      → EnclosesSecond p half kappa40 c old new degree
  encloses_second half p kappa40 c stands tame w z radius radius2 n taken starts b receives =
      stored_second_halves_stay_within_their_radius kappa40 radius radius2 taken degree n c (numbers_of s) half p w z
      (in_units old) (in_units new)
      (λ k row. units (value.coefficients k row)) (record {
        stands = stands_for_pair s half p sys stands;
        dimension = half_small half stands.halves;
        tame = tame;
        step = stored_step;
        stops = stored_stops;
        first_start = starts.first;
        second_start = starts.second;
        receives = receives;
      }) b
