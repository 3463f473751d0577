-- What a sweep keeps when it begins, and over a month.
use Rattle.std.specs.Prelude.{◌≡◌, ℕ, zero, suc, pos, ◌+◌, ◌*◌, ◌^◌, ◌<◌, ◌≤◌, ℤ, List, length, replicate}
use Rattle.std.specs.Prelude.{slice_index_or, slice_set, unsigned_abs, take, drop, ◌++◌}
use Rattle.std.proofs.lemmas.List.{take_at}
use Rattle.std.proofs.Common.{ap, sym, subst, ◌∙◌, arith, lit≤}
use Rattle.frac_laws.specs.Fraction.{whole, ◌≤ℚ◌}
use Rattle.frac_laws.specs.Norms.{Sum, norm_of_vector}
use Rattle.named_numbers.specs.Numbers.{highest_degree}
use Rattle.model_specs.specs.Product.{Product}
use Rattle.model_specs.specs.Ledgers.{radius_forward}
use Rattle.model_specs.specs.Runs.{probabilities}
use Rattle.model_specs.specs.ValuationRules.{IsAdmissible}
use Rattle.linear_system.specs.Setting.{HaveSamePlaces}
use Rattle.linear_system.specs.StoredSystem.{StoredSystem}
use Rattle.probability_laws.proofs.ProbabilityRuns.{probabilities_add_up_to_one, probabilities_stay_small}
use Rattle.cell_coeffs.specs.ForwardColumns.{IsMadeForward}
use Rattle.cell_coeffs.proofs.ForwardSteps.{made_forward_kept}
use Rattle.kolmogorov_forward.specs.MonthRuns.{AreNearAt}
use Rattle.kolmogorov_forward.specs.Sweeps.{ForwardSweep, begun_sweep, KeepsRuns}
use Rattle.kolmogorov_forward.proofs.NearNumbers.{numbers_most}
use Rattle.kolmogorov_forward.proofs.StartNumbers.{start-length, start_near}

pub keeps_begun : (product : Product) (rad : ℕ) (system : StoredSystem) (work states start : ℕ) (numbers : List ℤ)
    → IsAdmissible product → rad ≡ radius_forward product 0 → rad < 2 ^ 39 → IsMadeForward product system
    → work ≡ states → states ≡ length product.states → start ≡ product.start
    → numbers ≡ slice_set (replicate states (pos 0)) start (pos (2 ^ 64))
    → KeepsRuns (begun_sweep product) rad system work numbers
keeps_begun product rad system work states start numbers admissible radius_is radius_most made work_is states_are
    start_is are =
    let here = are ∙ ap (λ k. slice_set (replicate k (pos 0)) start (pos (2 ^ 64))) states_are
    ∙ ap (λ k. slice_set (replicate (length product.states) (pos 0)) k (pos (2 ^ 64))) start_is in
    record {
      admissible = admissible;
      within = omega arith;
      least = omega arith;
      highest = omega arith;
      radius_is = radius_is;
      radius_most = radius_most;
      made = made;
      room = work_is ∙ states_are;
      long = ap length here ∙ start-length product;
      near = start_near product 8 numbers here;
    }

-- a month more
pub keeps_month : (s : ForwardSweep) (rad : ℕ) (system : StoredSystem) (work : ℕ) (mid : List ℤ)
    → KeepsRuns s rad system work mid → s.date < s.product.months → (product : Product) (before : List ℤ)
    → product ≡ s.product → before ≡ mid → (degree date rad_after work_after : ℕ) (after : StoredSystem)
    (new : List ℤ) → AreNearAt product degree (suc s.date) new → s.degree ≤ degree → degree ≤ highest_degree
    → date ≡ s.date + 1 → rad_after ≡ radius_forward product date → rad_after < 2 ^ 39 → HaveSamePlaces system after
    → work_after ≡ work → length new ≡ length before
    → KeepsRuns (record { product = s.product; date = date; degree = degree }) rad_after after work_after new
keeps_month s rad system work mid kept left product before product_is before_is degree date rad_after work_after after
    new near least most date_is radius_is radius_most places same long =
    let next : suc s.date ≡ date = omega (arith, date_is) in
    record {
      admissible = kept.admissible;
      within = omega (arith, left, date_is);
      least = omega (arith, kept.least, least);
      highest = most;
      radius_is = radius_is ∙ ap (λ (p : Product). radius_forward p date) product_is;
      radius_most = radius_most;
      made = made_forward_kept s.product _ _ places kept.made;
      room = same ∙ kept.room;
      long = long ∙ ap length before_is ∙ kept.long;
      near = subst (λ k. AreNearAt s.product degree k new) next
          (subst (λ (p : Product). AreNearAt p degree (suc s.date) new) product_is near);
    }

-- at each date the sizes of the probabilities add up to at most two
small_at : (product : Product) (n date : ℕ) → IsAdmissible product → 8 ≤ n → date ≤ product.months
    → norm_of_vector Sum (probabilities product n date) ≤ℚ whole (pos 2)
small_at product n zero admissible above within =
    (probabilities_stay_small product n 0 0 admissible above admissible.well_formed.head.some_month (lit≤ tt)).1
small_at product n (suc month) admissible above within =
    (probabilities_stay_small product n month 32 admissible above (omega (arith, within)) (lit≤ tt)).1

-- the number of a state fits
pub number_fits : (s : ForwardSweep) (rad : ℕ) (system : StoredSystem) (work : ℕ) (mid : List ℤ)
    → KeepsRuns s rad system work mid → (state : ℕ) → state < length mid
    → unsigned_abs (slice_index_or mid state (pos 0)) ≤ 2 ^ 65
number_fits s rad system work mid kept state inside =
    let most = kept.radius_most in
    numbers_most (probabilities s.product s.degree s.date) mid (radius_forward s.product s.date) state
    (small_at s.product s.degree s.date kept.admissible kept.least kept.within)
    (probabilities_add_up_to_one s.product s.degree s.date 0 kept.admissible)
    (kept.near s.degree (omega arith)) (omega (arith, most, kept.radius_is)) inside

-- how wide its intervals are
pub width-is : (s : ForwardSweep) (rad : ℕ) (system : StoredSystem) (work : ℕ) (mid : List ℤ)
    → KeepsRuns s rad system work mid → 2 * rad * 2 ^ 0 ≡ 2 * radius_forward s.product s.date
width-is s rad system work mid kept = no_scale rad ∙ ap (λ r. 2 * r) kept.radius_is
  where
    no_scale : (r : ℕ) → 2 * r * 2 ^ 0 ≡ 2 * r
    no_scale r = omega arith

-- numbers that were written through a slice of all of them
pub keeps_written : (s : ForwardSweep) (rad : ℕ) (system : StoredSystem) (work count : ℕ) (new items : List ℤ)
    → length new ≡ count → KeepsRuns s rad system work new
    → KeepsRuns s rad system work (take count (new ++ drop (length new) items))
keeps_written s rad system work count new items long kept = subst (λ (m : List ℤ). KeepsRuns s rad system work m)
    (sym (take_at new (drop (length new) items) count long)) kept
