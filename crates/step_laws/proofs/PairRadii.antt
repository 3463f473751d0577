-- Both halves of a pair stay within their grown radius.
use Rattle.std.specs.Prelude.{◌≡◌, ℕ, pos, [], ◌∷◌, length, ◌≤◌, ◌+◌, ◌^◌}
use Rattle.std.proofs.Common.{refl, ap, sym, ◌∙◌, subst, arith}
use Rattle.frac_laws.specs.Fraction.{Fraction, over, whole, ◌+ℚ◌, ◌*ℚ◌, ◌≤ℚ◌}
use Rattle.frac_laws.specs.Sums.{sum_to}
use Rattle.frac_laws.specs.Lists.{Vector, subtract_lists}
use Rattle.frac_laws.specs.Norms.{Sup, norm_of_vector}
use Rattle.frac_laws.specs.Ledger.{grow}
use Rattle.frac_laws.proofs.Linear.{linear, claims, natural, ◌⊞◌, ◌⊠◌}
use Rattle.frac_laws.proofs.Norms.{norm_natural}
use Rattle.frac_laws.proofs.Signs.{sum_natural}
use Rattle.cell_laws.specs.Pairs.{CoupledPair, second_taylor_value}
use Rattle.cell_laws.specs.Tame.{growth_of, matrix_norm_at}
use Rattle.cell_laws.specs.GrowthLaws.{later_powers}
use Rattle.cell_laws.specs.ErrorLaws.{distance}
use Rattle.cell_laws.proofs.TameSums.{matrix_norms_natural}
use Rattle.cell_laws.proofs.Errors.{second_errors_grow}
use Rattle.step_laws.specs.StandsFor.{units, PairStandsFor}
use Rattle.step_laws.specs.RoundedRuns.{MayStop, at_last, after_window, PairMayStop}
use Rattle.step_laws.specs.RoundedRuns.PairMayStop.{at_last as pair_at_last, after_window as pair_after_window}
use Rattle.step_laws.specs.StepLaws.{IsStartNear, IsPairStep, FirstHalvesStayWithinTheirRadius}
use Rattle.step_laws.specs.StepLaws.{SecondHalvesStayWithinTheirRadius}
use Rattle.step_laws.proofs.Distances.{triangle, norm_by_distance}
use Rattle.step_laws.proofs.Grown.{units_are, whole_sum, grown}
use Rattle.step_laws.proofs.Steps.{radius_at_most, powers_after_last, powers_after_window}
use Rattle.step_laws.proofs.Steps.{steps_stay_within_their_radius}
use Rattle.step_laws.proofs.Steps.{from_first, near_first}
use Rattle.step_laws.proofs.PairSteps.{later_rounding_is_small}

-- a stored start of a half is of norm at most 17/16
stored_start : (d rad : ℕ) (y mid : Vector) → IsStartNear Sup d (whole (pos 1)) rad y mid
    → norm_of_vector Sup mid ≤ℚ over (pos 17) 16
stored_start d rad y mid s = join (norm_of_vector Sup mid) (norm_of_vector Sup y) (distance Sup y mid)
    (units rad) (norm_by_distance Sup y mid) s.small s.near (radius_at_most rad s.radius)
  where
    join : (m x e r : Fraction) → m ≤ℚ x +ℚ e → x ≤ℚ whole (pos 1) → e ≤ℚ r → r ≤ℚ over (pos 1) (2 ^ 19)
        → m ≤ℚ over (pos 17) 16
    join m x e r h1 h2 h3 h4 = linear (m ∷ x ∷ e ∷ r ∷ []) (h1 ⊞ h2 ⊞ h3 ⊞ h4) (hlevel claims) refl

-- the first half stops where the pair does
first_stops : {degree : ℕ} {p : CoupledPair} {w z : ℕ → Vector} → PairMayStop degree p w z
    → MayStop degree p.first w
first_stops (pair_at_last e) = at_last e
first_stops (pair_after_window d early empty free_empty second_empty second_free_empty coupling_empty first_window
    window) = after_window d early empty free_empty first_window

-- and the second half's powers after the degree are small
second_powers : (degree : ℕ) (stored exact : CoupledPair) (w z : ℕ → Vector) → PairStandsFor stored exact
    → exact.first.dimension ≤ 12 → PairMayStop degree stored w z → (n : ℕ) → degree ≤ n
    → later_powers Sup exact.second.matrices n ≤ℚ whole (pos 288) *ℚ units 1
second_powers degree stored exact w z stands few (pair_at_last e) n b =
    powers_after_last Sup exact.second.dimension degree stored.second.matrices exact.second.matrices
    stands.second.matrices (let h = stands.halves in omega (arith, few, h)) e n b
second_powers degree stored exact w z stands few (pair_after_window d early empty free_empty second_empty
    second_free_empty coupling_empty first_window window) n b =
    powers_after_window Sup exact.second.dimension degree stored.second.matrices exact.second.matrices
    stands.second.matrices (let h = stands.halves in omega (arith, few, h)) d early second_empty n b

pub first_halves_stay_within_their_radius : FirstHalvesStayWithinTheirRadius
first_halves_stay_within_their_radius kappa40 rad rad2 received degree n c stored exact y mid new y2 mid2 new2 w z s
    b =
    steps_stay_within_their_radius Sup kappa40 rad degree n stored.first exact.first y mid new w s.stands.first
    (omega (arith, s.dimension)) s.tame.first s.first_step (first_stops s.stops)
    (record {
      fits = s.first_start.fits;
      small = linear (norm_of_vector Sup y ∷ []) (s.first_start.small ⊞ natural 1 1) (hlevel claims) refl;
      near = s.first_start.near;
      radius = s.first_start.radius;
    }) b

-- a step of a pair starts from its first coefficients
from_both_first : {kappa40 rad rad2 received degree : ℕ} {c : Fraction} {stored exact : CoupledPair}
    {y mid new y2 mid2 new2 : Vector} {w z : ℕ → Vector}
    → IsPairStep kappa40 rad rad2 received degree c stored exact y mid new y2 mid2 new2 w z
    → IsPairStep kappa40 rad rad2 received degree c stored exact y (w 0) new y2 (z 0) new2 w z
from_both_first {rad = rad} {rad2 = rad2} {exact = exact} {y = y} {mid = mid} {y2 = y2} {mid2 = mid2} {w = w}
    {z = z} s = record {
      stands = s.stands;
      dimension = s.dimension;
      tame = s.tame;
      first_step = from_first s.first_step;
      second_step = from_first s.second_step;
      stops = s.stops;
      first_start =
          near_first Sup exact.first.dimension rad (whole (pos 1)) y mid (w 0) s.first_step.starts s.first_start;
      second_start = near_first Sup exact.first.dimension rad2 (whole (pos 1)) y2 mid2 (z 0) s.second_step.starts
          s.second_start;
      receives = s.receives;
    }

second_steps_from : (kappa40 rad rad2 received degree n : ℕ) (c : Fraction) (stored exact : CoupledPair)
    (y mid new y2 mid2 new2 : Vector) (w z : ℕ → Vector)
    → IsPairStep kappa40 rad rad2 received degree c stored exact y mid new y2 mid2 new2 w z → degree ≤ n
    → length mid2 ≤ exact.second.dimension
    → distance Sup (second_taylor_value exact y y2 n) new2 ≤ℚ units (grow rad2 kappa40 (received + 1023))
second_steps_from kappa40 rad rad2 received degree n c stored exact y mid new y2 mid2 new2 w z s b fits =
    join (distance Sup (second_taylor_value exact y y2 n) new2)
    (distance Sup (second_taylor_value exact y y2 n) (second_taylor_value exact mid mid2 n))
    (distance Sup (second_taylor_value exact mid mid2 n) new2) (growth_of kappa40)
    (later_powers Sup exact.second.matrices n) (distance Sup y2 mid2) (units rad2)
    (distance Sup y mid) (units rad) (whole (pos rad)) (whole (pos received)) (units (received + 1023))
    (units (grow rad2 kappa40 (received + 1023)))
    (triangle Sup (second_taylor_value exact y y2 n) (second_taylor_value exact mid mid2 n) new2)
    (second_errors_grow kappa40 c exact y y2 mid mid2 n s.tame
    (subst (λ d. length y2 ≤ d) (sym s.stands.halves) s.second_start.fits)
    fits)
    (second_powers degree stored exact w z s.stands s.dimension s.stops n b)
    (norm_natural Sup (subtract_lists y2 mid2)) (radius_at_most rad2 s.second_start.radius)
    s.second_start.near s.first_start.near (units_are rad)
    (later_rounding_is_small kappa40 degree c stored exact mid new mid2 new2 w z s.stands s.dimension s.tame
    s.first_step s.second_step (stored_start exact.first.dimension rad y mid s.first_start)
    (stored_start exact.first.dimension rad2 y2 mid2 s.second_start) s.stops n b)
    (natural kappa40 (2 ^ 40)) coupling_natural s.receives
    (units_are (received + 1023) ∙ ap (λ t. t *ℚ units 1) (whole_sum received 1023))
    (grown rad2 kappa40 (received + 1023))
  where
    coupling_natural : whole (pos 0) ≤ℚ c
    coupling_natural = linear
        (c ∷ sum_to (length exact.coupling) (matrix_norm_at Sup exact.coupling) ∷ [])
        (natural 16 15 ⊠ (sum_natural (length exact.coupling) (matrix_norm_at Sup exact.coupling)
        (matrix_norms_natural Sup exact.coupling) ⊞ s.tame.total_coupling)) (hlevel claims) refl

    join : (x p q g l e r d rf rw1 m a t : Fraction) → x ≤ℚ p +ℚ q
        → p ≤ℚ (whole (pos 1) +ℚ g +ℚ l) *ℚ e +ℚ c *ℚ d → l ≤ℚ whole (pos 288) *ℚ units 1
        → whole (pos 0) ≤ℚ e → r ≤ℚ over (pos 1) (2 ^ 19) → e ≤ℚ r → d ≤ℚ rf
        → rf ≡ rw1 *ℚ units 1 → q ≤ℚ units 966 → whole (pos 0) ≤ℚ g → whole (pos 0) ≤ℚ c
        → c *ℚ rw1 ≤ℚ m → a ≡ (m +ℚ whole (pos 1023)) *ℚ units 1
        → (whole (pos 1) +ℚ g) *ℚ r +ℚ a ≤ℚ t → x ≤ℚ t
    join x p q g l e r d rf rw1 m a t h1 h2 hl he hr h3 h4 e1 h5 hg hc h6 e2 h7 =
        linear (x ∷ p ∷ q ∷ g ∷ l ∷ e ∷ r ∷ d ∷ rw1 ∷ m ∷ t ∷ c ∷ [])
        (h1 ⊞ h2 ⊞ hl ⊠ he ⊞ natural 288 (2 ^ 64) ⊠ (h3 ⊞ hr) ⊞ h3 ⊞ hg ⊠ h3 ⊞ hc ⊠ (rw e1 at h4)
        ⊞ natural 1 (2 ^ 64) ⊠ h6 ⊞ h5 ⊞ (rw e2 at h7))
        (hlevel claims) refl

pub second_halves_stay_within_their_radius : SecondHalvesStayWithinTheirRadius
second_halves_stay_within_their_radius kappa40 rad rad2 received degree n c stored exact y mid new y2 mid2 new2 w z s
    b =
    second_steps_from kappa40 rad rad2 received degree n c stored exact y (w 0) new y2 (z 0) new2 w z
    (from_both_first s) b
    (subst (λ d. length (z 0) ≤ d) s.stands.second.dimension (s.second_step.fits 0 (omega arith)))
