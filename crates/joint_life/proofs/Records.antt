-- The joint record obeys rules 3 to 14.
use Rattle.std.proofs.Common.{◌≡◌, ℕ, ◌<◌, ◌≤◌, List, [], ◌∷◌, length, map, get_or}
use Rattle.std.proofs.Common.{arith, refl, ap, sym, ◌∙◌, subst}
use Rattle.std.specs.Prelude.{Bool, true, false, pos, ◌==◌, if◌then◌else◌, unsigned_abs}
use Rattle.named_numbers.specs.Numbers.{most_lump}
use Rattle.std.proofs.lemmas.List.{get_or-map, length-map}
use Rattle.std.proofs.lemmas.List.Elements.{All-map}
use Rattle.std.proofs.lemmas.Simd.{map-map}
use Rattle.model_specs.specs.Product.{Product, Sojourn, Lump, transition_at, no_transition}
use Rattle.model_specs.specs.RecordRules.{AreDistinct, IsCurve, IsBoundedCurve, IsPayment}
use Rattle.model_specs.specs.RecordRules.{IsBoundedPayment, HasGoodHead, HasGoodCurves, HasGoodPayments, HasGoodLumps}
use Rattle.model_specs.specs.RecordRules.{HasGoodPattern}
use Rattle.joint_life.specs.Joining.{CanJoin}
use Rattle.joint_life.specs.JointRecord.{pair_of, first_of, second_of, joint_of}
use Rattle.joint_life.specs.Laws.{JointRecordsAreWellFormed}
use Rattle.joint_life.proofs.DistinctLists.{distinct_map}
use Rattle.joint_life.proofs.PairIndices.{pair_inside, first_again, state_count, joint_names}
use Rattle.joint_life.proofs.ShorterCurves.{shorter_curve, shorter_bounded}
use Rattle.joint_life.proofs.Transitions.{each_transition, joint_transitions}

-- what holds of a list and of the empty one holds of either, by a test
either : {A : Type 0} (P : List A → Type 0) (test : Bool) (xs : List A) → P xs → P [] → P (if test then xs else [])
either P true xs some none = some
either P false xs some none = none

-- values that are told apart by a part of each member still are when another part takes its place one for one
distinct_again : {A B C : Type 0} (b : B) (c : C) (d : A) (f : A → B) (g : A → C) (xs : List A)
    → AreDistinct b (map f xs)
    → ((i j : ℕ) → i < length xs → j < length xs → g (get_or xs i d) ≡ g (get_or xs j d)
    → f (get_or xs i d) ≡ f (get_or xs j d))
    → AreDistinct c (map g xs)
distinct_again b c d f g xs distinct back i j low below equal =
    let inside : j < length xs = subst (λ n. j < n) (length-map xs g) below in
    let first : i < length xs = omega (arith, low, inside) in
    distinct i j low (subst (λ n. j < n) (sym (length-map xs f)) inside)
    (get_or-map f xs i d b first
    ∙ back i j first inside (sym (get_or-map g xs i d c first) ∙ equal ∙ get_or-map g xs j d c inside)
    ∙ sym (get_or-map f xs j d b inside))

-- a sojourn and a lump of the first life, while the second one is in its start state
abbrev pub joint_sojourn : (b : Product) → Sojourn → Sojourn
joint_sojourn b s = record { state = pair_of b s.state b.start; steps = s.steps }

abbrev pub joint_lump : (b : Product) → Lump → Lump
joint_lump b l = record { month = l.month; state = pair_of b l.state b.start; amount = l.amount }

module _ (a b : Product) (h : CanJoin a b) where
  start_inside : b.start < length b.states
  start_inside = h.second.head.start

  -- a state of the first life, with the start of the second
  with_start : (i : ℕ) → i < length a.states → pair_of b i b.start < length (joint_of a b).states
  with_start i inside = subst (λ n. pair_of b i b.start < n) (sym (state_count a b h))
      (pair_inside a b h i b.start inside start_inside)

  state_again : (i k : ℕ) → pair_of b i b.start ≡ pair_of b k b.start → i ≡ k
  state_again i k same =
      sym (first_again a b h i b.start start_inside) ∙ ap (first_of b) same ∙ first_again a b h k b.start start_inside

  joint_head : HasGoodHead (joint_of a b)
  joint_head = record {
    some_month = h.first.head.some_month;
    at_most_a_century = h.first.head.at_most_a_century;
    some_denominator = h.first.head.some_denominator;
    largest_denominator = h.first.head.largest_denominator;
    start = with_start a.start h.first.head.start;
  }

  joint_curves : HasGoodCurves (joint_of a b)
  joint_curves = record {
    interest = h.first.curves.interest;
    rates = each_transition a b h (λ t. IsCurve a.months t.rate)
        (λ pair e inside exit. h.first.curves.rates e no_transition exit.inside)
        (λ pair e inside exit. shorter_curve b.months a.months (transition_at b e).rate
        (h.second.curves.rates e no_transition exit.inside) h.first.head.some_month h.term);
    bounded_interest = h.first.curves.bounded_interest;
    bounded_rates = each_transition a b h (λ t. IsBoundedCurve a.months t.rate)
        (λ pair e inside exit. h.first.curves.bounded_rates e no_transition exit.inside)
        (λ pair e inside exit. shorter_bounded b.months a.months (transition_at b e).rate
        (h.second.curves.rates e no_transition exit.inside) h.first.head.some_month h.term
        (h.second.curves.bounded_rates e no_transition exit.inside));
  }

  joint_payments : HasGoodPayments (joint_of a b)
  joint_payments = record {
    states = All-map (λ (s : Sojourn). s.state < length (joint_of a b).states) (joint_sojourn b) a.sojourns
        (λ k d below. with_start (get_or a.sojourns k d).state (h.first.payments.states k d below));
    distinct = subst (AreDistinct 0) (sym (map-map (λ (s : Sojourn). s.state) (joint_sojourn b) a.sojourns))
        (distinct_again 0 0 (record { state = 0; steps = [] }) (λ (s : Sojourn). s.state)
        (λ (s : Sojourn). pair_of b s.state b.start) a.sojourns h.first.payments.distinct
        (λ i j inside_i inside_j same. state_again _ _ same));
    sojourns = All-map (λ (s : Sojourn). IsPayment a.months s.steps) (joint_sojourn b) a.sojourns
        h.first.payments.sojourns;
    sums = each_transition a b h (λ t. 1 ≤ length t.sum → IsPayment a.months t.sum)
        (λ pair e inside exit. either (λ steps. 1 ≤ length steps → IsPayment a.months steps)
        (second_of b pair == b.start) (transition_at a e).sum (h.first.payments.sums e no_transition exit.inside)
        (λ some. absurd (omega (arith, some))))
        (λ pair e inside exit some. absurd (omega (arith, some)));
    bounded_sojourns = All-map (λ (s : Sojourn). IsBoundedPayment a.months s.steps) (joint_sojourn b) a.sojourns
        h.first.payments.bounded_sojourns;
    bounded_sums = each_transition a b h (λ t. IsBoundedPayment a.months t.sum)
        (λ pair e inside exit. either (IsBoundedPayment a.months) (second_of b pair == b.start)
        (transition_at a e).sum (h.first.payments.bounded_sums e no_transition exit.inside) no_steps)
        (λ pair e inside exit. no_steps);
  }
    where
      no_steps : IsBoundedPayment a.months []
      no_steps k below = absurd (omega (arith, below))

  joint_lumps : HasGoodLumps (joint_of a b)
  joint_lumps = record {
    dates = All-map (λ (l : Lump). l.month ≤ a.months) (joint_lump b) a.lumps h.first.lumps.dates;
    states = All-map (λ (l : Lump). l.state < length (joint_of a b).states) (joint_lump b) a.lumps
        (λ k d below. with_start (get_or a.lumps k d).state (h.first.lumps.states k d below));
    amounts = All-map (λ (l : Lump). unsigned_abs l.amount ≤ most_lump) (joint_lump b) a.lumps h.first.lumps.amounts;
    distinct = subst (AreDistinct {A = ℕ × ℕ} (0, 0))
        (sym (map-map {C = ℕ × ℕ} (λ (l : Lump). (l.month, l.state)) (joint_lump b) a.lumps))
        (distinct_again {B = ℕ × ℕ} {C = ℕ × ℕ} (0, 0) (0, 0) (record { month = 0; state = 0; amount = pos 0 })
        (λ (l : Lump). (l.month, l.state)) (λ (l : Lump). (l.month, pair_of b l.state b.start)) a.lumps
        h.first.lumps.distinct
        (λ i j inside_i inside_j same.
        ap (λ (at : ℕ × ℕ). (at.0, first_at i)) same ∙ ap (λ s. (month_at j, s)) (state_again _ _
        (ap (λ (at : ℕ × ℕ). at.1) same))));
  }
    where
      first_at : ℕ → ℕ
      first_at i = (get_or a.lumps i (record { month = 0; state = 0; amount = pos 0 })).state

      month_at : ℕ → ℕ
      month_at j = (get_or a.lumps j (record { month = 0; state = 0; amount = pos 0 })).month

  joint_pattern : HasGoodPattern (joint_of a b)
  joint_pattern = record {
    payers = All-map (λ i. i < length (joint_of a b).states) (λ i. pair_of b i b.start) a.pattern.payers
        (λ k d below. with_start (get_or a.pattern.payers k d) (h.first.pattern.payers k d below));
    distinct = distinct_map 0 0 (λ i. pair_of b i b.start) a.pattern.payers h.first.pattern.distinct
        (λ i j inside_i inside_j same. state_again _ _ same);
    until_above_0 = λ some. h.first.pattern.until_above_0 (omega (arith, some, payer_count));
    until_within = h.first.pattern.until_within;
    every = h.first.pattern.every;
    never_until = λ none. h.first.pattern.never_until (no_payers a.pattern.payers (λ i. pair_of b i b.start) none);
    never_every = λ none. h.first.pattern.never_every (no_payers a.pattern.payers (λ i. pair_of b i b.start) none);
  }
    where
      payer_count : length (map (λ i. pair_of b i b.start) a.pattern.payers) ≡ length a.pattern.payers
      payer_count = length-map a.pattern.payers (λ i. pair_of b i b.start)

      no_payers : (xs : List ℕ) (f : ℕ → ℕ) → map f xs ≡ [] → xs ≡ []
      no_payers [] f none = refl
      no_payers (x ∷ xs) f none = absurd (cc none)

pub joint_records_are_well_formed : JointRecordsAreWellFormed
joint_records_are_well_formed a b h = record {
  names = joint_names a b h;
  head = joint_head a b h;
  transitions = joint_transitions a b h;
  curves = joint_curves a b h;
  payments = joint_payments a b h;
  lumps = joint_lumps a b h;
  pattern = joint_pattern a b h;
}
