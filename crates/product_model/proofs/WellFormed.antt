-- Lawful parts that fit together make a product that obeys the rules.
use Rattle.std.specs.Prelude.{◌≢◌, ℕ, ◌<◌, ◌≤◌, All, [], length, slice_index_or}
use Rattle.std.proofs.Common.{sym, arith, subst}
use Rattle.model_specs.specs.Product.{Transition}
use Rattle.model_specs.specs.RecordRules.{IsWellFormed, HasGoodNames, HasGoodHead, HasGoodTransitions, HasGoodCurves}
use Rattle.model_specs.specs.RecordRules.{HasGoodPayments, HasGoodLumps, HasGoodPattern, AreDistinct}
use Rattle.model_specs.specs.RecordRules.{IsCurve, IsBoundedCurve, IsPayment, IsBoundedPayment}
use Rattle.product_model.specs.Parts.{Parts, FitTogether, product_of_parts, transition_of_parts, no_curve}
use Rattle.product_model.specs.LawfulParts.{AreLawful}
use Rattle.product_model.proofs.PartsAgree.{edges_of_parts}
use Rattle.whole_laws.proofs.ListsByPlace.{All-list_of}

has_good_names : (parts : Parts) → FitTogether parts → AreLawful parts → HasGoodNames (product_of_parts parts)
has_good_names parts fit lawful = record {
  name = fit.name;
  some_state = omega (arith, lawful.payments.some_state, fit.state_count);
  at_most_twelve = omega (arith, lawful.payments.most_states, fit.state_count);
  states = fit.states;
  distinct = lawful.graph.names;
}

has_good_head : (parts : Parts) → FitTogether parts → AreLawful parts → HasGoodHead (product_of_parts parts)
has_good_head parts fit lawful = record {
  some_month = omega (arith, lawful.payments.some_month, fit.payments);
  at_most_a_century = omega (arith, lawful.payments.most_months, fit.payments);
  some_denominator = fit.some_denominator;
  largest_denominator = fit.largest_denominator;
  start = fit.start;
}

-- what holds of the transition at each place holds of all
each_transition : (parts : Parts) (P : Transition → Type 0)
    → ((e : ℕ) → e < length parts.graph.edges → P (transition_of_parts parts e))
    → All P (product_of_parts parts).transitions
each_transition parts P holds = All-list_of P (length parts.graph.edges) (transition_of_parts parts) holds

has_good_transitions : (parts : Parts) → AreLawful parts → HasGoodTransitions (product_of_parts parts)
has_good_transitions parts lawful = record {
  from = each_transition parts (λ t. t.from < length parts.graph.names) (λ e inside. lawful.graph.from e (0, 0) inside);
  to = each_transition parts (λ t. t.to < length parts.graph.names) (λ e inside. lawful.graph.to e (0, 0) inside);
  different = each_transition parts (λ t. t.from ≢ t.to) (λ e inside. lawful.graph.different e (0, 0) inside);
  distinct = subst (AreDistinct {A = ℕ × ℕ} (0, 0)) (sym (edges_of_parts parts)) lawful.graph.edges;
}

has_good_curves : (parts : Parts) → FitTogether parts → AreLawful parts → HasGoodCurves (product_of_parts parts)
has_good_curves parts fit lawful = record {
  interest = subst (λ months. IsCurve months parts.interest.pieces) fit.interest lawful.interest.rule_8;
  rates = each_transition parts (λ t. IsCurve parts.months t.rate)
      (λ e inside.
      let within : e < length parts.rates = omega (arith, fit.rate_count) in
      subst (λ months. IsCurve months (slice_index_or parts.rates e no_curve).pieces)
      (fit.rates e no_curve within) (lawful.rates e no_curve within).rule_8);
  bounded_interest = subst (λ months. IsBoundedCurve months parts.interest.pieces) fit.interest lawful.interest.rule_9;
  bounded_rates = each_transition parts (λ t. IsBoundedCurve parts.months t.rate)
      (λ e inside.
      let within : e < length parts.rates = omega (arith, fit.rate_count) in
      subst (λ months. IsBoundedCurve months (slice_index_or parts.rates e no_curve).pieces)
      (fit.rates e no_curve within) (lawful.rates e no_curve within).rule_9);
}

has_good_payments : (parts : Parts) → FitTogether parts → AreLawful parts → HasGoodPayments (product_of_parts parts)
has_good_payments parts fit lawful =
    let payments = lawful.payments.payments in
    record {
      states = subst (λ n. All (λ s. s.state < n) parts.payments.sojourns) fit.state_count payments.states;
      distinct = payments.distinct;
      sojourns = subst (λ months. All (λ s. IsPayment months s.steps) parts.payments.sojourns) fit.payments
          payments.sojourns;
      sums = each_transition parts (λ t. 1 ≤ length t.sum → IsPayment parts.months t.sum)
          (λ e inside some.
          subst (λ months. IsPayment months (slice_index_or parts.payments.sums e [])) fit.payments
          (payments.sums e [] (omega (arith, fit.sum_count)) some));
      bounded_sojourns = subst (λ months. All (λ s. IsBoundedPayment months s.steps) parts.payments.sojourns)
          fit.payments payments.bounded_sojourns;
      bounded_sums = each_transition parts (λ t. IsBoundedPayment parts.months t.sum)
          (λ e inside.
          subst (λ months. IsBoundedPayment months (slice_index_or parts.payments.sums e [])) fit.payments
          (payments.bounded_sums e [] (omega (arith, fit.sum_count))));
    }

has_good_lumps : (parts : Parts) → FitTogether parts → AreLawful parts → HasGoodLumps (product_of_parts parts)
has_good_lumps parts fit lawful =
    let lumps = lawful.payments.lumps in
    record {
      dates = subst (λ months. All (λ l. l.month ≤ months) parts.payments.lumps) fit.payments lumps.dates;
      states = subst (λ n. All (λ l. l.state < n) parts.payments.lumps) fit.state_count lumps.states;
      amounts = lumps.amounts;
      distinct = lumps.distinct;
    }

has_good_pattern : (parts : Parts) → FitTogether parts → AreLawful parts → HasGoodPattern (product_of_parts parts)
has_good_pattern parts fit lawful =
    let pattern = lawful.payments.pattern in
    record {
      payers = subst (λ n. All (λ i. i < n) parts.payments.pattern.payers) fit.state_count pattern.payers;
      distinct = pattern.distinct;
      until_above_0 = pattern.until_above_0;
      until_within = omega (arith, pattern.until_within, fit.payments);
      every = pattern.every;
      never_until = pattern.never_until;
      never_every = pattern.never_every;
    }

pub lawful_parts_are_well_formed : (parts : Parts) → FitTogether parts → AreLawful parts
    → IsWellFormed (product_of_parts parts)
lawful_parts_are_well_formed parts fit lawful = record {
  names = has_good_names parts fit lawful;
  head = has_good_head parts fit lawful;
  transitions = has_good_transitions parts lawful;
  curves = has_good_curves parts fit lawful;
  payments = has_good_payments parts fit lawful;
  lumps = has_good_lumps parts fit lawful;
  pattern = has_good_pattern parts fit lawful;
}
