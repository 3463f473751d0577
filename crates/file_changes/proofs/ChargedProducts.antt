-- Charged products obey rules 3 to 14.
use Rattle.std.proofs.Common.{ℕ, ℤ, List, arith, inl, inr}
use Rattle.std.proofs.lemmas.Bool.{cases_lt, eq-eqb, ne_eqb}
use Rattle.model_specs.specs.Product.{Product, Sojourn, Lump}
use Rattle.model_specs.specs.RecordRules.{HasGoodLumps, HasGoodPayments, IsWellFormed}
use Rattle.file_changes.specs.Asks.{ChargeAsks}
use Rattle.file_changes.specs.Charges.{charged, charged_lumps, with_lumps, with_sojourns}
use Rattle.file_changes.specs.ContinuousCharges.{charged_sojourns}
use Rattle.file_changes.proofs.ChargedLumps.{charged_lumps_are_good}
use Rattle.file_changes.proofs.ChargedSojourns.{charged_sojourns_are_good}

module _ (product : Product) (formed : IsWellFormed product) where
  -- a product with other payments
  abbrev with_payments : List Sojourn → List Lump → Product
  with_payments sojourns lumps = with_lumps lumps (with_sojourns sojourns product)

  with_payments_is_well_formed : (sojourns : List Sojourn) (lumps : List Lump)
      → HasGoodPayments (with_sojourns sojourns product) → HasGoodLumps (with_lumps lumps product)
      → IsWellFormed (with_payments sojourns lumps)
  with_payments_is_well_formed sojourns lumps good_payments good_lumps = record {
    names = record {
      name = formed.names.name;
      some_state = formed.names.some_state;
      at_most_twelve = formed.names.at_most_twelve;
      states = formed.names.states;
      distinct = formed.names.distinct;
    };
    head = record {
      some_month = formed.head.some_month;
      at_most_a_century = formed.head.at_most_a_century;
      some_denominator = formed.head.some_denominator;
      largest_denominator = formed.head.largest_denominator;
      start = formed.head.start;
    };
    transitions = record {
      from = formed.transitions.from;
      to = formed.transitions.to;
      different = formed.transitions.different;
      distinct = formed.transitions.distinct;
    };
    curves = record {
      interest = formed.curves.interest;
      rates = formed.curves.rates;
      bounded_interest = formed.curves.bounded_interest;
      bounded_rates = formed.curves.bounded_rates;
    };
    payments = record {
      states = good_payments.states;
      distinct = good_payments.distinct;
      sojourns = good_payments.sojourns;
      sums = good_payments.sums;
      bounded_sojourns = good_payments.bounded_sojourns;
      bounded_sums = good_payments.bounded_sums;
    };
    lumps = record {
      dates = good_lumps.dates;
      states = good_lumps.states;
      amounts = good_lumps.amounts;
      distinct = good_lumps.distinct;
    };
    pattern = record {
      payers = formed.pattern.payers;
      distinct = formed.pattern.distinct;
      until_above_0 = formed.pattern.until_above_0;
      until_within = formed.pattern.until_within;
      every = formed.pattern.every;
      never_until = formed.pattern.never_until;
      never_every = formed.pattern.never_every;
    };
  }

  own_payments_are_good : HasGoodPayments (with_sojourns product.sojourns product)
  own_payments_are_good = record {
    states = formed.payments.states;
    distinct = formed.payments.distinct;
    sojourns = formed.payments.sojourns;
    sums = formed.payments.sums;
    bounded_sojourns = formed.payments.bounded_sojourns;
    bounded_sums = formed.payments.bounded_sums;
  }

  own_lumps_are_good : HasGoodLumps (with_lumps product.lumps product)
  own_lumps_are_good = record {
    dates = formed.lumps.dates;
    states = formed.lumps.states;
    amounts = formed.lumps.amounts;
    distinct = formed.lumps.distinct;
  }

  pub charged_is_well_formed : (amount : ℤ) → ((part : ℕ) → ChargeAsks amount product part)
      → IsWellFormed (charged amount product)
  charged_is_well_formed amount asks = elim (cases_lt 0 product.pattern.every) [
    | inl dated ↦ rw (ne_eqb product.pattern.every 0 (λ none. omega (arith, dated, none)))
        (with_payments_is_well_formed product.sojourns (charged_lumps amount product) own_payments_are_good
        (charged_lumps_are_good product formed amount ((asks 5).dated (omega (arith, dated)))))
    | inr continuous ↦ rw (eq-eqb product.pattern.every 0 (omega (arith, continuous)))
        (with_payments_is_well_formed (charged_sojourns amount product) product.lumps
        (charged_sojourns_are_good product formed amount (asks 4) ((asks 5).continuous (omega (arith, continuous))))
        own_lumps_are_good)
  ]
