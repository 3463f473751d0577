-- The product meets the rules.
use Rattle.std.specs.Prelude.{◌≡◌, ℕ, suc, ◌<◌, nat_le, List, [], ◌∷◌, length}
use Rattle.std.proofs.Common.{refl, ap, lit≤, arith}
use Rattle.std.proofs.lemmas.Bool.{leb-true}
use Rattle.model_specs.specs.RecordRules.{HasGoodPattern}
use Rattle.cover_product.specs.Cover.{cover, CoverIsAdmissible}
use Rattle.cover_product.proofs.DecidedRules.{all_by, distinct_by}
use Rattle.cover_product.proofs.DecidedParts.{names_by, head_by, transitions_by, curves_by, payments_by, lumps_by}

-- its pattern: one payer, up to the term
cover_pattern : HasGoodPattern cover
cover_pattern = record {
  payers = all_by (λ i. nat_le (suc i) 3) (λ i. i < 3) cover.pattern.payers (λ i h. leb-true (suc i) 3 h) refl;
  distinct = distinct_by (λ i. i) 0 cover.pattern.payers refl;
  until_above_0 = λ b. lit≤ tt;
  until_within = lit≤ tt;
  every = lit≤ tt;
  never_until = λ e. absurd (some_payer e);
  never_every = λ e. absurd (some_payer e);
}
  where
    some_payer : ◌≡◌ {A = List ℕ} (0 ∷ []) [] → ⊥
    some_payer e = omega (arith, ap length e)

pub cover_is_admissible : CoverIsAdmissible
cover_is_admissible = record {
  well_formed = record {
    names = names_by length cover refl;
    head = head_by cover refl;
    transitions = transitions_by cover refl;
    curves = curves_by cover refl;
    payments = payments_by cover refl;
    lumps = lumps_by cover refl;
    pattern = cover_pattern;
  };
  valuation = refl;
}
