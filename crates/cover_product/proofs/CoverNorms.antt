-- The ledgers and the norms of the product, computed.
use Rattle.std.specs.Prelude.{◌≡◌, ℕ, refl}
use Rattle.std.proofs.Common.{ap, ◌∙◌, lit<, lit≤}
use mathlib.Core.Quot.{sound}
use Rattle.frac_laws.specs.Fraction.{opposite, size, greater, ◌+ℚ◌, ◌*ℚ◌, ◌-ℚ◌, is_not_negative}
use Rattle.frac_laws.specs.Ledger.{scale_of_bound}
use Rattle.frac_laws.specs.Norms.{Sup}
use Rattle.cell_laws.specs.Pairs.{CoupledPair}
use Rattle.cell_laws.specs.Tame.{weighted_norm_of_vectors, weighted_norm, total_norm}
use Rattle.model_specs.specs.Payments.{payment_plan, pattern_plan}
use Rattle.model_specs.specs.Ledgers.{bound1024, scale}
use Rattle.model_specs.specs.Systems.{norberg_pair}
use Rattle.model_laws.proofs.Scales.{scale_between}
use Rattle.cell_bounds.specs.ScaledSystems.{scaling, scaled_pair}
use Rattle.product_cells.specs.EachCell.{backward_cell}
use Rattle.cover_product.specs.Cover.{cover, CoverLedgers, CoverMonths, ThieleNorms, SecondNorms, CouplingNorms}
use Rattle.cover_product.specs.Cover.{KolmogorovNorms}

cover_bound : bound1024 cover (payment_plan cover) ≡ 18371192
cover_bound = refl

cover_pattern : bound1024 cover (pattern_plan cover) ≡ 2080
cover_pattern = refl

cover_scale : scale cover (payment_plan cover) ≡ 15
cover_scale = ap scale_of_bound cover_bound ∙ scale_between 18371192 14 (lit< tt) (lit≤ tt)

pub cover_ledgers : CoverLedgers
cover_ledgers = record {
  bound_is = cover_bound;
  scale_is = cover_scale;
  pattern_bound_is = cover_pattern;
  pattern_scale_is = ap scale_of_bound cover_pattern ∙ scale_between 2080 1 (lit< tt) (lit≤ tt);
}

pub cover_months : CoverMonths
cover_months = (refl, refl, refl, refl)

pub kolmogorov_norms : KolmogorovNorms
unfolding ◌+ℚ◌ ◌*ℚ◌ ◌-ℚ◌ opposite is_not_negative greater size
kolmogorov_norms = record {
  total_is = sound refl;
  weights_are = sound refl;
  free_is = sound refl;
  factor_is = sound refl;
}

-- the cell's pair by the scale's power of two
abbrev scaled_by : ℕ → CoupledPair
scaled_by g = scaled_pair (scaling g) (norberg_pair (backward_cell cover (payment_plan cover) 1 7))

pub thiele_norms : ThieleNorms
unfolding ◌+ℚ◌ ◌*ℚ◌ ◌-ℚ◌ opposite is_not_negative greater size
thiele_norms = record {
  total_is = sound refl;
  weights_are = sound refl;
  free_is = ap (λ g. weighted_norm_of_vectors Sup (scaled_by g).first.free) cover_scale ∙ sound refl;
  factor_is = sound refl;
}

pub second_norms : SecondNorms
unfolding ◌+ℚ◌ ◌*ℚ◌ ◌-ℚ◌ opposite is_not_negative greater size
second_norms = record {
  total_is = sound refl;
  weights_are = sound refl;
  free_is = ap (λ g. weighted_norm_of_vectors Sup (scaled_by g).second.free) cover_scale ∙ sound refl;
  factor_is = sound refl;
}

pub coupling_norms : CouplingNorms
unfolding ◌+ℚ◌ ◌*ℚ◌ ◌-ℚ◌ opposite is_not_negative greater size
coupling_norms = (
  ap (λ g. total_norm Sup (scaled_by g).coupling) cover_scale ∙ sound refl,
  ap (λ g. weighted_norm Sup (scaled_by g).coupling) cover_scale ∙ sound refl,
)
