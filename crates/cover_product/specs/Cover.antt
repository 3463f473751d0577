-- A product with all that a product may have: three states, curves of degree five, payments of degree three that vary,
-- lumps and a premium pattern. It meets the rules; the sums of norms in one of its cells were computed outside.
use Rattle.std.specs.Prelude.{◌≡◌, ℕ, ℤ, pos, negsuc, codes, [], ◌∷◌}
use Rattle.frac_laws.specs.Fraction.{Fraction, over, whole}
use Rattle.frac_laws.specs.Norms.{Norm, Sup, Sum}
use Rattle.cell_laws.specs.Systems.{System}
use Rattle.cell_laws.specs.Pairs.{CoupledPair}
use Rattle.cell_laws.specs.Tame.{total_norm, weighted_norm, weighted_norm_of_vectors, one_factor_norm}
use Rattle.model_specs.specs.Curve.{Piece}
use Rattle.model_specs.specs.Product.{Product, Step}
use Rattle.model_specs.specs.Payments.{payment_plan, pattern_plan}
use Rattle.model_specs.specs.Growth.{kappa40, pay}
use Rattle.model_specs.specs.Ledgers.{bound1024, scale}
use Rattle.model_specs.specs.Systems.{norberg_pair, kolmogorov_system}
use Rattle.model_specs.specs.ValuationRules.{IsAdmissible}
use Rattle.cell_bounds.specs.ScaledSystems.{scaled_pair}
use Rattle.product_cells.specs.EachCell.{backward_cell, forward_cell, plan_scaling}

-- a piece of a curve from a month on, by its six coefficients
abbrev pub curve_piece : ℕ → ℤ → ℤ → ℤ → ℤ → ℤ → ℤ → Piece
curve_piece from c0 c1 c2 c3 c4 c5 = record { from = from; c = c0 ∷ c1 ∷ c2 ∷ c3 ∷ c4 ∷ c5 ∷ [] }

-- a step of a payment from a month on, by its four coefficients
abbrev pub payment_step : ℕ → ℤ → ℤ → ℤ → ℤ → Step
payment_step from c0 c1 c2 c3 = record { from = from; c = c0 ∷ c1 ∷ c2 ∷ c3 ∷ [] }

-- two months of three states, 0 active, 1 disabled and 2 dead; curves are over 1000
abbrev pub cover : Product
cover = record {
  name = codes "cover";
  states = codes "active" ∷ codes "disabled" ∷ codes "dead" ∷ [];
  start = 0;
  months = 2;
  den = 1000;
  interest = curve_piece 0 (pos 30) (pos 24) (negsuc 9) (pos 5) (pos 3) (pos 2)
      ∷ curve_piece 1 (negsuc 11) (pos 36) (pos 4) (negsuc 4) (pos 2) (pos 1) ∷ [];
  transitions = record {
    from = 0;
    to = 1;
    rate = curve_piece 0 (pos 120) (pos 60) (negsuc 11) (pos 5) (pos 3) (pos 1) ∷ [];
    sum = payment_step 0 (pos 1000) (negsuc 47) (pos 12) (pos 5) ∷ [];
  } ∷ record {
    from = 0;
    to = 2;
    rate = curve_piece 0 (pos 10) (pos 24) (pos 6) (pos 3) (pos 2) (pos 1)
        ∷ curve_piece 1 (pos 12) (negsuc 11) (pos 6) (pos 1) (pos 1) (pos 1) ∷ [];
    sum = payment_step 0 (pos 5000) (pos 240) (pos 0) (pos 6)
        ∷ payment_step 1 (pos 4800) (negsuc 119) (pos 36) (pos 5) ∷ [];
  } ∷ record {
    from = 1;
    to = 0;
    rate = curve_piece 0 (pos 300) (negsuc 119) (pos 36) (pos 10) (pos 5) (pos 2) ∷ [];
    sum = [];
  } ∷ record {
    from = 1;
    to = 2;
    rate = curve_piece 0 (pos 25) (pos 12) (pos 5) (pos 1) (pos 4) (pos 1) ∷ [];
    sum = payment_step 0 (negsuc 2999) (pos 60) (pos 24) (pos 1) ∷ [];
  } ∷ [];
  sojourns = record { state = 0; steps = payment_step 0 (negsuc 1199) (pos 12) (pos 3) (pos 1) ∷ [] }
      ∷ record {
        state = 1;
        steps = payment_step 0 (pos 6000) (pos 120) (pos 5) (pos 2)
            ∷ payment_step 1 (pos 6100) (negsuc 59) (pos 7) (pos 3) ∷ [];
      } ∷ [];
  lumps = record { month = 2; state = 0; amount = pos 10000 }
      ∷ record { month = 1; state = 0; amount = negsuc 99 }
      ∷ record { month = 1; state = 2; amount = pos 700 }
      ∷ record { month = 0; state = 0; amount = pos 50 } ∷ [];
  pattern = record { payers = 0 ∷ []; until = 2; every = 1 };
}

-- it meets rules 3 to 18
abbrev pub CoverIsAdmissible : Type 0
CoverIsAdmissible = IsAdmissible cover

-- a product's ledgers: bound, in 1/1024 minor units, and scale, of its payment plan and of its pattern
pub record HasLedgers (product : Product) (bound g pattern_bound pattern_g : ℕ) : Type 0 where
  pub bound_is : bound1024 product (payment_plan product) ≡ bound
  pub scale_is : scale product (payment_plan product) ≡ g
  pub pattern_bound_is : bound1024 product (pattern_plan product) ≡ pattern_bound
  pub pattern_scale_is : scale product (pattern_plan product) ≡ pattern_g

-- those of the cover product
abbrev pub CoverLedgers : Type 0
CoverLedgers = HasLedgers cover 18371192 15 2080 2

-- what its two months count: the growth of a cell, in 1/2^40, and what it adds to the bound, in 1/1024 minor units
abbrev pub CoverMonths : Type 0
CoverMonths = (kappa40 cover 0 ≡ 3480097) × (kappa40 cover 1 ≡ 71605501)
    × (pay cover (payment_plan cover) 0 ≡ 32692) × (pay cover (payment_plan cover) 1 ≡ 33077)

-- the sums of norms of a system: of its matrices, of those weighted by powers of 8, of its free vectors so weighted,
-- and the norm of its one-factor map
pub record HasNorms (norm : Norm) (s : System) (total weights free factor : Fraction) : Type 0 where
  pub total_is : total_norm norm s.matrices ≡ total
  pub weights_are : weighted_norm norm s.matrices ≡ weights
  pub free_is : weighted_norm_of_vectors norm s.free ≡ free
  pub factor_is : one_factor_norm norm s ≡ factor

-- cell 7 of month 1, with values divided by the scale
abbrev pub cover_pair : CoupledPair
cover_pair = let plan = payment_plan cover in
    scaled_pair (plan_scaling cover plan) (norberg_pair (backward_cell cover plan 1 7))

-- its first half, which is Thiele's system
abbrev pub ThieleNorms : Type 0
ThieleNorms = HasNorms Sup cover_pair.first
    (over (pos 1528027552721) 949978046398464) (over (pos 39566537489) 24461180928000)
    (over (pos 169696800577810952801) 354577405862133891072000)
    (over (pos 3562522462732609231) 3562417673994240000)

-- its second half, which is that of the second moments
abbrev pub SecondNorms : Type 0
SecondNorms = HasNorms Sup cover_pair.second
    (over (pos 632895779223617) 400771988324352000) (over (pos 38849488811) 24461180928000)
    (over (pos 249576665091648303580222501) 256989098600727257294009951846400)
    (over (pos 1781313625735489231) 1781208836997120000)

-- its coupling: the sum of the norms, and that of the norms weighted by powers of 8
abbrev pub CouplingNorms : Type 0
CouplingNorms =
    (total_norm Sup cover_pair.coupling ≡ over (pos 1460343033147539413220197957) 1487205431717171627858853888000)
    × (weighted_norm Sup cover_pair.coupling ≡ over (pos 174149721680608385359) 177288702931066945536000)

-- Kolmogorov's system of cell 7 of month 1, forward
abbrev pub KolmogorovNorms : Type 0
KolmogorovNorms = HasNorms Sum (kolmogorov_system (forward_cell cover 1 7))
    (over (pos 7008156710897) 4274901208793088) (over (pos 7054189701859) 4274901208793088) (whole (pos 0))
    (whole (pos 1))
