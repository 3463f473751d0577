-- The run of both moments.
use Rattle.std.specs.Prelude.{◌≡◌, ℕ, suc, pos}
use Rattle.frac_laws.specs.Fraction.{whole}
use Rattle.model_specs.specs.Product.{Product}
use Rattle.model_specs.specs.Payments.{Plan}
use Rattle.model_specs.specs.Cells.{Backward, cells_of_32}
use Rattle.model_specs.specs.Runs.{first_before_term, moments_before_term, second_moment}
use Rattle.model_specs.specs.Rows.{variance}
use Rattle.model_laws.specs.Examples.{lump_on}
use Rattle.model_laws.specs.FlatLaws.{steady_product}

-- its first moments are those of the Thiele run
abbrev pub FirstMomentsAgree : Type 0
FirstMomentsAgree = (product : Product) (plan : Plan) (n k : ℕ) →
    (moments_before_term product plan n k).first ≡ first_before_term (cells_of_32 Backward) product plan n k

-- the second moment of a certain lump of 100 a month before it is 100^2, and its variance is 0, in every
-- degree from 1 on
abbrev pub LumpHasNoVariance : Type 0
LumpHasNoVariance = (n : ℕ) →
    let product = steady_product 1 (pos 0) (lump_on 1 (pos 100)) in
    (second_moment product (suc n) 0 0 ≡ whole (pos 10000)) × (variance product (suc n) 0 0 ≡ whole (pos 0))
