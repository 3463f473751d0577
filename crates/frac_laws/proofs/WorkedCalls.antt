-- The ten calls of CALLING.md.
use Rattle.std.specs.Prelude.{pos, [], ◌∷◌}
use Rattle.std.proofs.Common.{refl, ap, sym, ◌∙◌}
use mathlib.Core.Path.{ap₂, fun_ext}
use Rattle.frac_laws.specs.Fraction.{over, whole, ◌+ℚ◌, ◌*ℚ◌}
use Rattle.frac_laws.specs.Sums.{sum_to}
use Rattle.frac_laws.specs.Rounding.{floor_of}
use Rattle.frac_laws.specs.WorkedCalls.{DifferenceOfSquares, MiddleIsHalfWay, ProductsDistributeOverSum}
use Rattle.frac_laws.specs.WorkedCalls.{EighthsMakeAQuarter, GrowthKeepsOrder, BoundIsDivided}
use Rattle.frac_laws.specs.WorkedCalls.{ThirdsMakeItStrict, EquationsAreUsed, SumOfSizesIsNotNegative}
use Rattle.frac_laws.specs.WorkedCalls.{FloorInUnitsIsWithinOne}
use Rattle.frac_laws.proofs.FractionTerms.{ring, terms}
use Rattle.frac_laws.proofs.Linear.{linear, linear_lt, equal, claims, ◌⊞◌, ◌⊠◌, ◌·◌}
use Rattle.frac_laws.proofs.Signs.{signs}
use Rattle.frac_laws.proofs.Order.{add_lt_le}
use Rattle.frac_laws.proofs.Positive.{mul_lt}
use Rattle.frac_laws.proofs.Sums.{sum_to_add}
use Rattle.frac_laws.proofs.Floors.{lt_next}

pub difference_of_squares : DifferenceOfSquares
difference_of_squares a b = ring (a ∷ b ∷ []) (hlevel terms) refl

pub middle_is_half_way : MiddleIsHalfWay
middle_is_half_way a b = ring (a ∷ b ∷ []) (hlevel terms) refl

pub products_distribute_over_sum : ProductsDistributeOverSum
products_distribute_over_sum n a b c =
    ap (sum_to n) (fun_ext (λ k. ring (a k ∷ b k ∷ c k ∷ []) (hlevel terms) refl))
    ∙ sum_to_add n (λ k. a k *ℚ b k) (λ k. a k *ℚ c k)

pub eighths_make_a_quarter : EighthsMakeAQuarter
eighths_make_a_quarter x y h k = linear (x ∷ y ∷ []) (h ⊞ k) (hlevel claims) refl

pub growth_keeps_order : GrowthKeepsOrder
growth_keeps_order a b c d h k = linear (a ∷ b ∷ c ∷ d ∷ []) (h ⊠ k) (hlevel claims) refl

pub bound_is_divided : BoundIsDivided
bound_is_divided w v x r e h k =
    linear (w ∷ v ∷ x ∷ r ∷ []) (h ⊠ k ⊞ x · sym e) (hlevel claims) refl

pub thirds_make_it_strict : ThirdsMakeItStrict
thirds_make_it_strict a b c d h k =
    linear_lt (a ∷ b ∷ c ∷ d ∷ []) (add_lt_le h k) (hlevel claims) refl

pub equations_are_used : EquationsAreUsed
equations_are_used a b c d e h k =
    equal (a ∷ b ∷ c ∷ d ∷ e ∷ []) (ap₂ (λ x y. e *ℚ x +ℚ e *ℚ y) h k) (hlevel claims) refl

pub sum_of_sizes_is_not_negative : SumOfSizesIsNotNegative
sum_of_sizes_is_not_negative n a x v h = hlevel signs

pub floor_in_units_is_within_one : FloorInUnitsIsWithinOne
floor_in_units_is_within_one n d unit a h =
    linear_lt (over n d ∷ whole (floor_of n (pos d)) ∷ unit ∷ []) (mul_lt h (lt_next n d a))
    (hlevel claims) refl
