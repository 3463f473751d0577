-- Laws of the order in the form of their statements.
use Rattle.std.specs.Prelude.{[], ◌∷◌}
use Rattle.std.proofs.Common.{refl}
use Rattle.frac_laws.specs.OrderLaws.{OrderIsTransitive, OrderIsAntisymmetric, BelowIsNotAtLeast}
use Rattle.frac_laws.specs.OrderLaws.{SumsKeepOrder}
use Rattle.frac_laws.specs.OrderLaws.{SumsKeepStrictOrder, ProductsKeepOrder, ProductsKeepStrictOrder}
use Rattle.frac_laws.specs.OrderLaws.{PositiveFactorsCancel, GreaterIsLeastUpperBound}
use Rattle.frac_laws.specs.OrderLaws.{LesserIsGreatestLowerBound}
use Rattle.frac_laws.proofs.Order as O
use Rattle.frac_laws.proofs.Linear.{linear, claims, ◌⊠◌}
use Rattle.frac_laws.proofs.Positive.{mul_lt, le_of_mul_le}
use Rattle.frac_laws.proofs.Extremes as E

pub transitive : OrderIsTransitive
transitive x y z h k = O.le_trans h k

pub antisymmetric : OrderIsAntisymmetric
antisymmetric x y h k = O.le_antisym h k

pub below : BelowIsNotAtLeast
below x y = (O.not_le_of_lt, O.lt_of_not_le)

pub sums : SumsKeepOrder
sums x y z w h k = O.add_mono h k

pub strict_sums : SumsKeepStrictOrder
strict_sums x y z w h k = O.add_lt_le h k

pub products : ProductsKeepOrder
products c x y h k = linear (c ∷ x ∷ y ∷ []) (h ⊠ k) (hlevel claims) refl

pub strict_products : ProductsKeepStrictOrder
strict_products c x y h k = mul_lt h k

pub cancel : PositiveFactorsCancel
cancel c x y h k = le_of_mul_le h k

pub upper : GreaterIsLeastUpperBound
upper x y r = (
  λ h. (
    O.le_trans (E.le_greater_left x y) h,
    O.le_trans
        (E.le_greater_right x y) h,
  ),
  λ h. E.greater_le x y h.0 h.1,
)

pub lower : LesserIsGreatestLowerBound
lower x y r = (
  λ h. (
    O.le_trans h (E.lesser_le_left x y),
    O.le_trans h
        (E.lesser_le_right x y),
  ),
  λ h. E.le_lesser x y h.0 h.1,
)
