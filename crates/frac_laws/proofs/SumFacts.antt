-- Laws of sums in the form of their statements.
use Rattle.frac_laws.specs.SumLaws.{SizeOfSumIsWithinSizes, TotalOfListProduct, NumbersOfListProduct}
use Rattle.frac_laws.specs.SumLaws.{SumOfOneTerm, ConvolutionIsWithinTotals}
use Rattle.frac_laws.proofs.Sums as S
use Rattle.frac_laws.proofs.ListProducts as P
use Rattle.frac_laws.proofs.Convolutions as C

pub sizes : SizeOfSumIsWithinSizes
sizes n f = S.size-sum_to n f

pub list_total : TotalOfListProduct
list_total xs ys = P.sum_of_list-product xs ys

pub list_numbers : NumbersOfListProduct
list_numbers xs ys k = P.number_at-product xs ys k

pub one_term : SumOfOneTerm
one_term n i f b h = C.sum_to_one n i b h

pub within_totals : ConvolutionIsWithinTotals
within_totals n a b h k = C.convolution_total_le n h k
