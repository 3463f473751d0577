-- The laws of quotients in the form of their statements.
use Rattle.std.proofs.Common.{sym, ◌≡◌, ℕ, pos, [], ◌∷◌, refl, ◌∙◌}
use Rattle.frac_laws.specs.QuotientLaws.{QuotientsCompareByCross, QuotientsAreBelowByCross}
use Rattle.frac_laws.specs.QuotientLaws.{QuotientsAreEqualByCross}
use Rattle.frac_laws.specs.QuotientLaws.{QuotientsAddOverOneDivisor, QuotientsAdd, QuotientsMultiply}
use Rattle.frac_laws.specs.QuotientLaws.{QuotientsHaveOpposites}
use Rattle.frac_laws.specs.QuotientLaws.{QuotientsCancel, QuotientsTimesDivisor, WholeNumbersCompare}
use Rattle.frac_laws.specs.QuotientLaws.{WholeNumbersAdd, WholeNumbersMultiply}
use Rattle.frac_laws.specs.Fraction.{over, whole}
use Rattle.frac_laws.proofs.FractionTerms.{ring, terms}
use Rattle.frac_laws.proofs.Quotients.{over_is}
use Rattle.frac_laws.proofs.Quotients as Q

pub compare_by_cross : QuotientsCompareByCross
compare_by_cross n m d e a b = (Q.cross_of_over_le n m d e a b, Q.over_le_of_cross n m d e a b)

pub below_by_cross : QuotientsAreBelowByCross
below_by_cross n m d e a b = (Q.cross_of_over_lt n m d e a b, Q.over_lt_of_cross n m d e a b)

pub equal_by_cross : QuotientsAreEqualByCross
equal_by_cross n m d e a b = (Q.cross_of_over_equal n m d e a b, Q.over_equal_of_cross n m d e a b)

pub add_over_one : QuotientsAddOverOneDivisor
add_over_one n m d a = sym (Q.over_add n m d)

pub add_across : QuotientsAdd
add_across n m d e a b = Q.over_add_cross n m d e a b

pub multiply : QuotientsMultiply
multiply n m d e a b = Q.over_mul n m d e a b

pub opposites : QuotientsHaveOpposites
opposites n d a = sym (Q.over-opposite n d)

pub cancel : QuotientsCancel
cancel n d c a b = Q.over_scale n d c a b

pub times_divisor : QuotientsTimesDivisor
times_divisor n d a = Q.times_over n d a

pub whole_compare : WholeNumbersCompare
whole_compare n m = (Q.le_of_whole, Q.whole_le)

pub whole_sum : WholeNumbersAdd
whole_sum n m = sym (Q.whole_add n m)

pub whole_product : WholeNumbersMultiply
whole_product n m = sym (Q.whole_mul n m)

-- nothing over anything
pub over-zero : (d : ℕ) → over (pos 0) d ≡ whole (pos 0)
over-zero d = over_is (pos 0) d ∙ ring (over (pos 1) d ∷ []) (hlevel terms) refl
