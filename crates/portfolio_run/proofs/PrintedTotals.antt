-- The totals of holdings as they are kept have a text.
use Rattle.std.proofs.Common.{◌≡◌, ℕ, ◌≤◌, ℤ, ◌≤ℤ◌, List, length, get_or, sym, ap, ◌∙◌, arith}
use Rattle.std.proofs.lemmas.List.{length-map}
use Rattle.frac_laws.specs.Fraction.{Fraction}
use Rattle.frac_laws.proofs.Order.{le_trans}
use Rattle.frac_laws.proofs.Quotients.{le_of_whole}
use Rattle.fixed_interval.specs.Printing.{LiesBetween}
use Rattle.named_numbers.specs.Numbers.{least_degree}
use Rattle.portfolio_run.specs.declared.policies.Policy.{Policy}
use Rattle.portfolio_run.specs.declared.sums.Sum.{Sum}
use Rattle.portfolio_run.specs.declared.totals.Total.{Total}
use Rattle.portfolio_run.specs.declared.totals.Totals.{Totals}
use Rattle.portfolio_run.specs.Named.{AreTotalsOf, HasNumbers}
use Rattle.portfolio_run.specs.Stored.{most_bytes}
use Rattle.portfolio_run.specs.Sums.{IsSum, sum_at}
use Rattle.portfolio_run.specs.Totals.{greatest_degree}
use Rattle.portfolio_run.specs.TotalsText.{HasTotalEnds, HaveText}
use Rattle.portfolio_run.specs.Values.{ValuedProduct}
use Rattle.portfolio_run.proofs.KeptTotals.{degrees_within}

-- ends that hold a number stand in their order
ordered_ends : (lo hi : ℤ) (x : Fraction) → LiesBetween (record { lo = lo; hi = hi }) x → lo ≤ℤ hi
ordered_ends lo hi x lies = le_of_whole (le_trans lies.at_least lies.at_most)

-- the ends of a sum can be printed
sum_has_ends : (valued : List ValuedProduct) (policies : List Policy) (group : ℕ) (sum : Sum) (total : Total)
    → length policies ≤ most_bytes → IsSum valued policies group sum → HasNumbers sum total → HasTotalEnds total
sum_has_ends valued policies group sum total few is numbers = record {
  ordered = rw (numbers.lo_is, numbers.hi_is)
      (ordered_ends sum.lo sum.hi _ (is.holds (greatest_degree valued)
      (degrees_within least_degree valued (greatest_degree valued) (omega arith)).1));
  lo = rw numbers.lo_is (omega (arith, is.small_lo, few));
  hi = rw numbers.hi_is (omega (arith, is.small_hi, few));
}

-- all can, and the groups are few
pub have_text : (groups : List (List ℕ)) (policies : List Policy) (valued : List ValuedProduct) (totals : Totals)
    → AreTotalsOf groups policies valued totals → length policies ≤ most_bytes → length groups ≤ length policies
    → HaveText totals
have_text groups policies valued totals of few groups_few =
    let count : length totals.groups.items ≡ length groups =
    sym (length-map totals.groups.items (λ t. t.name.items)) ∙ ap length of.named.names_are in
    record {
      few = omega (arith, count, few, groups_few);
      ends = λ k total within.
          sum_has_ends valued policies k (sum_at of.sums k) (get_or totals.groups.items k total) few
          (of.are_sums.each k (omega (arith, within, count))) (of.named.numbers k total within);
    }
