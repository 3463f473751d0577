-- Sums with the names of their groups. This product's own.
use Rattle.std.specs.Prelude.{◌≡◌, ℕ, ◌<◌, List, length, map, slice_index_or}
use Rattle.portfolio_run.specs.declared.sums.Sum.{Sum}
use Rattle.portfolio_run.specs.declared.totals.Total.{Total}
use Rattle.portfolio_run.specs.declared.policies.Policy.{Policy}
use Rattle.portfolio_run.specs.declared.totals.Totals.{Totals}
use Rattle.portfolio_run.specs.Sums.{AreSums, sum_at}
use Rattle.portfolio_run.specs.Totals.{greatest_degree}
use Rattle.portfolio_run.specs.Values.{ValuedProduct}

-- a total has the numbers of a sum
pub record HasNumbers (sum : Sum) (total : Total) : Type 0 where
  pub lo_is : total.lo ≡ sum.lo
  pub hi_is : total.hi ≡ sum.hi
  pub tol_is : total.tol ≡ sum.tol

-- totals by their places have these names and the numbers of these sums
pub record AreNamed (names : List (List ℕ)) (sums : List Sum) (totals : List Total) : Type 0 where
  pub names_are : map (λ total. total.name.items) totals ≡ names
  pub numbers : (k : ℕ) (total : Total) → k < length totals → HasNumbers (sum_at sums k) (slice_index_or totals k total)

-- totals of holdings as they are kept: sums of their groups, with the names
pub record AreTotalsOf (groups : List (List ℕ)) (policies : List Policy) (valued : List ValuedProduct) (totals : Totals)
    : Type 0 where
  pub degree_is : totals.degree ≡ greatest_degree valued
  pub policies_are : totals.policies ≡ length policies
  pub sums : List Sum
  pub are_sums : AreSums valued policies (length groups) sums
  pub named : AreNamed groups sums totals.groups.items
