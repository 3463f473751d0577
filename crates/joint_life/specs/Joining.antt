-- Two lives that can be joined.
use Rattle.std.specs.Prelude.{◌≡◌, ◌≤◌}
use Rattle.named_numbers.specs.Numbers.{most_states}
use Rattle.model_specs.specs.Product.{Product}
use Rattle.model_specs.specs.RecordRules.{IsWellFormed}
use Rattle.joint_life.specs.JointRecord.{pair_count}

-- both obey their rules, the second one's term is as long, the denominators are the same, and there are not too many
-- pairs of states
pub record CanJoin (a b : Product) : Type 0 where
  pub first : IsWellFormed a
  pub second : IsWellFormed b
  pub term : a.months ≤ b.months
  pub denominator : a.den ≡ b.den
  pub pairs : pair_count a b ≤ most_states
