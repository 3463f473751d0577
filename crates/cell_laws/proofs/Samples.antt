-- The samples, computed.
use Rattle.std.specs.Prelude.{◌≡◌, refl, pos, pred, true, false}
use mathlib.Core.Quot.{sound}
use Rattle.frac_laws.specs.Fraction.{◌+ℚ◌, ◌*ℚ◌, ◌-ℚ◌, opposite, is_not_negative, size, greater}
use Rattle.frac_laws.specs.Lists.{number_at}
use Rattle.cell_laws.specs.Pairs.{second_taylor_value}
use Rattle.cell_laws.specs.Samples.{plus, minus, two, sample_pair}
use Rattle.cell_laws.specs.Samples.{BackwardGrowthIsLeast, ForwardGrowthIsLeast, SecondGrowthIsLeast}
use Rattle.cell_laws.specs.Samples.{BackwardSystemIsTame, ForwardSystemIsTame, SamplePairIsTame}
use Rattle.cell_laws.specs.Samples.{HalvingValueIsExact, BackwardValueIsExact, ForwardValueIsExact}
use Rattle.cell_laws.specs.Samples.{SecondValueIsExact}

pub halving_value_is_exact : HalvingValueIsExact
unfolding ◌+ℚ◌ ◌*ℚ◌
halving_value_is_exact = sound refl

pub backward_system_is_tame : BackwardSystemIsTame
unfolding ◌+ℚ◌ ◌*ℚ◌ ◌-ℚ◌ opposite is_not_negative size greater
backward_system_is_tame = record {
  total = record { le = refl };
  matrices = record { le = refl };
  free = record { le = refl };
  growth = record { le = refl };
}

pub forward_system_is_tame : ForwardSystemIsTame
unfolding ◌+ℚ◌ ◌*ℚ◌ ◌-ℚ◌ opposite is_not_negative size greater
forward_system_is_tame = record {
  total = record { le = refl };
  matrices = record { le = refl };
  free = record { le = refl };
  growth = record { le = refl };
}

pub sample_pair_is_tame : SamplePairIsTame
unfolding ◌+ℚ◌ ◌*ℚ◌ ◌-ℚ◌ opposite is_not_negative size greater
sample_pair_is_tame = record {
  first = record {
    total = record { le = refl };
    matrices = record { le = refl };
    free = record { le = refl };
    growth = record { le = refl };
  };
  second = record {
    total = record { le = refl };
    matrices = record { le = refl };
    free = record { le = refl };
    growth = record { le = refl };
  };
  second_free = record { le = refl };
  coupling = record { le = refl };
  total_coupling = record { le = refl };
}

impossible : false ≡ true → ⊥
impossible e = cc

pub backward_growth_is_least : BackwardGrowthIsLeast
unfolding ◌+ℚ◌ ◌*ℚ◌ ◌-ℚ◌ opposite is_not_negative size greater
backward_growth_is_least h = impossible h.growth.le

pub forward_growth_is_least : ForwardGrowthIsLeast
unfolding ◌+ℚ◌ ◌*ℚ◌ ◌-ℚ◌ opposite is_not_negative size greater
forward_growth_is_least h = impossible h.growth.le

pub second_growth_is_least : SecondGrowthIsLeast
unfolding ◌+ℚ◌ ◌*ℚ◌ ◌-ℚ◌ opposite is_not_negative size greater
second_growth_is_least h = impossible h.growth.le

pub backward_value_is_exact : BackwardValueIsExact
unfolding ◌+ℚ◌ ◌*ℚ◌
backward_value_is_exact = (sound refl, sound refl)

pub forward_value_is_exact : ForwardValueIsExact
unfolding ◌+ℚ◌ ◌*ℚ◌
forward_value_is_exact = (sound refl, sound refl)

first_number : number_at (second_taylor_value sample_pair (two (plus 1 1) (minus 1 2))
    (two (plus 1 4) (plus 1 2)) 8) 0
    ≡ plus 103981315673341692888045081180529 399309939071892261471461509693440
unfolding ◌+ℚ◌ ◌*ℚ◌
first_number = sound
    {b = record {
      top = pos 103981315673341692888045081180529;
      below = pred 399309939071892261471461509693440;
    }} refl

second_number : number_at (second_taylor_value sample_pair (two (plus 1 1) (minus 1 2))
    (two (plus 1 4) (plus 1 2)) 8) 1
    ≡ plus 14198185638538846856939695042003 28522138505135161533675822120960
unfolding ◌+ℚ◌ ◌*ℚ◌
second_number = sound
    {b = record {
      top = pos 14198185638538846856939695042003;
      below = pred 28522138505135161533675822120960;
    }} refl

pub second_value_is_exact : SecondValueIsExact
second_value_is_exact = (first_number, second_number)
