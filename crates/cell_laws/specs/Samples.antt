-- Small systems that show that the premises of the laws can be met, with values that were computed by hand
-- or
-- with another program's exact fractions.
use Rattle.std.specs.Prelude.{◌≡◌, ℕ, pos, neg_ℤ, [], ◌∷◌}
use Rattle.frac_laws.specs.Fraction.{Fraction, over, whole}
use Rattle.frac_laws.specs.Lists.{Vector, number_at}
use Rattle.frac_laws.specs.Norms.{Sup, Sum}
use Rattle.cell_laws.specs.Systems.{System, taylor_value}
use Rattle.cell_laws.specs.Pairs.{CoupledPair, second_taylor_value}
use Rattle.cell_laws.specs.Tame.{IsTame, IsTamePair}

-- n / d
abbrev pub plus : ℕ → ℕ → Fraction
plus n d = over (pos n) d

-- -n / d
abbrev pub minus : ℕ → ℕ → Fraction
minus n d = over (neg_ℤ (pos n)) d

-- two numbers as a vector
abbrev pub two : Fraction → Fraction → Vector
two x y = x ∷ y ∷ []

-- y' = -y / 2
abbrev pub halving_system : System
halving_system = record { dimension = 1; matrices = ((minus 1 2 ∷ []) ∷ []) ∷ []; free = [] }

-- backward: two states with links both ways, payments and an interest below 0
abbrev pub backward_system : System
backward_system = record {
  dimension = 2;
  matrices = (two (minus 1 512) (plus 9 4096) ∷ two (plus 1 512) (minus 7 4096) ∷ [])
      ∷ (two (minus 1 4096) (plus 1 4096) ∷ two (plus 1 8192) (minus 1 8192) ∷ []) ∷ [];
  free = two (plus 1 64) (minus 1 128) ∷ two (plus 1 1024) (plus 0 1) ∷ [];
}

-- forward: two states with links both ways, each column with the sum 0
abbrev pub forward_system : System
forward_system = record {
  dimension = 2;
  matrices = (two (minus 3 512) (plus 1 512) ∷ two (plus 3 512) (minus 1 512) ∷ [])
      ∷ (two (plus 1 4096) (minus 1 8192) ∷ two (minus 1 4096) (plus 1 8192) ∷ []) ∷ [];
  free = [];
}

-- the second half of a pair whose first half is the backward system, with interest and payments of its own
abbrev pub second_system : System
second_system = record {
  dimension = 2;
  matrices = (two (minus 1 512) (plus 5 2048) ∷ two (plus 1 512) (minus 3 2048) ∷ []) ∷ [];
  free = two (plus 1 256) (plus 1 512) ∷ [];
}

-- the coupling of the pair is at two powers
abbrev pub sample_pair : CoupledPair
sample_pair = record {
  first = backward_system;
  second = second_system;
  coupling = (two (plus 1 128) (plus 1 256) ∷ two (plus 0 1) (plus 1 128) ∷ [])
      ∷ (two (plus 0 1) (plus 1 2048) ∷ two (plus 0 1) (plus 0 1) ∷ []) ∷ [];
}

-- the backward system is tame in Sup with this growth, in 1/2^40
abbrev pub BackwardSystemIsTame : Type 0
BackwardSystemIsTame = IsTame Sup 280319832 backward_system

-- the forward system is tame in Sum
abbrev pub ForwardSystemIsTame : Type 0
ForwardSystemIsTame = IsTame Sum 82932358 forward_system

-- the pair is tame, with 5/384 for its coupling
abbrev pub SamplePairIsTame : Type 0
SamplePairIsTame = IsTamePair 547534606 (over (pos 5) 384) sample_pair

-- the backward system is not tame with 1/2^40 less
abbrev pub BackwardGrowthIsLeast : Type 0
BackwardGrowthIsLeast = ¬ IsTame Sup 280319831 backward_system

-- nor is the forward system
abbrev pub ForwardGrowthIsLeast : Type 0
ForwardGrowthIsLeast = ¬ IsTame Sum 82932357 forward_system

-- nor is the second half of the pair
abbrev pub SecondGrowthIsLeast : Type 0
SecondGrowthIsLeast = ¬ IsTame Sup 547534605 second_system

-- a Taylor value of two numbers
abbrev pub IsTwo : Vector → Fraction → Fraction → Type 0
IsTwo v x y = (number_at v 0 ≡ x) × (number_at v 1 ≡ y)

-- of degree 3 from 1
abbrev pub HalvingValueIsExact : Type 0
HalvingValueIsExact = number_at (taylor_value halving_system (whole (pos 1) ∷ []) 3) 0 ≡ over (pos 29) 48

-- of degree 8 from (1, -1/2)
abbrev pub BackwardValueIsExact : Type 0
BackwardValueIsExact = IsTwo (taylor_value backward_system (two (plus 1 1) (minus 1 2)) 8)
    (plus 102716114958459911398382374151657 101412048018258352119736256430080)
    (minus 3225759407528824899191309900278697 6388959025150276183543384155095040)

-- of degree 8 from (3/4, 1/4)
abbrev pub ForwardValueIsExact : Type 0
ForwardValueIsExact = IsTwo (taylor_value forward_system (two (plus 3 4) (plus 1 4)) 8)
    (plus 240881835182063679703 322818021289917153280)
    (plus 81936186107853473577 322818021289917153280)

-- of degree 8 of the pair's second half, from (1, -1/2) and (1/4, 1/2)
abbrev pub SecondValueIsExact : Type 0
SecondValueIsExact = IsTwo
    (second_taylor_value sample_pair (two (plus 1 1) (minus 1 2)) (two (plus 1 4) (plus 1 2)) 8)
    (plus 103981315673341692888045081180529 399309939071892261471461509693440)
    (plus 14198185638538846856939695042003 28522138505135161533675822120960)
