-- A row of intervals at exact numbers: the ends of its products, added up, and what it holds.
use Rattle.std.specs.Prelude.{◌^◌, ℤ, pos, ◌+ℤ◌, List, [], ◌∷◌, map}
use Rattle.frac_laws.specs.Fraction.{over, whole}
use Rattle.frac_laws.specs.Lists.{Vector}
use Rattle.fixed_interval.specs.Intervals.{LiesIn}
use Rattle.fixed_interval.specs.Products.{low_end, high_end}
use Rattle.fixed_interval.specs.declared.interval.Interval.{Interval}

-- whole numbers of units of 2^-64 as fractions
abbrev pub fractions_of : List ℤ → Vector
fractions_of numbers = map (λ n. over n (2 ^ 64)) numbers

-- the lower ends of the products of each interval and the number at its place, added up
abbrev pub low_ends : List Interval → List ℤ → ℤ
low_ends [] numbers = pos 0
low_ends (i ∷ row) [] = pos 0
low_ends (i ∷ row) (number ∷ numbers) = low_end number i +ℤ low_ends row numbers

-- and the upper ones
abbrev pub high_ends : List Interval → List ℤ → ℤ
high_ends [] numbers = pos 0
high_ends (i ∷ row) [] = pos 0
high_ends (i ∷ row) (number ∷ numbers) = high_end number i +ℤ high_ends row numbers

-- each number of a vector lies in the interval at its place; the vector may leave out zeros at its end
abbrev pub LiesInRow : Vector → List Interval → Type 0
LiesInRow xs [] = Unit {0}
LiesInRow [] (i ∷ row) = LiesIn (whole (pos 0)) i × LiesInRow [] row
LiesInRow (x ∷ xs) (i ∷ row) = LiesIn x i × LiesInRow xs row
