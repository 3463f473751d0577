-- Numbers in millionths as text.
use Rattle.std.specs.Prelude.{ℕ, suc, ◌+◌, ◌/◌, ◌%◌, ℤ, pos, negsuc, List, [], ◌∷◌, ◌++◌, decimal}

-- the decimal digit of n at a power of ten
abbrev pub digit : ℕ → ℕ → ℕ
digit n power = 48 + n / power % 10

-- a number of millionths that is not negative: the whole part, a point and six digits
abbrev pub millionths_of_size : ℕ → List ℕ
millionths_of_size n =
    decimal (n / 1000000) ++ 46 ∷ digit n 100000 ∷ digit n 10000 ∷ digit n 1000 ∷ digit n 100 ∷ digit n 10
    ∷ digit n 1 ∷ []

-- a number of millionths, with a minus sign below 0
abbrev pub millionths : ℤ → List ℕ
millionths (pos n) = millionths_of_size n
millionths (negsuc n) = 45 ∷ millionths_of_size (suc n)
