-- Lists of numbers by dates.
use Rattle.std.proofs.Common.{◌≡◌, ℕ, ◌<◌, List, length, get_or, arith, ap, ◌∙◌}
use Rattle.whole_laws.specs.Whole.{list_of}
use Rattle.whole_laws.proofs.ListsByPlace.{at-list_of, length-list_of}

-- the number of a date
pub number_there : (f : ℕ → ℕ) (n i r : ℕ) (xs : List ℕ) → xs ≡ list_of n f → i < n → r ≡ get_or xs i r → r ≡ f i
number_there f n i r xs are inside read = read ∙ ap (λ ys. get_or ys i r) are ∙ at-list_of n f i r inside

pub numbers_count : (f : ℕ → ℕ) (n : ℕ) (xs : List ℕ) → xs ≡ list_of n f → length xs ≡ n
numbers_count f n xs are = ap length are ∙ length-list_of n f

pub below_same : (a b limit : ℕ) → a ≡ b → b < limit → a < limit
below_same a b limit e h = omega arith
