-- Rules as lists of checks, one for each place in order, and the first of them that fails.
use Rattle.std.specs.Prelude.{ℕ, suc, ◌+◌, ◌*◌, List, [], ◌∷◌, Bool, true, false, Option, Some, None, option_map}

-- the place of the first check that fails
abbrev pub first_failed : List Bool → Option ℕ
first_failed [] = None
first_failed (true ∷ more) = option_map suc (first_failed more)
first_failed (false ∷ more) = Some 0

-- how many places of a rule a list has room for
abbrev pub places_of_list : ℕ
places_of_list = 4096

-- the place 4096 k + p of a place p in list k, or else another place
abbrev pub place_in : ℕ → Option ℕ → Option ℕ → Option ℕ
place_in k (Some place) other = Some (places_of_list * k + place)
place_in k None other = other

-- the first failed check of some lists in order, the first of which is list k
abbrev pub first_failed_from : ℕ → List (List Bool) → Option ℕ
first_failed_from k [] = None
first_failed_from k (checks ∷ more) = place_in k (first_failed checks) (first_failed_from (suc k) more)

-- the first failed check of some lists
abbrev pub first_failed_of_lists : List (List Bool) → Option ℕ
first_failed_of_lists lists = first_failed_from 0 lists
