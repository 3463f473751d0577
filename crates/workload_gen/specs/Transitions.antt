-- The transitions of the generated product.
use Rattle.std.specs.Prelude.{ℕ, ◌+◌, ◌-◌, ◌*◌, ◌^◌, List, codes, Bool, true, false}
use Rattle.workload_gen.specs.declared.transition.Transition.{Transition}
use Rattle.workload_gen.specs.declared.transition.Transition.TheVariants as transition

-- from which state it leads, and to which
abbrev pub from_of : Transition → List ℕ
from_of transition.Disability = codes "active"
from_of transition.Recovery = codes "disabled"
from_of transition.DeathOfActive = codes "active"
from_of transition.DeathOfDisabled = codes "disabled"

-- the state that a transition leads to
abbrev pub to_of : Transition → List ℕ
to_of transition.Disability = codes "disabled"
to_of transition.Recovery = codes "active"
to_of transition.DeathOfActive = codes "dead"
to_of transition.DeathOfDisabled = codes "dead"

-- whether it is a death, for which a sum is paid
abbrev pub is_death : Transition → Bool
is_death transition.Disability = false
is_death transition.Recovery = false
is_death transition.DeathOfActive = true
is_death transition.DeathOfDisabled = true

-- what the intensity is at the beginning of a year of the term, before the draw is added: 10^-9 a year
abbrev pub level_of : Transition → (year : ℕ) → ℕ
level_of transition.Disability year = 1000000 + 10000 * year ^ 2
level_of transition.Recovery year = 200000000 - 3000000 * year
level_of transition.DeathOfActive year = 500000 + 20000 * year ^ 2
level_of transition.DeathOfDisabled year = 10000000 + 30000 * year ^ 2

-- what is drawn to it is below this
abbrev pub spread_of : Transition → ℕ
spread_of transition.Disability = 100000
spread_of transition.Recovery = 1000000
spread_of transition.DeathOfActive = 100000
spread_of transition.DeathOfDisabled = 1000000

-- its place in the file
abbrev pub place_of : Transition → ℕ
place_of transition.Disability = 0
place_of transition.Recovery = 1
place_of transition.DeathOfActive = 2
place_of transition.DeathOfDisabled = 3
