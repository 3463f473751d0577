-- When a sojourn is a good one.
use Rattle.std.proofs.Common.{◌≡◌, ℕ, ◌==◌, take, Bool, ◌&&◌, not, is_some, codes, refl}
use Rattle.std.specs.List.{list_any}
use Rattle.toml.specs.Data.{Data, Members}
use Rattle.product_file.specs.Members.{item_at}
use Rattle.product_file.specs.TransitionRule.{state_at, state_index}
use Rattle.product_file.specs.PaymentRules.{is_good_sojourn, is_sojourn, sojourn_items}

-- the data is a sojourn, it names a state, and it is the first to do so: its sojourn is good
pub tests_are_good : (tree : Members) (s : ℕ) (d : Data) (is_one names is_first : Bool)
    → d ≡ item_at (sojourn_items tree) s → is_one ≡ is_sojourn d → names ≡ is_some (state_at tree (codes "state") d)
    → is_first ≡ not (list_any (λ e. state_index tree (codes "state") e == state_index tree (codes "state") d)
    (take s (sojourn_items tree)))
    → (is_one && names && is_first) ≡ is_good_sojourn tree s
tests_are_good tree s d is_one names is_first here one state first = rw (one, state, first, here) refl
