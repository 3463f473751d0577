-- The generator's numbers, this product's own: a state below 2^64, of which each draw makes the next one.
use Rattle.std.specs.Prelude.{ℕ, zero, suc, ◌+◌, ◌*◌, ◌/◌, ◌%◌, ◌^◌}

-- the state after one more draw
abbrev pub next_state : ℕ → ℕ
next_state x = (x * 6364136223846793005 + 1442695040888963407) % 2 ^ 64

-- the state after some draws, from a state on
unfoldable pub state_after : (x draws : ℕ) → ℕ
state_after x zero = x
state_after x (suc draws) = next_state (state_after x draws)

-- what the draw at a place gives, of the draws from a state on: a number below n, made of the new state's upper bits
abbrev pub draw_at : (x place n : ℕ) → ℕ
draw_at x place n = state_after x (suc place) / 2 ^ 33 % n
