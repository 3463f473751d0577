-- The states after some draws, draw by draw.
use Rattle.std.proofs.Common.{◌≡◌, ℕ, zero, suc, ◌+◌, ◌/◌, ◌%◌, ◌^◌, [], ◌∷◌, refl, ap, ◌∙◌, arith}
use Rattle.toml.specs.Data.{Data}
use Rattle.workload_gen.specs.declared.transition.Transition.{Transition}
use Rattle.workload_gen.specs.declared.transition.Transition.TheVariants as variant
use Rattle.workload_gen.specs.Draws.{next_state, state_after}
use Rattle.workload_gen.specs.Transitions.{level_of, spread_of}
use Rattle.workload_gen.specs.Tree.{whole, coefficients, transition_of, transitions}

-- some draws after others
pub state_after-more : (x first more : ℕ) → state_after (state_after x first) more ≡ state_after x (first + more)
unfolding state_after
state_after-more x first zero = ap (state_after x) (omega arith)
state_after-more x first (suc more) =
    let e : suc (first + more) ≡ first + suc more = omega arith in
    ap next_state (state_after-more x first more) ∙ ap (state_after x) e

-- no draw
pub state_after-none : (x : ℕ) → state_after x 0 ≡ x
unfolding state_after
state_after-none x = refl

-- the states of four draws
pub four_states : (x x1 x2 x3 x4 : ℕ) → x1 ≡ next_state x → x2 ≡ next_state x1 → x3 ≡ next_state x2 → x4 ≡ next_state x3
    → x4 ≡ state_after x 4
unfolding state_after
four_states x x1 x2 x3 x4 e1 e2 e3 e4 = rw (e4, e3, e2, e1)

-- the numbers of four draws
pub four_numbers : (t : Transition) (year x level spread x1 x2 x3 x4 c0 c1 c2 c3 : ℕ) → level ≡ level_of t year
    → spread ≡ spread_of t → x1 ≡ next_state x → x2 ≡ next_state x1 → x3 ≡ next_state x2 → x4 ≡ next_state x3
    → c0 ≡ x1 / 2 ^ 33 % spread → c1 ≡ x2 / 2 ^ 33 % 1000000 → c2 ≡ x3 / 2 ^ 33 % 500000 → c3 ≡ x4 / 2 ^ 33 % 100000
    → whole (level + c0) ∷ whole c1 ∷ whole c2 ∷ whole c3 ∷ [] ≡ coefficients t year x
unfolding state_after
four_numbers t year x level spread x1 x2 x3 x4 c0 c1 c2 c3 l s e1 e2 e3 e4 d0 d1 d2 d3 =
    rw (d0, d1, d2, d3, e4, e3, e2, e1, l, s)

-- four transitions, drawn one after the other
pub four_transitions : (x x1 x2 x3 : ℕ) (a b c d : Data) → x1 ≡ state_after x 260 → x2 ≡ state_after x1 260
    → x3 ≡ state_after x2 260 → a ≡ transition_of variant.Disability x → b ≡ transition_of variant.Recovery x1
    → c ≡ transition_of variant.DeathOfActive x2 → d ≡ transition_of variant.DeathOfDisabled x3
    → a ∷ b ∷ c ∷ d ∷ [] ≡ transitions x
four_transitions x x1 x2 x3 a b c d e1 e2 e3 ta tb tc td =
    let second : x2 ≡ state_after x 520 = rw (e2, e1) (state_after-more x 260 260) in
    let third : x3 ≡ state_after x 780 = rw (e3, second) (state_after-more x 520 260) in
    rw (ta, tb, tc, td, e1, second, third, state_after-none x)
