-- How deep the tree is: far less than a reader goes.
use Rattle.std.proofs.Common.{ℕ, zero, suc, ◌≤◌, arith}
use Rattle.toml.specs.Data.{Data, depth, items_depth, members_depth}
use Rattle.toml.specs.View.{items_of}
use Rattle.whole_laws.specs.Whole.{list_of}
use Rattle.workload_gen.specs.declared.transition.Transition.{Transition}
use Rattle.workload_gen.specs.declared.transition.Transition.TheVariants as variant
use Rattle.workload_gen.specs.Draws.{state_after}
use Rattle.workload_gen.specs.Tree.{lump, lumps, rate, year_piece, transition_of, state_before, annuity, generated}

items_depth-list : (n : ℕ) (f : ℕ → Data) (most : ℕ) → ((i : ℕ) → depth (f i) ≤ most)
    → items_depth (items_of (list_of n f)) ≤ most
items_depth-list zero f most h = omega arith
items_depth-list (suc n) f most h = omega (arith, h 0, items_depth-list n (λ i. f (suc i)) most (λ i. h (suc i)))

lumps_depth : (amount : ℕ) → items_depth (items_of (lumps amount)) ≤ 1
unfolding lumps
lumps_depth amount = items_depth-list 780 (lump amount) 1 (λ i. omega arith)

rate_depth : (t : Transition) (x : ℕ) → items_depth (items_of (rate t x)) ≤ 2
unfolding rate
rate_depth t x = items_depth-list 65 (year_piece t x) 2 (λ i. omega arith)

transition_depth : (t : Transition) (x : ℕ) → depth (transition_of t x) ≤ 4
transition_depth variant.Disability x = omega (arith, rate_depth variant.Disability x)
transition_depth variant.Recovery x = omega (arith, rate_depth variant.Recovery x)
transition_depth variant.DeathOfActive x = omega (arith, rate_depth variant.DeathOfActive x)
transition_depth variant.DeathOfDisabled x = omega (arith, rate_depth variant.DeathOfDisabled x)

pub generated_depth : (seed : ℕ) → members_depth (generated seed) ≤ 80
generated_depth seed =
    let x = state_after seed 1 in
    omega (
      arith,
      lumps_depth (annuity seed),
      transition_depth variant.Disability (state_before x variant.Disability),
      transition_depth variant.Recovery (state_before x variant.Recovery),
      transition_depth variant.DeathOfActive (state_before x variant.DeathOfActive),
      transition_depth variant.DeathOfDisabled (state_before x variant.DeathOfDisabled),
    )
