-- The top table of a tree, key by key.
use Rattle.std.proofs.Common.{◌≡◌, ℕ, codes}
use Rattle.toml.specs.Data.{Data, string, Members, no_members}
use Rattle.workload_gen.specs.Draws.{state_after}
use Rattle.workload_gen.specs.Tree.{array_of, whole, with_member, name, states, interest, lumps, annuity, premium}
use Rattle.workload_gen.specs.Tree.{transitions, generated}

pub top_table : (seed : ℕ) (a b c d e f g h i j k : Members)
    (format name_is months den start names curve paid pattern moves : Data)
    → a ≡ no_members → b ≡ with_member (codes "format") format a → c ≡ with_member (codes "name") name_is b
    → d ≡ with_member (codes "months") months c → e ≡ with_member (codes "den") den d
    → f ≡ with_member (codes "start") start e → g ≡ with_member (codes "states") names f
    → h ≡ with_member (codes "interest") curve g → i ≡ with_member (codes "lump") paid h
    → j ≡ with_member (codes "premium") pattern i → k ≡ with_member (codes "transition") moves j
    → format ≡ whole 1 → name_is ≡ string (name seed) → months ≡ whole 780 → den ≡ whole 1000000000
    → start ≡ string (codes "active") → names ≡ array_of states → curve ≡ array_of interest
    → paid ≡ array_of (lumps (annuity seed)) → pattern ≡ premium → moves ≡ array_of (transitions (state_after seed 1))
    → k ≡ generated seed
top_table seed a b c d e f g h i j k format name_is months den start names curve paid pattern moves
    ea eb ec ed ee ef eg eh ei ej ek v1 v2 v3 v4 v5 v6 v7 v8 v9 v10 =
    rw (ek, ej, ei, eh, eg, ef, ee, ed, ec, eb, ea, v1, v2, v3, v4, v5, v6, v7, v8, v9, v10)
