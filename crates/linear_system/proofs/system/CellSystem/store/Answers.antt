use Rattle.std.proofs.Common.{◌≡◌, ◌≤◌, ◌^◌, ℤ, ap, ◌∙◌, set, map, to_z, of_z, SFits, arith}
use Rattle.std.specs.Prelude.{unsigned_abs}
use Rattle.std.proofs.lemmas.Int.{to_z-of_z, fits_signed_from_abs}
use Rattle.std.specs.Int.{w64, w128}
use Rattle.linear_system.specs.StoredSystem.{place_of}
use Rattle.linear_system.specs.Changes.{with_number}
use Rattle.linear_system.specs.Layout.{stored_row}
use Rattle.linear_system.proofs.Rows.{of_rows}
use Rattle.linear_system.proofs.Writes.{written, written_keeps}
use Rattle.linear_system.proofs.system.CellSystem.store.Goals as goal

-- a number of at most 2^59 in size is the same in 64 bits
narrowed : (v : ℤ) → SFits w128 v → unsigned_abs v ≤ 2 ^ 59 → to_z w64 (of_z w64 (to_z w128 (of_z w128 v))) ≡ v
narrowed v wide small = ap (λ z. to_z w64 (of_z w64 z)) (to_z-of_z w128 v wide)
    ∙ to_z-of_z w64 v (fits_signed_from_abs w64 v (omega (arith, small)))

stored : (c : goal.After-self-1)
    → of_rows c.self.inside.degree (map stored_row (set c.self.inside.rows.items c.args.row c.set.new.self))
    ≡ with_number c.args.self.now c.args.row c.args.col c.args.m c.args.v
stored c =
    written c.self.inside.rows.items c.self.inside.degree c.args.row c.args.col c.args.m
    c.place_in-place.result c.args.v _
    c.args.self.now c.index_mut-r.result.now c.set.new.self c.self.view_is c.requires.column
    c.index_mut-r.ensures.value
    (c.place_in-place.ensures ∙ ap (λ cs. place_of cs c.args.col) c.deref.ensures.value)
    (narrowed c.args.v c.ranges.v c.requires.size)
    c.set.ensures.columns c.set.ensures.numbers

pub invariant_of-self : goal.invariant_of-self
invariant_of-self c =
    written_keeps c.self.inside.degree (map stored_row c.self.inside.rows.items) _ c.args.self.now c.args.row
    c.args.col c.args.m
    c.args.v c.self.view_is (stored c) c.self.invariant c.requires.column c.requires.power c.requires.size

pub returns : goal.returns
returns c = stored c
