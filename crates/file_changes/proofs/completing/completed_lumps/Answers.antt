use Rattle.std.proofs.Common.{◌++◌, ◌∷◌, [], List, map, ap, sym, ◌∙◌, append_assoc}
use Rattle.std.specs.Prelude.{filter, Vec}
use Rattle.std.specs.declared.alloc.Global.{Global}
use Rattle.whole_laws.specs.Whole.{places}
use Rattle.model_specs.specs.Product as model
use Rattle.payment_plan.specs.declared.lump.Lump.{Lump}
use Rattle.payment_plan.specs.Records.{lump_of, lumps_of, pattern_rule_of}
use Rattle.product_reader.proofs.Grown.{map-append-one}
use Rattle.file_changes.specs.Charges.{zero_lump, is_missing}
use Rattle.file_changes.proofs.Completions.{place_is_taken, place_is_passed}
use Rattle.file_changes.proofs.completing.completed_lumps.Goals as goal
use Rattle.file_changes.proofs.completing.completed_lumps.Goals.{then-is_missing+in_ok-push, else-is_missing}

pub loop-place-preserved : goal.loop-place-preserved
loop-place-preserved c =
    let lumps = lumps_of c.args.lumps.now in
    let zero = zero_lump c.args.states in
    let missing = is_missing c.args.states lumps (pattern_rule_of c.args.rule.now) in
    elim c.if-is_missing.branch [
      | then-is_missing+in_ok-push w ↦
          ap (λ (all : Vec Lump Global). lumps_of all.items) w.all-is ∙ ap lumps_of w.in_ok-push.ensures.items
          ∙ map-append-one lump_of c.loop-place.all.items _
          ∙ ap (λ (ls : List model.Lump). ls ++ zero c.loop-place.place ∷ []) c.loop-place.invariant
          ∙ append_assoc lumps (map zero (filter missing (places c.loop-place.place))) (zero c.loop-place.place ∷ [])
          ∙ ap (λ (ls : List model.Lump). lumps ++ ls)
          (sym (place_is_taken zero missing c.loop-place.place (sym c.is_missing.ensures ∙ w.if-is_missing.true)))
      | else-is_missing w ↦
          ap (λ (all : Vec Lump Global). lumps_of all.items) w.all-is ∙ c.loop-place.invariant
          ∙ ap (λ (ls : List model.Lump). lumps ++ ls)
          (sym (place_is_passed zero missing c.loop-place.place (sym c.is_missing.ensures ∙ w.if-is_missing.false)))
    ]
