use Rattle.std.proofs.Common.{◌≡◌, suc, ◌+◌, ◌*◌, length, rules, subst, sym, ap, arith, ◌∙◌}
use Rattle.std.proofs.lemmas.List.{with_items_is}
use Rattle.linear_system.specs.StoredSystem.{dim_of}
use Rattle.month_maps.specs.MadeMaps.{IsMadeAfter, HoldsColumns, HoldsFree}
use Rattle.month_maps.proofs.MadeMaps.{made_start, made_next, ends_are_small}
use Rattle.month_maps.proofs.map.MonthMap.make.Goals as goal

pub loop-doubling-init : goal.loop-doubling-init
loop-doubling-init g c =
    let s = c.args.sys.now in
    let numbers = with_items_is c.in_ok-numbers.numbers c.write_cell-degree.new.numbers
    (c.write_cell-degree.auto.numbers ∙ c.deref_mut.ensures.len) in
    let free = with_items_is c.in_ok-free.free c.write_cell-degree.new.free
    (c.write_cell-degree.auto.free ∙ c.deref_mut-2.ensures.len) in
    let long : length c.write_cell-degree.new.numbers ≡ c.dim-dim.result * c.dim-dim.result = search rules in
    let free_long : length c.write_cell-degree.new.free ≡ c.dim-dim.result = search rules in
    made_start s _ c.degree-degree.ensures.system c.requires.can c.dim-dim.ensures c.write_cell-degree.ensures.degree
    (record { numbers = ap length numbers ∙ long; free = ap length free ∙ free_long })
    (subst (λ xs. HoldsColumns c.args.sys.now (dim_of c.args.sys.now) xs) (sym numbers)
    c.write_cell-degree.ensures.columns)
    (subst (λ xs. HoldsFree c.args.sys.now xs) (sym free) c.write_cell-degree.ensures.free)

pub square-requires-clause-numbers : goal.square-requires-clause-numbers
square-requires-clause-numbers g c =
    (ends_are_small c.loop-doubling._doubling c.args.sys.now c.loop-doubling.map c.loop-doubling.invariant).0

pub square-requires-clause-free : goal.square-requires-clause-free
square-requires-clause-free g c =
    (ends_are_small c.loop-doubling._doubling c.args.sys.now c.loop-doubling.map c.loop-doubling.invariant).1

pub loop-doubling-preserved : goal.loop-doubling-preserved
loop-doubling-preserved g c =
    let k = c.loop-doubling._doubling in
    let next : suc c.loop-doubling._doubling ≡ c.loop-doubling._doubling + 1 = omega arith in
    subst (λ n. IsMadeAfter n c.args.sys.now c.square.new.self) next
    (made_next k c.args.sys.now c.loop-doubling.map c.square.new.self c.loop-doubling-test.true c.requires.can
    c.loop-doubling.invariant c.square.ensures.alike c.square.ensures.full c.square.ensures.square
    c.square.ensures.encloses)

pub returns-clause-made : goal.returns-clause-made
returns-clause-made g c =
    let done : c.loop-doubling._doubling ≡ 5 = search rules in
    let ends = ends_are_small c.loop-doubling._doubling c.args.sys.now c.loop-doubling.map c.loop-doubling.invariant in
    record {
      made = subst (λ n. IsMadeAfter n c.args.sys.now c.loop-doubling.map) done c.loop-doubling.invariant;
      small = ends.0;
      free_small = ends.1;
    }
