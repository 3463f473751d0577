use Rattle.std.proofs.Common.{◌≡◌, sym, subst, rules, length, ◌-◌}
use Rattle.std.specs.Prelude.{IsTrue}
use Rattle.model_specs.specs.Stretches.{is_constant_month, continues_stretch}
use Rattle.rate_bounds.specs.MonthPay.{plan_named}
use Rattle.thiele_backward.specs.StretchMaps.{IsMapAt}
use Rattle.thiele_backward.proofs.StretchMaps.{map_at_end, map_goes_on_at, ends_with}
use Rattle.thiele_backward.proofs.stretch_maps.place_for.Goals as goal

pub returns-then-continues-clause-place : goal.returns-then-continues-clause-place
returns-then-continues-clause-place g c =
    let product = c.args.adm.now in
    let plan = plan_named c.args.which product in
    let constant : IsTrue (is_constant_month product plan c.args.month) = search rules in
    let goes_on : IsTrue (continues_stretch product plan c.args.month) = search rules in
    let count : c.len.result ≡ length c.args.maps.now.items = search rules in
    subst (λ k. IsMapAt product plan c.args.month c.args.maps.now.items (k - 1)) (sym count)
    (map_goes_on_at c.args.which product c.args.month c.args.maps.now.items constant goes_on c.requires.before)

pub returns-then-continues-clause-last : goal.returns-then-continues-clause-last
returns-then-continues-clause-last g c =
    let product = c.args.adm.now in
    let plan = plan_named c.args.which product in
    let constant : IsTrue (is_constant_month product plan c.args.month) = search rules in
    let goes_on : IsTrue (continues_stretch product plan c.args.month) = search rules in
    ends_with product plan c.args.month c.args.maps.now.items
    (map_goes_on_at c.args.which product c.args.month c.args.maps.now.items constant goes_on c.requires.before)

pub returns-clause-place : goal.returns-clause-place
returns-clause-place g c =
    let product = c.args.adm.now in
    let plan = plan_named c.args.which product in
    let constant : IsTrue (is_constant_month product plan c.args.month) = search rules in
    let count : c.len-2.result ≡ length c.push.new.self.items = search rules in
    subst (λ k. IsMapAt product plan c.args.month c.push.new.self.items (k - 1)) (sym count)
    (map_at_end c.args.maps.now.items c.in_ok-map.map c.push.new.self.items c.in_ok-push.ensures.items product plan
    c.args.month constant c.in_ok-map.ensures.map)

pub returns-clause-last : goal.returns-clause-last
returns-clause-last g c =
    let product = c.args.adm.now in
    let plan = plan_named c.args.which product in
    let constant : IsTrue (is_constant_month product plan c.args.month) = search rules in
    ends_with product plan c.args.month c.push.new.self.items
    (map_at_end c.args.maps.now.items c.in_ok-map.map c.push.new.self.items c.in_ok-push.ensures.items product plan
    c.args.month constant c.in_ok-map.ensures.map)
