use Rattle.std.proofs.Common.{◌≡◌, ◌++◌, ◌∷◌, [], ◌∙◌, ap, false, map, subst, sym, true}
use Rattle.std.proofs.lemmas.List.{map_push}
use Rattle.portfolio_run.specs.Names.{is_among, with_name}
use Rattle.total_merge.specs.Sums.{name_of, AreSums}
use Rattle.total_merge.proofs.GroupTotals.{is_known, is_new, known, known_total, new_total, unknown}
use Rattle.total_merge.proofs.summing.place_of.Goals as goal

pub returns-in_ok-push-clause-named : goal.returns-in_ok-push-clause-named
returns-in_ok-push-clause-named c =
    let names = c.args.names.now in
    let noted = c.in_ok-place.ensures.noted in
    let new : is_among names c.args.name.now ≡ false =
    is_new names _ c.args.groups.now.items c.args.name.now c.in_ok-place.place c.requires noted
    c.in_ok-place.ensures.place (c.if-place-len.true ∙ c.len.ensures ∙ c.args.groups.now.ok.0) in
    ap (map name_of) c.in_ok-push.ensures.items ∙ map_push name_of c.args.groups.now.items c.in_ok-nothing.field-0
    ∙ ap (λ all. all ++ name_of c.in_ok-nothing.field-0 ∷ []) c.requires
    ∙ ap (λ n. names ++ n ∷ []) c.in_ok-nothing.ensures.name_is
    ∙ sym (noted ∙ unknown names c.args.name.now new)

pub returns-in_ok-push-clause-sums : goal.returns-in_ok-push-clause-sums
returns-in_ok-push-clause-sums c entries are =
    let names = c.args.names.now in
    let noted = c.in_ok-place.ensures.noted in
    let new : is_among names c.args.name.now ≡ false =
    is_new names _ c.args.groups.now.items c.args.name.now c.in_ok-place.place c.requires noted
    c.in_ok-place.ensures.place (c.if-place-len.true ∙ c.len.ensures ∙ c.args.groups.now.ok.0) in
    subst (λ all. AreSums all c.push.new.self.items entries) (sym noted)
    (subst (λ all. AreSums (with_name names c.args.name.now) all entries) (sym c.in_ok-push.ensures.items)
    (new_total names c.args.groups.now.items entries c.args.name.now c.in_ok-nothing.field-0 new
    c.in_ok-nothing.ensures are))

pub returns-else-place-len-clause-named : goal.returns-else-place-len-clause-named
returns-else-place-len-clause-named c =
    let names = c.args.names.now in
    let noted = c.in_ok-place.ensures.noted in
    let there : is_among names c.args.name.now ≡ true =
    is_known names _ c.args.groups.now.items c.args.name.now c.in_ok-place.place c.requires noted
    c.in_ok-place.ensures.place
    (λ last. c.if-place-len.false (last ∙ sym (c.len.ensures ∙ c.args.groups.now.ok.0))) in
    c.requires ∙ sym (noted ∙ known names c.args.name.now there)

pub returns-else-place-len-clause-sums : goal.returns-else-place-len-clause-sums
returns-else-place-len-clause-sums c entries are =
    let names = c.args.names.now in
    let noted = c.in_ok-place.ensures.noted in
    let there : is_among names c.args.name.now ≡ true =
    is_known names _ c.args.groups.now.items c.args.name.now c.in_ok-place.place c.requires noted
    c.in_ok-place.ensures.place
    (λ last. c.if-place-len.false (last ∙ sym (c.len.ensures ∙ c.args.groups.now.ok.0))) in
    subst (λ all. AreSums all c.args.groups.now.items entries) (sym noted)
    (known_total names c.args.groups.now.items entries c.args.name.now there are)
