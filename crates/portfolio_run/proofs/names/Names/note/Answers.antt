use Rattle.std.proofs.Common.{◌≡◌, ap, ◌∙◌, Some}
use Rattle.portfolio_run.specs.Names.{with_name}
use Rattle.portfolio_run.proofs.NotedNames.{noted, found_at}
use Rattle.portfolio_run.proofs.names.Names.note.Goals as goal

pub returns-clause-noted : goal.returns-clause-noted
returns-clause-noted c =
    let is : c.in_ok-to_vec.field-0.items ≡ c.args.name.now =
    c.in_ok-to_vec.ensures.items_if_clones_equal (λ x y same. same) in
    noted (λ key. key.items) c.self.inside.set.keys c.insert_full.new.self.keys c.in_ok-to_vec.field-0
    c.args.name.now is c.in_ok-place.ensures.keys
    ∙ ap (λ names. with_name names c.args.name.now) c.self.view_is

pub returns-clause-place : goal.returns-clause-place
returns-clause-place c =
    let is : c.in_ok-to_vec.field-0.items ≡ c.args.name.now =
    c.in_ok-to_vec.ensures.items_if_clones_equal (λ x y same. same) in
    let stored = c.in_ok-place.ensures.stored in
    found_at (λ key. key.items) c.insert_full.new.self.keys c.in_ok-to_vec.field-0 stored.0 c.in_ok-place.place stored.1
    stored.2
    ∙ ap Some is
