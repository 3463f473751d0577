use Rattle.std.proofs.Common.{ap, ◌∙◌}
use Rattle.portfolio_run.specs.Names.{is_among}
use Rattle.portfolio_run.proofs.NotedNames.{among_texts}
use Rattle.portfolio_run.proofs.names.Names.has.Goals as goal

pub returns : goal.returns
returns c =
    c.contains.ensures ∙ among_texts _ c.args.name.now c.self.inside.set.keys
    ∙ ap (λ names. is_among names c.args.name.now) c.self.view_is
