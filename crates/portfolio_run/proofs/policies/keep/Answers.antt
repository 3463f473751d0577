use Rattle.std.proofs.Common.{◌≡◌, ◌∷◌, ◌++◌, [], refl, sym, subst}
use Rattle.portfolio_run.specs.declared.policies.Policy.{Policy}
use Rattle.portfolio_run.specs.Holdings.{Holding}
use Rattle.portfolio_run.specs.Stored.{AreKept}
use Rattle.portfolio_run.proofs.KeptHoldings.{kept_one_more}
use Rattle.portfolio_run.proofs.policies.keep.Goals as goal

pub returns : goal.returns
returns c = record {
  kept = λ holdings kept.
      let holding : Holding = record {
        file = c.args.file.now;
        group = c.args.group.now;
        month = c.args.month;
        state = c.args.state.now;
        count = c.args.count;
      } in
      let state : c.in_ok-state.state.items ≡ c.args.state.now =
      c.in_ok-state.ensures.items_if_clones_equal (λ x y same. same) in
      let policy : Policy = record {
        file = c.in_ok-file.file;
        group = c.in_ok-group.group;
        month = c.args.month;
        state = c.in_ok-state.state;
        count = c.args.count;
      } in
      subst (λ policies. AreKept c.note.new.self c.note-2.new.self policies (holdings ++ holding ∷ []))
      (sym c.in_ok-push.ensures.items)
      (kept_one_more c.args.files.now c.args.groups.now c.note.new.self c.note-2.new.self c.args.policies.now.items
      holdings policy holding c.in_ok-file.ensures.noted c.in_ok-group.ensures.noted c.in_ok-file.ensures.place
      c.in_ok-group.ensures.place refl state refl c.requires kept);
}
