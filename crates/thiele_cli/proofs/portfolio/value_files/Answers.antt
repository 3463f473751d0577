use Rattle.std.proofs.Common.{◌<◌, ◌∙◌, length, sym, subst, arith}
use Rattle.std.specs.Prelude.{All, IsUtf8}
use Rattle.portfolio_run.specs.Readings.{files_of}
use Rattle.thiele_cli.proofs.Portfolios.{next_is_refused, next_is_valued}
use Rattle.thiele_cli.proofs.portfolio.value_files.Goals as goal

pub next_file-requires-clause-texts : goal.next_file-requires-clause-texts
next_file-requires-clause-texts g c =
    subst (λ holdings. All IsUtf8 (files_of holdings)) (sym c.loop-file.invariant.holdings) c.requires.texts

pub returns-in-Some-clause-last : goal.returns-in-Some-clause-last
returns-in-Some-clause-last g c =
    let inside : c.loop-file.file < length (files_of c.args.policies.now.holdings) =
    omega (arith, c.files-file-end.ensures.count) in
    next_is_refused (g.H.Shelf.files c.loop-file.shelf) (g.H.Shelf.files c.args.shelf.now) c.args.policies.now
    c.loop-file.policies c.next_file.new.policies c.in_ok-refused.field-0 c.in-Some.refused c.loop-file.file
    c.loop-file.invariant.files c.loop-file.invariant.holdings c.loop-file.invariant.count inside
    c.loop-file.invariant.valued c.in-Some.is c.in_ok-refused.ensures.next

pub loop-file-preserved : goal.loop-file-preserved
loop-file-preserved g c =
    let inside : c.loop-file.file < length (files_of c.args.policies.now.holdings) =
    omega (arith, c.files-file-end.ensures.count) in
    let next = next_is_valued (g.H.Shelf.files c.loop-file.shelf) (g.H.Shelf.files c.args.shelf.now)
    c.args.policies.now c.loop-file.policies c.next_file.new.policies c.in_ok-refused.field-0 c.loop-file.file
    c.loop-file.invariant.files c.loop-file.invariant.holdings c.loop-file.invariant.count inside
    c.loop-file.invariant.valued c.in_default.is c.in_ok-refused.ensures.next in
    record {
      holdings = next.0;
      count = next.1;
      within = omega (arith, inside);
      valued = next.2;
      failed = c.in_ok-refused.ensures.fetched ∙ c.loop-file.invariant.failed;
      files = c.next_file.ensures.files ∙ c.loop-file.invariant.files;
    }
