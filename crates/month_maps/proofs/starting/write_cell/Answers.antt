use Rattle.std.proofs.Common.{ℕ, ◌<◌, pos, subst}
use Rattle.std.specs.Prelude.{slice_index_or}
use Rattle.month_maps.specs.MadeMaps.{IsAround, IsStepFrom}
use Rattle.month_maps.specs.StoredMap.{interval_at}
use Rattle.month_maps.proofs.MadeCells.{holds_free}
use Rattle.month_maps.proofs.starting.write_cell.Goals as goal

pub returns-clause-free : goal.returns-clause-free
returns-clause-free g c =
    let done = subst (λ n. (row : ℕ) → row < n
    → IsAround 16 (slice_index_or c.step_from-degree.new.mid row (pos 0)) (interval_at c.write_free.new.free row))
    c.requires.free c.write_free.ensures in
    holds_free c.args.sys.now c.step_from-degree.new.mid c.write_free.new.free
    (subst (λ d. IsStepFrom c.args.sys.now d c.step_from-degree.new.mid) c.dim-dim.ensures
    c.step_from-degree.ensures.from) done
