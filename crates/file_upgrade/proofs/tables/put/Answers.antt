use Rattle.workload_gen.proofs.TableViews.{members_view-put}
use Rattle.file_upgrade.proofs.tables.put.Goals as goal

pub returns : goal.returns
returns c = rw (c.in_ok-insert.ensures.entries, ← c.in_ok-to_string.ensures.ok)
    (members_view-put c.args.table.now.entries c.in_ok-to_string.field-0 c.args.value)
