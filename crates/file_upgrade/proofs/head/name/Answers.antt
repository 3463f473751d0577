use Rattle.std.proofs.Common.{sym, subst}
use Rattle.std.specs.Prelude.{IsUtf8}
use Rattle.file_upgrade.proofs.GoodNames.{name_is_text}
use Rattle.file_upgrade.proofs.head.name.Goals as goal

pub text-requires : goal.text-requires
text-requires c =
    subst IsUtf8 (sym c.name.ensures)
    (name_is_text 40 c.args.product.now.name c.months-months.ensures.lawful.names.name)
