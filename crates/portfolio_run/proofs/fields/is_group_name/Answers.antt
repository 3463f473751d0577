use Rattle.std.proofs.Common.{arith}
use Rattle.std.proofs.lemmas.List.Sums.{AllPass-from_list_all, list_all-from_AllPass}
use Rattle.model_specs.specs.Names.{is_name_byte}
use Rattle.portfolio_run.proofs.fields.is_group_name.Goals as goal

pub returns-then-name-le-LONGEST_GROUP : goal.returns-then-name-le-LONGEST_GROUP
returns-then-name-le-LONGEST_GROUP c = (
  λ passed. record {
    not_empty = grind arith;
    short = grind arith;
    bytes = AllPass-from_list_all is_name_byte c.args.name.now (rw (← c.has_name_bytes.ensures) passed);
  },
  λ good. rw c.has_name_bytes.ensures (list_all-from_AllPass is_name_byte c.args.name.now good.bytes),
)
