use Rattle.std.proofs.Common.{◌≤◌, Some, ap, arith, ◌∙◌}
use Rattle.std.proofs.lemmas.Str.{IsUtf8-string_bytes}
use Rattle.toml.specs.Data.{members_depth}
use Rattle.toml.specs.View.{table_view}
use Rattle.product_file.specs.Verdict.{ReadsAs}
use Rattle.workload_gen.specs.Tree.{generated}
use Rattle.workload_gen.proofs.Depths.{generated_depth}
use Rattle.workload_gen.proofs.Valid.{generated_valid}
use Rattle.workload_gen.proofs.generate.make.Goals as goal

pub returns-in-Ok : goal.returns-in-Ok
returns-in-Ok c =
    let shallow : members_depth (table_view c.in_ok-tree.field-0) ≤ 80 =
    rw c.in_ok-tree.ensures (generated_depth c.args.seed) in
    let reads : ReadsAs c.into_bytes.result.items (generated c.args.seed) =
    rw c.into_bytes.ensures.value (record {
      text = IsUtf8-string_bytes c.in-Ok.text;
      document = c.in-Ok.ensures.reads_back shallow ∙ ap Some c.in_ok-tree.ensures;
    }) in
    let valid = generated_valid c.args.seed (omega arith) in
    record {
      tree = reads;
      valid = record {
        reads = record { tree = generated c.args.seed; reads_as = reads; gives = valid.gives };
        valued = valid.valued;
      };
    }
