use Rattle.std.proofs.Common.{[], ap, sym, ◌∙◌, below_more, arith}
use Rattle.toml.specs.View.{table_view}
use Rattle.product_file.specs.Members.{has_no_key_but}
use Rattle.product_file.specs.Keys.{Text, optional, top_keys, has_key, names_of}
use Rattle.file_checks.proofs.Checks.{first_of_each-at, first_of_each-none, first_of_each-last}
use Rattle.file_checks.proofs.KeyLemmas.{key_at}
use Rattle.file_checks.proofs.head.key_break.Goals as goal

pub returns-then-not-has_key : goal.returns-then-not-has_key
returns-then-not-has_key c =
    let tree = table_view c.args.tree.now in
    let here = key_at c.top_keys-keys.result c.loop-i.i _ c.top_keys-keys.ensures (omega arith) in
    first_of_each-at (has_key tree) top_keys (has_no_key_but (names_of top_keys) tree) (optional [] Text) c.loop-i.i
    (omega arith) c.loop-i.invariant (ap (has_key tree) (sym here) ∙ sym c.has_key.ensures ∙ c.if-not-has_key.true)

pub loop-i-preserved : goal.loop-i-preserved
loop-i-preserved c =
    let tree = table_view c.args.tree.now in
    let here = key_at c.top_keys-keys.result c.loop-i.i _ c.top_keys-keys.ensures (omega arith) in
    below_more _ _ c.loop-i.invariant (ap (has_key tree) (sym here) ∙ sym c.has_key.ensures ∙ c.if-not-has_key.false)

pub returns-then-has_no_other_key : goal.returns-then-has_no_other_key
returns-then-has_no_other_key c =
    let tree = table_view c.args.tree.now in
    first_of_each-none (has_key tree) top_keys (has_no_key_but (names_of top_keys) tree) (optional [] Text)
    (λ k below. c.loop-i.invariant k (omega arith))
    (ap (λ keys. has_no_key_but (names_of keys) tree) (sym c.top_keys-keys.ensures) ∙ sym c.has_no_other_key.ensures
    ∙ c.if-has_no_other_key.true)

pub returns-else-has_no_other_key : goal.returns-else-has_no_other_key
returns-else-has_no_other_key c =
    let tree = table_view c.args.tree.now in
    first_of_each-last (has_key tree) top_keys (has_no_key_but (names_of top_keys) tree) (optional [] Text)
    (λ k below. c.loop-i.invariant k (omega arith))
    (ap (λ keys. has_no_key_but (names_of keys) tree) (sym c.top_keys-keys.ensures) ∙ sym c.has_no_other_key.ensures
    ∙ c.if-has_no_other_key.false)
