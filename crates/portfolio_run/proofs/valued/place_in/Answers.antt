use Rattle.std.proofs.Common.{◌≡◌, ◌≤◌, ◌<◌, [], false, length, get_or, below_more, sym, ◌∙◌, arith}
use Rattle.std.specs.Prelude.{bytes_eq}
use Rattle.std.proofs.lemmas.List.{length-map}
use Rattle.std.proofs.lemmas.List.Sums.{position_or_len_is}
use Rattle.state_graph.specs.StateGraphs.{texts_of}
use Rattle.portfolio_run.proofs.NotedNames.{text_at}
use Rattle.portfolio_run.proofs.valued.place_in.Goals as goal

pub returns-then-eq-clause-value : goal.returns-then-eq-clause-value
returns-then-eq-clause-value c =
    let names = c.args.names.now in
    let count = length-map names (λ name. name.items) in
    let within : c.loop-i.i < length c.args.names.now = omega arith in
    let here : get_or (texts_of c.args.names.now) c.loop-i.i [] ≡ c.as_slice.result.now =
    text_at (λ name. name.items) c.args.names.now c.loop-i.i c.index-names-i.result within c.index-names-i.is
    ∙ sym c.as_slice.ensures.value in
    sym (position_or_len_is (bytes_eq c.args.name.now) (texts_of c.args.names.now) c.loop-i.i []
    (omega (arith, within, count)) c.loop-i.invariant (λ _. rw here (sym c.eq.ensures ∙ c.if-eq.true)))

pub loop-i-preserved : goal.loop-i-preserved
loop-i-preserved c k within =
    let inside : c.loop-i.i < length c.args.names.now = omega arith in
    let here : get_or (texts_of c.args.names.now) c.loop-i.i [] ≡ c.as_slice.result.now =
    text_at (λ name. name.items) c.args.names.now c.loop-i.i c.index-names-i.result inside c.index-names-i.is
    ∙ sym c.as_slice.ensures.value in
    below_more (λ j. bytes_eq c.args.name.now (get_or (texts_of c.args.names.now) j []) ≡ false) c.loop-i.i
    c.loop-i.invariant (rw here (sym c.eq.ensures ∙ c.if-eq.false)) k within

pub returns-clause-value : goal.returns-clause-value
returns-clause-value c =
    let count = length-map c.args.names.now (λ name. name.items) in
    let end : length c.args.names.now ≤ c.loop-i.i = omega arith in
    sym (position_or_len_is (bytes_eq c.args.name.now) (texts_of c.args.names.now) (length c.args.names.now) []
    (omega (arith, count)) (λ k within. c.loop-i.invariant k (omega (arith, end, within)))
    (λ past. absurd (omega (arith, past, count))))
