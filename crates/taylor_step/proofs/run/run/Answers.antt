use Rattle.std.proofs.Common.{◌≡◌, ◌+◌, ℕ, suc, pos, length, arith, get_or, ◌∙◌, sym, ◌+ℤ◌, add-one, refl, List, ℤ}
use mathlib.Core.Path.{ap₂}
use Rattle.taylor_step.proofs.Starts.{sizes_fit}
use Rattle.taylor_step.proofs.Turns.{new_is, new_small, history_more, sums_small}
use Rattle.std.proofs.lemmas.List.{length-set}
use Rattle.taylor_step.proofs.Stopping.{power_most, least_degree_most, newest_size}
use Rattle.taylor_step.proofs.Stopping.{one_more_size, stop_last, stop_where_true, none_where_false}
use Rattle.linear_system.specs.DegreeLimit.{greatest_power}
use Rattle.taylor_step.proofs.run.run.Goals as goal
use Rattle.taylor_step.specs.Strips.{contents}
use Rattle.taylor_step.specs.WholeRun.{coefficient, value_to}
use Rattle.linear_system.specs.StoredSystem.{StoredSystem, dim_of}

added-zero : (s : StoredSystem) (mid : List ℤ) (i : ℕ) → get_or mid i (pos 0) ≡ value_to s mid 0 i
unfolding value_to
added-zero s mid i = refl

added-more : (s : StoredSystem) (mid : List ℤ) (k i : ℕ)
    → value_to s mid (suc k) i ≡ value_to s mid k i +ℤ coefficient s mid (suc k) i
unfolding value_to
added-more s mid k i = refl

pub loop-k-init : goal.loop-k-init
loop-k-init c = record {
  room = c.begin.ensures.room;
  free = c.begin.ensures.free;
  history = c.begin.ensures.history;
  sums = λ i b. added-zero c.args.sys.now c.args.mid.now i;
  long = refl;
  sizes = λ j a b. absurd (omega arith);
  none = λ j l b h. absurd (let m = least_degree_most (greatest_power c.args.sys.now)
      (power_most c.args.sys.now c.degree-degree.ensures.system) in omega (arith, m.0, l, b));
  small = λ i. omega (arith, c.requires.fit.start_small i);
}

pub new_numbers-requires-clause-fit : goal.new_numbers-requires-clause-fit
new_numbers-requires-clause-fit c = λ row b. sizes_fit c.args.sys.now c.args.mid.now c.begin.new.start c.loop-k.k
    (contents c.loop-k.strips) c.degree-degree.ensures.system c.begin.ensures.start c.loop-k.invariant.history
    row b c.loop-k-test.true c.requires.fit

pub add_all-requires-clause-newest : goal.add_all-requires-clause-newest
add_all-requires-clause-newest c = λ i. omega (
  arith,
  new_small c.args.sys.now c.args.mid.now c.new_numbers.new.newest c.loop-k.k c.requires.fit c.loop-k-test.true
      (c.new_numbers.auto.newest ∙ c.loop-k.auto.newest ∙ c.begin.auto.newest ∙ c.requires.newest)
      (new_is c.args.sys.now c.args.mid.now c.begin.new.start c.new_numbers.new.newest c.loop-k.k
      (contents c.loop-k.strips) c.degree-degree.ensures.system c.begin.ensures.start
      c.loop-k.invariant.history c.new_numbers.ensures.done)
      (c.new_numbers.ensures.free ∙ c.loop-k.invariant.free) i,
)

pub greatest_size-requires : goal.greatest_size-requires
greatest_size-requires c = λ i. omega (
  arith,
  new_small c.args.sys.now c.args.mid.now c.new_numbers.new.newest c.loop-k.k c.requires.fit c.loop-k-test.true
      (c.new_numbers.auto.newest ∙ c.loop-k.auto.newest ∙ c.begin.auto.newest ∙ c.requires.newest)
      (new_is c.args.sys.now c.args.mid.now c.begin.new.start c.new_numbers.new.newest c.loop-k.k
      (contents c.loop-k.strips) c.degree-degree.ensures.system c.begin.ensures.start
      c.loop-k.invariant.history c.new_numbers.ensures.done)
      (c.new_numbers.ensures.free ∙ c.loop-k.invariant.free) i,
)

pub may_stop-requires-clause-few : goal.may_stop-requires-clause-few
may_stop-requires-clause-few c =
    rw c.top_power-top.ensures (power_most c.args.sys.now c.degree-degree.ensures.system)

pub returns-then-may_stop-clause-sums : goal.returns-then-may_stop-clause-sums
returns-then-may_stop-clause-sums c row b =
    let new = new_is c.args.sys.now c.args.mid.now c.begin.new.start c.new_numbers.new.newest c.loop-k.k
    (contents c.loop-k.strips) c.degree-degree.ensures.system c.begin.ensures.start
    c.loop-k.invariant.history c.new_numbers.ensures.done in
    let long : length c.loop-k.mid ≡ dim_of c.args.sys.now = c.loop-k.auto.mid ∙ c.requires.mid in
    rw add-one (c.add_all.ensures row (rw long b) ∙ ap₂ ◌+ℤ◌ (c.loop-k.invariant.sums row b)
    (new row b) ∙ sym (added-more c.args.sys.now c.args.mid.now c.loop-k.k row))

pub returns-then-may_stop-clause-stop : goal.returns-then-may_stop-clause-stop
returns-then-may_stop-clause-stop c =
    stop_where_true c.args.sys.now c.args.mid.now _ c.loop-k.k c.top_power-top.result c.may_stop.result
    c.degree-degree.ensures.system c.top_power-top.ensures c.may_stop.ensures
    (one_more_size c.args.sys.now c.args.mid.now c.loop-k.sizes c.loop-k.k c.greatest_size.result
    (omega (arith, c.loop-k-test.true, c.loop-k.invariant.long)) c.loop-k.invariant.sizes
    (newest_size c.args.sys.now c.args.mid.now (suc c.loop-k.k) c.new_numbers.new.newest c.greatest_size.result
    (c.new_numbers.auto.newest ∙ c.loop-k.auto.newest ∙ c.begin.auto.newest ∙ c.requires.newest)
    (new_is c.args.sys.now c.args.mid.now c.begin.new.start c.new_numbers.new.newest c.loop-k.k
    (contents c.loop-k.strips) c.degree-degree.ensures.system c.begin.ensures.start
    c.loop-k.invariant.history c.new_numbers.ensures.done)
    (c.new_numbers.ensures.free ∙ c.loop-k.invariant.free)
    c.greatest_size.ensures.all c.greatest_size.ensures.least))
    c.loop-k-test.true c.if-may_stop.true c.loop-k.invariant.none

pub returns-clause-stop : goal.returns-clause-stop
returns-clause-stop c = stop_last c.args.sys.now c.args.mid.now c.loop-k.k c.degree-degree.ensures.system
    c.loop-k-test.false c.loop-k.invariant.none

pub loop-k-preserved : goal.loop-k-preserved
loop-k-preserved c =
    let free = c.new_numbers.ensures.free ∙ c.loop-k.invariant.free in
    let new = new_is c.args.sys.now c.args.mid.now c.begin.new.start c.new_numbers.new.newest c.loop-k.k
    (contents c.loop-k.strips) c.degree-degree.ensures.system c.begin.ensures.start
    c.loop-k.invariant.history c.new_numbers.ensures.done in
    let small = new_small c.args.sys.now c.args.mid.now c.new_numbers.new.newest c.loop-k.k
    c.requires.fit c.loop-k-test.true
    (c.new_numbers.auto.newest ∙ c.loop-k.auto.newest ∙ c.begin.auto.newest ∙ c.requires.newest)
    new free in
    let long : length c.loop-k.mid ≡ dim_of c.args.sys.now = c.loop-k.auto.mid ∙ c.requires.mid in
    let sizes = one_more_size c.args.sys.now c.args.mid.now c.loop-k.sizes c.loop-k.k c.greatest_size.result
    (omega (arith, c.loop-k-test.true, c.loop-k.invariant.long)) c.loop-k.invariant.sizes
    (newest_size c.args.sys.now c.args.mid.now (suc c.loop-k.k) c.new_numbers.new.newest c.greatest_size.result
    (c.new_numbers.auto.newest ∙ c.loop-k.auto.newest ∙ c.begin.auto.newest ∙ c.requires.newest)
    (new_is c.args.sys.now c.args.mid.now c.begin.new.start c.new_numbers.new.newest c.loop-k.k
    (contents c.loop-k.strips) c.degree-degree.ensures.system c.begin.ensures.start
    c.loop-k.invariant.history c.new_numbers.ensures.done)
    (c.new_numbers.ensures.free ∙ c.loop-k.invariant.free)
    c.greatest_size.ensures.all c.greatest_size.ensures.least) in
    record {
      room = c.write_blocks.ensures.room;
      free = free;
      history = rw add-one (history_more c.args.sys.now c.args.mid.now c.new_numbers.new.newest c.loop-k.k
          (contents c.loop-k.strips) _ c.degree-degree.ensures.system c.loop-k.invariant.room
          c.loop-k-test.true c.loop-k.invariant.history new free
          c.write_blocks.ensures.blocks);
      sums = λ i b. rw add-one (c.add_all.ensures i (rw long b) ∙ ap₂ ◌+ℤ◌ (c.loop-k.invariant.sums i b)
          (new i b) ∙ sym (added-more c.args.sys.now c.args.mid.now c.loop-k.k i));
      long = length-set c.loop-k.sizes (c.loop-k.k + 1) c.greatest_size.result ∙ c.loop-k.invariant.long;
      sizes = sizes;
      none = none_where_false c.args.sys.now c.args.mid.now _ c.loop-k.k c.top_power-top.result c.may_stop.result
          c.degree-degree.ensures.system c.top_power-top.ensures c.may_stop.ensures sizes c.if-may_stop.false
          c.loop-k.invariant.none;
      small = sums_small c.loop-k.mid c.add_all.new.sums c.new_numbers.new.newest c.loop-k.k
          c.add_all.auto.sums c.add_all.ensures c.loop-k.invariant.small small;
    }
