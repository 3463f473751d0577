use Rattle.std.proofs.Common.{◌≡◌, ℕ, ◌<◌, length, true, arith, sym, subst}
use Rattle.curve_pieces.specs.Records.{record_of, records_of, starts_of}
use Rattle.curve_pieces.specs.BrokenRules.{IsBoundedAt, IsFirstBroken}
use Rattle.curve_pieces.proofs.ItemStarts.{length-starts}
use Rattle.curve_pieces.proofs.OrderedStarts.{place_below}
use Rattle.curve_pieces.proofs.rules.first_unbounded.Goals as goal

pub returns-then-not-is_bounded_at-clause-some : goal.returns-then-not-is_bounded_at-clause-some
returns-then-not-is_bounded_at-clause-some c =
    let P : ℕ → Type 0 = λ k. IsFirstBroken (IsBoundedAt c.args.months (records_of c.args.pieces.now)) k in
    subst P (sym c.loop-i.invariant.0)
    (record {
      broken = λ held. let answer : c.is_bounded_at.result ≡ true = c.is_bounded_at.ensures.1 held in cc;
      before = c.loop-i.invariant.1;
    })

pub overflow_add-index : goal.overflow_add-index
overflow_add-index c =
    let inside : c.loop-i.i < length (starts_of c.args.pieces.now) =
    omega (arith, length-starts record_of c.args.pieces.now, c.loop-i-test.true) in
    omega (
      arith,
      place_below (starts_of c.args.pieces.now) c.args.months c.loop-i.i (λ k below. c.requires.in_order k) inside,
      c.loop-i.invariant.0,
      c.requires.term,
    )
