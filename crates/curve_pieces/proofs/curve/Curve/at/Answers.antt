use Rattle.std.proofs.Common.{◌≤◌, get_or, arith, ap, ◌∙◌}
use Rattle.model_specs.specs.Curve.{piece_at}
use Rattle.curve_pieces.specs.Records.{record_of, starts_of}
use Rattle.curve_pieces.proofs.ItemStarts.{length-starts}
use Rattle.curve_pieces.proofs.Lookups.{IsFound, found_start}
use Rattle.curve_pieces.proofs.FoundPieces.{from_of, piece_covers, piece_is_bounded}
use Rattle.curve_pieces.proofs.curve.Curve.at.Goals as goal

pub last_start-requires : goal.last_start-requires
last_start-requires c =
    let first : get_or (starts_of c.self.inside.pieces.items) 0 0 ≤ c.args.month =
    omega (arith, (c.self.invariant.allowed.in_order 0).1) in
    rw c.deref.ensures.value
    (record {
      some = omega (
        arith,
        length-starts record_of c.self.inside.pieces.items,
        (c.self.invariant.allowed.in_order 0).0,
      );
      first = first;
    })

pub returns-clause-covers : goal.returns-clause-covers
returns-clause-covers c =
    let view = c.self.view_is in
    let found : IsFound record_of from_of c.self.inside.pieces.items c.self.inside.months c.args.month
    c.last_start.result c.index.result.now =
    record {
      term = omega (arith, c.requires, ap (λ v. v.months) view);
      inside = rw c.deref.ensures.value at c.last_start.ensures.inside;
      item_is = c.index.ensures;
      started = rw c.deref.ensures.value at c.last_start.ensures.started;
      next = rw c.deref.ensures.value at c.last_start.ensures.next;
    } in
    piece_covers _ _ _ _ _ c.self.invariant.allowed found ∙ ap (λ v. piece_at v.pieces c.args.month) view

pub returns-clause-started : goal.returns-clause-started
returns-clause-started c =
    let view = c.self.view_is in
    let found : IsFound record_of from_of c.self.inside.pieces.items c.self.inside.months c.args.month
    c.last_start.result c.index.result.now =
    record {
      term = omega (arith, c.requires, ap (λ v. v.months) view);
      inside = rw c.deref.ensures.value at c.last_start.ensures.inside;
      item_is = c.index.ensures;
      started = rw c.deref.ensures.value at c.last_start.ensures.started;
      next = rw c.deref.ensures.value at c.last_start.ensures.next;
    } in
    omega (arith, found_start _ _ _ _ _ _ _ found, found.started)

pub returns-clause-bounded : goal.returns-clause-bounded
returns-clause-bounded c =
    let view = c.self.view_is in
    let found : IsFound record_of from_of c.self.inside.pieces.items c.self.inside.months c.args.month
    c.last_start.result c.index.result.now =
    record {
      term = omega (arith, c.requires, ap (λ v. v.months) view);
      inside = rw c.deref.ensures.value at c.last_start.ensures.inside;
      item_is = c.index.ensures;
      started = rw c.deref.ensures.value at c.last_start.ensures.started;
      next = rw c.deref.ensures.value at c.last_start.ensures.next;
    } in
    piece_is_bounded _ _ _ _ _ c.self.invariant.allowed found
