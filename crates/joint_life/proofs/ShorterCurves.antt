-- The pieces of a curve that start below a shorter term are a curve over it.
use Rattle.std.proofs.Common.{◌≡◌, ℕ, zero, suc, ◌<◌, ◌≤◌, List, [], ◌∷◌, length, take, get_or}
use Rattle.std.proofs.Common.{arith, refl, ap, sym, ◌∙◌, subst, inl, inr}
use Rattle.std.specs.Prelude.{false, nat_lt, unsigned_abs}
use Rattle.std.proofs.lemmas.Bool.{cases_lt, lt-ltb}
use Rattle.std.proofs.lemmas.Bool.Decides.{nat_tests}
use Rattle.std.proofs.lemmas.List.{get_or-map, get_or-take, length-map, length-take, get_or_past}
use Rattle.std.proofs.lemmas.List.Elements.{All-take}
use Rattle.std.proofs.Math.Nat.{pow-le-pow_left, mul-le-mul_left}
use Rattle.model_specs.specs.Curve.{Piece, zero_piece}
use Rattle.model_specs.specs.MonthNumbers.{coefficient_at}
use Rattle.model_specs.specs.RecordRules.{IsCurve, IsBounded, IsBoundedCurve, piece_starts, months_of}
use Rattle.joint_life.specs.JointRecord.{pieces_within}

-- the start of a piece
abbrev start : List Piece → ℕ → ℕ
start pieces k = (get_or pieces k zero_piece).from

-- the pieces that start below a term are the first ones
record AreFirst (months : ℕ) (pieces : List Piece) : Type 0 where
  pub count : ℕ
  pub most : count ≤ length pieces
  pub kept : pieces_within months pieces ≡ take count pieces
  pub low : (k : ℕ) → k < count → start pieces k < months
  pub high : (k : ℕ) → count ≤ k → k < length pieces → months ≤ start pieces k

not_below : (a b : ℕ) → b ≤ a → nat_lt a b ≡ false
not_below a b h = grind (arith, nat_tests)

first_ones : (months : ℕ) (pieces : List Piece)
    → ((k : ℕ) → suc k < length pieces → start pieces k < start pieces (suc k)) → AreFirst months pieces
first_ones months [] rising = record {
  count = 0;
  most = omega arith;
  kept = refl;
  low = λ k below. absurd (omega arith);
  high = λ k from below. absurd (omega arith);
}
first_ones months (x ∷ xs) rising =
    let rest = first_ones months xs (λ k below. rising (suc k) (omega (arith, below))) in
    elim (cases_lt x.from months) [
      | inl below ↦ record {
        count = suc rest.count;
        most = omega (arith, rest.most);
        kept = rw (lt-ltb x.from months below) (ap (λ ps. x ∷ ps) rest.kept);
        low = low-more rest.count below rest.low;
        high = high-more rest.count rest.high;
      }
      | inr past ↦ record {
        count = 0;
        most = omega arith;
        kept = rw (not_below x.from months past) (rest.kept ∙ ap (λ n. take n xs)
            (none rest.count rest.most rest.low past));
        low = λ k below. absurd (omega arith);
        high = all-high past;
      }
    ]
  where
    low-more : (n : ℕ) → x.from < months → ((k : ℕ) → k < n → start xs k < months) → (k : ℕ) → k < suc n
        → start (x ∷ xs) k < months
    low-more n below low zero inside = below
    low-more n below low (suc k) inside = low k (omega (arith, inside))

    high-more : (n : ℕ) → ((k : ℕ) → n ≤ k → k < length xs → months ≤ start xs k) → (k : ℕ) → suc n ≤ k
        → k < length (x ∷ xs) → months ≤ start (x ∷ xs) k
    high-more n high zero from inside = absurd (omega (arith, from))
    high-more n high (suc k) from inside = high k (omega (arith, from)) (omega (arith, inside))

    none : (n : ℕ) → n ≤ length xs → ((k : ℕ) → k < n → start xs k < months) → months ≤ x.from → n ≡ 0
    none zero most low past = refl
    none (suc n) most low past = absurd (omega (
      arith,
      low 0 (omega arith),
      past,
      rising 0 (omega (arith, most)),
    ))

    all-high : months ≤ x.from → (k : ℕ) → 0 ≤ k → k < length (x ∷ xs) → months ≤ start (x ∷ xs) k
    all-high past zero from inside = past
    all-high past (suc k) from inside =
        omega (arith, rising k inside, all-high past k (omega arith) (omega (arith, inside)))

-- coefficients that are bounded over some months are over fewer
bounded_for_fewer : (c : List _) (s t : ℕ) → t ≤ s → IsBounded c s → IsBounded c t
bounded_for_fewer c s t fewer bounded i inside =
    omega (
      arith,
      bounded i inside,
      mul-le-mul_left (unsigned_abs (coefficient_at c i)) (pow-le-pow_left fewer i),
    )

module _ (term months : ℕ) (pieces : List Piece) (curve : IsCurve term pieces) (some : 1 ≤ months)
    (shorter : months ≤ term) where
  starts_at : (k : ℕ) → k < length pieces → get_or (piece_starts pieces) k 0 ≡ start pieces k
  starts_at k inside = get_or-map (λ (piece : Piece). piece.from) pieces k zero_piece 0 inside

  as_many : length (piece_starts pieces) ≡ length pieces
  as_many = length-map pieces (λ (piece : Piece). piece.from)

  rises : (k : ℕ) → suc k < length pieces → start pieces k < start pieces (suc k)
  rises k inside =
      let step : get_or (piece_starts pieces) k 0 < get_or (piece_starts pieces) (suc k) 0 =
      curve.starts.rising k (omega (arith, as_many, inside)) in
      omega (arith, step, starts_at k (omega (arith, inside)), starts_at (suc k) inside)

  first : AreFirst months pieces
  first = first_ones months pieces rises

  some_piece : 1 ≤ length pieces
  some_piece = omega (arith, as_many, curve.starts.some)

  first_start : start pieces 0 ≡ 0
  first_start = sym (starts_at 0 some_piece) ∙ curve.starts.first

  some_kept : (n : ℕ) → first.count ≡ n → 1 ≤ n
  some_kept zero is = absurd (omega (arith, first.high 0 (omega (arith, is)) some_piece, first_start, some))
  some_kept (suc n) is = omega arith

  kept_count : length (take first.count pieces) ≡ first.count
  kept_count = omega (arith, length-take first.count pieces, first.most)

  start_kept : (k : ℕ) → k < first.count → get_or (piece_starts (take first.count pieces)) k 0 ≡ start pieces k
  start_kept k inside =
      get_or-map (λ (piece : Piece). piece.from) (take first.count pieces) k zero_piece 0 (omega (
        arith,
        kept_count,
        inside,
      )) ∙ ap (λ (piece : Piece). piece.from) (get_or-take first.count pieces k zero_piece inside)

  kept_is_curve : IsCurve months (take first.count pieces)
  kept_is_curve = record {
    six = All-take (λ (piece : Piece). length piece.c ≡ 6) first.count pieces curve.six;
    starts = record {
      some = omega (arith, kept_starts, some_kept first.count refl);
      first = start_kept 0 (some_kept first.count refl) ∙ first_start;
      rising = λ k inside. omega (
        arith,
        start_kept k (omega (arith, inside, kept_starts)),
        start_kept (suc k) (omega (arith, inside, kept_starts)),
        rises k (omega (arith, inside, kept_starts, first.most)),
      );
      below = λ k inside. omega (
        arith,
        start_kept k (omega (arith, inside, kept_starts)),
        first.low k (omega (arith, inside, kept_starts)),
      );
    };
  }
    where
      kept_starts : length (piece_starts (take first.count pieces)) ≡ first.count
      kept_starts = length-map (take first.count pieces) (λ (piece : Piece). piece.from) ∙ kept_count

  pub shorter_curve : IsCurve months (pieces_within months pieces)
  shorter_curve = subst (IsCurve months) (sym first.kept) kept_is_curve

  -- ---- their sizes

  -- a kept piece holds for no more months than before
  fewer : (k : ℕ) → k < first.count
      → months_of months (piece_starts (take first.count pieces)) k ≤ months_of term (piece_starts pieces) k
  fewer k inside = elim (cases_lt (suc k) first.count) [
    | inl next ↦
        omega (
          arith,
          start_kept k inside,
          starts_at k (omega (arith, inside, first.most)),
          get_or-map (λ (piece : Piece). piece.from) (take first.count pieces) (suc k) zero_piece months
              (omega (arith, kept_count, next)),
          ap (λ (piece : Piece). piece.from) (get_or-take first.count pieces (suc k) zero_piece next),
          get_or-map (λ (piece : Piece). piece.from) pieces (suc k) zero_piece term (omega (arith, next, first.most)),
        )
    | inr last ↦
        let ends : get_or (piece_starts (take first.count pieces)) (suc k) months ≡ months =
        get_or_past (piece_starts (take first.count pieces)) (suc k) months (omega (
          arith,
          last,
          kept_count,
          length-map (take first.count pieces) (λ (piece : Piece). piece.from),
        )) in
        elim (cases_lt (suc k) (length pieces)) [
          | inl next ↦
              omega (
                arith,
                ends,
                start_kept k inside,
                starts_at k (omega (arith, inside, first.most)),
                get_or-map (λ (piece : Piece). piece.from) pieces (suc k) zero_piece term next,
                first.high (suc k) last next,
              )
          | inr none ↦
              omega (
                arith,
                ends,
                start_kept k inside,
                starts_at k (omega (arith, inside, first.most)),
                shorter,
                get_or_past (piece_starts pieces) (suc k) term (omega (arith, none, as_many)),
              )
        ]
  ]

  kept_is_bounded : IsBoundedCurve term pieces → IsBoundedCurve months (take first.count pieces)
  kept_is_bounded bounded k inside =
      let kept : k < first.count = omega (arith, inside, kept_count) in
      subst (λ (piece : Piece). IsBounded piece.c (months_of months (piece_starts (take first.count pieces)) k))
      (sym (get_or-take first.count pieces k zero_piece kept))
      (bounded_for_fewer (get_or pieces k zero_piece).c _ _ (fewer k kept)
      (bounded k (omega (arith, kept, first.most))))

  pub shorter_bounded : IsBoundedCurve term pieces → IsBoundedCurve months (pieces_within months pieces)
  shorter_bounded bounded = subst (IsBoundedCurve months) (sym first.kept) (kept_is_bounded bounded)
