-- Curves by pieces: functions of time that are polynomials from one month to another. This product's own.
use Rattle.std.specs.Prelude.{ℕ, ℤ, pos, nat_le, filter, List, [], ◌∷◌}
use Rattle.whole_laws.specs.Whole.{last_or}

-- a piece of a curve, from a month on: (c_0 + c_1 t + .. + c_5 t^5) / den a year, where t is the time in
-- years since the piece's start and den the denominator of all curves of a product
pub record Piece : Type 0 where
  pub from : ℕ
  pub c : List ℤ

-- the piece from month 0 on that is 0
abbrev pub zero_piece : Piece
zero_piece = record { from = 0; c = pos 0 ∷ pos 0 ∷ pos 0 ∷ pos 0 ∷ pos 0 ∷ pos 0 ∷ [] }

-- the piece that holds in a month: the last of those that start at or before it
abbrev pub piece_at : List Piece → ℕ → Piece
piece_at pieces month = last_or zero_piece (filter (λ piece. nat_le piece.from month) pieces)
