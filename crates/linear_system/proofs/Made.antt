-- A system stays made for its links while its numbers are set.
use Rattle.std.proofs.Common.{ℕ, ◌∙◌}
use Rattle.std.specs.Prelude.{List}
use Rattle.linear_system.specs.StoredSystem.{StoredSystem}
use Rattle.linear_system.specs.Setting.{HasPlace, HaveSamePlaces, IsMadeFor}

pub place_kept : (old new : StoredSystem) (row col : ℕ) → HaveSamePlaces old new → HasPlace old row col
    → HasPlace new row col
place_kept old new row col h p = record {
  row_in = rw h.dim p.row_in;
  col_in = rw h.dim p.col_in;
  has_column = rw (h.columns row) p.has_column;
}

place_before : (old new : StoredSystem) (row col : ℕ) → HaveSamePlaces old new → HasPlace new row col
    → HasPlace old row col
place_before old new row col h p = record {
  row_in = rw h.dim at p.row_in;
  col_in = rw h.dim at p.col_in;
  has_column = rw (h.columns row) at p.has_column;
}

pub made_kept : (dim degree : ℕ) (links : List (ℕ × ℕ)) (old new : StoredSystem) → HaveSamePlaces old new
    → IsMadeFor dim degree links old → IsMadeFor dim degree links new
made_kept dim degree links old new h made = record {
  dim_is = rw h.dim made.dim_is;
  degree_is = rw h.degree made.degree_is;
  places = λ row col b c. (
    λ p. (made.places row col b c).0 (place_before old new row col h p),
    λ t. place_kept old new row col h ((made.places row col b c).1 t),
  );
}

-- one after the other
pub same_places_then : (a b c : StoredSystem) → HaveSamePlaces a b → HaveSamePlaces b c → HaveSamePlaces a c
same_places_then a b c h k = record {
  dim = k.dim ∙ h.dim;
  degree = k.degree ∙ h.degree;
  columns = λ row. k.columns row ∙ h.columns row;
}
