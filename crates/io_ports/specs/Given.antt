-- What is kept of the files that a shelf gave.
use Rattle.std.specs.Prelude.{ℕ, List, [], ◌∷◌, length, map, Vec, Result, Ok, Err}
use Rattle.std.specs.declared.alloc.Global.{Global}
use Rattle.sha2.specs.Sha256.{sha256}
use Rattle.io_ports.specs.declared.given.Given.{Given}
use Rattle.io_ports.specs.declared.shelf.FetchError.{FetchError}

-- evidence of a file: its name, the number of its bytes, and their SHA-256
pub record Evidence : Type 0 where
  pub name : List ℕ
  pub bytes : ℕ
  pub digest : List ℕ

-- the evidence of a file with this name and these bytes
abbrev pub given_of : List ℕ → List ℕ → Evidence
given_of name bytes = record { name = name; bytes = length bytes; digest = sha256 bytes }

-- the evidence of the file once if it was given, and nothing otherwise
abbrev pub given_by : List ℕ → Result (Vec ℕ Global) FetchError → List Evidence
given_by name (Ok bytes) = given_of name bytes.items ∷ []
given_by name (Err error) = []

-- what is kept, as evidence
abbrev pub evidence_in : Given → Evidence
evidence_in given = record { name = given.name.items; bytes = given.bytes; digest = given.sha256 }

-- the same of all that is kept
abbrev pub evidence_of : List Given → List Evidence
evidence_of given = map evidence_in given
