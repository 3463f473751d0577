-- What a fetch says of the files that a shelf tells, and of its list of failures.
use Rattle.std.specs.Prelude.{◌≡◌, ℕ, ◌<◌, ◌⊎◌, List, [], ◌∷◌, length, map, bytes_eq, Vec, ⊤, if◌then◌else◌}
use Rattle.std.specs.Prelude.{Option, Some, None, IsSomeAnd, Result, Ok, Err, IsErrOf}
use Rattle.std.specs.declared.alloc.Global.{Global}
use Rattle.io_ports.specs.declared.shelf.FetchError.{FetchError}
use Rattle.io_ports.specs.declared.shelf.FetchError.TheVariants.{Failed, TooLong, Memory}

-- the bytes of the first pair with that name
abbrev pub file_of : List ℕ → List (List ℕ × List ℕ) → Option (List ℕ)
file_of name [] = None
file_of name (file ∷ files) = if bytes_eq name file.0 then Some file.1 else file_of name files

-- told files have no pair with that name
abbrev pub IsMissing : Option (List (List ℕ × List ℕ)) → List ℕ → Type 0
IsMissing None name = ⊥
IsMissing (Some files) name = file_of name files ≡ None

-- told files have a file of that name, and of more bytes than these
abbrev pub IsLonger : Option (List (List ℕ × List ℕ)) → List ℕ → ℕ → Type 0
IsLonger None name most = ⊥
IsLonger (Some files) name most = IsSomeAnd (file_of name files) (λ bytes. most < length bytes)

-- the answer fits the told files
abbrev pub AnswersFrom : Option (List (List ℕ × List ℕ)) → List ℕ → ℕ → Result (Vec ℕ Global) FetchError
    → Type 0
AnswersFrom None name most result = ⊤
AnswersFrom (Some files) name most (Ok bytes) = file_of name files ≡ Some bytes.items
AnswersFrom (Some files) name most (Err Failed) = ⊤
AnswersFrom (Some files) name most (Err (TooLong seen)) = IsLonger (Some files) name most
AnswersFrom (Some files) name most (Err Memory) = ⊤

-- the answer is this error, or memory was refused
abbrev pub IsErrOrMemory : {T : Type 0} → Result T FetchError → FetchError → Type 0
IsErrOrMemory result error = IsErrOf result error ⊎ IsErrOf result Memory

-- the name once if the fetch failed, and nothing otherwise
abbrev pub failure_of : {T : Type 0} → List ℕ → Result T FetchError → List (List ℕ)
failure_of name (Ok bytes) = []
failure_of name (Err Failed) = name ∷ []
failure_of name (Err (TooLong seen)) = []
failure_of name (Err Memory) = []

-- vectors, as lists
abbrev pub names_of : List (Vec ℕ Global) → List (List ℕ)
names_of names = map (λ name. name.items) names

-- pairs of vectors, as pairs of lists
abbrev pub files_of : List (Vec ℕ Global × Vec ℕ Global) → List (List ℕ × List ℕ)
files_of files = map (λ file. (file.0.items, file.1.items)) files
