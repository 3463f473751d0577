-- What was read of a reader of files, by the bytes that it is known to have left.
use Rattle.std.specs.Prelude.{◌≡◌, ℕ, List, length, Option}
use Rattle.std.specs.Io.KnownBytes.{Consumes, IsAtEnd}

-- a reader gave so many of the bytes that it had left
abbrev pub ConsumesMany : Option (List ℕ) → Option (List ℕ) → ℕ → Type 0
ConsumesMany old new count = (bytes : List ℕ) × Consumes old new bytes × (length bytes ≡ count)

-- the bytes are all that some reader had left, from where it was opened to its end
abbrev pub IsReadWhole : {F : Type 0} → (F → Option (List ℕ)) → List ℕ → Type 0
IsReadWhole {F} remaining bytes =
    (opened : F) × (read : F) × Consumes (remaining opened) (remaining read) bytes
    × IsAtEnd (remaining read)

-- so many bytes were taken of some reader, from where it was opened
abbrev pub IsReadTo : {F : Type 0} → (F → Option (List ℕ)) → ℕ → Type 0
IsReadTo {F} remaining count =
    (opened : F) × (read : F) × ConsumesMany (remaining opened) (remaining read) count
