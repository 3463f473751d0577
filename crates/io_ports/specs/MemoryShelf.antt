-- What a shelf in memory holds, and which of its calls fail.
use Rattle.std.specs.Prelude.{◌≡◌, ℕ, ◌⊎◌, List, None, Contains}
use Rattle.io_ports.specs.declared.memory_shelf.MemoryShelf.{MemoryShelf}
use Rattle.io_ports.specs.Counts.{next_count}
use Rattle.io_ports.specs.Files.{file_of, files_of, names_of}
use Rattle.io_ports.specs.Given.{Evidence, evidence_of}

-- its files, as pairs of name and bytes
abbrev pub files_in : MemoryShelf → List (List ℕ × List ℕ)
files_in shelf = files_of shelf.files.items

-- the names whose fetch failed, the oldest first
abbrev pub failed_in : MemoryShelf → List (List ℕ)
failed_in shelf = names_of shelf.failed.items

-- evidence of each file that was given, the oldest first
abbrev pub given_in : MemoryShelf → List Evidence
given_in shelf = evidence_of shelf.given.items

-- how many calls there were, up to the largest `u64`
abbrev pub calls_of : MemoryShelf → ℕ
calls_of shelf = shelf.calls.made

-- the numbers of the calls that fail
abbrev pub failing_of : MemoryShelf → List ℕ
failing_of shelf = shelf.calls.failing.items

-- the next call's number is listed, or no pair has this name
abbrev pub MeetsFault : MemoryShelf → List ℕ → Type 0
MeetsFault shelf name =
    Contains (failing_of shelf) (next_count (calls_of shelf)) ⊎ (file_of name (files_in shelf) ≡ None)
