-- What a shelf over real files holds.
use Rattle.std.specs.Prelude.{ℕ, List}
use Rattle.io_ports.specs.declared.file_shelf.FileShelf.{FileShelf}
use Rattle.io_ports.specs.Files.{names_of}
use Rattle.io_ports.specs.Given.{Evidence, evidence_of}

-- the names whose fetch failed, the oldest first
abbrev pub failed_in : {R File Dir : Type 0} → FileShelf R File Dir → List (List ℕ)
failed_in shelf = names_of shelf.failed.items

-- evidence of each file that was given, the oldest first
abbrev pub given_in : {R File Dir : Type 0} → FileShelf R File Dir → List Evidence
given_in shelf = evidence_of shelf.given.items
