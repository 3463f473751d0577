-- What a shelf gives of a file.
use Rattle.std.specs.Prelude.{◌≡◌, ℕ, ◌+◌, List}
use Rattle.named_numbers.specs.Numbers.{most_file_bytes}
use Rattle.thiele_cli.specs.declared.fetching.Fetched.{Fetched}
use Rattle.thiele_cli.specs.declared.fetching.Fetched.TheVariants as fetched
use Rattle.thiele_cli.specs.Cases.{Files, IsLong, AreBytesOf}

-- the file of that name has these bytes, or more of them than a file may have, of which one more were taken
abbrev pub IsFetched : Files → List ℕ → Fetched → Type 0
IsFetched files name (fetched.Bytes bytes) = AreBytesOf files name bytes.items
IsFetched files name (fetched.TooLong seen) = IsLong files name × (seen ≡ most_file_bytes + 1)
