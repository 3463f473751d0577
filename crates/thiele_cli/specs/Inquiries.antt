-- What the program keeps of what is asked.
use Rattle.std.specs.Prelude.{⊤}
use Rattle.thiele_cli.specs.declared.changing.Change.{Change}
use Rattle.thiele_cli.specs.declared.changing.Change.TheVariants as change
use Rattle.thiele_cli.specs.declared.inquiry.Inquiry.{Inquiry}
use Rattle.thiele_cli.specs.declared.inquiry.Inquiry.TheVariants as inquiry
use Rattle.thiele_cli.specs.Audits.{IsDistance}
use Rattle.thiele_cli.specs.Questions as questions
use Rattle.thiele_cli.specs.Questions.{Asked, OfFile, OfFiles, OfSeed, LoadOf, OfClaims, OfPortfolio, OfChange}
use Rattle.thiele_cli.specs.Questions.{OfShards, OfPage}
use Rattle.thiele_cli.specs.Questions.{HasDates, HasDatesOfTwo}

-- a change that is asked
abbrev pub change_of : Change → questions.Change
change_of (change.Shifted rate) = questions.Shifted rate
change_of (change.Multiplied from to factor) = questions.Multiplied from.now to.now factor
change_of (change.Charged amount) = questions.Charged amount

-- what an inquiry asks
abbrev pub asked_by : Inquiry → Asked
asked_by (inquiry.OfFile question name) = OfFile question name.now
asked_by (inquiry.OfFiles question first second) = OfFiles question first.now second.now
asked_by (inquiry.OfSeed seed) = OfSeed seed
asked_by (inquiry.LoadOf seed) = LoadOf seed
asked_by (inquiry.OfClaims name claims eps) = OfClaims name.now claims.now eps
asked_by (inquiry.OfPortfolio csv) = OfPortfolio csv.now
asked_by (inquiry.OfChange name change) = OfChange name.now (change_of change)
asked_by (inquiry.OfShards csv) = OfShards csv.now
asked_by (inquiry.OfPage page) = OfPage page

-- what is asked is within its limits: dates lie some months apart, and a distance is not too large
abbrev pub IsWellAsked : Asked → Type 0
IsWellAsked (OfFile question name) = HasDates question
IsWellAsked (OfFiles question first second) = HasDatesOfTwo question
IsWellAsked (OfSeed seed) = ⊤
IsWellAsked (LoadOf seed) = ⊤
IsWellAsked (OfClaims name claims eps) = IsDistance eps
IsWellAsked (OfPortfolio csv) = ⊤
IsWellAsked (OfChange name change) = ⊤
IsWellAsked (OfShards csv) = ⊤
IsWellAsked (OfPage page) = ⊤
