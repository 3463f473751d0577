-- Words that ask for what needs no file come to one end, and no file is asked for.
use Rattle.std.proofs.Common.{◌≡◌, ℕ, List, inl, inr, ◌⊎◌, ◌∙◌, subst, ap}
use Rattle.command_words.specs.declared.form.Form.{Form}
use Rattle.command_words.specs.Forms.{AreReadIn, HaveReading}
use Rattle.command_words.specs.Readings.{Request}
use Rattle.command_words.proofs.Forms.{readings_are_one}
use Rattle.thiele_cli.specs.declared.answer.Answer.{Answer}
use Rattle.thiele_cli.specs.declared.end.End.{End}
use Rattle.thiele_cli.specs.declared.end.End.TheVariants as end
use Rattle.thiele_cli.specs.Questions.{Asked, OfFile, OfFiles, OfSeed, LoadOf, OfClaims, OfPortfolio, OfChange}
use Rattle.thiele_cli.specs.Questions.{OfPage, OfShards, NeedsNoFile, AskForNoFile, asked_of}
use Rattle.thiele_cli.specs.Cases.{Files, Case, IsAskedCase, IsAskedOf, IsCase}
use Rattle.thiele_cli.specs.Loads.{IsLoaded}
use Rattle.thiele_cli.specs.Replies.{end_of, Answers, IsGenerated}
use Rattle.thiele_cli.specs.Ends.{IsAnswer}
use Rattle.thiele_cli.specs.Outcome.{EndsAs}

-- words come to what their request comes to
asked_case : (files : Files) (words : List (List ℕ)) (form other : Form) (request : Request) (case : Case)
    → AreReadIn words form request → IsCase files words other case → IsAskedCase files (asked_of request) case
asked_case files words form other request case read (inl x) = absurd (x.0 (form, request, read))
asked_case files words form other request case read (inr x) =
    subst (λ r. IsAskedCase files (asked_of r) case) (readings_are_one words other form x.0 request x.1 read).1 x.2

-- and every answer to what needs no file has one end
done_by : (files : Files) (asked : Asked) (case : Case) (given : Answer) → NeedsNoFile asked
    → IsAskedCase files asked case → Answers case given → end_of given ≡ end.Done
done_by files (OfFile question name) case given none holds says = absurd none
done_by files (OfFiles question first second) case given none holds says = absurd none
done_by files (OfSeed seed) case given none holds says =
    let made : IsGenerated seed given = subst (λ c. Answers c given) holds says in ap end_of made.answers
done_by files (LoadOf seed) case given none holds says =
    let loaded : IsLoaded seed given = subst (λ c. Answers c given) holds says in ap end_of loaded.answers
done_by files (OfClaims name claims eps) case given none holds says = absurd none
done_by files (OfPortfolio csv) case given none holds says = absurd none
done_by files (OfChange name change) case given none holds says = absurd none
done_by files (OfShards csv) case given none holds says = absurd none
done_by files (OfPage page) case given none holds says = ap end_of (subst (λ c. Answers c given) holds says)

pub no_file_ends : (files : Files) (words : List (List ℕ)) (form : Form) (given : Answer) (reached : End)
    → AskForNoFile words → IsAnswer files words form given → EndsAs given reached
    → (reached ≡ end.Done) ⊎ (reached ≡ end.Memory) ⊎ (reached ≡ end.WriteFault)
no_file_ends files words form given reached none a (inl ends) =
    inl (ends ∙ done_by files (asked_of none.1) a.case given none.3
    (asked_case files words none.0 form none.1 a.case none.2 a.holds) a.says)
no_file_ends files words form given reached none a (inr fault) = inr (inr fault)

-- such words have a reading
pub no_file_read : (words : List (List ℕ)) → AskForNoFile words → HaveReading words
no_file_read words none = (none.0, none.1, none.2)

-- of what needs no file nothing is asked of a file
none_of : (files : Files) (asked : Asked) (file : List ℕ) → NeedsNoFile asked → IsAskedOf files asked file → ⊥
none_of files (OfFile question name) file none is = none
none_of files (OfFiles question first second) file none is = none
none_of files (OfSeed seed) file none is = is
none_of files (LoadOf seed) file none is = is
none_of files (OfClaims name claims eps) file none is = none
none_of files (OfPortfolio csv) file none is = none
none_of files (OfChange name change) file none is = none
none_of files (OfShards csv) file none is = none
none_of files (OfPage page) file none is = is

pub no_file_asked : (files : Files) (words : List (List ℕ)) (form : Form) (request : Request) (file : List ℕ)
    → AreReadIn words form request → IsAskedOf files (asked_of request) file → AskForNoFile words → ⊥
no_file_asked files words form request file read asked none =
    none_of files (asked_of none.1) file none.3
    (subst (λ r. IsAskedOf files (asked_of r) file) (readings_are_one words form none.0 request none.1 read none.2).1
    asked)
