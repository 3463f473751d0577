-- Words over told files come to one case only.
use Rattle.std.proofs.Common.{◌≡◌, ℕ, List, Some, None, IsSome, inl, inr, sym, subst, ap, ◌∙◌, arith}
use Rattle.rule_breaks.specs.Breaks.{break_of}
use Rattle.rule_breaks.specs.declared.breaks.RuleBreak.{RuleBreak}
use Rattle.model_specs.specs.ValuationRules as model
use Rattle.model_specs.specs.Product.{Product}
use Rattle.product_file.specs.Verdict.{IsNotToml, Breaks}
use Rattle.command_words.specs.declared.form.Form.{Form}
use Rattle.command_words.proofs.Forms.{readings_are_one}
use Rattle.thiele_cli.specs.declared.file_break.FileBreak.{FileBreak}
use Rattle.thiele_cli.specs.declared.file_break.FileBreak.TheVariants as file
use Rattle.thiele_cli.specs.FileFaults.{FileFault, too_long}
use Rattle.thiele_cli.specs.Questions.{Asked, OfFile, OfFiles, OfSeed, LoadOf, OfClaims, OfPortfolio, OfChange}
use Rattle.thiele_cli.specs.Questions.{OfPage, OfShards, asked_of}
use Rattle.thiele_cli.specs.Cases.{Files, IsLong, AreBytesOf, IsRefusedBy, HasFault, HasProduct}
use Rattle.thiele_cli.specs.Cases.{Case, FirstRefused, SecondRefused, Answered, AnsweredOfTwo, AnsweredOfClaims}
use Rattle.thiele_cli.specs.Cases.{AnsweredOfChange, AnsweredOfShards}
use Rattle.thiele_cli.specs.Cases.{IsFileCase, IsSecondCase, IsTextCase, IsClaimsCase, IsAskedCase, IsCase}
use Rattle.thiele_cli.specs.Cases.{WrongRow, IsCoverCase, IsHoldingsCase, IsPoliciesCase}
use Rattle.portfolio_run.specs.Holdings.{Holding}
use Rattle.portfolio_run.specs.Readings.{files_of}
use Rattle.portfolio_run.proofs.OneReading.{one_text_holdings, one_text_wrong, wrong_or_holdings}
use Rattle.thiele_cli.proofs.OnePortfolio.{ComesToOne, one_cover_case, one_products, one_refused, refused_or_products}
use Rattle.thiele_cli.proofs.Verdicts.{one-product, one-break, valid-or-broken, toml-or-broken, toml-or-valid}

-- ---- files

-- a file has one list of bytes
one_text : (files : List (List ℕ × List ℕ)) (name a b : List ℕ) → AreBytesOf (Some files) name a
    → AreBytesOf (Some files) name b → a ≡ b
one_text files name a b x y = cc (x.told, y.told)

-- a file is too long or not
not_long : (files : List (List ℕ × List ℕ)) (name bytes : List ℕ) → AreBytesOf (Some files) name bytes
    → IsLong (Some files) name → ⊥
not_long files name bytes given long = let there = rw given.told at long in omega (arith, there, given.short)

-- a broken rule is told by its two numbers
same_rule : (a b : RuleBreak) → break_of a ≡ break_of b → a ≡ b
same_rule a b same = ap (λ (found : model.RuleBreak). record { rule = found.rule; place = found.place }) same

-- what breaks a rule first, of the same bytes
one_rule : (bytes other : List ℕ) (a b : RuleBreak) → bytes ≡ other → Breaks bytes (break_of a)
    → Breaks other (break_of b) → a ≡ b
one_rule bytes other a b same x y =
    same_rule a b (one-break other (break_of a) (break_of b) (subst (λ text. Breaks text (break_of a)) same x) y)

-- a file is refused by one cause
one_cause : (files : List (List ℕ × List ℕ)) (name : List ℕ) (a b : FileBreak) (s t : List ℕ)
    → IsRefusedBy (Some files) name a s → IsRefusedBy (Some files) name b t → a ≡ b
one_cause files name (file.TooLong m) (file.TooLong n) s t x y = ap (λ seen. file.TooLong seen) (x.1 ∙ sym y.1)
one_cause files name (file.TooLong m) file.NotToml s t x y = absurd (not_long files name t y.0 x.0)
one_cause files name (file.TooLong m) (file.Rule b) s t x y = absurd (not_long files name t y.0 x.0)
one_cause files name file.NotToml (file.TooLong n) s t x y = absurd (not_long files name s x.0 y.0)
one_cause files name file.NotToml file.NotToml s t x y = cc
one_cause files name file.NotToml (file.Rule b) s t x y =
    absurd (toml-or-broken t (break_of b) (subst IsNotToml (one_text files name s t x.0 y.0) x.1) y.1)
one_cause files name (file.Rule a) (file.TooLong n) s t x y = absurd (not_long files name s x.0 y.0)
one_cause files name (file.Rule a) file.NotToml s t x y =
    absurd (toml-or-broken s (break_of a) (subst IsNotToml (one_text files name t s y.0 x.0) y.1) x.1)
one_cause files name (file.Rule a) (file.Rule b) s t x y =
    ap (λ found. file.Rule found) (one_rule s t a b (one_text files name s t x.0 y.0) x.1 y.1)

-- and has one text then
one_refused_text : (files : List (List ℕ × List ℕ)) (name : List ℕ) (a : FileBreak) (s t : List ℕ)
    → IsRefusedBy (Some files) name a s → IsRefusedBy (Some files) name a t → s ≡ t
one_refused_text files name (file.TooLong m) s t x y = x.2 ∙ sym y.2
one_refused_text files name file.NotToml s t x y = one_text files name s t x.0 y.0
one_refused_text files name (file.Rule a) s t x y = one_text files name s t x.0 y.0

-- a file has one fault
one_fault : (files : List (List ℕ × List ℕ)) (name : List ℕ) (a b : FileFault) → HasFault (Some files) name a
    → HasFault (Some files) name b → a ≡ b
one_fault files name a b x y =
    let cause : a.cause ≡ b.cause = one_cause files name a.cause b.cause a.text b.text x y in
    let text : a.text ≡ b.text = one_refused_text files name b.cause a.text b.text
    (subst (λ c. IsRefusedBy (Some files) name c a.text) cause x) y in
    λ k. record { cause = cause k; text = text k }

-- or a product
cause_or_product : (files : List (List ℕ × List ℕ)) (name : List ℕ) (a : FileBreak) (s : List ℕ) (p : Product)
    → IsRefusedBy (Some files) name a s → HasProduct (Some files) name p → ⊥
cause_or_product files name (file.TooLong m) s p x y = not_long files name y.0 y.1 x.0
cause_or_product files name file.NotToml s p x y =
    toml-or-valid y.0 p (subst IsNotToml (one_text files name s y.0 x.0 y.1) x.1) y.2
cause_or_product files name (file.Rule a) s p x y =
    valid-or-broken y.0 p (break_of a) y.2
    (subst (λ text. Breaks text (break_of a)) (one_text files name s y.0 x.0 y.1) x.1)

fault_or_product : (files : List (List ℕ × List ℕ)) (name : List ℕ) (a : FileFault) (p : Product)
    → HasFault (Some files) name a → HasProduct (Some files) name p → ⊥
fault_or_product files name a p x y = cause_or_product files name a.cause a.text p x y

-- and one product
one_file_product : (files : List (List ℕ × List ℕ)) (name : List ℕ) (p q : Product) → HasProduct (Some files) name p
    → HasProduct (Some files) name q → p ≡ q
one_file_product files name p q x y =
    one-product y.0 p q
    (rw (← one_text files name x.0 y.0 x.1 y.1) x.2.reads) y.2.reads

-- ---- cases

-- a file comes to one case, where each product does
one_file_case : (files : List (List ℕ × List ℕ)) (name : List ℕ) (refused : FileFault → Case)
    (IsRest : Product → Case → Type 0) (a b : Case)
    → ((product : Product) (a b : Case) → IsRest product a → IsRest product b → a ≡ b)
    → IsFileCase (Some files) name refused IsRest a → IsFileCase (Some files) name refused IsRest b → a ≡ b
one_file_case files name refused IsRest a b one_rest (inl x) (inl y) =
    x.2 ∙ ap refused (one_fault files name x.0 y.0 x.1 y.1) ∙ sym y.2
one_file_case files name refused IsRest a b one_rest (inl x) (inr y) =
    absurd (fault_or_product files name x.0 y.0 x.1 y.1)
one_file_case files name refused IsRest a b one_rest (inr x) (inl y) =
    absurd (fault_or_product files name y.0 x.0 y.1 x.1)
one_file_case files name refused IsRest a b one_rest (inr x) (inr y) =
    one_rest y.0 a b (subst (λ product. IsRest product a) (one_file_product files name x.0 y.0 x.1 y.1) x.2) y.2

-- so does a file that is no product file
one_text_case : (files : List (List ℕ × List ℕ)) (name : List ℕ) (refused : FileFault → Case)
    (IsRest : List ℕ → Case → Type 0) (a b : Case)
    → ((text : List ℕ) (a b : Case) → IsRest text a → IsRest text b → a ≡ b)
    → IsTextCase (Some files) name refused IsRest a → IsTextCase (Some files) name refused IsRest b → a ≡ b
one_text_case files name refused IsRest a b one_rest (inl x) (inl y) =
    x.2 ∙ ap refused (one_fault files name (too_long x.0) (too_long y.0) x.1 y.1) ∙ sym y.2
one_text_case files name refused IsRest a b one_rest (inl x) (inr y) = absurd (not_long files name y.0 y.1 x.1.0)
one_text_case files name refused IsRest a b one_rest (inr x) (inl y) = absurd (not_long files name x.0 x.1 y.1.0)
one_text_case files name refused IsRest a b one_rest (inr x) (inr y) =
    one_rest y.0 a b (subst (λ text. IsRest text a) (one_text files name x.0 y.0 x.1 y.1) x.2) y.2

-- of each file of a portfolio
comes_to_one : (files : List (List ℕ × List ℕ)) → ComesToOne (HasProduct (Some files)) (HasFault (Some files))
comes_to_one files = record {
  product = one_file_product files;
  fault = one_fault files;
  either = fault_or_product files;
}

-- the holdings of a text come to one case
one_holdings_case : (files : List (List ℕ × List ℕ)) (text : List ℕ) (holdings : List Holding) (a b : Case)
    → IsHoldingsCase (Some files) text holdings a → IsHoldingsCase (Some files) text holdings b → a ≡ b
one_holdings_case files text holdings a b (inl x) (inl y) =
    x.3 ∙ one_refused (HasProduct (Some files)) (HasFault (Some files)) (files_of holdings) x.0 y.0 x.1 y.1
    (comes_to_one files) x.2 y.2 ∙ sym y.3
one_holdings_case files text holdings a b (inl x) (inr y) =
    absurd (refused_or_products (HasProduct (Some files)) (HasFault (Some files)) (files_of holdings) x.0
    x.1 y.0 (comes_to_one files) x.2 y.1)
one_holdings_case files text holdings a b (inr x) (inl y) =
    absurd (refused_or_products (HasProduct (Some files)) (HasFault (Some files)) (files_of holdings) y.0
    y.1 x.0 (comes_to_one files) y.2 x.1)
one_holdings_case files text holdings a b (inr x) (inr y) =
    let products : x.0 ≡ y.0 = one_products (HasProduct (Some files)) (HasFault (Some files)) (files_of holdings)
    x.0 y.0 (comes_to_one files) x.1 y.1 in
    one_cover_case text holdings y.0 a b (subst (λ p. IsCoverCase text holdings p a) products x.2) y.2

-- the text of a portfolio comes to one case
one_policies_case : (files : List (List ℕ × List ℕ)) (text : List ℕ) (a b : Case) → IsPoliciesCase (Some files) text a
    → IsPoliciesCase (Some files) text b → a ≡ b
one_policies_case files text a b (inl x) (inl y) =
    x.2 ∙ ap (λ broken. WrongRow broken text) (one_text_wrong text x.0 y.0 x.1 y.1) ∙ sym y.2
one_policies_case files text a b (inl x) (inr y) = absurd (wrong_or_holdings text x.0 y.0 x.1 y.1)
one_policies_case files text a b (inr x) (inl y) = absurd (wrong_or_holdings text y.0 x.0 y.1 x.1)
one_policies_case files text a b (inr x) (inr y) =
    one_holdings_case files text y.0 a b
    (subst (λ h. IsHoldingsCase (Some files) text h a) (one_text_holdings text x.0 y.0 x.1 y.1) x.2) y.2

one_asked_case : (files : List (List ℕ × List ℕ)) (asked : Asked) (a b : Case) → IsAskedCase (Some files) asked a
    → IsAskedCase (Some files) asked b → a ≡ b
one_asked_case files (OfFile what name) a b x y =
    one_file_case files name FirstRefused (λ product rest. rest ≡ Answered what product) a b
    (λ product c d s t. s ∙ sym t) x y
one_asked_case files (OfFiles what first second) a b x y =
    one_file_case files first FirstRefused (IsSecondCase (Some files) what second) a b
    (λ old c d s t. one_file_case files second SecondRefused (λ new rest. rest ≡ AnsweredOfTwo what old new) c d
    (λ new e f u v. u ∙ sym v) s t) x y
one_asked_case files (OfSeed seed) a b x y = x ∙ sym y
one_asked_case files (LoadOf seed) a b x y = x ∙ sym y
one_asked_case files (OfClaims name claims eps) a b x y =
    one_file_case files name FirstRefused (IsClaimsCase (Some files) eps claims) a b
    (λ product c d s t. one_text_case files claims SecondRefused (λ text rest. rest ≡ AnsweredOfClaims eps product text)
    c d (λ text e f u v. u ∙ sym v) s t) x y
one_asked_case files (OfPortfolio csv) a b x y =
    one_text_case files csv FirstRefused (IsPoliciesCase (Some files)) a b (one_policies_case files) x y
one_asked_case files (OfChange name change) a b x y =
    one_file_case files name FirstRefused (λ product rest. rest ≡ AnsweredOfChange change product) a b
    (λ product c d s t. s ∙ sym t) x y
one_asked_case files (OfShards csv) a b x y =
    one_text_case files csv FirstRefused (λ text rest. rest ≡ AnsweredOfShards text) a b (λ text c d s t. s ∙ sym t) x y
one_asked_case files (OfPage page) a b x y = x ∙ sym y

-- words over told files are of one case
pub one_case : (files : Files) (words : List (List ℕ)) (f g : Form) (a b : Case) → IsSome files
    → IsCase files words f a → IsCase files words g b → a ≡ b
one_case None words f g a b told x y = cc
one_case (Some files) words f g a b told (inl x) (inl y) = x.2 ∙ sym y.2
one_case (Some files) words f g a b told (inl x) (inr y) = absurd (x.0 (g, y.0, y.1))
one_case (Some files) words f g a b told (inr x) (inl y) = absurd (y.0 (f, x.0, x.1))
one_case (Some files) words f g a b told (inr x) (inr y) =
    let request = (readings_are_one words f g x.0 y.0 x.1 y.1).1 in
    one_asked_case files (asked_of y.0) a b
    (subst (λ r. IsAskedCase (Some files) (asked_of r) a) request x.2) y.2
