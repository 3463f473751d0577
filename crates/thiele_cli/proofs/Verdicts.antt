-- The verdict on the bytes of a file is one.
use Rattle.std.proofs.Common.{◌≡◌, ℕ, List, Some, inl, inr, sym, ap, ◌∙◌}
use Rattle.std.specs.Prelude.{Option, Result, Ok, Err}
use Rattle.std.proofs.lemmas.Option.{none-some}
use Rattle.toml.specs.Data.{Members}
use Rattle.model_specs.specs.Product.{Product}
use Rattle.model_specs.specs.ValuationRules.{RuleBreak, first_broken}
use Rattle.product_file.specs.Reads.{reads}
use Rattle.rule_breaks.specs.Breaks.{break_of}
use Rattle.product_file.specs.Verdict.{ReadsAs, ReadsProduct, BreaksInTree, IsNotToml, IsValid, Breaks}
use Rattle.thiele_cli.specs.declared.file_break.FileBreak.{FileBreak}
use Rattle.thiele_cli.specs.declared.file_break.FileBreak.TheVariants as file
use Rattle.thiele_cli.specs.declared.file_break.FileRefusal.{FileRefusal}
use Rattle.thiele_cli.specs.declared.verdict.Verdict.TheVariants as verdict
use Rattle.thiele_cli.specs.Verdicts.{AreRefusedBy, IsVerdictOn}

-- a reading is one thing
ok-or-err : (r : Result Product RuleBreak) (p : Product) (b : RuleBreak) → r ≡ Ok p → r ≡ Err b → ⊥
ok-or-err r p b good bad = cc (good, bad)

one-ok : (r : Result Product RuleBreak) (p q : Product) → r ≡ Ok p → r ≡ Ok q → p ≡ q
one-ok r p q x y = cc (x, y)

one-err : (r : Result Product RuleBreak) (a b : RuleBreak) → r ≡ Err a → r ≡ Err b → a ≡ b
one-err r a b x y = cc (x, y)

one-some : (o : Option RuleBreak) (a b : RuleBreak) → o ≡ Some a → o ≡ Some b → a ≡ b
one-some o a b x y = cc (x, y)

-- the bytes have one tree
one-tree : (bytes : List ℕ) (a b : Members) → ReadsAs bytes a → ReadsAs bytes b → a ≡ b
one-tree bytes a b x y = cc (x.document, y.document)

no-toml : (bytes : List ℕ) (tree : Members) → IsNotToml bytes → ReadsAs bytes tree → ⊥
no-toml bytes tree none told = none-some tree (sym (none told.text) ∙ told.document)

-- what one of the trees reads as, every other reads as
again : (bytes : List ℕ) (tree other : Members) (r : Result Product RuleBreak) → ReadsAs bytes tree
    → ReadsAs bytes other → reads other ≡ r → reads tree ≡ r
again bytes tree other r x y h = ap reads (one-tree bytes tree other x y) ∙ h

pub one-product : (bytes : List ℕ) (p q : Product) → ReadsProduct bytes p → ReadsProduct bytes q → p ≡ q
one-product bytes p q x y =
    one-ok (reads x.tree) p q x.gives (again bytes x.tree y.tree (Ok q) x.reads_as y.reads_as y.gives)

product-or-break : (bytes : List ℕ) (p : Product) (b : RuleBreak) → ReadsProduct bytes p → BreaksInTree bytes b → ⊥
product-or-break bytes p b x y =
    ok-or-err (reads x.tree) p b x.gives (again bytes x.tree y.tree (Err b) x.reads_as y.reads_as y.broken)

-- the verdict on bytes is one
pub one-break : (bytes : List ℕ) (a b : RuleBreak) → Breaks bytes a → Breaks bytes b → a ≡ b
one-break bytes a b (inl x) (inl y) =
    one-err (reads x.tree) a b x.broken (again bytes x.tree y.tree (Err b) x.reads_as y.reads_as y.broken)
one-break bytes a b (inl x) (inr y) = absurd (product-or-break bytes y.0 a y.1 x)
one-break bytes a b (inr x) (inl y) = absurd (product-or-break bytes x.0 b x.1 y)
one-break bytes a b (inr x) (inr y) =
    one-some (first_broken x.0) a b x.2 (ap first_broken (one-product bytes x.0 y.0 x.1 y.1) ∙ y.2)

pub valid-or-broken : (bytes : List ℕ) (p : Product) (b : RuleBreak) → IsValid bytes p → Breaks bytes b → ⊥
valid-or-broken bytes p b x (inl y) = product-or-break bytes p b x.reads y
valid-or-broken bytes p b x (inr y) =
    none-some b (sym x.valued ∙ ap first_broken (one-product bytes p y.0 x.reads y.1) ∙ y.2)

pub toml-or-broken : (bytes : List ℕ) (b : RuleBreak) → IsNotToml bytes → Breaks bytes b → ⊥
toml-or-broken bytes b none (inl y) = no-toml bytes y.tree none y.reads_as
toml-or-broken bytes b none (inr y) = no-toml bytes y.1.tree none y.1.reads_as

pub toml-or-valid : (bytes : List ℕ) (p : Product) → IsNotToml bytes → IsValid bytes p → ⊥
toml-or-valid bytes p none x = no-toml bytes x.reads.tree none x.reads.reads_as

-- a product that is read and then breaks a rule of its valuation
pub breaks_later : (bytes : List ℕ) (product : Product) (found : RuleBreak) → ReadsProduct bytes product
    → first_broken product ≡ Some found → Breaks bytes found
breaks_later bytes product found reads broken = inr (product, reads, broken)

-- bytes with a valid product have no other, and are not refused
pub one_valid : (bytes : List ℕ) (p q : Product) → IsValid bytes p → IsValid bytes q → p ≡ q
one_valid bytes p q x y = one-product bytes p q x.reads y.reads

no_cause : (bytes : List ℕ) (p : Product) (cause : FileBreak) → IsValid bytes p → AreRefusedBy bytes cause → ⊥
no_cause bytes p (file.TooLong seen) valid says = says
no_cause bytes p file.NotToml valid says = toml-or-valid bytes p says valid
no_cause bytes p (file.Rule found) valid says = valid-or-broken bytes p (break_of found) valid says

pub not_refused : (bytes : List ℕ) (p : Product) (refused : FileRefusal) → IsValid bytes p
    → IsVerdictOn bytes (verdict.Refused refused) → ⊥
not_refused bytes p refused valid says = no_cause bytes p refused.cause valid says.1
