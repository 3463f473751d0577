-- From what a tree reads as to the answers about the bytes that it was read from.
use Rattle.std.proofs.Common.{◌≡◌, List, ℕ, inl, inr, sym, ◌∙◌, refl, ap}
use Rattle.std.specs.Prelude.{Result, Ok, Err, Option, Some, None, IfOk, IsErrOf, option_map}
use Rattle.std.proofs.lemmas.Option.{none-some}
use Rattle.toml.specs.Data.{Members}
use Rattle.model_specs.specs.Product.{Product}
use Rattle.model_specs.specs.ValuationRules as model
use Rattle.rule_breaks.specs.declared.breaks.RuleBreak.{RuleBreak}
use Rattle.product_file.specs.Reads.{reads, product_of, product_unless, broken_in_tree}
use Rattle.product_file.specs.Verdict.{ReadsAs, ReadsProduct, BreaksInTree, IsNotToml}
use Rattle.product_reader.specs.declared.read.ReadError.{ReadError}
use Rattle.product_reader.specs.declared.read.ReadError.TheVariants.{NotToml, Rule, Memory}
use Rattle.product_reader.specs.Readings.{IsReadingOf}
use Rattle.product_reader.specs.Refusals.{ComesWhere}
use Rattle.rule_breaks.specs.Breaks.{break_of}

-- no rule is broken: the product is read
pub reads_product : (tree : Members) (product : Product) → broken_in_tree tree ≡ None → product ≡ product_of tree
    → reads tree ≡ Ok product
reads_product tree product none same = ap (product_unless (product_of tree)) none ∙ ap Ok (sym same)

-- a rule is broken: that is read
pub reads_break : (tree : Members) (found : model.RuleBreak) → broken_in_tree tree ≡ Some found
    → reads tree ≡ Err found
reads_break tree found some = ap (product_unless (product_of tree)) some

-- from a found break to the tree's
pub unbroken_of : (breaks : Option model.RuleBreak) (found : Option RuleBreak) → option_map break_of found ≡ breaks
    → found ≡ None → breaks ≡ None
unbroken_of breaks found same none = sym same ∙ ap (option_map break_of) none

pub broken_of : (breaks : Option model.RuleBreak) (found : Option RuleBreak) (b : RuleBreak)
    → option_map break_of found ≡ breaks → found ≡ Some b → breaks ≡ Some (break_of b)
broken_of breaks found b same some = sym same ∙ ap (option_map break_of) some

-- readings are one
product-or-break : (reading : Result Product model.RuleBreak) (p : Product) (b : model.RuleBreak) → reading ≡ Ok p
    → reading ≡ Err b → ⊥
product-or-break reading p b good bad = cc (good, bad)

same-refusal : (reading : Result Product model.RuleBreak) (a b : RuleBreak) → reading ≡ Err (break_of a)
    → reading ≡ Err (break_of b) → a ≡ b
same-refusal reading a b x y =
    let breaks : break_of a ≡ break_of b = cc (x, y) in ap back breaks
  where
    back : model.RuleBreak → RuleBreak
    back m = record { rule = m.rule; place = m.place }

refused-by : (reading : Result Product model.RuleBreak) (a b : RuleBreak) → reading ≡ Err (break_of a)
    → a ≡ b → reading ≡ Err (break_of b)
refused-by reading a b x same = x ∙ ap (λ r. Err (break_of r)) same

-- refusals by a rule are of one rule
same-rule : (a b : RuleBreak) → IsErrOf {T = Product} (Err (Rule a)) (Rule b) → a ≡ b
same-rule a b e = cc e

-- what the bytes read as, by any of their trees
reading-of : (text : List ℕ) (tree other : Members) (r : Result Product model.RuleBreak) → ReadsAs text tree
    → ReadsAs text other → reads other ≡ r → reads tree ≡ r
reading-of text tree other r told again h =
    let same : tree ≡ other = cc (told.document, again.document) in ap reads same ∙ h

-- the answers about the bytes of a tree
pub ok_of_tree : (text : List ℕ) (tree : Members) (r : Result Product ReadError) → ReadsAs text tree
    → IsReadingOf r (reads tree) → IfOk r (ReadsProduct text)
ok_of_tree text tree (Ok p) told h = record { tree = tree; reads_as = told; gives = h }
ok_of_tree text tree (Err e) told h = tt

tree_is_toml : (text : List ℕ) (tree : Members) → ReadsAs text tree → IsNotToml text → ⊥
tree_is_toml text tree told none = none-some tree (sym (none told.text) ∙ told.document)

pub not_toml_of_tree : (text : List ℕ) (tree : Members) (r : Result Product ReadError) → ReadsAs text tree
    → IsReadingOf r (reads tree) → ComesWhere r NotToml (IsNotToml text)
not_toml_of_tree text tree (Ok p) told h =
    record { only = λ e. cc e; always = λ none. absurd (tree_is_toml text tree told none) }
not_toml_of_tree text tree (Err NotToml) told h = absurd h
not_toml_of_tree text tree (Err (Rule found)) told h =
    record { only = λ e. cc e; always = λ none. absurd (tree_is_toml text tree told none) }
not_toml_of_tree text tree (Err Memory) told h =
    record { only = λ e. cc e; always = λ none. inr refl }

pub rule_of_tree : (text : List ℕ) (tree : Members) (r : Result Product ReadError) (found : RuleBreak)
    → ReadsAs text tree → IsReadingOf r (reads tree) → ComesWhere r (Rule found) (BreaksInTree text (break_of found))
rule_of_tree text tree (Ok p) found told h =
    record {
      only = λ e. cc e;
      always = λ b. absurd (product-or-break (reads tree) p (break_of found) h
          (reading-of text tree b.tree (Err (break_of found)) told b.reads_as b.broken));
    }
rule_of_tree text tree (Err NotToml) found told h = absurd h
rule_of_tree text tree (Err (Rule other)) found told h =
    record {
      only = λ e. record {
        tree = tree;
        reads_as = told;
        broken = refused-by (reads tree) other found h
            (same-rule other found e);
      };
      always = λ b. inl (ap (λ f. Err (Rule f)) (same-refusal (reads tree) other found h
          (reading-of text tree b.tree (Err (break_of found)) told b.reads_as b.broken)));
    }
rule_of_tree text tree (Err Memory) found told h = record { only = λ e. cc e; always = λ b. inr refl }
