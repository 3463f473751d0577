-- From the product files of a portfolio to its answer.
use Rattle.std.proofs.Common.{◌≡◌, ℕ, zero, suc, ◌+◌, ◌<◌, List, [], ◌∷◌, ◌++◌, length, map, take, get_or, inl, inr}
use Rattle.std.proofs.Common.{refl, sym, ap, subst, ◌∙◌, arith}
use Rattle.std.specs.Prelude.{All, Option, Some, None, Vec}
use Rattle.std.specs.declared.alloc.Global.{Global}
use Rattle.state_graph.specs.StateGraphs.{texts_of}
use Rattle.portfolio_run.proofs.NotedNames.{text_at}
use Rattle.std.proofs.lemmas.List.{length_push, map_push, take_all, take_more}
use Rattle.std.proofs.lemmas.List.Elements.{All-nil, All-push}
use Rattle.model_specs.specs.Product.{Product}
use Rattle.rule_breaks.specs.declared.breaks.RowBreak.{RowBreak}
use Rattle.portfolio_run.specs.declared.reading.PolicyError.TheVariants as error
use Rattle.portfolio_run.specs.declared.totals.Totals.{Totals}
use Rattle.portfolio_run.specs.Readings.{AreHoldingsIn, TellsWrongIn, files_of}
use Rattle.portfolio_run.specs.Stored.{AddsValued, Portfolio, name_at}
use Rattle.portfolio_run.specs.Totals.{AreTotals, TellsUncovered}
use Rattle.portfolio_run.specs.Values.{IsValued}
use Rattle.refusal_words.specs.declared.row_texts.CsvTable.TheVariants as table
use Rattle.thiele_cli.specs.declared.answer.Answer.TheVariants as answer
use Rattle.thiele_cli.specs.declared.file_break.FileRefusal.{FileRefusal}
use Rattle.thiele_cli.specs.declared.refusal.Refusal.TheVariants as refusal
use Rattle.thiele_cli.specs.declared.answer.Answer.{Answer}
use Rattle.thiele_cli.specs.FileFaults.{FileFault, fault_in, too_long}
use Rattle.thiele_cli.specs.AskedAnswers.{AnswersAsked}
use Rattle.thiele_cli.specs.Cases.{Files, AreBytesOf, HasFault, HasProduct}
use Rattle.thiele_cli.specs.Cases.{FirstRefused, WrongRow, PolicyRefused, SummedUp}
use Rattle.thiele_cli.specs.Questions.{OfPortfolio}
use Rattle.thiele_cli.specs.PortfolioFiles.{AnswersText, AreAllValued, AreValued, IsNext, next_name}
use Rattle.thiele_cli.specs.Portfolios.{ComeTo, IsFirstRefused}
use Rattle.thiele_cli.specs.RefusedTexts.{IsRefusedText}

-- ---- names and products

-- one name more
come_to_more : (HasIt : List ℕ → Product → Type 0) (names : List (List ℕ)) (products : List Product) (name : List ℕ)
    (product : Product) → ComeTo HasIt names products → HasIt name product
    → ComeTo HasIt (names ++ name ∷ []) (products ++ product ∷ [])
come_to_more HasIt [] [] name product so_far has = (has, tt)
come_to_more HasIt [] (p ∷ ps) name product so_far has = absurd so_far
come_to_more HasIt (n ∷ ns) [] name product so_far has = absurd so_far
come_to_more HasIt (n ∷ ns) (p ∷ ps) name product so_far has =
    (so_far.0, come_to_more HasIt ns ps name product so_far.1 has)

-- the name behind names that have products is the first that is refused
pub refused_behind : (HasIt : List ℕ → Product → Type 0) (HasFaultOf : List ℕ → FileFault → Type 0)
    (names : List (List ℕ)) (place : ℕ) (products : List Product) (fault : FileFault) → place < length names
    → ComeTo HasIt (take place names) products → HasFaultOf (name_at names place) fault
    → IsFirstRefused HasIt HasFaultOf names place fault
refused_behind HasIt HasFaultOf [] place products fault inside so_far has = absurd (omega (arith, inside))
refused_behind HasIt HasFaultOf (n ∷ ns) zero products fault inside so_far has = has
refused_behind HasIt HasFaultOf (n ∷ ns) (suc place) [] fault inside so_far has = absurd so_far
refused_behind HasIt HasFaultOf (n ∷ ns) (suc place) (p ∷ ps) fault inside so_far has =
    ((p, so_far.0), refused_behind HasIt HasFaultOf ns place ps fault (omega (arith, inside)) so_far.1 has)

-- ---- files

-- the name at the place of the next file
pub next_name_is : (portfolio : Portfolio) (names : List (Vec ℕ Global)) (place : ℕ) (name : Vec ℕ Global)
    → texts_of names ≡ files_of portfolio.holdings → place ≡ length portfolio.valued
    → length portfolio.valued < length (files_of portfolio.holdings)
    → length names ≡ length (files_of portfolio.holdings) → name ≡ get_or names place name
    → next_name portfolio ≡ name.items
next_name_is portfolio names place name texts place_is left count here =
    ap (λ all. name_at all (length portfolio.valued)) (sym texts)
    ∙ ap (λ k. name_at (texts_of names) k) (sym place_is)
    ∙ text_at (λ n. n.items) names place name (omega (arith, place_is, left, count)) here

-- no file is valued yet
pub none_valued : (files : Files) (portfolio : Portfolio) → portfolio.valued ≡ [] → AreValued files portfolio
none_valued files portfolio none = record {
  products = [];
  come_to = subst (λ valued. ComeTo (HasProduct files) (take (length valued) (files_of portfolio.holdings)) [])
      (sym none) tt;
  products_are = ap (map (λ v. v.product)) none;
  tables = subst (All IsValued) (sym none) (All-nil IsValued);
}

-- one file more
pub valued_more : (files : Files) (old new : Portfolio) (product : Product)
    → length old.valued < length (files_of old.holdings) → AreValued files old
    → HasProduct files (next_name old) product → AddsValued product old new → AreValued files new
valued_more files old new product inside are has adds =
    let names = files_of old.holdings in
    let count : length new.valued ≡ length old.valued + 1 =
    ap length adds.valued ∙ length_push old.valued adds.added in
    let more : take (length old.valued + 1) names ≡ take (length old.valued) names ++ next_name old ∷ [] =
    take_more names (length old.valued) [] inside in
    let first : take (length new.valued) (files_of new.holdings)
    ≡ take (length old.valued) names ++ next_name old ∷ [] =
    ap (λ n. take n (files_of new.holdings)) count
    ∙ ap (λ h. take (length old.valued + 1) (files_of h)) adds.holdings ∙ more in
    record {
      products = are.products ++ product ∷ [];
      come_to = subst (λ all. ComeTo (HasProduct files) all (are.products ++ product ∷ [])) (sym first)
          (come_to_more (HasProduct files) (take (length old.valued) names) are.products (next_name old) product
          are.come_to has);
      products_are = ap (map (λ v. v.product)) adds.valued ∙ map_push (λ v. v.product) old.valued adds.added
          ∙ ap (λ all. all ++ adds.added.product ∷ []) are.products_are
          ∙ ap (λ p. are.products ++ p ∷ []) adds.product_is;
      tables = subst (All IsValued) (sym adds.valued)
          (All-push IsValued old.valued adds.added are.tables adds.is_valued);
    }

-- the next file is the first that is refused
pub next_is_refused : (given files : Files) (start old new : Portfolio) (next : Option FileRefusal)
    (refused : FileRefusal) (place : ℕ) → given ≡ files → old.holdings ≡ start.holdings → length old.valued ≡ place
    → place < length (files_of start.holdings) → AreValued files old → next ≡ Some refused → IsNext given old new next
    → IsFirstRefused (HasProduct files) (HasFault files) (files_of start.holdings) place (fault_in refused)
next_is_refused given files start old new next refused place same holdings count inside are is says =
    let fault = fault_in refused in
    let has : HasFault files (next_name old) fault =
    subst (λ f. HasFault f (next_name old) fault) same (subst (IsNext given old new) is says) in
    let within : place < length (files_of old.holdings) =
    subst (λ h. place < length (files_of h)) (sym holdings) inside in
    subst (λ h. IsFirstRefused (HasProduct files) (HasFault files) (files_of h) place fault) holdings
    (subst (λ k. IsFirstRefused (HasProduct files) (HasFault files) (files_of old.holdings) k fault) count
    (refused_behind (HasProduct files) (HasFault files) (files_of old.holdings) (length old.valued) are.products fault
    (omega (arith, within, count)) are.come_to has))

-- or it is valued
pub next_is_valued : (given files : Files) (start old new : Portfolio) (next : Option FileRefusal) (place : ℕ)
    → given ≡ files → old.holdings ≡ start.holdings → length old.valued ≡ place
    → place < length (files_of start.holdings) → AreValued files old → next ≡ None → IsNext given old new next
    → (new.holdings ≡ start.holdings) × (length new.valued ≡ place + 1) × AreValued files new
next_is_valued given files start old new next place same holdings count inside are is says =
    let at : IsNext given old new None = subst (IsNext given old new) is says in
    let has : HasProduct files (next_name old) at.0 = subst (λ f. HasProduct f (next_name old) at.0) same at.1 in
    let within : place < length (files_of old.holdings) =
    subst (λ h. place < length (files_of h)) (sym holdings) inside in (
      at.2.holdings ∙ holdings,
      ap length at.2.valued ∙ length_push old.valued at.2.added ∙ ap (λ n. n + 1) count,
      valued_more files old new at.0 (omega (arith, within, count)) are has at.2,
    )

-- ---- the text

-- a row is wrong by itself
pub wrong_row : (files : Files) (text : List ℕ) (broken : RowBreak) (given : Answer)
    → TellsWrongIn text (error.Row broken) → IsRefusedText (refusal.Row table.Holdings broken) text given
    → AnswersText files text given
wrong_row files text broken given wrong says = (WrongRow broken text, inl (broken, wrong, refl), says)

-- a file is refused
pub file_refused : (files : Files) (text : List ℕ) (portfolio : Portfolio) (place : ℕ) (fault : FileFault)
    (given : Answer) → AreHoldingsIn text portfolio.holdings
    → IsFirstRefused (HasProduct files) (HasFault files) (files_of portfolio.holdings) place fault
    → IsRefusedText (refusal.Policy (record { file = place; cause = fault.cause })) fault.text given
    → AnswersText files text given
file_refused files text portfolio place fault given are first says =
    (PolicyRefused place fault, inr (portfolio.holdings, are, inl (place, fault, first, refl)), says)

-- the products of all files
all_products : (files : Files) (old new : Portfolio) → (all : AreAllValued files old new)
    → ComeTo (HasProduct files) (files_of new.holdings) all.valued.products
all_products files old new all =
    subst (λ names. ComeTo (HasProduct files) names all.valued.products)
    (take_all (length new.valued) (files_of new.holdings) (omega (arith, all.all))) all.valued.come_to

-- the totals
pub summed_up : (files : Files) (text : List ℕ) (old new : Portfolio) (totals : Totals)
    → AreHoldingsIn text old.holdings → AreAllValued files old new → AreTotals new totals
    → AnswersText files text (answer.Portfolio totals)
summed_up files text old new totals are all right = (
  SummedUp new.holdings all.valued.products,
  inr (
    new.holdings,
    subst (AreHoldingsIn text) (sym all.holdings) are,
    inr (
      all.valued.products,
      all_products files old new all,
      inr (
        record { valued = new.valued; products_are = all.valued.products_are; covered = right.covered },
        refl,
      ),
    ),
  ),
  record {
    totals = totals;
    answers = refl;
    valued = new.valued;
    products_are = all.valued.products_are;
    tables = all.valued.tables;
    right = right;
  },
)

-- a row whose product has not its date or its state
pub uncovered_row : (files : Files) (text : List ℕ) (old new : Portfolio) (broken : RowBreak) (given : Answer)
    → AreHoldingsIn text old.holdings → AreAllValued files old new → TellsUncovered new (error.Row broken)
    → IsRefusedText (refusal.Row table.Holdings broken) text given → AnswersText files text given
uncovered_row files text old new broken given are all tells says = (
  WrongRow broken text,
  inr (
    new.holdings,
    subst (AreHoldingsIn text) (sym all.holdings) are,
    inr (
      all.valued.products,
      all_products files old new all,
      inl (
        broken,
        record { valued = new.valued; products_are = all.valued.products_are; tells = tells },
        refl,
      ),
    ),
  ),
  says,
)

-- ---- what is asked

-- the answer to the text of the file
pub text_is_asked : (given files : Files) (csv text shown : List ℕ) (answer : Answer) → given ≡ files → shown ≡ text
    → AreBytesOf files csv text → AnswersText given shown answer → AnswersAsked files (OfPortfolio csv) answer
text_is_asked given files csv text shown answer same is bytes says =
    let at : AnswersText files text answer =
    subst (λ t. AnswersText files t answer) is (subst (λ f. AnswersText f shown answer) same says) in
    record { case = at.0; holds = inr (text, bytes, at.1); says = at.2 }

-- a file that is too long
pub long_portfolio : (files : Files) (csv : List ℕ) (seen : ℕ) (refused : FileRefusal) (given : Answer)
    → HasFault files csv (too_long seen) → fault_in refused ≡ too_long seen
    → IsRefusedText (refusal.First refused.cause) refused.text.items given
    → AnswersAsked files (OfPortfolio csv) given
long_portfolio files csv seen refused given fault is says = record {
  case = FirstRefused (too_long seen);
  holds = inl (seen, fault, refl);
  says = subst (λ (f : FileFault). IsRefusedText (refusal.First f.cause) f.text given) is says;
}
