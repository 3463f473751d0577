-- The files of a portfolio come to one list of products, or one of them is the first that is refused; and holdings with
-- these products to one case.
use Rattle.std.proofs.Common.{◌≡◌, ℕ, zero, suc, List, [], ◌∷◌, inl, inr, refl, sym, ap, ◌∙◌}
use Rattle.model_specs.specs.Product.{Product}
use Rattle.portfolio_run.specs.Holdings.{Holding}
use Rattle.portfolio_run.proofs.OneCover.{covered_or_uncovered, one_uncovered}
use Rattle.thiele_cli.specs.FileFaults.{FileFault}
use Rattle.thiele_cli.specs.Cases.{Case, PolicyRefused, WrongRow, IsCoverCase}
use Rattle.thiele_cli.specs.Portfolios.{ComeTo, IsFirstRefused}

-- a name comes to one thing
pub record ComesToOne (HasIt : List ℕ → Product → Type 0) (HasFaultOf : List ℕ → FileFault → Type 0) : Type 0 where
  pub product : (name : List ℕ) (p q : Product) → HasIt name p → HasIt name q → p ≡ q
  pub fault : (name : List ℕ) (a b : FileFault) → HasFaultOf name a → HasFaultOf name b → a ≡ b
  pub either : (name : List ℕ) (a : FileFault) (p : Product) → HasFaultOf name a → HasIt name p → ⊥

-- names come to one list of products
pub one_products : (HasIt : List ℕ → Product → Type 0) (HasFaultOf : List ℕ → FileFault → Type 0)
    (names : List (List ℕ)) (a b : List Product) → ComesToOne HasIt HasFaultOf → ComeTo HasIt names a
    → ComeTo HasIt names b → a ≡ b
one_products HasIt HasFaultOf [] [] [] one x y = refl
one_products HasIt HasFaultOf [] [] (q ∷ qs) one x y = absurd y
one_products HasIt HasFaultOf [] (p ∷ ps) b one x y = absurd x
one_products HasIt HasFaultOf (n ∷ ns) [] b one x y = absurd x
one_products HasIt HasFaultOf (n ∷ ns) (p ∷ ps) [] one x y = absurd y
one_products HasIt HasFaultOf (n ∷ ns) (p ∷ ps) (q ∷ qs) one x y =
    let first : p ≡ q = one.product n p q x.0 y.0 in
    let rest : ps ≡ qs = one_products HasIt HasFaultOf ns ps qs one x.1 y.1 in
    λ k. first k ∷ rest k

-- or one is refused
pub refused_or_products : (HasIt : List ℕ → Product → Type 0) (HasFaultOf : List ℕ → FileFault → Type 0)
    (names : List (List ℕ)) (place : ℕ) (fault : FileFault) (products : List Product) → ComesToOne HasIt HasFaultOf
    → IsFirstRefused HasIt HasFaultOf names place fault → ComeTo HasIt names products → ⊥
refused_or_products HasIt HasFaultOf [] place fault products one x y = x
refused_or_products HasIt HasFaultOf (n ∷ ns) place fault [] one x y = y
refused_or_products HasIt HasFaultOf (n ∷ ns) zero fault (p ∷ ps) one x y = one.either n fault p x y.0
refused_or_products HasIt HasFaultOf (n ∷ ns) (suc place) fault (p ∷ ps) one x y =
    refused_or_products HasIt HasFaultOf ns place fault ps one x.1 y.1

one_place : (HasIt : List ℕ → Product → Type 0) (HasFaultOf : List ℕ → FileFault → Type 0)
    (names : List (List ℕ)) (i j : ℕ) (a b : FileFault) → ComesToOne HasIt HasFaultOf
    → IsFirstRefused HasIt HasFaultOf names i a → IsFirstRefused HasIt HasFaultOf names j b → (i ≡ j) × (a ≡ b)
one_place HasIt HasFaultOf [] i j a b one x y = absurd x
one_place HasIt HasFaultOf (n ∷ ns) zero zero a b one x y = (refl, one.fault n a b x y)
one_place HasIt HasFaultOf (n ∷ ns) zero (suc j) a b one x y = absurd (one.either n a y.0.0 x y.0.1)
one_place HasIt HasFaultOf (n ∷ ns) (suc i) zero a b one x y = absurd (one.either n b x.0.0 y x.0.1)
one_place HasIt HasFaultOf (n ∷ ns) (suc i) (suc j) a b one x y =
    let rest = one_place HasIt HasFaultOf ns i j a b one x.1 y.1 in
    (ap (λ k. suc k) rest.0, rest.1)

-- the first that is refused is one
pub one_refused : (HasIt : List ℕ → Product → Type 0) (HasFaultOf : List ℕ → FileFault → Type 0)
    (names : List (List ℕ)) (i j : ℕ) (a b : FileFault) → ComesToOne HasIt HasFaultOf
    → IsFirstRefused HasIt HasFaultOf names i a → IsFirstRefused HasIt HasFaultOf names j b
    → PolicyRefused i a ≡ PolicyRefused j b
one_refused HasIt HasFaultOf names i j a b one x y =
    let same = one_place HasIt HasFaultOf names i j a b one x y in
    λ k. PolicyRefused (same.0 k) (same.1 k)

-- the holdings of a text with these products come to one case
pub one_cover_case : (text : List ℕ) (holdings : List Holding) (products : List Product) (a b : Case)
    → IsCoverCase text holdings products a → IsCoverCase text holdings products b → a ≡ b
one_cover_case text holdings products a b (inl x) (inl y) =
    x.2 ∙ ap (λ broken. WrongRow broken text) (one_uncovered holdings x.1.valued y.1.valued x.0 y.0
    (x.1.products_are ∙ sym y.1.products_are) x.1.tells y.1.tells) ∙ sym y.2
one_cover_case text holdings products a b (inl x) (inr y) =
    absurd (covered_or_uncovered holdings y.0.valued x.1.valued x.0.row x.0.part
    (y.0.products_are ∙ sym x.1.products_are) y.0.covered x.1.tells)
one_cover_case text holdings products a b (inr x) (inl y) =
    absurd (covered_or_uncovered holdings x.0.valued y.1.valued y.0.row y.0.part
    (x.0.products_are ∙ sym y.1.products_are) x.0.covered y.1.tells)
one_cover_case text holdings products a b (inr x) (inr y) = x.1 ∙ sym y.1
