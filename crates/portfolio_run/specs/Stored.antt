-- Holdings as a program keeps them: with the places of their file and of their group among the different ones.
use Rattle.std.specs.Prelude.{◌≡◌, ℕ, ◌^◌, ◌<◌, ◌≤◌, List, [], ◌∷◌, ◌++◌, length, map, slice_index_or, All}
use Rattle.model_specs.specs.Product.{Product}
use Rattle.portfolio_run.specs.declared.policies.Policy.{Policy}
use Rattle.portfolio_run.specs.Holdings.{Holding, IsHolding}
use Rattle.portfolio_run.specs.Readings.{files_of, groups_of}
use Rattle.portfolio_run.specs.Values.{IsValued, ValuedProduct}

-- the name at a place
abbrev pub name_at : List (List ℕ) → ℕ → List ℕ
name_at names k = slice_index_or names k []

-- the holding that is kept
abbrev pub holding_of : (files groups : List (List ℕ)) → Policy → Holding
holding_of files groups policy = record {
  file = name_at files policy.file;
  group = name_at groups policy.group;
  month = policy.month;
  state = policy.state.items;
  count = policy.count;
}

-- both places are among the names, and the count is one that may be
pub record HasPlaces (files groups : List (List ℕ)) (policy : Policy) : Type 0 where
  pub file : policy.file < length files
  pub group : policy.group < length groups
  pub count : policy.count ≤ 10 ^ 6

-- the holdings that are kept
abbrev pub kept_holdings : (files groups : List (List ℕ)) → List Policy → List Holding
kept_holdings files groups policies = map (holding_of files groups) policies

-- holdings are kept with their different files and groups
pub record AreKept (files groups : List (List ℕ)) (policies : List Policy) (holdings : List Holding) : Type 0 where
  pub holdings_are : kept_holdings files groups policies ≡ holdings
  pub files_are : files ≡ files_of holdings
  pub groups_are : groups ≡ groups_of holdings
  pub places : All (HasPlaces files groups) policies

-- holdings are kept, and one more, which a record says behind them
pub record KeepsOneMore (files groups : List (List ℕ)) (policies : List Policy) (holdings : List Holding)
    (fields : List (List ℕ)) : Type 0 where
  pub holding : Holding
  pub says : IsHolding (files_of holdings) fields holding
  pub kept : AreKept files groups policies (holdings ++ holding ∷ [])

-- the most bytes of a CSV text, so no portfolio has more holdings
abbrev pub most_bytes : ℕ
most_bytes = 2 ^ 20

-- what a clause sees of a portfolio: its holdings, and the products of its first files, as far as they are valued
pub record Portfolio : Type 0 where
  pub holdings : List Holding
  pub valued : List ValuedProduct

-- a portfolio of these holdings, with these products valued
abbrev pub portfolio_of : List Holding → List ValuedProduct → Portfolio
portfolio_of holdings valued = record { holdings = holdings; valued = valued }

-- one product more is valued
pub record AddsValued (product : Product) (old new : Portfolio) : Type 0 where
  pub holdings : new.holdings ≡ old.holdings
  pub added : ValuedProduct
  pub product_is : added.product ≡ product
  pub is_valued : IsValued added
  pub valued : new.valued ≡ old.valued ++ added ∷ []
