-- What stands at the keys of a product's tree.
use Rattle.std.proofs.Common.{◌≡◌, ℕ, List, [], ◌∷◌, map, refl}
use Rattle.std.specs.Prelude.{pos, codes, true, false, None, Some}
use Rattle.toml.specs.Data.{string, Members, no_members, member}
use Rattle.model_specs.specs.Product.{Product}
use Rattle.workload_gen.specs.Tree.{array_of, whole}
use Rattle.product_file.specs.Checks.{first_failed}
use Rattle.product_file.specs.Members.{is_absent, whole_at, whole_of, text_of, items_of}
use Rattle.product_file.specs.HeadRules.{rule_1}
use Rattle.product_file.specs.PatternRules.{premium_of}
use Rattle.file_upgrade.specs.FileTree.{part_data, state_name, state_data, transition_data, sojourn_data, lump_data}
use Rattle.file_upgrade.specs.FileTree.{with_premium, members_but_premium, file_tree}
use Rattle.file_upgrade.proofs.Again.{listed_again}

-- the members of the premium table
abbrev pub premium_members : Product → Members
premium_members p = member (codes "every") (whole p.pattern.every)
    (member (codes "payers") (array_of (map (state_data p) p.pattern.payers))
    (member (codes "until") (whole p.pattern.until) no_members))

-- a premium stands there exactly where there are payers
pub data HasPremiumOf (p : Product) (tree : Members) : Type 0 where
  NoPremium : p.pattern.payers ≡ [] → is_absent (codes "premium") tree ≡ true → HasPremiumOf p tree
  Premium : (payer : ℕ) (payers : List ℕ) → p.pattern.payers ≡ payer ∷ payers
      → is_absent (codes "premium") tree ≡ false → premium_of tree ≡ premium_members p → HasPremiumOf p tree

-- what is read at each key
pub record IsTreeOf (p : Product) (tree : Members) : Type 0 where
  pub keys : first_failed (rule_1 tree) ≡ None
  pub format_at : whole_at (codes "format") tree ≡ Some (pos 2)
  pub format : whole_of (codes "format") tree ≡ pos 2
  pub name : text_of (codes "name") tree ≡ p.name
  pub months : whole_of (codes "months") tree ≡ pos p.months
  pub den : whole_of (codes "den") tree ≡ pos p.den
  pub start : text_of (codes "start") tree ≡ state_name p p.start
  pub states : items_of (codes "states") tree ≡ map string p.states
  pub interest : items_of (codes "interest") tree ≡ map (λ piece. part_data piece.from piece.c) p.interest
  pub transitions : items_of (codes "transition") tree ≡ map (transition_data p) p.transitions
  pub sojourns : items_of (codes "sojourn") tree ≡ map (sojourn_data p) p.sojourns
  pub lumps : items_of (codes "lump") tree ≡ map (lump_data p) p.lumps
  pub premium : HasPremiumOf p tree

tree_with : (p : Product) (payers : List ℕ) → p.pattern.payers ≡ payers
    → IsTreeOf p (with_premium p payers (members_but_premium p))
tree_with p [] is = record {
  keys = refl;
  format_at = refl;
  format = refl;
  name = refl;
  months = refl;
  den = refl;
  start = refl;
  states = listed_again (map string p.states);
  interest = listed_again (map (λ piece. part_data piece.from piece.c) p.interest);
  transitions = listed_again (map (transition_data p) p.transitions);
  sojourns = listed_again (map (sojourn_data p) p.sojourns);
  lumps = listed_again (map (lump_data p) p.lumps);
  premium = NoPremium is refl;
}
tree_with p (payer ∷ payers) is = record {
  keys = refl;
  format_at = refl;
  format = refl;
  name = refl;
  months = refl;
  den = refl;
  start = refl;
  states = listed_again (map string p.states);
  interest = listed_again (map (λ piece. part_data piece.from piece.c) p.interest);
  transitions = listed_again (map (transition_data p) p.transitions);
  sojourns = listed_again (map (sojourn_data p) p.sojourns);
  lumps = listed_again (map (lump_data p) p.lumps);
  premium = Premium payer payers is refl refl;
}

pub is_tree_of : (p : Product) → IsTreeOf p (file_tree p)
is_tree_of p = tree_with p p.pattern.payers refl
