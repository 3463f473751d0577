-- Rules 12 to 14 hold of a product's tree.
use Rattle.std.proofs.Common.{◌≡◌, ℕ, zero, suc, ◌<◌, ◌≤◌, List, ◌∷◌, length, map, take, get_or, map-id}
use Rattle.std.proofs.Common.{arith, refl, ap, sym, ◌∙◌, subst}
use Rattle.std.specs.Prelude.{pos, true, false, ◌==◌, None, is_some, codes, nat_le}
use Rattle.std.specs.Prelude.{unsigned_abs}
use Rattle.std.specs.List.{list_any}
use Rattle.std.proofs.lemmas.Bool.{and_from, le-leb, ne_eqb, not_from_false}
use Rattle.std.proofs.lemmas.List.{get_or-map, length-map}
use Rattle.toml.specs.Data.{Members, boolean}
use Rattle.named_numbers.specs.Numbers.{most_lump, most_every}
use Rattle.model_specs.specs.Product.{Product, Lump}
use Rattle.model_specs.specs.RecordRules.{IsWellFormed, AreDistinct}
use Rattle.product_file.specs.Checks.{first_failed}
use Rattle.product_file.specs.Members.{item_at, members_of, whole_of}
use Rattle.product_file.specs.HeadRules.{is_from_to}
use Rattle.product_file.specs.TransitionRule.{is_same_pair}
use Rattle.product_file.specs.LumpRule.{rule_12, is_good_lump, lump_items, lump_of, date_and_state}
use Rattle.product_file.specs.PatternRules.{rule_13, rule_14, is_premium, premium_of, payer_items, payer_index}
use Rattle.product_file.specs.PatternRules.{payer_checks, is_good_payer}
use Rattle.workload_gen.proofs.Passing.{places_pass}
use Rattle.file_upgrade.specs.FileTree.{lump_data, state_data}
use Rattle.file_upgrade.proofs.Checks.{one_more_passes, no_earlier}
use Rattle.file_upgrade.proofs.HeadRules.{other_pairs}
use Rattle.file_upgrade.proofs.Trees.{IsTreeOf, HasPremiumOf, NoPremium, Premium, premium_members}
use Rattle.file_upgrade.proofs.Values.{lump_at, lump_again, payer_again, payer_items_are, name_is_found}

-- stands for a lump that there is not
abbrev no_lump : Lump
no_lump = record { month = 0; state = 0; amount = pos 0 }

module _ (p : Product) (formed : IsWellFormed p) (tree : Members) (t : IsTreeOf p tree) where
  -- ---- lumps

  abbrev at : ℕ → Lump
  at k = get_or p.lumps k no_lump

  item_is : (k : ℕ) → k < length p.lumps → item_at (lump_items tree) k ≡ lump_data p (at k)
  item_is k inside = ap (λ items. item_at items k) t.lumps
      ∙ get_or-map (lump_data p) p.lumps k no_lump (boolean false) inside

  again : (k : ℕ) → k < length p.lumps → lump_of tree (lump_data p (at k)) ≡ at k
  again k inside = lump_again p formed tree t (at k) (formed.lumps.states k no_lump inside)

  no_earlier_lump : (k : ℕ) → k < length p.lumps
      → list_any (λ e. is_same_pair (date_and_state (lump_of tree (lump_data p (at k))))
      (date_and_state (lump_of tree e))) (take k (map (lump_data p) p.lumps)) ≡ false
  no_earlier_lump k inside =
      no_earlier {A = Lump} {B = ℕ × ℕ} (0, 0) date_and_state (lump_data p)
      (λ e. is_same_pair (date_and_state (lump_of tree (lump_data p (at k)))) (date_and_state (lump_of tree e)))
      p.lumps no_lump k formed.lumps.distinct inside
      (λ i below differ.
      ap (λ l. is_same_pair (date_and_state l) (date_and_state (lump_of tree (lump_data p (at i))))) (again k inside)
      ∙ ap (λ l. is_same_pair (date_and_state (at k)) (date_and_state l)) (again i below)
      ∙ other_pairs (date_and_state (at i)) (date_and_state (at k)) differ)

  lump_passes : (k : ℕ) → k < length p.lumps → is_good_lump tree k ≡ true
  lump_passes k inside =
      let amount : nat_le (unsigned_abs (lump_of tree (lump_data p (at k))).amount) most_lump ≡ true =
      ap (λ l. nat_le (unsigned_abs l.amount) most_lump) (again k inside)
      ∙ le-leb _ most_lump (formed.lumps.amounts k no_lump inside) in
      let term : is_from_to (pos 0) (whole_of (codes "months") tree)
      (whole_of (codes "month") (members_of (lump_data p (at k)))) ≡ true =
      rw t.months (and_from _ _ (le-leb 0 (at k).month (omega arith))
      (le-leb (at k).month p.months (formed.lumps.dates k no_lump inside))) in
      rw (item_is k inside, t.lumps) (and_from _ _ (and_from _ _ (and_from _ _ (and_from _ _ refl term)
      (ap is_some (lump_at p formed tree t (at k) (formed.lumps.states k no_lump inside)))) amount)
      (not_from_false _ (no_earlier_lump k inside)))

  pub lumps_pass : first_failed (rule_12 tree) ≡ None
  lumps_pass =
      let count : length (lump_items tree) ≡ length p.lumps = ap length t.lumps ∙ length-map p.lumps (lump_data p) in
      rw count (places_pass (length p.lumps) (is_good_lump tree) lump_passes)

  -- ---- the premium

  module _ (table : premium_of tree ≡ premium_members p) where
    abbrev payer_of_place : ℕ → ℕ
    payer_of_place k = get_or p.pattern.payers k 0

    payer_is : (k : ℕ) → k < length p.pattern.payers
        → item_at (payer_items tree) k ≡ state_data p (payer_of_place k)
    payer_is k inside = ap (λ items. item_at items k) (payer_items_are p formed tree t table)
        ∙ get_or-map (state_data p) p.pattern.payers k 0 (boolean false) inside

    index_is : (k : ℕ) → k < length p.pattern.payers
        → payer_index tree (state_data p (payer_of_place k)) ≡ payer_of_place k
    index_is k inside = payer_again p formed tree t (payer_of_place k) (formed.pattern.payers k 0 inside)

    no_earlier_payer : (k : ℕ) → k < length p.pattern.payers
        → list_any (λ e. payer_index tree e == payer_index tree (state_data p (payer_of_place k)))
        (take k (map (state_data p) p.pattern.payers)) ≡ false
    no_earlier_payer k inside =
        no_earlier {A = ℕ} {B = ℕ} 0 (λ i. i) (state_data p)
        (λ e. payer_index tree e == payer_index tree (state_data p (payer_of_place k))) p.pattern.payers 0 k
        (subst (AreDistinct 0) (sym (map-id p.pattern.payers)) formed.pattern.distinct) inside
        (λ i below differ.
        ap (λ x. x == payer_index tree (state_data p (payer_of_place k))) (index_is i below)
        ∙ ap (λ x. payer_of_place i == x) (index_is k inside)
        ∙ ne_eqb (payer_of_place i) (payer_of_place k) differ)

    payer_passes : (k : ℕ) → k < length p.pattern.payers → is_good_payer tree k ≡ true
    payer_passes k inside =
        rw (payer_is k inside, payer_items_are p formed tree t table) (and_from _ _ (and_from _ _ refl
        (ap is_some (name_is_found p formed tree t (payer_of_place k) (formed.pattern.payers k 0 inside))))
        (not_from_false _ (no_earlier_payer k inside)))

    payers_pass : 1 ≤ length p.pattern.payers
        → first_failed (payer_checks tree (length (payer_items tree))) ≡ None
    payers_pass some =
        let count : length (payer_items tree) ≡ length p.pattern.payers =
        ap length (payer_items_are p formed tree t table) ∙ length-map p.pattern.payers (state_data p) in
        rw count (by-count (length p.pattern.payers) some payer_passes)
      where
        by-count : (n : ℕ) → 1 ≤ n → ((k : ℕ) → k < n → is_good_payer tree k ≡ true)
            → first_failed (payer_checks tree n) ≡ None
        by-count zero some h = absurd (omega arith)
        by-count (suc n) some h = places_pass (suc n) (is_good_payer tree) h

    keys_hold : is_premium (premium_of tree) ≡ true
    keys_hold = rw table refl

    until_passes : 1 ≤ length p.pattern.payers
        → is_from_to (pos 1) (whole_of (codes "months") tree) (whole_of (codes "until") (premium_of tree)) ≡ true
    until_passes some = rw (table, t.months) (and_from _ _
        (le-leb 1 p.pattern.until (formed.pattern.until_above_0 some))
        (le-leb p.pattern.until p.months formed.pattern.until_within))

    every_passes : is_from_to (pos 0) (pos most_every) (whole_of (codes "every") (premium_of tree)) ≡ true
    every_passes = rw table (and_from _ _ (le-leb 0 p.pattern.every (omega arith))
        (le-leb p.pattern.every most_every formed.pattern.every))

  some_payer : (payer : ℕ) (payers : List ℕ) → p.pattern.payers ≡ payer ∷ payers → 1 ≤ length p.pattern.payers
  some_payer payer payers is = rw is (omega arith)

  rule_13_passes : HasPremiumOf p tree → first_failed (rule_13 tree) ≡ None
  rule_13_passes (NoPremium none absent) = rw absent refl
  rule_13_passes (Premium payer payers is there table) =
      rw there (one_more_passes _ _ (keys_hold table) (payers_pass table (some_payer payer payers is)))

  rule_14_passes : HasPremiumOf p tree → first_failed (rule_14 tree) ≡ None
  rule_14_passes (NoPremium none absent) = rw absent refl
  rule_14_passes (Premium payer payers is there table) =
      rw there (one_more_passes _ _ (until_passes table (some_payer payer payers is))
      (one_more_passes _ _ (every_passes table) refl))

  pub premium_passes : first_failed (rule_13 tree) ≡ None
  premium_passes = rule_13_passes t.premium

  pub pattern_passes : first_failed (rule_14 tree) ≡ None
  pattern_passes = rule_14_passes t.premium
