-- Holdings that are kept one by one.
use Rattle.std.proofs.Common.{◌≡◌, ℕ, suc, ◌^◌, ◌<◌, ◌≤◌, Bool, true, false, List, [], ◌∷◌, ◌++◌, length, map}
use Rattle.std.proofs.Common.{slice_get, Some, refl, sym, ap, ◌∙◌, arith}
use Rattle.std.specs.Prelude.{All}
use Rattle.std.proofs.lemmas.List.{get_or_append_left, length_push, map_push}
use Rattle.std.proofs.lemmas.List.Elements.{All-push}
use Rattle.std.proofs.lemmas.List.Sums.{fold_push}
use Rattle.std.proofs.lemmas.Option.{get_or_from_slice_get, slice_get_within}
use Rattle.portfolio_run.specs.declared.policies.Policy.{Policy}
use Rattle.portfolio_run.specs.Holdings.{Holding}
use Rattle.portfolio_run.specs.Names.{is_among, with_name, first_seen}
use Rattle.portfolio_run.specs.Stored.{AreKept, HasPlaces, holding_of, name_at}

-- the names before a new one stay where they are
stays : (names : List (List ℕ)) (name : List ℕ) (k : ℕ) → k < length names
    → name_at (with_name names name) k ≡ name_at names k
stays names name k within = by (is_among names name) refl
  where
    by : (there : Bool) → is_among names name ≡ there → name_at (with_name names name) k ≡ name_at names k
    by true e = rw e refl
    by false e = rw e (get_or_append_left names (name ∷ []) [] k within)

grows : (names : List (List ℕ)) (name : List ℕ) (k : ℕ) → k < length names → k < length (with_name names name)
grows names name k within = by (is_among names name) refl
  where
    by : (there : Bool) → is_among names name ≡ there → k < length (with_name names name)
    by true e = rw e within
    by false e = rw (e, length_push names name) (omega (arith, within))

-- so the holdings stay what they are
holdings_stay : (files groups : List (List ℕ)) (file group : List ℕ) (policies : List Policy)
    → All (HasPlaces files groups) policies
    → map (holding_of (with_name files file) (with_name groups group)) policies ≡ map (holding_of files groups) policies
holdings_stay files groups file group [] places = refl
holdings_stay files groups file group (policy ∷ policies) places =
    let place : HasPlaces files groups policy = places 0 policy (omega arith) in
    let file_is = stays files file policy.file place.file in
    let group_is = stays groups group policy.group place.group in
    let rest = holdings_stay files groups file group policies
    (λ k d within. places (suc k) d (omega (arith, within))) in
    let first : holding_of (with_name files file) (with_name groups group) policy ≡ holding_of files groups policy =
    cc (file_is, group_is) in
    cc (first, rest)

places_stay : (files groups : List (List ℕ)) (file group : List ℕ) (policies : List Policy)
    → All (HasPlaces files groups) policies → All (HasPlaces (with_name files file) (with_name groups group)) policies
places_stay files groups file group policies places k d within = record {
  file = grows files file _ (places k d within).file;
  group = grows groups group _ (places k d within).group;
  count = (places k d within).count;
}

-- one name more
pub seen_more : (names : List (List ℕ)) (name : List ℕ)
    → first_seen (names ++ name ∷ []) ≡ with_name (first_seen names) name
seen_more names name = fold_push with_name [] names name

-- holdings with the same parts
same_holding : (a b : Holding) → a.file ≡ b.file → a.group ≡ b.group → a.month ≡ b.month → a.state ≡ b.state
    → a.count ≡ b.count → a ≡ b
same_holding a b file group month state count =
    ap (λ x. record a { file = x }) file
    ∙ ap (λ x. record a { file = b.file; group = x }) group
    ∙ ap (λ x. record a { file = b.file; group = b.group; month = x }) month
    ∙ ap (λ x. record a { file = b.file; group = b.group; month = b.month; state = x }) state
    ∙ ap (λ x. record b { count = x }) count

-- one holding more
pub kept_one_more : (files groups new_files new_groups : List (List ℕ)) (policies : List Policy)
    (holdings : List Holding) (policy : Policy) (holding : Holding)
    → new_files ≡ with_name files holding.file → new_groups ≡ with_name groups holding.group
    → slice_get new_files policy.file ≡ Some holding.file → slice_get new_groups policy.group ≡ Some holding.group
    → policy.month ≡ holding.month → policy.state.items ≡ holding.state → policy.count ≡ holding.count
    → policy.count ≤ 10 ^ 6 → AreKept files groups policies holdings
    → AreKept new_files new_groups (policies ++ policy ∷ []) (holdings ++ holding ∷ [])
kept_one_more files groups new_files new_groups policies holdings policy holding files_are groups_are file group month
    state count few kept =
    let file_is = get_or_from_slice_get new_files policy.file holding.file [] file in
    let group_is = get_or_from_slice_get new_groups policy.group holding.group [] group in
    let last : holding_of new_files new_groups policy ≡ holding =
    same_holding (holding_of new_files new_groups policy) holding file_is group_is month state count in
    let before : map (holding_of new_files new_groups) policies ≡ holdings =
    rw (files_are, groups_are) (holdings_stay files groups holding.file holding.group policies kept.places)
    ∙ kept.holdings_are in
    record {
      holdings_are = map_push (holding_of new_files new_groups) policies policy
          ∙ ap (λ h. map (holding_of new_files new_groups) policies ++ h ∷ []) last
          ∙ ap (λ hs. hs ++ holding ∷ []) before;
      files_are = files_are ∙ ap (λ names. with_name names holding.file) kept.files_are
          ∙ sym (seen_more (map (λ h. h.file) holdings) holding.file)
          ∙ ap first_seen (sym (map_push (λ h. h.file) holdings holding));
      groups_are = groups_are ∙ ap (λ names. with_name names holding.group) kept.groups_are
          ∙ sym (seen_more (map (λ h. h.group) holdings) holding.group)
          ∙ ap first_seen (sym (map_push (λ h. h.group) holdings holding));
      places = All-push (HasPlaces new_files new_groups) policies policy
          (rw (files_are, groups_are) (places_stay files groups holding.file holding.group policies kept.places))
          (record {
            file = slice_get_within new_files policy.file holding.file file;
            group = slice_get_within new_groups policy.group holding.group group;
            count = few;
          });
    }
