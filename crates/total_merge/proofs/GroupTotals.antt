-- Totals of groups, one entry more.
use Rattle.std.proofs.Common.{◌≡◌, ◌≢◌, ℕ, ◌+◌, ◌<◌, ℤ, pos, ◌+ℤ◌, Bool, true, false, cond, ◌||◌, List, [], ◌∷◌, ◌++◌}
use Rattle.std.proofs.Common.{length, map, get_or, set, slice_get, Some, inl, inr, refl, sym, ap, subst, ◌∙◌}
use Rattle.std.proofs.Common.{arith, bytes_eq, true≢false}
use Rattle.std.proofs.lemmas.Bool.{ne_eqb}
use Rattle.std.proofs.lemmas.Bool.Decides.{eqb_tells}
use Rattle.std.proofs.lemmas.List.{get_or-map, get_or-set_other, get_or-set_same, get_or_append_left, length-map}
use Rattle.std.proofs.lemmas.List.{length-set, length_push, map_push}
use Rattle.std.proofs.lemmas.List.Elements.{All-nil, All-push}
use Rattle.std.proofs.lemmas.List.Folds.{list_any-append, list_any_at}
use Rattle.std.proofs.lemmas.List.Sums.{fold_push}
use Rattle.std.proofs.lemmas.Option.{get_or_from_slice_get, slice_get_within}
use Rattle.std.proofs.lemmas.Slice.Eq.{bytes_eq-Decides}
use Rattle.std.proofs.Math.Seq.{map-set_same}
use Rattle.portfolio_run.specs.declared.totals.Total.{Total}
use Rattle.portfolio_run.specs.Names.{first_seen, is_among, place_in, with_name}
use Rattle.portfolio_run.specs.Stored.{name_at}
use Rattle.portfolio_run.proofs.OwnPlaces.{differs, first_seen_have_own_places, same_place}
use Rattle.total_merge.specs.Entries.{Entry, kept_entry}
use Rattle.total_merge.specs.Sums.{groups_of, hi_of, is_of, lo_of, name_of, tol_of}
use Rattle.total_merge.specs.Sums.{AddsEntry, AreSums, HasNone, HasSums, IsNothing}

-- ---- names

-- a name that is one of these adds none
pub known : (names : List (List ℕ)) (name : List ℕ) → is_among names name ≡ true → with_name names name ≡ names
known names name there = ap (λ b. cond b names (names ++ name ∷ [])) there

-- and one that is not is the last one
pub unknown : (names : List (List ℕ)) (name : List ℕ) → is_among names name ≡ false
    → with_name names name ≡ names ++ name ∷ []
unknown names name new = ap (λ b. cond b names (names ++ name ∷ [])) new

-- a name that is found behind the others is new
new_at_end : (names : List (List ℕ)) (name : List ℕ) (place : ℕ)
    → slice_get (with_name names name) place ≡ Some name → place ≡ length names → is_among names name ≡ false
new_at_end names name place here last = by (is_among names name) refl
  where
    by : (there : Bool) → is_among names name ≡ there → there ≡ false
    by false e = refl
    by true e =
        let found = subst (λ all. slice_get all place ≡ Some name) (known names name e) here in
        absurd (omega (arith, slice_get_within names place name found, last))

-- and one that is found before their end is not
known_before_end : (names : List (List ℕ)) (name : List ℕ) (place : ℕ)
    → slice_get (with_name names name) place ≡ Some name → place ≢ length names → is_among names name ≡ true
known_before_end names name place here before = by (is_among names name) refl
  where
    by : (there : Bool) → is_among names name ≡ there → there ≡ true
    by true e = refl
    by false e =
        let found = subst (λ all. slice_get all place ≡ Some name) (unknown names name e) here in
        let inside = slice_get_within (names ++ name ∷ []) place name found in
        let early : place < length names = grind (arith, inside, length_push names name, before) in
        let at : name_at names place ≡ name =
        sym (get_or_append_left names (name ∷ []) [] place early)
        ∙ get_or_from_slice_get (names ++ name ∷ []) place name [] found in
        absurd (true≢false (sym (list_any_at (bytes_eq name) names place [] early
        (subst (λ n. bytes_eq name n ≡ true) (sym at) ((bytes_eq-Decides name name).1 refl))) ∙ e))

-- totals are as many as names
as_many : (names : List (List ℕ)) (groups : List Total) → map name_of groups ≡ names → length groups ≡ length names
as_many names groups named = sym (length-map groups name_of) ∙ ap length named

-- a name's place is behind the totals where it is new
pub is_new : (names after : List (List ℕ)) (groups : List Total) (name : List ℕ) (place : ℕ)
    → map name_of groups ≡ names → after ≡ with_name names name → slice_get after place ≡ Some name
    → place ≡ length groups → is_among names name ≡ false
is_new names after groups name place named noted here last =
    new_at_end names name place (subst (λ all. slice_get all place ≡ Some name) noted here)
    (last ∙ as_many names groups named)

-- and only there
pub is_known : (names after : List (List ℕ)) (groups : List Total) (name : List ℕ) (place : ℕ)
    → map name_of groups ≡ names → after ≡ with_name names name → slice_get after place ≡ Some name
    → place ≢ length groups → is_among names name ≡ true
is_known names after groups name place named noted here before =
    known_before_end names name place (subst (λ all. slice_get all place ≡ Some name) noted here)
    (λ last. before (last ∙ sym (as_many names groups named)))

-- at the place of a name there is a total
pub place_within : (names : List (List ℕ)) (groups : List Total) (name : List ℕ) (place : ℕ)
    → map name_of groups ≡ names → slice_get names place ≡ Some name → place < length groups
place_within names groups name place named here =
    omega (arith, slice_get_within names place name here, as_many names groups named)

-- a name that is not among more names is not among fewer
among_fewer : (names : List (List ℕ)) (name other : List ℕ) → is_among (names ++ name ∷ []) other ≡ false
    → is_among names other ≡ false
among_fewer names name other new =
    by (is_among names other) (sym (list_any-append (bytes_eq other) names (name ∷ [])) ∙ new)
  where
    by : (b : Bool) → (b || is_among (name ∷ []) other) ≡ false → b ≡ false
    by true both = both
    by false both = refl

-- ---- a total of nothing

-- of a group that is seen for the first time
pub new_total : (names : List (List ℕ)) (groups : List Total) (entries : List Entry) (name : List ℕ) (total : Total)
    → is_among names name ≡ false → IsNothing name total → AreSums names groups entries
    → AreSums (with_name names name) (groups ++ total ∷ []) entries
new_total names groups entries name total new nothing are =
    let more = unknown names name new in
    let none : HasNone entries (name_of total) = are.others (name_of total)
    (subst (λ n. is_among names n ≡ false) (sym nothing.name_is) new) in
    record {
      seen = are.seen ++ name ∷ [];
      different = ap (λ all. with_name all name) are.different ∙ sym (fold_push with_name [] are.seen name);
      named = map_push name_of groups total ∙ ap (λ all. all ++ name_of total ∷ []) are.named
          ∙ ap (λ n. names ++ n ∷ []) nothing.name_is ∙ sym more;
      right = All-push (HasSums entries) groups total are.right (record {
        lo_is = nothing.lo_is ∙ sym none.lo_is;
        hi_is = nothing.hi_is ∙ sym none.hi_is;
        tol_is = nothing.tol_is ∙ sym none.tol_is;
      });
      others = λ other absent. are.others other
          (among_fewer names name other (subst (λ all. is_among all other ≡ false) more absent));
    }

-- of a group that was seen before there is a total
pub known_total : (names : List (List ℕ)) (groups : List Total) (entries : List Entry) (name : List ℕ)
    → is_among names name ≡ true → AreSums names groups entries → AreSums (with_name names name) groups entries
known_total names groups entries name there are =
    subst (λ all. AreSums all groups entries) (sym (known names name there)) are

-- ---- an entry more

-- of the group
with_entry : (entries : List Entry) (entry old new : Total) → is_of (name_of new) (kept_entry entry) ≡ true
    → AddsEntry entry old new → HasSums entries old → HasSums (entries ++ kept_entry entry ∷ []) new
with_entry entries entry old new belongs adds has = record {
  lo_is = adds.lo ∙ ap (λ z. z +ℤ entry.lo) (has.lo_is ∙ ap (λ n. lo_of n entries) (sym adds.name))
      ∙ sym (fold_push _ (pos 0) entries (kept_entry entry)
      ∙ ap (λ b. cond b (lo_of (name_of new) entries +ℤ entry.lo) (lo_of (name_of new) entries)) belongs);
  hi_is = adds.hi ∙ ap (λ z. z +ℤ entry.hi) (has.hi_is ∙ ap (λ n. hi_of n entries) (sym adds.name))
      ∙ sym (fold_push _ (pos 0) entries (kept_entry entry)
      ∙ ap (λ b. cond b (hi_of (name_of new) entries +ℤ entry.hi) (hi_of (name_of new) entries)) belongs);
  tol_is = adds.tol ∙ ap (λ z. z + entry.tol) (has.tol_is ∙ ap (λ n. tol_of n entries) (sym adds.name))
      ∙ sym (fold_push _ 0 entries (kept_entry entry)
      ∙ ap (λ b. cond b (tol_of (name_of new) entries + entry.tol) (tol_of (name_of new) entries)) belongs);
}

-- of another group
lo_without : (entries : List Entry) (entry : Entry) (name : List ℕ) → is_of name entry ≡ false
    → lo_of name (entries ++ entry ∷ []) ≡ lo_of name entries
lo_without entries entry name other =
    fold_push _ (pos 0) entries entry
    ∙ ap (λ b. cond b (lo_of name entries +ℤ entry.lo) (lo_of name entries)) other

hi_without : (entries : List Entry) (entry : Entry) (name : List ℕ) → is_of name entry ≡ false
    → hi_of name (entries ++ entry ∷ []) ≡ hi_of name entries
hi_without entries entry name other =
    fold_push _ (pos 0) entries entry
    ∙ ap (λ b. cond b (hi_of name entries +ℤ entry.hi) (hi_of name entries)) other

tol_without : (entries : List Entry) (entry : Entry) (name : List ℕ) → is_of name entry ≡ false
    → tol_of name (entries ++ entry ∷ []) ≡ tol_of name entries
tol_without entries entry name other =
    fold_push _ 0 entries entry
    ∙ ap (λ b. cond b (tol_of name entries + entry.tol) (tol_of name entries)) other

without_entry : (entries : List Entry) (entry : Entry) (total : Total) → is_of (name_of total) entry ≡ false
    → HasSums entries total → HasSums (entries ++ entry ∷ []) total
without_entry entries entry total other has = record {
  lo_is = has.lo_is ∙ sym (lo_without entries entry (name_of total) other);
  hi_is = has.hi_is ∙ sym (hi_without entries entry (name_of total) other);
  tol_is = has.tol_is ∙ sym (tol_without entries entry (name_of total) other);
}

-- the name of a total by its place
name_by_place : (names : List (List ℕ)) (groups : List Total) (k : ℕ) (d : Total) → map name_of groups ≡ names
    → k < length groups → name_at names k ≡ name_of (get_or groups k d)
name_by_place names groups k d named within =
    ap (λ all. name_at all k) (sym named) ∙ get_or-map name_of groups k d [] within

-- all totals, where one has the entry more
pub entry_added : (names : List (List ℕ)) (groups : List Total) (entries : List Entry) (place : ℕ)
    (entry old new : Total) → AreSums names groups entries → slice_get names place ≡ Some (name_of entry)
    → old ≡ get_or groups place old → AddsEntry entry old new
    → AreSums names (set groups place new) (entries ++ kept_entry entry ∷ [])
entry_added names groups entries place entry old new are here read adds =
    let count : length groups ≡ length names = as_many names groups are.named in
    let inside : place < length names = slice_get_within names place (name_of entry) here in
    let within : place < length groups = place_within names groups (name_of entry) place are.named here in
    let own = subst (λ all. (k : ℕ) → k < length all → place_in all (name_at all k) ≡ k) (sym are.different)
    (first_seen_have_own_places are.seen) in
    let entry_name : name_at names place ≡ name_of entry =
    get_or_from_slice_get names place (name_of entry) [] here in
    let old_name : name_of old ≡ name_of entry =
    ap name_of read ∙ sym (name_by_place names groups place old are.named within) ∙ entry_name in
    record {
      seen = are.seen;
      different = are.different;
      named = map-set_same name_of groups place new old (adds.name ∙ ap name_of read) ∙ are.named;
      right = λ k d early. elim (eqb_tells k place) [
        | inl at ↦
            let is : get_or (set groups place new) k d ≡ new =
            ap (λ i. get_or (set groups place new) i d) at.1 ∙ get_or-set_same groups place new d within in
            subst (HasSums (entries ++ kept_entry entry ∷ [])) (sym is)
            (with_entry entries entry old new
            (subst (λ n. bytes_eq n (name_of entry) ≡ true) (sym (adds.name ∙ old_name))
            ((bytes_eq-Decides (name_of entry) (name_of entry)).1 refl))
            adds (subst (HasSums entries) (sym read) (are.right place old within)))
        | inr apart ↦
            let k_within : k < length groups = omega (arith, early, length-set groups place new) in
            let is : get_or (set groups place new) k d ≡ get_or groups k d =
            get_or-set_other groups place k new d apart.1 in
            let name : name_at names k ≡ name_of (get_or groups k d) =
            name_by_place names groups k d are.named k_within in
            let differ : bytes_eq (name_at names k) (name_at names place) ≡ false =
            same_place names own place k inside (omega (arith, k_within, count))
            ∙ ne_eqb place k (λ same. apart.1 (sym same)) in
            subst (HasSums (entries ++ kept_entry entry ∷ [])) (sym is)
            (without_entry entries (kept_entry entry) (get_or groups k d)
            (subst (λ n. bytes_eq n (name_of entry) ≡ false) name
            (subst (λ n. bytes_eq (name_at names k) n ≡ false) entry_name differ)) (are.right k d k_within))
      ];
      others = λ other absent.
          let apart : is_of other (kept_entry entry) ≡ false =
          subst (λ n. bytes_eq other n ≡ false) entry_name (differs names other absent place inside) in
          let none = are.others other absent in
          record {
            lo_is = lo_without entries (kept_entry entry) other apart ∙ none.lo_is;
            hi_is = hi_without entries (kept_entry entry) other apart ∙ none.hi_is;
            tol_is = tol_without entries (kept_entry entry) other apart ∙ none.tol_is;
          };
    }

-- no entry yet
pub no_totals : AreSums [] [] []
no_totals = record {
  seen = [];
  different = refl;
  named = refl;
  right = All-nil (HasSums []);
  others = λ name absent. record { lo_is = refl; hi_is = refl; tol_is = refl };
}

-- the groups of one entry more
pub groups_more : (entries : List Entry) (entry : Total)
    → groups_of (entries ++ kept_entry entry ∷ []) ≡ with_name (groups_of entries) (name_of entry)
groups_more entries entry =
    ap first_seen (map_push (λ e. e.group) entries (kept_entry entry))
    ∙ fold_push with_name [] (map (λ e. e.group) entries) (name_of entry)
