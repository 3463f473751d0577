-- The different files of holdings: they are texts, and no more than holdings.
use Rattle.std.proofs.Common.{ℕ, suc, ◌+◌, ◌<◌, ◌≤◌, Bool, true, false, cond, List, [], ◌∷◌, ◌++◌, length, map}
use Rattle.std.proofs.Common.{sym, subst, arith}
use Rattle.std.specs.Prelude.{All, IsUtf8, fold}
use Rattle.std.proofs.lemmas.List.{get_or-map, length-map, length_push}
use Rattle.std.proofs.lemmas.List.Elements.{All-nil, All-push}
use Rattle.portfolio_run.specs.Holdings.{Holding}
use Rattle.portfolio_run.specs.Names.{first_seen, is_among, with_name}
use Rattle.portfolio_run.specs.Readings.{AreHoldingsIn, files_of, groups_of}
use Rattle.portfolio_run.proofs.RecordCounts.{records_are_few}

-- ---- different names

with_few : (names : List (List ℕ)) (name : List ℕ) → length (with_name names name) ≤ length names + 1
with_few names name = by (is_among names name)
  where
    by : (there : Bool) → length (cond there names (names ++ name ∷ [])) ≤ length names + 1
    by true = omega arith
    by false = omega (arith, length_push names name)

seen_few : (seen names : List (List ℕ)) → length (fold with_name seen names) ≤ length seen + length names
seen_few seen [] = omega arith
seen_few seen (name ∷ names) =
    omega (arith, seen_few (with_name seen name) names, with_few seen name)

-- no more different names than names
pub first_seen_are_few : (names : List (List ℕ)) → length (first_seen names) ≤ length names
first_seen_are_few names = omega (arith, seen_few [] names)

with_all : (P : List ℕ → Type 0) (names : List (List ℕ)) (name : List ℕ) → All P names → P name
    → All P (with_name names name)
with_all P names name all here = by (is_among names name)
  where
    by : (there : Bool) → All P (cond there names (names ++ name ∷ []))
    by true = all
    by false = All-push P names name all here

seen_all : (P : List ℕ → Type 0) (seen names : List (List ℕ)) → All P seen → All P names
    → All P (fold with_name seen names)
seen_all P seen [] before all = before
seen_all P seen (name ∷ names) before all =
    seen_all P (with_name seen name) names (with_all P seen name before (all 0 name (omega arith)))
    (λ k d within. all (suc k) d (omega (arith, within)))

-- ---- holdings

-- no more groups than holdings
pub groups_are_few : (holdings : List Holding) → length (groups_of holdings) ≤ length holdings
groups_are_few holdings =
    omega (
      arith,
      first_seen_are_few (map (λ holding. holding.group) holdings),
      length-map holdings (λ holding. holding.group),
    )

-- no more files than bytes of the text
pub files_are_few : (text : List ℕ) (holdings : List Holding) → AreHoldingsIn text holdings
    → length (files_of holdings) ≤ length text
files_are_few text holdings are =
    omega (
      arith,
      first_seen_are_few (map (λ holding. holding.file) holdings),
      length-map holdings (λ holding. holding.file),
      records_are_few text are.0 are.1,
      are.3.all,
    )

-- each file's name is a text
pub files_are_texts : (text : List ℕ) (holdings : List Holding) → AreHoldingsIn text holdings
    → All IsUtf8 (files_of holdings)
files_are_texts text holdings are =
    seen_all IsUtf8 [] (map (λ holding. holding.file) holdings) (All-nil IsUtf8) named
  where
    named : All IsUtf8 (map (λ holding. holding.file) holdings)
    named k d within =
        let inside : k < length holdings = omega (arith, within, length-map holdings (λ holding. holding.file)) in
        subst IsUtf8 (sym (get_or-map (λ holding. holding.file) holdings k _ d inside))
        (are.3.begin.each k inside).right.file_is.text
