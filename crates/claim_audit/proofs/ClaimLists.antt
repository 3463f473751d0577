-- Claims that are read one by one.
use Rattle.std.proofs.Common.{◌≡◌, ℕ, ◌+◌, ◌-◌, ◌<◌, List, [], ◌∷◌, ◌++◌, length, get_or, map, sym, ap, subst}
use Rattle.std.proofs.Common.{arith, ◌∙◌, below_more}
use Rattle.std.proofs.lemmas.List.{get_or_append_left, get_or-map, length_push}
use Rattle.std.proofs.Math.Seq.{get_or-append_seam}
use Rattle.claim_audit.specs.declared.claims.Claimed.{Claimed}
use Rattle.claim_audit.specs.Claims.{IsClaim}
use Rattle.claim_audit.specs.Readings.{record_at, claim_at}

-- what holds of each item by its place, and of one more
pub one_more_by_place : {C : Type 0} (P : ℕ → C → Type 0) (items : List C) (item d : C)
    → ((k : ℕ) → k < length items → P k (get_or items k d)) → P (length items) item
    → (k : ℕ) → k < length (items ++ item ∷ []) → P k (get_or (items ++ item ∷ []) k d)
one_more_by_place P items item d each last k within =
    below_more (λ j. P j (get_or (items ++ item ∷ []) j d)) (length items)
    (λ j here. subst (P j) (sym (get_or_append_left items (item ∷ []) d j here)) (each j here))
    (subst (P (length items)) (sym (get_or-append_seam items item [] d)) last)
    k (rw (sym (length_push items item)) within)

-- one claim more
pub one_claim_more : (months : ℕ) (names : List (List ℕ)) (records : List (List (List ℕ))) (claims : List Claimed)
    (claimed : Claimed)
    → ((k : ℕ) → k < length claims → IsClaim months names (record_at records (k + 1)) (claim_at claims k))
    → IsClaim months names (record_at records (length claims + 1)) claimed
    → (k : ℕ) → k < length (claims ++ claimed ∷ [])
    → IsClaim months names (record_at records (k + 1)) (claim_at (claims ++ claimed ∷ []) k)
one_claim_more months names records claims claimed each last k within =
    one_more_by_place (λ j. IsClaim months names (record_at records (j + 1))) claims claimed _ each last k within

-- the fields of a record by its place
pub fields_at : {R : Type 0} (fields : R → List (List ℕ)) (rows : List R) (i : ℕ) (row : R) → i < length rows
    → row ≡ get_or rows i row → record_at (map fields rows) i ≡ fields row
fields_at fields rows i row within here = get_or-map fields rows i row [] within ∙ ap fields (sym here)

-- records before a place are claims
pub claims_before : (months : ℕ) (names : List (List ℕ)) (records : List (List (List ℕ))) (claims : List Claimed)
    (i : ℕ) → i ≡ length claims + 1
    → ((k : ℕ) → k < length claims → IsClaim months names (record_at records (k + 1)) (claim_at claims k))
    → (k : ℕ) → 0 < k → k < i → (claimed : Claimed) × IsClaim months names (record_at records k) claimed
claims_before months names records claims i count each k some within =
    let back : k - 1 + 1 ≡ k = omega (arith, some) in
    let here : k - 1 < length claims = omega (arith, count, some, within) in (
      claim_at claims (k - 1),
      subst (λ j. IsClaim months names (record_at records j) (claim_at claims (k - 1))) back (each (k - 1) here),
    )
