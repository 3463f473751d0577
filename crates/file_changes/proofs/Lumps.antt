-- Lumps that are charged, one after the other.
use Rattle.std.proofs.Common.{◌≡◌, ℕ, zero, suc, ◌+◌, ◌<◌, ◌≤◌, ℤ, List, [], ◌∷◌, ◌++◌, length, map, take, get_or}
use Rattle.std.proofs.Common.{arith, ap, sym, ◌∙◌, subst}
use Rattle.std.specs.Prelude.{unsigned_abs}
use Rattle.std.proofs.lemmas.List.{get_or-map, length-map, map-append}
use Rattle.std.proofs.lemmas.List.Elements.{All-append}
use Rattle.named_numbers.specs.Numbers.{most_lump}
use Rattle.model_specs.specs.Product as model
use Rattle.payment_plan.specs.declared.lump.Lump.{Lump}
use Rattle.payment_plan.specs.Records.{lump_of, lumps_of}
use Rattle.product_reader.proofs.Grown.{one_more_of}
use Rattle.file_changes.specs.Asks.{AreSmallLumps}
use Rattle.file_changes.specs.Charges.{charged_lump}

-- one lump more
pub charged_more : (amount : ℤ) (pattern : model.PremiumPattern) (lumps made : List Lump) (i : ℕ) (d l : Lump)
    → lumps_of made ≡ map (charged_lump amount pattern) (take i (lumps_of lumps))
    → lump_of l ≡ charged_lump amount pattern (lump_of (get_or lumps i d)) → i < length lumps
    → lumps_of (made ++ l ∷ []) ≡ map (charged_lump amount pattern) (take (i + 1) (lumps_of lumps))
charged_more amount pattern lumps made i d l so_far next inside =
    one_more_of lump_of (charged_lump amount pattern) (lumps_of lumps) i (lump_of d) made l so_far
    (next ∙ ap (charged_lump amount pattern) (sym (get_or-map lump_of lumps i d (lump_of d) inside)))
    (subst (λ n. i < n) (sym (length-map lumps lump_of)) inside)

-- which is small
pub small_more : (made : List Lump) (l : Lump) → AreSmallLumps (lumps_of made) → unsigned_abs l.amount ≤ most_lump
    → AreSmallLumps (lumps_of (made ++ l ∷ []))
small_more made l all one = subst AreSmallLumps (sym (map-append lump_of made (l ∷ [])))
    (All-append (λ (x : model.Lump). unsigned_abs x.amount ≤ most_lump) (lumps_of made) (lump_of l ∷ []) all only)
  where
    only : AreSmallLumps (lump_of l ∷ [])
    only zero d below = one
    only (suc k) d below = absurd (omega (arith, below))

-- where one is too large, they are not small
pub lump_is_too_large : (amount : ℤ) (pattern : model.PremiumPattern) (lumps : List Lump) (i : ℕ) (d : Lump)
    → i < length lumps
    → ¬ (unsigned_abs (charged_lump amount pattern (lump_of (get_or lumps i d))).amount ≤ most_lump)
    → ¬ AreSmallLumps (map (charged_lump amount pattern) (lumps_of lumps))
lump_is_too_large amount pattern lumps i d inside wide all =
    let records_inside : i < length (lumps_of lumps) = subst (λ n. i < n) (sym (length-map lumps lump_of)) inside in
    wide (subst (λ (l : model.Lump). unsigned_abs l.amount ≤ most_lump)
    (get_or-map (charged_lump amount pattern) (lumps_of lumps) i (lump_of d) (charged_lump amount pattern (lump_of d))
    records_inside
    ∙ ap (charged_lump amount pattern) (get_or-map lump_of lumps i d (lump_of d) inside))
    (all i (charged_lump amount pattern (lump_of d))
    (subst (λ n. i < n) (sym (length-map (lumps_of lumps) (charged_lump amount pattern))) records_inside)))
