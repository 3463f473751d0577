-- Arrays that loops make of the members of lists, one after the other.
use Rattle.std.proofs.Common.{◌≡◌, ℕ, ◌+◌, ◌<◌, List, [], ◌∷◌, ◌++◌, length, map, take, get_or, ap, sym, ◌∙◌, subst}
use Rattle.std.specs.Prelude.{Vec, All}
use Rattle.std.specs.declared.alloc.Global.{Global}
use Rattle.std.proofs.lemmas.List.{get_or-map, length-map}
use Rattle.toml.specs.Data.{Data}
use Rattle.toml.specs.View.{view}
use Rattle.toml.specs.declared.value.Value.{Value}
use Rattle.model_specs.specs.Product.{Product}
use Rattle.model_specs.specs.RecordRules.{IsWellFormed}
use Rattle.payment_plan.specs.declared.lump.Lump.{Lump}
use Rattle.payment_plan.specs.declared.step.StepAmount.{StepAmount}
use Rattle.payment_plan.specs.Records.{sojourn_of, sojourns_of, lump_of, lumps_of}
use Rattle.product_reader.proofs.Grown.{one_more_of}

-- one more value, made of the next member of a list of records
pub record_more : {A B : Type 0} (record_of : A → B) (data_of : B → Data) (xs : List A) (i : ℕ) (d : A)
    (values : List Value) (value : Value) → i < length xs
    → map view values ≡ map data_of (take i (map record_of xs)) → view value ≡ data_of (record_of (get_or xs i d))
    → map view (values ++ value ∷ []) ≡ map data_of (take (i + 1) (map record_of xs))
record_more record_of data_of xs i d values value below so_far next =
    one_more_of view data_of (map record_of xs) i (record_of d) values value so_far
    (next ∙ ap data_of (sym (get_or-map record_of xs i d (record_of d) below)))
    (subst (λ n. i < n) (sym (length-map xs record_of)) below)

-- what holds of all records holds of the record of a member
record_has : {A B : Type 0} (record_of : A → B) (P : B → Type 0) (records : List B) (xs : List A) (i : ℕ) (d : A)
    → map record_of xs ≡ records → All P records → i < length xs → P (record_of (get_or xs i d))
record_has record_of P records xs i d same all below =
    subst P (get_or-map record_of xs i d (record_of d) below)
    (subst (All P) (sym same) all i (record_of d) (subst (λ n. i < n) (sym (length-map xs record_of)) below))

pub sojourn_inside : (p : Product) → IsWellFormed p → (xs : List (ℕ × Vec StepAmount Global)) (i : ℕ)
    (d : ℕ × Vec StepAmount Global) → sojourns_of xs ≡ p.sojourns → i < length xs
    → (get_or xs i d).0 < length p.states
sojourn_inside p formed xs i d same below =
    record_has sojourn_of (λ s. s.state < length p.states) p.sojourns xs i d same formed.payments.states below

pub lump_inside : (p : Product) → IsWellFormed p → (xs : List Lump) (i : ℕ) (d : Lump) → lumps_of xs ≡ p.lumps
    → i < length xs → (get_or xs i d).state < length p.states
lump_inside p formed xs i d same below =
    record_has lump_of (λ l. l.state < length p.states) p.lumps xs i d same formed.lumps.states below
