-- The lumps of the dates that a plan keeps.
use Rattle.std.proofs.Common.{◌≡◌, ℕ, zero, suc, ◌<◌, ◌≤◌, ℤ, List, [], ◌∷◌, length, get_or, arith, refl, ap, sym, ◌∙◌}
use Rattle.std.specs.Prelude.{All, Vec, map}
use Rattle.std.specs.declared.alloc.Global.{Global}
use Rattle.std.proofs.lemmas.List.Elements.{All-nil, All-cons, All-head, All-tail}
use Rattle.whole_laws.specs.Whole.{list_of}
use Rattle.whole_laws.proofs.ListsByPlace.{at-list_of, length-list_of}
use Rattle.model_specs.specs.Payments.{lumps_at}
use Rattle.payment_plan.specs.Payments.{Payments, benefits_of}
use Rattle.payment_plan.specs.Tables.{KeepsTables, lists_of}

-- what holds of all that a function makes of a list
pub All-made : {A B : Type 0} (P : B → Type 0) (f : A → B) (xs : List A) → All P (map f xs) → All (λ x. P (f x)) xs
All-made P f [] h = All-nil (λ x. P (f x))
All-made P f (x ∷ xs) h =
    All-cons (λ y. P (f y)) x xs (All-head P (f x) (map f xs) h) (All-made P f xs (All-tail P (f x) (map f xs) h))

pub length-lists : (rows : List (Vec (ℕ × ℤ) Global)) → length (lists_of rows) ≡ length rows
length-lists [] = refl
length-lists (r ∷ rows) = ap suc (length-lists rows)

list-at : (rows : List (Vec (ℕ × ℤ) Global)) (i : ℕ) (v : Vec (ℕ × ℤ) Global) → i < length rows
    → get_or (lists_of rows) i [] ≡ (get_or rows i v).items
list-at [] i v inside = absurd (omega arith)
list-at (r ∷ rows) zero v inside = refl
list-at (r ∷ rows) (suc i) v inside = list-at rows i v (omega arith)

-- there is a list for each date
dates_long : (rows : List (Vec (ℕ × ℤ) Global)) (n : ℕ) (f : ℕ → List (ℕ × ℤ)) → lists_of rows ≡ list_of n f
    → length rows ≡ n
dates_long rows n f h = sym (length-lists rows) ∙ ap length h ∙ length-list_of n f

date_is : (rows : List (Vec (ℕ × ℤ) Global)) (n : ℕ) (f : ℕ → List (ℕ × ℤ)) (date : ℕ) (v : Vec (ℕ × ℤ) Global)
    → lists_of rows ≡ list_of n f → date < n → v ≡ get_or rows date v → v.items ≡ f date
date_is rows n f date v h below is =
    ap (λ r. r.items) is
    ∙ sym (list-at rows date v (omega (arith, dates_long rows n f h)))
    ∙ ap (λ ls. get_or ls date []) h
    ∙ at-list_of n f date [] below

pub kept_dates : (p : Payments) (rows : List (Vec (ℕ × ℤ) Global)) (payers : List (ℕ × ℤ))
    → KeepsTables p (lists_of rows) payers → length rows ≡ suc p.months
kept_dates p rows payers kept = dates_long rows (suc p.months) (lumps_at p.states (benefits_of p)) kept.dates_are

pub kept_date : (p : Payments) (rows : List (Vec (ℕ × ℤ) Global)) (payers : List (ℕ × ℤ)) (date : ℕ)
    (v : Vec (ℕ × ℤ) Global) → KeepsTables p (lists_of rows) payers → date ≤ p.months → v ≡ get_or rows date v
    → v.items ≡ lumps_at p.states (benefits_of p) date
kept_date p rows payers date v kept within is =
    date_is rows (suc p.months) (lumps_at p.states (benefits_of p)) date v kept.dates_are (omega arith) is
