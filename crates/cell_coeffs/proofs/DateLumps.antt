-- The lumps of a date, and the lump of a state at that date.
use Rattle.std.specs.Prelude.{◌≡◌, ℕ, zero, suc, pos, ◌+◌, ◌-◌, ◌^◌, ◌<◌, ◌≤◌, ℤ, ◌+ℤ◌, ◌*ℤ◌, ◌==◌, ◌&&◌}
use Rattle.std.specs.Prelude.{Bool, true, false, cond, nat_eq, Option, Some, None, option_map, unwrap_or, find}
use Rattle.std.specs.Prelude.{filter_map, All, List, [], ◌∷◌, length, slice_index_or, unsigned_abs, map}
use Rattle.std.specs.List.{cons_option}
use Rattle.std.proofs.Common.{refl, ap, sym, ◌∙◌, arith, inl, inr}
use mathlib.Core.Path.{ap₂}
use Rattle.std.proofs.Math.IntN.{+ℤ_assoc, +ℤ_idr, +ℤ_idl, zero-*ℤ}
use Rattle.std.proofs.lemmas.Bool.Decides.{eqb_tells}
use Rattle.std.proofs.lemmas.List.{length-map}
use Rattle.std.proofs.Math.ListN.{get_or-map}
use Rattle.whole_laws.specs.Whole.{list_of, places, greatest_natural}
use Rattle.model_specs.specs.Product.{Lump}
use Rattle.model_specs.specs.Payments.{Plan, lump_at, lumps_at}
use Rattle.std.proofs.lemmas.List.Elements.{All-nil, All-cons}
use Rattle.whole_laws.proofs.Extremes.{greatest_natural_least}
use Rattle.whole_laws.proofs.ListsByPlace.{length-list_of}
use Rattle.cell_coeffs.specs.Lumps.{lump_units, units_to}

-- the units of lumps, one after another
abbrev total : ℕ → List (ℕ × ℤ) → ℕ → ℤ
total g [] i = pos 0
total g (lump ∷ lumps) i = lump_units g lump i +ℤ total g lumps i

units-first : (g : ℕ) (lump : ℕ × ℤ) (lumps : List (ℕ × ℤ)) (i k : ℕ)
    → units_to g (lump ∷ lumps) i (suc k) ≡ lump_units g lump i +ℤ units_to g lumps i k
units-first g lump lumps i zero =
    +ℤ_idl (lump_units g lump i) ∙ sym (+ℤ_idr (lump_units g lump i))
units-first g lump lumps i (suc k) =
    ap (λ (z : ℤ). z +ℤ lump_units g (slice_index_or lumps k (0, pos 0)) i) (units-first g lump lumps i k)
    ∙ +ℤ_assoc (lump_units g lump i) (units_to g lumps i k) (lump_units g (slice_index_or lumps k (0, pos 0)) i)

units-total : (g : ℕ) (lumps : List (ℕ × ℤ)) (i : ℕ) → units_to g lumps i (length lumps) ≡ total g lumps i
units-total g [] i = refl
units-total g (lump ∷ lumps) i =
    units-first g lump lumps i (length lumps) ∙ ap (λ (z : ℤ). lump_units g lump i +ℤ z) (units-total g lumps i)

-- the amount of what is found
abbrev amount_of : Option Lump → ℤ
amount_of found = unwrap_or (option_map (λ l. l.amount) found) (pos 0)

module _ (found : ℕ → Option Lump) (i : ℕ) where
  -- what stands in the list of a state
  abbrev given : ℕ → Option (ℕ × ℤ)
  given x = option_map (λ l. (x, l.amount)) (found x)

  module _ (g : ℕ) where
    one_other : (x : ℕ) (o : Option Lump) (ls : List (ℕ × ℤ)) → nat_eq x i ≡ false
        → total g (cons_option (option_map (λ l. (x, l.amount)) o) ls) i ≡ total g ls i
    one_other x None ls other = refl
    one_other x (Some l) ls other =
        ap (λ (t : Bool). cond t (l.amount *ℤ pos (2 ^ (64 - g))) (pos 0) +ℤ total g ls i) other
        ∙ +ℤ_idl (total g ls i)

    one_same : (x : ℕ) (o : Option Lump) (ls : List (ℕ × ℤ)) → nat_eq x i ≡ true → total g ls i ≡ pos 0
        → total g (cons_option (option_map (λ l. (x, l.amount)) o) ls) i ≡ amount_of o *ℤ pos (2 ^ (64 - g))
    one_same x None ls same none = none ∙ sym (zero-*ℤ (pos (2 ^ (64 - g))))
    one_same x (Some l) ls same none =
        ap₂ (λ (t : Bool) (z : ℤ). cond t (l.amount *ℤ pos (2 ^ (64 - g))) (pos 0) +ℤ z) same none
        ∙ +ℤ_idr (l.amount *ℤ pos (2 ^ (64 - g)))

  find_other : (x : ℕ) (o : Option Lump) (ls : List (ℕ × ℤ)) → (x == i) ≡ false
      → find (λ lump. lump.0 == i) (cons_option (option_map (λ l. (x, l.amount)) o) ls)
      ≡ find (λ lump. lump.0 == i) ls
  find_other x None ls other = refl
  find_other x (Some l) ls other =
      ap (λ (t : Bool). cond t (Some (x, l.amount)) (find (λ lump. lump.0 == i) ls)) other

  find_same : (x : ℕ) (o : Option Lump) (ls : List (ℕ × ℤ)) → (x == i) ≡ true
      → find (λ lump. lump.0 == i) ls ≡ None
      → find (λ lump. lump.0 == i) (cons_option (option_map (λ l. (x, l.amount)) o) ls)
      ≡ option_map (λ l. (x, l.amount)) o
  find_same x None ls same none = none
  find_same x (Some l) ls same none =
      ap (λ (t : Bool). cond t (Some (x, l.amount)) (find (λ lump. lump.0 == i) ls)) same

  differs : (x : ℕ) → i < x → (x == i) ≡ false
  differs x above = grind (arith, above)

  agrees : (x : ℕ) → x ≡ i → (x == i) ≡ true
  agrees x same = grind (arith, same)

  -- states above this one
  module _ (g : ℕ) where
    total_above : (n base : ℕ) (e : ℕ → ℕ) → ((k : ℕ) → e k ≡ base + k) → i < base
        → total g (filter_map given (list_of n e)) i ≡ pos 0
    total_above zero base e are above = refl
    total_above (suc n) base e are above =
        one_other g (e 0) (found (e 0)) (filter_map given (list_of n (λ k. e (suc k))))
        (differs (e 0) (omega (arith, are 0, above)))
        ∙ total_above n (suc base) (λ k. e (suc k)) (λ k. omega (arith, are (suc k))) (omega (arith, above))

    total_found : (n base : ℕ) (e : ℕ → ℕ) → ((k : ℕ) → e k ≡ base + k) → base ≤ i → i < base + n
        → total g (filter_map given (list_of n e)) i ≡ amount_of (found i) *ℤ pos (2 ^ (64 - g))
    total_found zero base e are from below = absurd (omega (arith, from, below))
    total_found (suc n) base e are from below = elim (eqb_tells (e 0) i) [
      | inl same ↦ one_same g (e 0) (found (e 0)) (filter_map given (list_of n (λ k. e (suc k)))) same.0
          (total_above n (suc base) (λ k. e (suc k)) (λ k. omega (arith, are (suc k)))
          (omega (arith, are 0, same.1)))
          ∙ ap (λ k. amount_of (found k) *ℤ pos (2 ^ (64 - g))) same.1
      | inr other ↦ one_other g (e 0) (found (e 0)) (filter_map given (list_of n (λ k. e (suc k)))) other.0
          ∙ total_found n (suc base) (λ k. e (suc k)) (λ k. omega (arith, are (suc k)))
          (omega (arith, from, are 0, other.1)) (omega (arith, below))
    ]

  find_above : (n base : ℕ) (e : ℕ → ℕ) → ((k : ℕ) → e k ≡ base + k) → i < base
      → find (λ lump. lump.0 == i) (filter_map given (list_of n e)) ≡ None
  find_above zero base e are above = refl
  find_above (suc n) base e are above =
      find_other (e 0) (found (e 0)) (filter_map given (list_of n (λ k. e (suc k))))
      (differs (e 0) (omega (arith, are 0, above)))
      ∙ find_above n (suc base) (λ k. e (suc k)) (λ k. omega (arith, are (suc k))) (omega (arith, above))

  find_found : (n base : ℕ) (e : ℕ → ℕ) → ((k : ℕ) → e k ≡ base + k) → base ≤ i → i < base + n
      → find (λ lump. lump.0 == i) (filter_map given (list_of n e)) ≡ option_map (λ l. (i, l.amount)) (found i)
  find_found zero base e are from below = absurd (omega (arith, from, below))
  find_found (suc n) base e are from below = elim (eqb_tells (e 0) i) [
    | inl same ↦ find_same (e 0) (found (e 0)) (filter_map given (list_of n (λ k. e (suc k)))) same.0
        (find_above n (suc base) (λ k. e (suc k)) (λ k. omega (arith, are (suc k)))
        (omega (arith, are 0, same.1)))
        ∙ ap (λ k. option_map (λ l. (k, l.amount)) (found k)) same.1
    | inr other ↦ find_other (e 0) (found (e 0)) (filter_map given (list_of n (λ k. e (suc k)))) other.0
        ∙ find_found n (suc base) (λ k. e (suc k)) (λ k. omega (arith, are (suc k)))
        (omega (arith, from, are 0, other.1)) (omega (arith, below))
  ]

-- the lump of a date in a state
abbrev lump_found : Plan → ℕ → ℕ → Option Lump
lump_found plan date k = find (λ l. (l.month == date) && (l.state == k)) plan.lumps

-- each state's units are those of its lump
pub units-lump : (g states : ℕ) (plan : Plan) (date i : ℕ) → i < states
    → units_to g (lumps_at states plan date) i (length (lumps_at states plan date))
    ≡ lump_at plan date i *ℤ pos (2 ^ (64 - g))
units-lump g states plan date i b =
    units-total g (lumps_at states plan date) i
    ∙ total_found (lump_found plan date) i g states 0 (λ k. k) (λ k. omega arith) (omega arith) (omega (arith, b))

-- what is found of a state is its lump
pub lump-found : (states : ℕ) (plan : Plan) (date i : ℕ) → i < states
    → unwrap_or (option_map (λ (lump : ℕ × ℤ). lump.1) (find (λ lump. lump.0 == i) (lumps_at states plan date))) (pos 0)
    ≡ lump_at plan date i
lump-found states plan date i b =
    ap (λ (o : Option (ℕ × ℤ)). unwrap_or (option_map (λ (lump : ℕ × ℤ). lump.1) o) (pos 0))
    (find_found (lump_found plan date) i states 0 (λ k. k) (λ k. omega arith) (omega arith) (omega (arith, b)))
    ∙ read (lump_found plan date i)
  where
    read : (o : Option Lump) → unwrap_or (option_map (λ (lump : ℕ × ℤ). lump.1) (option_map (λ l. (i, l.amount)) o))
        (pos 0)
        ≡ amount_of o
    read None = refl
    read (Some l) = refl

-- there are no more lumps than states
few_given : (f : ℕ → Option (ℕ × ℤ)) (xs : List ℕ) → length (filter_map f xs) ≤ length xs
few_given f [] = omega arith
few_given f (x ∷ xs) = choose (f x) (few_given f xs)
  where
    choose : (o : Option (ℕ × ℤ)) → length (filter_map f xs) ≤ length xs
        → length (cons_option o (filter_map f xs)) ≤ suc (length xs)
    choose None few = omega (arith, few)
    choose (Some l) few = omega (arith, few)

pub few_lumps : (states : ℕ) (plan : Plan) (date : ℕ) → length (lumps_at states plan date) ≤ states
few_lumps states plan date =
    omega (arith, few_given (given (lump_found plan date) 0) (places states), length-list_of states (λ k. k))

-- each is of a state
of_states : (found : ℕ → Option Lump) (states n : ℕ) (e : ℕ → ℕ) → ((k : ℕ) → k < n → e k < states)
    → All (λ (lump : ℕ × ℤ). lump.0 < states)
    (filter_map (λ x. option_map (λ l. (x, l.amount)) (found x)) (list_of n e))
of_states found states zero e inside = All-nil (λ (lump : ℕ × ℤ). lump.0 < states)
of_states found states (suc n) e inside =
    choose (found (e 0)) _ (inside 0 (omega arith))
    (of_states found states n (λ k. e (suc k)) (λ k b. inside (suc k) (omega (arith, b))))
  where
    choose : (o : Option Lump) (ls : List (ℕ × ℤ)) → e 0 < states → All (λ (lump : ℕ × ℤ). lump.0 < states) ls
        → All (λ (lump : ℕ × ℤ). lump.0 < states) (cons_option (option_map (λ l. (e 0, l.amount)) o) ls)
    choose None ls b all = all
    choose (Some l) ls b all = All-cons (λ (lump : ℕ × ℤ). lump.0 < states) (e 0, l.amount) ls b all

pub lumps_of_states : (states : ℕ) (plan : Plan) (date : ℕ)
    → All (λ (lump : ℕ × ℤ). lump.0 < states) (lumps_at states plan date)
lumps_of_states states plan date = of_states (lump_found plan date) states states (λ k. k) (λ k b. b)

-- and at most the greatest one in size
pub lumps_most : (lumps : List (ℕ × ℤ)) (most : ℕ)
    → greatest_natural (map (λ (lump : ℕ × ℤ). unsigned_abs lump.1) lumps) ≤ most
    → All (λ (lump : ℕ × ℤ). unsigned_abs lump.1 ≤ most) lumps
lumps_most lumps most small k d b =
    let size : ℕ × ℤ → ℕ = λ lump. unsigned_abs lump.1 in
    let here = greatest_natural_least (map size lumps) k (size d) (rw (length-map lumps size) b) in
    omega (arith, small, rw (get_or-map size lumps k d) at here)
