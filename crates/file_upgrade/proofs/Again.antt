-- What is read from data that were made of values: the values again.
use Rattle.std.proofs.Common.{◌≡◌, ℕ, List, [], ◌∷◌, length, map, arith, refl, ap, ◌∙◌}
use Rattle.std.specs.Prelude.{ℤ, codes, true, All, unwrap_or}
use Rattle.std.proofs.lemmas.List.Elements.{All-head, All-tail}
use Rattle.toml.specs.Data.{Data, string, as_str}
use Rattle.toml.specs.View as toml
use Rattle.product_file.specs.Members.{listed, members_of}
use Rattle.product_file.specs.CurveRules.{piece_of, is_piece, coefficients_of}
use Rattle.file_upgrade.specs.FileTree.{part_data}

-- the items of an array
pub listed_again : (items : List Data) → listed (toml.items_of items) ≡ items
listed_again [] = refl
listed_again (d ∷ items) = ap (λ ds. d ∷ ds) (listed_again items)

-- strings
pub texts_again : (texts : List (List ℕ)) → map (λ d. unwrap_or (as_str d) []) (map string texts) ≡ texts
texts_again [] = refl
texts_again (text ∷ texts) = ap (λ ts. text ∷ ts) (texts_again texts)

-- values that are each read again
pub all_again : {A B : Type 0} (read : B → A) (write : A → B) (xs : List A)
    → All (λ x. read (write x) ≡ x) xs → map read (map write xs) ≡ xs
all_again read write [] h = refl
all_again read write (x ∷ xs) h =
    ap (λ y. y ∷ map read (map write xs)) (All-head (λ x. read (write x) ≡ x) x xs h)
    ∙ ap (λ ys. x ∷ ys) (all_again read write xs (All-tail (λ x. read (write x) ≡ x) x xs h))

-- six coefficients
pub six_again : (from : ℕ) (c : List ℤ) → length c ≡ 6 → piece_of (part_data from c) ≡ record { from = from; c = c }
six_again from (a ∷ b ∷ c ∷ d ∷ e ∷ f ∷ []) six = refl
six_again from [] six = absurd (omega (arith, six))
six_again from (a ∷ []) six = absurd (omega (arith, six))
six_again from (a ∷ b ∷ []) six = absurd (omega (arith, six))
six_again from (a ∷ b ∷ c ∷ []) six = absurd (omega (arith, six))
six_again from (a ∷ b ∷ c ∷ d ∷ []) six = absurd (omega (arith, six))
six_again from (a ∷ b ∷ c ∷ d ∷ e ∷ []) six = absurd (omega (arith, six))
six_again from (a ∷ b ∷ c ∷ d ∷ e ∷ f ∷ g ∷ more) six = absurd (omega (arith, six))

-- they make a piece
pub six_make_a_piece : (from : ℕ) (c : List ℤ) → length c ≡ 6 → is_piece 6 (part_data from c) ≡ true
six_make_a_piece from (a ∷ b ∷ c ∷ d ∷ e ∷ f ∷ []) six = refl
six_make_a_piece from [] six = absurd (omega (arith, six))
six_make_a_piece from (a ∷ []) six = absurd (omega (arith, six))
six_make_a_piece from (a ∷ b ∷ []) six = absurd (omega (arith, six))
six_make_a_piece from (a ∷ b ∷ c ∷ []) six = absurd (omega (arith, six))
six_make_a_piece from (a ∷ b ∷ c ∷ d ∷ []) six = absurd (omega (arith, six))
six_make_a_piece from (a ∷ b ∷ c ∷ d ∷ e ∷ []) six = absurd (omega (arith, six))
six_make_a_piece from (a ∷ b ∷ c ∷ d ∷ e ∷ f ∷ g ∷ more) six = absurd (omega (arith, six))

-- four coefficients
pub four_again : (from : ℕ) (c : List ℤ) → length c ≡ 4
    → coefficients_of 4 (codes "c") (members_of (part_data from c)) ≡ c
four_again from (a ∷ b ∷ c ∷ d ∷ []) four = refl
four_again from [] four = absurd (omega (arith, four))
four_again from (a ∷ []) four = absurd (omega (arith, four))
four_again from (a ∷ b ∷ []) four = absurd (omega (arith, four))
four_again from (a ∷ b ∷ c ∷ []) four = absurd (omega (arith, four))
four_again from (a ∷ b ∷ c ∷ d ∷ e ∷ more) four = absurd (omega (arith, four))

-- they make a step
pub four_make_a_step : (from : ℕ) (c : List ℤ) → length c ≡ 4 → is_piece 4 (part_data from c) ≡ true
four_make_a_step from (a ∷ b ∷ c ∷ d ∷ []) four = refl
four_make_a_step from [] four = absurd (omega (arith, four))
four_make_a_step from (a ∷ []) four = absurd (omega (arith, four))
four_make_a_step from (a ∷ b ∷ []) four = absurd (omega (arith, four))
four_make_a_step from (a ∷ b ∷ c ∷ []) four = absurd (omega (arith, four))
four_make_a_step from (a ∷ b ∷ c ∷ d ∷ e ∷ more) four = absurd (omega (arith, four))
