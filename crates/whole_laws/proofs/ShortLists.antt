-- Lists of four and of six, as arrays are.
use Rattle.std.proofs.Common.{ℤ, pos, List, [], ◌∷◌, get_or, ◌≡◌, length, arith, refl, sym, ap}
use Rattle.std.specs.Int.{int_max, int_min}
use Rattle.whole_laws.specs.Whole.{greatest_whole, least_whole}

-- the six coefficients of an array
abbrev pub six_of : List ℤ → List ℤ
six_of p = get_or p 0 (pos 0) ∷ get_or p 1 (pos 0) ∷ get_or p 2 (pos 0) ∷ get_or p 3 (pos 0) ∷
    get_or p 4 (pos 0) ∷ get_or p 5 (pos 0) ∷ []

pub six_are_all : (p : List ℤ) → length p ≡ 6 → p ≡ six_of p
six_are_all [] h = absurd (omega arith)
six_are_all (a ∷ []) h = absurd (omega arith)
six_are_all (a ∷ b ∷ []) h = absurd (omega arith)
six_are_all (a ∷ b ∷ c ∷ []) h = absurd (omega arith)
six_are_all (a ∷ b ∷ c ∷ d ∷ []) h = absurd (omega arith)
six_are_all (a ∷ b ∷ c ∷ d ∷ e ∷ []) h = absurd (omega arith)
six_are_all (a ∷ b ∷ c ∷ d ∷ e ∷ f ∷ []) h = refl
six_are_all (a ∷ b ∷ c ∷ d ∷ e ∷ f ∷ g ∷ p) h = absurd (omega arith)

-- six numbers that are the six of an array are the array
pub given_six : (p : List ℤ) (a b c d e f : ℤ) → length p ≡ 6 → a ≡ get_or p 0 (pos 0) → b ≡ get_or p 1 (pos 0)
    → c ≡ get_or p 2 (pos 0) → d ≡ get_or p 3 (pos 0) → e ≡ get_or p 4 (pos 0) → f ≡ get_or p 5 (pos 0)
    → a ∷ b ∷ c ∷ d ∷ e ∷ f ∷ [] ≡ p
given_six p a b c d e f h ha hb hc hd he hf = rw (ha, hb, hc, hd, he, hf) (sym (six_are_all p h))

-- the four coefficients of an array
abbrev pub four_of : List ℤ → List ℤ
four_of p = get_or p 0 (pos 0) ∷ get_or p 1 (pos 0) ∷ get_or p 2 (pos 0) ∷ get_or p 3 (pos 0) ∷ []

pub four_are_all : (p : List ℤ) → length p ≡ 4 → p ≡ four_of p
four_are_all [] h = absurd (omega arith)
four_are_all (a ∷ []) h = absurd (omega arith)
four_are_all (a ∷ b ∷ []) h = absurd (omega arith)
four_are_all (a ∷ b ∷ c ∷ []) h = absurd (omega arith)
four_are_all (a ∷ b ∷ c ∷ d ∷ []) h = refl
four_are_all (a ∷ b ∷ c ∷ d ∷ e ∷ p) h = absurd (omega arith)

-- the greatest of six, pair by pair from the last
pub greatest_of_six : (p : List ℤ) (m1 m2 m3 m4 m5 : ℤ) → length p ≡ 6
    → m1 ≡ int_max (get_or p 4 (pos 0)) (get_or p 5 (pos 0)) → m2 ≡ int_max (get_or p 3 (pos 0)) m1
    → m3 ≡ int_max (get_or p 2 (pos 0)) m2 → m4 ≡ int_max (get_or p 1 (pos 0)) m3
    → m5 ≡ int_max (get_or p 0 (pos 0)) m4 → m5 ≡ greatest_whole p
greatest_of_six p m1 m2 m3 m4 m5 six h1 h2 h3 h4 h5 =
    rw (h5, h4, h3, h2, h1) (ap greatest_whole (sym (six_are_all p six)))

-- and the least
pub least_of_six : (p : List ℤ) (m1 m2 m3 m4 m5 : ℤ) → length p ≡ 6
    → m1 ≡ int_min (get_or p 4 (pos 0)) (get_or p 5 (pos 0)) → m2 ≡ int_min (get_or p 3 (pos 0)) m1
    → m3 ≡ int_min (get_or p 2 (pos 0)) m2 → m4 ≡ int_min (get_or p 1 (pos 0)) m3
    → m5 ≡ int_min (get_or p 0 (pos 0)) m4 → m5 ≡ least_whole p
least_of_six p m1 m2 m3 m4 m5 six h1 h2 h3 h4 h5 =
    rw (h5, h4, h3, h2, h1) (ap least_whole (sym (six_are_all p six)))
