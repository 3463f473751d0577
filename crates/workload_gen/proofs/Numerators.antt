-- The Bernstein numerators of payments that are constant, and of cubic curves within the first year of a piece.
use Rattle.std.proofs.Common.{◌≡◌, ℕ, ◌+◌, ◌*◌, ◌^◌, ◌<◌, ◌≤◌, List, [], ◌∷◌, arith, ap, refl}
use Rattle.std.specs.Prelude.{ℤ, pos, ◌≤ℤ◌, All}
use Rattle.std.proofs.Math.Nat.{pow-zero, pow-le-pow_left}
use Rattle.std.proofs.lemmas.Int.{ints}
use Rattle.std.proofs.lemmas.Nat.{mul-le}
use Rattle.std.proofs.lemmas.List.Elements.{All-nil, All-cons}
use Rattle.model_specs.specs.MonthNumbers.{bernstein_numerator, bernstein_numerators}
use Rattle.ledger_laws.proofs.Loads.{six_alike}

-- six numbers that are the same
abbrev pub sixfold : ℤ → List ℤ
sixfold z = z ∷ z ∷ z ∷ z ∷ z ∷ z ∷ []

-- a constant payment, and a constant curve
abbrev pub payment : ℕ → List ℤ
payment a = pos a ∷ pos 0 ∷ pos 0 ∷ pos 0 ∷ []

pub payment_numerators : (a k : ℕ) → bernstein_numerators (payment a) k ≡ sixfold (pos (2488320 * a))
payment_numerators a k = six_alike (bernstein_numerator (payment a) k) (pos (2488320 * a))
    (rw (pow-zero k) (ap (λ n. pos n) (omega arith)))
    (rw (pow-zero k) (ap (λ n. pos n) (omega arith)))
    (rw (pow-zero k) (ap (λ n. pos n) (omega arith)))
    (rw (pow-zero k) (ap (λ n. pos n) (omega arith)))
    (rw (pow-zero k) (ap (λ n. pos n) (omega arith)))
    (rw (pow-zero k) (ap (λ n. pos n) (omega arith)))

abbrev pub constant : ℕ → List ℤ
constant a = pos a ∷ pos 0 ∷ pos 0 ∷ pos 0 ∷ pos 0 ∷ pos 0 ∷ []

-- a cubic curve with coefficients that are not negative
abbrev pub cubic : (a b c d : ℕ) → List ℤ
cubic a b c d = pos a ∷ pos b ∷ pos c ∷ pos d ∷ pos 0 ∷ pos 0 ∷ []

-- a number from 0 to a limit
abbrev pub IsUpTo : ℕ → ℤ → Type 0
IsUpTo most z = (pos 0 ≤ℤ z) × (z ≤ℤ pos most)

-- a number that is not negative, up to a limit
up_to : (n most : ℕ) → n ≤ most → IsUpTo most (pos n)
up_to n most h = (omega (arith, ints), omega (arith, ints))

-- what six numbers have
six_have : (P : ℤ → Type 0) (u v w x y z : ℤ) → P u → P v → P w → P x → P y → P z
    → All P (u ∷ v ∷ w ∷ x ∷ y ∷ z ∷ [])
six_have P u v w x y z pu pv pw px py pz =
    All-cons P u (v ∷ w ∷ x ∷ y ∷ z ∷ []) pu (All-cons P v (w ∷ x ∷ y ∷ z ∷ []) pv
    (All-cons P w (x ∷ y ∷ z ∷ []) pw (All-cons P x (y ∷ z ∷ []) px (All-cons P y (z ∷ []) py
    (All-cons P z [] pz (All-nil P))))))

-- within the first year of a piece each numerator is at most what the curve comes to at the year's end
module _ (a b c d k : ℕ) (below : k < 12) where
  part : (w i v p x : ℕ) → 11 ^ i ≡ p → w * k ^ i * v * x ≤ w * p * v * x
  part w i v p x is =
      let small : k ≤ 11 = omega arith in
      let power : k ^ i ≤ p = omega (arith, pow-le-pow_left small i, is) in
      mul-le (w * k ^ i * v) x (w * p * v) x
      (mul-le (w * k ^ i) v (w * p) v (mul-le w (k ^ i) w p (omega arith) power) (omega arith)) (omega arith)

  numerator_0 : IsUpTo (2488320 * (a + b + c + d)) (bernstein_numerator (cubic a b c d) k 0)
  numerator_0 = rw (pow-zero k) (up_to _ (2488320 * (a + b + c + d))
      (omega (arith, part 1 1 20736 11 b refl, part 1 2 1728 121 c refl, part 1 3 144 1331 d refl)))

  numerator_1 : IsUpTo (2488320 * (a + b + c + d)) (bernstein_numerator (cubic a b c d) k 1)
  numerator_1 = rw (pow-zero k) (up_to _ (2488320 * (a + b + c + d))
      (omega (
        arith,
        part 1 1 20736 11 b refl,
        part 1 2 1728 121 c refl,
        part 1 3 144 1331 d refl,
        part 2 1 1728 11 c refl,
        part 3 2 144 121 d refl,
      )))

  numerator_2 : IsUpTo (2488320 * (a + b + c + d)) (bernstein_numerator (cubic a b c d) k 2)
  numerator_2 = rw (pow-zero k) (up_to _ (2488320 * (a + b + c + d))
      (omega (
        arith,
        part 1 1 20736 11 b refl,
        part 1 2 1728 121 c refl,
        part 1 3 144 1331 d refl,
        part 2 1 1728 11 c refl,
        part 3 2 144 121 d refl,
        part 3 1 144 11 d refl,
      )))

  numerator_3 : IsUpTo (2488320 * (a + b + c + d)) (bernstein_numerator (cubic a b c d) k 3)
  numerator_3 = rw (pow-zero k) (up_to _ (2488320 * (a + b + c + d))
      (omega (
        arith,
        part 1 1 20736 11 b refl,
        part 1 2 1728 121 c refl,
        part 1 3 144 1331 d refl,
        part 2 1 1728 11 c refl,
        part 3 2 144 121 d refl,
        part 3 1 144 11 d refl,
      )))

  numerator_4 : IsUpTo (2488320 * (a + b + c + d)) (bernstein_numerator (cubic a b c d) k 4)
  numerator_4 = rw (pow-zero k) (up_to _ (2488320 * (a + b + c + d))
      (omega (
        arith,
        part 1 1 20736 11 b refl,
        part 1 2 1728 121 c refl,
        part 1 3 144 1331 d refl,
        part 2 1 1728 11 c refl,
        part 3 2 144 121 d refl,
        part 3 1 144 11 d refl,
      )))

  numerator_5 : IsUpTo (2488320 * (a + b + c + d)) (bernstein_numerator (cubic a b c d) k 5)
  numerator_5 = rw (pow-zero k) (up_to _ (2488320 * (a + b + c + d))
      (omega (
        arith,
        part 1 1 20736 11 b refl,
        part 1 2 1728 121 c refl,
        part 1 3 144 1331 d refl,
        part 2 1 1728 11 c refl,
        part 3 2 144 121 d refl,
        part 3 1 144 11 d refl,
      )))

  pub cubic_numerators : All (IsUpTo (2488320 * (a + b + c + d))) (bernstein_numerators (cubic a b c d) k)
  cubic_numerators = six_have (IsUpTo (2488320 * (a + b + c + d))) _ _ _ _ _ _ numerator_0 numerator_1 numerator_2
      numerator_3 numerator_4 numerator_5
