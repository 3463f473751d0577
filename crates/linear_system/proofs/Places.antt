-- Where the numbers of a row stand.
use Rattle.std.proofs.Common.{◌≡◌, ℕ, suc, zero, ◌+◌, ◌*◌, ◌<◌, length, get_or, List, [], ◌∷◌, refl, ap}
use Rattle.std.proofs.Common.{arith}
use Rattle.std.proofs.Common.{Bool, true, false, pos}
use Rattle.std.specs.Prelude.{nat_eq, cond, replicate}
use Rattle.linear_system.specs.StoredSystem.{place_of}

-- two columns with one place are one column
pub one_column : (cs : List ℕ) (i j : ℕ) → place_of cs i < length cs → place_of cs i ≡ place_of cs j → i ≡ j
one_column [] i j h e = absurd (omega arith)
one_column (c ∷ cs) i j h e =
    by_test (nat_eq c i) (nat_eq c j) refl refl (one_column cs i j) h e
  where
    by_test : (a b : Bool) → a ≡ nat_eq c i → b ≡ nat_eq c j
        → (place_of cs i < length cs → place_of cs i ≡ place_of cs j → i ≡ j)
        → cond a 0 (suc (place_of cs i)) < suc (length cs)
        → cond a 0 (suc (place_of cs i)) ≡ cond b 0 (suc (place_of cs j)) → i ≡ j
    by_test true true ea eb g h e = grind arith
    by_test true false ea eb g h e = absurd (omega arith)
    by_test false true ea eb g h e = absurd (omega arith)
    by_test false false ea eb g h e = g (omega arith) (omega arith)

-- a place and a power tell where a number stands, and the other way round
pub one_power : (m n p q w : ℕ) → p < w → q < w → m * w + p ≡ n * w + q → (m ≡ n) × (p ≡ q)
one_power zero zero p q w hp hq e = (refl, omega (arith, e))
one_power zero (suc n) p q w hp hq e = absurd (let k : suc n * w ≡ n * w + w =
    grind arith in omega (arith, e, k))
one_power (suc m) zero p q w hp hq e = absurd (let k : suc m * w ≡ m * w + w =
    grind arith in omega (arith, e, k))
one_power (suc m) (suc n) p q w hp hq e =
    let k : suc m * w ≡ m * w + w = grind arith in
    let l : suc n * w ≡ n * w + w = grind arith in
    let r = one_power m n p q w hp hq (omega (arith, e, k, l)) in
    (ap suc r.0, r.1)

pub zero_at : (n k : ℕ) → get_or (replicate n (pos 0)) k (pos 0) ≡ pos 0
zero_at zero k = refl
zero_at (suc n) zero = refl
zero_at (suc n) (suc k) = zero_at n k
