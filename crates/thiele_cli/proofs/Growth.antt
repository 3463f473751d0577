-- How told bytes grow piece by piece.
use Rattle.std.proofs.Common.{◌≡◌, ℕ, zero, suc, ◌+◌, ◌-◌, ◌≤◌, List, [], ◌∷◌, take, drop, Option, refl}
use Rattle.std.proofs.Common.{ap, arith}
use Rattle.std.specs.Io.KnownBytes.{Appends}
use Rattle.io_ports.specs.Growth.{AppendsPrefix}
use Rattle.io_ports.proofs.Growth.{Appends-take-add}

-- a prefix of a prefix is one of the whole
pub take_of_take : (n m : ℕ) (xs : List ℕ) → (k : ℕ) × (take n (take m xs) ≡ take k xs)
take_of_take zero m xs = (0, refl)
take_of_take (suc n) zero xs = (0, refl)
take_of_take (suc n) (suc m) [] = (0, refl)
take_of_take (suc n) (suc m) (x ∷ xs) = let inner = take_of_take n m xs in (suc inner.0, ap (λ ys. x ∷ ys) inner.1)

-- the text up to a piece, and a prefix of the piece
pub grows_by_prefix : (a b c : Option (List ℕ)) (text : List ℕ) (at size : ℕ) → Appends a b (take at text)
    → AppendsPrefix b c (take size (drop at text)) → AppendsPrefix a c text
grows_by_prefix a b c text at size before part =
    let short = take_of_take part.0 size (drop at text) in
    (at + short.0, Appends-take-add a b c text at short.0 before (rw (← short.1) part.1))

-- the same, where the piece is from `at` to `end`
pub grows_to : (a b c : Option (List ℕ)) (text : List ℕ) (at end : ℕ) → at ≤ end
    → Appends a b (take at text) → Appends b c (take (end - at) (drop at text))
    → Appends a c (take end text)
grows_to a b c text at end le before piece =
    let there : at + (end - at) ≡ end = omega arith in
    rw there at (Appends-take-add a b c text at (end - at) before piece)
