-- A block written into a strip.
use Rattle.std.proofs.Common.{◌≡◌, ℕ, suc, zero, ◌+◌, ◌<◌, ◌≤◌, length, get_or, set, map, List, [], ◌∷◌, ◌++◌}
use Rattle.std.proofs.Common.{take, drop, ℤ, pos, refl, ap, arith, add-one}
use Rattle.std.proofs.Math.ListN.{length-map, length-take}
use Rattle.std.proofs.lemmas.List.{take_more, map-append}
use Rattle.taylor_step.specs.Strips.{put_at, zeros, over_front}

length-over_front : (s b : List ℤ) → length (over_front s b) ≡ length s
length-over_front s [] = refl
length-over_front [] (y ∷ b) = refl
length-over_front (x ∷ s) (y ∷ b) = ap suc (length-over_front s b)

pub length-put_at : (s : List ℤ) (at : ℕ) (b : List ℤ) → length (put_at s at b) ≡ length s
length-put_at s zero b = length-over_front s b
length-put_at [] (suc at) b = refl
length-put_at (x ∷ s) (suc at) b = ap suc (length-put_at s at b)

set-over_front : (s b : List ℤ) (x : ℤ) → length b < length s
    → set (over_front s b) (length b) x ≡ over_front s (b ++ x ∷ [])
set-over_front [] b x h = absurd (omega arith)
set-over_front (y ∷ s) [] x h = over_none s
  where
    over_none : (s : List ℤ) → x ∷ s ≡ x ∷ over_front s []
    over_none s = refl
set-over_front (y ∷ s) (z ∷ b) x h = ap (λ l. z ∷ l) (set-over_front s b x (omega arith))

pub set-put_at : (s : List ℤ) (at : ℕ) (b : List ℤ) (x : ℤ) (i : ℕ) → i ≡ at + length b → i < length s
    → set (put_at s at b) i x ≡ put_at s at (b ++ x ∷ [])
set-put_at s zero b x i e h = let k : i ≡ length b = omega arith in rw k (set-over_front s b x (omega arith))
set-put_at [] (suc at) b x i e h = absurd (omega arith)
set-put_at (y ∷ s) (suc at) b x zero e h = absurd (omega arith)
set-put_at (y ∷ s) (suc at) b x (suc i) e h = ap (λ l. y ∷ l)
    (set-put_at s at b x i (omega arith) (omega arith))

over_front-is : (s b : List ℤ) → length b ≤ length s → over_front s b ≡ b ++ drop (length b) s
over_front-is s [] h = refl
over_front-is [] (y ∷ b) h = absurd (omega arith)
over_front-is (x ∷ s) (y ∷ b) h = ap (λ l. y ∷ l) (over_front-is s b (omega arith))

pub drop-put_at : (s : List ℤ) (at : ℕ) (b : List ℤ) (n : ℕ) → n ≡ at + length b → n ≤ length s
    → drop at (put_at s at b) ≡ b ++ drop n s
drop-put_at s zero b n e h = let k : n ≡ length b = omega arith in rw k (over_front-is s b (omega arith))
drop-put_at [] (suc at) b n e h = absurd (omega arith)
drop-put_at (y ∷ s) (suc at) b zero e h = absurd (omega arith)
drop-put_at (y ∷ s) (suc at) b (suc n) e h = drop-put_at s at b n (omega arith) (omega arith)

pub put_at-nothing : (s : List ℤ) (at : ℕ) → put_at s at [] ≡ s
put_at-nothing s zero = nothing_over s
  where
    nothing_over : (s : List ℤ) → over_front s [] ≡ s
    nothing_over s = refl
put_at-nothing [] (suc at) = refl
put_at-nothing (x ∷ s) (suc at) = ap (λ l. x ∷ l) (put_at-nothing s at)

pub one_more_put : (cs : List ℕ) (f : ℕ → ℤ) (p at : ℕ) (s t : List ℤ) → p < length cs
    → at + length cs ≤ length s → t ≡ put_at s at (map f (take p cs))
    → set t (at + p) (f (get_or cs p 0)) ≡ put_at s at (map f (take (p + 1) cs))
one_more_put cs f p at s t h k e = let n : length (map f (take p cs)) ≡ p =
    simp (length-map, length-take) (omega arith) in
    rw (
      e,
      set-put_at s at (map f (take p cs)) (f (get_or cs p 0)) (at + p) (omega arith) (omega arith),
      take_more cs p 0 h,
      map-append,
    ) refl

pub zeros-length : (n : ℕ) → length (zeros n) ≡ n
zeros-length zero = refl
zeros-length (suc n) = ap suc (zeros-length n)

zeros-more : (n : ℕ) → zeros n ++ pos 0 ∷ [] ≡ zeros (suc n)
zeros-more zero = refl
zeros-more (suc n) = ap (λ l. pos 0 ∷ l) (zeros-more n)

pub one_more_zero : (s t : List ℤ) (at p : ℕ) → at + p < length s → t ≡ put_at s at (zeros p)
    → set t (at + p) (pos 0) ≡ put_at s at (zeros (p + 1))
one_more_zero s t at p h e = rw (e, add-one, ← zeros-more p)
    (set-put_at s at (zeros p) (pos 0) (at + p) (omega (arith, zeros-length p)) h)
