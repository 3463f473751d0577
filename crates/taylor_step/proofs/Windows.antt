-- What a row's product reads, step after step.
use Rattle.std.proofs.Common.{◌≡◌, ℕ, suc, zero, ◌+◌, ◌*◌, ◌-◌, ◌<◌, ◌≤◌, length, map, List, [], ◌∷◌, ◌++◌}
use Rattle.std.proofs.Common.{take, drop, ℤ, pos, refl, ap, sym, ◌∙◌, arith}
use Rattle.std.proofs.Math.ListN.{length-map}
use Rattle.taylor_step.proofs.Blocks.{drop-put_at, zeros-length}
use Rattle.taylor_step.specs.Strips.{put_at, zeros}
use Rattle.taylor_step.specs.WholeRun.{strip, nothing, one_on}

take-front : (a r : List ℤ) (n m : ℕ) → n ≡ length a + m → take n (a ++ r) ≡ a ++ take m r
take-front [] r n m e = let k : n ≡ m = omega arith in rw k refl
take-front (x ∷ a) r zero m e = absurd (omega arith)
take-front (x ∷ a) r (suc n) m e = ap (λ l. x ∷ l) (take-front a r n m (omega arith))

take-nothing : (r : List ℤ) → take 0 r ≡ []
take-nothing r = refl

take-take : (r : List ℤ) (n m : ℕ) → n ≤ m → take n (take m r) ≡ take n r
take-take r zero m h = refl
take-take r (suc n) zero h = absurd (omega arith)
take-take [] (suc n) (suc m) h = refl
take-take (x ∷ r) (suc n) (suc m) h = ap (λ l. x ∷ l) (take-take r n m (omega arith))

pub take-strip : (cs : List ℕ) (p : ℕ → ℕ → ℤ) (n m : ℕ) → m ≡ n * length cs
    → take m (strip cs p (suc n)) ≡ strip cs p n
take-strip cs p zero m e = let k : m ≡ 0 = omega arith in rw k refl
take-strip cs p (suc n) m e = let l : length (map (p 0) cs) ≡ length cs = simp length-map refl in
    take-front (map (p 0) cs) (strip cs (λ m. p (suc m)) (suc n)) m (n * length cs)
    (one n (length cs) m _ e l) ∙ ap (λ r. map (p 0) cs ++ r)
    (take-strip cs (λ m. p (suc m)) n (n * length cs) refl)
  where
    one : (n w m l : ℕ) → m ≡ suc n * w → l ≡ w → m ≡ l + n * w
    one n w m l e k = grind arith

zeros-append : (n m : ℕ) → zeros n ++ zeros m ≡ zeros (n + m)
zeros-append zero m = let e : 0 + m ≡ m = omega arith in rw e refl
zeros-append (suc n) m = let e : suc n + m ≡ suc (n + m) =
    omega arith in rw e (ap (λ l. pos 0 ∷ l) (zeros-append n m))

map-zero : (cs : List ℕ) → map (λ c. pos 0) cs ≡ zeros (length cs)
map-zero [] = refl
map-zero (c ∷ cs) = ap (λ l. pos 0 ∷ l) (map-zero cs)

pub strip-zero : (cs : List ℕ) (n : ℕ) → strip cs (λ m c. pos 0) n ≡ zeros (n * length cs)
strip-zero cs zero = let e : 0 * length cs ≡ 0 = omega arith in rw e refl
strip-zero cs (suc n) = let e : suc n * length cs ≡ length cs + n * length cs =
    grind arith in rw (map-zero cs, strip-zero cs n, e) (zeros-append (length cs) (n * length cs))

-- the first window: zeros alone
pub first_window : (t : List ℤ) (cs : List ℕ) (top z n : ℕ) → z ≡ 24 * length cs → n ≡ (top + 1) * length cs
    → 36 * length cs ≤ length t → top ≤ 11
    → take n (drop z (put_at t z (zeros ((top + 1) * length cs)))) ≡ strip cs nothing (suc top)
first_window t cs top z n ez en room small =
    let e : top + 1 ≡ suc top = omega arith in
    ap (take n) (drop-put_at t z (zeros ((top + 1) * length cs)) (z + n)
    (omega (arith, zeros-length ((top + 1) * length cs), en)) (within (length cs) top z n (length t) ez en room small))
    ∙ all_of (zeros ((top + 1) * length cs)) (drop (z + n) t) n
    (omega (arith, zeros-length ((top + 1) * length cs), en))
    ∙ ap (λ m. zeros (m * length cs)) e ∙ sym (strip-zero cs (suc top))
  where
    within : (w top z n m : ℕ) → z ≡ 24 * w → n ≡ (top + 1) * w → 36 * w ≤ m → top ≤ 11 → z + n ≤ m
    within w top z n m ez en h k = grind arith

    all_of : (a r : List ℤ) (n : ℕ) → n ≡ length a → take n (a ++ r) ≡ a
    all_of [] r n e = let k : n ≡ 0 = omega arith in rw k refl
    all_of (x ∷ a) r zero e = absurd (omega arith)
    all_of (x ∷ a) r (suc n) e = ap (λ l. x ∷ l) (all_of a r n (omega arith))

-- the next window: a new block, and all but the oldest of the last one
pub next_window : (t : List ℤ) (cs : List ℕ) (p : ℕ → ℕ → ℤ) (f : ℕ → ℤ) (top k n : ℕ) → k < 24
    → n ≡ (top + 1) * length cs → 36 * length cs ≤ length t
    → take n (drop ((24 - k) * length cs) t) ≡ strip cs p (suc top)
    → take n (drop ((24 - suc k) * length cs) (put_at t ((24 - suc k) * length cs) (map f cs))) ≡ strip cs
    (one_on f p) (suc top)
next_window t cs p f top k n h en room e =
    let l : length (map f cs) ≡ length cs = simp length-map refl in
    ap (take n) (drop-put_at t ((24 - suc k) * length cs) (map f cs) ((24 - k) * length cs)
    (back k (length cs) _ h l) (within k (length cs) (length t) room))
    ∙ take-front (map f cs) (drop ((24 - k) * length cs) t) n (top * length cs)
    (count top (length cs) n _ en l)
    ∙ ap (λ r. map f cs ++ r) (sym (take-take (drop ((24 - k) * length cs) t) (top * length cs) n
    (fewer top (length cs) n en)) ∙ ap (take (top * length cs)) e ∙ take-strip cs p top (top * length cs)
    refl)
  where
    back : (k w l : ℕ) → k < 24 → l ≡ w → (24 - k) * w ≡ (24 - suc k) * w + l
    back k w l h e = let d : 24 - k ≡ suc (24 - suc k) = omega arith in rw (d, e) (one (24 - suc k) w)
      where
        one : (m w : ℕ) → suc m * w ≡ m * w + w
        one m w = grind arith

    within : (k w n : ℕ) → 36 * w ≤ n → (24 - k) * w ≤ n
    within k w n h = let d : 24 - k ≤ 24 = omega arith in at_most (24 - k) w n d h
      where
        at_most : (m w n : ℕ) → m ≤ 24 → 36 * w ≤ n → m * w ≤ n
        at_most m w n d h = grind arith

    count : (top w n l : ℕ) → n ≡ (top + 1) * w → l ≡ w → n ≡ l + top * w
    count top w n l e k = grind arith

    fewer : (top w n : ℕ) → n ≡ (top + 1) * w → top * w ≤ n
    fewer top w n e = grind arith
