-- One row's strip after another.
use Rattle.std.proofs.Common.{◌≡◌, ℕ, suc, zero, ◌+◌, ◌*◌, ◌-◌, ◌<◌, ◌≤◌, ◌⊎◌, inl, inr, length, get_or, set}
use Rattle.std.proofs.Common.{map, List, [], ◌∷◌, ◌++◌, ℤ, refl, ap, sym, ◌∙◌, arith, Vec, Global}
use Rattle.std.proofs.Common.{get_or-set_other, get_or-set_same}
use Rattle.std.proofs.Math.ListN.{length-set, length-map, length-append}
use Rattle.std.specs.Vec.{with_items}
use Rattle.std.proofs.lemmas.List.{map-set, get_or-map, with_items_is}
use Rattle.taylor_step.proofs.Blocks.{length-put_at}
use Rattle.taylor_step.specs.Strips.{put_at, HasRoom}
use Rattle.linear_system.specs.StoredSystem.{StoredSystem, row_of, dim_of}
use Rattle.frac_laws.specs.Fraction.{size}

-- the rows below i have a new block
pub record Shifted (s : StoredSystem) (t t0 : List (List ℤ)) (i block : ℕ) (new : ℕ → List ℤ) : Type 0 where
  pub room : HasRoom s t
  pub done : (j : ℕ) → j < i → get_or t j [] ≡ put_at (get_or t0 j []) (block * length (row_of s j).columns)
      (new j)
  pub left : (j : ℕ) → i ≤ j → get_or t j [] ≡ get_or t0 j []

pub Shifted-more : (s : StoredSystem) (t t0 : List (List ℤ)) (i block : ℕ) (new : ℕ → List ℤ) (u : List ℤ)
    → Shifted s t t0 i block new → i < dim_of s → u ≡ put_at (get_or t i [])
    (block * length (row_of s i).columns) (new i)
    → Shifted s (set t i u) t0 (i + 1) block new
Shifted-more s t t0 i block new u h b e = record {
  room = record { rows = length-set t i u ∙ h.room.rows; blocks = λ j k. one j k (split i j) };
  done = λ j k. below j (split i j) k;
  left = λ j k. let ne : j ≡ i → ⊥ = omega arith in rw get_or-set_other (h.left j (omega arith));
}
  where
    split : (i j : ℕ) → (i ≡ j) ⊎ (j ≡ i → ⊥)
    split i j = grind arith

    inside : i < length t
    inside = omega (arith, h.room.rows)

    one : (j : ℕ) → j < dim_of s → (i ≡ j) ⊎ (j ≡ i → ⊥)
        → length (get_or (set t i u) j []) ≡ 36 * (dim_of s + 1)
    one j k (inl q) = let l = inside in rw (← q, get_or-set_same)
        (ap length e ∙ length-put_at (get_or t i []) _ _ ∙ h.room.blocks i b)
    one j k (inr ne) = rw get_or-set_other (h.room.blocks j k)

    below : (j : ℕ) → (i ≡ j) ⊎ (j ≡ i → ⊥) → j < i + 1
        → get_or (set t i u) j [] ≡ put_at (get_or t0 j []) (block * length (row_of s j).columns) (new j)
    below j (inl q) k = let l = inside in rw (← q, get_or-set_same)
        (e ∙ ap (λ z. put_at z (block * length (row_of s i).columns) (new i)) (h.left i (omega arith)))
    below j (inr ne) k = rw get_or-set_other (h.done j (omega arith))

-- a block lies within its strip
pub block_room : (dim w block n : ℕ) → block ≤ 24 → w ≤ dim + 1 → n ≡ 36 * (dim + 1) → block * w + w ≤ n
block_room dim w block n h k e = grind arith

abbrev pub items_of : Vec ℤ Global → List ℤ
items_of v = v.items

inside : (s : StoredSystem) (l : List (Vec ℤ Global)) (i : ℕ) → HasRoom s (map items_of l) → i < dim_of s
    → i < length l
inside s l i h k = let e : length (map items_of l) ≡ length l =
    simp length-map refl in omega (arith, e, h.rows)

-- the strip that is written
pub strip_is : (s : StoredSystem) (l : List (Vec ℤ Global)) (i : ℕ) (d : Vec ℤ Global) (r : List ℤ)
    → HasRoom s (map items_of l) → i < dim_of s → r ≡ (get_or l i d).items → r ≡ get_or (map items_of l) i []
strip_is s l i d r h k e = e ∙ sym (get_or-map items_of l i d [] (inside s l i h k))

-- one more row's strip written
pub row_written : (s : StoredSystem) (l : List (Vec ℤ Global)) (t0 : List (List ℤ)) (i block at : ℕ)
    (new : ℕ → List ℤ) (d : Vec ℤ Global) (r u b : List ℤ) → Shifted s (map items_of l) t0 i block new
    → i < dim_of s → r ≡ (get_or l i d).items
    → at ≡ block * length (row_of s i).columns → b ≡ new i → u ≡ put_at r at b
    → Shifted s (map items_of (set l i (with_items (get_or l i d) u))) t0 (i + 1) block new
row_written s l t0 i block at new d r u b h k e ea eb eu =
    let q : u ≡ put_at (get_or (map items_of l) i []) (block * length (row_of s i).columns) (new i) =
    rw (eu, ea, eb, strip_is s l i d r h.room k e) refl in
    let n : length u ≡ (get_or l i d).len = ap length eu ∙ length-put_at r _ b ∙ ap length e ∙ sym
    (get_or l i d).ok.0 in
    rw (map-set items_of l i (with_items (get_or l i d) u), with_items_is (get_or l i d) u n)
    (Shifted-more s (map items_of l) t0 i block new u h k q)

-- the zeros lie within their strip
pub zeros_room : (dim w top n : ℕ) → top ≤ 11 → w ≤ dim + 1 → n ≡ 36 * (dim + 1) → 24 * w + (top + 1) * w ≤ n
zeros_room dim w top n h k e = grind arith

-- strips in the making
pub record AreStrips (l : List (Vec ℤ Global)) (size n : ℕ) : Type 0 where
  pub count : length l ≡ n
  pub each : (i : ℕ) → i < n → length (get_or (map items_of l) i []) ≡ size

pub no_strips : (size : ℕ) → AreStrips [] size 0
no_strips size = record { count = refl; each = λ i b. absurd (omega arith) }

pub AreStrips-push : (l l' : List (Vec ℤ Global)) (v : Vec ℤ Global) (size n : ℕ) → AreStrips l size n
    → l' ≡ l ++ v ∷ [] → length v.items ≡ size → AreStrips l' size (n + 1)
AreStrips-push l l' v size n h e new = rw e (record
    { count = omega (arith, length-append l (v ∷ []), h.count); each = λ i b. one l i n h.count h.each b })
  where
    one : (l : List (Vec ℤ Global)) (i n : ℕ) → length l ≡ n
        → ((i : ℕ) → i < n → length (get_or (map items_of l) i []) ≡ size) → i < n + 1
        → length (get_or (map items_of (l ++ v ∷ [])) i []) ≡ size
    one [] zero n k g b = new
    one [] (suc i) n k g b = absurd (omega arith)
    one (x ∷ l) zero n k g b = g 0 (omega arith)
    one (x ∷ l) (suc i) zero k g b = absurd (omega arith)
    one (x ∷ l) (suc i) (suc n) k g b = one l i n (omega arith) (λ j d. g (suc j) (omega arith)) (omega arith)

pub window_room : (dim w top k m n : ℕ) → k < 24 → top ≤ 11 → w ≤ dim + 1 → m ≡ (top + 1) * w
    → n ≡ 36 * (dim + 1) → (24 - k) * w + m ≤ n
window_room dim w top k m n hk ht h e f = let d : 24 - k ≤ 24 = omega arith in within (24 - k) d
  where
    within : (j : ℕ) → j ≤ 24 → j * w + m ≤ n
    within j d = grind arith
