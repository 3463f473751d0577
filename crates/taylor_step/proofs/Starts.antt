-- The exact sum of a row, where the start stands beside the strip: the sum over the whole history is that over the
-- start's block and that over the rest.
use Rattle.std.proofs.Common.{◌≡◌, ℕ, suc, zero, ◌+◌, ◌*◌, ◌<◌, ◌^◌, length, map, List, [], ◌∷◌, ◌++◌}
use Rattle.std.proofs.Common.{take, drop, ℤ, pos, ◌+ℤ◌, ◌*ℤ◌, refl, ap, sym, ◌∙◌, arith}
use Rattle.std.proofs.Math.IntN.{+ℤ_assoc}
use Rattle.std.proofs.Math.ListN.{length-map}
use Rattle.std.proofs.lemmas.Int.{ints}
use Rattle.std.proofs.lemmas.List.{drop-drop, length-drop}
use mathlib.Core.Path.{ap₂}
use Rattle.fixed_num.specs.Products.{sum_of_products, sum_of_sizes, items_at}
use Rattle.linear_system.specs.StoredSystem.{StoredSystem, IsSystem, row_of, dim_of}
use Rattle.taylor_step.specs.Strips.{zeros, products_of, sizes_of, IsStart, IsHistory}
use Rattle.taylor_step.specs.WholeRun.{strip, start_number, past, later, nothing, new_number, ProductsFit}
use Rattle.taylor_step.proofs.Windows.{strip-zero}

-- ---- one block after another

plus_nothing : (z : ℤ) → z ≡ pos 0 +ℤ z
plus_nothing z = omega (arith, ints)

products_split : (ns xs vs : List ℤ) → sum_of_products ns (xs ++ vs)
    ≡ sum_of_products (take (length xs) ns) xs +ℤ sum_of_products (drop (length xs) ns) vs
products_split ns [] vs = plus_nothing (sum_of_products ns vs)
products_split [] (x ∷ xs) vs = refl
products_split (n ∷ ns) (x ∷ xs) vs = ap (λ z. (n *ℤ x) +ℤ z) (products_split ns xs vs)
    ∙ sym (+ℤ_assoc (n *ℤ x) (sum_of_products (take (length xs) ns) xs) (sum_of_products (drop (length xs) ns) vs))

sizes_split : (ns xs vs : List ℤ) → sum_of_sizes ns (xs ++ vs)
    ≡ sum_of_sizes (take (length xs) ns) xs + sum_of_sizes (drop (length xs) ns) vs
sizes_split ns [] vs = omega arith
sizes_split [] (x ∷ xs) vs = refl
sizes_split (n ∷ ns) (x ∷ xs) vs = omega (arith, sizes_split ns xs vs)

products-zeros : (ns : List ℤ) (n : ℕ) → sum_of_products ns (zeros n) ≡ pos 0
products-zeros [] n = refl
products-zeros (x ∷ ns) zero = refl
products-zeros (x ∷ ns) (suc n) = nothing_of x ∙ products-zeros ns n
  where
    nothing_of : (x : ℤ) {z : ℤ} → (x *ℤ pos 0) +ℤ z ≡ z
    nothing_of x = grind (arith, ints)

sizes-zeros : (ns : List ℤ) (n : ℕ) → sum_of_sizes ns (zeros n) ≡ 0
sizes-zeros [] n = refl
sizes-zeros (x ∷ ns) zero = refl
sizes-zeros (x ∷ ns) (suc n) = omega (arith, sizes-zeros ns n)

products-none : (w m : ℕ) (xs : List ℤ) → sum_of_products (take w (drop m [])) xs ≡ pos 0
products-none zero zero xs = refl
products-none zero (suc m) xs = refl
products-none (suc w) zero xs = refl
products-none (suc w) (suc m) xs = refl

sizes-none : (w m : ℕ) (xs : List ℤ) → sum_of_sizes (take w (drop m [])) xs ≡ 0
sizes-none zero zero xs = refl
sizes-none zero (suc m) xs = refl
sizes-none (suc w) zero xs = refl
sizes-none (suc w) (suc m) xs = refl

-- ---- the start's block taken out

-- the numbers that follow a block, one power back
one_back : (ns : List ℤ) (k w : ℕ) → drop (k * w) (drop w ns) ≡ drop (suc k * w) ns
one_back ns k w = let e : w + k * w ≡ suc k * w = grind arith in
    drop-drop (k * w) w ns ∙ ap (λ i. drop i ns) e

none_back : (ns : List ℤ) (w : ℕ) → ns ≡ drop (0 * w) ns
none_back ns w = let e : 0 * w ≡ 0 = omega arith in rw e refl

shorter : (ns : List ℤ) (n w : ℕ) → length ns ≡ suc n * w → length (drop w ns) ≡ n * w
shorter ns n w l = let e : suc n * w ≡ w + n * w = grind arith in simp length-drop (omega (arith, l, e))

swapped : (a b c : ℤ) → a +ℤ (b +ℤ c) ≡ b +ℤ (a +ℤ c)
swapped a b c = omega (arith, ints)

module _ (s : StoredSystem) (mid : List ℤ) (cs : List ℕ) where
  wide : (f : ℕ → ℤ) → length (map f cs) ≡ length cs
  wide f = simp length-map refl

  products_front : (ns vs : List ℤ) (f : ℕ → ℤ) → sum_of_products ns (map f cs ++ vs)
      ≡ sum_of_products (take (length cs) ns) (map f cs) +ℤ sum_of_products (drop (length cs) ns) vs
  products_front ns vs f = rw (wide f) at (products_split ns (map f cs) vs)

  sizes_front : (ns vs : List ℤ) (f : ℕ → ℤ) → sum_of_sizes ns (map f cs ++ vs)
      ≡ sum_of_sizes (take (length cs) ns) (map f cs) + sum_of_sizes (drop (length cs) ns) vs
  sizes_front ns vs f = rw (wide f) at (sizes_split ns (map f cs) vs)

  no_products : (ns : List ℤ) (n : ℕ) → sum_of_products ns (strip cs nothing n) ≡ pos 0
  no_products ns n = ap (sum_of_products ns) (strip-zero cs n) ∙ products-zeros ns (n * length cs)

  no_sizes : (ns : List ℤ) (n : ℕ) → sum_of_sizes ns (strip cs nothing n) ≡ 0
  no_sizes ns n = ap (sum_of_sizes ns) (strip-zero cs n) ∙ sizes-zeros ns (n * length cs)

  pub products_parted : (k n : ℕ) (ns : List ℤ) → length ns ≡ n * length cs
      → sum_of_products ns (strip cs (past s mid k) n)
      ≡ sum_of_products (take (length cs) (drop (k * length cs) ns)) (map (start_number mid) cs)
      +ℤ sum_of_products ns (strip cs (later s mid k) n)
  unfolding past later
  products_parted k zero [] l =
      ap (λ z. z +ℤ pos 0) (sym (products-none (length cs) (k * length cs) (map (start_number mid) cs)))
  products_parted k zero (x ∷ ns) l = absurd (omega (arith, l))
  products_parted zero (suc n) ns l = products_front ns (strip cs nothing n) (start_number mid)
      ∙ ap₂ (λ (front : List ℤ) z. sum_of_products (take (length cs) front) (map (start_number mid) cs) +ℤ z)
      (none_back ns (length cs)) (no_products (drop (length cs) ns) n ∙ sym (no_products ns (suc n)))
  products_parted (suc k) (suc n) ns l =
      let new : ℕ → ℤ = λ col. new_number (row_of s col) s.degree (past s mid k) k in
      products_front ns (strip cs (past s mid k) n) new
      ∙ ap (λ z. sum_of_products (take (length cs) ns) (map new cs) +ℤ z)
      (products_parted k n (drop (length cs) ns) (shorter ns n (length cs) l))
      ∙ swapped (sum_of_products (take (length cs) ns) (map new cs))
      (sum_of_products (take (length cs) (drop (k * length cs) (drop (length cs) ns))) (map (start_number mid) cs))
      (sum_of_products (drop (length cs) ns) (strip cs (later s mid k) n))
      ∙ ap₂ (λ (front : List ℤ) z. sum_of_products (take (length cs) front) (map (start_number mid) cs) +ℤ z)
      (one_back ns k (length cs)) (sym (products_front ns (strip cs (later s mid k) n) new))

  pub sizes_parted : (k n : ℕ) (ns : List ℤ) → length ns ≡ n * length cs
      → sum_of_sizes ns (strip cs (past s mid k) n)
      ≡ sum_of_sizes (take (length cs) (drop (k * length cs) ns)) (map (start_number mid) cs)
      + sum_of_sizes ns (strip cs (later s mid k) n)
  unfolding past later
  sizes_parted k zero [] l =
      ap (λ z. z + 0) (sym (sizes-none (length cs) (k * length cs) (map (start_number mid) cs)))
  sizes_parted k zero (x ∷ ns) l = absurd (omega (arith, l))
  sizes_parted zero (suc n) ns l = sizes_front ns (strip cs nothing n) (start_number mid)
      ∙ ap₂ (λ (front : List ℤ) z. sum_of_sizes (take (length cs) front) (map (start_number mid) cs) + z)
      (none_back ns (length cs)) (no_sizes (drop (length cs) ns) n ∙ sym (no_sizes ns (suc n)))
  sizes_parted (suc k) (suc n) ns l =
      let new : ℕ → ℤ = λ col. new_number (row_of s col) s.degree (past s mid k) k in
      omega (
        arith,
        sizes_front ns (strip cs (past s mid k) n) new,
        sizes_parted k n (drop (length cs) ns) (shorter ns n (length cs) l),
        ap (λ (front : List ℤ). sum_of_sizes (take (length cs) front) (map (start_number mid) cs))
            (one_back ns k (length cs)),
        sizes_front ns (strip cs (later s mid k) n) new,
      )

-- ---- the rows of a step

starts_are : (mid start : List ℤ) (cs : List ℕ) → IsStart mid start → items_at start cs ≡ map (start_number mid) cs
starts_are mid start [] h = refl
starts_are mid start (c ∷ cs) h = ap₂ (λ x l. x ∷ l) (h c) (starts_are mid start cs h)

module _ (s : StoredSystem) (mid start : List ℤ) (k : ℕ) (strips : List (List ℤ)) (sys : IsSystem s)
    (is_start : IsStart mid start) (history : IsHistory s mid k strips) (row : ℕ) (b : row < dim_of s) where
  full : length (row_of s row).numbers ≡ suc s.degree * length (row_of s row).columns
  full = (sys.each row b).full ∙ ap (λ n. n * length (row_of s row).columns) (one_more s.degree)
    where
      one_more : (n : ℕ) → n + 1 ≡ suc n
      one_more n = omega arith

  -- the exact sum of a row is that over its whole history
  pub products_are : products_of s start strips k row ≡ sum_of_products (row_of s row).numbers
      (strip (row_of s row).columns (past s mid k) (suc s.degree))
  products_are = rw (starts_are mid start (row_of s row).columns is_start, history row b)
      (sym (products_parted s mid (row_of s row).columns k (suc s.degree) (row_of s row).numbers full))

  pub sizes_are : sizes_of s start strips k row ≡ sum_of_sizes (row_of s row).numbers
      (strip (row_of s row).columns (past s mid k) (suc s.degree))
  sizes_are = rw (starts_are mid start (row_of s row).columns is_start, history row b)
      (sym (sizes_parted s mid (row_of s row).columns k (suc s.degree) (row_of s row).numbers full))

  -- and fits
  pub sizes_fit : k < 24 → ProductsFit s mid → sizes_of s start strips k row < 2 ^ 126
  sizes_fit below fit = rw sizes_are (fit.fit k row below b)
