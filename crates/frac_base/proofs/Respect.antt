-- Sums, products, opposites and signs of pairs respect `Same`, and the laws of a ring hold of pairs up to it.
use Rattle.std.specs.Prelude.{◌≡◌, ℕ, suc, pred, ◌*◌, ℤ, pos, negsuc, ◌+ℤ◌, ◌*ℤ◌, neg_ℤ, [], ◌∷◌}
use Rattle.std.proofs.Common.{refl, arith, ap, ◌∙◌}
use borrow.Author.Differences.{down, product_is}
use Rattle.frac_base.specs.Pair.{Pair, Same, bottom, both_below, sum_of, product_of, opposite_of}
use Rattle.frac_base.specs.Pair.{is_natural, zero_pair, one_pair}
use Rattle.frac_base.proofs.WholeTerms.{ring, terms}

suc-pred : (a b : ℕ) → suc (pred (suc a * suc b)) ≡ suc a * suc b
suc-pred a b = omega arith

pub bottoms : (p q : Pair) → pos (suc (both_below p q)) ≡ bottom p *ℤ bottom q
bottoms p q = ap pos (suc-pred p.below q.below)

-- the cross products, over whole numbers
cross_sum_left : (n n' m a a' b : ℤ) → n *ℤ a' ≡ n' *ℤ a
    → (n *ℤ b +ℤ m *ℤ a) *ℤ (a' *ℤ b) ≡ (n' *ℤ b +ℤ m *ℤ a') *ℤ (a *ℤ b)
cross_sum_left n n' m a a' b h = ring (n ∷ m ∷ a ∷ a' ∷ b ∷ []) (hlevel terms) refl
    ∙ ap (λ x. x *ℤ (b *ℤ b) +ℤ m *ℤ a *ℤ a' *ℤ b) h ∙ ring (n' ∷ m ∷ a ∷ a' ∷ b ∷ []) (hlevel terms) refl

cross_product_left : (n n' m a a' b : ℤ) → n *ℤ a' ≡ n' *ℤ a → (n *ℤ m) *ℤ (a' *ℤ b) ≡ (n' *ℤ m) *ℤ (a *ℤ b)
cross_product_left n n' m a a' b h = ring (n ∷ m ∷ a' ∷ b ∷ []) (hlevel terms) refl
    ∙ ap (λ x. x *ℤ (m *ℤ b)) h ∙ ring (n' ∷ m ∷ a ∷ b ∷ []) (hlevel terms) refl

cross_sum_comm : (n m a b d e : ℤ) → d ≡ a *ℤ b → e ≡ b *ℤ a
    → (n *ℤ b +ℤ m *ℤ a) *ℤ e ≡ (m *ℤ a +ℤ n *ℤ b) *ℤ d
cross_sum_comm n m a b d e h k = rw (h, k) (ring (n ∷ m ∷ a ∷ b ∷ []) (hlevel terms) refl)

cross_product_comm : (n m a b d e : ℤ) → d ≡ a *ℤ b → e ≡ b *ℤ a → (n *ℤ m) *ℤ e ≡ (m *ℤ n) *ℤ d
cross_product_comm n m a b d e h k = rw (h, k) (ring (n ∷ m ∷ a ∷ b ∷ []) (hlevel terms) refl)

cross_sum_assoc : (n m k a b c ab bc d e : ℤ) → ab ≡ a *ℤ b → bc ≡ b *ℤ c → d ≡ ab *ℤ c → e ≡ a *ℤ bc
    → ((n *ℤ b +ℤ m *ℤ a) *ℤ c +ℤ k *ℤ ab) *ℤ e ≡ (n *ℤ bc +ℤ (m *ℤ c +ℤ k *ℤ b) *ℤ a) *ℤ d
cross_sum_assoc n m k a b c ab bc d e h1 h2 h3 h4 = rw (h3, h4, h1, h2) (multiplied_out n m k a b c)
  where
    multiplied_out : (n m k a b c : ℤ)
        → ((n *ℤ b +ℤ m *ℤ a) *ℤ c +ℤ k *ℤ (a *ℤ b)) *ℤ (a *ℤ (b *ℤ c)) ≡
        (n *ℤ (b *ℤ c) +ℤ (m *ℤ c +ℤ k *ℤ b) *ℤ a) *ℤ ((a *ℤ b) *ℤ c)
    multiplied_out n m k a b c = ring (n ∷ m ∷ k ∷ a ∷ b ∷ c ∷ []) (hlevel terms) refl

cross_product_assoc : (n m k a b c ab bc d e : ℤ) → ab ≡ a *ℤ b → bc ≡ b *ℤ c → d ≡ ab *ℤ c → e ≡ a *ℤ bc
    → ((n *ℤ m) *ℤ k) *ℤ e ≡ (n *ℤ (m *ℤ k)) *ℤ d
cross_product_assoc n m k a b c ab bc d e h1 h2 h3 h4 =
    rw (h3, h4, h1, h2) (ring (n ∷ m ∷ k ∷ a ∷ b ∷ c ∷ []) (hlevel terms) refl)

cross_product_sum : (n m k a b c bc ab ac d e : ℤ) → bc ≡ b *ℤ c → ab ≡ a *ℤ b → ac ≡ a *ℤ c → d ≡ a *ℤ bc
    → e ≡ ab *ℤ ac
    → (n *ℤ (m *ℤ c +ℤ k *ℤ b)) *ℤ e ≡ ((n *ℤ m) *ℤ ac +ℤ (n *ℤ k) *ℤ ab) *ℤ d
cross_product_sum n m k a b c bc ab ac d e h1 h2 h3 h4 h5 =
    rw (h4, h5, h1, h2, h3) (ring (n ∷ m ∷ k ∷ a ∷ b ∷ c ∷ []) (hlevel terms) refl)

-- on pairs
pub sum-left : (p p' q : Pair) → Same p p' → Same (sum_of p q) (sum_of p' q)
sum-left p p' q r = rw (bottoms p q, bottoms p' q)
    (cross_sum_left p.top p'.top q.top (bottom p) (bottom p') (bottom q) r)

pub sum-comm : (p q : Pair) → Same (sum_of p q) (sum_of q p)
sum-comm p q = cross_sum_comm p.top q.top (bottom p) (bottom q) _ _ (bottoms p q) (bottoms q p)

pub product-left : (p p' q : Pair) → Same p p' → Same (product_of p q) (product_of p' q)
product-left p p' q r = rw (bottoms p q, bottoms p' q)
    (cross_product_left p.top p'.top q.top (bottom p) (bottom p') (bottom q) r)

pub product-comm : (p q : Pair) → Same (product_of p q) (product_of q p)
product-comm p q = cross_product_comm p.top q.top (bottom p) (bottom q) _ _ (bottoms p q) (bottoms q p)

pub opposite-same : (p q : Pair) → Same p q → Same (opposite_of p) (opposite_of q)
opposite-same p q r = crossed p.top q.top (bottom p) (bottom q) r
  where
    crossed : (n m a b : ℤ) → n *ℤ b ≡ m *ℤ a → neg_ℤ n *ℤ b ≡ neg_ℤ m *ℤ a
    crossed n m a b h = ring (n ∷ b ∷ []) (hlevel terms) refl ∙ ap neg_ℤ h
        ∙ ring (m ∷ a ∷ []) (hlevel terms) refl

pub sum-assoc : (p q r : Pair) → Same (sum_of (sum_of p q) r) (sum_of p (sum_of q r))
sum-assoc p q r = cross_sum_assoc p.top q.top r.top (bottom p) (bottom q) (bottom r) _ _ _ _ (bottoms p q)
    (bottoms q r) (bottoms (sum_of p q) r) (bottoms p (sum_of q r))

pub product-assoc : (p q r : Pair) → Same (product_of (product_of p q) r) (product_of p (product_of q r))
product-assoc p q r = cross_product_assoc p.top q.top r.top (bottom p) (bottom q) (bottom r) _ _ _ _
    (bottoms p q) (bottoms q r) (bottoms (product_of p q) r) (bottoms p (product_of q r))

pub product-sum : (p q r : Pair) → Same (product_of p (sum_of q r)) (sum_of (product_of p q) (product_of p r))
product-sum p q r = cross_product_sum p.top q.top r.top (bottom p) (bottom q) (bottom r) _ _ _ _ _
    (bottoms q r) (bottoms p q) (bottoms p r) (bottoms p (sum_of q r))
    (bottoms (product_of p q) (product_of p r))

pub sign-same : (p q : Pair) → Same p q → is_natural p.top ≡ is_natural q.top
sign-same p q r = cross_sign p.top q.top p.below q.below r
  where
    cross_sign : (n m : ℤ) (a b : ℕ) → n *ℤ pos (suc b) ≡ m *ℤ pos (suc a) → is_natural n ≡ is_natural m
    cross_sign (pos n) (pos m) a b h = refl
    cross_sign (negsuc n) (negsuc m) a b h = refl
    cross_sign (pos n) (negsuc m) a b h =
        absurd (omega (
          arith,
          ap down h,
          product_is (pos n) (pos (suc b)),
          product_is (negsuc m)
              (pos (suc a)),
        ))
    cross_sign (negsuc n) (pos m) a b h =
        absurd (omega (
          arith,
          ap down h,
          product_is (pos m) (pos (suc a)),
          product_is (negsuc n)
              (pos (suc b)),
        ))

cross_sum_right : (n m m' a b b' : ℤ) → m *ℤ b' ≡ m' *ℤ b
    → (n *ℤ b +ℤ m *ℤ a) *ℤ (a *ℤ b') ≡ (n *ℤ b' +ℤ m' *ℤ a) *ℤ (a *ℤ b)
cross_sum_right n m m' a b b' h = ring (n ∷ m ∷ a ∷ b ∷ b' ∷ []) (hlevel terms) refl
    ∙ ap (λ x. n *ℤ a *ℤ b *ℤ b' +ℤ x *ℤ (a *ℤ a)) h ∙ ring (n ∷ m' ∷ a ∷ b ∷ b' ∷ []) (hlevel terms) refl

cross_product_right : (n m m' a b b' : ℤ) → m *ℤ b' ≡ m' *ℤ b → (n *ℤ m) *ℤ (a *ℤ b') ≡ (n *ℤ m') *ℤ (a *ℤ b)
cross_product_right n m m' a b b' h = ring (n ∷ m ∷ a ∷ b' ∷ []) (hlevel terms) refl
    ∙ ap (λ x. n *ℤ a *ℤ x) h ∙ ring (n ∷ m' ∷ a ∷ b ∷ []) (hlevel terms) refl

pub sum-right : (p q q' : Pair) → Same q q' → Same (sum_of p q) (sum_of p q')
sum-right p q q' r = rw (bottoms p q, bottoms p q')
    (cross_sum_right p.top q.top q'.top (bottom p) (bottom q) (bottom q') r)

pub product-right : (p q q' : Pair) → Same q q' → Same (product_of p q) (product_of p q')
product-right p q q' r = rw (bottoms p q, bottoms p q')
    (cross_product_right p.top q.top q'.top (bottom p) (bottom q) (bottom q') r)

-- the laws with 0 and 1, over whole numbers
cross_sum_zero : (n a b : ℤ) → b ≡ a *ℤ pos 1 → (n *ℤ pos 1 +ℤ pos 0 *ℤ a) *ℤ a ≡ n *ℤ b
cross_sum_zero n a b h = rw h (ring (n ∷ a ∷ []) (hlevel terms) refl)

pub sum-zero : (p : Pair) → Same (sum_of p zero_pair) p
sum-zero p = cross_sum_zero p.top (bottom p) _ (bottoms p zero_pair)

cross_product_one : (n a b : ℤ) → b ≡ a *ℤ pos 1 → (n *ℤ pos 1) *ℤ a ≡ n *ℤ b
cross_product_one n a b h = rw h (ring (n ∷ a ∷ []) (hlevel terms) refl)

pub product-one : (p : Pair) → Same (product_of p one_pair) p
product-one p = cross_product_one p.top (bottom p) _ (bottoms p one_pair)

cross_sum_opposite : (n a b : ℤ) → (n *ℤ a +ℤ neg_ℤ n *ℤ a) *ℤ pos 1 ≡ pos 0 *ℤ b
cross_sum_opposite n a b = ring (n ∷ a ∷ b ∷ []) (hlevel terms) refl

pub sum-opposite : (p : Pair) → Same (sum_of p (opposite_of p)) zero_pair
sum-opposite p = cross_sum_opposite p.top (bottom p) (bottom (sum_of p (opposite_of p)))
