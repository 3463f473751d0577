-- A solver of identities in a commutative ring: expressions, their normal forms, which compute, and the proof
-- that an expression and its normal form have one value.
use Rattle.std.specs.Prelude.{◌≡◌, ℕ, zero, suc, ◌+◌, Bool, true, false, ◌&&◌, List, [], ◌∷◌}
use Rattle.std.proofs.Common.{refl, arith, ap, sym, ◌∙◌}
use mathlib.Core.Path.{ap₂}
use Prim.Native.Nat.{compare, Ordering}
use native.Mathlib.Omega.{compare-eq}

-- a commutative ring, and the numerals in which its constants are written and computed
pub record RingOver : Type 1 where
  pub Element : Type 0
  pub nil : Element
  pub one : Element
  pub add : Element → Element → Element
  pub mul : Element → Element → Element
  pub neg : Element → Element
  pub add_comm : (a b : Element) → add a b ≡ add b a
  pub add_assoc : (a b c : Element) → add (add a b) c ≡ add a (add b c)
  pub add_nil : (a : Element) → add a nil ≡ a
  pub add_neg : (a : Element) → add a (neg a) ≡ nil
  pub mul_comm : (a b : Element) → mul a b ≡ mul b a
  pub mul_assoc : (a b c : Element) → mul (mul a b) c ≡ mul a (mul b c)
  pub mul_one : (a : Element) → mul a one ≡ a
  pub mul_add : (a b c : Element) → mul a (add b c) ≡ add (mul a b) (mul a c)
  pub Numeral : Type 0
  pub numeral_one : Numeral
  pub numeral_minus_one : Numeral
  pub numeral_add : Numeral → Numeral → Numeral
  pub numeral_mul : Numeral → Numeral → Numeral
  pub is_nil : Numeral → Bool
  pub value : Numeral → Element
  pub value_one : value numeral_one ≡ one
  pub value_minus_one : value numeral_minus_one ≡ neg one
  pub value_add : (k l : Numeral) → value (numeral_add k l) ≡ add (value k) (value l)
  pub value_mul : (k l : Numeral) → value (numeral_mul k l) ≡ mul (value k) (value l)
  pub value_nil : (k : Numeral) → is_nil k ≡ true → value k ≡ nil

infixl 6 ◌⊕◌ ◌⊖◌
infixl 7 ◌⊗◌
-- an expression over numbered variables
pub data Expr (Numeral : Type 0) : Type 0 where
  con : Numeral → Expr Numeral
  var : ℕ → Expr Numeral
  ◌⊕◌ : Expr Numeral → Expr Numeral → Expr Numeral
  ◌⊗◌ : Expr Numeral → Expr Numeral → Expr Numeral
  ◌⊖◌ : Expr Numeral → Expr Numeral → Expr Numeral
  minus : Expr Numeral → Expr Numeral

-- a polynomial: numerals, each times the variables to some exponents
pub data Poly (Numeral : Type 0) : Type 0 where
  none : Poly Numeral
  more : Numeral → List ℕ → Poly Numeral → Poly Numeral

-- the order in which a polynomial keeps its terms
abbrev pub compare_exponents : List ℕ → List ℕ → Ordering
compare_exponents [] [] = Ordering.eq
compare_exponents [] (b ∷ fs) = Ordering.lt
compare_exponents (a ∷ es) [] = Ordering.gt
compare_exponents (a ∷ es) (b ∷ fs) =
    elim (compare a b) [
      | Ordering.lt ↦ Ordering.lt
      | Ordering.eq ↦ compare_exponents es fs
      | Ordering.gt ↦ Ordering.gt
    ]

abbrev pub add_exponents : List ℕ → List ℕ → List ℕ
add_exponents [] fs = fs
add_exponents (a ∷ es) [] = a ∷ es
add_exponents (a ∷ es) (b ∷ fs) = (a + b) ∷ add_exponents es fs

-- the exponents of one variable alone
abbrev pub single : ℕ → List ℕ
single zero = 1 ∷ []
single (suc n) = 0 ∷ single n

-- the element at a place, or the default
abbrev pub pick : {A : Type 0} → A → List A → ℕ → A
pick d [] n = d
pick d (a ∷ es) zero = a
pick d (a ∷ es) (suc n) = pick d es n

module _ (S : RingOver) where
  open S use {Element, nil, one, add, mul, neg}
  open S use {Numeral, numeral_one, numeral_minus_one, numeral_add, numeral_mul, is_nil, value}

  abbrev pub eval : (ℕ → Element) → Expr Numeral → Element
  eval values (con k) = value k
  eval values (var n) = values n
  eval values (e ⊕ f) = add (eval values e) (eval values f)
  eval values (e ⊗ f) = mul (eval values e) (eval values f)
  eval values (e ⊖ f) = add (eval values e) (neg (eval values f))
  eval values (minus e) = neg (eval values e)

  abbrev pub insert_term : Numeral → List ℕ → Poly Numeral → Poly Numeral
  insert_term k m none = more k m none
  insert_term k m (more l n p) =
      elim (compare_exponents m n) [
        | Ordering.lt ↦ more k m (more l n p)
        | Ordering.eq ↦ more
            (numeral_add k l) n p
        | Ordering.gt ↦ more l n (insert_term k m p)
      ]

  abbrev pub add_poly : Poly Numeral → Poly Numeral → Poly Numeral
  add_poly none q = q
  add_poly (more k m p) q = insert_term k m (add_poly p q)

  abbrev pub scale_poly : Numeral → List ℕ → Poly Numeral → Poly Numeral
  scale_poly k m none = none
  scale_poly k m (more l n p) = more (numeral_mul k l) (add_exponents m n) (scale_poly k m p)

  abbrev pub mul_poly : Poly Numeral → Poly Numeral → Poly Numeral
  mul_poly none q = none
  mul_poly (more k m p) q = add_poly (scale_poly k m q) (mul_poly p q)

  abbrev pub normal_form : Expr Numeral → Poly Numeral
  normal_form (con k) = more k [] none
  normal_form (var n) = more numeral_one (single n) none
  normal_form (e ⊕ f) = add_poly (normal_form e) (normal_form f)
  normal_form (e ⊗ f) = mul_poly (normal_form e) (normal_form f)
  normal_form (e ⊖ f) = add_poly (normal_form e) (scale_poly numeral_minus_one [] (normal_form f))
  normal_form (minus e) = scale_poly numeral_minus_one [] (normal_form e)

  abbrev pub all_nil : Poly Numeral → Bool
  all_nil none = true
  all_nil (more k m p) = is_nil k && all_nil p

  -- what a polynomial is worth
  unfoldable pub power_of : Element → ℕ → Element
  power_of x zero = one
  power_of x (suc n) = mul x (power_of x n)

  unfoldable pub worth_of : (ℕ → Element) → List ℕ → Element
  worth_of values [] = one
  worth_of values (e ∷ es) = mul (power_of (values 0) e) (worth_of (λ i. values (suc i)) es)

  unfoldable pub worth : (ℕ → Element) → Poly Numeral → Element
  worth values none = nil
  worth values (more k m p) = add (mul (value k) (worth_of values m)) (worth values p)

  -- the laws that the proofs use
  pub nil_add : (a : Element) → add nil a ≡ a
  nil_add a = S.add_comm nil a ∙ S.add_nil a

  pub one_mul : (a : Element) → mul one a ≡ a
  one_mul a = S.mul_comm one a ∙ S.mul_one a

  add_left_comm : (a b c : Element) → add a (add b c) ≡ add b (add a c)
  add_left_comm a b c = sym (S.add_assoc a b c) ∙ ap (λ x. add x c) (S.add_comm a b) ∙ S.add_assoc b a c

  mul_medial : (a b c d : Element) → mul (mul a b) (mul c d) ≡ mul (mul a c) (mul b d)
  mul_medial a b c d = S.mul_assoc a b (mul c d)
      ∙ ap (mul a) (sym (S.mul_assoc b c d) ∙ ap (λ x. mul x d) (S.mul_comm b c) ∙ S.mul_assoc c b d)
      ∙ sym (S.mul_assoc a c (mul b d))

  add_mul : (a b c : Element) → mul (add a b) c ≡ add (mul a c) (mul b c)
  add_mul a b c = S.mul_comm (add a b) c ∙ S.mul_add c a b ∙ ap₂ add (S.mul_comm c a) (S.mul_comm c b)

  cancel : (x y : Element) → add x y ≡ x → y ≡ nil
  cancel x y h = sym (nil_add y) ∙ ap (λ z. add z y) (sym (S.add_neg x) ∙ S.add_comm x (neg x))
      ∙ S.add_assoc (neg x) x y ∙ ap (add (neg x)) h ∙ S.add_comm (neg x) x ∙ S.add_neg x

  pub mul_nil : (a : Element) → mul a nil ≡ nil
  mul_nil a = cancel (mul a nil) (mul a nil) (sym (S.mul_add a nil nil) ∙ ap (mul a) (S.add_nil nil))

  same_when : (a b : Element) → add a (neg b) ≡ nil → a ≡ b
  same_when a b h = sym (S.add_nil a) ∙ ap (add a) (sym (S.add_neg b) ∙ S.add_comm b (neg b))
      ∙ sym (S.add_assoc a (neg b) b) ∙ ap (λ z. add z b) h ∙ nil_add b

  neg_unique : (a b : Element) → add a b ≡ nil → neg a ≡ b
  neg_unique a b h = sym (S.add_nil (neg a)) ∙ ap (add (neg a)) (sym h) ∙ sym (S.add_assoc (neg a) a b)
      ∙ ap (λ z. add z b) (S.add_comm (neg a) a ∙ S.add_neg a) ∙ nil_add b

  neg_is : (a : Element) → mul (neg one) a ≡ neg a
  neg_is a = sym (neg_unique a (mul (neg one) a)
      (ap (λ z. add z (mul (neg one) a)) (sym (one_mul a)) ∙ sym (add_mul one (neg one) a)
      ∙ ap (λ z. mul z a) (S.add_neg one) ∙ S.mul_comm nil a ∙ mul_nil a))

  -- each step of the normal form keeps the worth
  compare_exponents-eq : (m n : List ℕ) → compare_exponents m n ≡ Ordering.eq → m ≡ n
  compare_exponents-eq [] [] h = refl
  compare_exponents-eq [] (b ∷ fs) h = cc
  compare_exponents-eq (a ∷ es) [] h = cc
  compare_exponents-eq (a ∷ es) (b ∷ fs) h = heads (compare a b) refl (compare_exponents-eq es fs) h
    where
      heads : (r : Ordering) → compare a b ≡ r → (compare_exponents es fs ≡ Ordering.eq → es ≡ fs)
          → ◌≡◌ {A = Ordering} (elim r [
            | Ordering.lt ↦ Ordering.lt
            | Ordering.eq ↦ compare_exponents es fs
            | Ordering.gt ↦ Ordering.gt
          ]) Ordering.eq → ◌≡◌ {A = List ℕ} (a ∷ es) (b ∷ fs)
      heads Ordering.lt e r g = cc
      heads Ordering.eq e r g = ap₂ (λ x xs. x ∷ xs) (compare-eq a b e) (r g)
      heads Ordering.gt e r g = cc

  power_of-add : (x : Element) (a b : ℕ) → power_of x (a + b) ≡ mul (power_of x a) (power_of x b)
  unfolding power_of
  power_of-add x zero b = (let e : zero + b ≡ b = omega arith in ap (power_of x) e)
      ∙ sym (one_mul (power_of x b))
  power_of-add x (suc a) b = (let e : suc a + b ≡ suc (a + b) = omega arith in ap (power_of x) e)
      ∙ ap (mul x) (power_of-add x a b) ∙ sym (S.mul_assoc x (power_of x a) (power_of x b))

  worth_of-add_exponents : (values : ℕ → Element) (m n : List ℕ)
      → worth_of values (add_exponents m n) ≡ mul (worth_of values m) (worth_of values n)
  unfolding worth_of
  worth_of-add_exponents values [] n = sym (one_mul (worth_of values n))
  worth_of-add_exponents values (a ∷ es) [] = sym (S.mul_one _)
  worth_of-add_exponents values (a ∷ es) (b ∷ fs) =
      ap₂ mul (power_of-add (values 0) a b) (worth_of-add_exponents (λ i. values (suc i)) es fs)
      ∙ mul_medial _ _ _ _

  worth_of-single : (values : ℕ → Element) (n : ℕ) → worth_of values (single n) ≡ values n
  unfolding worth_of power_of
  worth_of-single values zero = S.mul_one _ ∙ S.mul_one _
  worth_of-single values (suc n) = one_mul _ ∙ worth_of-single (λ i. values (suc i)) n

  worth-insert_term : (values : ℕ → Element) (k : Numeral) (m : List ℕ) (p : Poly Numeral)
      → worth values (insert_term k m p) ≡ add (mul (value k) (worth_of values m)) (worth values p)
  unfolding worth
  worth-insert_term values k m none = refl
  worth-insert_term values k m (more l n p) =
      place (compare_exponents m n) refl (worth-insert_term values k m p)
    where
      place : (r : Ordering) → compare_exponents m n ≡ r
          → worth values (insert_term k m p) ≡ add (mul (value k) (worth_of values m)) (worth values p)
          → worth values (elim r [
            | Ordering.lt ↦ more k m (more l n p)
            | Ordering.eq ↦ more
                (numeral_add k l) n p
            | Ordering.gt ↦ more l n (insert_term k m p)
          ]) ≡ add
          (mul (value k) (worth_of values m)) (worth values (more l n p))
      place Ordering.lt e h = refl
      place Ordering.eq e h = ap (λ x. add x (worth values p))
          (ap (λ x. mul x (worth_of values n)) (S.value_add k l) ∙ add_mul _ _ _) ∙ S.add_assoc _ _ _
          ∙ ap (λ x. add (mul (value k) (worth_of values x)) (worth values (more l n p)))
          (sym (compare_exponents-eq m n e))
      place Ordering.gt e h = ap (add _) h ∙ add_left_comm _ _ _

  worth-add_poly : (values : ℕ → Element) (p q : Poly Numeral)
      → worth values (add_poly p q) ≡ add (worth values p) (worth values q)
  unfolding worth
  worth-add_poly values none q = sym (nil_add _)
  worth-add_poly values (more k m p) q = worth-insert_term values k m (add_poly p q)
      ∙ ap (add _) (worth-add_poly values p q) ∙ sym (S.add_assoc _ _ _)

  worth-scale_poly : (values : ℕ → Element) (k : Numeral) (m : List ℕ) (p : Poly Numeral)
      → worth values (scale_poly k m p) ≡ mul (mul (value k) (worth_of values m)) (worth values p)
  unfolding worth
  worth-scale_poly values k m none = sym (mul_nil _)
  worth-scale_poly values k m (more l n p) =
      ap₂ add (ap₂ mul (S.value_mul k l) (worth_of-add_exponents values m n) ∙ mul_medial _ _ _ _)
      (worth-scale_poly values k m p) ∙ sym (S.mul_add _ _ _)

  worth-mul_poly : (values : ℕ → Element) (p q : Poly Numeral)
      → worth values (mul_poly p q) ≡ mul (worth values p) (worth values q)
  unfolding worth
  worth-mul_poly values none q = sym (S.mul_comm _ _ ∙ mul_nil _)
  worth-mul_poly values (more k m p) q = worth-add_poly values (scale_poly k m q) (mul_poly p q)
      ∙ ap₂ add (worth-scale_poly values k m q) (worth-mul_poly values p q) ∙ sym (add_mul _ _ _)

  worth-minus : (values : ℕ → Element) (p : Poly Numeral)
      → worth values (scale_poly numeral_minus_one [] p) ≡ neg (worth values p)
  unfolding worth_of
  worth-minus values p = worth-scale_poly values numeral_minus_one [] p
      ∙ ap (λ x. mul x (worth values p)) (S.mul_one _ ∙ S.value_minus_one) ∙ neg_is _

  pub sound : (values : ℕ → Element) (e : Expr Numeral) → worth values (normal_form e) ≡ eval values e
  unfolding worth worth_of
  sound values (con k) = S.add_nil _ ∙ S.mul_one _
  sound values (var n) = S.add_nil _ ∙ ap₂ mul S.value_one (worth_of-single values n) ∙ one_mul _
  sound values (e ⊕ f) = worth-add_poly values (normal_form e) (normal_form f)
      ∙ ap₂ add (sound values e) (sound values f)
  sound values (e ⊗ f) = worth-mul_poly values (normal_form e) (normal_form f)
      ∙ ap₂ mul (sound values e) (sound values f)
  sound values (e ⊖ f) = worth-add_poly values (normal_form e)
      (scale_poly numeral_minus_one [] (normal_form f))
      ∙ ap₂ add (sound values e) (worth-minus values (normal_form f) ∙ ap neg (sound values f))
  sound values (minus e) = worth-minus values (normal_form e) ∙ ap neg (sound values e)

  and_parts : (a b : Bool) → a && b ≡ true → (a ≡ true) × (b ≡ true)
  and_parts true true h = (refl, refl)
  and_parts true false h = cc
  and_parts false b h = cc

  worth-nil : (values : ℕ → Element) (p : Poly Numeral) → all_nil p ≡ true → worth values p ≡ nil
  unfolding worth
  worth-nil values none h = refl
  worth-nil values (more k m p) h = let b = and_parts (is_nil k) (all_nil p) h in
      ap₂ add (ap (λ x. mul x (worth_of values m)) (S.value_nil k b.0) ∙ S.mul_comm _ _ ∙ mul_nil _)
      (worth-nil values p b.1) ∙ S.add_nil nil

  -- two expressions whose difference has the normal form 0 have one value
  pub solve : (values : ℕ → Element) (e f : Expr Numeral) → all_nil (normal_form (e ⊖ f)) ≡ true
      → eval values e ≡ eval values f
  solve values e f h = same_when _ _ (sym (sound values (e ⊖ f)) ∙ worth-nil values (normal_form (e ⊖ f)) h)
