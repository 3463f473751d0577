-- The whole numbers are a commutative ring, and the ring solver over them.
use Rattle.std.specs.Prelude.{◌≡◌, ℤ, pos, negsuc, ◌+ℤ◌, ◌*ℤ◌, neg_ℤ, Bool, true, false, List}
use Rattle.std.specs.Prelude.{◌+◌, ◌*◌}
use Rattle.std.proofs.Common.{refl, arith, ap}
use Rattle.std.proofs.lemmas.Int.{ints}
use lib.IntN.{+ℤ_comm, +ℤ_assoc, +ℤ_idr, +ℤ_invr, *ℤ_comm}
use lib.Dec.{eqb}
use borrow.Author.Differences.{up, down, same_in, product_is, sum_is_lem}
use Rattle.frac_base.proofs.Ring.{RingOver, Expr, ◌⊖◌, normal_form, all_nil, eval, solve, pick}

up_mul : (a b : ℤ) → up (a *ℤ b) ≡ up a * up b + down a * down b
up_mul a b = (product_is a b).0

down_mul : (a b : ℤ) → down (a *ℤ b) ≡ up a * down b + down a * up b
down_mul a b = (product_is a b).1

pub mul_assoc : (a b c : ℤ) → (a *ℤ b) *ℤ c ≡ a *ℤ (b *ℤ c)
mul_assoc a b c = same_in _ _ (simp (up_mul, down_mul) (omega arith))

pub mul_add : (a b c : ℤ) → a *ℤ (b +ℤ c) ≡ a *ℤ b +ℤ a *ℤ c
mul_add a b c = same_in _ _ (simp (up_mul, down_mul)
    (omega (
      arith,
      sum_is_lem (a *ℤ b) (a *ℤ c),
      up_mul a b,
      up_mul a c,
      down_mul a b,
      down_mul a c,
      ap (λ x. up a * x) (sum_is_lem b c),
      ap (λ x. down a * x) (sum_is_lem b c),
    )))

pub mul_one : (a : ℤ) → a *ℤ pos 1 ≡ a
mul_one a = omega (arith, ints)

abbrev pub is_zero : ℤ → Bool
is_zero (pos n) = eqb n 0
is_zero (negsuc n) = false

pub is_zero-zero : (z : ℤ) → is_zero z ≡ true → z ≡ pos 0
is_zero-zero z h = grind (arith, ints)

abbrev pub whole_ring : RingOver
whole_ring = record {
  Element = ℤ;
  nil = pos 0;
  one = pos 1;
  add = ◌+ℤ◌;
  mul = ◌*ℤ◌;
  neg = neg_ℤ;
  add_comm = +ℤ_comm;
  add_assoc = +ℤ_assoc;
  add_nil = +ℤ_idr;
  add_neg = +ℤ_invr;
  mul_comm = *ℤ_comm;
  mul_assoc = mul_assoc;
  mul_one = mul_one;
  mul_add = mul_add;
  Numeral = ℤ;
  numeral_one = pos 1;
  numeral_minus_one = negsuc 0;
  numeral_add = ◌+ℤ◌;
  numeral_mul = ◌*ℤ◌;
  is_nil = is_zero;
  value = λ k. k;
  value_one = refl;
  value_minus_one = refl;
  value_add = λ k l. refl;
  value_mul = λ k l. refl;
  value_nil = is_zero-zero;
}

-- two expressions with one normal form have one value
pub same_value : (xs : List ℤ) (e f : Expr ℤ) → all_nil whole_ring (normal_form whole_ring (e ⊖ f)) ≡ true
    → eval whole_ring (pick (pos 0) xs) e ≡ eval whole_ring (pick (pos 0) xs) f
same_value xs e f h = solve whole_ring (pick (pos 0) xs) e f h
