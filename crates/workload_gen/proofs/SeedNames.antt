-- The name of a generated product is a good one.
use Rattle.std.proofs.Common.{◌≡◌, ℕ, zero, suc, ◌+◌, ◌%◌, ◌^◌, ◌<◌, ◌≤◌, List, [], ◌∷◌, ◌++◌, length, arith, refl}
use Rattle.std.specs.Prelude.{Bool, true, false, None, ◌&&◌, nat_lt, nat_le, decimal}
use Rattle.std.specs.List.{list_all}
use Rattle.std.proofs.lemmas.Bool.Decides.{nat_tests}
use Rattle.std.proofs.lemmas.Fmt.{decimal_by_steps, length-decimal-le}
use Rattle.model_specs.specs.Names.{is_name_byte}
use Rattle.product_file.specs.Checks.{first_failed}
use Rattle.product_file.specs.HeadRules.{rule_3, is_good_name}
use Rattle.workload_gen.specs.Tree.{name, generated}
use Rattle.whole_laws.proofs.Tests.{passes_both}

-- a digit may stand in a name
digit_passes : (d : ℕ) → d < 10 → is_name_byte (48 + d) ≡ true
digit_passes zero h = refl
digit_passes (suc zero) h = refl
digit_passes (suc (suc zero)) h = refl
digit_passes (suc (suc (suc zero))) h = refl
digit_passes (suc (suc (suc (suc zero)))) h = refl
digit_passes (suc (suc (suc (suc (suc zero))))) h = refl
digit_passes (suc (suc (suc (suc (suc (suc zero)))))) h = refl
digit_passes (suc (suc (suc (suc (suc (suc (suc zero))))))) h = refl
digit_passes (suc (suc (suc (suc (suc (suc (suc (suc zero)))))))) h = refl
digit_passes (suc (suc (suc (suc (suc (suc (suc (suc (suc zero))))))))) h = refl
digit_passes (suc (suc (suc (suc (suc (suc (suc (suc (suc (suc d)))))))))) h = absurd (omega arith)

one_more_passes : (test : ℕ → Bool) (bytes : List ℕ) (last : ℕ) → list_all test bytes ≡ true → test last ≡ true
    → list_all test (bytes ++ last ∷ []) ≡ true
one_more_passes test [] last h k = passes_both (test last) true k refl
one_more_passes test (b ∷ bytes) last h k = split (test b) (list_all test bytes) _ h
    (λ rest. one_more_passes test bytes last rest k)
  where
    split : (a rest more : Bool) → (a && rest) ≡ true → (rest ≡ true → more ≡ true) → (a && more) ≡ true
    split true rest more h go = go h
    split false rest more h go = h

decimal_passes : (n : ℕ) → n < 2 ^ 64 → list_all is_name_byte (decimal n) ≡ true
decimal_passes = decimal_by_steps (λ n ds. list_all is_name_byte ds ≡ true)
    (λ n below. passes_both (is_name_byte (48 + n)) true (digit_passes n below) refl)
    (λ n ds least sofar. one_more_passes is_name_byte ds (48 + n % 10) sofar (digit_passes (n % 10) (omega arith)))

-- ten bytes and at most twenty digits
ten_more : (n : ℕ) → n ≤ 20
    → (nat_lt 0 (suc (suc (suc (suc (suc (suc (suc (suc (suc (suc n))))))))))
    && nat_le (suc (suc (suc (suc (suc (suc (suc (suc (suc (suc n)))))))))) 40) ≡ true
ten_more n h =
    let some : nat_lt 0 (suc (suc (suc (suc (suc (suc (suc (suc (suc (suc n)))))))))) ≡ true =
    grind (arith, nat_tests) in
    let most : nat_le (suc (suc (suc (suc (suc (suc (suc (suc (suc (suc n)))))))))) 40 ≡ true =
    grind (arith, nat_tests) in
    passes_both _ _ some most

name_is_good : (seed : ℕ) → seed < 2 ^ 64 → is_good_name 40 (name seed) ≡ true
name_is_good seed below =
    let short : length (decimal seed) ≤ 20 = length-decimal-le 20 seed (omega arith) (omega arith) below in
    passes_both _ _ (ten_more (length (decimal seed)) short) (decimal_passes seed below)

pub names_pass : (seed : ℕ) → seed < 2 ^ 64 → first_failed (rule_3 (generated seed)) ≡ None
names_pass seed below = rw (name_is_good seed below)
