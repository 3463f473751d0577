-- A table by months with one month more.
use Rattle.std.proofs.Common.{◌≡◌, ℕ, ◌+◌, List, [], ◌∷◌, ◌++◌, arith, sym, subst, inl, inr}
use Rattle.std.proofs.lemmas.Bool.{cases_lt}
use Rattle.std.proofs.lemmas.List.{length-append, get_or_push, get_or_append_left}
use Rattle.rate_bounds.specs.MonthTables.{IsTableOf}

pub table_of_more : {A : Type 0} (IsOf : ℕ → A → Type 0) (n : ℕ) (sofar more : List A) (x : A)
    → IsTableOf IsOf n sofar → IsOf n x → more ≡ sofar ++ x ∷ [] → IsTableOf IsOf (n + 1) more
table_of_more IsOf n sofar more x first here is =
    subst (IsTableOf IsOf (n + 1)) (sym is)
    (record {
      count = omega (arith, length-append sofar (x ∷ []), first.count);
      each = λ month d below. elim (cases_lt month n) [
        | inl before ↦
            let same = get_or_append_left sofar (x ∷ []) d month (omega (arith, first.count)) in
            subst (IsOf month) (sym same) (first.each month d before)
        | inr not_before ↦
            let last : month ≡ n = omega arith in
            let same = get_or_push sofar x d month (omega (arith, first.count)) in
            subst (IsOf month) (sym same) (subst (λ m. IsOf m x) (sym last) here)
      ];
    })
