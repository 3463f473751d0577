-- What a loop makes of the members of a list that pass a test, one after the other.
use Rattle.std.proofs.Common.{◌≡◌, ℕ, zero, suc, ◌+◌, ◌<◌, List, [], ◌∷◌, ◌++◌, length, map, take, get_or, cond}
use Rattle.std.proofs.Common.{append-nil, arith, refl, ap, ◌∙◌, subst}
use Rattle.std.specs.Prelude.{All, Bool, true, false, filter}
use Rattle.std.proofs.lemmas.List.{map-append, take_more}
use Rattle.std.proofs.lemmas.List.Elements.{filter-append}

module _ {D Y : Type 0} (g : D → Y) (test : D → Bool) where
  one_further : (ds : List D) (i : ℕ) (d : D) (passes : Bool) → i < length ds → test (get_or ds i d) ≡ passes
      → map g (filter test (take (i + 1) ds))
      ≡ map g (filter test (take i ds)) ++ cond passes (g (get_or ds i d) ∷ []) []
  one_further ds i d passes inside is =
      ap (λ xs. map g (filter test xs)) (take_more ds i d inside)
      ∙ ap (map g) (filter-append test (take i ds) (get_or ds i d ∷ []))
      ∙ map-append g (filter test (take i ds)) (filter test (get_or ds i d ∷ []))
      ∙ ap (λ ys. map g (filter test (take i ds)) ++ ys) (alone passes is)
    where
      alone : (passes : Bool) → test (get_or ds i d) ≡ passes
          → map g (filter test (get_or ds i d ∷ [])) ≡ cond passes (g (get_or ds i d) ∷ []) []
      alone true is = rw is refl
      alone false is = rw is refl

  -- one that passes is taken, and another is left out
  pub member_is_taken : (ds : List D) (i : ℕ) (d : D) → i < length ds → test (get_or ds i d) ≡ true
      → map g (filter test (take (i + 1) ds)) ≡ map g (filter test (take i ds)) ++ g (get_or ds i d) ∷ []
  member_is_taken ds i d inside is = one_further ds i d true inside is

  pub member_is_left : (ds : List D) (i : ℕ) (d : D) → i < length ds → test (get_or ds i d) ≡ false
      → map g (filter test (take (i + 1) ds)) ≡ map g (filter test (take i ds))
  member_is_left ds i d inside is =
      one_further ds i d false inside is ∙ append-nil (map g (filter test (take i ds)))

  -- what holds of all that is made of them, holds of what is made of each
  pub holds_of_member : (P : Y → Type 0) (ds : List D) (i : ℕ) (d : D) → i < length ds → test (get_or ds i d) ≡ true
      → All P (map g (filter test ds)) → P (g (get_or ds i d))
  holds_of_member P [] i d inside is all = absurd (omega (arith, inside))
  holds_of_member P (x ∷ ds) zero d inside is all =
      subst (λ xs. All P (map g xs)) (head_passes is) all 0 (g x) (omega arith)
    where
      head_passes : test x ≡ true → filter test (x ∷ ds) ≡ x ∷ filter test ds
      head_passes head = rw head refl
  holds_of_member P (x ∷ ds) (suc i) d inside is all =
      behind (test x) refl (λ rest. holds_of_member P ds i d (omega (arith, inside)) is rest)
    where
      -- the members behind the first one, whether that passes or not
      behind : (b : Bool) → test x ≡ b → (All P (map g (filter test ds)) → P (g (get_or ds i d)))
          → P (g (get_or ds i d))
      behind true head rest =
          let all_of : All P (g x ∷ map g (filter test ds)) = rw head at all in
          rest (λ k e below. all_of (suc k) e (omega (arith, below)))
      behind false head rest = rest (rw head at all)
