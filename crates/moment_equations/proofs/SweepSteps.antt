-- The sweep's dates, counted from the term.
use Rattle.std.specs.Prelude.{◌≡◌, ℕ, suc, pos, ◌+◌, ◌-◌, ◌*◌, ◌/◌, ◌<◌, ◌≤◌, max, ℤ, List, length, replicate}
use Rattle.std.proofs.Common.{sym, subst, ◌∙◌, arith}
use Rattle.model_specs.specs.Product.{Product}
use Rattle.fixed_interval.specs.declared.printed.Printed.{Printed}
use Rattle.thiele_backward.specs.Dates.{KeepsRowsFrom}
use Rattle.moment_equations.specs.declared.ends.Moment.{Moment}
use Rattle.moment_equations.specs.Dates.{HasDate, HasDatesFrom, AreNearFrom}
use Rattle.moment_equations.specs.NearMoments.{months_behind, AreNear, EnclosesMonth}
use Rattle.moment_equations.proofs.DateNumbers.{near_at_term}
use Rattle.moment_equations.proofs.WrittenDates.{dates_at_term, dates_more}

-- at the term
pub near_term : (product : Product) (n date : ℕ) (mid : List ℤ) → date ≡ product.months
    → mid ≡ replicate (length product.states + length product.states) (pos 0)
    → AreNear product n (product.months - date) mid
near_term product n date mid at is =
    let none : 0 ≡ product.months - date = omega (arith, at) in
    subst (λ k. AreNear product n k mid) none (near_at_term product n mid is)

pub term_written : (kind : Moment) (product : Product) (every degree date left : ℕ) (mid : List ℤ)
    (cells : List Printed) → date ≡ product.months → left ≡ product.months → 8 ≤ degree
    → length cells ≡ (product.months / every + 1) * length product.states → AreNearFrom product degree date mid
    → ((degree row : ℕ) → 8 ≤ degree → row * every ≡ date → AreNearFrom product degree date mid
    → HasDate kind product degree date row cells)
    → HasDatesFrom kind product every left degree cells
term_written kind product every degree date left mid cells at all least room near written =
    subst (λ d. HasDatesFrom kind product every d degree cells) (sym all)
    (dates_at_term kind product every degree cells room
    (λ row same. subst (λ d. HasDate kind product degree d row cells) at
    (written degree row least (same ∙ sym at) near)))

module _ (product : Product) (done date : ℕ) (inside : done < product.months)
    (date_is : date ≡ product.months - 1 - done) where
  before_is : product.months - (product.months - done) ≡ months_behind product date
  before_is = omega (arith, inside, date_is)

  after_is : suc (months_behind product date) ≡ product.months - date
  after_is = omega (arith, inside, date_is)

  pub date_before : product.months - done ≡ date + 1
  date_before = omega (arith, inside, date_is)

  pub date_after : product.months - (done + 1) ≡ date
  date_after = omega (arith, inside, date_is)

  -- at the month's end
  pub near_before : (degree n : ℕ) (mid : List ℤ) → AreNearFrom product degree (product.months - done) mid → degree ≤ n
      → AreNear product n (months_behind product date) mid
  near_before degree n mid near from = subst (λ k. AreNear product n k mid) before_is (near n from)

  -- and at its start
  pub near_after : (degree answered top : ℕ) (old new : List ℤ) → top ≡ max degree answered
      → AreNearFrom product degree (product.months - done) old
      → EnclosesMonth product (months_behind product date) answered old new → AreNearFrom product top date new
  near_after degree answered top old new is near encloses n from =
      subst (λ k. AreNear product n k new) after_is
      (encloses n (omega (arith, is, from)) (near_before degree n old near (omega (arith, is, from))))

  pub near_next : (top : ℕ) (new : List ℤ) → AreNearFrom product top date new
      → AreNearFrom product top (product.months - (done + 1)) new
  near_next top new near = subst (λ d. AreNearFrom product top d new) (sym date_after) near

  -- and the rows of a kind
  pub dates_next : (kind : Moment) (every degree answered top : ℕ) (old new : List Printed) (mid : List ℤ)
      → 0 < every → top ≡ max degree answered → 8 ≤ degree → length new ≡ length old
      → HasDatesFrom kind product every (product.months - done) degree old
      → KeepsRowsFrom (date / every + 1) (length product.states) old new
      → ((degree row : ℕ) → 8 ≤ degree → row * every ≡ date → AreNearFrom product degree date mid
      → HasDate kind product degree date row new)
      → AreNearFrom product top date mid → HasDatesFrom kind product every (product.months - (done + 1)) top new
  dates_next kind every degree answered top old new mid some is least long before kept written near =
      subst (λ d. HasDatesFrom kind product every d top new) (sym date_after)
      (dates_more kind product every degree top date old new some (omega (arith, is)) long
      (subst (λ d. HasDatesFrom kind product every d degree old) date_before before) kept
      (λ row same. written top row (omega (arith, is, least)) same near))
