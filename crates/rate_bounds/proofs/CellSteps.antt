-- Ledgers after one cell more, and lists of one date more.
use Rattle.std.proofs.Common.{◌≡◌, ℕ, suc, ◌+◌, ◌*◌, List, [], ◌∷◌, ◌++◌, ap, sym, ◌∙◌, add-one}
use Rattle.std.specs.Int.{div_ceil}
use Rattle.frac_laws.specs.Ledger.{grow}
use Rattle.whole_laws.specs.Whole.{list_of}
use Rattle.whole_laws.proofs.ListsByPlace.{list_of-next}
use Rattle.model_specs.specs.Ledgers.{grow_cells, second_grow_cells}

pub one_cell_more : (kappa add start cells ledger next : ℕ) → ledger ≡ grow_cells kappa add start cells
    → next ≡ grow ledger kappa add → next ≡ grow_cells kappa add start (cells + 1)
one_cell_more kappa add start cells ledger next sofar is =
    rw (add-one cells) (is ∙ ap (λ w. grow w kappa add) sofar)

pub second_cell_more : (kappa pay G w second cells ledger radius adds next : ℕ)
    → ledger ≡ second_grow_cells kappa pay G w second cells → radius ≡ grow_cells kappa 1024 w cells
    → adds ≡ div_ceil (2 * pay * radius) (1024 * G)
    → next ≡ grow ledger kappa (adds + 1024) → next ≡ second_grow_cells kappa pay G w second (cells + 1)
second_cell_more kappa pay G w second cells ledger radius adds next sofar first adds_are is =
    rw (add-one cells)
    (is ∙ ap (λ l. grow l kappa (adds + 1024)) sofar
    ∙ ap (λ a. grow (second_grow_cells kappa pay G w second cells) kappa (a + 1024))
    (adds_are ∙ ap (λ r. div_ceil (2 * pay * r) (1024 * G)) first))

pub one_date_more : (f : ℕ → ℕ) (n x : ℕ) (sofar more : List ℕ) → sofar ≡ list_of n f → x ≡ f n
    → more ≡ sofar ++ x ∷ [] → more ≡ list_of (n + 1) f
one_date_more f n x sofar more are here is =
    is ∙ ap (λ xs. xs ++ x ∷ []) are ∙ ap (λ y. list_of n f ++ y ∷ []) here ∙ sym (list_of-next n f)

pub all_dates : (f : ℕ → ℕ) (months n x : ℕ) (sofar more : List ℕ) → n ≡ months → sofar ≡ list_of n f → x ≡ f n
    → more ≡ sofar ++ x ∷ [] → more ≡ list_of (suc months) f
all_dates f months n x sofar more all are here is =
    one_date_more f n x sofar more are here is ∙ ap (λ k. list_of k f) (add-one n ∙ ap (λ k. suc k) all)
