-- The rules hold of a lump.
use Rattle.std.specs.Prelude.{◌≡◌, ℕ, zero, suc, ◌<◌, ◌≤◌, ◌^◌, pos, unsigned_abs, All, [], ◌∷◌, length, refl}
use Rattle.std.specs.Prelude.{slice_index, codes}
use Rattle.std.specs.List.{AllPass}
use Rattle.std.proofs.Common.{arith, lit≤, lit<}
use Rattle.model_specs.specs.Names.{IsGoodName, is_name_byte}
use Rattle.model_specs.specs.RecordRules.{AreDistinct, IsBounded, IsBoundedCurve}
use Rattle.model_laws.specs.Examples.{constant_curve}
use Rattle.model_laws.specs.RuleInstances.{LumpIsAdmissible}
use Rattle.model_laws.proofs.GoodNames.{on_is_good}
use Rattle.whole_laws.proofs.Members.{All-one}

none : {A : Type 0} (P : A → Type 0) → All P []
none P k d b = absurd (omega arith)

alone : {A : Type 0} (bare x : A) → AreDistinct bare (x ∷ [])
alone bare x i j low within = absurd (omega arith)

absent : {A : Type 0} (bare : A) → AreDistinct bare []
absent bare i j low within = absurd (omega arith)

twentieth-bounded : IsBounded (pos 1 ∷ pos 0 ∷ pos 0 ∷ pos 0 ∷ pos 0 ∷ pos 0 ∷ []) 12
twentieth-bounded zero b = lit≤ tt
twentieth-bounded (suc zero) b = lit≤ tt
twentieth-bounded (suc (suc zero)) b = lit≤ tt
twentieth-bounded (suc (suc (suc zero))) b = lit≤ tt
twentieth-bounded (suc (suc (suc (suc zero)))) b = lit≤ tt
twentieth-bounded (suc (suc (suc (suc (suc zero))))) b = lit≤ tt
twentieth-bounded (suc (suc (suc (suc (suc (suc i)))))) b = absurd (omega arith)

example-is-good : IsGoodName 40 (codes "example")
example-is-good = record { not_empty = lit< tt; short = lit≤ tt; bytes = bytes }
  where
    bytes : AllPass is_name_byte (codes "example")
    bytes zero d b = refl
    bytes (suc zero) d b = refl
    bytes (suc (suc zero)) d b = refl
    bytes (suc (suc (suc zero))) d b = refl
    bytes (suc (suc (suc (suc zero)))) d b = refl
    bytes (suc (suc (suc (suc (suc zero))))) d b = refl
    bytes (suc (suc (suc (suc (suc (suc zero)))))) d b = refl
    bytes (suc (suc (suc (suc (suc (suc (suc k))))))) d b = absurd (omega arith)

pub lump_is_admissible : LumpIsAdmissible
lump_is_admissible = record {
  well_formed = record {
    names = record {
      name = example-is-good;
      some_state = lit≤ tt;
      at_most_twelve = lit≤ tt;
      states = All-one (IsGoodName 24) (codes "on") on_is_good;
      distinct = alone [] (codes "on");
    };
    head = record {
      some_month = lit≤ tt;
      at_most_a_century = lit≤ tt;
      some_denominator = lit≤ tt;
      largest_denominator = lit≤ tt;
      start = lit< tt;
    };
    transitions = record {
      from = none _;
      to = none _;
      different = none _;
      distinct = λ i j low within. absurd (omega arith);
    };
    curves = record {
      interest = record {
        six = All-one (λ piece. length piece.c ≡ 6) _ refl;
        starts = record {
          some = lit≤ tt;
          first = refl;
          rising = λ k b. absurd (omega arith);
          below = below;
        };
      };
      rates = none _;
      bounded_interest = bounded;
      bounded_rates = none _;
    };
    payments = record {
      states = none _;
      distinct = absent 0;
      sojourns = none _;
      sums = none _;
      bounded_sojourns = none _;
      bounded_sums = none _;
    };
    lumps = record {
      dates = All-one (λ l. l.month ≤ 12) _ (lit≤ tt);
      states = All-one (λ l. l.state < 1) _ (lit< tt);
      amounts = All-one (λ l. unsigned_abs l.amount ≤ 10 ^ 12) _ (lit≤ tt);
      distinct = λ i j low within. absurd (omega arith);
    };
    pattern = record {
      payers = none _;
      distinct = absent 0;
      until_above_0 = λ b. absurd (omega arith);
      until_within = lit≤ tt;
      every = lit≤ tt;
      never_until = λ e. refl;
      never_every = λ e. refl;
    };
  };
  valuation = refl;
}
  where
    below : (k : ℕ) → k < 1 → slice_index (0 ∷ []) k < 12
    below zero b = lit< tt
    below (suc k) b = absurd (omega arith)

    bounded : IsBoundedCurve 12 (constant_curve (pos 1))
    bounded zero b = twentieth-bounded
    bounded (suc k) b = absurd (omega arith)
