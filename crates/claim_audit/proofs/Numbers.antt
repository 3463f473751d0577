-- Claims that are read have their numbers in a table of every month.
use Rattle.std.proofs.Common.{◌≡◌, ℕ, ◌+◌, ◌*◌, ◌/◌, ◌<◌, ◌≤◌, List, length, Option, Some, None}
use Rattle.std.proofs.Common.{arith, sym, ap, subst, ◌∙◌}
use Rattle.std.proofs.Math.Nat.{mul-le-mul_right}
use Rattle.std.proofs.lemmas.List.{get_or_default}
use Rattle.std.proofs.lemmas.Option.{slice_get_within}
use Rattle.std.specs.Prelude.{All}
use Rattle.frac_laws.specs.Fraction.{Fraction}
use Rattle.fixed_interval.specs.declared.tables.Table.{Table}
use Rattle.fixed_interval.specs.Tables.{IsTableFor}
use Rattle.claim_audit.specs.declared.claims.Claimed.{Claimed}
use Rattle.claim_audit.specs.Claims.{up_to, IsClaim}
use Rattle.claim_audit.specs.Readings.{record_at, claim_at, AreClaimsIn}
use Rattle.claim_audit.specs.Findings.{HasNumber}

-- a month that is read is at most the term
pub month_in_term : (months : ℕ) (read : Option ℕ) (month : ℕ) → up_to months read ≡ Some month → month ≤ months
month_in_term months None month is = absurd (let apart = is in cc)
month_in_term months (Some other) month is = grind arith

-- the place of a number in a table
in_table : (month months state states : ℕ) → month ≤ months → state < states
    → month * states + state < (months + 1) * states
in_table month months state states early there =
    let rows : (month + 1) * states ≤ (months + 1) * states = mul-le-mul_right states (omega (arith, early)) in
    omega (arith, rows, there)

-- a claim that is read has its number in the table
claim_has_number : (exact : (degree date state : ℕ) → Fraction) (width : ℕ → ℕ) (months : ℕ)
    (names fields : List (List ℕ)) (claimed : Claimed) (table : Table)
    → IsTableFor months (length names) 1 exact width table → IsClaim months names fields claimed
    → HasNumber table claimed
claim_has_number exact width months names fields claimed table is_table is_claim =
    let early = month_in_term months _ claimed.month is_claim.says.month_is in
    let there = slice_get_within names claimed.state is_claim.state is_claim.says.state_is in
    let term : months / 1 ≡ months = omega arith in
    let dated : claimed.month ≤ months / 1 = omega (arith, early, term) in
    let ends = is_table.ends claimed.month claimed.state dated there in
    let count : length table.cells.items ≡ (months + 1) * length names =
    is_table.count ∙ ap (λ last. (last + 1) * length names) term in
    let place : claimed.month * length names + claimed.state < length table.cells.items =
    rw count (in_table claimed.month months claimed.state (length names) early there) in
    record {
      place = subst (λ states. claimed.month * states + claimed.state < length table.cells.items)
          (sym is_table.states_is) place;
      ordered = ends.ordered;
      small_ends = ends.small;
      small_claim = omega (arith, is_claim.says.small);
    }

-- each claim of a CSV text has its number in the table
pub claims_have_numbers : (exact : (degree date state : ℕ) → Fraction) (width : ℕ → ℕ) (months : ℕ)
    (names : List (List ℕ)) (text : List ℕ) (claimed : List Claimed) (table : Table)
    → IsTableFor months (length names) 1 exact width table → AreClaimsIn months names text claimed
    → All (HasNumber table) claimed
claims_have_numbers exact width months names text claimed table is_table read k d within =
    subst (HasNumber table) (get_or_default claimed k _ d within)
    (claim_has_number exact width months names (record_at read.0 (k + 1)) (claim_at claimed k) table is_table
    (read.3.each k within))
