-- First records that are holdings, and the record behind them.
use Rattle.std.proofs.Common.{◌≡◌, ℕ, ◌+◌, ◌<◌, List, [], ◌∷◌, ◌++◌, length, take, sym, ap, subst, ◌∙◌, arith}
use Rattle.std.proofs.lemmas.List.{length_push, take-append-le}
use Rattle.std.proofs.Math.Seq.{take-append_seam}
use Rattle.claim_audit.specs.Readings.{record_at}
use Rattle.claim_audit.proofs.ClaimLists.{one_more_by_place}
use Rattle.portfolio_run.specs.declared.reading.PolicyError.{PolicyError}
use Rattle.portfolio_run.specs.declared.reading.PolicyError.TheVariants as error
use Rattle.portfolio_run.specs.Holdings.{Holding, HasFault, IsHolding}
use Rattle.portfolio_run.specs.Readings.{BeginWith, TellsFault, TellsRow, files_of, holding_at}

-- no record is a holding yet
pub no_holding_yet : (records : List (List (List ℕ))) → 0 < length records → BeginWith records []
no_holding_yet records some = record { within = some; each = λ k within. absurd (omega (arith, within)) }

-- one holding more
pub one_holding_more : (records : List (List (List ℕ))) (holdings : List Holding) (holding : Holding)
    → BeginWith records holdings → length holdings + 1 < length records
    → IsHolding (files_of holdings) (record_at records (length holdings + 1)) holding
    → BeginWith records (holdings ++ holding ∷ [])
one_holding_more records holdings holding begin more last = record {
  within = rw (length_push holdings holding) more;
  each = one_more_by_place
      (λ k item. IsHolding (files_of (take k (holdings ++ holding ∷ []))) (record_at records (k + 1)) item) holdings
      holding _
      (λ k within. subst
      (λ before. IsHolding (files_of before) (record_at records (k + 1)) (holding_at holdings k))
      (sym (take-append-le k holdings (holding ∷ []) (omega (arith, within)))) (begin.each k within))
      (subst (λ before. IsHolding (files_of before) (record_at records (length holdings + 1)) holding)
      (sym (take-append_seam holdings (holding ∷ []))) last);
}

-- the fault of the record behind them is the first one
pub fault_is_first : (records : List (List (List ℕ))) (holdings : List Holding) (files fields : List (List ℕ)) (row : ℕ)
    (why : PolicyError) → files ≡ files_of holdings → BeginWith records holdings → row ≡ length holdings + 1
    → row < length records → record_at records row ≡ fields → TellsRow files fields row why
    → TellsFault records why
fault_is_first records holdings files fields row error.Memory files_are begin row_is within here tells = tt
fault_is_first records holdings files fields row (error.Row found) files_are begin row_is within here tells = record {
  before = holdings;
  begin = begin;
  row_is = tells.0 ∙ row_is;
  within = rw tells.0 within;
  first = tells.1;
  part_is = tells.2;
  fault = subst (λ names. HasFault names (record_at records found.row) tells.1) files_are
      (subst (λ f. HasFault files f tells.1) (sym (ap (record_at records) tells.0 ∙ here)) tells.3);
}
