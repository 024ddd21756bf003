-- Each candidate is what its kind says.
use Rattle.std.proofs.Common.{◌≡◌, List, [], All, refl, sym, ap, subst}
use Rattle.std.proofs.lemmas.List.Elements.{All-nil, All-weaker}
use Rattle.rx_query.specs.declared.settings.Settings.{Settings}
use Rattle.rx_query.specs.Steps.{Question}
use Rattle.rx_index.specs.declared.indexed.Indexed.{Indexed}
use Rattle.rx_store.specs.Tables.{Meaning}
use Rattle.rx_cost.specs.declared.candidates.Kind.TheVariants.{Index, Range}
use Rattle.rx_cost.specs.declared.candidates.Candidate.{Candidate}
use Rattle.rx_plan.specs.Known.{Known, AreKnown}
use Rattle.rx_plan.specs.Candidates.{covering_scans, range_scans}
use Rattle.rx_plan.specs.Kinds.{IsCoveringScan, IsScanOfRanges}
use Rattle.rx_plan.proofs.Members.{coverings_are, ranges_known}
use Rattle.rx_candidates.specs.Candidates.{candidates}
use Rattle.rx_candidates.specs.Kinds.{IsOfKind, IsOfItsKind}
use Rattle.rx_candidates.proofs.Listed.{all_these}

module _ (settings : Settings) (q : Question) (table : Meaning) (t : Indexed) where
  covering_of_kind : (c : Candidate) → IsCoveringScan q table c → IsOfItsKind settings q table t c
  covering_of_kind c h = subst (λ kind. IsOfKind kind settings q table t c) (sym (ap (λ (x : Candidate). x.kind) h.is)) h

  range_of_kind : (c : Candidate) → IsScanOfRanges settings q table t c → IsOfItsKind settings q table t c
  range_of_kind c h = subst (λ kind. IsOfKind kind settings q table t c) (sym (ap (λ (x : Candidate). x.kind) h.is)) h

  -- all candidates are of their kinds
  pub all_of_kinds : (known : List Known) → AreKnown settings q table.schema known → All (IsOfItsKind settings q table t) (candidates settings q table t known)
  all_of_kinds known are =
      let P = IsOfItsKind settings q table t in
      all_these P settings q table t known refl
      (All-weaker (IsCoveringScan q table) P covering_of_kind (covering_scans q table) (coverings_are q table))
      (All-nil P) (All-nil P)
      (All-weaker (IsScanOfRanges settings q table t) P range_of_kind (range_scans settings q table t known) (ranges_known settings q table t known are))
      (All-nil P) (All-nil P)
