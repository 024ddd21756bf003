-- Each candidate reads what suits its scan: entries of whole parts, and rows by id.
use Rattle.std.proofs.Common.{◌≡◌, ◌∙◌, ℕ, true, not, ap, sym, subst}
use Rattle.std.proofs.lemmas.Bool.{and_parts}
use Rattle.rx_query.specs.declared.settings.Settings.{Settings}
use Rattle.rx_query.specs.Steps.{Question}
use Rattle.rx_index.specs.declared.indexed.Indexed.{Indexed}
use Rattle.rx_index.specs.Entries.{parts_at}
use Rattle.rx_store.specs.Tables.{Meaning, IsTold}
use Rattle.rx_cost.specs.declared.candidates.Kind.{Kind}
use Rattle.rx_cost.specs.declared.candidates.Kind.TheVariants.{Table, Index, Range, Group, SkipScan, Intersect, Union, SortUnion}
use Rattle.rx_cost.specs.declared.candidates.Candidate.{Candidate}
use Rattle.rx_estimate.specs.Estimates.{parts_in}
use Rattle.rx_plan.specs.Kinds.{IsCoveringScan, IsScanOfRanges}
use Rattle.rx_candidates.specs.Kinds.{IsOfKind, IsOfItsKind}
use Rattle.rx_scan.specs.Handed.{AreWhole}
use Rattle.rx_scan.specs.Laws.{reads_entries, AreById, SuitsScan}
use Rattle.rx_scan.specs.Visits.{index_of, ranges_of, is_primary}
use Rattle.rx_scan.proofs.Seeks.{same_parts}

-- what a range scan reads as entries it reads by entries alone
pub entries_alone : (table : Meaning) (c : Candidate) → reads_entries Range table.schema c ≡ true → c.index_only ≡ true
entries_alone table c e = (and_parts (not (is_primary table.schema (index_of c))) c.index_only e).1

module _ (settings : Settings) (q : Question) (table : Meaning) (t : Indexed) (told : IsTold table t) (c : Candidate) where
  parts_named : (index : ℕ) → index_of c ≡ index → parts_at t (index_of c) ≡ parts_in table.schema index
  parts_named index e = same_parts table t (index_of c) told ∙ ap (parts_in table.schema) e

  -- the parts of a covering scan, and those of a range scan with its ranges
  pub covering_parts : (h : IsCoveringScan q table c) → parts_at t (index_of c) ≡ parts_in table.schema h.index
  covering_parts h = parts_named h.index (ap index_of h.is)

  pub ranged_parts : (h : IsScanOfRanges settings q table t c) → parts_at t (index_of c) ≡ parts_in table.schema h.r.index
  ranged_parts h = parts_named h.r.index (ap index_of h.is)

  pub ranged_list : (h : IsScanOfRanges settings q table t c) → ranges_of c ≡ h.r.list
  ranged_list h = ap ranges_of h.is

  whole_by : (kind : Kind) → IsOfKind kind settings q table t c → reads_entries kind table.schema c ≡ true → AreWhole (parts_at t (index_of c))
  whole_by Index h e = subst AreWhole (sym (covering_parts h)) h.covers.whole
  whole_by Range h e = subst AreWhole (sym (ranged_parts h)) (h.covers (entries_alone table c e)).whole
  whole_by Table h e = absurd (cc e)
  whole_by Group h e = absurd h
  whole_by SkipScan h e = absurd h
  whole_by Intersect h e = absurd h
  whole_by Union h e = absurd h
  whole_by SortUnion h e = absurd h

  pub suits : AreById t → IsOfItsKind settings q table t c → SuitsScan table.schema c t
  suits by_id h = record { whole = whole_by c.kind h; by_id = λ kind primary. by_id }
