-- What holds of each kind of candidates holds of all.
use Rattle.std.proofs.Common.{List, [], ◌∷◌, ◌++◌, All}
use Rattle.std.proofs.lemmas.List.Elements.{All-append, All-cons}
use Rattle.rx_query.specs.declared.settings.Settings.{Settings}
use Rattle.rx_query.specs.Steps.{Question}
use Rattle.rx_index.specs.declared.indexed.Indexed.{Indexed}
use Rattle.rx_store.specs.Tables.{Meaning}
use Rattle.rx_cost.specs.declared.candidates.Candidate.{Candidate}
use Rattle.rx_plan.specs.Known.{Known}
use Rattle.rx_plan.specs.Candidates.{table_scan, covering_scans, range_scans}
use Rattle.rx_candidates.specs.Candidates.{candidates, loose_scans, skip_scans, intersections, unions}

pub all_these : (P : Candidate → Type 0) (settings : Settings) (q : Question) (table : Meaning) (t : Indexed) (known : List Known)
    → P (table_scan table.count) → All P (covering_scans q table) → All P (loose_scans settings q table) → All P (skip_scans settings q table)
    → All P (range_scans settings q table t known) → All P (intersections settings q table t known) → All P (unions settings q table t)
    → All P (candidates settings q table t known)
all_these P settings q table t known here covering loose skip ranged met joined =
    All-cons P (table_scan table.count) _ here
    (All-append P (covering_scans q table) _ covering
    (All-append P (loose_scans settings q table) _ loose
    (All-append P (skip_scans settings q table) _ skip
    (All-append P (range_scans settings q table t known) _ ranged
    (All-append P (intersections settings q table t known) (unions settings q table t) met joined)))))
