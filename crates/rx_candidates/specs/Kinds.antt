-- What a candidate of each kind is.
use Rattle.std.specs.Prelude.{◌≡◌}
use Rattle.rx_query.specs.declared.settings.Settings.{Settings}
use Rattle.rx_query.specs.Steps.{Question}
use Rattle.rx_index.specs.declared.indexed.Indexed.{Indexed}
use Rattle.rx_store.specs.Tables.{Meaning}
use Rattle.rx_cost.specs.declared.candidates.Kind.{Kind}
use Rattle.rx_cost.specs.declared.candidates.Kind.TheVariants.{Table, Index, Range}
use Rattle.rx_cost.specs.declared.candidates.Candidate.{Candidate}
use Rattle.rx_plan.specs.Candidates.{table_scan}
use Rattle.rx_plan.specs.Kinds.{IsCoveringScan, IsScanOfRanges}

-- what a candidate of a kind is; there are no candidates of the other kinds as long as none is run
abbrev pub IsOfKind : Kind → Settings → Question → Meaning → Indexed → Candidate → Type 0
IsOfKind Table settings q table t candidate = candidate ≡ table_scan table.count
IsOfKind Index settings q table t candidate = IsCoveringScan q table candidate
IsOfKind Range settings q table t candidate = IsScanOfRanges settings q table t candidate
IsOfKind _ settings q table t candidate = ⊥

-- a candidate is what its kind says
abbrev pub IsOfItsKind : Settings → Question → Meaning → Indexed → Candidate → Type 0
IsOfItsKind settings q table t candidate = IsOfKind candidate.kind settings q table t candidate
