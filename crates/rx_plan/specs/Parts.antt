-- What one index adds to the ordinary plan.
use Rattle.std.specs.Prelude.{◌≡◌, ℕ, List, [], ◌∷◌, ◌++◌, Option, Some, None, if◌then◌else◌, All}
use Rattle.rx_query.specs.declared.settings.Settings.{Settings}
use Rattle.rx_query.specs.Steps.{Question}
use Rattle.rx_store.specs.Tables.{Meaning}
use Rattle.rx_ranges.specs.Answers.{Answer}
use Rattle.rx_build.specs.declared.answers.Answer as found
use Rattle.rx_build.specs.Building.{answer_of}
use Rattle.rx_cost.specs.declared.candidates.Candidate.{Candidate}
use Rattle.rx_plan.specs.declared.plans.OrdinaryPlan.{OrdinaryPlan}
use Rattle.rx_plan.specs.declared.parts.IndexPlan.{IndexPlan}
use Rattle.rx_plan.specs.Known.{IsKnownAs, reason_as, ranged_as}
use Rattle.rx_plan.specs.Candidates.{index_scan, is_covering}
use Rattle.rx_plan.specs.Plan.{AreRangeScans, KeepsRows}

-- nothing, or one thing
abbrev pub listed : {A : Type 0} → Option A → List A
listed None = []
listed (Some x) = x ∷ []

-- what was found on an index, as plain data
abbrev pub answer_found : Option found.Answer → Option Answer
answer_found None = None
answer_found (Some a) = Some (answer_of a)

-- the covering scan of an index, where there is one
abbrev pub covering_at : Question → Meaning → ℕ → List Candidate
covering_at q table index = if is_covering q table.schema index then index_scan table.count index ∷ [] else []

-- a candidate is the range scan of an index where this was found, and none where there is no range scan; it loses no row
pub record IsRangePart (settings : Settings) (q : Question) (table : Meaning) (index : ℕ) (answer : Option Answer) (range : Option Candidate) : Type 0 where
  pub is : AreRangeScans settings q table (ranged_as index answer) (listed range)
  pub keep : All (KeepsRows table.schema q.cond) (listed range)

-- what one index adds: its reason, its covering scan and its range scan
pub record IsIndexPlan (settings : Settings) (q : Question) (table : Meaning) (index : ℕ) (part : IndexPlan) : Type 0 where
  pub answer : Option Answer
  pub known : IsKnownAs settings q table.schema index answer
  pub reason : part.reason ≡ reason_as answer
  pub scan : listed part.scan ≡ covering_at q table index
  pub range : IsRangePart settings q table index answer part.range

-- a plan with what one index adds
abbrev pub with_part : OrdinaryPlan → IndexPlan → OrdinaryPlan
with_part plan part = record {
  scans = plan.scans ++ listed part.scan;
  ranges = plan.ranges ++ listed part.range;
  answers = plan.answers ++ part.reason ∷ [];
}
