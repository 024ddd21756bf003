-- The plan of a question.
use Rattle.std.specs.Prelude.{◌≡◌, ◌≤◌, ◌++◌, min, length, map, IfSome, All}
use Rattle.std.specs.List.{sum_by}
use Rattle.rx_store.specs.Tables.{Meaning}
use Rattle.rx_query.specs.Steps.{Question}
use Rattle.rx_query.specs.declared.settings.Settings.{Settings}
use Rattle.rx_cost.specs.Costs.{most_counted}
use Rattle.rx_cost.specs.Choice.{cost_of, IsFirstLeast}
use Rattle.rx_cost.specs.declared.candidates.Candidate.{Candidate}
use Rattle.rx_plan.specs.declared.plans.OrdinaryPlan.{OrdinaryPlan}
use Rattle.rx_scan.specs.Handing.{IsScan}
use Rattle.rx_scan.specs.Visits.{ranges_of}
use Rattle.rx_engine.specs.declared.plans.Plan.{Plan}
use Rattle.rx_plan.specs.Seeks.{most_told, seeks_of_candidate}
use Rattle.rx_engine.specs.Candidates.{reasons_of, dives_of, candidates_of}

-- a candidate has no more ranges than a cost is told for
abbrev pub HasFewRanges : Candidate → Type 0
HasFewRanges candidate = length (ranges_of candidate) ≤ most_counted

-- A plan, whether the rows are told or not: the reason of each index, the seeks of the estimates as far as a number goes, candidates that can be run, and the place of the
-- first of least cost. Where the rows are told, the candidates are exactly the defined ones.
pub record IsPlan (settings : Settings) (q : Question) (table : Meaning) (plan : Plan) : Type 0 where
  pub reasons : plan.reasons ≡ reasons_of settings q table.schema
  pub dives : plan.dives ≡ min most_told (dives_of settings q table.schema)
  pub place : IsFirstLeast (map cost_of plan.all) plan.chosen
  pub can_run : All (IsScan table.schema) plan.all
  pub few : All HasFewRanges plan.all
  pub told : IfSome table.told (λ t. plan.all ≡ candidates_of settings q table t)

-- a plan has all candidates of an ordinary plan in one list, with the place of the first of least cost, and the seeks that its scans tell of
pub record IsListed (ordinary : OrdinaryPlan) (plan : Plan) : Type 0 where
  pub all : plan.all ≡ ordinary.scans ++ ordinary.ranges
  pub reasons : plan.reasons ≡ ordinary.answers
  pub dives : plan.dives ≡ min most_told (sum_by seeks_of_candidate ordinary.ranges)
  pub place : IsFirstLeast (map cost_of plan.all) plan.chosen
