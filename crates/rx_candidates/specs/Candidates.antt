-- The candidates of a question in order: all ways to answer it, with their costs, and the one that runs.
use Rattle.std.specs.Prelude.{◌≡◌, ℕ, List, [], ◌∷◌, ◌++◌, map, slice_index_or, slice_get, Some}
use Rattle.rx_query.specs.declared.settings.Settings.{Settings}
use Rattle.rx_query.specs.Steps.{Question}
use Rattle.rx_index.specs.declared.indexed.Indexed.{Indexed}
use Rattle.rx_store.specs.Tables.{Meaning}
use Rattle.rx_cost.specs.declared.candidates.Candidate.{Candidate}
use Rattle.rx_cost.specs.Choice.{cost_of, IsFirstLeast, chosen_place}
use Rattle.rx_plan.specs.Known.{Known}
use Rattle.rx_plan.specs.Candidates.{table_scan, covering_scans, range_scans}

-- the loose scans in order: none as long as there is no planner of them
abbrev pub loose_scans : Settings → Question → Meaning → List Candidate
loose_scans settings q table = []

-- the skip scans in order: none as long as there is no planner of them
abbrev pub skip_scans : Settings → Question → Meaning → List Candidate
skip_scans settings q table = []

-- the intersections in order: none as long as none is run
abbrev pub intersections : Settings → Question → Meaning → Indexed → List Known → List Candidate
intersections settings q table t known = []

-- the unions in order, those of sorted ids too: none as long as none is run
abbrev pub unions : Settings → Question → Meaning → Indexed → List Candidate
unions settings q table t = []

-- All candidates of a question in order, by what is known of the indexes and the rows that the table tells: the table scan, the covering scans,
-- the loose scans, the skip scans, the range scans, the intersections, the unions.
abbrev pub candidates : Settings → Question → Meaning → Indexed → List Known → List Candidate
candidates settings q table t known =
    table_scan table.count ∷ (covering_scans q table
    ++ (loose_scans settings q table
    ++ (skip_scans settings q table
    ++ (range_scans settings q table t known
    ++ (intersections settings q table t known
    ++ unions settings q table t)))))

-- at the place of the first of the least costs stands this candidate
pub record IsChosen (all : List Candidate) (candidate : Candidate) : Type 0 where
  pub place : ℕ
  pub first : IsFirstLeast (map cost_of all) place
  pub there : slice_get all place ≡ Some candidate

-- the candidate that runs
abbrev pub chosen : Settings → Question → Meaning → Indexed → List Known → Candidate
chosen settings q table t known =
    slice_index_or (candidates settings q table t known) (chosen_place (candidates settings q table t known)) (table_scan table.count)
