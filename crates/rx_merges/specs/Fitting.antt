-- The scans of a condition that merges are made of.
use Rattle.std.specs.Prelude.{ℕ, ◌<◌, ◌≤◌, ◌^◌, List, length, All}
use Rattle.rx_value.specs.declared.shapes.Schema.{Schema}
use Rattle.rx_cost.specs.declared.candidates.Scan.{Scan}
use Rattle.rx_cost.specs.declared.candidates.Candidate.{Candidate}
use Rattle.rx_cost.specs.Costs.{most_counted}

-- how many indexes a table has at most, its primary key among them
abbrev pub most_scans : ℕ
most_scans = 65

-- the most that the ids of a scan cost
abbrev pub most_ids : ℕ
most_ids = 21100000

-- how many disjuncts a condition has at most that a union is made of
abbrev pub most_disjuncts : ℕ
most_disjuncts = 1048576

-- a scan has no more rows than a table of so many, nor more ranges than may be counted
pub record IsCounted (count : ℕ) (scan : Scan) : Type 0 where
  pub rows : scan.rows ≤ count
  pub ranges : length scan.ranges ≤ most_counted

-- scans over a table of so many rows: of indexes that are there, no more than there may be
pub record AreScans (schema : Schema) (count : ℕ) (scans : List Scan) : Type 0 where
  pub there : All (λ scan. scan.index < length schema.indexes) scans
  pub counted : All (IsCounted count) scans
  pub few : length scans ≤ most_scans

-- the most that a member of a union costs
abbrev pub most_member : ℕ
most_member = 10 ^ 10

-- a member of a union has no more rows than may be counted, and costs no more than it may
pub record IsMember (member : Candidate) : Type 0 where
  pub rows : member.rows ≤ most_counted
  pub cost : member.cost ≤ most_member
