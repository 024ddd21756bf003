-- What a covering scan and a range scan are.
use Rattle.std.specs.Prelude.{◌≡◌, ◌<◌, ℕ, true, false, List, length, None, All}
use Rattle.rx_value.specs.declared.shapes.Part.{Part}
use Rattle.rx_query.specs.declared.settings.Settings.{Settings}
use Rattle.rx_query.specs.Steps.{Question}
use Rattle.rx_index.specs.declared.indexed.Indexed.{Indexed}
use Rattle.rx_store.specs.Tables.{Meaning, HasIndex}
use Rattle.rx_ranges.specs.Answers.{IsUsed}
use Rattle.rx_estimate.specs.Estimates.{parts_in}
use Rattle.rx_cost.specs.declared.candidates.Candidate.{Candidate}
use Rattle.rx_named.specs.Naming.{names}
use Rattle.rx_plan.specs.Naming.{is_part, is_usable, is_primary}
use Rattle.rx_plan.specs.Known.{Ranged, items_limit}
use Rattle.rx_plan.specs.Candidates.{index_scan, range_scan, estimated}
use Rattle.rx_plan.specs.Plan.{KeepsRows}

-- an index has each column of a table of so many columns that a question names, none of its parts with a prefix length
pub record Covers (q : Question) (width : ℕ) (parts : List Part) : Type 0 where
  pub whole : All (λ part. part.chars ≡ None) parts
  pub named : (column : ℕ) → column < width → names q column ≡ true → is_part parts column ≡ true

-- the covering scan of an index that is there and may be used, isn't the primary key, and covers the question
pub record IsCoveringScan (q : Question) (table : Meaning) (candidate : Candidate) : Type 0 where
  pub index : ℕ
  pub there : HasIndex table index
  pub usable : is_usable q index ≡ true
  pub secondary : is_primary table.schema index ≡ false
  pub covers : Covers q (length table.schema.columns) (parts_in table.schema index)
  pub is : candidate ≡ index_scan table.count index

-- The scan of the ranges of an index that is there and may be used: so many of its parts are used, the ranges are the cover, the rows are the
-- estimate, and no row is lost. Where it reads entries alone, the index isn't the primary key, and covers the question.
pub record IsScanOfRanges (settings : Settings) (q : Question) (table : Meaning) (t : Indexed) (candidate : Candidate) : Type 0 where
  pub r : Ranged
  pub there : HasIndex table r.index
  pub usable : is_usable q r.index ≡ true
  pub parts : ℕ
  pub used : IsUsed table.schema.columns (parts_in table.schema r.index) (items_limit settings.memory) q.cond parts r.list
  pub is : candidate ≡ range_scan settings q table.schema r (estimated settings table t r)
  pub keep : KeepsRows table.schema q.cond candidate
  pub secondary : candidate.index_only ≡ true → is_primary table.schema r.index ≡ false
  pub covers : candidate.index_only ≡ true → Covers q (length table.schema.columns) (parts_in table.schema r.index)
