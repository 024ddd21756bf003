-- What is known of the indexes of a table before any is read: what the condition of a question says of each.
use Rattle.std.specs.Prelude.{◌≡◌, ℕ, true, false, min, ◌/◌, nat_eq, if◌then◌else◌, List, [], ◌∷◌, map, Option, Some, None, All}
use Rattle.std.specs.List.{flat_map, sum_by}
use Rattle.rx_value.specs.declared.ranges.KeyRange.{KeyRange}
use Rattle.rx_value.specs.declared.shapes.Schema.{Schema}
use Rattle.rx_query.specs.declared.settings.Settings.{Settings}
use Rattle.rx_query.specs.Steps.{Question}
use Rattle.rx_cond.specs.Tree.{Tree}
use Rattle.rx_ranges.specs.Answers.{Answer, no_parts, whole, ranges, IsAnswer}
use Rattle.rx_build.specs.Given.{answer_for}
use Rattle.rx_cost.specs.declared.candidates.Reason.{Reason}
use Rattle.rx_cost.specs.declared.candidates.Reason.TheVariants.{Ranges, Whole, NoParts, Hint}
use Rattle.rx_estimate.specs.Estimates.{parts_in, dive_seeks}
use Rattle.rx_plan.specs.Naming.{is_usable, index_numbers}

-- The most items that the graph of a condition may have by `range_optimizer_max_mem_size`: a million where that is 0, else one for each 230
-- bytes, and no more than a million.
abbrev pub items_limit : ℕ → ℕ
items_limit memory = if nat_eq memory 0 then 1000000 else min 1000000 (memory / 230)

-- What is known of an index, by its number: none where a hint leaves it out, else the answer of the condition.
pub record Known : Type 0 where
  pub index : ℕ
  pub answer : Option Answer

-- a hint leaves an index out, or it is usable and this is the answer of the condition on its parts, within the limit of items
abbrev pub IsKnownAs : Settings → Question → Schema → ℕ → Option Answer → Type 0
IsKnownAs settings q schema index None = is_usable q index ≡ false
IsKnownAs settings q schema index (Some answer) =
    (is_usable q index ≡ true) × IsAnswer schema.columns (parts_in schema index) (items_limit settings.memory) q.cond answer

-- the same of what is known of an index
abbrev pub IsKnown : Settings → Question → Schema → Known → Type 0
IsKnown settings q schema known = IsKnownAs settings q schema known.index known.answer

-- what is known of all indexes of a table, in order
pub record AreKnown (settings : Settings) (q : Question) (schema : Schema) (known : List Known) : Type 0 where
  pub numbers : map (λ k. k.index) known ≡ index_numbers schema
  pub each : All (IsKnown settings q schema) known

-- what is known of an index by its number: the answer of a condition on its parts, where the index is usable
abbrev pub known_at : Settings → Question → Schema → Tree → ℕ → Known
known_at settings q schema cond index = record {
  index = index;
  answer = if is_usable q index then Some (answer_for schema.columns (parts_in schema index) (items_limit settings.memory) cond) else None;
}

-- what is known of all indexes by a condition, in order
abbrev pub known_by : Settings → Question → Schema → Tree → List Known
known_by settings q schema cond = map (known_at settings q schema cond) (index_numbers schema)

-- the same by the condition of the question
abbrev pub known_of : Settings → Question → Schema → List Known
known_of settings q schema = known_by settings q schema q.cond

-- why there is a range scan of an index, or none
abbrev pub reason_as : Option Answer → Reason
reason_as None = Hint
reason_as (Some no_parts) = NoParts
reason_as (Some whole) = Whole
reason_as (Some (ranges p list)) = Ranges

-- the reason of an index
abbrev pub reason_of : Known → Reason
reason_of known = reason_as known.answer

-- an index, by its number, and the ranges to which the condition narrows it
pub record Ranged : Type 0 where
  pub index : ℕ
  pub list : List KeyRange

-- an index with its ranges, where the answer is ranges
abbrev pub ranged_as : ℕ → Option Answer → List Ranged
ranged_as index (Some (ranges p list)) = record { index = index; list = list } ∷ []
ranged_as index _ = []

-- the indexes that the condition narrows to ranges, in order
abbrev pub ranged_in : List Known → List Ranged
ranged_in known = flat_map (λ k. ranged_as k.index k.answer) known

-- how many seeks the estimates of their ranges take
abbrev pub seeks_known : Settings → List Known → ℕ
seeks_known settings known = sum_by (λ r. dive_seeks settings.dive_limit r.list) (ranged_in known)
