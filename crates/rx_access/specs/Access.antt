-- When the rows that a candidate visits answer a question, and which texts have to be UTF-8 for it.
use Rattle.std.specs.Prelude.{◌≡◌, ℕ, true, IsPermutation}
use Rattle.rx_value.specs.declared.shapes.Schema.{Schema}
use Rattle.rx_cond.specs.Tree.{Tree}
use Rattle.rx_regions.specs.Texts.{ComparesUtf8, cuts}
use Rattle.rx_query.specs.Steps.{Question}
use Rattle.rx_index.specs.declared.indexed.Indexed.{Indexed}
use Rattle.rx_store.specs.Tables.{Meaning}
use Rattle.rx_cost.specs.declared.candidates.Candidate.{Candidate}
use Rattle.rx_rows.specs.Finish.{answered}
use Rattle.rx_estimate.specs.Estimates.{parts_in}
use Rattle.rx_scan.specs.Visits.{visited}

-- where a part of an index has a prefix length, the texts that a condition compares by an operator are UTF-8
abbrev pub ComparesWhereCut : Schema → Tree → Type 0
ComparesWhereCut schema cond = (index : ℕ) → cuts (parts_in schema index) ≡ true → ComparesUtf8 cond

-- over the rows that a candidate visits a question has the output rows that it has over all rows, each as often, in some order
abbrev pub IsAnswerOf : Question → Meaning → Indexed → Candidate → Type 0
IsAnswerOf q table t candidate = IsPermutation (answered q t.rows) (answered q (visited candidate table))
