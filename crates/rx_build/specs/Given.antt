-- The one answer of a condition on an index, as a function.
use Rattle.std.specs.Prelude.{ℕ, List}
use Rattle.rx_value.specs.declared.shapes.Column.{Column}
use Rattle.rx_value.specs.declared.shapes.Part.{Part}
use Rattle.rx_cond.specs.Tree.{Tree}
use Rattle.rx_ranges.specs.Answers.{Answer}
use Rattle.rx_ranges.proofs.Some.{some_answer}

-- what is known of a condition on an index of these parts, over these columns and under this limit of items: there is exactly one answer
unfoldable pub answer_for : List Column → List Part → ℕ → Tree → Answer
answer_for columns parts limit t = (some_answer columns parts limit t).0
