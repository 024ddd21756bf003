-- The answer that is given is one, and the only one.
use Rattle.std.proofs.Common.{◌≡◌, ℕ, List}
use Rattle.rx_value.specs.declared.shapes.Column.{Column}
use Rattle.rx_value.specs.declared.shapes.Part.{Part}
use Rattle.rx_cond.specs.Tree.{Tree}
use Rattle.rx_ranges.specs.Answers.{Answer, IsAnswer}
use Rattle.rx_ranges.proofs.One.{one_answer}
use Rattle.rx_ranges.proofs.Some.{some_answer}
use Rattle.rx_build.specs.Given.{answer_for}

pub given_is_answer : (columns : List Column) (parts : List Part) (limit : ℕ) (t : Tree) → IsAnswer columns parts limit t (answer_for columns parts limit t)
unfolding answer_for
given_is_answer columns parts limit t = (some_answer columns parts limit t).1

pub answer_is_given : (columns : List Column) (parts : List Part) (limit : ℕ) (t : Tree) (a : Answer) → IsAnswer columns parts limit t a → a ≡ answer_for columns parts limit t
answer_is_given columns parts limit t a is = one_answer columns parts limit t a (answer_for columns parts limit t) is (given_is_answer columns parts limit t)
