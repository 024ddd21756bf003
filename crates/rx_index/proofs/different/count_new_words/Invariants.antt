use Rattle.std.proofs.Common.{◌≡◌}
use Rattle.rx_index.specs.Marks.{count_new_words}
use Rattle.rx_index.proofs.different.count_new_words.Given as goal

-- the rows with new words so far
abbrev pub invariant-loop-place : goal.invariant-loop-place
invariant-loop-place l = l.count ≡ count_new_words l.list l.place
