use Rattle.std.proofs.Common.{ℕ, ◌+◌, ◌≤◌, length, map}
use Rattle.rx_query.specs.Steps.{step_of}
use Rattle.rx_statement.specs.Script.{parts_from}
use Rattle.rx_statement.proofs.Parts.{Left}
use Rattle.rx_statement.proofs.scripts.steps_of.Given as goal

-- what is done so far and what is left, and that numbers don't end
abbrev pub invariant-segments : goal.invariant-segments
invariant-segments l = record {
  left : Left l.fn.schema l.fn.bad (parts_from 1 l.fn.bad (map (λ segment. segment.now) l.fn.segments)) l.number (map (λ segment. segment.now) l.rest) (map step_of l.script);
  few : l.number + length l.rest ≤ length l.fn.segments + 1;
}

abbrev pub decreases-segments : goal.decreases-segments
decreases-segments l = length l.rest
