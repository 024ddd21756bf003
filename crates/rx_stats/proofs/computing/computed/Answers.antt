use Rattle.std.proofs.Common.{◌≤◌, length, take_all, subst, arith}
use Rattle.rx_index.proofs.Making.{few_indexes}
use Rattle.rx_stats.specs.Computed.{AreNumbers, AreComputed}
use Rattle.rx_stats.proofs.Adding.{index_more}
use Rattle.rx_stats.proofs.Suiting.{computed_suit}
use Rattle.rx_stats.proofs.computing.computed.Goals as goal

pub overflow_cast-index : goal.overflow_cast-index
overflow_cast-index c = omega (arith, few_indexes c.args.t.now.schema c.requires.limits, c.loop-n-test.true, c.len-count.ensures)

pub loop-n-preserved : goal.loop-n-preserved
loop-n-preserved c =
    let t = c.args.t.now in
    index_more t c.loop-n.n c.loop-n.statistics c.push.new.self c.in_ok-numbers.numbers (omega (arith, c.loop-n-test.true, c.len-count.ensures)) c.loop-n.invariant
    (subst (λ p. AreNumbers p t.rows c.in_ok-numbers.numbers) c.parts.ensures (subst (λ r. AreNumbers c.parts.result.now r c.in_ok-numbers.numbers) c.as_slice.ensures c.in_ok-numbers.ensures))
    c.in_ok-push.ensures.ok

pub returns-clause-exact : goal.returns-clause-exact
returns-clause-exact c =
    let t = c.args.t.now in
    let passed : length t.schema.indexes ≤ c.loop-n.n = omega (arith, c.loop-n-test.false, c.len-count.ensures) in
    subst (λ indexes. AreComputed indexes t.rows c.loop-n.statistics) (take_all c.loop-n.n t.schema.indexes passed) c.loop-n.invariant

pub returns-clause-suits : goal.returns-clause-suits
returns-clause-suits c = computed_suit c.args.t.now c.loop-n.statistics c.requires.entered (returns-clause-exact c)
