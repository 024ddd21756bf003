use Rattle.rx_script.proofs.SelectLaws.{unfinished}
use Rattle.rx_script.specs.Clauses.{clauses_of}
use Rattle.rx_script.proofs.selects.select_at.Goals as goal

pub returns-then-not-is_empty : goal.returns-then-not-is_empty
returns-then-not-is_empty c =
    let head = rw c.in-Some.is at c.in_ok-head.ensures.0 in
    let source = rw c.in-Some-2.is at c.in_ok-source.ensures.0 in
    let clauses = rw c.in-Some-3.is at c.in_ok-clauses.ensures.0 in
    unfinished c.args.tokens.now _ _ _ _ _ _ head source clauses c.is_empty.ensures c.if-not-is_empty.true
