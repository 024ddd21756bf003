use Rattle.rx_script.proofs.Parsed.{parsed}
use Rattle.rx_script.proofs.clauses.cond_at.Goals as goal

pub returns-in-Ok : goal.returns-in-Ok
returns-in-Ok c = rw c.split_at.ensures.back (parsed c.args.tokens.now c.in-Ok.value c.in-Ok.end c.in-Ok.ensures.reads)
