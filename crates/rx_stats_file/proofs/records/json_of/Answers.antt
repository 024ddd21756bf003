use Rattle.rx_stats_file.proofs.Finding.{json_there, json_missing}
use Rattle.rx_stats_file.proofs.records.json_of.Goals as goal

pub returns-in-Ok-clause-ok : goal.returns-in-Ok-clause-ok
returns-in-Ok-clause-ok c = json_there c.args.text.now _ c.in-Ok.ensures.ok.0 c.in-Ok.ensures.ok.1

pub returns-in-Err-2-clause-ok : goal.returns-in-Err-2-clause-ok
returns-in-Err-2-clause-ok c = json_missing c.args.text.now (c.in-Err.ensures.err (λ memory. absurd (cc (c.if-is_memory.false, c.is_memory.ensures.1 memory))))
