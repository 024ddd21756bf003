use Rattle.std.specs.Prelude.{Ok}
use Rattle.rx_spelled.proofs.Scripts.{answer_utf8}
use Rattle.rx_inputs.proofs.reading.read_script.Goals as goal

pub returns-in-Ok-clause-spelled : goal.returns-in-Ok-clause-spelled
returns-in-Ok-clause-spelled g c = answer_utf8 c.args.schema.now c.as_slice.result.now (Ok c.in-Ok.script) c.in-Ok.ensures.exact
