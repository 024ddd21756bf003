use Rattle.rx_words.specs.Words.{files_of}
use Rattle.rx_inputs.proofs.Following.{taken_behind}
use Rattle.rx_inputs.proofs.reading.read_inputs.Goals as goal

pub returns-clause-taken : goal.returns-clause-taken
returns-clause-taken g c =
    taken_behind (g.F.Files.told c.args.files.now) _ (files_of c.args.names.now) c.in_ok-schema.schema _ _ _ c.read_schema.ensures.keeps.told_stays c.in_ok-schema.ensures.accepted c.read_schema.ensures.taken c.read_contents.ensures.taken
