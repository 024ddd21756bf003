use Rattle.rx_words.specs.Words.{files_of}
use Rattle.rx_inputs.proofs.Following.{taken_after}
use Rattle.rx_inputs.proofs.reading.read_contents.Goals as goal

pub returns-clause-taken : goal.returns-clause-taken
returns-clause-taken g c =
    taken_after (g.F.Files.told c.args.files.now) _ (files_of c.args.names.now) c.args.schema c.in_ok-table.table _ _ _ c.read_table.ensures.keeps.told_stays c.in_ok-table.ensures.accepted c.read_table.ensures.taken c.read_rest.ensures.taken
