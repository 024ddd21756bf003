use Rattle.rx_words.specs.Words.{files_of}
use Rattle.rx_inputs.proofs.Following.{taken_script}
use Rattle.rx_inputs.proofs.reading.read_rest.Goals as goal

pub returns-in_err-script-clause-taken : goal.returns-in_err-script-clause-taken
returns-in_err-script-clause-taken g c =
    taken_script (g.F.Files.told c.args.files.now) _ (files_of c.args.names.now) c.args.table c.in_ok-statistics.statistics _ _ _ c.statistics_by.ensures.keeps.told_stays c.in_ok-statistics.ensures.accepted c.statistics_by.ensures.taken c.read_script.ensures.taken

pub returns-clause-taken : goal.returns-clause-taken
returns-clause-taken g c =
    taken_script (g.F.Files.told c.args.files.now) _ (files_of c.args.names.now) c.args.table c.in_ok-statistics.statistics _ _ _ c.statistics_by.ensures.keeps.told_stays c.in_ok-statistics.ensures.accepted c.statistics_by.ensures.taken c.read_script.ensures.taken
