use Rattle.csv.specs.Records.{fields_of}
use Rattle.rx_data.proofs.Left.{taken_by}
use Rattle.rx_data.proofs.records.take_record.Goals as goal

pub returns-clause-takes : goal.returns-clause-takes
returns-clause-takes c =
    taken_by c.args.reader.now c.read_byte_record.new.self c.in-Ok.found (fields_of c.read_byte_record.new.row) c.requires (c.in-Ok.ensures.reads c.requires.trim c.requires.ready)
