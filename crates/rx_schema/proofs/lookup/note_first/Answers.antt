use Rattle.std.proofs.Common.{rules}
use Rattle.rx_schema.specs.Lookup.{texts_of}
use Rattle.rx_schema.proofs.ByName.{put}
use Rattle.rx_schema.proofs.lookup.note_first.Goals as goal

pub returns-in_ok-insert : goal.returns-in_ok-insert
returns-in_ok-insert c = put c.args.texts.now c.insert.new.self (record { name = c.as_slice.result }) c.args.column.now.name (texts_of c.args.column.now) (search rules) (search rules) (search rules)
