use Rattle.std.proofs.Common.{arith, rules}
use Rattle.rx_index.proofs.Fronts.{room_first}
use Rattle.rx_index.proofs.heads.front_place.Goals as goal

pub front-requires : goal.front-requires
front-requires c = record { room = room_first 256 c.args.bytes (omega arith) (omega arith) (search rules) }
