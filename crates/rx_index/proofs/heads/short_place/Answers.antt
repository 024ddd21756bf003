use Rattle.std.proofs.Common.{arith, rules}
use Rattle.rx_index.proofs.Fronts.{room_first}
use Rattle.rx_index.proofs.heads.short_place.Goals as goal

pub short-requires-clause-room : goal.short-requires-clause-room
short-requires-clause-room c = room_first 257 c.args.bytes (omega arith) (omega arith) (search rules)
