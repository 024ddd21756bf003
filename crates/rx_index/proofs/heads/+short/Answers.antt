use Rattle.std.proofs.Common.{arith, rules, ◌+◌}
use Rattle.rx_index.proofs.Fronts.{room_on, room_past, digit_fits}
use Rattle.rx_index.proofs.heads.+short.Goals as goal

pub overflow_mul-before : goal.overflow_mul-before
overflow_mul-before t c = omega (arith, digit_fits 257 c.args.before c.args.bytes c.in-Some.bytes 0 (search rules) (omega arith) c.requires.room)

pub short-requires : goal.short-requires
short-requires t c = (omega (arith, c.decreases, c.in-Some.ensures), (room_past 257 c.args.before c.args.bytes c.in-Some.bytes (search rules) (omega arith) c.requires.room, search rules))

pub overflow_mul-before-in-Some-split_first : goal.overflow_mul-before-in-Some-split_first
overflow_mul-before-in-Some-split_first t c = omega (arith, digit_fits 257 c.args.before c.args.bytes c.in-Some.bytes 0 (search rules) (omega arith) c.requires.room)

pub overflow_add-before : goal.overflow_add-before
overflow_add-before t c = omega (arith, digit_fits 257 c.args.before c.args.bytes c.in-Some.bytes (c.from.result + 1) (search rules) (search rules) c.requires.room)

pub short-requires-in-Some-split_first : goal.short-requires-in-Some-split_first
short-requires-in-Some-split_first t c =
    (omega (arith, c.decreases, c.in-Some.ensures), (room_on 257 c.args.before c.args.bytes c.in-Some.bytes (c.from.result + 1) (search rules) (search rules) c.requires.room, search rules))
