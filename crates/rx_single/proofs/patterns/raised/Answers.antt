use Rattle.std.proofs.Common.{arith, rules, ◌<◌, ◌-◌, vec_len}
use Rattle.rx_single.proofs.Prefixes.{raised_set}
use Rattle.rx_single.proofs.patterns.raised.Goals as goal

pub returns-in-Some : goal.returns-in-Some
returns-in-Some c =
    let some : 0 < vec_len c.args.bytes = c.in-Some.ensures.variant.0 (search rules) in
    raised_set c.args.bytes.items (vec_len c.args.bytes - 1) c.in-Some.last.now (omega (arith, c.args.bytes.ok.0, some)) c.in-Some.ensures.value
