use Rattle.std.proofs.Common.{rules}
use Rattle.rx_single.proofs.Points.{list_false}
use Rattle.rx_single.proofs.listing.spans_without.Goals as goal

pub returns : goal.returns
returns c =
    list_false c.args.nullable c.args.list.now c.in_ok-points.points c.as_slice.result.now c.in_ok-spans.spans c.in_ok-from.from
    c.requires c.in_ok-points.ensures (search rules) c.in_ok-from.ensures c.in_ok-spans.ensures.apart c.in_ok-spans.ensures.positions
