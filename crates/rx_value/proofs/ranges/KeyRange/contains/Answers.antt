use Rattle.rx_value.proofs.Points.{decided, refused, without_span, with_span}
use Rattle.rx_value.specs.Range.{behind}
use Rattle.std.proofs.Common.{◌≡◌, Some, None}
use Rattle.rx_value.proofs.ranges.KeyRange.contains.Goals as goal

pub returns-in_default : goal.returns-in_default
returns-in_default c =
    let is : behind c.args.key.now c.args.self.now.points ≡ None = cc (c.in_default.ensures, c.as_slice.ensures, c.as_slice-2.ensures) in
    refused c.args.self.now c.args.key.now is

pub returns-in-None : goal.returns-in-None
returns-in-None c =
    let is : behind c.args.key.now c.args.self.now.points ≡ Some c.in-Some.rest.now = cc (c.in-Some.ensures, c.as_slice.ensures, c.as_slice-2.ensures) in
    decided c.args.self.now c.args.key.now c.in-Some.rest.now _ is (without_span _ _ c.in-None.is)

pub returns-in-Some-last : goal.returns-in-Some-last
returns-in-Some-last c =
    let is : behind c.args.key.now c.args.self.now.points ≡ Some c.in-Some.rest.now = cc (c.in-Some.ensures, c.as_slice.ensures, c.as_slice-2.ensures) in
    decided c.args.self.now c.args.key.now c.in-Some.rest.now _ is (with_span _ _ _ _ c.in-Some-last.is c.begins_within.ensures)
