use Rattle.std.proofs.Common.{arith, ◌-◌, length}
use Rattle.rx_outside.proofs.Pieces.{IsFrontOf-more}
use Rattle.rx_outside.proofs.files.fill_more.Goals as goal

pub returns-clause-front : goal.returns-clause-front
returns-clause-front g c = IsFrontOf-more _ c.args.at (length c.args.buffer.now - c.args.at) c.in_ok-n.n c.args.buffer.now c.read_at.new.into c.requires.filled c.in_ok-n.ensures.part (omega (arith, c.requires.place)) c.in_ok-n.ensures.bound
