use Rattle.std.proofs.Common.{Some}
use Rattle.rx_graft.proofs.Bounds.{live_bound, shared_bound}
use Rattle.rx_graft.proofs.grafts.graft.Goals as goal

pub returns-in-Ok-clause-live : goal.returns-in-Ok-clause-live
returns-in-Ok-clause-live c = live_bound c.args.levels.now c.hang.new.levels c.forget.new.levels c.args.chain.now (Some c.args.root) c.in-Ok.made c.new-memory.result c.hang.new.memory c.new-memory.ensures c.different.ensures c.in-Ok.ensures.ok c.forget.ensures.live c.sound.ensures.stands (c.sound.ensures.one_depth (Some c.args.root))

pub returns-in-Ok-clause-shared : goal.returns-in-Ok-clause-shared
returns-in-Ok-clause-shared c = shared_bound c.args.levels.now c.hang.new.levels c.forget.new.levels c.args.chain.now (Some c.args.root) c.in-Ok.made c.new-memory.result c.hang.new.memory c.new-memory.ensures c.requires.sound c.requires.chain c.different.ensures c.in-Ok.ensures.ok c.forget.ensures.step c.sound.ensures.stands c.sound-in-Ok.ensures.stands (c.sound.ensures.one_depth (Some c.args.root))
