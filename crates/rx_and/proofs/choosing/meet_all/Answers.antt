use Rattle.std.proofs.Common.{◌∷◌, [], arith, ◌∙◌}
use Rattle.rx_pairs.proofs.Remembered.{adds_memory_owned, forgets}
use Rattle.rx_and.proofs.MetPairs.{ready_none}
use Rattle.rx_and.proofs.choosing.meet_all.Goals as goal

pub both-requires-clause-ready : goal.both-requires-clause-ready
both-requires-clause-ready c = ready_none c.args.levels.now c.new-memory.result c.new-memory.ensures c.requires.sound

pub forget-requires : goal.forget-requires
forget-requires c =
    adds_memory_owned c.args.levels.now c.both.new.levels c.new-memory.result c.both.new.memory (c.in-Ok.whole ∷ []) (ready_none c.args.levels.now c.new-memory.result c.new-memory.ensures c.requires.sound).owns c.in-Ok.ensures.ok.keeps.adds

pub forget-requires-in-Err : goal.forget-requires-in-Err
forget-requires-in-Err c =
    adds_memory_owned c.args.levels.now c.both.new.levels c.new-memory.result c.both.new.memory [] (ready_none c.args.levels.now c.new-memory.result c.new-memory.ensures c.requires.sound).owns c.in-Err.ensures.err

pub returns-in-Ok-clause-ok : goal.returns-in-Ok-clause-ok
returns-in-Ok-clause-ok c =
    (forgets c.args.levels.now c.both.new.levels c.forget.new.levels c.new-memory.result c.both.new.memory (c.in-Ok.whole ∷ []) c.new-memory.ensures c.requires.sound c.in-Ok.ensures.ok.keeps.adds c.forget.ensures.step).step

pub returns-in-Ok-clause-level : goal.returns-in-Ok-clause-level
returns-in-Ok-clause-level c =
    (forgets c.args.levels.now c.both.new.levels c.forget.new.levels c.new-memory.result c.both.new.memory (c.in-Ok.whole ∷ []) c.new-memory.ensures c.requires.sound c.in-Ok.ensures.ok.keeps.adds c.forget.ensures.step).level c.in-Ok.whole (λ m. omega arith)
    ∙ c.in-Ok.ensures.level

pub returns-in-Err-clause-err : goal.returns-in-Err-clause-err
returns-in-Err-clause-err c =
    (forgets c.args.levels.now c.both.new.levels c.forget-in-Err.new.levels c.new-memory.result c.both.new.memory [] c.new-memory.ensures c.requires.sound c.in-Err.ensures.err c.forget-in-Err.ensures.step).step
