use Rattle.rx_level.proofs.Heights.{near_three}
use Rattle.rx_level.proofs.nodes.make.Goals as goal

pub add-requires : goal.add-requires
add-requires c =
    record {
      near = near_three c.args.nodes.now c.adopt.new.nodes c.adopt-2.new.nodes c.adopt-3.new.nodes c.adopt.ensures.onto c.adopt.ensures.within c.adopt-2.ensures.onto c.adopt-2.ensures.within c.adopt-3.ensures.onto c.adopt-3.ensures.within
          c.args.left c.args.right c.requires.near;
    }
