use Rattle.rx_graft.proofs.Adding.{given_lent}
use Rattle.rx_graft.proofs.hanging.keep.Goals as goal

pub hold-requires : goal.hold-requires
hold-requires c = given_lent _ _ _ _ c.requires.owns c.in_Ok-made.ensures.ok
