use Rattle.std.proofs.Common.{rules, arith}
use Rattle.rx_level.proofs.Counts.{added, slots_sound}
use Rattle.rx_level.proofs.nodes.add.Goals as goal

pub returns-in-Ok-clause-sound : goal.returns-in-Ok-clause-sound
returns-in-Ok-clause-sound c rest h =
    let is = c.in_ok-numbers.ensures.ok_part in
    added _ _ c.in-Ok.key _ (c.in-Ok.ensures.was_vacant) (c.in-Ok.ensures.updates) (search rules) (omega arith)
    (record {
      child = rw is at c.numbers_over.ensures.child;
      left = rw is at c.numbers_over.ensures.left;
      right = rw is at c.numbers_over.ensures.right;
      near = c.requires.near;
      height = rw is at c.numbers_over.ensures.height;
      count = rw is at c.numbers_over.ensures.count;
      size = rw is at c.numbers_over.ensures.size;
      below = c.fits.ensures.child (search rules);
      before = c.fits.ensures.left (search rules);
      after = c.fits.ensures.right (search rules);
    }) rest h

pub returns-in-Err-clause-err_sound : goal.returns-in-Err-clause-err_sound
returns-in-Err-clause-err_sound c = slots_sound _ _ (search rules)
