use Rattle.std.proofs.Common.{◌+◌, ◌*◌, Some}
use Rattle.rx_and.specs.MetPairs.{sizes_of}
use Rattle.rx_and.proofs.meeting.+meet.Given as goal

abbrev pub decreases-meet_once : goal.decreases-meet_once
decreases-meet_once l = 5 * sizes_of l.levels.now (Some l.c) (Some l.d) + 2

abbrev pub decreases-meet_pair : goal.decreases-meet_pair
decreases-meet_pair l = 5 * sizes_of l.levels.now (Some l.c) (Some l.d) + 3

abbrev pub decreases-piece : goal.decreases-piece
decreases-piece l = 5 * sizes_of l.levels.now (Some l.c) l.d + 4

abbrev pub decreases-across : goal.decreases-across
decreases-across l = 5 * sizes_of l.levels.now (Some l.c) l.h

abbrev pub decreases-meet_item : goal.decreases-meet_item
decreases-meet_item l = 5 * sizes_of l.levels.now l.child l.h + 1

abbrev pub decreases-walk : goal.decreases-walk
decreases-walk l = 5 * sizes_of l.levels.now l.g l.h

abbrev pub decreases-both : goal.decreases-both
decreases-both l = 5 * sizes_of l.levels.now l.g l.h + 1
