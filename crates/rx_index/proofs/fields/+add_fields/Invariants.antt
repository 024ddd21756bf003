use Rattle.std.proofs.Common.{length}
use Rattle.rx_index.proofs.fields.+add_fields.Given as goal

abbrev pub decreases-add_fields : goal.decreases-add_fields
decreases-add_fields l = length l.parts.now
