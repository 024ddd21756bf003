use Rattle.std.proofs.Common.{length, ◌-◌, ◌≡◌, ◌≤◌, IsTrue}
use Rattle.rx_outside.specs.Causes.{rise}
use Rattle.rx_outside.specs.Files.{KeepsFiles}
use Rattle.rx_outside.specs.Buffer.{IsFrontOf}
use Rattle.rx_outside.proofs.files.fill.Given as goal

abbrev pub invariant-loop-at : goal.invariant-loop-at
invariant-loop-at g l = (l.at ≤ length l.buffer)
    × (length l.buffer ≡ length l.initial.buffer)
    × IsFrontOf (g.F.Files.told l.initial.files l.name) l.buffer l.at
    × (g.F.Files.faults l.initial.files ≤ g.F.Files.faults l.files)
    × KeepsFiles g.F.Files.told g.F.Files.sure g.F.Files.room l.initial.files l.files
    × (g.F.Files.taken l.files ≡ rise l.at (g.F.Files.taken l.initial.files))
    × (IsTrue (g.F.Files.sure l.initial.files l.name) → g.F.Files.faults l.files ≡ g.F.Files.faults l.initial.files)

abbrev pub decreases-loop-at : goal.decreases-loop-at
decreases-loop-at g l = length l.buffer - l.at
