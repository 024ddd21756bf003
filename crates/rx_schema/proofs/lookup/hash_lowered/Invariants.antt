use Rattle.std.proofs.Common.{◌≡◌, take, fold}
use Rattle.rx_schema.specs.Lookup.{name_input}
use Rattle.rx_schema.proofs.lookup.hash_lowered.Given as goal

-- the bytes so far are fed
abbrev pub invariant-loop-byte : goal.invariant-loop-byte
invariant-loop-byte g l = l.state ≡ fold g.H.Hasher.write l.initial.state (name_input (take l.byte-index l.name))
