use Rattle.std.proofs.Common.{◌≡◌, ◌++◌, drop}
use Rattle.rx_spans.specs.Spans.{gaps_from}
use Rattle.rx_spans.proofs.remains.gaps_between.Given as goal

-- the gaps so far, and those of the rest
abbrev pub invariant-spans : goal.invariant-spans
invariant-spans l = l.gaps ++ gaps_from l.lo (drop l.span-index l.spans) ≡ gaps_from l.fn.from l.fn.spans
