use Rattle.std.proofs.Common.{rules, sym, ◌∙◌, subst}
use Rattle.slab.specs.Slab.{Slab}
use Rattle.rx_level.specs.declared.nodes.Node.{Node}
use Rattle.rx_level.specs.Store.{IsSound}
use Rattle.rx_level.proofs.Counts.{settled, kept}
use Rattle.rx_level.proofs.uses.settle.Goals as goal

pub returns-in_err-node-clause-none : goal.returns-in_err-node-clause-none
returns-in_err-node-clause-none c =
    rw c.from_residual.ensures (λ rest h. subst (λ (s : Slab Node). IsSound s rest) (sym c.in_err-node.ensures.absent) (kept _ c.args.key rest (λ v is. cc (is, c.in_err-node.ensures.value)) h))

pub returns-clause-some : goal.returns-clause-some
returns-clause-some c =
    let is = sym c.try_remove.ensures.value ∙ c.in_ok-node.was in
    let free = c.is_unused.ensures.yes (search rules) _ is in
    settled _ _ c.args.key c.in_ok-node.node is free.0 free.1 c.try_remove.ensures.updates
