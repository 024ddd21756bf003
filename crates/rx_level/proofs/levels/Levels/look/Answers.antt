use Rattle.std.proofs.lemmas.Option.{IfSome_then}
use Rattle.rx_level.proofs.Lending.{seen_in}
use Rattle.rx_level.proofs.levels.Levels.look.Goals as goal

pub returns-clause-fork : goal.returns-clause-fork
returns-clause-fork c = IfSome_then c.see.result c.see.ensures.some (λ o h. (seen_in c.self.inside.nodes c.args.self.now c.self.view_is c.self.invariant.sound c.args.root c.requires _ h).fork)

pub returns-clause-level : goal.returns-clause-level
returns-clause-level c = IfSome_then c.see.result c.see.ensures.some (λ o h. (seen_in c.self.inside.nodes c.args.self.now c.self.view_is c.self.invariant.sound c.args.root c.requires _ h).level)

pub returns-clause-child : goal.returns-clause-child
returns-clause-child c = IfSome_then c.see.result c.see.ensures.some (λ o h. (seen_in c.self.inside.nodes c.args.self.now c.self.view_is c.self.invariant.sound c.args.root c.requires _ h).links.child)

pub returns-clause-left : goal.returns-clause-left
returns-clause-left c = IfSome_then c.see.result c.see.ensures.some (λ o h. (seen_in c.self.inside.nodes c.args.self.now c.self.view_is c.self.invariant.sound c.args.root c.requires _ h).links.left)

pub returns-clause-right : goal.returns-clause-right
returns-clause-right c = IfSome_then c.see.result c.see.ensures.some (λ o h. (seen_in c.self.inside.nodes c.args.self.now c.self.view_is c.self.invariant.sound c.args.root c.requires _ h).links.right)
