use Rattle.std.proofs.Common.{rules, ◌≡◌, [], ◌∷◌, ◌++◌, ap, ◌∙◌}
use Rattle.rx_group.specs.Classes.{lists_of}
use Rattle.rx_group.proofs.Lists.{pushed, alone}
use Rattle.rx_group.proofs.grouping.add.Goals as goal

pub returns-in-Some : goal.returns-in-Some
returns-in-Some c = pushed c.args.classes.now.items c.args.place c.push.new.self c.args.row (search rules) (search rules)

pub returns : goal.returns
returns c =
    let e : c.push-3.new.self.items ≡ c.args.classes.now.items ++ (c.args.row ∷ []) ∷ [] = search rules in
    ap lists_of e ∙ alone c.args.classes.now.items c.args.place c.args.row (search rules)
