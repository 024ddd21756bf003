use Rattle.std.proofs.Common.{◌++◌, ◌∷◌, [], ap, ◌∙◌}
use Rattle.std.specs.Map.{lookup}
use Rattle.rx_pairs.specs.Pairs.{Pair, is_same_pair}
use Rattle.indexmap.proofs.CallerLemmas.{insert_entry-new}
use Rattle.rx_pairs.proofs.memory.Memory.note.Goals as goal

pub returns-clause-ok : goal.returns-clause-ok
returns-clause-ok c =
    let p : Pair = (c.args.first, c.args.second) in
    c.in_ok-insert.ensures.entries
    ∙ insert_entry-new is_same_pair c.self.inside.made p c.args.made (ap (lookup (is_same_pair p)) c.self.view_is ∙ c.requires)
    ∙ ap (λ l. l ++ (p, c.args.made) ∷ []) c.self.view_is
