use Rattle.std.proofs.Common.{◌++◌, ◌∷◌, [], ℕ, List, length, length-append, ap₂, rules, sym, ◌∙◌}
use Rattle.std.proofs.lemmas.Slice.Zip.{zip_turn, zip_end}
use Rattle.serde_json.specs.View.{members_view}
use Rattle.rx_value.specs.declared.shapes.Index.{Index}
use Rattle.rx_stats_file.specs.Members.{listed}
use Rattle.rx_stats_file.specs.Statistics.{numbers_for}
use Rattle.rx_stats_file.proofs.Finding.{pair_more, all_pairs}
use Rattle.rx_stats_file.proofs.reading.replaced.Goals as goal

pub loop-index-preserved : goal.loop-index-preserved
loop-index-preserved c =
    let indexes = c.args.indexes.now in
    let base = c.args.base.now in
    let members = listed (members_view c.args.records.now.entries) in
    let place = length c.loop-index.yielded in
    let turn = zip_turn indexes base c.loop-index.yielded c.into_iter-index-iterator.result c.loop-index.index-iterator c.next.new.self c.next.result (search rules) (search rules) c.loop-index.yielded_by
    (c.in-Some.index, c.in-Some.own) c.in-Some.is c.next.ensures.steps in
    let f = λ (pair : Index × List ℕ). numbers_for members pair.0 pair.1 in
    c.in_ok-push.ensures.ok ∙ ap₂ (λ (s : List (List ℕ)) (x : List ℕ). s ++ x ∷ []) c.loop-index.invariant c.in_ok-numbers_for.ensures
    ∙ sym (pair_more f indexes base place (length (c.loop-index.yielded ++ (c.in-Some.index, c.in-Some.own) ∷ [])) c.in-Some.index.now c.in-Some.own.now (turn.0) (turn.1)
    (turn.2 c.in-Some.index.now) (turn.3 c.in-Some.own.now) (length-append c.loop-index.yielded ((c.in-Some.index, c.in-Some.own) ∷ [])))

pub returns : goal.returns
returns c =
    let indexes = c.args.indexes.now in
    let base = c.args.base.now in
    let members = listed (members_view c.args.records.now.entries) in
    let place = length c.loop-index.yielded in
    let end = zip_end indexes base c.loop-index.yielded c.into_iter-index-iterator.result c.loop-index.index-iterator c.next.new.self c.next.result (search rules) (search rules) c.loop-index.yielded_by
    c.in-None.is c.next.ensures.steps in
    c.loop-index.invariant ∙ all_pairs (λ pair. numbers_for members pair.0 pair.1) indexes base place end
