use Rattle.std.proofs.Common.{sym, ◌∙◌}
use Rattle.rx_cond.specs.Tree.{tree_of}
use Rattle.rx_query.specs.Steps.{question_of}
use Rattle.rx_merge_plan.proofs.Disjoined.{few_parts, none_many, none_open, some_open}
use Rattle.rx_merge_plan.proofs.uniting.open_lists.Goals as goal

pub find_lists-requires-clause-few : goal.find_lists-requires-clause-few
find_lists-requires-clause-few c =
    few_parts c.args.settings.now (question_of c.args.query.now) c.args.schema.now (tree_of c.args.cond.now) (λ r. r.now) tree_of c.as_slice.result.now
    c.in_ok-parts.parts c.as_slice.ensures
    c.in_ok-parts.ensures (sym c.are_few.ensures ∙ c.if-not-are_few.false)

pub returns-then-not-are_few : goal.returns-then-not-are_few
returns-then-not-are_few c =
    none_many c.args.settings.now (question_of c.args.query.now) c.args.schema.now (tree_of c.args.cond.now) (λ r. r.now) tree_of c.as_slice.result.now
    c.in_ok-parts.parts c.as_slice.ensures
    c.in_ok-parts.ensures (sym c.are_few.ensures ∙ c.if-not-are_few.true)

pub returns-then-not-are_open : goal.returns-then-not-are_open
returns-then-not-are_open c =
    none_open c.args.settings.now (question_of c.args.query.now) c.args.schema.now (tree_of c.args.cond.now) (λ r. r.now) tree_of c.as_slice.result.now
    c.in_ok-parts.parts c.as_slice.ensures
    c.in_ok-parts.ensures c.in_ok-lists.lists c.in_ok-lists.ensures (rw (← c.as_slice-2.ensures) (sym c.are_open.ensures ∙ c.if-not-are_open.true))

pub returns : goal.returns
returns c =
    some_open c.args.settings.now (question_of c.args.query.now) c.args.schema.now (tree_of c.args.cond.now) (λ r. r.now) tree_of c.as_slice.result.now
    c.in_ok-parts.parts c.as_slice.ensures
    c.in_ok-parts.ensures c.in_ok-lists.lists c.in_ok-lists.ensures (sym c.are_few.ensures
    ∙ c.if-not-are_few.false) (rw (← c.as_slice-2.ensures) (sym c.are_open.ensures ∙ c.if-not-are_open.false))
