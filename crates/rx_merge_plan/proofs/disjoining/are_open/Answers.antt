use Rattle.std.proofs.Common.{◌≡◌, ℕ, false, not, length, ap, sym, ◌∙◌, subst, arith}
use Rattle.std.specs.List.{list_any, range_with_len}
use Rattle.rx_query.specs.Steps.{question_of}
use Rattle.rx_index.proofs.Making.{few_indexes}
use Rattle.rx_merge_plan.specs.Lists.{is_in_all}
use Rattle.rx_merge_plan.proofs.Open.{none_more, any_there}
use Rattle.rx_merge_plan.proofs.disjoining.are_open.Goals as goal

pub overflow_cast-count : goal.overflow_cast-count
overflow_cast-count c = omega (arith, c.len-count.ensures, few_indexes c.args.schema.now c.requires)

pub loop-index-preserved : goal.loop-index-preserved
loop-index-preserved c =
    none_more (is_in_all (question_of c.args.query.now) c.args.lists.now) c.loop-index.index c.loop-index.invariant (sym c.is_in_all.ensures
    ∙ c.if-is_in_all.false)

pub returns-then-is_in_all : goal.returns-then-is_in_all
returns-then-is_in_all c =
    let test = is_in_all (question_of c.args.query.now) c.args.lists.now in
    sym (ap not (any_there test (length c.args.schema.now.indexes) c.loop-index.index (omega (arith, c.len-count.ensures, c.loop-index-test.true))
    (sym c.is_in_all.ensures ∙ c.if-is_in_all.true)))

pub returns : goal.returns
returns c =
    let test = is_in_all (question_of c.args.query.now) c.args.lists.now in
    let past : c.loop-index.index ≡ length c.args.schema.now.indexes = omega
    (arith, c.len-count.ensures, c.loop-index-test.false, c.loop-index.auto.index-end) in
    sym (ap not (subst (λ (n : ℕ). list_any test (range_with_len 0 n) ≡ false) past c.loop-index.invariant))
