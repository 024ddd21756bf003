use Rattle.std.proofs.Common.{◌≡◌, ℕ, ◌++◌, length, map, ap₂, sym, ◌∙◌, subst, arith}
use Rattle.std.specs.List.{range_with_len}
use Rattle.rx_cond.specs.Tree.{tree_of}
use Rattle.rx_query.specs.Steps.{question_of}
use Rattle.rx_index.proofs.Making.{few_indexes}
use Rattle.rx_plan.specs.Known.{ranged_in, known_at}
use Rattle.rx_merge_plan.specs.Disjuncts.{found_scan}
use Rattle.rx_merge_plan.proofs.Found.{found_more, found_all}
use Rattle.rx_merge_plan.proofs.finding.find_scans.Goals as goal

pub overflow_cast-count : goal.overflow_cast-count
overflow_cast-count c = omega (arith, c.len-count.ensures, few_indexes c.args.schema.now c.requires)

pub loop-index-preserved : goal.loop-index-preserved
loop-index-preserved c =
    c.in_ok-add_found.ensures ∙ ap₂ (λ l m. l ++ m) c.loop-index.invariant c.in_ok-found.ensures
    ∙ sym (found_more c.args.settings.now (question_of c.args.query.now) c.args.schema.now (tree_of c.args.cond.now) c.args.member c.loop-index.index)

pub returns : goal.returns
returns c =
    let q = question_of c.args.query.now in
    let cond = tree_of c.args.cond.now in
    let past : c.loop-index.index ≡ length c.args.schema.now.indexes = omega (arith, c.len-count.ensures, c.loop-index-test.false, c.loop-index.auto.index-end) in
    subst (λ (n : ℕ). c.loop-index.scans ≡ map (found_scan c.args.member) (ranged_in (map (known_at c.args.settings.now q c.args.schema.now cond) (range_with_len 0 n)))) past
    (c.loop-index.invariant ∙ found_all c.args.settings.now q c.args.schema.now cond c.args.member c.loop-index.index)
