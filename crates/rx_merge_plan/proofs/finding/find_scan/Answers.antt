use Rattle.std.proofs.Common.{◌≡◌, [], ◌∷◌, map, Some, ap, sym, ◌∙◌, subst}
use Rattle.rx_build.specs.declared.answers.Answer.{Answer}
use Rattle.rx_build.specs.Building.{answer_of}
use Rattle.rx_cond.specs.Tree.{tree_of}
use Rattle.rx_query.specs.Steps.{question_of}
use Rattle.rx_plan.specs.Known.{ranged_as}
use Rattle.rx_merge_plan.specs.Disjuncts.{found_scan, found_at}
use Rattle.rx_merge_plan.proofs.Found.{of_answer}
use Rattle.rx_merge_plan.proofs.finding.find_scan.Goals as goal

pub returns-in-Whole : goal.returns-in-Whole
returns-in-Whole c =
    let q = question_of c.args.query.now in
    let cond = tree_of c.args.cond.now in
    let found = found_at c.args.settings.now q c.args.schema.now cond c.args.member c.args.index in
    subst (λ (a : Answer). map (found_scan c.args.member) (ranged_as c.args.index (Some (answer_of a))) ≡ found) c.in-Whole.is
    (of_answer c.args.settings.now q c.args.schema.now cond c.args.member c.args.index c.items_limit-items.result c.parts_in.result.now c.in_ok-ranges_of.field-0
    c.parts_in.ensures c.items_limit-items.ensures.value (sym c.is_usable.ensures ∙ c.if-not-is_usable.false) c.in_ok-ranges_of.ensures.answer)

pub returns-in-NoParts : goal.returns-in-NoParts
returns-in-NoParts c =
    let q = question_of c.args.query.now in
    let cond = tree_of c.args.cond.now in
    let found = found_at c.args.settings.now q c.args.schema.now cond c.args.member c.args.index in
    subst (λ (a : Answer). map (found_scan c.args.member) (ranged_as c.args.index (Some (answer_of a))) ≡ found) c.in-NoParts.is
    (of_answer c.args.settings.now q c.args.schema.now cond c.args.member c.args.index c.items_limit-items.result c.parts_in.result.now c.in_ok-ranges_of.field-0
    c.parts_in.ensures c.items_limit-items.ensures.value (sym c.is_usable.ensures ∙ c.if-not-is_usable.false) c.in_ok-ranges_of.ensures.answer)

pub returns-in-Ranges : goal.returns-in-Ranges
returns-in-Ranges c =
    let q = question_of c.args.query.now in
    let cond = tree_of c.args.cond.now in
    let found = found_at c.args.settings.now q c.args.schema.now cond c.args.member c.args.index in
    ap (λ s. s ∷ []) c.found_scan.ensures
    ∙ subst (λ (a : Answer). map (found_scan c.args.member) (ranged_as c.args.index (Some (answer_of a))) ≡ found) c.in-Ranges.is
    (of_answer c.args.settings.now q c.args.schema.now cond c.args.member c.args.index c.items_limit-items.result c.parts_in.result.now c.in_ok-ranges_of.field-0
    c.parts_in.ensures c.items_limit-items.ensures.value (sym c.is_usable.ensures ∙ c.if-not-is_usable.false) c.in_ok-ranges_of.ensures.answer)
