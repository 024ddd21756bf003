use Rattle.std.proofs.Common.{[], ◌∷◌, ap, sym, refl, ◌∙◌, subst}
use Rattle.rx_level.specs.Between.{AreLent, span_at, span_between, spans_between}
use Rattle.rx_level.proofs.Between.{lent_append, spans_append}
use Rattle.rx_points.proofs.Keys.{put_behind, touching}
use Rattle.rx_points.proofs.merging.take_in.Goals as goal

pub returns-clause-taken : goal.returns-clause-taken
returns-clause-taken c =
    let a = c.args.levels.now in
    put_behind _ (span_between a c.args.last) (span_at a c.args.next) _ (spans_between a c.args.united.now) (spans_between a c.push.new.self)
    (touching (span_at a c.args.next) (span_at a c.args.last.last) _ _ _ _ c.span_of.ensures c.span_of-2.ensures c.is_at_most.ensures c.if-is_at_most.false)
    refl
    (ap (spans_between a) c.in_ok-push.ensures.ok ∙ spans_append a c.args.united.now (c.args.last ∷ []))

pub returns-clause-united : goal.returns-clause-united
returns-clause-united c =
    let a = c.args.levels.now in
    subst (AreLent a) (sym c.in_ok-push.ensures.ok) (lent_append a c.args.united.now (c.args.last ∷ []) c.requires.united (c.requires.first, c.requires.last, tt))
