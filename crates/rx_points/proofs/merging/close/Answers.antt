use Rattle.std.proofs.Common.{[], ◌∷◌, ap, sym, ◌∙◌, subst}
use Rattle.rx_level.specs.Between.{AreLent, span_at, span_between, spans_between}
use Rattle.rx_level.proofs.Between.{lent_append, spans_append}
use Rattle.rx_points.specs.Keys.{spans_at}
use Rattle.rx_points.proofs.Steps.{closed, closing_step}
use Rattle.rx_points.proofs.merging.close.Goals as goal

pub spans-preserved : goal.spans-preserved
spans-preserved c =
    let a = c.args.levels.now in
    let n = c.in-Some.next in
    record {
      closing = closing_step (span_at a c.args.key) (spans_at a c.args.first.now) (spans_at a c.args.second.now) (spans_between a c.args.united.now)
          (span_between a c.spans.last) (spans_at a c.spans.ones.now) (spans_at a c.spans.others.now) (spans_between a c.spans.united)
          (span_at a n.key) (span_between a c.in_ok-last.last) (spans_at a n.first.now) (spans_at a n.second.now) (spans_between a c.take_in.new.united)
          c.spans.invariant.closing c.in-Some.ensures.some c.in_ok-last.ensures.taken;
      lent = record { low = c.in_ok-last.ensures.first; high = c.in_ok-last.ensures.last; first = c.in-Some.ensures.ones; second = c.in-Some.ensures.others; done = c.in_ok-last.ensures.united };
    }

pub returns-clause-closed : goal.returns-clause-closed
returns-clause-closed c =
    let a = c.args.levels.now in
    closed (span_at a c.args.key) (spans_at a c.args.first.now) (spans_at a c.args.second.now) (spans_between a c.args.united.now)
    (span_between a c.spans.last) (spans_at a c.spans.ones.now) (spans_at a c.spans.others.now) (spans_between a c.spans.united) (spans_between a c.push.new.self)
    c.spans.invariant.closing (ap (spans_at a) c.in_default.ensures.no_first) (ap (spans_at a) c.in_default.ensures.no_second)
    (ap (spans_between a) c.in_ok-push.ensures.ok ∙ spans_append a c.spans.united (c.spans.last ∷ []))

pub returns-clause-lent : goal.returns-clause-lent
returns-clause-lent c =
    let a = c.args.levels.now in
    let all = c.spans.invariant.lent in
    subst (AreLent a) (sym c.in_ok-push.ensures.ok) (lent_append a c.spans.united (c.spans.last ∷ []) all.done (all.low, all.high, tt))
