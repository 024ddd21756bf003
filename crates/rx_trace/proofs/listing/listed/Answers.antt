use Rattle.std.proofs.Common.{ℕ, ◌+◌, Bool, map, ap, sym, ◌∙◌}
use Rattle.serde_json.specs.View.{view}
use Rattle.rx_cost.specs.declared.candidates.Candidate.{Candidate}
use Rattle.rx_trace.specs.Trace.{is_in, candidate_data}
use Rattle.rx_trace.proofs.Joined.{pushed}
use Rattle.rx_trace.proofs.Numbered.{passed_more, failed_more}
use Rattle.rx_trace.proofs.listing.listed.Goals as goal
use Rattle.rx_trace.proofs.listing.listed.Goals.{then-is_in+in_ok-candidate_value+in_ok-push, else-is_in}

pub loop-i-preserved : goal.loop-i-preserved
loop-i-preserved c =
    let test : ℕ × Candidate → Bool = λ p. is_in c.args.list p.1.kind in
    let make = candidate_data c.args.schema.now in
    let at_item = ap (λ x. is_in c.args.list x.kind) (sym c.index-all-i.is) ∙ sym c.is_in.ensures in
    elim c.if-is_in.branch [
      | then-is_in+in_ok-candidate_value+in_ok-push w ↦
          (let made = w.in_ok-candidate_value.ensures ∙ ap (λ x. make (1 + c.loop-i.i, x)) c.index-all-i.is in
          ap (λ v. map view v.items) w.values-is
          ∙ pushed view _ _ _ _ _ w.in_ok-push.ensures.items c.loop-i.invariant made
          ∙ sym (passed_more make test 1 c.args.all.now c.loop-i.i c.index-all-i.result c.loop-i-test.true (at_item ∙ w.if-is_in.true)))
      | else-is_in w ↦
          ap (λ v. map view v.items) w.values-is
          ∙ c.loop-i.invariant
          ∙ sym (failed_more make test 1 c.args.all.now c.loop-i.i c.index-all-i.result c.loop-i-test.true (at_item ∙ w.if-is_in.false))
    ]
