use Rattle.std.proofs.Common.{◌∷◌, [], length, Some, All, ap, sym, ◌∙◌, subst, arith, IfSome, Option}
use Rattle.std.proofs.lemmas.List.{length-append}
use Rattle.std.proofs.lemmas.List.Elements.{All-push}
use Rattle.rx_cost.specs.declared.candidates.Candidate.{Candidate}
use Rattle.rx_merges.specs.Fitting.{IsMember}
use Rattle.rx_merges.specs.Unions.{member_of}
use Rattle.rx_merges.proofs.There.{there_more, not_there}
use Rattle.rx_merges.proofs.unions.all_members.Goals as goal

pub returns-in-None-clause-value : goal.returns-in-None-clause-value
returns-in-None-clause-value c =
    let f = member_of c.args.intersect c.args.schema.now c.args.count in
    sym (not_there f c.args.lists.now c.loop-scans.scans-index c.scans-item.result c.loop-scans-test.true
    (ap f (sym c.scans-item.is ∙ sym c.as_slice.ensures) ∙ sym c.in_ok-member.ensures.value ∙ c.in-None.is))

pub loop-scans-preserved : goal.loop-scans-preserved
loop-scans-preserved c =
    let f = member_of c.args.intersect c.args.schema.now c.args.count in
    let here = c.loop-scans.invariant in
    let pushed = c.in_ok-push-in-Some.ensures.ok in
    let gives = ap f (sym c.scans-item.is ∙ sym c.as_slice.ensures) ∙ sym c.in_ok-member.ensures.value ∙ c.in-Some.is in
    let one = subst (λ (o : Option Candidate). IfSome o IsMember) c.in-Some.is c.in_ok-member.ensures.few in
    record {
      value = there_more f c.args.lists.now c.loop-scans.scans-index c.scans-item.result c.loop-scans.members c.in-Some.member c.loop-scans-test.true here.value gives ∙ ap Some (sym pushed);
      few = omega (arith, here.few, ap length pushed, length-append c.loop-scans.members (c.in-Some.member ∷ []));
      each = subst (All IsMember) (sym pushed) (All-push IsMember c.loop-scans.members c.in-Some.member here.each one);
    }
