use Rattle.std.proofs.Common.{◌∙◌, ap, IfSome, Option, sym, subst, slice_get}
use Rattle.rx_cost.specs.declared.candidates.Candidate.{Candidate}
use Rattle.rx_cost.specs.Choice.{chosen_place}
use Rattle.rx_merges.specs.Fitting.{IsMember}
use Rattle.rx_merges.proofs.Members.{member_few}
use Rattle.rx_merges.proofs.unions.member_of.Goals as goal

pub returns-clause-few : goal.returns-clause-few
returns-clause-few c =
    subst (λ (o : Option Candidate). IfSome o IsMember) (sym (c.take_chosen.ensures ∙ ap (λ l. slice_get l (chosen_place l)) c.in_ok-members.ensures))
    (member_few c.args.schema.now c.args.count c.requires.count c.args.scans.now c.requires.scans c.args.intersect)
