use Rattle.std.proofs.Common.{ap, if◌then◌else◌, Bool}
use Rattle.rx_walk.specs.Left.{rest}
use Rattle.rx_walk.specs.Ranges.{whole_first}
use Rattle.rx_walk.proofs.Begun.{left_at, left_bare, whole_given}
use Rattle.rx_walk.proofs.Progress.{progress}
use Rattle.rx_walk.proofs.ranges.RangesIterator.next.Goals as goal

pub returns-then-self-clause-steps : goal.returns-then-self-clause-steps
returns-then-self-clause-steps c =
    whole_given (rest c.args.self.now) (whole_first c.args.self.now.walk.parts.now) (left_at c.args.self.now.walk.levels.now c.args.self.now.walk.parts.now c.args.self.now.walk.falling.now c.args.self.now.root c.args.self.now.places) c.whole_range.result
    (ap (λ (b : Bool). if b then whole_first c.args.self.now.walk.parts.now else left_at c.args.self.now.walk.levels.now c.args.self.now.walk.parts.now c.args.self.now.walk.falling.now c.args.self.now.root c.args.self.now.places) c.if-self.true)
    (left_bare c.args.self.now.walk.levels.now c.args.self.now.walk.parts.now c.args.self.now.walk.falling.now c.args.self.now.root c.args.self.now.places (c.requires.whole c.if-self.true))
    c.whole_range.ensures.some c.whole_range.ensures.none

pub returns-then-self-clause-goes : goal.returns-then-self-clause-goes
returns-then-self-clause-goes c =
    progress c.args.self.now _ c.whole_range.result
    (record { lent = c.requires.lent; parts = c.requires.parts; places = c.requires.places; whole = λ no. cc no })
    (returns-then-self-clause-steps c)
