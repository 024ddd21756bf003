use Rattle.std.proofs.Common.{◌≡◌, ◌+◌, ◌++◌, ◌∷◌, sym, drop, subst}
use Rattle.std.specs.List.{flat_map}
use Rattle.rx_scan.specs.Runs.{extent_places, places_between}
use Rattle.rx_scan.specs.declared.places.Places.TheInside.{Inside}
use Rattle.rx_scan.proofs.Opened.{next_same, next_later}
use Rattle.rx_scan.proofs.places.Places.next.Goals as goal
use Rattle.rx_scan.proofs.places.Places.next.Goals.{then-self+in_ok-extent, else-self}

pub returns-clause-some : goal.returns-clause-some
returns-clause-some c =
    let later = λ (p : Inside). flat_map extent_places (drop p.next p.extents) in
    let inside = c.self.inside in
    elim c.if-self.branch [
      | then-self+in_ok-extent w ↦
          let found = w.in_ok-extent.extent in
          subst (λ (p : Inside). c.args.self.now ≡ p.at ∷ (places_between (p.at + 1) p.end ++ later p)) (sym w.self-inside-is)
          (next_later c.args.self.now inside.at inside.end found.begin found.end (later inside) (flat_map extent_places (drop w.in_ok-extent.next inside.extents))
          c.self.view_is w.if-self.true (rw w.as_slice.ensures at w.in_ok-extent.ensures.some) w.in_ok-extent.ensures.filled)
      | else-self w ↦
          subst (λ (p : Inside). c.args.self.now ≡ p.at ∷ (places_between (p.at + 1) p.end ++ later p)) (sym w.self-inside-is)
          (next_same c.args.self.now inside.at inside.end (later inside) c.self.view_is w.if-self.false)
    ]
