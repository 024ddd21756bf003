-- Laying the items of a level over another gives what either holds, in its place.
use Rattle.std.proofs.Common.{◌≡◌, ◌&&◌, ◌||◌, Bool, true, false, cond, List, ◌∷◌, refl, ap, sym, ◌∙◌}
use Rattle.std.specs.declared.cmp.Ordering.{Ordering}
use Rattle.std.specs.declared.cmp.Ordering.TheVariants.{Less, Equal, Greater}
use Rattle.std.proofs.Math.Bool.{or_assoc}
use Rattle.rx_value.specs.declared.order.End.{End}
use Rattle.rx_value.specs.declared.order.Span.{Span}
use Rattle.rx_value.specs.Order.{end_cmp, is_at_most}
use Rattle.rx_value.specs.Spans.{IsAtMost, IsBelow, IsSpan, is_inside, first_end}
use Rattle.rx_value.proofs.Ends.{at_most-same, at_most-trans, below-at_most, below-from_less, at_most-from_equal, end_cmp-equal}
use Rattle.rx_tree.specs.Tree.{Level}
use Rattle.rx_tree.specs.Tree.Level.{end, item}
use Rattle.rx_tree.specs.Member.{IsTuple, level_holds, child_holds}
use Rattle.rx_tree.specs.Canonical.{BeginsFrom, ArePlaced}
use Rattle.rx_tree.specs.Weld.{weld}
use Rattle.rx_tree.specs.Union.{overlaid, lay, lay_all}
use Rattle.rx_tree.proofs.Bools.{or_swap, no_gap}
use Rattle.rx_tree.proofs.Welding.{Fits, weld_placed, weld_begins, weld_holds}
use Rattle.rx_tree.proofs.Intersection.{IsChild}
use Rattle.rx_tree.proofs.Laying.{Overlap, Stands, beyond, overlaid_placed, overlaid_begins, overlaid_holds}

-- a function of two children gives a child below which goes on what does below either
pub record IsEither (ns : List Bool) (f : Level → Level → Level) : Type 0 where
  pub child : (c d : Level) → IsChild ns c → IsChild ns d → IsChild ns (f c d)
  pub holds : (c d : Level) (ps : List End) → IsChild ns c → IsChild ns d → IsTuple ns ps → child_holds (f c d) ps ≡ (child_holds c ps || child_holds d ps)

-- an item that may stand somewhere in a level
pub record IsNew (n : Bool) (ns : List Bool) (s : Span) (c : Level) : Type 0 where
  pub span : IsSpan s
  pub from : IsAtMost (first_end n) s.lo
  pub child : IsChild ns c

-- a level is that of an item laid over another
pub record IsLaid (n : Bool) (ns : List Bool) (s : Span) (c l laid : Level) : Type 0 where
  pub placed : ArePlaced (n ∷ ns) laid
  pub begins : (e : End) → IsAtMost e s.lo → BeginsFrom e l → BeginsFrom e laid
  pub holds : (p : End) (ps : List End) → IsTuple ns ps → level_holds laid (p ∷ ps) ≡ ((is_inside s p && child_holds c ps) || level_holds l (p ∷ ps))

alone : (n : Bool) (ns : List Bool) (s : Span) (c : Level) → IsNew n ns s c → IsLaid n ns s c end (item s c end)
alone n ns s c new = record {
  placed = (record { span = new.span; from = new.from; rises = tt; differs = tt }, new.child.not_all, new.child.placed, tt);
  begins = λ e from on. from;
  holds = λ p ps fits. refl;
}

-- behind an item that ends before the new one begins
laid_behind : (n : Bool) (ns : List Bool) (s : Span) (c : Level) (t : Span) (d rest laid : Level) → ArePlaced (n ∷ ns) (item t d rest) → IsAtMost t.hi s.lo → IsLaid n ns s c rest laid → IsLaid n ns s c (item t d rest) (weld t d laid)
laid_behind n ns s c t d rest laid placed low after =
    let fits : Fits n ns t d laid = record {
      span = placed.0.span;
      from = placed.0.from;
      rises = after.begins t.hi low placed.0.rises;
      not_all = placed.1;
      child = placed.2;
      after = after.placed;
    } in
    record {
      placed = weld_placed n ns t d laid fits;
      begins = λ e from on. weld_begins e t d laid on;
      holds = λ p ps tuple.
          weld_holds n ns t d laid p ps fits
          ∙ ap (λ x. (is_inside t p && child_holds d ps) || x) (after.holds p ps tuple)
          ∙ or_swap (is_inside t p && child_holds d ps) (is_inside s p && child_holds c ps) (level_holds rest (p ∷ ps));
    }

-- before an item that begins where the new one ends, or later
laid_before : (n : Bool) (ns : List Bool) (s : Span) (c : Level) (t : Span) (d rest : Level) → ArePlaced (n ∷ ns) (item t d rest) → IsNew n ns s c → IsAtMost s.hi t.lo → IsLaid n ns s c (item t d rest) (weld s c (item t d rest))
laid_before n ns s c t d rest placed new low =
    let fits : Fits n ns s c (item t d rest) = record {
      span = new.span;
      from = new.from;
      rises = low;
      not_all = new.child.not_all;
      child = new.child.placed;
      after = placed;
    } in
    record {
      placed = weld_placed n ns s c (item t d rest) fits;
      begins = λ e from on. weld_begins e s c (item t d rest) from;
      holds = λ p ps tuple. weld_holds n ns s c (item t d rest) p ps fits;
    }

-- what follows two spans that overlap: the items after the second, with what is left of the first laid over them
abbrev left_over : (Level → Level → Level) → Span → Level → Span → Level → Ordering → Level
left_over f s c t rest o = elim o [ Greater ↦ lay f (record { lo = t.hi; hi = s.hi }) c rest | _ ↦ rest ]

pub record IsLeft (n : Bool) (ns : List Bool) (s : Span) (c : Level) (t : Span) (rest left : Level) : Type 0 where
  pub stands : Stands n ns t.hi left
  pub holds : (p : End) (ps : List End) → IsTuple ns ps → level_holds left (p ∷ ps) ≡ beyond s t c rest p ps

nothing_left : (n : Bool) (ns : List Bool) (s : Span) (c : Level) (t : Span) (d rest : Level) → ArePlaced (n ∷ ns) (item t d rest) → IsAtMost s.hi t.hi → IsLeft n ns s c t rest rest
nothing_left n ns s c t d rest placed low = record {
  stands = record { placed = placed.3; begins = placed.0.rises };
  holds = λ p ps tuple. ap (λ x. (x && child_holds c ps) || level_holds rest (p ∷ ps))
      (sym (no_gap (is_at_most t.hi p) (is_at_most s.hi p) (λ h. at_most-trans s.hi t.hi p low h)));
}

left_by : (f : Level → Level → Level) (n : Bool) (ns : List Bool) (s : Span) (c : Level) (t : Span) (d rest : Level) (o : Ordering) → end_cmp s.hi t.hi ≡ o → ArePlaced (n ∷ ns) (item t d rest) → IsNew n ns s c
    → ((u : Span) → IsNew n ns u c → IsLaid n ns u c rest (lay f u c rest)) → IsLeft n ns s c t rest (left_over f s c t rest o)
left_by f n ns s c t d rest Less e placed new after = nothing_left n ns s c t d rest placed (below-at_most s.hi t.hi (below-from_less s.hi t.hi e))
left_by f n ns s c t d rest Equal e placed new after = nothing_left n ns s c t d rest placed (at_most-from_equal s.hi t.hi (end_cmp-equal s.hi t.hi e))
left_by f n ns s c t d rest Greater e placed new after =
    let u : Span = record { lo = t.hi; hi = s.hi } in
    let laid = after u (record {
      span = ap (λ o. elim o [ Greater ↦ false | _ ↦ true ]) e;
      from = at_most-trans (first_end n) t.lo t.hi placed.0.from (below-at_most t.lo t.hi placed.0.span);
      child = new.child;
    }) in
    record {
      stands = record { placed = laid.placed; begins = laid.begins t.hi (at_most-same t.hi) placed.0.rises };
      holds = laid.holds;
    }

-- over an item that it overlaps
laid_over : (f : Level → Level → Level) (n : Bool) (ns : List Bool) (s : Span) (c : Level) (t : Span) (d rest left : Level) → IsEither ns f → ArePlaced (n ∷ ns) (item t d rest) → IsNew n ns s c → IsBelow s.lo t.hi → IsBelow t.lo s.hi → IsLeft n ns s c t rest left
    → IsLaid n ns s c (item t d rest) (overlaid f s c t d left)
laid_over f n ns s c t d rest left either placed new reaches reached l =
    let below : IsChild ns d = record { placed = placed.2; not_all = placed.1 } in
    let o : Overlap n ns s t c d = record {
      first = new.span;
      second = placed.0.span;
      reaches = reaches;
      reached = reached;
      from = new.from;
      from_second = placed.0.from;
      child = new.child;
      below = below;
    } in
    let child = either.child c d new.child below in
    record {
      placed = overlaid_placed f n ns s t c d left o child l.stands;
      begins = λ e from on. overlaid_begins f n ns e s t c d left o l.stands from on;
      holds = λ p ps tuple. overlaid_holds f n ns s t c d left rest p ps o child l.stands (either.holds c d ps new.child below tuple) (l.holds p ps tuple);
    }

laid_by : (f : Level → Level → Level) (n : Bool) (ns : List Bool) (s : Span) (c : Level) (t : Span) (d rest : Level) (a b : Bool) → is_at_most t.hi s.lo ≡ a → is_at_most s.hi t.lo ≡ b → IsEither ns f → ArePlaced (n ∷ ns) (item t d rest) → IsNew n ns s c
    → ((u : Span) → IsNew n ns u c → IsLaid n ns u c rest (lay f u c rest))
    → IsLaid n ns s c (item t d rest) (cond a (weld t d (lay f s c rest)) (cond b (weld s c (item t d rest)) (overlaid f s c t d (left_over f s c t rest (end_cmp s.hi t.hi)))))
laid_by f n ns s c t d rest true b e g either placed new after = laid_behind n ns s c t d rest (lay f s c rest) placed e (after s new)
laid_by f n ns s c t d rest false true e g either placed new after = laid_before n ns s c t d rest placed new g
laid_by f n ns s c t d rest false false e g either placed new after =
    laid_over f n ns s c t d rest (left_over f s c t rest (end_cmp s.hi t.hi)) either placed new e g
    (left_by f n ns s c t d rest (end_cmp s.hi t.hi) refl placed new after)

-- an item laid over a level in place: items stay in place, and what the item or the level holds is held
pub lay_law : (f : Level → Level → Level) (n : Bool) (ns : List Bool) (c l : Level) → IsEither ns f → ArePlaced (n ∷ ns) l → (s : Span) → IsNew n ns s c → IsLaid n ns s c l (lay f s c l)
lay_law f n ns c end either placed s new = alone n ns s c new
lay_law f n ns c (item t d rest) either placed s new =
    laid_by f n ns s c t d rest (is_at_most t.hi s.lo) (is_at_most s.hi t.lo) refl refl either placed new (lay_law f n ns c rest either placed.3)

-- the items of a level laid over another
pub record AreLaid (n : Bool) (ns : List Bool) (a b laid : Level) : Type 0 where
  pub placed : ArePlaced (n ∷ ns) laid
  pub holds : (p : End) (ps : List End) → IsTuple ns ps → level_holds laid (p ∷ ps) ≡ (level_holds a (p ∷ ps) || level_holds b (p ∷ ps))

new_item : (n : Bool) (ns : List Bool) (s : Span) (c rest : Level) → ArePlaced (n ∷ ns) (item s c rest) → IsNew n ns s c
new_item n ns s c rest placed = record { span = placed.0.span; from = placed.0.from; child = record { placed = placed.2; not_all = placed.1 } }

pub lay_all_law : (f : Level → Level → Level) (n : Bool) (ns : List Bool) (a b : Level) → IsEither ns f → ArePlaced (n ∷ ns) a → ArePlaced (n ∷ ns) b → AreLaid n ns a b (lay_all f a b)
lay_all_law f n ns end b either placed other = record { placed = other; holds = λ p ps tuple. refl }
lay_all_law f n ns (item s c rest) b either placed other =
    let after = lay_all_law f n ns rest b either placed.3 other in
    let laid = lay_law f n ns c (lay_all f rest b) either after.placed s (new_item n ns s c rest placed) in
    record {
      placed = laid.placed;
      holds = λ p ps tuple.
          laid.holds p ps tuple
          ∙ ap (λ x. (is_inside s p && child_holds c ps) || x) (after.holds p ps tuple)
          ∙ sym (or_assoc (is_inside s p && child_holds c ps) (level_holds rest (p ∷ ps)) (level_holds b (p ∷ ps)));
    }
