-- Tests of a position of the first part that have trees.
use Rattle.std.proofs.Common.{◌≡◌, ◌&&◌, ◌||◌, Bool, true, false, not, if◌then◌else◌, List, [], ◌∷◌, refl, ap, sym, ◌∙◌}
use Rattle.std.proofs.Math.Bool.{or-false, and-true}
use Rattle.std.specs.List.{list_any}
use Rattle.std.specs.declared.cmp.Ordering.{Ordering}
use Rattle.std.specs.declared.cmp.Ordering.TheVariants.{Less, Equal, Greater}
use Rattle.rx_value.specs.declared.values.Value.{Value}
use Rattle.rx_value.specs.declared.order.End.{End}
use Rattle.rx_value.specs.declared.order.End.TheVariants.{Last}
use Rattle.rx_value.specs.declared.order.Span.{Span}
use Rattle.rx_value.specs.Order.{end_cmp, is_at_most, below, above}
use Rattle.rx_value.specs.Spans.{IsAtMost, IsBelow, IsSpan, is_inside, first_end, later}
use Rattle.rx_value.proofs.Ends.{at_most-same, at_most-trans}
use Rattle.rx_value.proofs.Meeting.{later_at_most}
use Rattle.rx_tree.specs.Tree.{Tree}
use Rattle.rx_tree.specs.Tree.Tree.{nothing}
use Rattle.rx_tree.specs.Member.{IsPosition, IsTuple}
use Rattle.rx_tree.specs.Points.{is_inside_at, point_tree}
use Rattle.rx_tree.proofs.Bools.{and_parts}
use Rattle.rx_tree.proofs.Places.{first_cut}
use Rattle.rx_tree.proofs.Sets.{point_canonical, point_holds}
use Rattle.rx_sets.specs.Sets.{KeySet, AreSame, IsTreeOf}
use Rattle.rx_sets.proofs.Trees.{same_set}
use Rattle.rx_regions.specs.Places.{place}
use Rattle.rx_ranges.proofs.Splits.{Splits, splits_same, splits_known, splits_by}

-- what the first position passes
abbrev pub at_first : (End → Bool) → KeySet
at_first test [] = true
at_first test (p ∷ ps) = test p

-- a test of a position of the first part has trees
abbrev pub Tells : Bool → List Bool → (End → Bool) → Type 0
Tells n ns test = Splits (n ∷ ns) (at_first test)

-- from the later of two ends on, where the first is passed
from_later : (f e p : End) → IsAtMost f p → IsBelow p Last → ((is_at_most (later f e) p && not (is_at_most Last p)) || false) ≡ is_at_most e p
from_later f e p from cut =
    or-false (is_at_most (later f e) p && not (is_at_most Last p))
    ∙ ap (λ x. is_at_most (later f e) p && not x) cut
    ∙ and-true (is_at_most (later f e) p)
    ∙ later_at_most f e p
    ∙ ap (λ x. x && is_at_most e p) from

-- between two ends, where the first is passed
from_first : (f e p : End) → IsAtMost f p → ((is_at_most f p && not (is_at_most e p)) || false) ≡ not (is_at_most e p)
from_first f e p from = or-false (is_at_most f p && not (is_at_most e p)) ∙ ap (λ x. x && not (is_at_most e p)) from

-- the later of two ends isn't before the first
later_from : (f e : End) → IsAtMost f (later f e)
later_from f e = (and_parts (is_at_most f (later f e)) (is_at_most e (later f e)) (sym (later_at_most f e (later f e)) ∙ at_most-same (later f e))).0

later_cut : (n : Bool) (e : End) → IsBelow e Last → IsBelow (later (first_end n) e) Last
later_cut n e cut =
    elim (end_cmp (first_end n) e) as (λ o. is_at_most Last (elim o [ Less ↦ e | _ ↦ first_end n ]) ≡ false) [
      | Less ↦ cut
      | Equal ↦ (first_cut n).cut
      | Greater ↦ (first_cut n).cut
    ]

module _ (n : Bool) (ns : List Bool) where
  -- a set of the first position alone
  head_same : (f : KeySet) (test : End → Bool) → ((p : End) (ps : List End) → IsPosition n p → f (p ∷ ps) ≡ test p) → AreSame (n ∷ ns) f (at_first test)
  head_same f test same [] tuple = absurd tuple
  head_same f test same (p ∷ ps) tuple = same p ps tuple.0

  pub tells_known : (b : Bool) → Tells n ns (λ p. b)
  tells_known b = splits_same (n ∷ ns) (λ ps. b) (at_first (λ p. b)) (head_same (λ ps. b) (λ p. b) (λ p ps here. refl)) (splits_known (n ∷ ns) b)

  pub tells_by : (a : End → Bool) (h : Bool → End → Bool) → Tells n ns a → ((b : Bool) → Tells n ns (h b)) → Tells n ns (λ p. h (a p) p)
  tells_by a h s each =
      splits_same (n ∷ ns) (λ ps. at_first (h (at_first a ps)) ps) (at_first (λ p. h (a p) p))
      (head_same (λ ps. at_first (h (at_first a ps)) ps) (λ p. h (a p) p) (λ p ps here. refl))
      (splits_by (n ∷ ns) (at_first a) (λ b. at_first (h b)) s each)

  span_same : (s : Span) (f : KeySet) → ((p : End) (ps : List End) → IsPosition n p → (is_inside s p || false) ≡ f (p ∷ ps)) → (ps : List End) → IsTuple (n ∷ ns) ps → is_inside_at 0 (s ∷ []) ps ≡ f ps
  span_same s f same [] tuple = absurd tuple
  span_same s f same (p ∷ ps) tuple = same p ps tuple.0

  -- the tree of the positions in one span
  span_tree : (s : Span) (f : KeySet) → IsAtMost (first_end n) s.lo → IsSpan s → ((p : End) (ps : List End) → IsPosition n p → (is_inside s p || false) ≡ f (p ∷ ps)) → IsTreeOf (n ∷ ns) f (point_tree (n ∷ ns) 0 (s ∷ []))
  span_tree s f from span same =
      same_set (n ∷ ns) (is_inside_at 0 (s ∷ [])) f (point_tree (n ∷ ns) 0 (s ∷ [])) (λ ps tuple. span_same s f same ps tuple)
      (record {
        canonical = point_canonical (n ∷ ns) 0 (s ∷ []) (from, span, tt);
        positions = λ ps tuple. point_holds (n ∷ ns) 0 (s ∷ []) ps (from, span, tt) tuple;
      })

  end_from : (e : End) → IsBelow e Last → IsTreeOf (n ∷ ns) (at_first (is_at_most e)) (point_tree (n ∷ ns) 0 (record { lo = later (first_end n) e; hi = Last } ∷ []))
  end_from e cut =
      span_tree (record { lo = later (first_end n) e; hi = Last }) (at_first (is_at_most e))
      (later_from (first_end n) e) (later_cut n e cut)
      (λ p ps here. from_later (first_end n) e p here.from here.cut)

  none_before : (e : End) → IsAtMost e (first_end n) → (ps : List End) → IsTuple (n ∷ ns) ps → false ≡ not (at_first (is_at_most e) ps)
  none_before e low [] tuple = absurd tuple
  none_before e low (p ∷ ps) tuple = sym (ap not (at_most-trans e (first_end n) p low tuple.0.from))

  end_before : (e : End) (b : Bool) → is_at_most e (first_end n) ≡ b → (t : Tree) × IsTreeOf (n ∷ ns) (λ ps. not (at_first (is_at_most e) ps)) t
  end_before e true low = (nothing, record { canonical = tt; positions = λ ps tuple. none_before e low ps tuple })
  end_before e false high =
      let s : Span = record { lo = first_end n; hi = e } in
      (point_tree (n ∷ ns) 0 (s ∷ []), span_tree s (λ ps. not (at_first (is_at_most e) ps)) (at_most-same (first_end n)) high (λ p ps here. from_first (first_end n) e p here.from))

  -- whether a position is at an end or behind
  pub tells_end : (e : End) → IsBelow e Last → Tells n ns (is_at_most e)
  tells_end e cut =
      let (t, is) = end_before e (is_at_most e (first_end n)) refl in
      record { yes = point_tree (n ∷ ns) 0 (record { lo = later (first_end n) e; hi = Last } ∷ []); has = end_from e cut; no = t; lacks = is }

  -- how a position stands to a value
  pub tells_place : (v : Value) (h : Ordering → End → Bool) → ((o : Ordering) → Tells n ns (h o)) → Tells n ns (λ p. h (place p v) p)
  tells_place v h each =
      tells_by (is_at_most (above v)) (λ a p. h (if a then Greater else if is_at_most (below v) p then Equal else Less) p) (tells_end (above v) refl)
      (λ a. elim a as (λ x. Tells n ns (λ p. h (if x then Greater else if is_at_most (below v) p then Equal else Less) p)) [
        | true ↦ each Greater
        | false ↦ tells_by (is_at_most (below v)) (λ b p. h (if b then Equal else Less) p) (tells_end (below v) refl)
            (λ b. elim b as (λ x. Tells n ns (λ p. h (if x then Equal else Less) p)) [ true ↦ each Equal | false ↦ each Less ])
      ])

  pub tells_order : (v : Value) (h : Ordering → Bool) → Tells n ns (λ p. h (place p v))
  tells_order v h = tells_place v (λ o p. h o) (λ o. tells_known (h o))

  pub tells_orders : (u v : Value) (h : Ordering → Ordering → Bool) → Tells n ns (λ p. h (place p u) (place p v))
  tells_orders u v h = tells_place u (λ o p. h o (place p v)) (λ o. tells_order v (h o))

  pub tells_if : (b : Bool) (f g : End → Bool) → Tells n ns f → Tells n ns g → Tells n ns (λ p. if b then f p else g p)
  tells_if true f g s t = s
  tells_if false f g s t = t

  -- whether a position passes the test of one of these values
  pub tells_any : (test : Value → End → Bool) → ((v : Value) → Tells n ns (test v)) → (list : List Value) → Tells n ns (λ p. list_any (λ v. test v p) list)
  tells_any test each [] = tells_known false
  tells_any test each (v ∷ list) =
      tells_by (test v) (λ b p. b || list_any (λ w. test w p) list) (each v)
      (λ b. elim b as (λ x. Tells n ns (λ p. x || list_any (λ w. test w p) list)) [
        | true ↦ tells_known true
        | false ↦ tells_any test each list
      ])
