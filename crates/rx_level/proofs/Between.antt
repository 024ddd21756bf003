-- Lent items' spans, and levels made of them, over stores that follow one another.
use Rattle.std.proofs.Common.{◌≡◌, ◌<◌, ◌+◌, ℕ, List, [], ◌∷◌, ◌++◌, length, Option, Some, None, arith, refl, ap, ap₂, sym, ◌∙◌, subst}
use Rattle.slab.specs.Slab.{Slab}
use Rattle.rx_value.specs.declared.order.Span.{Span}
use Rattle.rx_tree.specs.Tree.Level.{end, item}
use Rattle.rx_tree.specs.Points.{items_of}
use Rattle.rx_tree.specs.Join.{join_level}
use Rattle.rx_level.specs.declared.nodes.Node.{Node}
use Rattle.rx_level.specs.declared.building.Bounds.{Bounds}
use Rattle.rx_level.specs.Tree.{Tree, Fork, fork_of}
use Rattle.rx_level.specs.Tree.Tree.{none, some}
use Rattle.rx_level.specs.Store.{IsSound}
use Rattle.rx_level.specs.Step.{Step, Lent, level_of}
use Rattle.rx_level.specs.Between.{AreLent, span_in, span_at, span_between, spans_between}
use Rattle.rx_level.proofs.Lending.{lent_after}
use Rattle.rx_level.proofs.Lists.{built}

abbrev fork_span_or : Option Fork → Span → Span
fork_span_or None s = s
fork_span_or (Some f) s = f.span

pub fork_span : (t : Tree) (f : Fork) → fork_of t ≡ Some f → span_in t ≡ f.span
fork_span none f e = absurd (cc e)
fork_span (some k s c l r) f e = ap (λ o. fork_span_or o s) e

-- what stays of lent items over a step that spends nothing
pub record SpanStays (a b : Slab Node) (k : ℕ) : Type 0 where
  pub span : span_at b k ≡ span_at a k
  pub lent : Lent b [] (Some k)

pub span_stays : (a b : Slab Node) (g : List (Option ℕ)) → IsSound a [] → Step a b [] g → (k : ℕ) → Lent a [] (Some k) → SpanStays a b k
span_stays a b g sound step k lent =
    let s = lent_after a b [] g [] [] sound step (λ m. omega arith) (λ m. omega arith) (Some k) lent in
    record { span = ap span_in s.tree; lent = s.lent }

pub record BoundsStay (a b : Slab Node) (bounds : List Bounds) : Type 0 where
  pub spans : spans_between b bounds ≡ spans_between a bounds
  pub lent : AreLent b bounds

between_stays : (a b : Slab Node) (g : List (Option ℕ)) → IsSound a [] → Step a b [] g → (x : Bounds) → Lent a [] (Some x.first) → Lent a [] (Some x.last) → span_between b x ≡ span_between a x
between_stays a b g sound step x first last =
    let f = span_stays a b g sound step x.first first in
    let l = span_stays a b g sound step x.last last in
    rw (f.span, l.span) refl

pub bounds_stay : (a b : Slab Node) (g : List (Option ℕ)) → IsSound a [] → Step a b [] g → (bounds : List Bounds) → AreLent a bounds → BoundsStay a b bounds
bounds_stay a b g sound step [] lent = record { spans = refl; lent = tt }
bounds_stay a b g sound step (x ∷ rest) lent =
    let r = bounds_stay a b g sound step rest lent.2 in
    record {
      spans = ap₂ (λ s ss. s ∷ ss) (between_stays a b g sound step x lent.0 lent.1) r.spans;
      lent = ((span_stays a b g sound step x.first lent.0).lent, (span_stays a b g sound step x.last lent.1).lent, r.lent);
    }

-- a list in three parts
pub record LentParts (s : Slab Node) (xs : List Bounds) (x : Bounds) (ys : List Bounds) : Type 0 where
  pub front : AreLent s xs
  pub first : Lent s [] (Some x.first)
  pub last : Lent s [] (Some x.last)
  pub back : AreLent s ys

in_parts : (s : Slab Node) (front : List Bounds) (own : Bounds) (back : List Bounds) → AreLent s (front ++ own ∷ back) → LentParts s front own back
in_parts s [] own back lent = record { front = tt; first = lent.0; last = lent.1; back = lent.2 }
in_parts s (x ∷ front) own back lent =
    let p = in_parts s front own back lent.2 in
    record { front = (lent.0, lent.1, p.front); first = p.first; last = p.last; back = p.back }

pub spans_append : (s : Slab Node) (xs ys : List Bounds) → spans_between s (xs ++ ys) ≡ spans_between s xs ++ spans_between s ys
spans_append s [] ys = refl
spans_append s (x ∷ xs) ys = ap (λ r. span_between s x ∷ r) (spans_append s xs ys)

pub lent_append : (s : Slab Node) (xs ys : List Bounds) → AreLent s xs → AreLent s ys → AreLent s (xs ++ ys)
lent_append s [] ys one two = two
lent_append s (x ∷ xs) ys one two = (one.0, one.1, lent_append s xs ys one.2 two)

pub lent_cut : (s : Slab Node) (bounds front rest : List Bounds) (own : Bounds) (back : List Bounds) → bounds ≡ front ++ rest → rest ≡ own ∷ back → AreLent s bounds → LentParts s front own back
lent_cut s bounds front rest own back is cut lent = in_parts s front own back (subst (AreLent s) (is ∙ ap (λ r. front ++ r) cut) lent)

-- of two parts of a list, the second of which has a first member, the first part and the second's rest are shorter
pub record Shorter (bounds xs ys : List Bounds) : Type 0 where
  pub front : length xs < length bounds
  pub back : length ys < length bounds

pub shorter : (bounds front rest : List Bounds) (own : Bounds) (back : List Bounds) (mid : ℕ) → length front ≡ mid → length rest + mid ≡ length bounds → rest ≡ own ∷ back → Shorter bounds front back
shorter bounds front rest own back mid one two cut =
    let more = ap length cut in
    record { front = omega (arith, one, two, more); back = omega (arith, one, two, more) }

-- the level of two parts, and of what stands between them
pub built_between : (a b d f : Slab Node) (bounds front rest : List Bounds) (own : Bounds) (back : List Bounds) (left right whole : Option ℕ)
    → IsSound a [] → AreLent a bounds → bounds ≡ front ++ rest → rest ≡ own ∷ back
    → Step a b [] (right ∷ []) → level_of b right ≡ items_of (spans_between a back)
    → Step b d [] (left ∷ []) → level_of d left ≡ items_of (spans_between b front)
    → level_of f whole ≡ join_level (level_of d left) (item (span_between d own) end (level_of d right))
    → level_of f whole ≡ items_of (spans_between a bounds)
built_between a b d f bounds front rest own back left right whole sound lent is cut one is_right two is_left made =
    let parts = lent_cut a bounds front rest own back is cut lent in
    let before = bounds_stay a b (right ∷ []) sound one front parts.front in
    let first = span_stays a b (right ∷ []) sound one own.first parts.first in
    let last = span_stays a b (right ∷ []) sound one own.last parts.last in
    let between = between_stays b d (left ∷ []) one.sound two own first.lent last.lent ∙ between_stays a b (right ∷ []) sound one own parts.first parts.last in
    built a b d f left right whole (spans_between b front) (spans_between a back) (spans_between a bounds) (span_between d own) one is_right two is_left made
    (ap₂ (λ xs x. xs ++ x ∷ spans_between a back) before.spans between
    ∙ sym (spans_append a front (own ∷ back))
    ∙ ap (spans_between a) (sym (is ∙ ap (λ r. front ++ r) cut)))
