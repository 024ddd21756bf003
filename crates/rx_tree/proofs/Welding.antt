-- Welding keeps what is held, and keeps items in their places.
use Rattle.std.proofs.Common.{◌≡◌, ◌&&◌, ◌||◌, Bool, true, false, not, cond, List, ◌∷◌, refl, ap, ap₂, sym, ◌∙◌, subst}
use Rattle.std.specs.declared.cmp.Ordering.{Ordering}
use Rattle.std.specs.declared.cmp.Ordering.TheVariants.{Less, Equal, Greater}
use Rattle.std.proofs.lemmas.Cmp.{tied_itself}
use Rattle.rx_value.specs.declared.order.End.{End}
use Rattle.rx_value.specs.declared.order.Span.{Span}
use Rattle.rx_value.specs.Order.{end_cmp, is_at_most}
use Rattle.rx_value.specs.Spans.{IsAtMost, IsSpan, is_inside, first_end}
use Rattle.rx_value.proofs.Ends.{end_cmp_total, end_cmp-equal, at_most-trans, at_most-from_equal, below-at_most, below-at_most-trans}
use Rattle.std.proofs.Math.Bool.{or_assoc}
use Rattle.rx_tree.proofs.Bools.{and_parts, or_and, split_by}
use Rattle.rx_tree.specs.Tree.{Level}
use Rattle.rx_tree.specs.Tree.Level.{end, item}
use Rattle.rx_tree.specs.Member.{level_holds, child_holds}
use Rattle.rx_tree.specs.Canonical.{BeginsFrom, Differs, ArePlaced, IsNotAll}
use Rattle.rx_tree.specs.Weld.{is_same_end, is_touching, is_same_level, span_over, weld, glue, EndsBy}

answers_equal : (o : Ordering) → (elim o [ Equal ↦ true | _ ↦ false ]) ≡ true → o ≡ Equal
answers_equal Less e = absurd (cc e)
answers_equal Equal e = refl
answers_equal Greater e = absurd (cc e)

equal_answers : (o : Ordering) → o ≡ Equal → (elim o [ Equal ↦ true | _ ↦ false ]) ≡ true
equal_answers Less e = absurd (cc e)
equal_answers Equal e = refl
equal_answers Greater e = absurd (cc e)

pub same_end-equal : (a b : End) → is_same_end a b ≡ true → a ≡ b
same_end-equal a b e = end_cmp-equal a b (answers_equal (end_cmp a b) e)

pub same_end-itself : (a : End) → is_same_end a a ≡ true
same_end-itself a = equal_answers (end_cmp a a) (tied_itself end_cmp_total a)

-- the test of levels decides whether they are equal
pub same_level-equal : (c d : Level) → is_same_level c d ≡ true → c ≡ d
same_level-equal end end e = refl
same_level-equal end (item t d more) e = absurd (cc e)
same_level-equal (item s c rest) end e = absurd (cc e)
same_level-equal (item s c rest) (item t d more) e =
    let (lo, later) = and_parts (is_same_end s.lo t.lo) (is_same_end s.hi t.hi && (is_same_level c d && is_same_level rest more)) e in
    let (hi, below) = and_parts (is_same_end s.hi t.hi) (is_same_level c d && is_same_level rest more) later in
    let (child, after) = and_parts (is_same_level c d) (is_same_level rest more) below in
    let lo_is = same_end-equal s.lo t.lo lo in
    let hi_is = same_end-equal s.hi t.hi hi in
    let child_is = same_level-equal c d child in
    let after_is = same_level-equal rest more after in
    λ i. item (record { lo = lo_is i; hi = hi_is i }) (child_is i) (after_is i)

pub same_level-itself : (c : Level) → is_same_level c c ≡ true
same_level-itself end = refl
same_level-itself (item s c rest) = rw (same_end-itself s.lo, same_end-itself s.hi, same_level-itself c) (same_level-itself rest)

-- An item that may stand before others: its ends rise, it begins in its part and ends before they begin, and its child is as it must be.
pub record Fits (n : Bool) (ns : List Bool) (s : Span) (c rest : Level) : Type 0 where
  pub span : IsSpan s
  pub from : IsAtMost (first_end n) s.lo
  pub rises : BeginsFrom s.hi rest
  pub not_all : IsNotAll ns c
  pub child : ArePlaced ns c
  pub after : ArePlaced (n ∷ ns) rest

pub fits_from_placed : (n : Bool) (ns : List Bool) (s : Span) (c rest : Level) → ArePlaced (n ∷ ns) (item s c rest) → Fits n ns s c rest
fits_from_placed n ns s c rest placed = record {
  span = placed.0.span;
  from = placed.0.from;
  rises = placed.0.rises;
  not_all = placed.1;
  child = placed.2;
  after = placed.3;
}

pub joined : (s t : Span) (c d : Level) → (is_touching s t && is_same_level c d) ≡ true → (s.hi ≡ t.lo) × (c ≡ d)
joined s t c d e =
    let (touch, same) = and_parts (is_touching s t) (is_same_level c d) e in
    (same_end-equal s.hi t.lo touch, same_level-equal c d same)

apart : (s t : Span) (c d : Level) → (is_touching s t && is_same_level c d) ≡ false → s.hi ≡ t.lo → c ≡ d → ⊥
apart s t c d e touch same =
    let touching : is_touching s t ≡ true = subst (λ (x : End). is_same_end s.hi x ≡ true) touch (same_end-itself s.hi) in
    let alike : is_same_level c d ≡ true = subst (λ (x : Level). is_same_level c x ≡ true) same (same_level-itself c) in
    absurd (cc (sym e ∙ ap₂ (λ x y. x && y) touching alike))

differs_over : (s t : Span) (c d rest : Level) → c ≡ d → Differs t d rest → Differs (span_over s t) c rest
differs_over s t c d end same differs = tt
differs_over s t c d (item u e more) same differs = λ touch alike. differs touch (sym same ∙ alike)

weld_placed_by : (n : Bool) (ns : List Bool) (s t : Span) (c d rest : Level) (b : Bool) → (is_touching s t && is_same_level c d) ≡ b → Fits n ns s c (item t d rest)
    → ArePlaced (n ∷ ns) (cond b (item (span_over s t) c rest) (item s c (item t d rest)))
weld_placed_by n ns s t c d rest true e fits =
    let (touch, same) = joined s t c d e in
    let up = at_most-trans s.hi t.lo t.hi fits.rises (below-at_most t.lo t.hi fits.after.0.span) in (
      record {
        span = below-at_most-trans s.lo s.hi t.hi fits.span up;
        from = fits.from;
        rises = fits.after.0.rises;
        differs = differs_over s t c d rest same fits.after.0.differs;
      },
      fits.not_all,
      fits.child,
      fits.after.3,
    )
weld_placed_by n ns s t c d rest false e fits =
    (record { span = fits.span; from = fits.from; rises = fits.rises; differs = apart s t c d e }, fits.not_all, fits.child, fits.after)

-- welding keeps items in their places
pub weld_placed : (n : Bool) (ns : List Bool) (s : Span) (c rest : Level) → Fits n ns s c rest → ArePlaced (n ∷ ns) (weld s c rest)
weld_placed n ns s c end fits = (record { span = fits.span; from = fits.from; rises = tt; differs = tt }, fits.not_all, fits.child, tt)
weld_placed n ns s c (item t d rest) fits = weld_placed_by n ns s t c d rest (is_touching s t && is_same_level c d) refl fits

weld_begins_by : (e : End) (s t : Span) (c d rest : Level) (b : Bool) → IsAtMost e s.lo → BeginsFrom e (cond b (item (span_over s t) c rest) (item s c (item t d rest)))
weld_begins_by e s t c d rest true from = from
weld_begins_by e s t c d rest false from = from

pub weld_begins : (e : End) (s : Span) (c rest : Level) → IsAtMost e s.lo → BeginsFrom e (weld s c rest)
weld_begins e s c end from = from
weld_begins e s c (item t d rest) from = weld_begins_by e s t c d rest (is_touching s t && is_same_level c d) from

weld_ends_by : (e : End) (s t : Span) (c d rest : Level) (b : Bool) → IsAtMost s.hi e → EndsBy e (item t d rest) → EndsBy e (cond b (item (span_over s t) c rest) (item s c (item t d rest)))
weld_ends_by e s t c d rest true up by = by
weld_ends_by e s t c d rest false up by = (up, by)

pub weld_ends : (e : End) (s : Span) (c rest : Level) → IsAtMost s.hi e → EndsBy e rest → EndsBy e (weld s c rest)
weld_ends e s c end up by = (up, tt)
weld_ends e s c (item t d rest) up by = weld_ends_by e s t c d rest (is_touching s t && is_same_level c d) up by

-- two spans that touch hold what the one over both holds
over_inside : (s t : Span) (p : End) → IsSpan s → IsSpan t → s.hi ≡ t.lo → is_inside (span_over s t) p ≡ (is_inside s p || is_inside t p)
over_inside s t p span_s span_t touch =
    split_by (is_at_most s.lo p) (is_at_most s.hi p) (is_at_most t.hi p)
    (λ e. at_most-trans s.lo s.hi p (below-at_most s.lo s.hi span_s) e)
    (λ e. at_most-trans s.hi t.hi p (at_most-trans s.hi t.lo t.hi (at_most-from_equal s.hi t.lo touch) (below-at_most t.lo t.hi span_t)) e)
    ∙ ap (λ x. is_inside s p || (is_at_most x p && not (is_at_most t.hi p))) touch

weld_holds_by : (s t : Span) (c d rest : Level) (b : Bool) (p : End) (ps : List End) → (is_touching s t && is_same_level c d) ≡ b → IsSpan s → IsSpan t
    → level_holds (cond b (item (span_over s t) c rest) (item s c (item t d rest))) (p ∷ ps) ≡ level_holds (item s c (item t d rest)) (p ∷ ps)
weld_holds_by s t c d rest true p ps e span_s span_t =
    let (touch, same) = joined s t c d e in
    ap (λ x. (x && child_holds c ps) || level_holds rest (p ∷ ps)) (over_inside s t p span_s span_t touch)
    ∙ or_and (is_inside s p) (is_inside t p) (child_holds c ps) (level_holds rest (p ∷ ps))
    ∙ ap (λ x. (is_inside s p && child_holds c ps) || ((is_inside t p && child_holds x ps) || level_holds rest (p ∷ ps))) same
weld_holds_by s t c d rest false p ps e span_s span_t = refl

-- welding keeps what is held
pub weld_holds : (n : Bool) (ns : List Bool) (s : Span) (c rest : Level) (p : End) (ps : List End) → Fits n ns s c rest → level_holds (weld s c rest) (p ∷ ps) ≡ level_holds (item s c rest) (p ∷ ps)
weld_holds n ns s c end p ps fits = refl
weld_holds n ns s c (item t d rest) p ps fits = weld_holds_by s t c d rest (is_touching s t && is_same_level c d) p ps refl fits.span fits.after.0.span

weld_more : (s t u : Span) (c e more : Level) (b : Bool) → (is_touching t u && is_same_level c e) ≡ b → (is_touching s t && is_same_level c c) ≡ true → weld (span_over s t) c (item u e more) ≡ weld s c (weld t c (item u e more))
weld_more s t u c e more true next joined = rw next (rw joined refl)
weld_more s t u c e more false next joined = rw next (rw joined refl)

-- a span over two that touch welds as the two do, one after the other
weld_over : (s t : Span) (c rest : Level) → (is_touching s t && is_same_level c c) ≡ true → weld (span_over s t) c rest ≡ weld s c (weld t c rest)
weld_over s t c end joined = rw joined refl
weld_over s t c (item u e more) joined = weld_more s t u c e more (is_touching t u && is_same_level c e) refl joined

glue_step : (s t : Span) (c d rest b : Level) (j : Bool) → (is_touching s t && is_same_level c d) ≡ j → glue (weld s c (item t d rest)) b ≡ weld s c (glue (item t d rest) b)
glue_step s t c d rest b false e = rw e refl
glue_step s t c d rest b true e =
    let is : c ≡ d = (joined s t c d e).1 in
    let over : (is_touching s t && is_same_level c c) ≡ true = subst (λ (x : Level). (is_touching s t && is_same_level c x) ≡ true) (sym is) e in
    (rw e refl) ∙ weld_over s t c (glue rest b) over ∙ ap (λ x. weld s c (weld t x (glue rest b))) is

-- an item that is welded before a level may be welded before the level with others after it
pub glue-weld : (s : Span) (c a b : Level) → glue (weld s c a) b ≡ weld s c (glue a b)
glue-weld s c end b = refl
glue-weld s c (item t d rest) b = glue_step s t c d rest b (is_touching s t && is_same_level c d) refl

pub glue_assoc : (a b c : Level) → glue (glue a b) c ≡ glue a (glue b c)
glue_assoc end b c = refl
glue_assoc (item s d rest) b c = glue-weld s d (glue rest b) c ∙ ap (weld s d) (glue_assoc rest b c)

not_joined : (s t : Span) (c d : Level) (b : Bool) → (is_touching s t && is_same_level c d) ≡ b → (s.hi ≡ t.lo → c ≡ d → ⊥) → b ≡ false
not_joined s t c d true e differs = let (touch, same) = joined s t c d e in absurd (differs touch same)
not_joined s t c d false e differs = refl

-- an item whose neighbour has another child isn't joined to it
pub weld_apart : (s : Span) (c rest : Level) → Differs s c rest → weld s c rest ≡ item s c rest
weld_apart s c end differs = refl
weld_apart s c (item t d rest) differs = ap (λ b. cond b (item (span_over s t) c rest) (item s c (item t d rest))) (not_joined s t c d (is_touching s t && is_same_level c d) refl differs)

-- a level of items in their places is glued together already
pub glue_end : (n : Bool) (ns : List Bool) (a : Level) → ArePlaced (n ∷ ns) a → glue a end ≡ a
glue_end n ns end placed = refl
glue_end n ns (item s c rest) placed = ap (weld s c) (glue_end n ns rest placed.3) ∙ weld_apart s c rest placed.0.differs

-- two levels that may stand one before the other: the first ends before the second begins
pub record Follows (n : Bool) (ns : List Bool) (e : End) (a b : Level) : Type 0 where
  pub first : ArePlaced (n ∷ ns) a
  pub second : ArePlaced (n ∷ ns) b
  pub ends : EndsBy e a
  pub begins : BeginsFrom e b

pub begins_later : (e f : End) (b : Level) → IsAtMost e f → BeginsFrom f b → BeginsFrom e b
begins_later e f end low begins = tt
begins_later e f (item s c rest) low begins = at_most-trans e f s.lo low begins

follows_rest : (n : Bool) (ns : List Bool) (e : End) (s : Span) (c rest b : Level) → Follows n ns e (item s c rest) b → Follows n ns e rest b
follows_rest n ns e s c rest b f = record { first = f.first.3; second = f.second; ends = f.ends.1; begins = f.begins }

-- the items of both begin where the first of them does
pub glue_begins : (low : End) (a b : Level) → BeginsFrom low a → BeginsFrom low b → BeginsFrom low (glue a b)
glue_begins low end b from later = later
glue_begins low (item s c rest) b from later = weld_begins low s c (glue rest b) from

glue_fits : (n : Bool) (ns : List Bool) (e : End) (s : Span) (c rest b : Level) → Follows n ns e (item s c rest) b → ArePlaced (n ∷ ns) (glue rest b) → Fits n ns s c (glue rest b)
glue_fits n ns e s c rest b f placed = record {
  span = f.first.0.span;
  from = f.first.0.from;
  rises = glue_begins s.hi rest b f.first.0.rises (begins_later s.hi e b f.ends.0 f.begins);
  not_all = f.first.1;
  child = f.first.2;
  after = placed;
}

-- gluing keeps items in their places
pub glue_placed : (n : Bool) (ns : List Bool) (e : End) (a b : Level) → Follows n ns e a b → ArePlaced (n ∷ ns) (glue a b)
glue_placed n ns e end b f = f.second
glue_placed n ns e (item s c rest) b f =
    weld_placed n ns s c (glue rest b) (glue_fits n ns e s c rest b f (glue_placed n ns e rest b (follows_rest n ns e s c rest b f)))

pub glue_ends : (e : End) (a b : Level) → EndsBy e a → EndsBy e b → EndsBy e (glue a b)
glue_ends e end b by later = later
glue_ends e (item s c rest) b by later = weld_ends e s c (glue rest b) by.0 (glue_ends e rest b by.1 later)

-- what is glued together holds what either holds
pub glue_holds : (n : Bool) (ns : List Bool) (e : End) (a b : Level) (p : End) (ps : List End) → Follows n ns e a b → level_holds (glue a b) (p ∷ ps) ≡ (level_holds a (p ∷ ps) || level_holds b (p ∷ ps))
glue_holds n ns e end b p ps f = refl
glue_holds n ns e (item s c rest) b p ps f =
    let more = follows_rest n ns e s c rest b f in
    weld_holds n ns s c (glue rest b) p ps (glue_fits n ns e s c rest b f (glue_placed n ns e rest b more))
    ∙ ap (λ x. (is_inside s p && child_holds c ps) || x) (glue_holds n ns e rest b p ps more)
    ∙ sym (or_assoc (is_inside s p && child_holds c ps) (level_holds rest (p ∷ ps)) (level_holds b (p ∷ ps)))
