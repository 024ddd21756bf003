-- What two levels have in common, over stores that follow one another.
use Rattle.std.proofs.Common.{◌≡◌, ◌+◌, ◌<◌, ◌≤◌, ℕ, List, [], ◌∷◌, Option, Some, None, IsSome, arith, refl, ap, sym, ◌∙◌, subst}
use Rattle.slab.specs.Slab.{Slab, get}
use Rattle.rx_value.specs.declared.order.Span.{Span}
use Rattle.rx_value.specs.Spans.{meet_span}
use Rattle.rx_level.specs.declared.nodes.Node.{Node}
use Rattle.rx_tree.specs.Tree.{Level, level_size}
use Rattle.rx_tree.specs.Tree.Level.{end, item}
use Rattle.rx_tree.specs.Join.{join_level}
use Rattle.rx_tree.specs.Weld.{glue}
use Rattle.rx_tree.specs.Meet.{Piece, piece_of, put_piece, meet_child, unless_end, across, both}
use Rattle.rx_tree.proofs.Welding.{glue_assoc}
use Rattle.rx_tree.proofs.Sizes.{glue_second}
use Rattle.rx_tree.proofs.Joining.{size-join, across-join, both-join}
use Rattle.rx_level.specs.Store.{IsSound, body_in}
use Rattle.rx_level.specs.Step.{Owns, Step, Lent, level_of}
use Rattle.rx_level.proofs.Steps.{held_there, level_of-parts}
use Rattle.rx_level.proofs.Turning.{kept_root}
use Rattle.rx_weld.specs.Seamless.{IsSeamless}
use Rattle.rx_weld.proofs.Seamless.{glue_size_first}
use Rattle.rx_cut.proofs.Staying.{Stays, stays, stays_two}
use Rattle.rx_limit.proofs.Glues.{Within, within}
use Rattle.rx_and.proofs.Pieces.{across_are_apart, both_are_apart}
use Rattle.rx_and.proofs.Reached.{Keeps}
use Rattle.rx_and.proofs.Narrowed.{Side}

-- the parts of a level are smaller
pub record Smaller (whole below before after : Level) : Type 0 where
  pub child : level_size below < level_size whole
  pub left : level_size before < level_size whole
  pub right : level_size after < level_size whole

pub smaller : (whole below before after : Level) (span : Span) → whole ≡ join_level before (item span below after) → Smaller whole below before after
smaller whole below before after span e =
    let size : level_size whole ≡ level_size before + (1 + level_size below + level_size after) = ap level_size e ∙ size-join before (item span below after) in
    record { child = omega (arith, size); left = omega (arith, size); right = omega (arith, size) }

piece_apart : (p : Option Piece) → IsSeamless (put_piece p end)
piece_apart None = tt
piece_apart (Some p) = (tt, tt)

-- an item before a level is a level of one item glued before it
put_alone : (p : Option Piece) (b : Level) → glue (put_piece p end) b ≡ put_piece p b
put_alone None b = refl
put_alone (Some p) b = refl

-- what an item has in common with a level that is taken apart at an item
across_parts : (f : Level → Level) (c : Level) (s t : Span) (p : Option Span) (whole before below after : Level) → whole ≡ join_level before (item t below after) → p ≡ meet_span s t
    → glue (across f c s before) (glue (put_piece (piece_of p (meet_child f c below)) end) (across f c s after)) ≡ across f c s whole
across_parts f c s t p whole before below after opened is =
    ap (λ q. glue (across f c s before) (glue (put_piece (piece_of q (meet_child f c below)) end) (across f c s after))) is
    ∙ ap (glue (across f c s before)) (put_alone (piece_of (meet_span s t) (meet_child f c below)) (across f c s after))
    ∙ sym (across-join f c s before (item t below after))
    ∙ ap (across f c s) (sym opened)

pub across_within : (f : Level → Level) (c : Level) (s t : Span) (p : Option Span) (whole before below after : Level) → whole ≡ join_level before (item t below after) → p ≡ meet_span s t
    → Within (across f c s before) (put_piece (piece_of p (meet_child f c below)) end) (across f c s after) (across f c s whole)
across_within f c s t p whole before below after opened is =
    within (across f c s before) (put_piece (piece_of p (meet_child f c below)) end) (across f c s after) (across f c s whole)
    (across_are_apart f c s before) (piece_apart (piece_of p (meet_child f c below))) (across_parts f c s t p whole before below after opened is)

-- what a level that is taken apart at an item has in common with another
both_parts : (s : Span) (whole before below after h : Level) → whole ≡ join_level before (item s below after)
    → glue (both before h) (glue (across (both below) below s h) (both after h)) ≡ both whole h
both_parts s whole before below after h opened = sym (both-join before (item s below after) h) ∙ ap (λ x. both x h) (sym opened)

pub both_within : (s : Span) (whole before below after h : Level) → whole ≡ join_level before (item s below after)
    → Within (both before h) (across (both below) below s h) (both after h) (both whole h)
both_within s whole before below after h opened =
    within (both before h) (across (both below) below s h) (both after h) (both whole h) (both_are_apart before h) (across_are_apart (both below) below s h) (both_parts s whole before below after h opened)

-- the same in a later store
pub across_later : (a b : Slab Node) (c h : Option ℕ) (s : Span) → Stays a b c → Stays a b h
    → across (both (level_of b c)) (level_of b c) s (level_of b h) ≡ across (both (level_of a c)) (level_of a c) s (level_of a h)
across_later a b c h s stays_c stays_h = rw (stays_c.level, stays_h.level) refl

-- and with what is kept of a side
pub across_kept : (a b : Slab Node) (c side kept : Option ℕ) (s : Span) → Keeps a s side kept → Stays a b c → Stays a b kept
    → across (both (level_of b c)) (level_of b c) s (level_of b kept) ≡ across (both (level_of a c)) (level_of a c) s (level_of a side)
across_kept a b c side kept s keeps stays_c stays_h = across_later a b c kept s stays_c stays_h ∙ keeps.same (both (level_of a c)) (level_of a c)

pub both_later : (a b : Slab Node) (g h : Option ℕ) → Stays a b g → Stays a b h → both (level_of b g) (level_of b h) ≡ both (level_of a g) (level_of a h)
both_later a b g h stays_g stays_h = rw (stays_g.level, stays_h.level) refl

-- a level that a later call finds too large
pub over_later : (limit : ℕ) (later former whole : Level) → limit < level_size later → later ≡ former → level_size former ≤ level_size whole → limit < level_size whole
over_later limit later former whole over is fits = let size : level_size later ≡ level_size former = ap level_size is in omega (arith, over, size, fits)

-- the middle, the front and the back of a level, made one after another
record Kept (b d e : Slab Node) (middle front : Option ℕ) : Type 0 where
  middle_kept : level_of e middle ≡ level_of b middle
  front_kept : level_of e front ≡ level_of d front

kept : (a b d e : Slab Node) (middle front back : Option ℕ) (ms fs bs : List (Option ℕ)) → Step a b [] (middle ∷ ms) → Step b d [] (front ∷ fs) → Step d e [] (back ∷ bs) → Kept b d e middle front
kept a b d e middle front back ms fs bs one two three = record {
  middle_kept = (kept_root d e _ _ three middle (λ m. omega (arith, one.held m, two.held m))).level ∙ (kept_root b d _ _ two middle (λ m. omega (arith, one.held m))).level;
  front_kept = (kept_root d e _ _ three front (λ m. omega (arith, two.held m))).level;
}

-- three levels that are glued to this one
pub record Glues (s : Slab Node) (front middle back : Option ℕ) (whole : Level) : Type 0 where
  pub is : glue (level_of s front) (glue (level_of s middle) (level_of s back)) ≡ whole
  pub front_apart : IsSeamless (level_of s front)
  pub middle_apart : IsSeamless (level_of s middle)

glues_from : (s : Slab Node) (front middle back : Option ℕ) (x m r whole : Level) → level_of s front ≡ x → level_of s middle ≡ m → level_of s back ≡ r → IsSeamless x → IsSeamless m → glue x (glue m r) ≡ whole → Glues s front middle back whole
glues_from s front middle back x m r whole is_x is_m is_r apart_x apart_m is = record {
  is = (rw (is_x, is_m, is_r) refl) ∙ is;
  front_apart = subst IsSeamless (sym is_x) apart_x;
  middle_apart = subst IsSeamless (sym is_m) apart_m;
}

-- what an item and a level have in common
pub crossed : (a b d e : Slab Node) (hroot c child l r low high middle front back : Option ℕ) (ms fs bs : List (Option ℕ)) (s t : Span) (p : Option Span)
    → IsSound a [] → Lent a [] c → Keeps a s l low → Keeps a s r high
    → level_of a hroot ≡ join_level (level_of a l) (item t (level_of a child) (level_of a r))
    → p ≡ meet_span s t
    → Step a b [] (middle ∷ ms) → level_of b middle ≡ put_piece (piece_of p (meet_child (both (level_of a c)) (level_of a c) (level_of a child))) end
    → Step b d [] (front ∷ fs) → level_of d front ≡ across (both (level_of b c)) (level_of b c) s (level_of b low)
    → Step d e [] (back ∷ bs) → level_of e back ≡ across (both (level_of d c)) (level_of d c) s (level_of d high)
    → Glues e front middle back (across (both (level_of a c)) (level_of a c) s (level_of a hroot))
crossed a b d e hroot c child l r low high middle front back ms fs bs s t p sound lent_c keeps_l keeps_r opened is_p one is_middle two is_front three is_back =
    let k = kept a b d e middle front back ms fs bs one two three in
    let C = level_of a c in
    glues_from e front middle back
    (across (both C) C s (level_of a l)) (put_piece (piece_of p (meet_child (both C) C (level_of a child))) end) (across (both C) C s (level_of a r)) (across (both C) C s (level_of a hroot))
    (k.front_kept ∙ is_front ∙ across_kept a b c l low s keeps_l (stays a b _ sound one c lent_c) (stays a b _ sound one low keeps_l.lent))
    (k.middle_kept ∙ is_middle)
    (is_back ∙ across_kept a d c r high s keeps_r (stays_two a b d _ _ sound one two c lent_c) (stays_two a b d _ _ sound one two high keeps_r.lent))
    (across_are_apart (both C) C s (level_of a l)) (piece_apart (piece_of p (meet_child (both C) C (level_of a child))))
    (across_parts (both C) C s t p (level_of a hroot) (level_of a l) (level_of a child) (level_of a r) opened is_p)

-- what two levels have in common
pub met : (a b d e : Slab Node) (groot h child l r low high middle front back : Option ℕ) (ms fs bs : List (Option ℕ)) (s t : Span)
    → IsSound a [] → Lent a [] l → Lent a [] r → Lent a [] low → Lent a [] high
    → Side (level_of a l) (level_of a h) (level_of a low) → Side (level_of a r) (level_of a h) (level_of a high)
    → level_of a groot ≡ join_level (level_of a l) (item t (level_of a child) (level_of a r))
    → s ≡ t
    → Step a b [] (middle ∷ ms) → level_of b middle ≡ across (both (level_of a child)) (level_of a child) s (level_of a h)
    → Step b d [] (front ∷ fs) → level_of d front ≡ both (level_of b l) (level_of b low)
    → Step d e [] (back ∷ bs) → level_of e back ≡ both (level_of d r) (level_of d high)
    → Glues e front middle back (both (level_of a groot) (level_of a h))
met a b d e groot h child l r low high middle front back ms fs bs s t sound lent_l lent_r lent_low lent_high side_l side_r opened is_s one is_middle two is_front three is_back =
    let k = kept a b d e middle front back ms fs bs one two three in
    let H = level_of a h in
    let C = level_of a child in
    glues_from e front middle back
    (both (level_of a l) H) (across (both C) C t H) (both (level_of a r) H) (both (level_of a groot) H)
    (k.front_kept ∙ is_front ∙ both_later a b l low (stays a b _ sound one l lent_l) (stays a b _ sound one low lent_low) ∙ side_l.same)
    (k.middle_kept ∙ is_middle ∙ ap (λ x. across (both C) C x H) is_s)
    (is_back ∙ both_later a d r high (stays_two a b d _ _ sound one two r lent_r) (stays_two a b d _ _ sound one two high lent_high) ∙ side_r.same)
    (both_are_apart (level_of a l) H) (across_are_apart (both C) C t H)
    (both_parts t (level_of a groot) (level_of a l) C (level_of a r) H opened)

-- a level with items
pub record HasItems (l : Level) : Type 0 where
  pub span : Span
  pub below : Level
  pub rest : Level
  pub is : l ≡ item span below rest

join_items : (a : Level) (s : Span) (c b : Level) → HasItems (join_level a (item s c b))
join_items end s c b = record { span = s; below = c; rest = b; is = refl }
join_items (item t d rest) s c b = record { span = t; below = d; rest = join_level rest (item s c b); is = refl }

pub has_items : (s : Slab Node) → IsSound s [] → (k : ℕ) (o : Option Node) → get s k ≡ o → IsSome o → HasItems (level_of s (Some k))
has_items s sound k None is there = absurd (cc there)
has_items s sound k (Some v) is there =
    let items = join_items (level_of s v.left) v.span (level_of s v.child) (level_of s v.right) in
    record {
      span = items.span;
      below = items.below;
      rest = items.rest;
      is = level_of-parts s sound k (record { span = v.span; child = v.child; left = v.left; right = v.right }) (ap body_in is) ∙ items.is;
    }

pub lent_items : (s : Slab Node) → IsSound s [] → (r : Option ℕ) (k : ℕ) → r ≡ Some k → Lent s [] r → HasItems (level_of s r)
lent_items s sound None k is lent = absurd (cc is)
lent_items s sound (Some j) k is lent = has_items s sound j (get s j) refl lent.there

given_items : (a b : Slab Node) (r : Option ℕ) (k : ℕ) (rs : List (Option ℕ)) → Step a b [] (r ∷ rs) → r ≡ Some k → HasItems (level_of b r)
given_items a b None k rs step is = absurd (cc is)
given_items a b (Some j) k rs step is = has_items b step.sound j (get b j) refl (held_there b (Some j) (λ m. omega (arith, step.held m)))

meet_child-items : (f : Level → Level) (c d : Level) → HasItems c → HasItems d → meet_child f c d ≡ unless_end (f d)
meet_child-items f c d has_c has_d = rw (has_c.is, has_d.is) refl

-- where both items have children, what those have in common decides
piece_is : (a : Slab Node) (c d : Option ℕ) (i j : ℕ) (part : Option Span) (span : Span) (f : Level → Level) → IsSound a [] → part ≡ Some span → c ≡ Some i → Lent a [] c → d ≡ Some j → Lent a [] d
    → put_piece (piece_of part (meet_child f (level_of a c) (level_of a d))) end ≡ put_piece (piece_of (Some span) (unless_end (f (level_of a d)))) end
piece_is a c d i j part span f sound is is_c lent_c is_d lent_d =
    let e = meet_child-items f (level_of a c) (level_of a d) (lent_items a sound c i is_c lent_c) (lent_items a sound d j is_d lent_d) in
    ap (λ p. put_piece (piece_of p (meet_child f (level_of a c) (level_of a d))) end) is ∙ ap (λ x. put_piece (piece_of (Some span) x) end) e

one_over : (x : Level) (span : Span) (limit : ℕ) → limit < level_size x → limit < level_size (put_piece (piece_of (Some span) (unless_end x)) end)
one_over end span limit over = absurd (omega (arith, over))
one_over (item s c rest) span limit over = omega (arith, over)

pub piece_over : (a : Slab Node) (c d : Option ℕ) (i j limit : ℕ) (part : Option Span) (span : Span) → IsSound a [] → part ≡ Some span → c ≡ Some i → Lent a [] c → d ≡ Some j → Lent a [] d
    → limit < level_size (both (level_of a c) (level_of a d))
    → limit < level_size (put_piece (piece_of part (meet_child (both (level_of a c)) (level_of a c) (level_of a d))) end)
piece_over a c d i j limit part span sound is is_c lent_c is_d lent_d over =
    let e = ap level_size (piece_is a c d i j part span (both (level_of a c)) sound is is_c lent_c is_d lent_d) in
    omega (arith, e, one_over (both (level_of a c) (level_of a d)) span limit over)

pub piece_none : (a b : Slab Node) (c d child : Option ℕ) (i j : ℕ) (part : Option Span) (span : Span) → IsSound a [] → part ≡ Some span → c ≡ Some i → Lent a [] c → d ≡ Some j → Lent a [] d
    → child ≡ None → level_of b child ≡ both (level_of a c) (level_of a d)
    → end ≡ put_piece (piece_of part (meet_child (both (level_of a c)) (level_of a c) (level_of a d))) end
piece_none a b c d child i j part span sound is is_c lent_c is_d lent_d absent level =
    let empty : end ≡ both (level_of a c) (level_of a d) = ap (level_of b) (sym absent) ∙ level in
    ap (λ x. put_piece (piece_of (Some span) (unless_end x)) end) empty
    ∙ sym (piece_is a c d i j part span (both (level_of a c)) sound is is_c lent_c is_d lent_d)

unless_end-items : (x : Level) (span : Span) → HasItems x → item span x end ≡ put_piece (piece_of (Some span) (unless_end x)) end
unless_end-items x span has = rw has.is refl

pub piece_some : (a b : Slab Node) (c d child : Option ℕ) (i j k : ℕ) (rs : List (Option ℕ)) (part : Option Span) (span : Span) → IsSound a [] → part ≡ Some span → c ≡ Some i → Lent a [] c → d ≡ Some j → Lent a [] d
    → child ≡ Some k → Step a b [] (child ∷ rs) → level_of b child ≡ both (level_of a c) (level_of a d)
    → item span (level_of b child) end ≡ put_piece (piece_of part (meet_child (both (level_of a c)) (level_of a c) (level_of a d))) end
piece_some a b c d child i j k rs part span sound is is_c lent_c is_d lent_d there step level =
    unless_end-items (level_of b child) span (given_items a b child k rs step there)
    ∙ ap (λ x. put_piece (piece_of (Some span) (unless_end x)) end) level
    ∙ sym (piece_is a c d i j part span (both (level_of a c)) sound is is_c lent_c is_d lent_d)

-- an item over a level that is held first
pub alone_is : (a b d : Slab Node) (child whole : Option ℕ) (span : Span) → IsSound a [] → Lent a [] child → Step a b [] (child ∷ []) → level_of d whole ≡ item span (level_of b child) end → level_of d whole ≡ item span (level_of a child) end
alone_is a b d child whole span sound lent step level = level ∙ ap (λ x. item span x end) (stays a b _ sound step child lent).level
