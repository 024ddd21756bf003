-- Columns and the parts on which they stand.
use Rattle.std.proofs.Common.{arith, ◌≡◌, ◌==◌, ℕ, suc, Bool, true, false, List, [], ◌∷◌, length, Option, Some, None, refl, ap, sym, ◌∙◌, subst}
use Rattle.std.specs.Prelude.{if◌then◌else◌}
use Rattle.rx_value.specs.declared.shapes.Part.{Part}
use Rattle.rx_value.specs.declared.order.End.{End}
use Rattle.rx_value.specs.declared.order.Span.{Span}
use Rattle.rx_tree.specs.Member.{IsTuple}
use Rattle.rx_tree.specs.Points.{AreSpansAt, is_inside_at}
use Rattle.rx_regions.specs.Cans.{at_spot, spot_of}
use Rattle.rx_single.specs.Single.{AreSpansOf}
use Rattle.rx_cond_graph.specs.declared.spots.Spot.{Spot}
use Rattle.rx_cond_graph.specs.Giving.{further, spot_in}

-- spans at a spot are spans of its part, and hold what the test accepts there
pub record IsAtSpot (ns : List Bool) (qs : List Part) (column : ℕ) (place : ℕ) (spans : List Span) (test : Option ℕ → End → Bool) : Type 0 where
  pub spans_at : AreSpansAt ns place spans
  pub positions : (ps : List End) → IsTuple ns ps → is_inside_at place spans ps ≡ at_spot test (spot_of column qs ps)

here_at : (n : Bool) (ns : List Bool) (q : Part) (qs : List Part) (column : ℕ) (spans : List Span) (test : Option ℕ → End → Bool) → (q.column == column) ≡ true
    → AreSpansOf n spans (test q.chars) → (ps : List End) → IsTuple (n ∷ ns) ps → is_inside_at 0 spans ps ≡ at_spot test (spot_of column (q ∷ qs) ps)
here_at n ns q qs column spans test same of [] tuple = absurd tuple
here_at n ns q qs column spans test same of (p ∷ ps) tuple = of.positions p tuple.0 ∙ sym (ap (λ x. at_spot test (if x then Some (q, p) else spot_of column qs ps)) same)

here : (n : Bool) (ns : List Bool) (q : Part) (qs : List Part) (column : ℕ) (spans : List Span) (test : Option ℕ → End → Bool) → (q.column == column) ≡ true
    → AreSpansOf n spans (test q.chars) → IsAtSpot (n ∷ ns) (q ∷ qs) column 0 spans test
here n ns q qs column spans test same of = record {
  spans_at = of.apart;
  positions = λ ps tuple. here_at n ns q qs column spans test same of ps tuple;
}

there_at : (n : Bool) (ns : List Bool) (q : Part) (qs : List Part) (column place : ℕ) (spans : List Span) (test : Option ℕ → End → Bool) → (q.column == column) ≡ false
    → IsAtSpot ns qs column place spans test → (ps : List End) → IsTuple (n ∷ ns) ps → is_inside_at (suc place) spans ps ≡ at_spot test (spot_of column (q ∷ qs) ps)
there_at n ns q qs column place spans test other at [] tuple = absurd tuple
there_at n ns q qs column place spans test other at (p ∷ ps) tuple = at.positions ps tuple.1 ∙ sym (ap (λ x. at_spot test (if x then Some (q, p) else spot_of column qs ps)) other)

-- the spot of a column, by whether the first part is the column
abbrev pub spot_by : Bool → Bool → Part → Option Spot → Option Spot
spot_by x n q rest = if x then Some (record { place = 0; nullable = n; chars = q.chars }) else further rest

none_further : (s : Option Spot) → further s ≡ None → s ≡ None
none_further None e = refl
none_further (Some s) e = absurd (cc e)

no_spot_by : (n : Bool) (q : Part) (qs : List Part) (column : ℕ) (rest : Option Spot) (test : Option ℕ → End → Bool) (p : End) (ps : List End) (x : Bool) → (q.column == column) ≡ x
    → spot_by x n q rest ≡ None → (rest ≡ None → at_spot test (spot_of column qs ps) ≡ true) → at_spot test (spot_of column (q ∷ qs) (p ∷ ps)) ≡ true
no_spot_by n q qs column rest test p ps true same none more = absurd (cc none)
no_spot_by n q qs column rest test p ps false other none more =
    ap (λ x. at_spot test (if x then Some (q, p) else spot_of column qs ps)) other ∙ more (none_further rest none)

-- a column that is no part
pub no_spot : (ns : List Bool) (qs : List Part) (column : ℕ) (test : Option ℕ → End → Bool) → length qs ≡ length ns → spot_in ns qs column ≡ None
    → (ps : List End) → IsTuple ns ps → at_spot test (spot_of column qs ps) ≡ true
no_spot ns [] column test long none ps tuple = refl
no_spot [] (q ∷ qs) column test long none ps tuple = absurd (cc long)
no_spot (n ∷ ns) (q ∷ qs) column test long none [] tuple = absurd tuple
no_spot (n ∷ ns) (q ∷ qs) column test long none (p ∷ ps) tuple =
    no_spot_by n q qs column (spot_in ns qs column) test p ps (q.column == column) refl none
    (λ e. no_spot ns qs column test (omega (arith, long)) e ps tuple.1)

-- where another part is the column
record IsFurther (rest : Option Spot) (s : Spot) : Type 0 where
  pub spot : Spot
  pub is : rest ≡ Some spot
  pub place : record { place = suc spot.place; nullable = spot.nullable; chars = spot.chars } ≡ s

some_is : (s t : Spot) → Some s ≡ Some t → s ≡ t
some_is s t e = cc e

further_is : (rest : Option Spot) (s : Spot) → further rest ≡ Some s → IsFurther rest s
further_is None s e = absurd (cc e)
further_is (Some t) s e = record { spot = t; is = refl; place = some_is (record { place = suc t.place; nullable = t.nullable; chars = t.chars }) s e }

abbrev Spotted : List Bool → List Part → ℕ → List Span → (Option ℕ → End → Bool) → Spot → Type 0
Spotted ns qs column spans test s = AreSpansOf s.nullable spans (test s.chars) → IsAtSpot ns qs column s.place spans test

at_spot_by : (n : Bool) (ns : List Bool) (q : Part) (qs : List Part) (column : ℕ) (s : Spot) (spans : List Span) (test : Option ℕ → End → Bool) (x : Bool) → (q.column == column) ≡ x
    → spot_by x n q (spot_in ns qs column) ≡ Some s → ((t : Spot) → spot_in ns qs column ≡ Some t → Spotted ns qs column spans test t) → Spotted (n ∷ ns) (q ∷ qs) column spans test s
at_spot_by n ns q qs column s spans test true same is more =
    subst (Spotted (n ∷ ns) (q ∷ qs) column spans test) (some_is (record { place = 0; nullable = n; chars = q.chars }) s is) (here n ns q qs column spans test same)
at_spot_by n ns q qs column s spans test false other is more =
    let far = further_is (spot_in ns qs column) s is in
    subst (Spotted (n ∷ ns) (q ∷ qs) column spans test) far.place (λ of.
    let at = more far.spot far.is of in
    record { spans_at = at.spans_at; positions = there_at n ns q qs column far.spot.place spans test other at })

-- a column that is a part: spans of that part, by their place
pub at_its_spot : (ns : List Bool) (qs : List Part) (column : ℕ) (s : Spot) (spans : List Span) (test : Option ℕ → End → Bool) → spot_in ns qs column ≡ Some s
    → AreSpansOf s.nullable spans (test s.chars) → IsAtSpot ns qs column s.place spans test
at_its_spot [] qs column s spans test is of = absurd (cc is)
at_its_spot (n ∷ ns) [] column s spans test is of = absurd (cc is)
at_its_spot (n ∷ ns) (q ∷ qs) column s spans test is of =
    at_spot_by n ns q qs column s spans test (q.column == column) refl is (λ t e. at_its_spot ns qs column t spans test e) of

-- the spot found among equal parts
pub spot_is : (ms ns : List Bool) (qs : List Part) (column : ℕ) (o : Option Spot) → ms ≡ ns → o ≡ spot_in ms qs column → spot_in ns qs column ≡ o
spot_is ms ns qs column o same is = sym (is ∙ ap (λ x. spot_in x qs column) same)
