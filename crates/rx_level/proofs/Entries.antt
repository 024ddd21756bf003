-- Items by their places, and equal levels.
use Rattle.std.proofs.Common.{◌≡◌, ◌<◌, ◌+◌, IsTrue, IfNone, true, false, ℕ, zero, suc, Option, Some, None, arith, refl, ap, sym, ◌∙◌}
use Rattle.std.specs.declared.cmp.Ordering.{Ordering}
use Rattle.std.specs.declared.cmp.Ordering.TheVariants.{Equal}
use Rattle.rx_value.specs.declared.order.End.{End}
use Rattle.rx_value.specs.declared.order.Span.{Span}
use Rattle.rx_value.specs.Order.{end_cmp}
use Rattle.std.proofs.lemmas.Cmp.{tied_itself}
use Rattle.rx_value.proofs.Ends.{end_cmp_total, end_cmp-equal}
use Rattle.rx_tree.specs.Tree.{Level, level_size}
use Rattle.rx_tree.specs.Tree.Level.{end, item}
use Rattle.rx_tree.specs.Join.{join_level, length_of}
use Rattle.rx_tree.proofs.Joining.{length-join}
use Rattle.rx_level.specs.Entries.{Entry, entry_at}

-- items of the first of two levels
pub entry_before : (a b : Level) (i : ℕ) → i < length_of a → entry_at i (join_level a b) ≡ entry_at i a
entry_before end b i low = absurd (omega (arith, low))
entry_before (item s c rest) b zero low = refl
entry_before (item s c rest) b (suc i) low = entry_before rest b i (omega (arith, low))

-- items of the second
pub entry_beyond : (a b : Level) (k : ℕ) → entry_at (length_of a + k) (join_level a b) ≡ entry_at k b
entry_beyond end b k = ap (λ n. entry_at n b) (omega arith)
entry_beyond (item s c rest) b k =
    let up : length_of (item s c rest) + k ≡ suc (length_of rest + k) = omega arith in
    ap (λ n. entry_at n (item s c (join_level rest b))) up ∙ entry_beyond rest b k

pub entry_here : (a : Level) (s : Span) (c rest : Level) (i : ℕ) → i ≡ length_of a → entry_at i (join_level a (item s c rest)) ≡ Some (record { span = s; below = c })
entry_here a s c rest i is =
    let e : i ≡ length_of a + 0 = omega (arith, is) in
    ap (λ n. entry_at n (join_level a (item s c rest))) e ∙ entry_beyond a (item s c rest) 0

pub entry_after : (a : Level) (s : Span) (c rest : Level) (i k : ℕ) → i ≡ length_of a + suc k → entry_at i (join_level a (item s c rest)) ≡ entry_at k rest
entry_after a s c rest i k is = ap (λ n. entry_at n (join_level a (item s c rest))) is ∙ entry_beyond a (item s c rest) (suc k)

abbrev span_part : Option Entry → Option Span
span_part None = None
span_part (Some e) = Some e.span

abbrev below_part : Option Entry → Option Level
below_part None = None
below_part (Some e) = Some e.below

pub span_of_entry : (d e : Entry) → Some d ≡ Some e → d.span ≡ e.span
span_of_entry d e is = let h : Some d.span ≡ Some e.span = ap span_part is in cc h

pub below_of : (d e : Entry) → Some d ≡ Some e → d.below ≡ e.below
below_of d e is = let h : Some d.below ≡ Some e.below = ap below_part is in cc h

-- what is below an item is smaller
pub entry_smaller : (l : Level) (i : ℕ) (e : Entry) → entry_at i l ≡ Some e → level_size e.below < level_size l
entry_smaller end i e is = absurd (cc is)
entry_smaller (item s c rest) zero e is =
    let same : c ≡ e.below = below_of (record { span = s; below = c }) e is in
    omega (arith, ap level_size same)
entry_smaller (item s c rest) (suc i) e is = omega (arith, entry_smaller rest i e is)

-- levels of as many items that have the same at each place are equal
pub entries_tell : (l m : Level) → length_of l ≡ length_of m → ((j : ℕ) → j < length_of l → entry_at j l ≡ entry_at j m) → l ≡ m
entries_tell end end long same = refl
entries_tell end (item t d more) long same = absurd (omega (arith, long))
entries_tell (item s c rest) end long same = absurd (omega (arith, long))
entries_tell (item s c rest) (item t d more) long same =
    let after : rest ≡ more = entries_tell rest more (omega (arith, long)) (λ j low. same (suc j) (omega (arith, low))) in
    let first : Some (record { span = s; below = c }) ≡ Some (record { span = t; below = d }) = same 0 (omega arith) in
    let span : s ≡ t = span_of_entry (record { span = s; below = c }) (record { span = t; below = d }) first in
    let below : c ≡ d = below_of (record { span = s; below = c }) (record { span = t; below = d }) first in
    λ i. item (span i) (below i) (after i)

-- ends that compare equal are equal, and no others
pub equal_ends : (a b : End) (o : Ordering) → o ≡ end_cmp a b → o ≡ Equal → (IsTrue true → a ≡ b) × (a ≡ b → IsTrue true)
equal_ends a b o is e = ((λ t. end_cmp-equal a b (sym is ∙ e)), (λ t. refl))

pub unequal_ends : (a b : End) (o : Ordering) → o ≡ end_cmp a b → (o ≡ Equal → ⊥) → (IsTrue false → a ≡ b) × (a ≡ b → IsTrue false)
unequal_ends a b o is other = ((λ t. absurd (cc t)), (λ e. absurd (other (is ∙ sym (ap (end_cmp a) e) ∙ tied_itself end_cmp_total a))))

-- the sides of a level have fewer items
pub fewer_left : (w l : Level) (s : Span) (c r : Level) → w ≡ join_level l (item s c r) → length_of l < length_of w
fewer_left w l s c r is = omega (arith, ap length_of is, length-join l (item s c r))

pub fewer_right : (w l : Level) (s : Span) (c r : Level) → w ≡ join_level l (item s c r) → length_of r < length_of w
fewer_right w l s c r is = omega (arith, ap length_of is, length-join l (item s c r))

-- what follows from what a clause says of a `None`
pub if_none_then : {X : Type 0} (r : Option X) {P Q : Type 0} → IfNone r P → (P → Q) → IfNone r Q
if_none_then None h then = then h
if_none_then (Some x) h then = h
