-- A level beside another.
use Rattle.std.proofs.Common.{◌≡◌, ◌+◌, ℕ, zero, suc, Bool, List, [], ◌∷◌, Option, Some, None, arith, refl, ap, sym, ◌∙◌}
use Rattle.slab.specs.Slab.{Slab}
use Rattle.rx_value.specs.Spans.{IsAtMost}
use Rattle.rx_value.proofs.Ends.{at_most-trans, at_most-from_equal, below-at_most}
use Rattle.rx_tree.specs.Tree.{Level}
use Rattle.rx_tree.specs.Tree.Level.{end, item}
use Rattle.rx_tree.specs.Join.{length_of}
use Rattle.rx_tree.specs.Canonical.{BeginsFrom, ArePlaced}
use Rattle.rx_tree.specs.Weld.{glue, EndsBy}
use Rattle.rx_tree.specs.Union.{either}
use Rattle.rx_tree.specs.Cuts.{AreInOrder}
use Rattle.rx_tree.proofs.Welding.{Follows, glue_placed, glue_holds}
use Rattle.rx_tree.proofs.Joining.{ends_later}
use Rattle.rx_tree.proofs.Unions.{either_is}
use Rattle.rx_level.specs.declared.nodes.Node.{Node}
use Rattle.rx_level.specs.declared.trees.Item.{Item}
use Rattle.rx_level.specs.Entries.{Entry, entry_at}
use Rattle.rx_level.specs.Step.{Owns, Step, level_of}
use Rattle.rx_level.proofs.Turning.{kept_root}
use Rattle.rx_or.specs.Beside.{LiesBefore}

-- a level stands while another is taken apart and let go
pub beside_bare : (a b d e f : Slab Node) (g left right : Option ℕ) (key : ℕ) (top : Item) → Owns a (g ∷ Some key ∷ []) → Step a b (Some key ∷ []) (top.child ∷ left ∷ right ∷ []) → Step b d (left ∷ []) [] → Step d e (right ∷ []) [] → Step e f (top.child ∷ []) [] → level_of f g ≡ level_of a g
beside_bare a b d e f g left right key top owns one two three four =
    let k1 = kept_root a b _ _ one g (λ m. omega (arith, owns.owned m)) in
    let k2 = kept_root b d _ _ two g (λ m. omega (arith, owns.owned m, one.held m)) in
    let k3 = kept_root d e _ _ three g (λ m. omega (arith, owns.owned m, one.held m, two.held m)) in
    let k4 = kept_root e f _ _ four g (λ m. omega (arith, owns.owned m, one.held m, two.held m, three.held m)) in
    k4.level ∙ k3.level ∙ k2.level ∙ k1.level

upper : (e f : Entry) → Some e ≡ Some f → e.span.hi ≡ f.span.hi
upper e f is = ap (λ o. elim o [ None ↦ e.span.hi | Some y ↦ y.span.hi ]) is

lower : (e f : Entry) → Some e ≡ Some f → e.span.lo ≡ f.span.lo
lower e f is = ap (λ o. elim o [ None ↦ e.span.lo | Some y ↦ y.span.lo ]) is

-- the items of a level end where its last one does, or before
last_ends : (i : ℕ) (l : Level) (x : Entry) → AreInOrder l → i + 1 ≡ length_of l → entry_at i l ≡ Some x → EndsBy x.span.hi l
last_ends i end x order long is = absurd (cc is)
last_ends zero (item s c end) x order long is = (at_most-from_equal s.hi x.span.hi (upper (record { span = s; below = c }) x is), tt)
last_ends (suc j) (item s c end) x order long is = absurd (cc is)
last_ends zero (item s c (item t d rest)) x order long is = absurd (omega (arith, long))
last_ends (suc j) (item s c (item t d rest)) x order long is =
    let after = last_ends j (item t d rest) x order.3 (omega (arith, long)) is in
    (at_most-trans s.hi t.lo x.span.hi order.1 (at_most-trans t.lo t.hi x.span.hi (below-at_most t.lo t.hi order.3.0) after.0), after)

first_begins : (l : Level) (x : Entry) → entry_at 0 l ≡ Some x → BeginsFrom x.span.lo l
first_begins end x is = absurd (cc is)
first_begins (item s c rest) x is = at_most-from_equal x.span.lo s.lo (sym (lower (record { span = s; below = c }) x is))

-- a level whose last item ends where the first of another begins, or before, lies before it
pub before_from : (i : ℕ) (a b : Level) (x y : Entry) → AreInOrder a → i + 1 ≡ length_of a → entry_at i a ≡ Some x → entry_at 0 b ≡ Some y → IsAtMost x.span.hi y.span.lo → LiesBefore a b
before_from i a b x y order long last first low = record { at = y.span.lo; ends = ends_later x.span.hi y.span.lo a low (last_ends i a x order long last); begins = first_begins b y first }

-- and both glued are either of them
pub beside_is : (parts : List Bool) (a b : Level) → LiesBefore a b → ArePlaced parts a → ArePlaced parts b → glue a b ≡ either parts a b
beside_is [] end end lies first second = refl
beside_is [] end (item s c rest) lies first second = absurd second
beside_is [] (item s c rest) b lies first second = absurd first
beside_is (n ∷ ns) a b lies first second =
    let follows : Follows n ns lies.at a b = record { first = first; second = second; ends = lies.ends; begins = lies.begins } in
    either_is n ns a b (glue a b) first second (record { placed = glue_placed n ns lies.at a b follows; holds = λ p ps tuple. glue_holds n ns lies.at a b p ps follows })
