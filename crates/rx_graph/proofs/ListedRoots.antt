-- Trees of rising spans.
use Rattle.std.proofs.Common.{◌≡◌, ℕ, zero, suc, Bool, List, [], ◌∷◌, length, refl, ap, sym, ◌∙◌, subst}
use Rattle.rx_value.specs.declared.order.End.{End}
use Rattle.rx_value.specs.declared.order.Span.{Span}
use Rattle.rx_tree.specs.Tree.{Level, Tree}
use Rattle.rx_tree.specs.Tree.Level.{end}
use Rattle.rx_tree.specs.Member.{IsTuple, holds}
use Rattle.rx_tree.specs.Canonical.{IsCanonical}
use Rattle.rx_tree.specs.Points.{AreSpansAt, is_inside_at, items_at, point_tree}
use Rattle.rx_tree.proofs.Sets.{point_canonical, point_holds}

-- spans give items
pub items_stand : (parts : List Bool) (k : ℕ) (spans : List Span) → AreSpansAt parts k spans → (length spans ≡ 0 → ⊥) → items_at parts k spans ≡ end → ⊥
items_stand [] k spans are some e = absurd are
items_stand (n ∷ ns) zero [] are some e = some refl
items_stand (n ∷ ns) zero (s ∷ rest) are some e = cc e
items_stand (n ∷ ns) (suc k) spans are some e = cc e

-- the same where the parts and the spans go by two names
pub level_stands : (parts ns : List Bool) (k : ℕ) (spans ss : List Span) (l : Level) → ns ≡ parts → ss ≡ spans → l ≡ items_at ns k ss → l ≡ end → AreSpansAt parts k spans → (length spans ≡ 0 → ⊥) → ⊥
level_stands parts ns k spans ss l same_parts same_spans is none are some =
    items_stand parts k spans are some (ap (λ x. items_at x k spans) (sym same_parts) ∙ ap (items_at ns k) (sym same_spans) ∙ sym is ∙ none)

-- the tree of a point set is canonical, and holds what it should
pub tree_canonical : (parts : List Bool) (k : ℕ) (spans : List Span) (t : Tree) → AreSpansAt parts k spans → t ≡ point_tree parts k spans → IsCanonical parts t
tree_canonical parts k spans t are e = subst (λ (u : Tree). IsCanonical parts u) (sym e) (point_canonical parts k spans are)

pub tree_holds : (parts : List Bool) (k : ℕ) (spans : List Span) (t : Tree) → AreSpansAt parts k spans → t ≡ point_tree parts k spans → (ps : List End) → IsTuple parts ps → holds t ps ≡ is_inside_at k spans ps
tree_holds parts k spans t are e ps tuple = ap (λ u. holds u ps) e ∙ point_holds parts k spans ps are tuple
