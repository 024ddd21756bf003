-- Levels from lists, over stores that follow one another.
use Rattle.std.proofs.Common.{◌≡◌, ◌<◌, ◌≤◌, ◌+◌, ◌-◌, ℕ, List, [], ◌∷◌, ◌++◌, take, drop, length, Option, arith, refl, ap, sym, ◌∙◌}
use Rattle.std.proofs.lemmas.List.{append_assoc, drop-append-le, length-append, length-take-le, take-append-drop, take-append-le}
use Rattle.slab.specs.Slab.{Slab}
use Rattle.rx_value.specs.declared.order.Span.{Span}
use Rattle.rx_tree.specs.Tree.Level.{end, item}
use Rattle.rx_tree.specs.Points.{items_of}
use Rattle.rx_level.specs.declared.nodes.Node.{Node}
use Rattle.rx_tree.specs.Join.{join_level}
use Rattle.rx_level.specs.Tree.{plain}
use Rattle.rx_level.specs.Step.{Step, level_of}
use Rattle.rx_level.proofs.Steps.{keeps_root}

-- the list without its last `half` members ends with x: what comes of these three together
joined-last : (xs zs : List Span) (x : Span) (half : ℕ) → take (length xs - half) xs ≡ zs ++ x ∷ [] → zs ++ x ∷ drop (length xs - half) xs ≡ xs
joined-last xs zs x half is =
    sym (append_assoc zs (x ∷ []) (drop (length xs - half) xs)) ∙ ap (λ ys. ys ++ drop (length xs - half) xs) (sym is) ∙ take-append-drop (length xs - half) xs

length-last : (xs zs : List Span) (x : Span) (half : ℕ) → take (length xs - half) xs ≡ zs ++ x ∷ [] → length zs + 1 ≡ length xs - half
length-last xs zs x half is =
    omega (arith, length-append zs (x ∷ []), ap length is, length-take-le (length xs - half) xs (omega (arith)))

same-left : (xs zs : List Span) (x : Span) (half count : ℕ) → count ≤ length xs → half < count → take (length xs - half) xs ≡ zs ++ x ∷ [] → length zs - (count - half - 1) ≡ length xs - count
same-left xs zs x half count few less is = omega (arith, length-last xs zs x half is, few, less)

pub drop_last : (xs zs : List Span) (x : Span) (half count : ℕ) → count ≤ length xs → half < count → take (length xs - half) xs ≡ zs ++ x ∷ []
    → drop (length zs - (count - half - 1)) zs ++ x ∷ drop (length xs - half) xs ≡ drop (length xs - count) xs
drop_last xs zs x half count few less is =
    ap (λ n. drop n zs ++ x ∷ drop (length xs - half) xs) (same-left xs zs x half count few less is)
    ∙ sym (drop-append-le (length xs - count) zs (x ∷ drop (length xs - half) xs) (omega (arith, length-last xs zs x half is, few, less)))
    ∙ ap (drop (length xs - count)) (joined-last xs zs x half is)

pub take_last : (xs zs : List Span) (x : Span) (half count : ℕ) → count ≤ length xs → half < count → take (length xs - half) xs ≡ zs ++ x ∷ []
    → take (length zs - (count - half - 1)) zs ≡ take (length xs - count) xs
take_last xs zs x half count few less is =
    ap (λ n. take n zs) (same-left xs zs x half count few less is)
    ∙ sym (take-append-le (length xs - count) zs (x ∷ drop (length xs - half) xs) (omega (arith, length-last xs zs x half is, few, less)))
    ∙ ap (take (length xs - count)) (joined-last xs zs x half is)

items_of-append : (xs ys : List Span) → items_of (xs ++ ys) ≡ join_level (items_of xs) (items_of ys)
items_of-append [] ys = refl
items_of-append (x ∷ xs) ys = ap (item x end) (items_of-append xs ys)

pub built : (a b d f : Slab Node) (left right whole : Option ℕ) (ls rs spans : List Span) (span : Span)
    → Step a b [] (right ∷ []) → level_of b right ≡ items_of rs
    → Step b d [] (left ∷ []) → level_of d left ≡ items_of ls
    → level_of f whole ≡ join_level (level_of d left) (item span end (level_of d right))
    → ls ++ span ∷ rs ≡ spans
    → level_of f whole ≡ items_of spans
built a b d f left right whole ls rs spans span one is_right two is_left made all =
    let same_right : level_of d right ≡ items_of rs = ap plain (keeps_root b d [] (left ∷ []) two right (λ m. omega (arith, one.held m))) ∙ is_right in
    made ∙ (rw (is_left, same_right) refl) ∙ sym (items_of-append ls (span ∷ rs)) ∙ ap items_of all
