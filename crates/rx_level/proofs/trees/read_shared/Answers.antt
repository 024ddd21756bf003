use Rattle.std.proofs.Common.{◌≡◌, ◌∙◌, ap, refl}
use Rattle.rx_level.specs.Tree.{fork_of}
use Rattle.rx_level.specs.Store.{tree_of}
use Rattle.rx_level.proofs.Steps.{links_there, tree_of-parts}
use Rattle.rx_level.proofs.trees.read_shared.Goals as goal

pub share-requires-2-clause-there : goal.share-requires-2-clause-there
share-requires-2-clause-there c = c.share.ensures.there _ (links_there _ c.requires.sound c.args.key _ c.in_ok-opened.ensures).left

pub returns-clause-fork : goal.returns-clause-fork
returns-clause-fork c =
    let there = links_there _ c.requires.sound c.args.key _ c.in_ok-opened.ensures in
    let o = c.in_ok-opened.opened in
    let child : tree_of c.share-3.new.nodes o.item.child ≡ tree_of c.args.nodes.now o.item.child =
    c.share-3.ensures.trees o.item.child (c.share-2.ensures.there o.item.child (c.share.ensures.there o.item.child there.child)) ∙ c.share-2.ensures.trees o.item.child (c.share.ensures.there o.item.child there.child) ∙ c.share.ensures.trees o.item.child there.child in
    let left : tree_of c.share-3.new.nodes o.left ≡ tree_of c.args.nodes.now o.left =
    c.share-3.ensures.trees o.left (c.share-2.ensures.there o.left (c.share.ensures.there o.left there.left)) ∙ c.share-2.ensures.trees o.left (c.share.ensures.there o.left there.left) ∙ c.share.ensures.trees o.left there.left in
    let right : tree_of c.share-3.new.nodes o.right ≡ tree_of c.args.nodes.now o.right =
    c.share-3.ensures.trees o.right (c.share-2.ensures.there o.right (c.share.ensures.there o.right there.right)) ∙ c.share-2.ensures.trees o.right (c.share.ensures.there o.right there.right) ∙ c.share.ensures.trees o.right there.right in
    ap fork_of (tree_of-parts _ c.requires.sound c.args.key _ c.in_ok-opened.ensures) ∙ (rw (child, left, right) refl)

pub share-requires-3-clause-there : goal.share-requires-3-clause-there
share-requires-3-clause-there c = c.share-2.ensures.there _ (c.share.ensures.there _ (links_there _ c.requires.sound c.args.key _ c.in_ok-opened.ensures).right)
