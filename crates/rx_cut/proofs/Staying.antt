-- What is lent, and what is held, over stores that follow one another.
use Rattle.std.proofs.Common.{◌≡◌, ℕ, List, [], Option, arith, ap, ◌∙◌}
use Rattle.slab.specs.Slab.{Slab}
use Rattle.rx_level.specs.declared.nodes.Node.{Node}
use Rattle.rx_tree.specs.Tree.{level_size}
use Rattle.rx_level.specs.Tree.{plain, tall}
use Rattle.rx_level.specs.Store.{IsSound}
use Rattle.rx_level.specs.Step.{Step, Lent, level_of, tall_of}
use Rattle.rx_level.proofs.Lending.{lent_after}

-- what is lent stays over a step that spends nothing
pub record Stays (a b : Slab Node) (r : Option ℕ) : Type 0 where
  pub level : level_of b r ≡ level_of a r
  pub size_same : level_size (level_of b r) ≡ level_size (level_of a r)
  pub tall : tall_of b r ≡ tall_of a r
  pub lent : Lent b [] r

pub stays : (a b : Slab Node) (g : List (Option ℕ)) → IsSound a [] → Step a b [] g → (r : Option ℕ) → Lent a [] r → Stays a b r
stays a b g sound step r lent =
    let s = lent_after a b [] g [] [] sound step (λ m. omega arith) (λ m. omega arith) r lent in
    record { level = ap plain s.tree; size_same = ap (λ t. level_size (plain t)) s.tree; tall = ap tall s.tree; lent = s.lent }

-- and over two of them
pub stays_two : (a b d : Slab Node) (g k : List (Option ℕ)) → IsSound a [] → Step a b [] g → Step b d [] k → (r : Option ℕ) → Lent a [] r → Stays a d r
stays_two a b d g k sound one two r lent =
    let s = stays a b g sound one r lent in
    let t = stays b d k one.sound two r s.lent in
    record { level = t.level ∙ s.level; size_same = t.size_same ∙ s.size_same; tall = t.tall ∙ s.tall; lent = t.lent }
