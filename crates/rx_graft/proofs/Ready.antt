-- A memory stays true over calls that spend nothing of what it stands on.
use Rattle.std.proofs.Common.{◌≡◌, inl, inr, ◌-◌, ◌<◌, ◌≤◌, arith, ℕ, zero, suc, List, [], ◌∷◌, drop, length, slice_get, Option, Some, refl, ap, ap₂, sym, ◌∙◌, subst}
use Rattle.slab.specs.Slab.{Slab}
use Rattle.rx_level.specs.declared.nodes.Node.{Node}
use Rattle.rx_level.specs.Tree.{plain, tall}
use Rattle.rx_level.specs.Store.{IsSound, owed, tree_of}
use Rattle.rx_level.specs.Step.{Step, Lent}
use Rattle.rx_level.specs.Standing.{StandsIn}
use Rattle.rx_level.proofs.Steps.{keeps_root}
use Rattle.rx_graft.specs.Hang.{hung, depth_of}
use Rattle.rx_graft.specs.Made.{Made, handles_of, levels_of, AreLent, StandsInOne, IsKnown, IsReady}
use Rattle.rx_graft.proofs.ListedLinks.{leads_among}
use Rattle.rx_graft.proofs.Adding.{Stays, stays}

-- what links tell of their levels stays
pub record LinksStay (a b : Slab Node) (links : List (Option ℕ)) : Type 0 where
  pub levels : levels_of b links ≡ levels_of a links
  pub lent : AreLent b links
  pub stands : (m : ℕ) → StandsInOne a links m → StandsInOne b links m
  pub stood : (m : ℕ) → StandsInOne b links m → StandsInOne a links m

pub links_stay : (a b : Slab Node) (g : List (Option ℕ)) → IsSound a [] → Step a b [] g → (links : List (Option ℕ)) → AreLent a links → LinksStay a b links
links_stay a b g sound step [] lent = record { levels = refl; lent = tt; stands = λ m h. h; stood = λ m h. h }
links_stay a b g sound step (r ∷ rest) lent =
    let one = stays a b g sound step r lent.0 in
    let more = links_stay a b g sound step rest lent.1 in
    record {
      levels = ap₂ (λ t ls. plain t ∷ ls) one.tree more.levels;
      lent = (one.lent, more.lent);
      stands = λ m h. elim h [
        | inl here ↦ inl (subst (λ t. StandsIn m t) (sym one.tree) here)
        | inr there ↦ inr (more.stands m there)
      ];
      stood = λ m h. elim h [
        | inl here ↦ inl (subst (λ t. StandsIn m t) one.tree here)
        | inr there ↦ inr (more.stood m there)
      ];
    }

-- an entry stays true where its place and its handle keep their trees
pub known_stays : (a b : Slab Node) (links : List (Option ℕ)) (es fs : List Made) (e : Made) → IsKnown a links es e
    → Stays a b (Some e.0.0) → tree_of b e.1 ≡ tree_of a e.1 → levels_of b links ≡ levels_of a links → ((m : ℕ) → StandsInOne a links m → StandsInOne b links m)
    → ((m : ℕ) → owed m (handles_of es) ≤ owed m (handles_of fs)) → IsKnown b links fs e
known_stays a b links es fs e known place made levels stands more = record {
  lent = place.lent;
  level = ap plain made ∙ known.level ∙ (λ i. hung (drop e.0.1 (sym levels i)) (plain (sym place.tree i)));
  tall = ap tall made ∙ known.tall ∙ sym (ap tall place.tree);
  deep = subst (λ t. depth_of (plain t) ≤ length links - e.0.1) (sym place.tree) known.deep;
  made = λ m h. elim (known.made m (subst (λ t. StandsIn m t) made h)) [
    | inl owned ↦ inl (omega (arith, owned, more m))
    | inr stood ↦ inr (stands m stood)
  ];
}

-- a memory stays true over a step that gives alone
pub ready_given : (a b : Slab Node) (g : List (Option ℕ)) (links : List (Option ℕ)) (es : List Made) → IsReady a links es → Step a b [] g → IsReady b links es
ready_given a b g links es ready step =
    let sound = ready.owns.sound in
    let kept = links_stay a b g sound step links ready.lent in
    record {
      owns = record { sound = step.sound; owned = λ m. omega (arith, step.held m, ready.owns.owned m) };
      lent = kept.lent;
      known = λ e among.
          let k = ready.known e among in
          known_stays a b links es es e k
          (stays a b g sound step (Some e.0.0) k.lent)
          (keeps_root a b [] g step e.1 (λ m. omega (arith, leads_among es e among m, ready.owns.owned m)))
          kept.levels kept.stands (λ m. omega arith);
    }

-- a link of the list is lent, and what stands in its tree stands in one of the list
pub record LinkAt (s : Slab Node) (links : List (Option ℕ)) (link : Option ℕ) : Type 0 where
  pub lent : Lent s [] link
  pub stands : (m : ℕ) → StandsIn m (tree_of s link) → StandsInOne s links m

pub link_lent : (s : Slab Node) (links : List (Option ℕ)) → AreLent s links → (i : ℕ) → i < length links → (link : Option ℕ) → slice_get links i ≡ Some link → LinkAt s links link
link_lent s [] lent i within link is = absurd (omega (arith, within))
link_lent s (r ∷ rest) lent zero within link is =
    let same : r ≡ link = cc is in
    record { lent = subst (λ x. Lent s [] x) same lent.0; stands = λ m h. inl (subst (λ x. StandsIn m (tree_of s x)) (sym same) h) }
link_lent s (r ∷ rest) lent (suc i) within link is =
    let more = link_lent s rest lent.1 i (omega (arith, within)) link is in
    record { lent = more.lent; stands = λ m h. inr (more.stands m h) }
