-- Sets that have a tree, as have the tuples that are not in them.
use Rattle.std.proofs.Common.{◌≡◌, ◌&&◌, ◌||◌, Bool, true, false, not, List, [], ◌∷◌, refl, ap, sym, ◌∙◌}
use Rattle.std.proofs.Math.Bool.{or-false}
use Rattle.rx_value.specs.declared.order.End.{End}
use Rattle.rx_value.specs.Spans.{first_end, whole_span}
use Rattle.rx_value.proofs.Ends.{at_most-same}
use Rattle.rx_tree.specs.Tree.{Tree}
use Rattle.rx_tree.specs.Tree.Level.{end, item}
use Rattle.rx_tree.specs.Tree.Tree.{everything, nothing, items}
use Rattle.rx_tree.specs.Member.{IsTuple, level_holds, holds}
use Rattle.rx_tree.specs.Canonical.{IsCanonical}
use Rattle.rx_tree.specs.Meet.{tree_and}
use Rattle.rx_tree.specs.Union.{tree_or}
use Rattle.rx_tree.proofs.Sets.{whole_is_span, whole_is_whole, whole_inside}
use Rattle.rx_sets.specs.Sets.{KeySet, AreSame, IsTreeOf, either}
use Rattle.rx_sets.proofs.Trees.{same_set, tree_of_both, tree_of_either}

-- a set has a tree, and so have the tuples that are not in it
pub record Splits (parts : List Bool) (f : KeySet) : Type 0 where
  pub yes : Tree
  pub has : IsTreeOf parts f yes
  pub no : Tree
  pub lacks : IsTreeOf parts (λ ps. not (f ps)) no

not_twice : (a : Bool) → a ≡ not (not a)
not_twice true = refl
not_twice false = refl

not_both : (a b : Bool) → (not a || not b) ≡ not (a && b)
not_both true b = refl
not_both false b = refl

not_neither : (a b : Bool) → not (not a && not b) ≡ (a || b)
not_neither true b = refl
not_neither false b = sym (not_twice b)

chosen : (a : Bool) (h : Bool → Bool) → ((a && h true) || (not a && h false)) ≡ h a
chosen true h = or-false (h true)
chosen false h = refl

module _ (parts : List Bool) where
  pub splits_same : (f g : KeySet) → AreSame parts f g → Splits parts f → Splits parts g
  splits_same f g same s = record {
    yes = s.yes;
    has = same_set parts f g s.yes same s.has;
    no = s.no;
    lacks = same_set parts (λ ps. not (f ps)) (λ ps. not (g ps)) s.no (λ ps tuple. ap not (same ps tuple)) s.lacks;
  }

  all_tree : IsTreeOf parts (λ ps. true) everything
  all_tree = record { canonical = tt; positions = λ ps tuple. refl }

  no_tree : IsTreeOf parts (λ ps. false) nothing
  no_tree = record { canonical = tt; positions = λ ps tuple. refl }

  pub splits_known : (b : Bool) → Splits parts (λ ps. b)
  splits_known true = record { yes = everything; has = all_tree; no = nothing; lacks = no_tree }
  splits_known false = record { yes = nothing; has = no_tree; no = everything; lacks = all_tree }

  pub splits_not : (f : KeySet) → Splits parts f → Splits parts (λ ps. not (f ps))
  splits_not f s = record {
    yes = s.no;
    has = s.lacks;
    no = s.yes;
    lacks = same_set parts f (λ ps. not (not (f ps))) s.yes (λ ps tuple. not_twice (f ps)) s.has;
  }

  pub splits_both : (f g : KeySet) → Splits parts f → Splits parts g → Splits parts (λ ps. f ps && g ps)
  splits_both f g s t = record {
    yes = tree_and s.yes t.yes;
    has = tree_of_both parts f g s.yes t.yes s.has t.has;
    no = tree_or parts s.no t.no;
    lacks = same_set parts (either (λ ps. not (f ps)) (λ ps. not (g ps))) (λ ps. not (f ps && g ps)) (tree_or parts s.no t.no)
        (λ ps tuple. not_both (f ps) (g ps))
        (tree_of_either parts (λ ps. not (f ps)) (λ ps. not (g ps)) s.no t.no s.lacks t.lacks);
  }

  pub splits_either : (f g : KeySet) → Splits parts f → Splits parts g → Splits parts (λ ps. f ps || g ps)
  splits_either f g s t =
      splits_same (λ ps. not (not (f ps) && not (g ps))) (λ ps. f ps || g ps) (λ ps tuple. not_neither (f ps) (g ps))
      (splits_not (λ ps. not (f ps) && not (g ps)) (splits_both (λ ps. not (f ps)) (λ ps. not (g ps)) (splits_not f s) (splits_not g t)))

  -- a set that is one of two as a third says
  pub splits_by : (a : KeySet) (h : Bool → KeySet) → Splits parts a → ((b : Bool) → Splits parts (h b)) → Splits parts (λ ps. h (a ps) ps)
  splits_by a h s each =
      splits_same (λ ps. (a ps && h true ps) || (not (a ps) && h false ps)) (λ ps. h (a ps) ps) (λ ps tuple. chosen (a ps) (λ b. h b ps))
      (splits_either (λ ps. a ps && h true ps) (λ ps. not (a ps) && h false ps)
      (splits_both a (h true) s (each true))
      (splits_both (λ ps. not (a ps)) (h false) (splits_not a s) (each false)))

-- what the positions behind the first are in
abbrev pub behind_first : KeySet → KeySet
behind_first f [] = true
behind_first f (p ∷ ps) = f ps

-- a tree under one whole item of a part before it
abbrev under : Bool → Tree → Tree
under n everything = everything
under n nothing = nothing
under n (items l) = items (item (whole_span n) l end)

module _ (n : Bool) (ns : List Bool) where
  under_canonical : (t : Tree) → IsCanonical ns t → IsCanonical (n ∷ ns) (under n t)
  under_canonical everything canonical = tt
  under_canonical nothing canonical = tt
  under_canonical (items end) canonical = absurd canonical
  under_canonical (items (item s c rest)) canonical = record {
    placed = (record { span = whole_is_span n; from = at_most-same (first_end n); rises = tt; differs = tt }, canonical.not_all, canonical.placed, tt);
    not_all = λ e. absurd (cc e);
  }

  under_holds : (t : Tree) (p : End) (ps : List End) → IsCanonical ns t → IsTuple (n ∷ ns) (p ∷ ps) → holds (under n t) (p ∷ ps) ≡ holds t ps
  under_holds everything p ps canonical tuple = refl
  under_holds nothing p ps canonical tuple = refl
  under_holds (items end) p ps canonical tuple = absurd canonical
  under_holds (items (item s c rest)) p ps canonical tuple =
      ap (λ x. (x && level_holds (item s c rest) ps) || false) (whole_inside n (whole_span n) p (whole_is_whole n) tuple.0)
      ∙ or-false (level_holds (item s c rest) ps)

  under_positions : (f : KeySet) (t : Tree) → IsTreeOf ns f t → (ps : List End) → IsTuple (n ∷ ns) ps → holds (under n t) ps ≡ behind_first f ps
  under_positions f t is [] tuple = absurd tuple
  under_positions f t is (p ∷ ps) tuple = under_holds t p ps is.canonical tuple ∙ is.positions ps tuple.1

  under_is : (f g : KeySet) (t : Tree) → AreSame (n ∷ ns) (behind_first f) g → IsTreeOf ns f t → IsTreeOf (n ∷ ns) g (under n t)
  under_is f g t same is = record { canonical = under_canonical t is.canonical; positions = λ ps tuple. under_positions f t is ps tuple ∙ same ps tuple }

  not_behind : (f : KeySet) → AreSame (n ∷ ns) (behind_first (λ ps. not (f ps))) (λ ps. not (behind_first f ps))
  not_behind f [] tuple = absurd tuple
  not_behind f (p ∷ ps) tuple = refl

  pub splits_behind : (f : KeySet) → Splits ns f → Splits (n ∷ ns) (behind_first f)
  splits_behind f s = record {
    yes = under n s.yes;
    has = under_is f (behind_first f) s.yes (λ ps tuple. refl) s.has;
    no = under n s.no;
    lacks = under_is (λ ps. not (f ps)) (λ ps. not (behind_first f ps)) s.no (not_behind f) s.lacks;
  }
