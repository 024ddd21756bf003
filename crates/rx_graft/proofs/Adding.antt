-- What calls add to a memory, one after another.
use Rattle.std.proofs.Common.{◌≡◌, ◌+◌, ◌≤◌, arith, ℕ, List, [], ◌∷◌, ◌++◌, Option, refl, ap, sym, ◌∙◌, subst}
use Rattle.std.proofs.lemmas.List.{append_assoc}
use Rattle.slab.specs.Slab.{Slab}
use Rattle.rx_level.specs.declared.nodes.Node.{Node}
use Rattle.rx_level.specs.Store.{IsSound, held_of, leads, owed, tree_of}
use Rattle.rx_level.specs.Step.{Owns, Step, Lent}
use Rattle.rx_level.proofs.Steps.{then, held_there}
use Rattle.rx_level.proofs.Lending.{lent_held, lent_after}
use Rattle.rx_graft.specs.Made.{Made, Adds, handles_of}
use Rattle.rx_graft.proofs.ListedLinks.{owed-append, owed_handles, append_none}

step_same : (s : Slab Node) → IsSound s [] → Step s s [] []
step_same s sound = record { sound = sound; held = λ m. refl; keeps = λ m more. refl }

-- nothing is added
pub adds_none : (s : Slab Node) (es : List Made) → IsSound s [] → Adds s s es es []
adds_none s es sound = record { came = []; is = sym (append_none es); step = step_same s sound }

-- a step after what was added, which spends of what was given, gives more, and adds to the memory
pub adds_step : (a b c : Slab Node) (es fs gs came : List Made) (g s t out : List (Option ℕ)) → Adds a b es fs g → Step b c s t → gs ≡ fs ++ came
    → ((m : ℕ) → owed m s ≤ owed m g) → ((m : ℕ) → owed m out + owed m (handles_of came) + owed m s ≡ owed m g + owed m t) → Adds a c es gs out
adds_step a b c es fs gs came g s t out one two is low fits =
    let more = one.came ++ came in
    record {
      came = more;
      is = is ∙ ap (λ l. l ++ came) one.is ∙ append_assoc es one.came came;
      step = then a b c [] (g ++ handles_of one.came) s t [] (out ++ handles_of more) one.step two (λ m. omega arith)
          (λ m.
          let first = owed-append m g (handles_of one.came) in
          let last = owed-append m out (handles_of more) in
          let both = owed_handles m one.came came in
          let below = low m in
          let sums = fits m in
          record { first = omega arith; second = omega (arith, first, below); both = omega (arith, first, last, both, sums) });
    }

-- a step that gives alone
pub adds_given : (a b : Slab Node) (es : List Made) (g : List (Option ℕ)) → IsSound a [] → Step a b [] g → Adds a b es es g
adds_given a b es g sound step = adds_step a a b es es es [] [] [] g g (adds_none a es sound) step (sym (append_none es)) (λ m. omega arith) (λ m. omega arith)

-- what was given is spent in part
pub adds_spent : (a b c : Slab Node) (es fs : List Made) (g s out : List (Option ℕ)) → Adds a b es fs g → Step b c s [] → ((m : ℕ) → owed m out + owed m s ≡ owed m g) → Adds a c es fs out
adds_spent a b c es fs g s out one two fits =
    adds_step a b c es fs fs [] g s [] out one two (sym (append_none fs)) (λ m. omega (arith, fits m)) (λ m. omega (arith, fits m))

-- one addition after another
pub adds_then : (a b c : Slab Node) (es fs gs : List Made) (g h out : List (Option ℕ)) → Adds a b es fs g → Adds b c fs gs h → ((m : ℕ) → owed m out ≡ owed m g + owed m h) → Adds a c es gs out
adds_then a b c es fs gs g h out one two fits =
    adds_step a b c es fs gs two.came g [] (h ++ handles_of two.came) out one two.step two.is (λ m. omega arith)
    (λ m. omega (arith, fits m, owed-append m h (handles_of two.came)))

-- what is given is owned
pub adds_owned : (a b : Slab Node) (es fs : List Made) (g s : List (Option ℕ)) → Adds a b es fs g → ((m : ℕ) → owed m s ≤ owed m g) → Owns b s
adds_owned a b es fs g s adds low = record {
  sound = adds.step.sound;
  owned = λ m. omega (arith, adds.step.held m, owed-append m g (handles_of adds.came), low m);
}

-- what the memory holds is owned beside what is given
pub adds_all_owned : (a b : Slab Node) (es fs : List Made) (g : List (Option ℕ)) → Owns a (handles_of es) → Adds a b es fs g → (m : ℕ) → owed m g + owed m (handles_of fs) ≤ held_of b m
adds_all_owned a b es fs g owns adds m =
    let e : owed m (handles_of fs) ≡ owed m (handles_of es) + owed m (handles_of adds.came) = ap (λ l. owed m (handles_of l)) adds.is ∙ owed_handles m es adds.came in
    omega (arith, adds.step.held m, owed-append m g (handles_of adds.came), owns.owned m, e)

-- a handle of what was given is lent
pub given_lent : (a b : Slab Node) (s : List (Option ℕ)) (r : Option ℕ) → Owns a s → Step a b s (r ∷ []) → Lent b [] r
given_lent a b s r owns step =
    let room : (m : ℕ) → leads m r ≤ held_of b m = (λ m. omega (arith, step.held m, owns.owned m)) in
    lent_held b [] r (held_there b r room) (λ m. let h = room m in omega (arith, h))

-- what is lent stays over a step that spends nothing
pub record Stays (a b : Slab Node) (r : Option ℕ) : Type 0 where
  pub tree : tree_of b r ≡ tree_of a r
  pub lent : Lent b [] r

pub stays : (a b : Slab Node) (g : List (Option ℕ)) → IsSound a [] → Step a b [] g → (r : Option ℕ) → Lent a [] r → Stays a b r
stays a b g sound step r lent =
    let s = lent_after a b [] g [] [] sound step (λ m. omega arith) (λ m. omega arith) r lent in
    record { tree = s.tree; lent = s.lent }

-- the first of two is given back after the second failed
pub freed_one : (a b c d : Slab Node) (es fs gs : List Made) (x : Option ℕ) → Adds a b es fs (x ∷ []) → Adds b c fs gs [] → Step c d (x ∷ []) [] → Adds a d es gs []
freed_one a b c d es fs gs x one two free = adds_spent a c d es gs (x ∷ []) (x ∷ []) [] (adds_then a b c es fs gs (x ∷ []) [] (x ∷ []) one two (λ m. omega arith)) free (λ m. omega arith)

-- the first two of three are given back after the third failed
pub freed_two : (a b c d e f : Slab Node) (es fs gs hs : List Made) (x y : Option ℕ) → Adds a b es fs (x ∷ []) → Adds b c fs gs (y ∷ []) → Adds c d gs hs [] → Step d e (y ∷ []) [] → Step e f (x ∷ []) [] → Adds a f es hs []
freed_two a b c d e f es fs gs hs x y one two last free next =
    adds_spent a e f es hs (x ∷ []) (x ∷ []) []
    (adds_spent a d e es hs (x ∷ y ∷ []) (y ∷ []) (x ∷ [])
    (adds_then a c d es gs hs (x ∷ y ∷ []) [] (x ∷ y ∷ []) (adds_then a b c es fs gs (x ∷ []) (y ∷ []) (x ∷ y ∷ []) one two (λ m. omega arith)) last (λ m. omega arith))
    free (λ m. omega arith))
    next (λ m. omega arith)

-- three that were made are spent
pub spent_three : (a b c d e : Slab Node) (es fs gs hs hs' : List Made) (x y z : Option ℕ) → Adds a b es fs (x ∷ []) → Adds b c fs gs (y ∷ []) → Adds c d gs hs (z ∷ []) → Step d e (x ∷ y ∷ z ∷ []) [] → hs' ≡ hs → Adds a e es hs' []
spent_three a b c d e es fs gs hs hs' x y z one two last spend is =
    subst (λ l. Adds a e es l []) (sym is)
    (adds_spent a d e es hs (x ∷ y ∷ z ∷ []) (x ∷ y ∷ z ∷ []) []
    (adds_then a c d es gs hs (x ∷ y ∷ []) (z ∷ []) (x ∷ y ∷ z ∷ []) (adds_then a b c es fs gs (x ∷ []) (y ∷ []) (x ∷ y ∷ []) one two (λ m. omega arith)) last (λ m. omega arith))
    spend (λ m. omega arith))

-- what is owned is lent
pub owned_lent : (s : Slab Node) (roots : List (Option ℕ)) (r : Option ℕ) → Owns s roots → ((m : ℕ) → leads m r ≤ owed m roots) → Lent s [] r
owned_lent s roots r owns among =
    let room : (m : ℕ) → leads m r ≤ held_of s m = (λ m. let low = among m in omega (arith, owns.owned m, low)) in
    lent_held s [] r (held_there s r room) (λ m. omega (arith, room m))
