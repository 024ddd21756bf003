-- What calls add to a memory, one after another, while what it tells stays so.
use Rattle.std.proofs.Common.{◌≡◌, inl, inr, ◌+◌, ◌≤◌, arith, ℕ, List, [], ◌∷◌, ◌++◌, Option, Some, refl, ap, sym, ◌∙◌, subst}
use Rattle.std.proofs.lemmas.List.{append_assoc}
use Rattle.slab.specs.Slab.{Slab}
use Rattle.rx_tree.specs.Tree.{Level}
use Rattle.rx_level.specs.declared.nodes.Node.{Node}
use Rattle.rx_level.specs.Tree.{plain}
use Rattle.rx_level.specs.Store.{IsSound, held_of, leads, owed}
use Rattle.rx_level.specs.Step.{Owns, Step, Lent, level_of}
use Rattle.rx_level.proofs.Steps.{then, keeps_root, held_there}
use Rattle.rx_level.proofs.Lending.{lent_held, lent_after}
use Rattle.rx_pairs.specs.Pairs.{Made, Among, handles_of, IsSo, IsReady, Adds, Keeps}
use Rattle.rx_pairs.proofs.Listed.{owed-append, owed_handles, append_none, leads_among, among_either}

step_same : (s : Slab Node) → IsSound s [] → Step s s [] []
step_same s sound = record { sound = sound; held = λ m. refl; keeps = λ m more. refl }

-- nothing is added
pub adds_none : (s : Slab Node) (es : List Made) → IsSound s [] → Adds s s es es []
adds_none s es sound = record { came = []; is = sym (append_none es); step = step_same s sound }

-- a step after what was added, which spends of what was given, gives more, and adds to the memory
pub adds_step : (a b c : Slab Node) (es fs gs came : List Made) (g s t out : List (Option ℕ)) → Adds a b es fs g → Step b c s t → gs ≡ fs ++ came
    → ((m : ℕ) → owed m s ≤ owed m g) → ((m : ℕ) → owed m out + owed m (handles_of came) + owed m s ≡ owed m g + owed m t) → Adds a c es gs out
adds_step a b c es fs gs came g s t out one two is low fits =
    let more = one.came ++ came in
    record {
      came = more;
      is = is ∙ ap (λ l. l ++ came) one.is ∙ append_assoc es one.came came;
      step = then a b c [] (g ++ handles_of one.came) s t [] (out ++ handles_of more) one.step two (λ m. omega arith)
          (λ m.
          let first = owed-append m g (handles_of one.came) in
          let last = owed-append m out (handles_of more) in
          let both = owed_handles m one.came came in
          let below = low m in
          let sums = fits m in
          record { first = omega arith; second = omega (arith, first, below); both = omega (arith, first, last, both, sums) });
    }

-- a step that gives alone
pub adds_given : (a b : Slab Node) (es : List Made) (g : List (Option ℕ)) → IsSound a [] → Step a b [] g → Adds a b es es g
adds_given a b es g sound step = adds_step a a b es es es [] [] [] g g (adds_none a es sound) step (sym (append_none es)) (λ m. omega arith) (λ m. omega arith)

-- what was given is spent, and other handles are given
pub adds_spent : (a b c : Slab Node) (es fs : List Made) (g s t out : List (Option ℕ)) → Adds a b es fs g → Step b c s t → ((m : ℕ) → owed m s ≤ owed m g) → ((m : ℕ) → owed m out + owed m s ≡ owed m g + owed m t) → Adds a c es fs out
adds_spent a b c es fs g s t out one two low fits =
    adds_step a b c es fs fs [] g s t out one two (sym (append_none fs)) low (λ m. omega (arith, fits m))

-- one addition after another
pub adds_then : (a b c : Slab Node) (es fs gs : List Made) (g h out : List (Option ℕ)) → Adds a b es fs g → Adds b c fs gs h → ((m : ℕ) → owed m out ≡ owed m g + owed m h) → Adds a c es gs out
adds_then a b c es fs gs g h out one two fits =
    adds_step a b c es fs gs two.came g [] (h ++ handles_of two.came) out one two.step two.is (λ m. omega arith)
    (λ m. omega (arith, fits m, owed-append m h (handles_of two.came)))

-- what is given is owned
pub adds_owned : (a b : Slab Node) (es fs : List Made) (g s : List (Option ℕ)) → Adds a b es fs g → ((m : ℕ) → owed m s ≤ owed m g) → Owns b s
adds_owned a b es fs g s adds low = record {
  sound = adds.step.sound;
  owned = λ m. omega (arith, adds.step.held m, owed-append m g (handles_of adds.came), low m);
}

-- what the memory holds is owned beside what is given
pub adds_all_owned : (a b : Slab Node) (es fs : List Made) (g : List (Option ℕ)) → Owns a (handles_of es) → Adds a b es fs g → (m : ℕ) → owed m g + owed m (handles_of fs) ≤ held_of b m
adds_all_owned a b es fs g owns adds m =
    let e : owed m (handles_of fs) ≡ owed m (handles_of es) + owed m (handles_of adds.came) = ap (λ l. owed m (handles_of l)) adds.is ∙ owed_handles m es adds.came in
    omega (arith, adds.step.held m, owed-append m g (handles_of adds.came), owns.owned m, e)

pub adds_memory_owned : (a b : Slab Node) (es fs : List Made) (g : List (Option ℕ)) → Owns a (handles_of es) → Adds a b es fs g → Owns b (handles_of fs)
adds_memory_owned a b es fs g owns adds = record { sound = adds.step.sound; owned = λ m. omega (arith, adds_all_owned a b es fs g owns adds m) }

-- the first of two is given back after the second failed
pub freed_one : (a b c d : Slab Node) (es fs gs : List Made) (x : Option ℕ) → Adds a b es fs (x ∷ []) → Adds b c fs gs [] → Step c d (x ∷ []) [] → Adds a d es gs []
freed_one a b c d es fs gs x one two free = adds_spent a c d es gs (x ∷ []) (x ∷ []) [] [] (adds_then a b c es fs gs (x ∷ []) [] (x ∷ []) one two (λ m. omega arith)) free (λ m. omega arith) (λ m. omega arith)

-- the first two of three are given back after the third failed
pub freed_two : (a b c d e f : Slab Node) (es fs gs hs : List Made) (x y : Option ℕ) → Adds a b es fs (x ∷ []) → Adds b c fs gs (y ∷ []) → Adds c d gs hs [] → Step d e (y ∷ []) [] → Step e f (x ∷ []) [] → Adds a f es hs []
freed_two a b c d e f es fs gs hs x y one two last free next =
    adds_spent a e f es hs (x ∷ []) (x ∷ []) [] []
    (adds_spent a d e es hs (x ∷ y ∷ []) (y ∷ []) [] (x ∷ [])
    (adds_then a c d es gs hs (x ∷ y ∷ []) [] (x ∷ y ∷ []) (adds_then a b c es fs gs (x ∷ []) (y ∷ []) (x ∷ y ∷ []) one two (λ m. omega arith)) last (λ m. omega arith))
    free (λ m. omega arith) (λ m. omega arith))
    next (λ m. omega arith) (λ m. omega arith)

-- three that were made, the second before the first
pub all_three : (a b c d : Slab Node) (es fs gs hs : List Made) (x y z : Option ℕ) → Adds a b es fs (y ∷ []) → Adds b c fs gs (x ∷ []) → Adds c d gs hs (z ∷ []) → Adds a d es hs (x ∷ y ∷ z ∷ [])
all_three a b c d es fs gs hs x y z one two last =
    adds_then a c d es gs hs (x ∷ y ∷ []) (z ∷ []) (x ∷ y ∷ z ∷ []) (adds_then a b c es fs gs (y ∷ []) (x ∷ []) (x ∷ y ∷ []) one two (λ m. omega arith)) last (λ m. omega arith)

so_kept : (R : Level → Level → Level → Type 0) (a b : Slab Node) (i j : ℕ) (r : Option ℕ) → level_of b (Some i) ≡ level_of a (Some i) → level_of b (Some j) ≡ level_of a (Some j) → level_of b r ≡ level_of a r
    → R (level_of a (Some i)) (level_of a (Some j)) (level_of a r) → R (level_of b (Some i)) (level_of b (Some j)) (level_of b r)
so_kept R a b i j r first second made so =
    subst (λ x. R x (level_of b (Some j)) (level_of b r)) (sym first)
    (subst (λ x. R (level_of a (Some i)) x (level_of b r)) (sym second) (subst (λ x. R (level_of a (Some i)) (level_of a (Some j)) x) (sym made) so))

-- an entry that is held stays so
pub so_stays : (R : Level → Level → Level → Type 0) (a b : Slab Node) (s g : List (Option ℕ)) (e : Made) → Step a b s g → ((m : ℕ) → owed m s + owed m (handles_of (e ∷ [])) ≤ held_of a m) → IsSo R a e → IsSo R b e
so_stays R a b s g e step room so =
    so_kept R a b e.0.0 e.0.1 e.1
    (ap plain (keeps_root a b s g step (Some e.0.0) (λ m. omega (arith, room m))))
    (ap plain (keeps_root a b s g step (Some e.0.1) (λ m. omega (arith, room m))))
    (ap plain (keeps_root a b s g step e.1 (λ m. omega (arith, room m))))
    so

-- what a memory tells stays so over a step that spends nothing of it
known_stays : (R : Level → Level → Level → Type 0) (a b : Slab Node) (s g : List (Option ℕ)) (es : List Made) → Step a b s g → ((m : ℕ) → owed m s + owed m (handles_of es) ≤ held_of a m) → ((e : Made) → Among es e → IsSo R a e) → (e : Made) → Among es e → IsSo R b e
known_stays R a b s g es step room known e among = so_stays R a b s g e step (λ m. omega (arith, room m, leads_among es e among m)) (known e among)

-- nothing is done
pub keeps_none : (R : Level → Level → Level → Type 0) (s : Slab Node) (es : List Made) → IsReady R s es → Keeps R s s es es []
keeps_none R s es ready = record { adds = adds_none s es ready.owns.sound; known = ready.known }

-- a step that gives alone
pub keeps_given : (R : Level → Level → Level → Type 0) (a b : Slab Node) (es : List Made) (g : List (Option ℕ)) → IsReady R a es → Step a b [] g → Keeps R a b es es g
keeps_given R a b es g ready step = record {
  adds = adds_given a b es g ready.owns.sound step;
  known = known_stays R a b [] g es step (λ m. omega (arith, ready.owns.owned m)) ready.known;
}

-- what was given is spent, and other handles are given
pub keeps_spent : (R : Level → Level → Level → Type 0) (a b c : Slab Node) (es fs : List Made) (g s t out : List (Option ℕ)) → IsReady R a es → Adds a b es fs g → ((e : Made) → Among fs e → IsSo R b e) → Step b c s t
    → ((m : ℕ) → owed m s ≤ owed m g) → ((m : ℕ) → owed m out + owed m s ≡ owed m g + owed m t) → Keeps R a c es fs out
keeps_spent R a b c es fs g s t out ready one known two low fits = record {
  adds = adds_spent a b c es fs g s t out one two low fits;
  known = known_stays R b c s t fs two (λ m. omega (arith, low m, adds_all_owned a b es fs g ready.owns one m)) known;
}

-- the memory is ready for the next call
pub ready_after : (R : Level → Level → Level → Type 0) (a b : Slab Node) (es fs : List Made) (g : List (Option ℕ)) → IsReady R a es → Keeps R a b es fs g → IsReady R b fs
ready_after R a b es fs g ready keeps = record { owns = adds_memory_owned a b es fs g ready.owns keeps.adds; known = keeps.known }

-- three that were made are spent for one
pub three_spent : (R : Level → Level → Level → Type 0) (a b c d e : Slab Node) (es fs gs hs : List Made) (x y z : Option ℕ) (t : List (Option ℕ)) → IsReady R a es → Keeps R a b es fs (y ∷ []) → Keeps R b c fs gs (x ∷ []) → Keeps R c d gs hs (z ∷ [])
    → Step d e (x ∷ y ∷ z ∷ []) t → Keeps R a e es hs t
three_spent R a b c d e es fs gs hs x y z t ready one two last step =
    keeps_spent R a d e es hs (x ∷ y ∷ z ∷ []) (x ∷ y ∷ z ∷ []) t t ready (all_three a b c d es fs gs hs x y z one.adds two.adds last.adds) last.known step (λ m. omega arith) (λ m. omega arith)

-- an answer that is remembered, which was given before
pub remembered : (R : Level → Level → Level → Type 0) (a b c : Slab Node) (es fs gs : List Made) (i j : ℕ) (r : Option ℕ) → IsReady R a es → Keeps R a b es fs (r ∷ []) → Step b c [] (Some i ∷ Some j ∷ r ∷ []) → gs ≡ fs ++ ((i, j), r) ∷ []
    → R (level_of b (Some i)) (level_of b (Some j)) (level_of b r) → ((k : Option ℕ) → Lent b [] k → level_of c k ≡ level_of b k) → Lent b [] (Some i) → Lent b [] (Some j) → Lent b [] r → Keeps R a c es gs (r ∷ [])
remembered R a b c es fs gs i j r ready keeps step is so stays lent_i lent_j lent_r = record {
  adds = adds_step a b c es fs gs (((i, j), r) ∷ []) (r ∷ []) [] (Some i ∷ Some j ∷ r ∷ []) (r ∷ []) keeps.adds step is (λ m. omega arith) (λ m. omega arith);
  known = λ e among. elim (among_either fs (((i, j), r) ∷ []) e (subst (λ l. Among l e) is among)) [
    | inl old ↦ known_stays R b c [] _ fs step (λ m. omega (arith, adds_all_owned a b es fs (r ∷ []) ready.owns keeps.adds m)) keeps.known e old
    | inr new ↦ elim new [
      | inl this ↦ subst (λ v. IsSo R c v) this (so_kept R b c i j r (stays (Some i) lent_i) (stays (Some j) lent_j) (stays r lent_r) so)
      | inr never ↦ absurd never
    ]
  ];
}

-- what is lent stays over a step that spends nothing
pub lent_stays : (a b : Slab Node) (g : List (Option ℕ)) → IsSound a [] → Step a b [] g → (r : Option ℕ) → Lent a [] r → Lent b [] r
lent_stays a b g sound step r lent = (lent_after a b [] g [] [] sound step (λ m. omega arith) (λ m. omega arith) r lent).lent

-- what is owned is lent
pub owned_lent : (s : Slab Node) (all : List (Option ℕ)) (r : Option ℕ) → Owns s all → ((m : ℕ) → leads m r ≤ owed m all) → Lent s [] r
owned_lent s all r owns fits =
    lent_held s [] r (held_there s r (λ m. omega (arith, fits m, owns.owned m))) (λ m. omega (arith, fits m, owns.owned m))

-- what a memory tells is lent
pub known_lent : (R : Level → Level → Level → Type 0) (s : Slab Node) (es : List Made) (i j : ℕ) (r : Option ℕ) → IsReady R s es → Among es ((i, j), r) → Lent s [] r
known_lent R s es i j r ready among = owned_lent s (handles_of es) r ready.owns (λ m. omega (arith, leads_among es ((i, j), r) among m))

-- a memory that began with nothing and is forgotten leaves what was given
pub record Forgets (a b d : Slab Node) (g : List (Option ℕ)) : Type 0 where
  pub step : Step a d [] g
  pub level : (r : Option ℕ) → ((m : ℕ) → leads m r ≤ owed m g) → level_of d r ≡ level_of b r

pub forgets : (a b d : Slab Node) (es fs : List Made) (g : List (Option ℕ)) → es ≡ [] → IsSound a [] → Adds a b es fs g → Step b d (handles_of fs) [] → Forgets a b d g
forgets a b d es fs g none sound adds step =
    let before : (m : ℕ) → owed m (handles_of es) ≡ 0 = (λ m. ap (λ l. owed m (handles_of l)) none) in
    let all : (m : ℕ) → owed m (handles_of fs) ≡ owed m (handles_of adds.came) = (λ m.
    let e : owed m (handles_of fs) ≡ owed m (handles_of es) + owed m (handles_of adds.came) = ap (λ l. owed m (handles_of l)) adds.is ∙ owed_handles m es adds.came in
    omega (arith, e, before m)) in
    let owns : Owns a (handles_of es) = record { sound = sound; owned = λ m. omega (arith, before m) } in
    record {
      step = then a b d [] (g ++ handles_of adds.came) (handles_of fs) [] [] g adds.step step (λ m. omega arith)
          (λ m. record { first = omega arith; second = omega (arith, all m, owed-append m g (handles_of adds.came)); both = omega (arith, all m, owed-append m g (handles_of adds.came)) });
      level = λ r fits. ap plain (keeps_root b d (handles_of fs) [] step r (λ m. omega (arith, fits m, adds_all_owned a b es fs g owns adds m)));
    }
