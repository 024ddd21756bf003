-- The handles of a memory are spent one after another.
use Rattle.std.proofs.Common.{◌≡◌, ◌≤◌, arith, List, [], ◌∷◌, ◌++◌, refl, ap, sym, ◌∙◌, subst}
use Rattle.std.proofs.lemmas.List.{append_assoc}
use Rattle.slab.specs.Slab.{Slab, slab_len}
use Rattle.rx_level.specs.declared.nodes.Node.{Node}
use Rattle.rx_level.specs.Store.{owed}
use Rattle.rx_level.specs.Step.{Owns, Step}
use Rattle.rx_level.proofs.Steps.{then}
use Rattle.rx_pairs.specs.Pairs.{Made, handles_of}
use Rattle.rx_pairs.proofs.Listed.{owed_handles, append_none}

-- what is left of a memory, and what was spent
pub record Forgotten (old now : Slab Node) (before remains : List Made) : Type 0 where
  pub gone : List Made
  pub is : before ≡ remains ++ gone
  pub owned : Owns old (handles_of before)
  pub step : Step old now (handles_of gone) []
  pub live : slab_len now ≤ slab_len old

pub forgotten_none : (s : Slab Node) (es : List Made) → Owns s (handles_of es) → Forgotten s s es es
forgotten_none s es owns = record {
  gone = [];
  is = sym (append_none es);
  owned = owns;
  step = record { sound = owns.sound; held = λ m. refl; keeps = λ m more. refl };
  live = omega arith;
}

-- what is left is owned
remains_owned : (old now : Slab Node) (before remains : List Made) → Forgotten old now before remains → Owns now (handles_of remains)
remains_owned old now before remains f = record {
  sound = f.step.sound;
  owned = λ m.
      let sum = owed_handles m remains f.gone in
      let all : owed m (handles_of before) ≡ owed m (handles_of (remains ++ f.gone)) = ap (λ l. owed m (handles_of l)) f.is in
      omega (arith, f.step.held m, f.owned.owned m, sum, all);
}

pub last_owned : (old now : Slab Node) (before remains less : List Made) (last : Made) → Forgotten old now before remains → remains ≡ less ++ last ∷ [] → Owns now (handles_of (last ∷ []))
last_owned old now before remains less last f is = record {
  sound = f.step.sound;
  owned = λ m.
      let owns = (remains_owned old now before remains f).owned m in
      let sum = owed_handles m less (last ∷ []) in
      let all : owed m (handles_of remains) ≡ owed m (handles_of (less ++ last ∷ [])) = ap (λ l. owed m (handles_of l)) is in
      omega (arith, owns, sum, all);
}

pub forgotten_more : (old now new : Slab Node) (before remains less : List Made) (last : Made) → Forgotten old now before remains → remains ≡ less ++ last ∷ [] → Step now new (handles_of (last ∷ [])) [] → slab_len new ≤ slab_len now → Forgotten old new before less
forgotten_more old now new before remains less last f ends free live =
    let gone : List Made = last ∷ f.gone in
    let is : before ≡ less ++ gone = f.is ∙ ap (λ l. l ++ f.gone) ends ∙ append_assoc less (last ∷ []) f.gone in
    record {
      gone = gone;
      is = is;
      owned = f.owned;
      step = then old now new (handles_of f.gone) [] (handles_of (last ∷ [])) [] (handles_of gone) [] f.step free
          (λ m.
          let sum = owed_handles m less gone in
          let all : owed m (handles_of before) ≡ owed m (handles_of (less ++ gone)) = ap (λ l. owed m (handles_of l)) is in
          omega (arith, f.owned.owned m, sum, all))
          (λ m. record { first = omega arith; second = omega arith; both = omega arith });
      live = omega (arith, f.live, live);
    }

pub forgotten_all : (old now : Slab Node) (before remains : List Made) → Forgotten old now before remains → remains ≡ [] → Step old now (handles_of before) []
forgotten_all old now before remains f none =
    let all : f.gone ≡ before = sym (f.is ∙ ap (λ l. l ++ f.gone) none) in
    subst (λ l. Step old now (handles_of l) []) all f.step
