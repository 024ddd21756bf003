-- Three levels that are made one after another and glued to one.
use Rattle.std.proofs.Common.{◌≡◌, ◌<◌, ◌≤◌, ℕ, [], ◌∷◌, Option, arith, refl, ap, sym, ◌∙◌, subst}
use Rattle.slab.specs.Slab.{Slab}
use Rattle.rx_tree.specs.Tree.{Level, level_size}
use Rattle.rx_tree.specs.Weld.{glue}
use Rattle.rx_tree.proofs.Sizes.{glue_second}
use Rattle.rx_level.specs.declared.nodes.Node.{Node}
use Rattle.rx_level.specs.Step.{Step, level_of}
use Rattle.rx_level.proofs.Turning.{kept_root}
use Rattle.rx_weld.specs.Seamless.{IsSeamless}
use Rattle.rx_weld.proofs.Seamless.{glue_size_first}

-- each of three levels is at most as large as what they are glued to
pub record Within (x m r whole : Level) : Type 0 where
  pub first : level_size x ≤ level_size whole
  pub second : level_size m ≤ level_size whole
  pub third : level_size r ≤ level_size whole

pub within : (x m r whole : Level) → IsSeamless x → IsSeamless m → glue x (glue m r) ≡ whole → Within x m r whole
within x m r whole apart_x apart_m is =
    let size : level_size (glue x (glue m r)) ≡ level_size whole = ap level_size is in
    let back = glue_second x (glue m r) in
    record {
      first = omega (arith, glue_size_first x (glue m r) apart_x, size);
      second = omega (arith, glue_size_first m r apart_m, back, size);
      third = omega (arith, glue_second m r, back, size);
    }

-- a level that a later call finds too large
pub over_later : (limit : ℕ) (later former whole : Level) → limit < level_size later → later ≡ former → level_size former ≤ level_size whole → limit < level_size whole
over_later limit later former whole over is fits = let size : level_size later ≡ level_size former = ap level_size is in omega (arith, over, size, fits)

-- the middle, the front and the back of a level, made one after another
pub record Kept (b d e : Slab Node) (middle front : Option ℕ) : Type 0 where
  pub middle_kept : level_of e middle ≡ level_of b middle
  pub front_kept : level_of e front ≡ level_of d front

pub kept : (a b d e : Slab Node) (middle front back : Option ℕ) → Step a b [] (middle ∷ []) → Step b d [] (front ∷ []) → Step d e [] (back ∷ []) → Kept b d e middle front
kept a b d e middle front back one two three = record {
  middle_kept = (kept_root d e _ _ three middle (λ m. omega (arith, one.held m, two.held m))).level ∙ (kept_root b d _ _ two middle (λ m. omega (arith, one.held m))).level;
  front_kept = (kept_root d e _ _ three front (λ m. omega (arith, two.held m))).level;
}

-- three levels that are glued to this one
pub record Glues (s : Slab Node) (front middle back : Option ℕ) (whole : Level) : Type 0 where
  pub is : glue (level_of s front) (glue (level_of s middle) (level_of s back)) ≡ whole
  pub front_apart : IsSeamless (level_of s front)
  pub middle_apart : IsSeamless (level_of s middle)

pub glues_from : (s : Slab Node) (front middle back : Option ℕ) (x m r whole : Level) → level_of s front ≡ x → level_of s middle ≡ m → level_of s back ≡ r → IsSeamless x → IsSeamless m → glue x (glue m r) ≡ whole → Glues s front middle back whole
glues_from s front middle back x m r whole is_x is_m is_r apart_x apart_m is = record {
  is = (rw (is_x, is_m, is_r) refl) ∙ is;
  front_apart = subst IsSeamless (sym is_x) apart_x;
  middle_apart = subst IsSeamless (sym is_m) apart_m;
}
