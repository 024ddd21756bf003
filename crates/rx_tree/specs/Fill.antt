-- An item that lies from one end to another, united with a level that lies between these ends.
use Rattle.std.specs.Prelude.{Bool, cond, List, [], ◌∷◌}
use Rattle.rx_value.specs.declared.order.End.{End}
use Rattle.rx_value.specs.Order.{is_at_most}
use Rattle.rx_value.specs.Spans.{IsAtMost, first_end}
use Rattle.rx_tree.specs.Tree.{Level}
use Rattle.rx_tree.specs.Tree.Level.{end, item}
use Rattle.rx_tree.specs.Canonical.{BeginsFrom, IsNotAll, ArePlaced}
use Rattle.rx_tree.specs.Weld.{EndsBy}
use Rattle.rx_tree.specs.Union.{either}

-- An item between two ends of a part may stand over a child, and the items of a level in place lie between these ends.
pub record Fits (n : Bool) (ns : List Bool) (lo hi : End) (c m : Level) : Type 0 where
  pub from : IsAtMost (first_end n) lo
  pub rises : IsAtMost lo hi
  pub not_all : IsNotAll ns c
  pub child : ArePlaced ns c
  pub placed : ArePlaced (n ∷ ns) m
  pub begins : BeginsFrom lo m
  pub ends : EndsBy hi m

abbrev pub MayFill : List Bool → End → End → Level → Level → Type 0
MayFill [] lo hi c m = ⊥
MayFill (n ∷ ns) lo hi c m = Fits n ns lo hi c m

-- the keys of an item between two ends over a child, or of a level: no item lies between two ends that are one
abbrev pub filled : List Bool → End → End → Level → Level → Level
filled parts lo hi c m = cond (is_at_most hi lo) end (either parts (item (record { lo = lo; hi = hi }) c end) m)
