-- How few items are new, and how few different items an answer has.
use Rattle.std.specs.Prelude.{◌≡◌, ◌<◌, ◌≤◌, ◌+◌, ◌*◌, ◌^◌, ℕ, Bool, true, List, Option, Some}
use Rattle.slab.specs.Slab.{Slab, slab_len}
use Rattle.rx_tree.specs.Join.{length_of}
use Rattle.rx_level.specs.declared.nodes.Node.{Node}
use Rattle.rx_level.specs.Step.{level_of}
use Rattle.rx_level.specs.Under.{IsNumberUnder}
use Rattle.rx_graft.specs.Graft.{ComesBefore}
use Rattle.rx_tree.specs.Bare.{is_bare}

-- where the parts of the first level come before those of the second, at most one item is new for each different item of the first
abbrev pub IsFewMade : List Bool → Slab Node → Slab Node → ℕ → ℕ → Type 0
IsFewMade parts old new g h = ComesBefore parts (level_of old (Some g)) (level_of old (Some h)) → (n : ℕ) → IsNumberUnder old (Some g) n → slab_len new ≤ slab_len old + n

-- there the answer has no more different items than both together
abbrev pub IsFewReached : List Bool → Slab Node → Slab Node → ℕ → ℕ → Option ℕ → Type 0
IsFewReached parts old new g h r =
    ComesBefore parts (level_of old (Some g)) (level_of old (Some h)) → (n m k : ℕ) → IsNumberUnder old (Some g) n → IsNumberUnder old (Some h) m → IsNumberUnder new r k → k ≤ n + m

-- where the second level is one item without a child, at most 16 items are new for each bit of the number of items of the first, and 16
abbrev pub IsFewCut : Slab Node → Slab Node → ℕ → ℕ → Type 0
IsFewCut old new g h = is_bare (level_of old (Some h)) ≡ true → (bits : ℕ) → length_of (level_of old (Some g)) < 2 ^ bits → slab_len new ≤ slab_len old + 16 * bits + 16
