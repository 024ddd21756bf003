-- What two levels have in common has no neighbours that can be one item.
use Rattle.std.proofs.Common.{◌≡◌, Option, Some, None, arith, ap, ◌∙◌}
use Rattle.rx_value.specs.declared.order.Span.{Span}
use Rattle.rx_value.specs.Spans.{meet_span}
use Rattle.rx_tree.specs.Tree.{Level}
use Rattle.rx_tree.specs.Tree.Level.{end, item}
use Rattle.rx_tree.specs.Join.{join_level, length_of}
use Rattle.rx_tree.specs.Weld.{glue}
use Rattle.rx_tree.specs.Meet.{Piece, piece_of, put_piece, meet_child, across, both}
use Rattle.rx_weld.specs.Seamless.{IsSeamless}
use Rattle.rx_weld.specs.Seam.{IsSeam}
use Rattle.rx_weld.proofs.Seamless.{weld_are_apart, glue_are_apart}
use Rattle.rx_weld.proofs.Seams.{glue_joined, seam_first}

pub put_are_apart : (p : Option Piece) (rest : Level) → IsSeamless rest → IsSeamless (put_piece p rest)
put_are_apart None rest apart = apart
put_are_apart (Some p) rest apart = weld_are_apart p.span p.below rest apart

pub across_are_apart : (f : Level → Level) (c : Level) (s : Span) (h : Level) → IsSeamless (across f c s h)
across_are_apart f c s end = tt
across_are_apart f c s (item t d rest) = put_are_apart (piece_of (meet_span s t) (meet_child f c d)) (across f c s rest) (across_are_apart f c s rest)

pub both_are_apart : (a b : Level) → IsSeamless (both a b)
both_are_apart end b = tt
both_are_apart (item s c rest) b = glue_are_apart (across (both c) c s b) (both rest b) (both_are_apart rest b)

-- one item between two levels that it has no seam with is glued by joining the three
pub three_joined : (l m r : Level) → IsSeamless l → IsSeamless m → length_of m ≡ 1 → (IsSeam l m → ⊥) → (IsSeam m r → ⊥) → glue l (glue m r) ≡ join_level l (join_level m r)
three_joined l end r apart middle one first next = absurd (omega (arith, one))
three_joined l (item t d rest) r apart middle one first next =
    ap (glue l) (glue_joined (item t d rest) r middle next) ∙ glue_joined l (item t d (join_level rest r)) apart (λ seam. first (seam_first l t d (join_level rest r) rest seam))
