-- What the edge has still to make is the same as from the start on; a cursor of the walk stays one.
use mathlib.Core.Path.{◌≡◌}
use mathlib.Core.List.{List}
use Prim.Native.Nat.{ℕ}
use lib.ListN.{length}
use Rattle.matchers.specs.Cursors.{held_words, items_left}
use Rattle.compose_moves.specs.Walks.{walk_means, Placed}
use Rattle.compose_moves.proofs.Edges.{edge_left}
use Rattle.compose_moves.proofs.walks.match_tr_selected.Given as goal

abbrev pub invariant-loop-found : goal.invariant-loop-found
invariant-loop-found l =
    ((am : List ℕ) → edge_left l.mw l.mm am l.ignored l.walk l.t l.left ≡ edge_left l.mw l.mm am l.ignored l.walk l.t l.initial.left)
    × ((am : List ℕ) → let W = walk_means l.walk l.mw l.mm am l.ignored in Placed W l.t l.initial.left → Placed W l.t l.left)

abbrev pub decreases-loop-found : goal.decreases-loop-found
decreases-loop-found l = length (items_left (held_words l.left l.ignored l.mm) l.left)
