-- What the answer in hand and the rest of the list give is the same as from the place asked on.
use mathlib.Core.Path.{◌≡◌}
use Prim.Native.Nat.{◌≤◌}
use lib.ListN.{length}
use Rattle.std.specs.Prelude.{Ok}
use Rattle.words.specs.Machines.{tr_count, list_from}
use Rattle.compose_moves.specs.Walks.{walk_means, trs_steps, asked, along_means}
use Rattle.compose_moves.proofs.Edges.{walked_words}
use Rattle.compose_moves.proofs.Placed.{Standing}
use Rattle.compose_moves.proofs.walks.ordered_expand.Given as goal

abbrev pub invariant-loop-along : goal.invariant-loop-along
invariant-loop-along l =
    let W = walk_means l.walk l.mw l.mm l.am l.ignored in
    (l.t ≤ tr_count W.walked)
    × (along_means W (asked (trs_steps W l.t)) (Ok l.along) ≡ along_means W (asked (trs_steps W l.initial.t)) (Ok l.initial.along))
    × (Standing W l.initial.t (Ok l.initial.along) → Standing W l.t (Ok l.along))

abbrev pub decreases-loop-along : goal.decreases-loop-along
decreases-loop-along l = length (list_from (walked_words l.walk l.ignored l.mw) l.t)
