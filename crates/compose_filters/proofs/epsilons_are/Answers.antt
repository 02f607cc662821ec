use mathlib.Core.Path.{◌≡◌, refl, ap, ◌∙◌}
use Prim.Native.Nat.{ℕ, ◌≤◌}
use mathlib.Core.List.{List, ◌∷◌}
use native.Mathlib.Omega.{arith}
use lib.ListN.{length}
use Rattle.lists.specs.Lists.{every}
use Rattle.words.specs.Matches.{MatchType}
use Rattle.words.specs.Ignored.{Ignored, words_read}
use Rattle.words.specs.Machines.{tr_count, first_of, next_of, list_from, list_of}
use Rattle.words.proofs.ListLaws.{link, first_inside, list_end_lem, list_turn}
use Rattle.words.proofs.ReplacedLaws.{read_first, read_next}
use Rattle.fst.proofs.Tests.{fails, holds}
use Rattle.compose_filters.specs.Meaning.{epsilons_are}
use Rattle.compose_filters.proofs.epsilons_are.Goals as goal

-- the links as lent lead along the list of the words as they are read
module _ (on : MatchType) (g : Ignored) (m : List ℕ) where
  first_read : (s : ℕ) → first_of m s ≤ tr_count (words_read on g m)
  first_read s = rw (← read_first on g m s) (first_inside (words_read on g m) s)

  next_read : (t : ℕ) → next_of m t ≤ tr_count (words_read on g m)
  next_read t = rw (← read_next on g m t) (link (words_read on g m) t).inside

  turn_read : (t : ℕ) → (t ≡ 0 → ⊥) → t ≤ tr_count (words_read on g m) → list_from (words_read on g m) t ≡ t ∷ list_from (words_read on g m) (next_of m t)
  turn_read t e h = rw (← read_next on g m t) (list_turn (words_read on g m) t e h)

pub list-init : goal.list-init
list-init c = (refl, rw c.first_tr-t.ensures (first_read _ _ _ _), refl)

pub list-smaller : goal.list-smaller
list-smaller c = rw c.next_tr-t.ensures (omega (arith, ap length (turn_read _ _ _ _ c.list-test.true c.list.invariant.1)))

pub list-preserved : goal.list-preserved
unfolding every
list-preserved c = let l = c.list.invariant in
    rw c.next_tr-t.ensures (l.0, next_read _ _ _ _, rw (turn_read _ _ _ _ c.list-test.true c.list.invariant.1, holds c.eps_is.ensures c.if-not-eps_is.false) at l.2)

pub returns-after-list : goal.returns-after-list
unfolding every epsilons_are list_of
returns-after-list c =
    let l = c.list.invariant in
    rw (read_first _ _ _ _, ← c.first_tr-t.ensures) (l.0 ∙ rw (list_end_lem _ _ c.list-test.false) at l.2)

pub returns-then-not-eps_is : goal.returns-then-not-eps_is
unfolding every epsilons_are list_of
returns-then-not-eps_is c =
    let l = c.list.invariant in
    rw (read_first _ _ _ _, ← c.first_tr-t.ensures) (rw (turn_read _ _ _ _ c.list-test.true c.list.invariant.1, fails c.eps_is.ensures c.if-not-eps_is.true) at l.2)
