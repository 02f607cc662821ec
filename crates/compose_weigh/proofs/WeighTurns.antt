-- One turn of the weighing, by what the cursor answers.
use mathlib.Core.Path.{◌≡◌}
use mathlib.Core.List.{List}
use Prim.Native.Nat.{ℕ, ◌+◌, ◌≤◌}
use borrow.Author.Tests.{le-leb}
use Rattle.words.specs.Labels.{Checked, good, refused}
use Rattle.words.specs.Steps.{Step}
use Rattle.calls.specs.Store.{Store, tr_room}
use Rattle.compose_moves.specs.Walks.{gives, ends, refuses, asked}
use Rattle.compose_weigh.specs.Weigh.{weigh_from}
use Rattle.compose_moves.proofs.Asking.{asked_ends}
use Rattle.compose_weigh.proofs.AskedLaws.{step_left, refusal_left}

module _ (d : Store) (all : List (Checked Step)) (i u : ℕ) (l : List (Checked Step)) where
  pub weigh_none : ends ≡ asked l → weigh_from d all i u l ≡ good tt
  unfolding weigh_from
  weigh_none e = rw (asked_ends l e)

  pub weigh_refused : (n : ℕ) → refuses n ≡ asked l → weigh_from d all i u l ≡ refused n
  unfolding weigh_from
  weigh_refused n e = rw (refusal_left l n e).1

  -- the transition record of a kept move is lacking
  pub weigh_lacking : (s : Step) (others : List (Checked Step)) → gives s others ≡ asked l → tr_room d.memory ≤ d.used.trs + i → weigh_from d all i u l ≡ refused 13
  unfolding weigh_from
  weigh_lacking s others e h = rw (step_left l s others e, le-leb (tr_room d.memory) (d.used.trs + i) h)
