-- The first place of a look-up in the other machine, by the direction.
use mathlib.Core.Path.{refl}
use mathlib.Core.Logic.{inl}
use Rattle.matchers.proofs.Held.{first_holds}
use Rattle.compose_moves.proofs.rest_matches.Goals as goal

pub returns-in-MatchInput-clause-place : goal.returns-in-MatchInput-clause-place
returns-in-MatchInput-clause-place c = rw c.in-MatchInput.is (first_holds _ _ _ _ _ _ _ 0 _ (rw c.second.ensures at c.sorted_iter.ensures.place) (inl refl))

pub returns-in-MatchOutput-clause-place : goal.returns-in-MatchOutput-clause-place
returns-in-MatchOutput-clause-place c = rw c.in-MatchOutput.is (first_holds _ _ _ _ _ _ _ 0 _ (rw c.first.ensures at c.sorted_iter-in-MatchOutput.ensures.place) (inl refl))
