-- Two words, one after the other.
use native.Mathlib.Numerals.{add-one}
use Rattle.lists.specs.Lists.{put}
use Rattle.final_weights.proofs.put_two.Goals as goal

pub returns : goal.returns
unfolding put
returns c = rw add-one
