-- Six words, one after the other.
use mathlib.Core.Path.{refl}
use Rattle.lists.specs.Lists.{put}
use Rattle.store_records.proofs.state_records.write_state.Goals as goal

pub returns : goal.returns
unfolding put
returns c = refl
