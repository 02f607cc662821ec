-- Five words, one after the other.
use mathlib.Core.Path.{refl}
use Rattle.lists.specs.Lists.{put}
use Rattle.store_records.proofs.tr_records.write_tr.Goals as goal

pub returns : goal.returns
unfolding put
returns c = λ to. refl
