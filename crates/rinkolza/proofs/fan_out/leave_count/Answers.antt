-- One word is the whole slice.
use mathlib.Core.Path.{ap}
use mathlib.Core.List.{[], ◌∷◌}
use Rattle.final_weights.proofs.WordLaws.{sets_all}
use Rattle.rinkolza.specs.FanOutWords.{count_left}
use Rattle.rinkolza.proofs.fan_out.leave_count.Goals as goal

pub returns-in-Ok : goal.returns-in-Ok
returns-in-Ok c = rw c.in-Ok.is (ap (count_left 0) (sets_all c.args.answer.now (_ ∷ []) c.requires))
