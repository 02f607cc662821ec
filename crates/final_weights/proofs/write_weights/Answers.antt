-- A refusal, or the words of all.
use mathlib.Core.Path.{◌∙◌}
use Rattle.final_weights.proofs.WordLaws.{words_all}
use Rattle.final_weights.proofs.write_weights.Goals as goal

pub returns : goal.returns
returns c =
    let e = c.in_ok-take_weights.ensures in
    record { result_value = e; words = c.put_weights.ensures ∙ words_all _ _ _ _ _ e }
