-- Started, then run; the number of turns is a u64.
use native.Mathlib.Omega.{arith}
use Rattle.useful_states.proofs.RunLaws.{turns_fit, run_whole}
use Rattle.useful_states.proofs.find_useful.Goals as goal

pub overflow_mul-most : goal.overflow_mul-most
overflow_mul-most c = record { fits = turns_fit _ _ (omega (arith, c.requires.0)) (omega (arith, c.requires.1)) }

pub returns : goal.returns
returns c heads = run_whole _ _ _ _ _ _ (c.start-from.ensures heads _ _) (c.run.ensures heads c.args.used.states)
