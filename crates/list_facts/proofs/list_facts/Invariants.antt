-- What was found so far, with the list from here on, tells the same as the whole list; the length of what is left is the measure.
use Prim.Native.Nat.{◌≤◌}
use lib.ListN.{length}
use Rattle.words.specs.Weights.{kind_of}
use Rattle.words.specs.Machines.{tr_count, tr_word, list_from}
use Rattle.list_facts.proofs.Pass.{Found}
use Rattle.list_facts.proofs.Told.{goes_on}
use Rattle.list_facts.proofs.list_facts.Given as goal

abbrev pub invariant-loop-t : goal.invariant-loop-t
invariant-loop-t l =
    (l.t ≤ tr_count l.m)
    × Found (λ u. tr_word l.m u l.k) (λ u. tr_word l.m u 2) (kind_of l.kind) (goes_on l.m) (list_from l.m l.initial.t) (list_from l.m l.t) l.len l.eps l.straight l.most l.run l.same l.last

abbrev pub decreases-loop-t : goal.decreases-loop-t
decreases-loop-t l = length (list_from l.m l.t)
