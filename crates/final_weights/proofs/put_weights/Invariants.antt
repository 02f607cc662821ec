-- The words from state n on, put at their place, make the words of all.
use mathlib.Core.Path.{◌≡◌}
use Prim.Native.Nat.{◌-◌, ◌*◌}
use lib.ListN.{length}
use Rattle.lists.specs.Lists.{put}
use Rattle.words.specs.Settings.{Lent}
use Rattle.calls.specs.Store.{Memory}
use Rattle.calls.specs.Checks.{Session}
use Rattle.store_records.specs.Meaning.{memory_of}
use Rattle.lazy_fst.specs.Meaning.{lent_with, session_means}
use Rattle.final_weights.specs.Weights.{words_from}
use Rattle.final_weights.proofs.put_weights.Given as goal

abbrev pub invariant-loop-n : goal.invariant-loop-n
invariant-loop-n l =
    let given : Lent = lent_with l.m1 l.m2 l.allowed1 l.allowed2 l.ignored l.listed in
    let s : Session = session_means l.session in
    let m : Memory = memory_of l.heads l.states l.trs in
    let count = l.session.used.states in
    record {
      sized : length l.out ≡ 2 * count;
      words : put l.out (2 * l.n) (words_from given s m l.n (count - l.n)) ≡ words_from given s m 0 count;
    }
