-- "After 1 to 8 it refuses with 14 .., then 12 .., then 13": the order, law by law, and what each answer leaves in the work slice.
use mathlib.Core.Path.{◌≡◌, refl}
use mathlib.Core.Bool.{Bool, true, false, cond}
use mathlib.Core.List.{List}
use Prim.Native.Nat.{ℕ, ◌≤◌, ◌<◌}
use lib.Dec.{ltb}
use lib.ListN.{length, replicate}
use borrow.Author.Tests.{lt-ltb, le-ltb}
use Rattle.lists.specs.Lists.{put}
use Rattle.words.specs.Labels.{Checked, good, refused}
use Rattle.words.specs.Steps.{Composition}
use Rattle.words.proofs.CheckedLaws.{good≢refused}
use Rattle.words.specs.Settings.{Lent}
use Rattle.calls.specs.Store.{Memory, Store}
use Rattle.calls.specs.Checks.{Session, store_of, entered}
use Rattle.graphs.specs.StoreMachine.{store_machine}
use Rattle.trims.specs.Trims.{trimmed, work_words, all_expanded, all_weighed, lacks_room, trimmed_of, written, trim_by, trim_of}

-- a state is not expanded, whatever the final weights are and whatever room there is
pub fourteen : (c : Composition) (d : Store) (out : List ℕ) → all_expanded d ≡ false → trimmed_of c d out ≡ refused 14
unfolding trimmed_of
fourteen c d out e = rw e refl

-- all are, and a final weight is too large, whatever room there is
pub twelve : (c : Composition) (d : Store) (out : List ℕ) → all_expanded d ≡ true → all_weighed c d ≡ false → trimmed_of c d out ≡ refused 12
unfolding trimmed_of
twelve c d out e f = rw (e, f) refl

-- room alone is lacking
pub thirteen : (c : Composition) (d : Store) (out : List ℕ) → all_expanded d ≡ true → all_weighed c d ≡ true → lacks_room (store_machine c d) out ≡ true → trimmed_of c d out ≡ refused 13
unfolding trimmed_of
thirteen c d out e f g = rw (e, f, g) refl

pub accepted : (c : Composition) (d : Store) (out : List ℕ) → all_expanded d ≡ true → all_weighed c d ≡ true → lacks_room (store_machine c d) out ≡ false → trimmed_of c d out ≡ good (trimmed (store_machine c d))
unfolding trimmed_of
accepted c d out e f g = rw (e, f, g) refl

-- 1 to 8, and 13 for the work slice, leave every word
pub entered_first : (l : Lent) (s : Session) (m : Memory) (out work : List ℕ) (k : ℕ) → entered l s m ≡ refused k → trim_of l s m out work ≡ written out work (refused k)
unfolding trim_of
entered_first l s m out work k e = rw e refl

pub short_work : (l : Lent) (s : Session) (m : Memory) (out work : List ℕ) (c : Composition) → entered l s m ≡ good c → length work < work_words (store_of s m) → trim_of l s m out work ≡ written out work (refused 13)
unfolding trim_of
short_work l s m out work c e h = rw (e, lt-ltb (length work) (work_words (store_of s m)) h) refl

-- past that check the work words of the used states are 0, and what is written is told by the rest
pub past_work : (l : Lent) (s : Session) (m : Memory) (out work : List ℕ) (c : Composition) → entered l s m ≡ good c → work_words (store_of s m) ≤ length work
    → trim_of l s m out work ≡ written out (put work 0 (replicate (work_words (store_of s m)) 0)) (trimmed_of c (store_of s m) out)
unfolding trim_of
past_work l s m out work c e h = rw (e, le-ltb (length work) (work_words (store_of s m)) h) refl

-- a refused call leaves the output slice, whatever refused it
pub refused_stays : (l : Lent) (s : Session) (m : Memory) (out work : List ℕ) (k : ℕ) → (trim_of l s m out work).answer ≡ refused k → (trim_of l s m out work).out ≡ out
unfolding trim_of
refused_stays l s m out work k e = by (entered l s m) e
  where
    put_only : (w : List ℕ) (a : Checked (List ℕ)) → (written out w a).answer ≡ refused k → (written out w a).out ≡ out
    put_only w (good words) z = absurd (good≢refused z)
    put_only w (refused j) z = refl

    after : (b : Bool) (w : List ℕ) (a : Checked (List ℕ)) → (cond b (written out work (refused 13)) (written out w a)).answer ≡ refused k → (cond b (written out work (refused 13)) (written out w a)).out ≡ out
    after true w a z = refl
    after false w a z = put_only w a z

    by : (r : Checked Composition) → (trim_by r (store_of s m) out work).answer ≡ refused k → (trim_by r (store_of s m) out work).out ≡ out
    by (refused j) z = refl
    by (good c) z = after (ltb (length work) (work_words (store_of s m))) (put work 0 (replicate (work_words (store_of s m)) 0)) (trimmed_of c (store_of s m) out) z
