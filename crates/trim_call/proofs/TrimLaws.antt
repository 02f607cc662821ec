-- From the passes to the call: the words that are written, the room for them, and what the call leaves.
use mathlib.Core.Path.{◌≡◌, refl, sym, ◌∙◌, ap}
use mathlib.Core.Bool.{true, false, cond}
use mathlib.Core.List.{List, [], ◌∷◌}
use Prim.Native.Nat.{ℕ, suc, ◌+◌, ◌-◌, ◌*◌, ◌≤◌, ◌<◌}
use native.Mathlib.Omega.{arith}
use lib.Dec.{ltb}
use lib.ListN.{length, length-map, length-replicate, replicate}
use borrow.Author.Tests.{lt-ltb, le-ltb}
use borrow.Rule.Slice.PartMut.{put_mid, mid_of}
use Rattle.lists.specs.Lists.{keep_if, interval, put}
use Rattle.lists.proofs.Members.{of_interval, or_right}
use Rattle.lists.proofs.Places.{zeros}
use Rattle.lists.proofs.Put.{put_whole, put_part}
use Rattle.lists.proofs.Same.{keep_same}
use Rattle.papers.specs.Machine.{Machine}
use Rattle.words.specs.Labels.{good, refused, refuse_if}
use Rattle.words.specs.Machines.{limit}
use Rattle.words.specs.Steps.{Composition}
use Rattle.words.specs.Settings.{Lent}
use Rattle.calls.specs.Store.{Memory, Store}
use Rattle.calls.specs.Forms.{form_ok}
use Rattle.calls.specs.Checks.{Session, store_of, entered}
use Rattle.graphs.specs.Walks.{useful}
use Rattle.graphs.specs.StoreMachine.{store_machine}
use Rattle.searches.specs.WorkWords.{low, high}
use Rattle.searches.specs.UsefulSearch.{status_in, start_of, run_of}
use Rattle.searches.specs.StoreLinks.{links_of, turns_for}
use Rattle.searches.proofs.StoreSearch.{search_useful, start_length, run_length}
use Rattle.machine_words.specs.MachineWords.{trs_in, machine_words}
use Rattle.trims.specs.Trims.{useful_states, number, row_of, rows_of, new_start, trimmed, all_expanded, all_weighed, lacks_room, trimmed_of, Trim, written, trim_of}
use Rattle.trims.proofs.Order as Order
use Rattle.trims.proofs.Order.{fourteen, twelve, past_work, entered_first}
use Rattle.trims.proofs.Numbers.{states_few}
use Rattle.trims.proofs.Trimmed.{trimmed_length}
use Rattle.trim_passes.specs.Passes.{is_alive, numbered_up_to, number_in, rows_from}
use Rattle.trim_passes.proofs.NumberLaws.{number_at}
use Rattle.trim_passes.proofs.RowsAre.{alive_number, rows_are, start_is}
use Rattle.trim_rows.specs.Rows.{nothing, Fits}

-- after the search: the useful states are alive, so their numbers are the new ones
module _ (c : Composition) (d : Store) (S1 S2 : ℕ) (ok : form_ok S1 S2 d ≡ true) (ls : d.used.states ≤ limit) (lt : d.used.trs ≤ limit) (w : List ℕ) (long : 2 * d.used.states ≤ length w)
    (marks : (x : ℕ) → x < d.used.states → status_in w x ≡ cond ((store_machine c d).is_final x) 4 0) where
  abbrev found : List ℕ
  found = (run_of (links_of d) (turns_for d) (start_of (links_of d) w)).work

  alive : (x : ℕ) → x < d.used.states → is_alive found x ≡ useful (store_machine c d) x
  alive x l = search_useful c d S1 S2 ok ls lt (omega (arith, l)) w long marks x l

  pub numbered : (v : List ℕ) (u : List ℕ) (r : ℕ) → u ≡ found → r ≡ length (keep_if (is_alive u) (interval 0 d.used.states)) → v ≡ numbered_up_to u d.used.states
      → (r ≡ length (useful_states (store_machine c d))) × ((x : ℕ) → x < d.used.states → number_in v x ≡ cond (useful (store_machine c d) x) (suc (number (store_machine c d) x)) 0)
  numbered v u r e f g = (
    f ∙ ap (λ (a : List ℕ). length (keep_if (is_alive a) (interval 0 d.used.states))) e
        ∙ ap length (keep_same (is_alive found) (useful (store_machine c d)) (interval 0 d.used.states) (λ a i. alive a (let z = (of_interval 0 d.used.states i).1 in omega (arith, z)))),
    λ x l. ap (λ (a : List ℕ). number_in a x) g ∙ ap (λ (a : List ℕ). number_in (numbered_up_to a d.used.states) x) e ∙ number_at found d.used.states x l ls (let z = run_length (links_of d) (turns_for d) (start_of (links_of d) w) in let y = start_length (links_of d) w in omega (arith, z, y, long)) ∙ alive_number (store_machine c d) found d.used.states alive x l,
  )

-- with the new numbers in the work words: the machine, its size, and the room for it
module _ (c : Composition) (d : Store) (S1 S2 : ℕ) (ok : form_ok S1 S2 d ≡ true) (ls : d.used.states ≤ limit) (w : List ℕ) (sized : length w ≡ 2 * d.used.states)
    (nums : (x : ℕ) → x < d.used.states → number_in w x ≡ cond (useful (store_machine c d) x) (suc (number (store_machine c d) x)) 0) where
  rows : rows_from c d w 0 ≡ rows_of (store_machine c d)
  rows = rows_are c d S1 S2 ok w nums

  no_words : (l : List ℕ) → length l ≡ 0 → number_in l 0 ≡ 0
  unfolding number_in low
  no_words [] e = refl
  no_words (x ∷ l) e = absurd (omega (arith, e))

  pub machine_is : machine_words (number_in w 0) (rows_from c d w 0) ≡ trimmed (store_machine c d)
  unfolding trimmed
  machine_is =
      ap (λ k. machine_words k (rows_from c d w 0)) (start_is (store_machine c d) d.used.states (number_in w 0) refl (λ h. nums 0 h) (λ e. no_words w (omega (arith, sized, e))))
      ∙ ap (machine_words (new_start (store_machine c d) (store_machine c d).start)) rows

  pub trs_are : trs_in (rows_from c d w 0) ≡ trs_in (rows_of (store_machine c d))
  trs_are = ap trs_in rows

  pub fits_all : (out : List ℕ) (k : ℕ) → k ≡ length (useful_states (store_machine c d)) → trs_in (rows_from c d w 0) ≤ limit → 6 + 3 * k + 5 * trs_in (rows_from c d w 0) ≤ length out
      → Fits k (length out) nothing (rows_from c d w 0)
  fits_all out k e few room =
      let a = ap length rows in
      let b = length-map (useful_states (store_machine c d)) (row_of (store_machine c d)) in
      let s = states_few (store_machine c d) in
      record { all = omega (arith, a, b, e); within = omega (arith, s, e, ls); few = omega (arith, few); room_for_lem = omega (arith, room) }

-- no room for the transitions' count, or for the words; else there is room
pub lacks_count : (M : Machine) (out : List ℕ) → limit < trs_in (rows_of M) → lacks_room M out ≡ true
unfolding lacks_room
lacks_count M out h = rw (lt-ltb limit (trs_in (rows_of M)) h) refl

pub lacks_words : (M : Machine) (out : List ℕ) → length out < 6 + 3 * length (useful_states M) + 5 * trs_in (rows_of M) → lacks_room M out ≡ true
unfolding lacks_room
lacks_words M out h = or_right (ltb limit (trs_in (rows_of M))) _ (lt-ltb (length out) (length (trimmed M)) (let z = trimmed_length M in omega (arith, z, h)))

pub has_room : (M : Machine) (out : List ℕ) → trs_in (rows_of M) ≤ limit → 6 + 3 * length (useful_states M) + 5 * trs_in (rows_of M) ≤ length out → lacks_room M out ≡ false
unfolding lacks_room
has_room M out a b = rw (le-ltb limit (trs_in (rows_of M)) a, le-ltb (length out) (length (trimmed M)) (let z = trimmed_length M in omega (arith, z, b))) refl

-- what is refused, and what is written
pub refuses : (M : Machine) (out w : List ℕ) → lacks_room M out ≡ true → record { answer = refused 13; out = out; work = w } ≡ written out w (refuse_if (lacks_room M out) 13 (good (trimmed M)))
refuses M out w e = rw e refl

pub writes : (M : Machine) (out out' w : List ℕ) (k : ℕ) → lacks_room M out ≡ false → k ≡ 6 + 3 * length (useful_states M) + 5 * trs_in (rows_of M) → out' ≡ put out 0 (trimmed M)
    → record { answer = good k; out = out'; work = w } ≡ written out w (refuse_if (lacks_room M out) 13 (good (trimmed M)))
writes M out out' w k e f g = rw (e, g, f ∙ sym (trimmed_length M)) refl

-- 14, then 12, then the rest
pub unexpanded : (c : Composition) (d : Store) (out w : List ℕ) → all_expanded d ≡ false → record { answer = refused 14; out = out; work = w } ≡ written out w (trimmed_of c d out)
unexpanded c d out w e = ap (written out w) (sym (fourteen c d out e))

pub too_large : (c : Composition) (d : Store) (out w : List ℕ) → all_expanded d ≡ true → all_weighed c d ≡ false → record { answer = refused 12; out = out; work = w } ≡ written out w (trimmed_of c d out)
too_large c d out w e f = ap (written out w) (sym (twelve c d out e f))

pub judged_well : (c : Composition) (d : Store) (out w : List ℕ) (t : Trim) → all_expanded d ≡ true → all_weighed c d ≡ true
    → t ≡ written out w (refuse_if (lacks_room (store_machine c d) out) 13 (good (trimmed (store_machine c d)))) → t ≡ written out w (trimmed_of c d out)
unfolding trimmed_of
judged_well c d out w t e f g = g ∙ rw (e, f) refl

-- words that are 0 say nothing of any state
pub unmarked : (k x : ℕ) → status_in (replicate k 0) x ≡ 0
unfolding high
unmarked k x = rw (zeros k (2 * x)) refl

-- words put over all of a slice
pub cleared_whole : (w v : List ℕ) (k : ℕ) → length w ≡ k → v ≡ put w 0 (replicate (length w) 0) → v ≡ replicate k 0
cleared_whole w v k e f = f ∙ put_whole w (replicate (length w) 0) (sym (length-replicate (length w) 0)) ∙ ap (λ n. replicate n 0) e

pub cleared_again : (w u v : List ℕ) (k : ℕ) → length w ≡ k → length u ≡ length w → v ≡ put u 0 (replicate (length w) 0) → v ≡ put w 0 (replicate k 0)
cleared_again w u v k e f g =
    g ∙ put_whole u (replicate (length w) 0) (f ∙ sym (length-replicate (length w) 0)) ∙ ap (λ n. replicate n 0) e
    ∙ sym (put_whole w (replicate k 0) (e ∙ sym (length-replicate k 0)))

-- the call
pub short_work : (l : Lent) (s : Session) (m : Memory) (c : Composition) (out work : List ℕ) → entered l s m ≡ good c → length work < 2 * s.used.states
    → record { answer = refused 13; out = out; work = work } ≡ trim_of l s m out work
short_work l s m c out work e h = sym (Order.short_work l s m out work c e h)

pub long_work : (l : Lent) (s : Session) (m : Memory) (c : Composition) (out work work' : List ℕ) (t : Trim) → entered l s m ≡ good c → 2 * s.used.states ≤ length work
    → work' ≡ put work 0 (replicate (2 * s.used.states) 0) → t ≡ written out work' (trimmed_of c (store_of s m) out) → t ≡ trim_of l s m out work
long_work l s m c out work work' t e h f g = g ∙ ap (λ (w : List ℕ). written out w (trimmed_of c (store_of s m) out)) f ∙ sym (past_work l s m out work c e h)

pub stopped : (l : Lent) (s : Session) (m : Memory) (k : ℕ) (out work : List ℕ) → entered l s m ≡ refused k → record { answer = refused k; out = out; work = work } ≡ trim_of l s m out work
stopped l s m k out work e = sym (entered_first l s m out work k e)

-- the part of the work slice that is lent is cleared: so is the whole up to there
pub part_cleared : (w v : List ℕ) (k : ℕ) → v ≡ put (mid_of 0 (k - 0) w) 0 (replicate k 0) → put_mid 0 (k - 0) w v ≡ put w 0 (replicate k 0)
part_cleared w v k e = ap (put_mid 0 (k - 0) w) e ∙ put_part 0 (k - 0) 0 w (replicate k 0) (let z : length (replicate {A = ℕ} k 0) ≡ k = length-replicate k 0 in omega (arith, z))
