-- Trimming after calls as in demand 3, whole.
use mathlib.Core.Path.{◌≡◌, sym, ◌∙◌, ap}
use mathlib.Core.Bool.{true}
use mathlib.Core.List.{List, map}
use mathlib.Core.Logic.{◌⊎◌, inl, inr, ⊎_elim}
use Prim.Native.Nat.{ℕ, ◌+◌, ◌≤◌, ◌<◌}
use native.Mathlib.Omega.{arith}
use lib.Dec.{eqb, ltb}
use lib.ListN.{length, take, drop}
use lib.Seq.{sets-eq, take-append_seam}
use borrow.Author.Tests.{eqb-true, eq-eqb, ltb-true, le-ltb}
use Rattle.lists.specs.Lists.{interval, put}
use Rattle.lists.proofs.Members.{or_cases, every_in, every_of, in_interval, of_interval}
use Rattle.papers.specs.Machine.{Machine}
use Rattle.papers.specs.Paths.{word}
use Rattle.words.specs.Labels.{good, refused}
use Rattle.words.specs.Machines.{limit, state_count, well_formed}
use Rattle.words.specs.Sides.{Side}
use Rattle.words.specs.Steps.{Composition, final_at}
use Rattle.words.specs.Settings.{Settings, Lent, composition_of}
use Rattle.words.proofs.CheckedLaws.{good_is}
use Rattle.calls.specs.Store.{expanded_at}
use Rattle.calls.specs.Checks.{side_for}
use Rattle.calls.specs.Sequences.{World}
use Rattle.machine_words.specs.MachineWords.{trs_in}
use Rattle.trims.specs.Trims.{rows_of, trimmed, work_words, all_expanded, is_good, all_weighed, lacks_room, trimmed_of, trim_of}
use Rattle.readings.specs.Listed.{pick_of}
use Rattle.readings.specs.Worlds.{UsedState, state_at, Sound}
use Rattle.readings.specs.StorePaths.{AllRead, Finished, AcceptingRecords, Accepting, weight_from, Paths}
use Rattle.readings.proofs.Correspondences.{turned, chained, exchanged}
use Rattle.readings.proofs.PathEnds.{final_answer}
use Rattle.readings.proofs.StorePaths.{store_paths}
use Rattle.readings.proofs.Demand2.{after_calls}
use Rattle.trim_readings.specs.TrimPaths.{old_path}
use Rattle.trim_readings.specs.TrimClaims.{new_machine, TrimmedRight, store_in, held_in, trim_in, AllExpanded, PairsTrimmed, TrimAfterCalls, ClaimAfterCalls}
use Rattle.trim_readings.proofs.Accepted.{Accepted, accepted, lacking}
use Rattle.trim_readings.proofs.Right.{right}
use Rattle.trim_readings.proofs.HeldPaths.{held_form, held_paths, held_weights}
use Rattle.trim_readings.proofs.Counted.{used_within, trs_few, formed}

-- what is written at the start stands there
take_put : (out xs : List ℕ) → length xs ≤ length out → take (length xs) (put out 0 xs) ≡ xs
unfolding put
take_put out xs h = ap (take (length xs)) (sets-eq xs out 0 (omega arith)) ∙ take-append_seam xs (drop (0 + length xs) out)

-- the test of expanded states
all_expanded_lem : (w : World) → all_expanded (store_in w) ≡ true → AllExpanded w
unfolding all_expanded
all_expanded_lem w e n u = (u, eqb-true _ _ (every_in (λ k. eqb (expanded_at w.memory.states k) 1) e (in_interval 0 w.session.used.states n (omega arith) (omega (arith, u)))))

is_expanded : (w : World) → AllExpanded w → all_expanded (store_in w) ≡ true
unfolding all_expanded
is_expanded w a = every_of (λ k. eqb (expanded_at w.memory.states k) 1) (interval 0 w.session.used.states)
    (λ n i. eq-eqb _ _ (a n (omega (arith, (of_interval 0 w.session.used.states i).1))).1)

module _ (s : Settings) (l : Lent) (side : Side) (rule : side_for s l ≡ good side) (w : World) (S : Sound l (composition_of s l side) w) where
  abbrev c : Composition
  c = composition_of s l side

  abbrev M : Machine
  M = held_in c w

  is_right : TrimmedRight c (store_in w)
  is_right = right c (store_in w) (state_count l.m1) (state_count l.m2) (held_form l c w S.enters)

  -- an accepted call writes the trimmed machine, which is well formed
  pub trim_formed : (out work : List ℕ) (k : ℕ) → (trim_in l w out work).answer ≡ good k → (take k (trim_in l w out work).out ≡ trimmed M) × (well_formed (trimmed M) ≡ true)
  trim_formed out work k e = go (accepted l w.session w.memory out work k e)
    where
      go : Accepted l w.session w.memory out work k → (take k (trim_in l w out work).out ≡ trimmed M) × (well_formed (trimmed M) ≡ true)
      go a =
          let T = trimmed (held_in a.composition w) in (
            ap (take k) a.writes
                ∙ ap (λ (n : ℕ). take n (put out 0 T)) a.count
                ∙ take_put out T a.past.fits
                ∙ ap (λ (o : Composition). trimmed (held_in o w)) (good_is (sym a.enters ∙ S.enters)),
            formed s l side rule w S (all_expanded_lem w a.past.expanded),
          )

  -- 13 says that a slice is short
  pub trim_lacks : (out work : List ℕ) → (trim_in l w out work).answer ≡ refused 13 → (length work < work_words (store_in w)) ⊎ (length out < length (trimmed M))
  unfolding lacks_room
  trim_lacks out work e = ⊎_elim
      inl
      (λ z. ⊎_elim
      (λ h. let f = trs_few s l side rule w S (all_expanded_lem w z.0) in
      let u = (used_within s l side rule w S).1 in
      absurd (omega (arith, f, u, ltb-true limit (trs_in (rows_of M)) h)))
      (λ h. inr (ltb-true _ _ h))
      (or_cases (ltb limit (trs_in (rows_of M))) (ltb (length out) (length (trimmed M))) z.1))
      (lacking l w.session w.memory out work c S.enters e)

  -- no final weight is refused
  is_weighed : AllRead l w → all_weighed c (store_in w) ≡ true
  unfolding all_weighed
  is_weighed R = every_of (λ n. is_good (final_at c (state_at w n))) (interval 0 w.session.used.states)
      (λ n i. let u : UsedState w n = omega (arith, (of_interval 0 w.session.used.states i).1) in
      let x = R.weighed n u in
      ap is_good (sym (final_answer l c w S.enters n u) ∙ x.1))

  -- where all is read and both slices are long enough, the call is accepted
  pub trim_room : AllRead l w → (out work : List ℕ) → work_words (store_in w) ≤ length work → length (trimmed M) ≤ length out → (trim_in l w out work).answer ≡ good (length (trimmed M))
  unfolding trim_of trimmed_of lacks_room
  trim_room R out work h k =
      let f = trs_few s l side rule w S R.expanded in
      let u = (used_within s l side rule w S).1 in
      rw (S.enters, le-ltb (length work) (work_words (store_in w)) h, is_expanded w R.expanded, is_weighed R, le-ltb limit (trs_in (rows_of M)) (omega (arith, f, u)), le-ltb (length out) (length (trimmed M)) k)

  -- the new paths are the agreeing pairs
  pub trim_pairs : Finished s l c w → PairsTrimmed c (pick_of s.filter) w
  trim_pairs F = record {
    paths = chained (turned is_right.paths) (turned (exchanged (held_paths l c w S.enters F.read.expanded) (turned P.paths)));
    weights = λ t e q h.
        ap (weight_from c (new_machine M) 0) (sym (is_right.paths.to_from q h))
        ∙ sym (is_right.weights (old_path M q) (is_right.paths.comes q h))
        ∙ sym (held_weights l c w S.enters (old_path M q) (old q h))
        ∙ P.weights t e (old_path M q) (old q h);
    inputs = λ q h.
        ap word (ap (map (new_machine M).input) (sym (is_right.paths.to_from q h)) ∙ sym (is_right.inputs (old_path M q) (is_right.paths.comes q h)))
        ∙ P.inputs (old_path M q) (old q h);
    outputs = λ q h.
        ap word (ap (map (new_machine M).output) (sym (is_right.paths.to_from q h)) ∙ sym (is_right.outputs (old_path M q) (is_right.paths.comes q h)))
        ∙ P.outputs (old_path M q) (old q h);
  }
    where
      P : Paths l c (pick_of s.filter) w
      P = store_paths s l side rule w S F

      old : (q : List ℕ) → Accepting c (new_machine M) q → AcceptingRecords l w (old_path M q)
      old q h = (held_paths l c w S.enters F.read.expanded (old_path M q)).1 (is_right.paths.comes q h)

  -- all of it
  pub trims : TrimAfterCalls s l c w
  trims = record {
    right = is_right;
    same = held_paths l c w S.enters;
    weighs = held_weights l c w S.enters;
    writes = trim_formed;
    count = λ a. (trs_few s l side rule w S a, (used_within s l side rule w S).1);
    thirteen = trim_lacks;
    accepts = trim_room;
    pairs = trim_pairs;
  }

-- after every list of calls that demand 3 speaks of
pub trim_claim : ClaimAfterCalls
trim_claim = after_calls TrimAfterCalls (λ s l side rule w k. trims s l side rule w k.sound)
