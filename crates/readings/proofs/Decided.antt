-- What decides on the expansion of a found state that is not expanded: the first move that is refused, and the records that are lacking before it.
use mathlib.Core.Path.{◌≡◌, refl, sym, ◌∙◌, ap, subst}
use mathlib.Core.List.Memᴰ
use mathlib.Core.List.Memᴰ.{head as here}
use mathlib.Core.List.{List, [], ◌∷◌, ◌++◌, map, append-nil, Memᴰ as In}
use mathlib.Core.Logic.{◌≢◌, ◌⊎◌, inl, inr, ⊎_elim}
use Prim.Native.Nat.{ℕ, ◌+◌, ◌≤◌, ◌<◌}
use native.Mathlib.Omega.{arith}
use native.Mathlib.Decide.{dec_lt}
use lib.ListN.{length}
use Rattle.lists.specs.Lists.{interval}
use Rattle.words.specs.Labels.{Checked, good, refused}
use Rattle.words.specs.Machines.{state_count}
use Rattle.words.specs.Steps.{Composition, Step, steps_at}
use Rattle.words.specs.Settings.{Lent}
use Rattle.words.proofs.StepRange.{InRange}
use Rattle.words.proofs.CheckedLaws.{good≢refused, refused_is}
use Rattle.calls.specs.Store.{Store, state_room, tr_room, expanded_at, Part}
use Rattle.calls.specs.Checks.{store_of}
use Rattle.calls.specs.Calls.{Outcome, store_steps, new_part, store_steps_with}
use Rattle.calls.specs.Sequences.{World}
use Rattle.calls.proofs.ExpandKept.{Sided, sided, Entered, entered_is, steps_range}
use Rattle.calls.proofs.StepsKept.{longer}
use Rattle.calls.proofs.ExpandCases.{expand_stored, expand_stopped, listed_refused}
use Rattle.readings.specs.Worlds.{expand_in, Accepted, UsedState, Expanded, state_at}
use Rattle.readings.specs.Answers.{new_states, RoomFor, Lacks, Decides}
use Rattle.readings.proofs.Grows.{KeptWorld}
use Rattle.readings.proofs.Rooms.{Ready, known_first, stored_first, stored_none}

-- kept moves up to the end, or up to the first that is refused
split : (moves : List (Checked Step)) → (steps : List Step) × ((moves ≡ map good steps) ⊎ ((k : ℕ) × (others : List (Checked Step)) × (moves ≡ map good steps ++ (refused k ∷ others))))
split [] = ([], inl refl)
split (refused k ∷ others) = ([], inr (k, others, refl))
split (good st ∷ moves) =
    let r = split moves in
    let cons : List (Checked Step) → List (Checked Step) = λ x. good st ∷ x in
    (st ∷ r.0, ⊎_elim (λ e. inl (ap cons e)) (λ e. inr (e.0, e.1, ap cons e.2)) r.1)

-- there is room, or a record is lacking
room_or_not : (w : World) (steps : List Step) → RoomFor w steps ⊎ Lacks w steps
room_or_not w steps =
    go (dec_lt (tr_room w.memory) (w.session.used.trs + length steps)) (dec_lt (state_room w.memory) (w.session.used.states + length (new_states w steps)))
  where
    go : Dec (tr_room w.memory < w.session.used.trs + length steps) → Dec (state_room w.memory < w.session.used.states + length (new_states w steps)) → RoomFor w steps ⊎ Lacks w steps
    go (yes a) b = inr (inl a)
    go (no a) (yes b) = inr (inr b)
    go (no a) (no b) = inl (record { trs = omega arith; states = omega arith })

module _ (l : Lent) (c : Composition) (w : World) (kept : KeptWorld l c w) (n : ℕ) (used : UsedState w n) (not_yet : Expanded w n → ⊥) where
  abbrev d : Store
  d = store_of w.session w.memory

  abbrev moves : List (Checked Step)
  moves = steps_at c (state_at w n)

  abbrev last : ℕ
  last = w.session.used.trs + length moves

  checks : Entered l w.session w.memory c
  checks = entered_is l w.session w.memory c kept.sound.enters

  rule : Sided w.session.settings l checks.side
  rule = sided w.session.settings l checks.side checks.rule

  ready : Ready (state_count l.m1) (state_count l.m2) last (map (state_at w) (interval 0 w.session.used.states)) d
  ready = record { form = longer d last checks.form (omega arith); whole = kept.whole; any = omega (arith, used); knows = known_first d checks.form kept.whole }

  module _ (steps : List Step) (others : List (Checked Step)) (e : moves ≡ map good steps ++ others) where
    in_range : (st : Step) → In st steps → InRange (state_count l.m1) (state_count l.m2) st.to
    in_range st i = steps_range l w.session w.memory c kept.sound.enters n used st (subst (λ x. In (good st) x) (sym e) (Memᴰ.append_left others (Memᴰ.map good i)))

    ends : w.session.used.trs + length (map good steps ++ others) ≤ last
    ends = let z : length moves ≡ length (map good steps ++ others) = ap length e in omega (arith, z)

    room_stores : RoomFor w steps → (f : Store) × (store_steps d moves ≡ store_steps f others)
    room_stores r =
        let q = stored_first last steps others _ d ready in_range ends r.trs r.states in
        (q.0, ap (store_steps d) e ∙ q.1)

    lack_refuses : Lacks w steps → store_steps d moves ≡ refused 13
    lack_refuses r = ap (store_steps d) e ∙ stored_none last steps others _ d ready in_range ends r

  bare : expanded_at w.memory.states n ≢ 1
  bare x = not_yet (used, x)

  accepted_by : (f : Store) → store_steps d moves ≡ good f → Accepted (expand_in l w n)
  accepted_by f e = (new_part w.session.used f.used, ap (λ (o : Outcome Part). o.answer) (expand_stored l w.session w.memory c kept.sound.enters n used bare f e))

  refused_by : (k : ℕ) → store_steps d moves ≡ refused k → (expand_in l w n).answer ≡ refused k
  refused_by k e = ap (λ (o : Outcome Part). o.answer) (expand_stopped l w.session w.memory c kept.sound.enters n used bare k e)

  -- where the conditions hold
  all_good : (steps : List Step) → moves ≡ map good steps → RoomFor w steps → Accepted (expand_in l w n)
  unfolding store_steps_with
  all_good steps e r = let q = room_stores steps [] (e ∙ sym (append-nil (map good steps))) r in accepted_by q.0 q.1

  one_refused : (k : ℕ) (steps : List Step) (others : List (Checked Step)) → moves ≡ map good steps ++ (refused k ∷ others) → RoomFor w steps → (expand_in l w n).answer ≡ refused k
  unfolding store_steps_with
  one_refused k steps others e r = let q = room_stores steps (refused k ∷ others) e r in refused_by k q.1

  -- 10 to 12 are not 13
  listed : (k : ℕ) (steps : List Step) (others : List (Checked Step)) → moves ≡ map good steps ++ (refused k ∷ others) → k ≢ 13
  listed k steps others e z =
      let i : In (refused k) moves = subst (λ x. In (refused k) x) (sym e) (Memᴰ.append_right (map good steps) (here refl)) in
      let r =
      listed_refused w.session.settings l checks.side rule.formed1 rule.formed2 rule.rule (state_at w n) k (subst (λ o. In (refused k) (steps_at o (state_at w n))) checks.composition i) in
      omega (arith, r.1, z)

  -- which of them does
  abbrev Good : Type 0
  Good = (steps : List Step) × (moves ≡ map good steps) × RoomFor w steps

  abbrev Stopped : ℕ → Type 0
  Stopped k = (steps : List Step) × (others : List (Checked Step)) × (moves ≡ map good steps ++ (refused k ∷ others)) × RoomFor w steps

  abbrev Full : Type 0
  Full = (steps : List Step) × (others : List (Checked Step)) × (moves ≡ map good steps ++ others) × Lacks w steps

  verdict : Good ⊎ (((k : ℕ) × Stopped k) ⊎ Full)
  verdict = let s = split moves in go s.0 s.1 (room_or_not w s.0)
    where
      go : (steps : List Step) → (moves ≡ map good steps) ⊎ ((k : ℕ) × (others : List (Checked Step)) × (moves ≡ map good steps ++ (refused k ∷ others))) → RoomFor w steps ⊎ Lacks w steps
          → Good ⊎ (((k : ℕ) × Stopped k) ⊎ Full)
      go steps (inl e) (inl r) = inl (steps, e, r)
      go steps (inl e) (inr r) = inr (inr (steps, [], e ∙ sym (append-nil (map good steps)), r))
      go steps (inr e) (inl r) = inr (inl (e.0, (steps, e.1, e.2, r)))
      go steps (inr e) (inr r) = inr (inr (steps, refused e.0 ∷ e.1, e.2, r))

  of_good : Good → Accepted (expand_in l w n)
  of_good g = all_good g.0 g.1 g.2

  of_stopped : (k : ℕ) → Stopped k → (expand_in l w n).answer ≡ refused k
  of_stopped k g = one_refused k g.0 g.1 g.2 g.3

  of_full : Full → (expand_in l w n).answer ≡ refused 13
  of_full g = refused_by 13 (lack_refuses g.0 g.1 g.2 g.3)

  -- an answer is one
  not_both : (k : ℕ) → Accepted (expand_in l w n) → (expand_in l w n).answer ≡ refused k → ⊥
  not_both k a e = good≢refused (sym a.1 ∙ e)

  one_number : (j k : ℕ) → (expand_in l w n).answer ≡ refused j → (expand_in l w n).answer ≡ refused k → j ≡ k
  one_number j k a b = refused_is (sym a ∙ b)

  pub decides : Decides l c w n
  decides = record {
    accepts = (
      λ a. ⊎_elim (λ g. g) (⊎_elim (λ g. absurd (not_both g.0 a (of_stopped g.0 g.1))) (λ g. absurd (not_both 13 a (of_full g)))) verdict,
      of_good,
    );
    full = (
      λ e.
          ⊎_elim (λ g. absurd (not_both 13 (of_good g) e))
          (⊎_elim (λ g. absurd (listed g.0 g.1.0 g.1.1 g.1.2 (one_number g.0 13 (of_stopped g.0 g.1) e))) (λ g. g))
          verdict,
      of_full,
    );
    stops = λ k other. (
      λ e.
          ⊎_elim (λ g. absurd (not_both k (of_good g) e))
          (⊎_elim (λ g. subst Stopped (one_number g.0 k (of_stopped g.0 g.1) e) g.1) (λ g. absurd (other (one_number k 13 e (of_full g)))))
          verdict,
      of_stopped k,
    );
  }
