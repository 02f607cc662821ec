-- 3b: a run in two memories, the opening in a larger one whatever it held, and the answers of a whole list up to the smaller one's first 13.
use mathlib.Core.Path.{◌≡◌, refl, sym, ◌∙◌, ap, ap₂, subst}
use mathlib.Core.Bool.{Bool, true, false}
use mathlib.Core.List.{List, [], ◌∷◌}
use mathlib.Core.Logic.{◌⊎◌, inl, inr, ⊎_elim}
use Rattle.std.specs.Prelude.{Some}
use Prim.Native.Nat.{ℕ, zero, suc, ◌+◌, ◌≤◌, ◌<◌}
use native.Mathlib.Omega.{arith}
use lib.Dec.{leb}
use borrow.Author.Tests.{le-leb}
use Rattle.words.specs.Labels.{Checked, good, refused}
use Rattle.words.specs.Sides.{Side}
use Rattle.words.specs.Steps.{Composition, Triple, start_at}
use Rattle.words.specs.Settings.{Settings, Lent, composition_of}
use Rattle.words.proofs.CheckedLaws.{good≢refused}
use Rattle.calls.specs.Store.{Memory, state_size, tr_size, state_room, state_field, add, Part, add_with, state_room_with, tr_room_with}
use Rattle.calls.specs.Checks.{Session, store_of, side_for}
use Rattle.calls.specs.Calls.{Outcome, cleared, open_of, expand_of, final_weight_of, onward, run_ended, run_by, run_from, run_of, run_from_with, run_with}
use Rattle.calls.specs.Sequences.{World, Call, opening, expand, final_weight, records, run, Said, part, weight, accepted, answered, handed, said_of, turn_of, call_of, replies, call_with, replies_with}
use Rattle.calls.proofs.RecordLaws.{next_place, room_more}
use Rattle.calls.proofs.StepsStay.{add_stays}
use Rattle.calls.proofs.ExpandKept.{entered_is}
use Rattle.calls.proofs.OpenCases.{opened_as, Begins, by_open, open_empty, open_begun, begun_field}
use Rattle.calls.proofs.TwoStores.{Alike, Roomier, roomier_stays}
use Rattle.readings.specs.Worlds.{world_of, OpeningsRefused}
use Rattle.readings.specs.Larger.{NoShorter, NoRoom, SameUntil, Larger}
use Rattle.readings.proofs.Grows.{room_grows}
use Rattle.readings.proofs.CallsKept.{expand_onto}
use Rattle.readings.proofs.CallLists.{one_call}
use Rattle.readings.proofs.Openings.{open_keeps}
use Rattle.readings.proofs.TwoWorlds.{Same, Agrees, expand_two, final_two, records_two, open_two}

module _ (l : Lent) (c : Composition) where
  -- none is left in both
  both_end : (w v : World) → Same l c w v → Agrees l c (run_ended w.session w.memory) (run_ended v.session v.memory)
  both_end w v h = inr (refl, h)

  abbrev RunsTwo : ℕ → ℕ → ℕ → World → World → Type 0
  RunsTwo k j n w v = Same l c w v → state_room w.memory ≤ k + n → state_room v.memory ≤ j + n → Agrees l c (run_from l k n w.session w.memory) (run_from l j n v.session v.memory)

  module _ (w v : World) (h : Same l c w v) where
    fit1 : w.session.used.states ≤ state_room w.memory
    fit1 = (entered_is l w.session w.memory c h.kept1.sound.enters).form.states_fit

    fit2 : v.session.used.states ≤ state_room v.memory
    fit2 = (entered_is l v.session v.memory c h.kept2.sound.enters).form.states_fit

    -- one expansion of both runs
    onward_two : (k j n : ℕ) → state_room w.memory ≤ suc k + n → state_room v.memory ≤ suc j + n → ((x y : World) → RunsTwo k j (suc n) x y)
        → Agrees l c (expand_of l w.session w.memory n) (expand_of l v.session v.memory n)
        → Agrees l c (onward (expand_of l w.session w.memory n).answer (expand_of l w.session w.memory n).session (expand_of l w.session w.memory n).memory (run_from l k (suc n)))
        (onward (expand_of l v.session v.memory n).answer (expand_of l v.session v.memory n).session (expand_of l v.session v.memory n).memory (run_from l j (suc n)))
    onward_two k j n a b rec (inl x) = inl (rw x)
    onward_two k j n a b rec (inr x) = rw x.0 (go o.answer)
      where
        o : Outcome Part
        o = expand_of l w.session w.memory n

        p : Outcome Part
        p = expand_of l v.session v.memory n

        go : (q : Checked Part) → Agrees l c (onward q o.session o.memory (run_from l k (suc n))) (onward q p.session p.memory (run_from l j (suc n)))
        go (refused i) = inr (refl, x.1)
        go (good r) =
            let y = room_grows w (world_of o) (expand_onto l c w h.kept1 n).grows in
            let z = room_grows v (world_of p) (expand_onto l c v h.kept2 n).grows in
            rec (world_of o) (world_of p) x.1 (omega (arith, y, a)) (omega (arith, z, b))

  run_steps : (k j n : ℕ) (w v : World) → RunsTwo k j n w v
  unfolding run_from_with
  run_steps zero zero n w v h a b = both_end w v h
  run_steps zero (suc j) n w v h a b = rw (le-leb v.session.used.states n (omega (arith, fit1 w v h, h.alike.states, a))) (both_end w v h)
  run_steps (suc k) zero n w v h a b = rw (le-leb w.session.used.states n (omega (arith, fit2 w v h, h.alike.states, b))) (both_end w v h)
  run_steps (suc k) (suc j) n w v h a b = go (leb w.session.used.states n) refl (λ x y. run_steps k j (suc n) x y)
    where
      go : (t : Bool) → leb w.session.used.states n ≡ t → ((x y : World) → RunsTwo k j (suc n) x y)
          → Agrees l c (run_by (leb w.session.used.states n) w.session w.memory (expand_of l w.session w.memory n) (run_from l k (suc n)))
          (run_by (leb v.session.used.states n) v.session v.memory (expand_of l v.session v.memory n) (run_from l j (suc n)))
      go t e rec = let e2 : leb v.session.used.states n ≡ t = ap (λ u. leb u n) h.alike.states ∙ e in rw (e, e2) (on t)
        where
          on : (t : Bool) → Agrees l c (run_by t w.session w.memory (expand_of l w.session w.memory n) (run_from l k (suc n))) (run_by t v.session v.memory (expand_of l v.session v.memory n) (run_from l j (suc n)))
          on true = both_end w v h
          on false = onward_two w v h k j n a b rec (expand_two l c w v h n)

  pub run_two : (w v : World) → Same l c w v → Agrees l c (run_of l w.session w.memory) (run_of l v.session v.memory)
  unfolding run_with
  run_two w v h = rw (h.kept1.sound.enters, h.kept2.sound.enters) (run_steps (state_room w.memory) (state_room v.memory) 0 w v h (omega arith) (omega arith))

  -- the reply and the worlds of one call
  abbrev Call2 : World → World → Call → Type 0
  Call2 w v x = NoRoom (call_of l w x).reply ⊎ (((call_of l w x).reply ≡ (call_of l v x).reply) × Same l c (call_of l w x).world (call_of l v x).world)

  replied : {A : Type 0} (say : A → Said) (o p : Outcome A) → Agrees l c o p → NoRoom (turn_of say o).reply ⊎ (((turn_of say o).reply ≡ (turn_of say p).reply) × Same l c (turn_of say o).world (turn_of say p).world)
  replied say o p = ⊎_elim (λ x. inl (o.session, ap (λ a. answered (said_of say a) o.session) x)) (λ x. inr (ap₂ (λ a s. answered (said_of say a) s) (sym x.0) (sym x.1.session), x.1))

  one_reply : (w v : World) (x : Call) (cs : List Call) → Same l c w v → OpeningsRefused l w (x ∷ cs) → Call2 w v x
  unfolding call_with
  one_reply w v (opening s k) cs h r = replied (λ u. accepted) (open_of s k w.session w.memory) (open_of s k v.session v.memory) (open_two l c w v h s k r.0)
  one_reply w v (expand n) cs h r = replied part (expand_of l w.session w.memory n) (expand_of l v.session v.memory n) (expand_two l c w v h n)
  one_reply w v (final_weight n) cs h r = replied weight (final_weight_of l w.session w.memory n) (final_weight_of l v.session v.memory n) (final_two l c w v h n)
  one_reply w v (records n) cs h r = inr (ap handed (sym (records_two l c w v h n)), h)
  one_reply w v run cs h r = replied (λ u. accepted) (run_of l w.session w.memory) (run_of l v.session v.memory) (run_two w v h)

  -- all replies, up to the first 13
  pub replies_two : (cs : List Call) (w v : World) → Same l c w v → OpeningsRefused l w cs → SameUntil (replies l w cs) (replies l v cs)
  unfolding replies_with
  replies_two [] w v h r = tt
  replies_two (x ∷ cs) w v h r =
      ⊎_elim inl (λ y. inr (y.0, replies_two cs (call_of l w x).world (call_of l v x).world y.1 (one_call l c w x cs h.kept1 r).1)) (one_reply w v x cs h r)

-- what the opening leaves in both memories
pub record Opens2 (o p : Outcome (Unit {0})) : Type 0 where
  pub answer : p.answer ≡ good tt
  pub session : p.session ≡ o.session
  pub alike : Alike (store_of o.session o.memory) (store_of p.session p.memory)
  pub room : Roomier (store_of o.session o.memory) (store_of p.session p.memory)

module _ (s : Settings) (l : Lent) (got got2 : Session) (m big : Memory) (more : NoShorter m big) where
  -- no state is found
  both_empty : (side : Side) → Opens2 (opened_as s side (cleared m)) (opened_as s side (cleared big))
  unfolding cleared state_room_with tr_room_with
  both_empty side = record {
    answer = refl;
    session = refl;
    alike = record { states = refl; trs = refl; state = λ n k i j. absurd (omega arith); word = λ i j. absurd (omega arith) };
    room = record { states = room_more state_size m.states big.states more.states; trs = room_more tr_size m.trs big.trs more.trs };
  }

  begins2 : Begins m → Begins big
  unfolding state_room_with
  begins2 b = let r = room_more state_size m.states big.states more.states in record { room = omega (arith, b.room, r); headed = omega (arith, b.headed, more.heads) }

  -- state 0 is the start in both
  both_begun : (side : Side) (t : Triple) → side_for s l ≡ good side → start_at (composition_of s l side) ≡ Some t → Begins m → Opens2 (opened_as s side (add (cleared m) t)) (opened_as s side (add (cleared big) t))
  unfolding cleared add_with
  both_begun side t e h b = record {
    answer = refl;
    session = refl;
    alike = record { states = refl; trs = refl; state = same; word = λ i j. absurd (omega arith) };
    room = roomier_stays (cleared m) (cleared big) (add (cleared m) t) (add (cleared big) t) (add_stays (cleared m) t) (add_stays (cleared big) t) (both_empty side).room;
  }
    where
      same : (n k : ℕ) → n < (add (cleared m) t).used.states → k < next_place → state_field (add (cleared big) t).memory.states n k ≡ state_field (add (cleared m) t).memory.states n k
      same n k i j =
          let z : n ≡ 0 = omega (arith, i) in
          subst (λ x. state_field (add (cleared big) t).memory.states x k ≡ state_field (add (cleared m) t).memory.states x k) (sym z)
          (begun_field t big (begins2 b) k j ∙ sym (begun_field t m b k j))

  open_both : (open_of s l got m).answer ≡ good tt → Opens2 (open_of s l got m) (open_of s l got2 big)
  open_both =
      by_open s l got m (λ (o : Outcome (Unit {0})). o.answer ≡ good tt → Opens2 o (open_of s l got2 big))
      (λ k e z. absurd (good≢refused (sym z)))
      (λ side e h z. subst (Opens2 (opened_as s side (cleared m))) (sym (open_empty s l got2 big side e h)) (both_empty side))
      (λ side t e h z. absurd (good≢refused (sym z)))
      (λ side t e h b z. subst (Opens2 (opened_as s side (add (cleared m) t))) (sym (open_begun s l got2 big side t e h (begins2 b))) (both_begun side t e h b))

  pub larger : (open_of s l got m).answer ≡ good tt → (side : Side) → side_for s l ≡ good side → (cs : List Call) → OpeningsRefused l (world_of (open_of s l got m)) cs
      → Larger s l (world_of (open_of s l got m)) cs got2 big
  larger e side rule cs r =
      let q = open_both e in
      let c = composition_of s l side in
      record {
        accepted = q.answer;
        session = q.session;
        same = replies_two l c cs (world_of (open_of s l got m)) (world_of (open_of s l got2 big))
            (record { session = q.session; kept1 = open_keeps s l got m e side rule; kept2 = open_keeps s l got2 big q.answer side rule; alike = q.alike; room = q.room })
            r;
      }
