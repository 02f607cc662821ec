-- After an accepted opening and an accepted run the lists of all states together have no more records than are used: each state that the run expanded got the new records alone.
use mathlib.Core.Path.{◌≡◌, refl, sym, ◌∙◌, ap, subst}
use mathlib.Core.Bool.{Bool, true, false}
use mathlib.Core.List.{[], ◌∷◌}
use Prim.Native.Nat.{ℕ, zero, suc, ◌+◌, ◌-◌, ◌*◌, ◌≤◌, ◌<◌}
use native.Mathlib.Omega.{arith}
use native.Mathlib.Decide.{dec_lt}
use lib.Dec.{leb}
use borrow.Author.Tests.{leb-true, leb-false}
use Rattle.lists.proofs.Put.{length_put}
use Rattle.lists.proofs.Totals.{total, total_end, total_same}
use Rattle.words.specs.Labels.{Checked, good, refused}
use Rattle.words.specs.Steps.{Composition, steps_at}
use Rattle.words.specs.Settings.{Settings, Lent}
use Rattle.words.proofs.CheckedLaws.{good≢refused}
use Rattle.calls.specs.Store.{Memory, Store, state_size, state_room, tr_room, state_field, triple_at, expanded_place, expanded_at, Part, part_at, add, add_with, expanded_with, mark_with, state_room_with}
use Rattle.calls.specs.Checks.{Session, store_of, entered}
use Rattle.calls.specs.Calls.{Outcome, cleared, store_steps, new_part, expand_of, onward, run_by, run_from, open_of, run_of, run_from_with, run_with}
use Rattle.calls.proofs.RecordLaws.{room_same}
use Rattle.calls.proofs.FindLaws.{Whole}
use Rattle.calls.proofs.ExpandKept.{expand_kept, entered_is}
use Rattle.calls.proofs.OpenKept.{open_kept}
use Rattle.calls.proofs.ExpandCases.{stored, by_expand}
use Rattle.calls.proofs.OpenCases.{by_open, begun_field, begun_whole}
use Rattle.calls.proofs.ExpandMade.{marked_by, ExpandMade, expand_made_lem}

-- the records in the lists of the states below n
abbrev pub records_below : Store → ℕ → ℕ
records_below d n = total (λ i. (part_at d i).count) 0 n

-- no more used states than there is room for, nor records in all their lists
pub record FewRecords (s : Session) (m : Memory) : Type 0 where
  pub states : s.used.states ≤ state_room m
  pub trs : records_below (store_of s m) s.used.states ≤ tr_room m

-- a run that came to state n: those below it have no more records than are used, the others are not expanded
record CameTo (l : Lent) (c : Composition) (n : ℕ) (s : Session) (m : Memory) : Type 0 where
  enters : entered l s m ≡ good c
  whole : Whole (store_of s m)
  reached : n ≤ s.used.states
  few : records_below (store_of s m) n ≤ s.used.trs
  bare : (i : ℕ) → n ≤ i → i < s.used.states → expanded_at m.states i ≡ 0

module _ (l : Lent) (c : Composition) where
  -- state n was not expanded: its list is the part of the new records, which no other list has
  stored_on : (n : ℕ) (s : Session) (m : Memory) → CameTo l c n s m → n < s.used.states → (e : Store) → store_steps (store_of s m) (steps_at c (triple_at m.states n)) ≡ good e
      → entered l (stored s n e).session (stored s n e).memory ≡ good c → CameTo l c (suc n) (stored s n e).session (stored s n e).memory × (state_room (stored s n e).memory ≡ state_room m)
  unfolding mark_with expanded_with state_room_with
  stored_on n s m h found e y k =
      let w = expand_made_lem l c s m h.enters h.whole n found e y in
      let same : records_below (marked_by s n e) n ≡ records_below (store_of s m) n = total_same (λ i. (part_at (marked_by s n e) i).count) (λ i. (part_at (store_of s m) i).count) 0 n (λ i j. ap (λ (q : Part). q.count) (w.part_other i (omega (arith, found)) (λ z. omega (arith, z)))) in
      let one : records_below (marked_by s n e) (suc n) ≡ records_below (marked_by s n e) n + (part_at (marked_by s n e) n).count = total_end (λ i. (part_at (marked_by s n e) i).count) n in
      let it : (part_at (marked_by s n e) n).count ≡ e.used.trs - s.used.trs = ap (λ (q : Part). q.count) w.part_it in (
        record {
          enters = k;
          whole = w.whole;
          reached = omega (arith, found, w.stays.states);
          few = omega (arith, same, one, it, w.stays.trs, h.few);
          bare = λ i a b. unexpanded w i (omega arith) b (dec_lt i s.used.states);
        },
        room_same state_size m.states (marked_by s n e).memory.states (length_put e.memory.states (state_size * n + expanded_place) (1 ∷ (new_part s.used e.used).first ∷ []) ∙ w.stays.states_length),
      )
    where
      unexpanded : ExpandMade l c s m n e → (i : ℕ) → n < i → i < e.used.states → Dec (i < s.used.states) → expanded_at (marked_by s n e).memory.states i ≡ 0
      unexpanded w i a b (yes x) = w.field_other i expanded_place x (λ z. omega (arith, z)) (omega arith) ∙ h.bare i (omega arith) x
      unexpanded w i a b (no x) = w.other i expanded_place (λ z. omega (arith, z)) (omega arith) ∙ w.made.unexpanded i (omega arith) b

  -- one accepted expansion further
  further : (n : ℕ) (s : Session) (m : Memory) → CameTo l c n s m → n < s.used.states → (p : Part) → (expand_of l s m n).answer ≡ good p
      → CameTo l c (suc n) (expand_of l s m n).session (expand_of l s m n).memory × (state_room (expand_of l s m n).memory ≡ state_room m)
  further n s m h found p g =
      by_expand l s m c h.enters n (λ o. o.answer ≡ good p → entered l o.session o.memory ≡ good c → CameTo l c (suc n) o.session o.memory × (state_room o.memory ≡ state_room m))
      (λ i. absurd (omega (arith, i, found))) (λ i x. let b = h.bare n (omega arith) found in absurd (omega (arith, b, x))) (λ i x k e z. absurd (good≢refused (sym z)))
      (λ i x e y z k. stored_on n s m h found e y k) g (expand_kept l s m n c p h.enters g)

  -- the end of a run, where no state is left
  end_few : (n : ℕ) (s : Session) (m : Memory) → CameTo l c n s m → s.used.states ≤ n → FewRecords s m
  end_few n s m h all =
      let f = (entered_is l s m c h.enters).form in
      let e : n ≡ s.used.states = omega (arith, all, h.reached) in
      let b = subst (λ k. records_below (store_of s m) k ≤ s.used.trs) e h.few in
      record { states = f.states_fit; trs = omega (arith, b, f.trs_fit) }

  abbrev Few : ℕ → ℕ → Session → Memory → Type 0
  Few k n s m = CameTo l c n s m → state_room m ≤ k + n → (run_from l k n s m).answer ≡ good tt → FewRecords (run_from l k n s m).session (run_from l k n s m).memory

  from_few : (k n : ℕ) (s : Session) (m : Memory) → Few k n s m
  unfolding run_from_with
  from_few zero n s m h room = λ g. end_few n s m h (omega (arith, room, (entered_is l s m c h.enters).form.states_fit))
  from_few (suc k) n s m h room = go (leb s.used.states n) refl (λ s' m'. from_few k (suc n) s' m')
    where
      o : Outcome Part
      o = expand_of l s m n

      on : (a : Checked Part) → o.answer ≡ a → n < s.used.states → ((s' : Session) (m' : Memory) → Few k (suc n) s' m')
          → (onward a o.session o.memory (run_from l k (suc n))).answer ≡ good tt → FewRecords (onward a o.session o.memory (run_from l k (suc n))).session (onward a o.session o.memory (run_from l k (suc n))).memory
      on (refused j) e i rec g = absurd (good≢refused (sym g))
      on (good p) e i rec g = let r = further n s m h i p e in rec o.session o.memory r.0 (omega (arith, r.1, room)) g

      go : (b : Bool) → leb s.used.states n ≡ b → ((s' : Session) (m' : Memory) → Few k (suc n) s' m')
          → (run_by b s m o (run_from l k (suc n))).answer ≡ good tt → FewRecords (run_by b s m o (run_from l k (suc n))).session (run_by b s m o (run_from l k (suc n))).memory
      go true e rec g = end_few n s m h (leb-true _ _ e)
      go false e rec g = on o.answer refl (leb-false _ _ e) rec g

  run_few : (s : Session) (m : Memory) → CameTo l c 0 s m → (run_of l s m).answer ≡ good tt → FewRecords (run_of l s m).session (run_of l s m).memory
  unfolding run_with
  run_few s m h = rw h.enters (from_few (state_room m) 0 s m h (omega arith))

-- an opening leaves no expanded state, and each is found
open_bare : (s : Settings) (l : Lent) (got : Session) (m : Memory) → (open_of s l got m).answer ≡ good tt
    → Whole (store_of (open_of s l got m).session (open_of s l got m).memory) × ((i : ℕ) → i < (open_of s l got m).session.used.states → expanded_at (open_of s l got m).memory.states i ≡ 0)
unfolding cleared add_with expanded_with
open_bare s l got m =
    by_open s l got m (λ (o : Outcome (Unit {0})). o.answer ≡ good tt → Whole (store_of o.session o.memory) × ((i : ℕ) → i < o.session.used.states → expanded_at o.memory.states i ≡ 0))
    (λ k r z. absurd (good≢refused (sym z)))
    (λ x r h z. (λ n i. absurd (omega arith), λ n i. absurd (omega arith)))
    (λ x t r h z. absurd (good≢refused (sym z)))
    (λ x t r h b z. (begun_whole t m b, λ n i. let e : 0 ≡ n = omega arith in subst (λ k. state_field (add (cleared m) t).memory.states k expanded_place ≡ 0) e (begun_field t m b expanded_place (omega arith))))

pub few_records : (s : Settings) (l : Lent) (got : Session) (m : Memory) → (open_of s l got m).answer ≡ good tt
    → let o = open_of s l got m in let r = run_of l o.session o.memory in r.answer ≡ good tt → FewRecords r.session r.memory
unfolding total
few_records s l got m g =
    let o = open_kept s l got m tt g in
    let b = open_bare s l got m g in
    run_few l _ (open_of s l got m).session (open_of s l got m).memory (record { enters = o.kept; whole = b.0; reached = omega arith; few = omega arith; bare = λ i h. b.1 i })
