-- An opening in both layouts is the same: its heads are cleared, and there is room for state 0 in both or in neither.
use mathlib.Core.Path.{◌≡◌, refl, ◌∙◌, ap, subst}
use mathlib.Core.Bool.{Bool, true, false, not, ◌||◌}
use mathlib.Core.List.{map}
use mathlib.Core.Logic.{◌≢◌}
use Rattle.std.specs.Prelude.{Option, None, Some}
use Prim.Native.Nat.{ℕ, ◌<◌}
use native.Mathlib.Omega.{arith}
use native.Mathlib.Decide.{ℕ_discrete}
use lib.Dec.{eqb}
use lib.ListN.{length-map}
use borrow.Author.Tests.{eqb-false, eq-eqb, ne_eqb, not-false}
use Rattle.lists.proofs.Members.{or_false}
use Rattle.lists.proofs.Put.{length_put}
use Rattle.words.specs.Labels.{Checked, good, refused, and_then}
use Rattle.words.specs.Machines.{state_count}
use Rattle.words.specs.Sides.{Side, non_empty}
use Rattle.words.specs.Steps.{Triple, start_at}
use Rattle.words.specs.Settings.{Settings, Lent, composition_of}
use Rattle.words.proofs.StepRange.{InRange}
use Rattle.calls.specs.Store.{Memory, state_room, add, add_with, state_room_with}
use Rattle.calls.specs.Checks.{Session, side_for, entered}
use Rattle.calls.specs.Calls.{Outcome, settle, cleared, begun, opened, open_of, begun_with, open_with}
use Rattle.calls.proofs.StoreForms.{some_head}
use Rattle.calls.proofs.ExpandKept.{entered_is}
use Rattle.calls.proofs.OpenKept.{cleared_form, open_kept}
use Rattle.calls.proofs.OpenCases.{opened_as, Begins, open_begun, begun_triple}
use Rattle.layouts.specs.Layout.{five}
use Rattle.layouts.specs.SameRecords.{Small}
use Rattle.layouts.proofs.SameStores.{Rooms, rooms, add_two}
use Rattle.layouts.proofs.SameChecks.{Pair, side_two}
use Rattle.layouts.proofs.SameRuns.{Agree}

module _ {K J : ℕ} (s : Settings) (l : Lent) (small : Small l) (got : Session) (o m : Memory) (pair : Pair K J o m got.used) where
  -- the start is a pair of states of the two machines, the second within the old limit
  start_low : (side : Side) (t : Triple) → side_for s l ≡ good side → start_at (composition_of s l side) ≡ Some t → Begins m → t.s2 < 65536
  unfolding add_with cleared
  start_low side t e f b =
      let p = open_begun s l got m side t e f b in
      let k = open_kept s l got m tt (ap (λ (x : Outcome (Unit {0})). x.answer) p) in
      let c = composition_of s l k.side in
      let d = opened_as s side (add (cleared m) t) in
      let i = ((entered_is l d.session d.memory c (subst (λ (x : Outcome (Unit {0})). entered l x.session x.memory ≡ good c) p k.kept)).form.state 0 (omega arith)).triple in
      let j : InRange (state_count l.m1) (state_count l.m2) t = subst (InRange (state_count l.m1) (state_count l.m2)) (begun_triple t m b) i in
      omega (arith, j.s2, small.1.0)

  cleared_two : Pair K J (cleared o).memory (cleared m).memory (cleared m).used
  unfolding cleared
  cleared_two = record {
    same = record {
      heads = ap (map (λ h. 0)) pair.same.heads;
      states = pair.same.states;
      trs = pair.same.trs;
      state = λ n h w. absurd (omega arith);
      word = λ i h w. absurd (omega arith);
    };
    states = pair.states;
    trs = pair.trs;
  }

  abbrev r : Rooms o m
  r = rooms o (record { memory = m; used = got.used }) pair.same

  begun_both : (t : Triple) → t.s2 < 65536 → Begins m → Pair K J (add_with five (cleared o) t).memory (add (cleared m) t).memory (add (cleared m) t).used
  unfolding cleared add_with state_room_with
  begun_both t low b = record {
    same = add_two (cleared o).memory (cleared m) cleared_two.same (cleared_form 0 0 m) t low (omega (arith, b.room, r.old_states_lem, r.new_states_lem)) b.room (rw length-map b.headed);
    states = simp length_put pair.states;
    trs = pair.trs;
  }

  -- no room for state 0 or no head, in both or in neither
  abbrev lacking : Bool
  lacking = eqb (state_room m) 0 || not (non_empty m.heads)

  lacks : eqb (state_room_with five o) 0 || not (non_empty o.heads) ≡ lacking
  lacks = ap (λ h. eqb (state_room_with five o) 0 || not (non_empty h)) pair.same.heads ∙ go (ℕ_discrete (state_room m) 0)
    where
      go : Dec (state_room m ≡ 0) → eqb (state_room_with five o) 0 || not (non_empty m.heads) ≡ lacking
      go (yes e) = rw (eq-eqb (state_room_with five o) 0 (omega (arith, e, r.old_states_lem, r.new_states_lem)), e)
      go (no e) = rw (ne_eqb (state_room_with five o) 0 (λ z. e (omega (arith, z, r.old_states_lem, r.new_states_lem))), ne_eqb (state_room m) 0 e)

  pub open_two : Agree K J (open_with five s l got o) (open_of s l got m)
  unfolding open_with begun_with cleared add_with
  open_two = rw (side_two s l small) (go (side_for s l) refl)
    where
      old : Side → Option Triple → Outcome (Unit {0})
      old side t = settle got o (and_then (begun_with five o t) (λ d. good (opened s side d)))

      new : Side → Option Triple → Outcome (Unit {0})
      new side t = settle got m (and_then (begun m t) (λ d. good (opened s side d)))

      by_room : (side : Side) (t : Triple) (b : Bool) → side_for s l ≡ good side → start_at (composition_of s l side) ≡ Some t → lacking ≡ b → Agree K J (old side (Some t)) (new side (Some t))
      by_room side t true e f x = rw (lacks, x) (record { answer = refl; session = refl; pair = pair })
      by_room side t false e f x =
          let p = or_false (eqb (state_room m) 0) (not (non_empty m.heads)) x in
          let some' : state_room m ≢ 0 = eqb-false _ _ p.0 in
          let b : Begins m = record { room = omega (arith, some'); headed = some_head m.heads (not-false (non_empty m.heads) p.1) } in
          rw (lacks, x) (record { answer = refl; session = refl; pair = begun_both t (start_low side t e f b) b })

      by_start : (side : Side) (t : Option Triple) → side_for s l ≡ good side → start_at (composition_of s l side) ≡ t → Agree K J (old side t) (new side t)
      by_start side None e f = record { answer = refl; session = refl; pair = cleared_two }
      by_start side (Some t) e f = by_room side t lacking e f refl

      go : (x : Checked Side) → side_for s l ≡ x
          → Agree K J (settle got o (and_then x (λ side. and_then (begun_with five o (start_at (composition_of s l side))) (λ d. good (opened s side d)))))
          (settle got m (and_then x (λ side. and_then (begun m (start_at (composition_of s l side))) (λ d. good (opened s side d)))))
      go (refused k) e = record { answer = refl; session = refl; pair = pair }
      go (good side) e = by_start side (start_at (composition_of s l side)) e refl
