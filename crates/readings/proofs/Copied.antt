-- A copy into longer slices leads from a world of demand 3 to such a world: every such world is left by accepted expansions after an opening, and each of them does in the copy what
-- it did. Every call then answers as it would have, up to the first lack of room, and what was given before is given again.
use mathlib.Core.Path.{◌≡◌, refl, sym, ◌∙◌, ap, subst}
use mathlib.Core.List.{List, [], ◌∷◌, map}
use Prim.Native.Nat.{ℕ}
use Rattle.lists.specs.Lists.{interval}
use Rattle.words.specs.Labels.{Checked, good, refused}
use Rattle.words.specs.Sides.{Side}
use Rattle.words.specs.Steps.{Composition}
use Rattle.words.specs.Settings.{Settings, Lent, composition_of}
use Rattle.calls.specs.Store.{Part}
use Rattle.calls.specs.Checks.{store_of, side_for}
use Rattle.calls.specs.Calls.{Outcome, open_of}
use Rattle.calls.specs.Sequences.{World, Call, opening, expand, final_weight, records, run, call_of, replies, after, after_with, call_with}
use Rattle.calls.specs.Owned.{lengthened}
use Rattle.calls.proofs.ExpandKept.{entered_is}
use Rattle.calls.proofs.Lengthened.{copy_left, copy_roomier, copy_alike, copy_expand, copy_open}
use Rattle.readings.specs.Worlds.{world_of, expand_in, OpeningsRefused}
use Rattle.readings.specs.Again.{Again}
use Rattle.readings.specs.Larger.{SameUntil}
use Rattle.readings.specs.Owned.{InScope, grown_by}
use Rattle.readings.proofs.Grows.{KeptWorld}
use Rattle.readings.proofs.CallsKept.{expand_onto, expand_stays, final_stays}
use Rattle.readings.proofs.Pieces.{run_onto}
use Rattle.readings.proofs.Openings.{open_keeps}
use Rattle.readings.proofs.CallLists.{open_stays, one_call}
use Rattle.readings.proofs.InScope.{scope_side, scope_calls, scope_kept}
use Rattle.readings.proofs.TwoWorlds.{Same, again_two}
use Rattle.readings.proofs.LargerMemory.{replies_two}

-- what every accepted expansion keeps, every list of calls keeps
module _ (l : Lent) (c : Composition) (P : World → Type 0)
    (accepted : (w : World) → KeptWorld l c w → (n : ℕ) (p : Part) → (expand_in l w n).answer ≡ good p → P w → P (world_of (expand_in l w n))) where
  -- a refused expansion changes nothing
  expand_keeps : (w : World) → KeptWorld l c w → (n : ℕ) → P w → P (world_of (expand_in l w n))
  expand_keeps w k n x = go (expand_in l w n).answer refl
    where
      go : (a : Checked Part) → (expand_in l w n).answer ≡ a → P (world_of (expand_in l w n))
      go (good p) e = accepted w k n p e x
      go (refused j) e = subst P (sym (expand_stays l c w k n j e)) x

  -- expansions, accepted or not
  expands_keep : (ns : List ℕ) (w : World) → KeptWorld l c w → P w → P (after l w (map expand ns))
  unfolding after_with call_with
  expands_keep [] w k x = x
  expands_keep (n ∷ ns) w k x = expands_keep ns (world_of (expand_in l w n)) (expand_onto l c w k n).kept (expand_keeps w k n x)

  -- a run is a list of expansions; no other call of a list changes anything
  call_keeps : (w : World) → KeptWorld l c w → (y : Call) (cs : List Call) → OpeningsRefused l w (y ∷ cs) → P w → P (call_of l w y).world
  unfolding call_with
  call_keeps w k (opening s h) cs r x = subst P (sym (open_stays s h w r.0)) x
  call_keeps w k (expand n) cs r x = expand_keeps w k n x
  call_keeps w k (final_weight n) cs r x = subst P (sym (final_stays l c w n)) x
  call_keeps w k (records n) cs r x = x
  call_keeps w k run cs r x = let i = (run_onto l c w k).is in subst P (sym i.leaves) (expands_keep (interval 0 i.stop) w k x)

  calls_keep : (cs : List Call) (w : World) → KeptWorld l c w → OpeningsRefused l w cs → P w → P (after l w cs)
  unfolding after_with
  calls_keep [] w k r x = x
  calls_keep (y ∷ cs) w k r x = let a = one_call l c w y cs k r in calls_keep cs (call_of l w y).world a.0.kept a.1 (call_keeps w k y cs r x)

module _ (s : Settings) (l : Lent) (w : World) (r : InScope s l w) (xs ys : List ℕ) where
  begin : (side : Side) × (side_for s l ≡ good side)
  begin = scope_side s l w r

  abbrev c : Composition
  c = composition_of s l begin.0

  -- the opening is accepted in the copy of the memory that it got, and leaves the copy of what it left; so does each accepted expansion after it
  pub copied : InScope s l (grown_by xs ys w)
  unfolding after_with call_with
  copied =
      subst (λ (v : World). InScope s l (grown_by xs ys v)) r.leads
      (calls_keep l c (λ v. InScope s l (grown_by xs ys v))
      (λ v k n p e q. subst (InScope s l) (ap world_of (copy_expand xs ys l v.session v.memory c k.sound.enters n p e)) (scope_calls s l (grown_by xs ys v) q (expand n ∷ []) tt))
      r.calls (world_of (open_of s l r.got r.memory)) (open_keeps s l r.got r.memory r.opens begin.0 begin.1) r.refuses
      (record { got = r.got; memory = lengthened xs ys r.memory; opens = ap (λ (o : Outcome (Unit {0})). o.answer) first ∙ r.opens; calls = []; refuses = tt; leads = ap world_of first }))
    where
      first : open_of s l r.got (lengthened xs ys r.memory) ≡ copy_left xs ys (open_of s l r.got r.memory)
      first = copy_open xs ys s l r.got r.memory r.opens

  -- the copy has the same content and no less room, as in 3b
  pair : Same l c w (grown_by xs ys w)
  pair =
      let k = scope_kept s l w r begin.0 begin.1 in
      let d = store_of w.session w.memory in
      record {
        session = refl;
        kept1 = k;
        kept2 = scope_kept s l (grown_by xs ys w) copied begin.0 begin.1;
        alike = copy_alike xs ys d (entered_is l w.session w.memory c k.sound.enters).form;
        room = copy_roomier xs ys d;
      }

  -- so the calls answer the same, up to the first lack of room
  pub copied_same : (cs : List Call) → OpeningsRefused l w cs → SameUntil (replies l w cs) (replies l (grown_by xs ys w) cs)
  copied_same cs o = replies_two l c cs w (grown_by xs ys w) pair o

  -- and what is given again of the copy is given again of what was copied
  pub copied_through : (u : World) → Again l (grown_by xs ys w) u → Again l w u
  copied_through = again_two l c w (grown_by xs ys w) pair
