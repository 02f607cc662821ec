-- A caller that owns its memory, whole: in every world of demand 3 it may leave out the checks, run in pieces, take all final weights in one go and copy into longer slices, and meets what both demands say.
use mathlib.Core.Path.{◌≡◌, sym, ◌∙◌, subst}
use mathlib.Core.List.{List, [], ◌∷◌, map, append-nil}
use Prim.Native.Nat.{ℕ, ◌-◌}
use Rattle.lists.specs.Lists.{interval}
use Rattle.words.specs.Labels.{good}
use Rattle.words.specs.Sides.{Side}
use Rattle.words.specs.Steps.{Composition}
use Rattle.words.specs.Settings.{Settings, Lent, composition_of}
use Rattle.words.proofs.CheckedLaws.{good_is}
use Rattle.calls.specs.Checks.{side_for}
use Rattle.calls.specs.Calls.{open_of}
use Rattle.calls.specs.Sequences.{World, Call, expand, call_of, after}
use Rattle.readings.specs.Worlds.{world_of, OpeningsRefused}
use Rattle.readings.specs.Again.{Again}
use Rattle.readings.specs.Demands.{Demand2}
use Rattle.readings.specs.Owned.{InScope, piece_in, next_in, grown_by, Later, at_once, by_calls, by_piece, by_copy, OwnedClaim, Meets}
use Rattle.readings.proofs.Grows.{KeptWorld}
use Rattle.readings.proofs.CallsKept.{onto_none, again_onto, again_through}
use Rattle.readings.proofs.CallLists.{calls_onto}
use Rattle.readings.proofs.Pieces.{piece_is, piece_joins, run_whole}
use Rattle.readings.proofs.FinalWeights.{weights_are}
use Rattle.readings.proofs.InScope.{scope_side, scope_calls, scope_kept}
use Rattle.readings.proofs.Demands.{demand_3}
use Rattle.readings.proofs.Copied.{copied, copied_same, copied_through}
use Rattle.readings.proofs.Demand2.{demand_2}
use Rattle.readings.proofs.Further.{further}

-- there is no opening among expansions
no_openings : (l : Lent) (w : World) (ns : List ℕ) → OpeningsRefused l w (map expand ns)
no_openings l w [] = tt
no_openings l w (n ∷ ns) = no_openings l (call_of l w (expand n)).world ns

-- a list of calls, of which a piece is one, and a copy: each comes to such a world, and what is given again of it is given again of this one
module _ (s : Settings) (l : Lent) (w : World) (r : InScope s l w) where
  abbrev side : (x : Side) × (side_for s l ≡ good x)
  side = scope_side s l w r

  abbrev c : Composition
  c = composition_of s l side.0

  kept : KeptWorld l c w
  kept = scope_kept s l w r side.0 side.1

  calls_through : (cs : List Call) → OpeningsRefused l w cs → (u : World) → Again l (after l w cs) u → Again l w u
  calls_through cs q u = again_through l c w (after l w cs) u kept (calls_onto l c w cs [] kept (subst (OpeningsRefused l w) (sym (append-nil cs)) q)).0

  -- the expansions of a piece
  abbrev made : ℕ → ℕ → List Call
  made n k = map expand (interval n (next_in l w n k - n))

  piece_scope : (n k : ℕ) → InScope s l (world_of (piece_in l w n k))
  piece_scope n k = subst (InScope s l) (sym (piece_is l c w kept n k).leaves) (scope_calls s l w r (made n k) (no_openings l w (interval n (next_in l w n k - n))))

  piece_through : (n k : ℕ) (u : World) → Again l (world_of (piece_in l w n k)) u → Again l w u
  piece_through n k u a =
      calls_through (made n k) (no_openings l w (interval n (next_in l w n k - n))) u (subst (λ (v : World). Again l v u) (piece_is l c w kept n k).leaves a)

-- step by step, whatever such a caller does
comes_to : (s : Settings) (l : Lent) (u w : World) → Later l u w → InScope s l w → InScope s l u × Again l w u
comes_to s l u w (at_once _ e) r =
    let k = kept s l w r in
    subst (λ (v : World). InScope s l v × Again l w v) e (r, again_onto l (c s l w r) w w k (onto_none l (c s l w r) w k))
comes_to s l u w (by_calls _ cs q more) r =
    let x = comes_to s l u (after l w cs) more (scope_calls s l w r cs q) in
    (x.0, calls_through s l w r cs q u x.1)
comes_to s l u w (by_piece _ n k more) r =
    let x = comes_to s l u (world_of (piece_in l w n k)) more (piece_scope s l w r n k) in
    (x.0, piece_through s l w r n k u x.1)
comes_to s l u w (by_copy _ xs ys more) r =
    let x = comes_to s l u (grown_by xs ys w) more (copied s l w r xs ys) in
    (x.0, copied_through s l w r xs ys u x.1)

-- the world is kept, so the checks pass
pub owned : OwnedClaim
owned s l w r =
    let k = kept s l w r in
    let d = c s l w r in
    record {
      passes = (d, k.sound.enters);
      later = λ u x. comes_to s l u w x r;
      piece = piece_is l d w k;
      whole = run_whole l d w k;
      joins = λ n j i. piece_joins l d j n w k i;
      weights = weights_are l d w k;
      same = copied_same s l w r;
    }

-- both demands, at the end of the list that led to the world
pub owned_demands : (s : Settings) (l : Lent) (w : World) → InScope s l w → Meets s l w
owned_demands s l w r =
    let a = demand_3 s l r.got r.memory r.opens in
    let b = demand_2 s l r.got r.memory r.opens in
    let d = a.2 r.calls r.refuses in
    let end = append-nil r.calls in
    let v = after l (world_of (open_of s l r.got r.memory)) r.calls in
    subst (Meets s l) r.leads
    (record {
      side = a.0;
      rule = a.1;
      sound = d.sound r.calls [] end;
      answers = d.answers r.calls [] end;
      paths = d.paths;
      papers = subst (λ (x : Side). Demand2 s l (composition_of s l x) v) (good_is (sym b.1 ∙ a.1)) (b.2 r.calls r.refuses);
      further = further s l a.0 a.1 v (d.sound r.calls [] end);
    })
