-- Lists of calls: what each call keeps, every list keeps; so every world of a list is sound, and what it gave is given again in every later one.
use mathlib.Core.Path.{◌≡◌, refl, sym, subst}
use mathlib.Core.List.{List, [], ◌∷◌, ◌++◌}
use mathlib.Core.Logic.{◌↔◌}
use Rattle.words.specs.Steps.{Composition}
use Rattle.words.specs.Settings.{Settings, Lent}
use Rattle.calls.specs.Calls.{Outcome, open_of}
use Rattle.calls.specs.Sequences.{World, Call, opening, expand, final_weight, records, run, call_of, after, after_with, call_with}
use Rattle.calls.proofs.OpenCases.{by_open}
use Rattle.readings.specs.Worlds.{world_of, Refused, OpeningsRefused}
use Rattle.readings.specs.Again.{Again}
use Rattle.readings.proofs.Grows.{KeptWorld}
use Rattle.readings.proofs.CallsKept.{Onto, onto_none, onto_on, expand_onto, final_stays, again_onto}
use Rattle.readings.proofs.Pieces.{run_onto}

-- a refused opening leaves all as it was
pub open_stays : (s : Settings) (k : Lent) (w : World) → Refused (open_of s k w.session w.memory).answer → world_of (open_of s k w.session w.memory) ≡ w
open_stays s k w =
    by_open s k w.session w.memory (λ (o : Outcome (Unit {0})). Refused o.answer → world_of o ≡ w)
    (λ n e r. refl) (λ side e h r. absurd r) (λ side t e h r. refl) (λ side t e h b r. absurd r)

-- lists one after the other: the second begins in the world that the first leaves, and the openings of the whole are refused just where those of both are
module _ (l : Lent) where
  pub after_append : (w : World) (before later : List Call) → after l (after l w before) later ≡ after l w (before ++ later)
  unfolding after_with
  after_append w [] later = refl
  after_append w (x ∷ before) later = after_append (call_of l w x).world before later

  pub openings_append : (w : World) (before later : List Call) → OpeningsRefused l w (before ++ later) ↔ (OpeningsRefused l w before × OpeningsRefused l (after l w before) later)
  unfolding after_with
  openings_append w [] later = (λ r. (tt, r), λ r. r.1)
  openings_append w (opening s k ∷ before) later =
      let q = openings_append (call_of l w (opening s k)).world before later in
      (λ r. let z = q.0 r.1 in ((r.0, z.0), z.1), λ r. (r.0.0, q.1 (r.0.1, r.1)))
  openings_append w (expand n ∷ before) later = openings_append (call_of l w (expand n)).world before later
  openings_append w (final_weight n ∷ before) later = openings_append (call_of l w (final_weight n)).world before later
  openings_append w (records n ∷ before) later = openings_append (call_of l w (records n)).world before later
  openings_append w (run ∷ before) later = openings_append (call_of l w run).world before later

module _ (l : Lent) (c : Composition) where
  -- one call, and what is asked of the openings after it
  pub one_call : (w : World) (x : Call) (cs : List Call) → KeptWorld l c w → OpeningsRefused l w (x ∷ cs) → Onto l c w (call_of l w x).world × OpeningsRefused l (call_of l w x).world cs
  unfolding call_with
  one_call w (opening s k) cs h r = (subst (Onto l c w) (sym (open_stays s k w r.0)) (onto_none l c w h), r.1)
  one_call w (expand n) cs h r = (expand_onto l c w h n, r)
  one_call w (final_weight n) cs h r = (subst (Onto l c w) (sym (final_stays l c w n)) (onto_none l c w h), r)
  one_call w (records n) cs h r = (onto_none l c w h, r)
  one_call w run cs h r = ((run_onto l c w h).onto, r)

  -- the calls before a point of the list
  pub calls_onto : (w : World) (before later : List Call) → KeptWorld l c w → OpeningsRefused l w (before ++ later) → Onto l c w (after l w before) × OpeningsRefused l (after l w before) later
  unfolding after_with
  calls_onto w [] later h r = (onto_none l c w h, r)
  calls_onto w (x ∷ before) later h r =
      let a = one_call w x (before ++ later) h r in
      let b = calls_onto (call_of l w x).world before later a.0.kept a.1 in
      (onto_on l c w (call_of l w x).world (after l (call_of l w x).world before) a.0 b.0, b.1)

  -- the world at a point of the list
  pub calls_kept : (w : World) (cs : List Call) → KeptWorld l c w → OpeningsRefused l w cs → (before later : List Call) → before ++ later ≡ cs → KeptWorld l c (after l w before)
  calls_kept w cs h r before later e = (calls_onto w before later h (subst (OpeningsRefused l w) (sym e) r)).0.kept

  pub calls_again : (w : World) (cs : List Call) → KeptWorld l c w → OpeningsRefused l w cs → (before middle later : List Call) → before ++ (middle ++ later) ≡ cs
      → Again l (after l w before) (after l w (before ++ middle))
  calls_again w cs h r before middle later e =
      let a = calls_onto w before (middle ++ later) h (subst (OpeningsRefused l w) (sym e) r) in
      let v = after l w before in
      let b = calls_onto v middle later a.0.kept a.1 in
      subst (Again l v) (after_append l w before middle) (again_onto l c v (after l v middle) a.0.kept b.0)
