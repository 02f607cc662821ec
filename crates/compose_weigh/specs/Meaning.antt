-- What the code's values stand for.
use Rattle.std.specs.Prelude.{◌≡◌, List, ◌∷◌, ℕ, ◌+◌, ◌^◌, ◌≤◌, ◌<◌, Option, None, Some, Result, Ok, Err}
use Rattle.words.specs.Labels.{Checked, good, refused}
use Rattle.words.specs.Steps.{Step}
use Rattle.calls.specs.Store.{Store, tr_room}
use Rattle.fst.specs.Refusals.{checked_by}
use Rattle.fst.specs.declared.refusals.Refusal.{Refusal}
use Rattle.compose_state_tuple.specs.Meaning.{tuple_means}
use Rattle.compose_state_tuple.specs.declared.ComposeStateTuple.{ComposeStateTuple}
use Rattle.compose_fst_op.specs.Composing.{lent_of}
use Rattle.compose_moves.specs.Cursors.{steps_left}
use Rattle.compose_fst_op.specs.declared.ComposeFstOpOptions.{ComposeFstOpOptions}
use Rattle.compose_moves.specs.declared.MoveCursor.{MoveCursor}
use Rattle.compose_weigh.specs.Weigh.{weigh_from}
use Rattle.compose_weigh.specs.Windows.{Ahead}

-- the steps that a cursor has still to give, with these settings, machines, allowed lists and ignored labels
abbrev pub steps_from : ComposeFstOpOptions → (m1 m2 a1 a2 ignored : List ℕ) → MoveCursor → List (Checked Step)
steps_from o m1 m2 a1 a2 ignored c = steps_left o (lent_of o m1 m2 a1 a2 ignored) c

-- the used states; 13: "a record .. is lacking"
abbrev pub counted_means : Option ℕ → Checked ℕ
counted_means (Some n) = good n
counted_means None = refused 13

-- what was met is the answer x; a walk that was left before tells nothing
abbrev pub Tells : Checked (Unit {0}) → Option (Result (Unit {0}) Refusal) → Type 0
Tells x (Some w) = x ≡ checked_by (λ v. v) w
Tells x None = Unit {0}

-- a walk is left before the end only after a step
abbrev pub Moves : ℕ → Option (Result (Unit {0}) Refusal) → Type 0
Moves k (Some w) = Unit {0}
Moves k None = 0 < k

-- What comes at a cursor after i steps: a step that has a transition record, with its target and the cursor after it; or the weighing ends there, whatever states are used by then.
abbrev pub KeptAt : ComposeFstOpOptions → (m1 m2 a1 a2 ignored : List ℕ) → Store → ℕ → MoveCursor → Result (ComposeStateTuple × MoveCursor) (Result (Unit {0}) Refusal) → Type 0
KeptAt o m1 m2 a1 a2 ignored d i c (Ok r) =
    (s : Step) × (steps_from o m1 m2 a1 a2 ignored c ≡ good s ∷ steps_from o m1 m2 a1 a2 ignored r.1) × (s.to ≡ tuple_means r.0) × (d.used.trs + i < tr_room d.memory)
KeptAt o m1 m2 a1 a2 ignored d i c (Err w) = (all : List (Checked Step)) (u : ℕ) → weigh_from d all i u (steps_from o m1 m2 a1 a2 ignored c) ≡ checked_by (λ v. v) w

-- k steps that have transition records, after i steps, up to the step j, with `rest` after them
pub record Spans (d : Store) (i k : ℕ) (steps rest : List (Checked Step)) (j : ℕ) (e : Option (Result (Unit {0}) Refusal)) : Type 0 where
  pub counts : i + k ≡ j
  pub ahead : Ahead k steps rest
  pub recorded : 0 < k → d.used.trs + j ≤ tr_room d.memory
  pub small : d.used.trs + j < 2 ^ 32
  pub told : (all : List (Checked Step)) (u : ℕ) → Tells (weigh_from d all j u rest) e
  pub moves : Moves k e
