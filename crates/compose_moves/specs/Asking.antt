-- 02, 2.5, for the moves of a composed state: asked on, they are the steps of the definition, and then the end ever after.
use Rattle.std.specs.Prelude.{◌≡◌, List, [], ◌∷◌, ℕ, zero, suc, Option, None, Some, Result, Ok, Err}
use Rattle.lists.specs.Asking.{AskedOn}
use Rattle.words.specs.Labels.{Checked, good, refused}
use Rattle.words.specs.Matches.{MatchType}
use Rattle.words.specs.Settings.{Lent}
use Rattle.words.specs.Steps.{Step}
use Rattle.fst.specs.declared.refusals.Refusal.{Refusal}
use Rattle.fst.specs.Refusals.{number_of}
use Rattle.compose_fst_op.specs.declared.ComposeFstOpOptions.{ComposeFstOpOptions}
use Rattle.compose_state_tuple.specs.declared.ComposeStateTuple.{ComposeStateTuple}
use Rattle.compose_moves.specs.Moves.{compose_tr_means}
use Rattle.compose_moves.specs.Cursors.{NextStep, SameState, MovesPlaced, direction_for, Begins}
use Rattle.compose_moves.specs.declared.moves.ComposeTr.{ComposeTr}
use Rattle.compose_moves.specs.declared.MoveCursor.{MoveCursor}

-- what an answer of the code gives; none: the end
abbrev pub given_by : NextStep → Option (Checked Step)
given_by (Ok (Some (r, c))) = Some (good (compose_tr_means r))
given_by (Ok None) = None
given_by (Err r) = Some (refused (number_of r))

-- The cursor to ask on with: the one that was handed back; the end and a refusal hand back none, and are asked again with the same.
abbrev pub onward : MoveCursor → NextStep → MoveCursor
onward c (Ok (Some (r, d))) = d
onward c (Ok None) = c
onward c (Err r) = c

-- What asking number k is to give of a list of steps: the step at place k, and past the end none. Nothing after a refusal counts: where one stands, it is given, and ever after.
abbrev pub answer_at : List (Checked Step) → ℕ → Option (Checked Step)
answer_at [] k = None
answer_at (good st ∷ l) zero = Some (good st)
answer_at (good st ∷ l) (suc k) = answer_at l k
answer_at (refused n ∷ l) k = Some (refused n)

-- From the cursor c on, the steps of a composed state are given. `Answers c r` is what the function that is asked for the next step promises of its reply r.
pub record GivesSteps (Answers : MoveCursor → NextStep → Type 0) (o : ComposeFstOpOptions) (l : Lent) (tuple : ComposeStateTuple) (steps : List (Checked Step)) (c : MoveCursor) : Type 0 where
  -- asking number k gives what is to be given at k
  pub in_order : (k : ℕ) (r : NextStep) → AskedOn Answers onward c k r → given_by r ≡ answer_at steps k
  -- the first cursor, and each that an asking hands back, holds the composed state, and a place of its walk
  pub begins : Begins o l tuple c
  pub holds : (k : ℕ) (t : ComposeTr) (d : MoveCursor) → AskedOn Answers onward c k (Ok (Some (t, d))) → SameState c d × MovesPlaced o l d

-- The start b of a composed state: where the direction is refused, that refusal by its number, which is then all that the state has; else a cursor that gives the steps.
pub record StartGivesSteps (Answers : MoveCursor → NextStep → Type 0) (o : ComposeFstOpOptions) (l : Lent) (tuple : ComposeStateTuple) (steps : List (Checked Step)) (b : Result MoveCursor Refusal) : Type 0 where
  pub refuses : (n : ℕ) → direction_for o l tuple ≡ refused n → (k : Refusal) × (number_of k ≡ n) × (b ≡ Err k) × (steps ≡ refused n ∷ [])
  pub gives : (d : MatchType) → direction_for o l tuple ≡ good d → (c : MoveCursor) × (b ≡ Ok c) × GivesSteps Answers o l tuple steps c
