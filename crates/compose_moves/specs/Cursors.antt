-- What a move cursor has still to give, and what the answers of the code stand for.
use Rattle.std.specs.Prelude.{◌≡◌, List, [], ◌∷◌, ℕ, Option, None, Some, Result, Ok, Err}
use Rattle.words.specs.Labels.{Checked, good, refused}
use Rattle.words.specs.Weights.{kind_of}
use Rattle.words.specs.Matches.{MatchType, inputs, outputs}
use Rattle.words.specs.Sides.{direction_at}
use Rattle.words.specs.Filters.{filter_of, facts_at}
use Rattle.words.specs.Ignored.{words_read}
use Rattle.words.specs.Sigmas.{Operand}
use Rattle.words.specs.Settings.{Lent}
use Rattle.words.specs.Steps.{Step}
use Rattle.fst.specs.Meaning.{on_of}
use Rattle.fst.specs.declared.refusals.Refusal.{Refusal}
use Rattle.fst.specs.Refusals.{number_of}
use Rattle.compose_filters.specs.Meaning.{facts_mean}
use Rattle.compose_state_tuple.specs.Meaning.{tuple_means}
use Rattle.compose_moves.specs.Moves.{Present, compose_tr_means}
use Rattle.compose_moves.specs.Walks.{Walk, walk_left, Asked, gives, ends, refuses, Along, Placed}
use Rattle.matchers.specs.declared.Cursor.{Cursor}
use Rattle.matchers.specs.Meaning.{operand_in}
use Rattle.matchers.specs.Cursors.{held_words}
use Rattle.matchers.specs.declared.sigma_matcher.Sigma.{Sigma}
use Rattle.compose_state_tuple.specs.declared.ComposeStateTuple.{ComposeStateTuple}
use Rattle.compose_fst_op.specs.declared.ComposeFstOpOptions.{ComposeFstOpOptions}
use Rattle.match_type.specs.Chosen.{side_means}
use Rattle.compose_fst_op.specs.Composing.{sigmas_of, replacing}
use Rattle.compose_moves.specs.declared.moves.Walk.{Walk as Fixed}
use Rattle.compose_moves.specs.declared.moves.ComposeTr.{ComposeTr}
use Rattle.compose_moves.specs.declared.MoveCursor.{MoveCursor}

-- the words of the two machines as they are read
abbrev pub words1 : ComposeFstOpOptions → Lent → List ℕ
words1 o l = words_read outputs (replacing o l.ignored) l.m1

abbrev pub words2 : ComposeFstOpOptions → Lent → List ℕ
words2 o l = words_read inputs (replacing o l.ignored) l.m2

-- these as operands
abbrev pub read1 : ComposeFstOpOptions → Lent → Operand
read1 o l = operand_in outputs (words1 o l) o.sigma1 l.allowed1

abbrev pub read2 : ComposeFstOpOptions → Lent → Operand
read2 o l = operand_in inputs (words2 o l) o.sigma2 l.allowed2

-- direction input walks machine 1 and looks up in machine 2; direction output mirrors this
abbrev pub walk_in : ComposeFstOpOptions → Lent → Present → MatchType → Walk
walk_in o l p inputs = record { on = inputs; walked = words1 o l; looked = words2 o l; held = λ c. held_words c l.ignored l.m2; labels = sigmas_of o; operand = read2 o l; present = p }
walk_in o l p outputs = record { on = outputs; walked = words2 o l; looked = words1 o l; held = λ c. held_words c l.ignored l.m1; labels = sigmas_of o; operand = read1 o l; present = p }

-- the present composed state of a cursor
abbrev pub present_in : ComposeFstOpOptions → MoveCursor → Present
present_in o c = record { kind = kind_of o.kind; filter = filter_of o.filter; facts = facts_mean c.facts; triple = tuple_means c.tuple }

-- its walk
abbrev pub cursor_walk : ComposeFstOpOptions → Lent → MoveCursor → Walk
cursor_walk o l c = walk_in o l (present_in o c) (on_of c.on)

-- The steps that a cursor has still to give, each refusal at its place, in their order.
unfoldable pub steps_left : ComposeFstOpOptions → Lent → MoveCursor → List (Checked Step)
steps_left o l c = walk_left (cursor_walk o l c) c.walked c.matches

-- the start's answer: what the cursor will give, or refusal 10 alone
abbrev pub moves_start_means : ComposeFstOpOptions → Lent → Result MoveCursor Refusal → List (Checked Step)
moves_start_means o l (Ok c) = steps_left o l c
moves_start_means o l (Err r) = refused (number_of r) ∷ []

-- an answer to one asking: the next composed transition with the cursor to ask on with, none at the end, or a refusal
abbrev pub NextStep : Type 0
NextStep = Result (Option (ComposeTr × MoveCursor)) Refusal

-- what it stands for, by its number in the table of "Answers" where it is a refusal
abbrev pub next_means : ComposeFstOpOptions → Lent → NextStep → Asked
next_means o l (Ok (Some (r, c))) = gives (compose_tr_means r) (steps_left o l c)
next_means o l (Ok None) = ends
next_means o l (Err r) = refuses (number_of r)

-- the cursor at another place of its walk
abbrev pub cursor_at : MoveCursor → ℕ → Cursor → MoveCursor
cursor_at c t matches = record { tuple = c.tuple; facts = c.facts; on = c.on; walked = t; matches = matches }

-- what stays the same through the walk of a cursor
abbrev pub fixed_by : ComposeFstOpOptions → Sigma → MoveCursor → Fixed
fixed_by o sigma c = record { kind = o.kind; filter = o.filter; facts = c.facts; tuple = c.tuple; on = c.on; sigma = sigma; labels = sigmas_of o }

-- the answer of a walk as the answer of the cursor that walks
abbrev pub resumed : MoveCursor → Along → NextStep
resumed c (Ok (Some (r, t, matches))) = Ok (Some (r, cursor_at c t matches))
resumed c (Ok None) = Ok None
resumed c (Err r) = Err r

-- The cursor d is c at another place: of the same composed state, with what the filter sees there, in the same direction.
abbrev pub SameState : MoveCursor → MoveCursor → Type 0
SameState c d = d ≡ cursor_at c d.walked d.matches

-- the place of a cursor is one of its walk
abbrev pub MovesPlaced : ComposeFstOpOptions → Lent → MoveCursor → Type 0
MovesPlaced o l c = Placed (cursor_walk o l c) c.walked c.matches

-- What an answer's cursor holds: the state of the cursor asked, and a place of its walk if that one did. The end and a refusal hand back no cursor.
abbrev pub StaysPlaced : ComposeFstOpOptions → Lent → MoveCursor → NextStep → Type 0
StaysPlaced o l c (Ok (Some (r, d))) = SameState c d × (MovesPlaced o l c → MovesPlaced o l d)
StaysPlaced o l c (Ok None) = Unit {0}
StaysPlaced o l c (Err r) = Unit {0}

-- the direction at a composed state, or refusal 10
abbrev pub direction_for : ComposeFstOpOptions → Lent → ComposeStateTuple → Checked MatchType
direction_for o l tuple = direction_at (side_means o.side) (read1 o l) (read2 o l) tuple.s1.0 tuple.s2.0

-- What the first cursor of a composed state holds: the state, what the filter sees there, its direction, and a place of its walk.
pub record Begins (o : ComposeFstOpOptions) (l : Lent) (tuple : ComposeStateTuple) (c : MoveCursor) : Type 0 where
  pub state : c.tuple ≡ tuple
  pub facts : facts_mean c.facts ≡ facts_at (read1 o l) (read2 o l) tuple.s1.0 tuple.s2.0
  pub direction : direction_for o l tuple ≡ good (on_of c.on)
  pub place : MovesPlaced o l c

-- the start: its cursor, or the refusal of the direction
abbrev pub StartsPlaced : ComposeFstOpOptions → Lent → ComposeStateTuple → Result MoveCursor Refusal → Type 0
StartsPlaced o l tuple (Ok c) = Begins o l tuple c
StartsPlaced o l tuple (Err r) = direction_for o l tuple ≡ refused (number_of r)
