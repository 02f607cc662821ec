-- The walk along one machine's list, looked up in the other: what is left of it from a place on.
use Rattle.std.specs.Prelude.{ℕ, zero, suc, Option, None, Some, Result, Ok, Err}
use mathlib.Core.List.{List, [], ◌∷◌, ◌++◌, flat_map}
use Rattle.words.specs.Labels.{no_label, Checked, good, refused}
use Rattle.words.specs.Matches.{MatchType, inputs, outputs, label_on, tr_of}
use Rattle.words.specs.Machines.{first_of, next_of, list_from, machine_of}
use Rattle.words.specs.Sigmas.{Operand}
use Rattle.words.specs.Steps.{Triple, Step}
use Rattle.words.specs.Ignored.{words_read}
use Rattle.fst.specs.Meaning.{on_of, ignored_under, read_as}
use Rattle.fst.specs.declared.Sigmas.{Sigmas}
use Rattle.fst.specs.declared.refusals.Refusal.{Refusal}
use Rattle.fst.specs.Refusals.{number_of}
use Rattle.matchers.specs.declared.Cursor.{Cursor}
use Rattle.matchers.specs.Meaning.{Item, the_loop, whole, allowed_of, operand_in, lookup_items}
use Rattle.matchers.specs.Cursors.{held_words, items_left}
use Rattle.matchers.specs.Asking.{LookUp, sorted_look_up, sigma_look_up, PlaceIn, Holds}
use Rattle.compose_moves.specs.Moves.{Present, present_of, pair_steps, compose_tr_means}
use Rattle.compose_moves.specs.declared.moves.Walk.{Walk as Fixed}
use Rattle.compose_moves.specs.declared.moves.ComposeTr.{ComposeTr}

-- what stays the same through a walk
pub record Walk : Type 0 where
  -- the direction: the side on which the machine that is looked up is matched
  pub on : MatchType
  -- the words of the machine that is walked, and of the one that is looked up, as they are read
  pub walked : List ℕ
  pub looked : List ℕ
  -- those of the one that is looked up as a cursor reads them
  pub held : Cursor → List ℕ
  -- the sigma labels of both machines
  pub labels : Sigmas
  -- that one with its sigma
  pub operand : Operand
  pub present : Present

-- "Direction input .. along s1's list"; "Direction output mirrors this, walking s2."
abbrev pub walked_state : MatchType → Triple → ℕ
walked_state inputs t = t.s1
walked_state outputs t = t.s2

abbrev pub looked_state : MatchType → Triple → ℕ
looked_state inputs t = t.s2
looked_state outputs t = t.s1

-- the words of the machine that is looked up
abbrev pub looked_words : MatchType → List ℕ → List ℕ → List ℕ
looked_words inputs m1 m2 = m2
looked_words outputs m1 m2 = m1

-- "Machine 1 is matched on outputs, 2 on inputs.": the inner side of the machine that is walked
abbrev pub walked_side : MatchType → MatchType
walked_side inputs = outputs
walked_side outputs = inputs

-- the walk of the code: what is fixed, the words walked, the words looked up, their allowed list, and the ignored labels
abbrev pub walk_means : Fixed → (mw mm am ignored : List ℕ) → Walk
walk_means w mw mm am ignored = record {
  on = on_of w.on;
  walked = words_read (walked_side (on_of w.on)) (ignored_under w.labels ignored) mw;
  looked = read_as w.on w.labels ignored mm;
  held = λ c. held_words c ignored mm;
  labels = w.labels;
  operand = operand_in (on_of w.on) (read_as w.on w.labels ignored mm) w.sigma (allowed_of w.sigma.listed am);
  present = present_of w;
}

-- The walked edge: 0, while the machine rests; else a transition of its list.
abbrev pub edge_item : List ℕ → ℕ → Item
edge_item m zero = the_loop
edge_item m (suc t) = whole (tr_of (machine_of m) (suc t))

-- The walked edge after it: first the rest, then along the list of state s; 0: none.
abbrev pub edge_after : List ℕ → ℕ → ℕ → ℕ
edge_after m s zero = first_of m s
edge_after m s (suc t) = next_of m (suc t)

abbrev pub next_edge : Walk → ℕ → ℕ
next_edge W t = edge_after W.walked (walked_state W.on W.present.triple) t

-- what a walked edge makes with matches
unfoldable pub edge_steps : Walk → ℕ → List Item → List (Checked Step)
edge_steps W t ms = flat_map (pair_steps W.on W.present (edge_item W.walked t)) ms

-- "11 before a walked label's matches"
abbrev pub or_refused : Walk → ℕ → Checked (List Item) → List (Checked Step)
or_refused W t (refused n) = refused n ∷ []
or_refused W t (good ms) = edge_steps W t ms

-- all that transition t of the walked list makes
unfoldable pub tr_steps : Walk → ℕ → List (Checked Step)
tr_steps W t = or_refused W t (lookup_items W.operand (looked_state W.on W.present.triple) (label_on (walked_side W.on) (machine_of W.walked) t))

-- all that the walked list makes from record t on
unfoldable pub trs_steps : Walk → ℕ → List (Checked Step)
trs_steps W t = flat_map (tr_steps W) (list_from W.walked t)

-- all that is left where edge t is walked and the matches of the cursor c are left of it
unfoldable pub walk_left : Walk → ℕ → Cursor → List (Checked Step)
walk_left W t c = edge_steps W t (items_left (W.held c) c) ++ trs_steps W (next_edge W t)

-- all that is left where transition t of the list comes next
abbrev pub from_tr : Walk → ℕ → List (Checked Step)
from_tr W t = tr_steps W t ++ trs_steps W (next_edge W t)

-- One asking: a step and what is left after it; the end; a refusal, after which nothing counts.
pub data Asked : Type 0 where
  gives : Step → List (Checked Step) → Asked
  ends : Asked
  refuses : ℕ → Asked

-- asked for the next of a list
abbrev pub asked : List (Checked Step) → Asked
asked [] = ends
asked (good st ∷ l) = gives st l
asked (refused n ∷ l) = refuses n

-- a walk's answer: the next composed transition with the walked record and the matches left of it, none at the end, or a refusal
abbrev pub Along : Type 0
Along = Result (Option (ComposeTr × ℕ × Cursor)) Refusal

-- what it stands for, where none stands for what comes after it
abbrev pub along_means : Walk → Asked → Along → Asked
along_means W after (Ok (Some (r, t, c))) = gives (compose_tr_means r) (walk_left W t c)
along_means W after (Ok None) = after
along_means W after (Err r) = refuses (number_of r)

-- an answer for the walked edge t: none stands for what the list makes after it
abbrev pub edge_answer : Walk → ℕ → Along → Asked
edge_answer W t a = along_means W (asked (trs_steps W (next_edge W t))) a

-- the settings of a walked edge's look-up in the other machine: asked for MAX while the machine rests, else for its inner label, with that machine's sigma
abbrev pub look_up_for : Walk → ℕ → LookUp
look_up_for W zero = sorted_look_up W.on W.labels no_label
look_up_for W (suc t) = sigma_look_up W.operand W.labels (label_on (walked_side W.on) (machine_of W.walked) (suc t))

-- The place of a walk: the walked record, in the list of the walked state (0 while the machine rests); and what is left of its matches, a cursor of its look-up, with places in the list of the other machine's
-- state.
pub record Placed (W : Walk) (t : ℕ) (c : Cursor) : Type 0 where
  pub walked : PlaceIn W.walked (walked_state W.on W.present.triple) t
  pub matches : Holds W.looked (looked_state W.on W.present.triple) (look_up_for W t) c

-- that of an answer; the end and a refusal have none
abbrev pub PlacedBy : Walk → Along → Type 0
PlacedBy W (Ok (Some (r, t, c))) = Placed W t c
PlacedBy W (Ok None) = Unit {0}
PlacedBy W (Err r) = Unit {0}
