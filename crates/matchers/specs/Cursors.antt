-- What a cursor has still to give, and what one asking answers.
use Rattle.std.specs.Prelude.{Bool, false, cond, List, [], ◌∷◌, ◌++◌, map, ℕ, eqb, leb, Option, None, Some, option_map}
use Rattle.lists.specs.Lists.{put_if, keep_if}
use Rattle.words.specs.Labels.{eps_label, no_label}
use Rattle.words.specs.Matches.{MatchType, label_on, Match, loop, own, viaSigma}
use Rattle.words.specs.Machines.{tr_count, first_of, next_of, list_from, machine_of}
use Rattle.words.specs.Sigmas.{rewrite}
use Rattle.fst.specs.Meaning.{on_of, read_as}
use Rattle.fst.specs.declared.Label.{Label}
use Rattle.fst.specs.declared.MatchType.{MatchType as On}
use Rattle.fst.specs.declared.Sigmas.{Sigmas}
use Rattle.fst.specs.declared.StateId.{StateId}
use Rattle.matchers.specs.Meaning.{Item, match_means, item_of}
use Rattle.matchers.specs.declared.Phase.{Phase}
use Rattle.matchers.specs.declared.Phase.TheVariants.{Own, Sigmas as Sigma}
use Rattle.matchers.specs.declared.Cursor.{Cursor}
use Rattle.matchers.specs.declared.IterItemMatcher.{IterItemMatcher}

-- the records from place t on, in list order; 0 ends the list, and so does a number that is no record's
unfoldable pub records_from : List ℕ → ℕ → List ℕ
records_from m t = cond (leb t (tr_count m)) (list_from m t) []

-- those of them that have the label x on a side
unfoldable pub with_label : MatchType → List ℕ → ℕ → ℕ → List ℕ
with_label on m x t = keep_if (λ u. eqb (label_on on (machine_of m) u) x) (records_from m t)

-- the first record of a list; 0 where there is none
abbrev pub head0 : List ℕ → ℕ
head0 [] = 0
head0 (t ∷ ts) = t

-- "asked for MAX, only the epsilon transitions": the label that the transitions must have
abbrev pub looked : ℕ → ℕ
looked x = cond (eqb x no_label) eps_label x

-- the words of a machine as a cursor reads them: with the labels replaced that the list and its sigma labels say, on its side
abbrev pub held_words : Cursor → (ignored m : List ℕ) → List ℕ
held_words c ignored m = read_as c.on c.labels ignored m

-- the cursor in a phase, past the loop, at place t
abbrev pub moved_to : Cursor → Phase → ℕ → Cursor
moved_to c phase t = record {
  on = c.on;
  label = c.label;
  sigma = c.sigma;
  labels = c.labels;
  both = c.both;
  phase = phase;
  loops = false;
  tr = t;
  sigmas = c.sigmas;
}

-- the sigma transitions from place t on
unfoldable pub sigma_left : List ℕ → Cursor → ℕ → List Match
sigma_left m c t = map viaSigma (with_label (on_of c.on) m c.sigma.0 t)

-- the transitions with the label from place t on, and then the sigma transitions from the cursor's place for these on
unfoldable pub own_left : List ℕ → Cursor → ℕ → List Match
own_left m c t = map own (with_label (on_of c.on) m (looked c.label.0) t) ++ sigma_left m c c.sigmas

-- by the phase, from the cursor's place on
abbrev pub in_phase : Phase → List ℕ → Cursor → List Match
in_phase Own m c = own_left m c c.tr
in_phase Sigma m c = sigma_left m c c.tr

-- the matches that a cursor has still to give, in their order
unfoldable pub matches_left : List ℕ → Cursor → List Match
matches_left m c = put_if c.loops loop (in_phase c.phase m c)

-- what matches give under a cursor: sigma transitions are rewritten for the label asked
abbrev pub items_of : List ℕ → Cursor → List Match → List Item
items_of m c ms = map (item_of (machine_of m) (rewrite c.both (on_of c.on) c.sigma.0 c.label.0)) ms

-- what a cursor has still to give, in its order: the meaning of a cursor
unfoldable pub items_left : List ℕ → Cursor → List Item
items_left m c = items_of m c (matches_left m c)

-- One asking: the match that is given (none: the end), and what is left to give.
pub record Asked : Type 0 where
  pub given : Option Item
  pub left : List Item

-- asked for the next of a list
abbrev pub asked : List Item → Asked
asked [] = record { given = None; left = [] }
asked (i ∷ is) = record { given = Some i; left = is }

-- a step of the code: the next match, none at the end, with the cursor to ask on with
abbrev pub Step : Type 0
Step = Option IterItemMatcher × Cursor

-- what it gives; none: the end
abbrev pub given_by : Step → Option Item
given_by r = option_map match_means r.0

-- the cursor that it hands back
abbrev pub cursor_of : Step → Cursor
cursor_of r = r.1

-- the step of the code
abbrev pub step_means : List ℕ → Step → Asked
step_means m r = record { given = given_by r; left = items_left m (cursor_of r) }

-- Where a cursor stands once it was asked, by the first of the matches that it had to give: past the loop, at the place where it was; at the link of the record that was given, in that match's phase; and where
-- there was none to give, at 0, the end.
abbrev pub moved_past : List ℕ → Cursor → List Match → Cursor
moved_past m c [] = moved_to c Sigma 0
moved_past m c (loop ∷ us) = moved_to c c.phase c.tr
moved_past m c (own t ∷ us) = moved_to c Own (next_of m t)
moved_past m c (viaSigma t ∷ us) = moved_to c Sigma (next_of m t)

abbrev pub cursor_after : List ℕ → Cursor → Cursor
cursor_after m c = moved_past m c (matches_left m c)

-- The first cursor of a look-up of the label x at state s: what is asked, the place of the first transition with the label, and the place from which sigma transitions are sought after it (0: from none).
abbrev pub first_cursor : List ℕ → On → Sigmas → StateId → Label → Label → Bool → ℕ → Cursor
first_cursor m on labels s x sigma both from = record {
  on = on;
  label = x;
  sigma = sigma;
  labels = labels;
  both = both;
  phase = Own;
  loops = eqb x.0 eps_label;
  tr = head0 (with_label (on_of on) m (looked x.0) (first_of m s.0));
  sigmas = from;
}
