-- 02, 2.5: "Asked on, it is proved to give the definition's matches, each once and in order, then none ever after"; "it walks the list itself and keeps only the present place".
use Rattle.std.specs.Prelude.{◌≡◌, Bool, false, ◌⊎◌, ℕ, ◌≤◌, length, None, Some, Result, Ok, Err}
use mathlib.Core.List.{List, map, Memᴰ as In}
use Rattle.lists.specs.Lists.{At, Distinct}
use Rattle.lists.specs.Asking.{AskedOn}
use Rattle.words.specs.Labels.{no_label, Checked, good, refused}
use Rattle.words.specs.Matches.{MatchType, inputs, outputs, Match}
use Rattle.words.specs.Machines.{list_of}
use Rattle.words.specs.Sigmas.{Operand}
use Rattle.words.specs.AsPapers.{edge_of}
use Rattle.fst.specs.declared.MatchType.{MatchType as On}
use Rattle.fst.specs.declared.MatchType.TheVariants.{MatchInput, MatchOutput}
use Rattle.fst.specs.declared.Sigmas.{Sigmas}
use Rattle.fst.specs.declared.refusals.Refusal.{Refusal}
use Rattle.fst.specs.Refusals.{number_of}
use Rattle.matchers.specs.Meaning.{Item}
use Rattle.matchers.specs.Cursors.{Step, given_by, cursor_of}
use Rattle.matchers.specs.declared.Phase.{Phase}
use Rattle.matchers.specs.declared.Cursor.{Cursor}

-- The settings of a look-up: the side on which the machine is matched, the label asked, the sigma label, the sigma labels of both machines, and whether sigma is rewritten on
-- both sides.
pub record LookUp : Type 0 where
  pub on : MatchType
  pub label : ℕ
  pub sigma : ℕ
  pub labels : Sigmas
  pub both : Bool

-- those of the sorted look-up, which knows no sigma, and of the sigma look-up
abbrev pub sorted_look_up : MatchType → Sigmas → ℕ → LookUp
sorted_look_up on labels x = record { on = on; label = x; sigma = no_label; labels = labels; both = false }

abbrev pub sigma_look_up : Operand → Sigmas → ℕ → LookUp
sigma_look_up o labels x = record { on = o.on; label = x; sigma = o.sigma.label; labels = labels; both = o.sigma.rewrite_both }

-- How far it has come: the phase, whether the loop comes next, the record from which the phase goes on, and the record from which sigma transitions are sought; 0 is no record.
pub record Place : Type 0 where
  pub phase : Phase
  pub loops : Bool
  pub tr : ℕ
  pub sigmas : ℕ

abbrev pub place_of : Cursor → Place
place_of c = record { phase = c.phase; loops = c.loops; tr = c.tr; sigmas = c.sigmas }

-- the code's name of a side
abbrev pub side_in : MatchType → On
side_in inputs = MatchInput
side_in outputs = MatchOutput

-- the cursor that these settings and this place make, whole
abbrev pub cursor_with : LookUp → Place → Cursor
cursor_with q p = record {
  on = side_in q.on;
  label = record { 0 = q.label };
  sigma = record { 0 = q.sigma };
  labels = q.labels;
  both = q.both;
  phase = p.phase;
  loops = p.loops;
  tr = p.tr;
  sigmas = p.sigmas;
}

-- t is 0, or the number of a record in the list of state s
abbrev pub PlaceIn : List ℕ → ℕ → ℕ → Type 0
PlaceIn m s t = (t ≡ 0) ⊎ In t (list_of m s)

-- The cursor c holds the settings q and places in the list of state s, and nothing else.
pub record Holds (m : List ℕ) (s : ℕ) (q : LookUp) (c : Cursor) : Type 0 where
  pub whole : c ≡ cursor_with q (place_of c)
  pub tr : PlaceIn m s c.tr
  pub sigmas : PlaceIn m s c.sigmas

-- the cursor to ask on with: the one that was handed back, at the end too
abbrev pub onward : Cursor → Step → Cursor
onward c r = cursor_of r

-- A look-up with the settings q at state s of the machine in m, which begins with the cursor c, gives the matches ms. `Answers c r` is what a function that is asked for the next match promises of its
-- reply r; `item u` is what the match u gives.
pub record Gives (Answers : Cursor → Step → Type 0) (m : List ℕ) (s : ℕ) (q : LookUp) (item : Match → Item) (ms : List Match) (c : Cursor) : Type 0 where
  -- asking number k gives match number k ..
  pub in_order : (k : ℕ) (r : Step) → AskedOn Answers onward c k r → (u : Match) → At ms k u → given_by r ≡ Some (item u)
  -- .. and from their end on, however often it is asked, none
  pub then_none : (k : ℕ) (r : Step) → AskedOn Answers onward c k r → length ms ≤ k → given_by r ≡ None
  -- each once: among the matches neither the loop nor a record stands twice
  pub once : Distinct (map edge_of ms)
  -- the first cursor, and each that an asking hands back, holds what was asked, and places
  pub begins : Holds m s q c
  pub holds : (k : ℕ) (r : Step) → AskedOn Answers onward c k r → Holds m s q (cursor_of r)

-- The answer i of a look-up that may be refused: the refusal by its number; or a cursor that gives the matches.
pub record GivesOrRefuses (Answers : Cursor → Step → Type 0) (m : List ℕ) (s : ℕ) (q : LookUp) (item : Match → Item) (ms : Checked (List Match)) (i : Result Cursor Refusal) : Type 0 where
  pub refuses : (n : ℕ) → ms ≡ refused n → (k : Refusal) × (number_of k ≡ n) × (i ≡ Err k)
  pub gives : (l : List Match) → ms ≡ good l → (c : Cursor) × (i ≡ Ok c) × Gives Answers m s q item l c
