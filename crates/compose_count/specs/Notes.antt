-- What is noted while steps are gone through: the triples that are looked for, each once, in a set of fixed size, and how many steps there are.
use Rattle.std.specs.Prelude.{Bool, ◌&&◌, ◌||◌, List, [], ◌∷◌, ℕ, ◌+◌, ◌*◌, ◌%◌, min, eqb}
use Rattle.words.specs.Labels.{MAX, Checked, good, refused}
use Rattle.words.specs.Matches.{MatchType, inputs, outputs}
use Rattle.words.specs.Steps.{Triple, Step}
use Rattle.calls.specs.Store.{Store, find}
use Rattle.triple_set.specs.Sets.{set_of, take_of}
use Rattle.compose_weigh.specs.Weigh.{missing}
use Rattle.compose_count.specs.declared.notes.Noted.{Noted}

-- the set, whether a triple found no room in it, and the steps, counted up to MAX
pub record Notes : Type 0 where
  pub set : Store
  pub full : Bool
  pub moves : ℕ

-- the same of the code's values
abbrev pub notes_means : (chains records : List ℕ) → Noted → Notes
notes_means chains records n = record { set = set_of chains records n.held; full = n.full; moves = n.moves }

-- the class of a triple, one of so many
unfoldable pub class_of : ℕ → Triple → ℕ
class_of classes t = ((40503 * t.s1 + 30011 * t.s2 + t.f) % 65521) % classes

-- the triples that are looked for: those that the table lacks, of one class
unfoldable pub wanted_by : Store → ℕ → ℕ → Triple → Bool
wanted_by d classes class t = eqb (class_of classes t) class && missing (find d t)

-- the composed state of a walked transition's target and a looked-up one's: direction input walks machine 1, direction output machine 2
abbrev pub target_by : MatchType → (fs walked looked : ℕ) → Triple
target_by inputs fs walked looked = record { s1 = walked; s2 = looked; f = fs }
target_by outputs fs walked looked = record { s1 = looked; s2 = walked; f = fs }

-- a step to t
abbrev pub note_to : (Triple → Bool) → Notes → Triple → Notes
note_to P n t = record { set = (take_of (P t) n.set t).1; full = n.full || (take_of (P t) n.set t).0; moves = min (n.moves + 1) MAX }

-- a refusal is no step
abbrev pub note_good : (Triple → Bool) → Notes → Checked Step → Notes
note_good P n (good st) = note_to P n st.to
note_good P n (refused k) = n

-- all steps of a list in their order
unfoldable pub note_all : (Triple → Bool) → Notes → List (Checked Step) → Notes
note_all P n [] = n
note_all P n (st ∷ others) = note_all P (note_good P n st) others
