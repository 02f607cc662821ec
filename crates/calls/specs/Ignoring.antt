-- 02, 2.7, over whole calls: "An empty list changes nothing; otherwise every answer is that of the two machines with those labels replaced".
use Rattle.std.specs.Prelude.{◌≡◌, true, not, [], ℕ}
use Rattle.words.specs.Labels.{Checked, refuse_if}
use Rattle.words.specs.Weights.{kind_of}
use Rattle.words.specs.Filters.{filter_of}
use Rattle.words.specs.Matches.{inputs, outputs}
use Rattle.words.specs.Machines.{well_formed_up_to}
use Rattle.words.specs.Ignored.{ignored_ok, words_replaced}
use Rattle.words.specs.Sides.{Side, side_of, non_empty}
use Rattle.words.specs.Sigmas.{Operand}
use Rattle.words.specs.Steps.{Composition}
use Rattle.words.specs.Settings.{Settings, settings_ok, Lent, ignored_by, operand_of, composition_of}
use Rattle.calls.specs.Store.{Memory, Layout}
use Rattle.calls.specs.Checks.{Session, side_for_with, entered_with, entered_at_with}
use Rattle.calls.specs.Calls.{open_with, expand_with, final_weight_with, run_from_with, run_with, records_with, records_place_with}
use Rattle.calls.specs.Sequences.{World, Call, opening, call_with}
use Rattle.calls.specs.Owned.{stop_from, weights_from}

-- the two machines as they were taken before there was a list
abbrev pub plain1 : Settings → Lent → Operand
plain1 s l = operand_of outputs l.m1 s.sigma1 s.mode1 l.allowed1

abbrev pub plain2 : Settings → Lent → Operand
plain2 s l = operand_of inputs l.m2 s.sigma2 s.mode2 l.allowed2

-- the checks 1 to 7 in their earlier text, and the earlier composition
abbrev pub earlier_side : Layout → Settings → Lent → Checked Side
earlier_side L s l =
    refuse_if (not (settings_ok s)) 1
    (refuse_if (not (well_formed_up_to L.limit l.m1)) 2
    (refuse_if (not (well_formed_up_to L.limit l.m2)) 3
    (side_of (plain1 s l) (plain2 s l))))

abbrev pub earlier_composition : Settings → Lent → Side → Composition
earlier_composition s l side = record { kind = kind_of s.kind; filter = filter_of s.filter; side = side; operand1 = plain1 s l; operand2 = plain2 s l }

-- "An empty list changes nothing". What else a call reads of what it is lent is the number of states of each machine: so every answer is the earlier one.
pub record AsEarlier (L : Layout) (l : Lent) : Type 0 where
  pub side : (s : Settings) → side_for_with L s l ≡ earlier_side L s l
  pub composition : (s : Settings) (side : Side) → composition_of s l side ≡ earlier_composition s l side

abbrev pub EmptyChangesNothing : Type 0
EmptyChangesNothing = (L : Layout) (l : Lent) → l.ignored ≡ [] → AsEarlier L l

-- the same with the inner labels replaced in the words themselves, and no list
abbrev pub replaced_lent : Settings → Lent → Lent
replaced_lent s l = record {
  m1 = words_replaced outputs (ignored_by s l) l.m1;
  m2 = words_replaced inputs (ignored_by s l) l.m2;
  allowed1 = l.allowed1;
  allowed2 = l.allowed2;
  ignored = [];
}

-- "otherwise every answer is that of the two machines with those labels replaced, side marks on the replaced sides read as 0 and sortedness judged after replacement": of these
-- words, which go by the settings
pub record AsReplaced (L : Layout) (l : Lent) (words : Settings → Lent) : Type 0 where
  -- the replaced words are well formed
  pub formed1 : (s : Settings) → well_formed_up_to L.limit (words s).m1 ≡ true
  pub formed2 : (s : Settings) → well_formed_up_to L.limit (words s).m2 ≡ true
  -- the checks 1 to 7 and 18, and the composition that they lead to
  pub side : (s : Settings) → side_for_with L s l ≡ side_for_with L s (words s)
  pub composition : (s : Settings) (side : Side) → composition_of s l side ≡ composition_of s (words s) side
  -- the checks 1 to 8, and 1 to 9, of a later call: its settings are the session's
  pub entered : (s : Session) (m : Memory) → entered_with L l s m ≡ entered_with L (words s.settings) s m
  pub entered_at : (s : Session) (m : Memory) (n : ℕ) → entered_at_with L l s m n ≡ entered_at_with L (words s.settings) s m n
  -- what the five calls answer and leave
  pub opens : (s : Settings) (got : Session) (m : Memory) → open_with L s l got m ≡ open_with L s (words s) got m
  pub expand : (s : Session) (m : Memory) (n : ℕ) → expand_with L l s m n ≡ expand_with L (words s.settings) s m n
  pub final_weight : (s : Session) (m : Memory) (n : ℕ) → final_weight_with L l s m n ≡ final_weight_with L (words s.settings) s m n
  pub run : (s : Session) (m : Memory) → run_with L l s m ≡ run_with L (words s.settings) s m
  pub records : (s : Session) (m : Memory) (n : ℕ) → records_with L l s m n ≡ records_with L (words s.settings) s m n
  -- where handed-back records lie
  pub place : (s : Session) (m : Memory) (n : ℕ) → records_place_with L l s m n ≡ records_place_with L (words s.settings) s m n
  -- a piece of a run, for a caller that owns its memory
  pub piece : (k n : ℕ) (s : Session) (m : Memory) → run_from_with L l k n s m ≡ run_from_with L (words s.settings) k n s m
  -- one call of a list; an opening there is lent its own machines and lists
  pub call : (w : World) (x : Call) → call_with L l w x ≡ call_with L (words w.session.settings) w x
  pub opens_among : (k : Lent) (w : World) (s : Settings) → call_with L k w (opening s l) ≡ call_with L k w (opening s (words s))

-- for machines well formed as lent and a list without 0 and MAX
abbrev pub OtherwiseReplaced : Type 0
OtherwiseReplaced = (L : Layout) (l : Lent) → well_formed_up_to L.limit l.m1 ≡ true → well_formed_up_to L.limit l.m2 ≡ true → non_empty l.ignored ≡ true → ignored_ok l.ignored ≡ true
    → AsReplaced L l (λ s. replaced_lent s l)

-- the other answers to a caller that owns its memory
pub record OwnedAsReplaced (l : Lent) : Type 0 where
  pub stop : (k n : ℕ) (s : Session) (m : Memory) → stop_from l k n s m ≡ stop_from (replaced_lent s.settings l) k n s m
  pub weights : (s : Session) (m : Memory) (n k : ℕ) → weights_from l s m n k ≡ weights_from (replaced_lent s.settings l) s m n k
