-- 02, 2.8, over whole calls: "Every answer is that of 2.7 for the list without them, save that side marks still read as 0 and 18 judges the list as lent."
use Rattle.std.specs.Prelude.{◌≡◌, true, false, not, ◌||◌, cond, List, [], ℕ, eqb, Option}
use Rattle.lists.specs.Lists.{keep_if}
use Rattle.words.specs.Labels.{eps_label, Checked, refuse_if}
use Rattle.words.specs.Weights.{kind_of}
use Rattle.words.specs.Filters.{filter_of}
use Rattle.words.specs.Matches.{MatchType, inputs, outputs}
use Rattle.words.specs.Machines.{machine_of, acceptor_mark, well_formed_up_to}
use Rattle.words.specs.Ignored.{ignored_ok, relabelled, otherwise, mark_read, acceptor_after, words_relabelled}
use Rattle.words.specs.Sides.{Side, side_of, non_empty}
use Rattle.words.specs.Sigmas.{has, Operand}
use Rattle.words.specs.Steps.{Composition}
use Rattle.words.specs.Settings.{Settings, settings_ok, Lent, operand_by, composition_of}
use Rattle.calls.specs.Store.{Layout}
use Rattle.calls.specs.Checks.{side_for_with}
use Rattle.calls.specs.Ignoring.{replaced_lent, AsReplaced}

-- "the list without them"
abbrev pub without_sigmas : Settings → List ℕ → List ℕ
without_sigmas s xs = keep_if (λ x. not (eqb x s.sigma1 || eqb x s.sigma2)) xs

-- 2.7: a label of the list counts as 0
abbrev pub silenced : List ℕ → ℕ → ℕ
silenced xs x = cond (has x xs) eps_label x

-- 2.7's definition for the list xs. The list as lent stands apart: by it the side marks are read, and 18 judges it. With the same list twice this is 2.7.
module _ (xs lent : List ℕ) where
  abbrev pub operand_silenced : MatchType → List ℕ → ℕ → ℕ → Option (List ℕ) → Operand
  operand_silenced on m sigma mode allowed =
      operand_by on (relabelled on (silenced xs) (machine_of m)) (mark_read on lent m) (otherwise xs (acceptor_mark m) (acceptor_after on (silenced xs) m)) sigma mode allowed

  abbrev pub silenced1 : Settings → Lent → Operand
  silenced1 s l = operand_silenced outputs l.m1 s.sigma1 s.mode1 l.allowed1

  abbrev pub silenced2 : Settings → Lent → Operand
  silenced2 s l = operand_silenced inputs l.m2 s.sigma2 s.mode2 l.allowed2

  -- the checks 1 to 7 with 18
  abbrev pub side_silenced : Layout → Settings → Lent → Checked Side
  side_silenced L s l =
      refuse_if (not (settings_ok s)) 1
      (refuse_if (not (well_formed_up_to L.limit l.m1)) 2
      (refuse_if (not (well_formed_up_to L.limit l.m2)) 3
      (refuse_if (not (ignored_ok lent)) 18
      (side_of (silenced1 s l) (silenced2 s l)))))

  abbrev pub composition_silenced : Settings → Lent → Side → Composition
  composition_silenced s l side = record { kind = kind_of s.kind; filter = filter_of s.filter; side = side; operand1 = silenced1 s l; operand2 = silenced2 s l }

-- 2.7's replaced words for the list xs, their side marks 0, and no list
abbrev pub lent_silenced : List ℕ → Lent → Lent
lent_silenced xs l = record {
  m1 = words_relabelled outputs (silenced xs) l.m1;
  m2 = words_relabelled inputs (silenced xs) l.m2;
  allowed1 = l.allowed1;
  allowed2 = l.allowed2;
  ignored = [];
}

-- Every answer is that of 2.7 for the list xs, but for side marks and 18. What a call reads of what it is lent is the side, past it the composition, and the number of states of
-- each machine, which no list changes.
pub record AsSilenced (L : Layout) (s : Settings) (l : Lent) (xs : List ℕ) : Type 0 where
  pub side : side_for_with L s l ≡ side_silenced xs l.ignored L s l
  pub composition : well_formed_up_to L.limit l.m1 ≡ true → well_formed_up_to L.limit l.m2 ≡ true → (side : Side) → composition_of s l side ≡ composition_silenced xs l.ignored s l side
  -- the words with labels replaced, of which more is said: of lists of calls, of a caller that owns its memory and of fan-outs
  pub words : replaced_lent s l ≡ lent_silenced xs l

-- "both sigma labels are exempt": the list without them
abbrev pub SigmasExempt : Type 0
SigmasExempt = (L : Layout) (s : Settings) (l : Lent) → AsSilenced L s l (without_sigmas s l.ignored)

-- and call by call: "every answer is that of 2.7", of 2.7's replaced words. For machines well formed as lent and a list without 0 and MAX
abbrev pub ExemptCalls : Type 0
ExemptCalls = (L : Layout) (l : Lent) → well_formed_up_to L.limit l.m1 ≡ true → well_formed_up_to L.limit l.m2 ≡ true → non_empty l.ignored ≡ true → ignored_ok l.ignored ≡ true
    → AsReplaced L l (λ s. lent_silenced (without_sigmas s l.ignored) l)

-- "Without an overlap no answer changes.": the list itself
abbrev pub NoOverlap : Type 0
NoOverlap = (L : Layout) (s : Settings) (l : Lent) → has s.sigma1 l.ignored ≡ false → has s.sigma2 l.ignored ≡ false → AsSilenced L s l l.ignored
