-- The form of a closed case: the side, the start, and the final weight and the list of one composed state, as words.
use mathlib.Core.Bool.{Bool, ◌&&◌}
use mathlib.Core.List.{List, [], ◌∷◌, ◌++◌, flat_map}
use Rattle.std.specs.Prelude.{Option, None, Some}
use Prim.Native.Nat.{ℕ}
use lib.ListN.{get_or}
use Rattle.lists.specs.Lists.{keep_if, every, interval}
use Rattle.lists.proofs.Compare.{eq_list}
use Rattle.words.specs.Labels.{Checked, good, refused, collect}
use Rattle.words.specs.Weights.{times, is_zero}
use Rattle.words.specs.Matches.{inputs, outputs, labelled, sorted_matches}
use Rattle.words.specs.Machines.{state_count, tr_count, start_word, side_mark, acceptor_mark, state_word, tr_word, first_ok, next_ok, first_of, next_of, list_by, list_from, list_of, no_fall, sorted, well_formed}
use Rattle.words.specs.Ignored.{heard}
use Rattle.words.specs.Sides.{Side, only, both, side_of, direction_at}
use Rattle.words.specs.Filters.{none_at, all_at}
use Rattle.words.specs.Sigmas.{has, sigma_trs, sigma_matches, lookup, given}
use Rattle.words.specs.Steps.{Composition, Triple, Step, walk, kept_along, kept_at, step_of, steps_at, start_at, final_at}
use Rattle.words.specs.Settings.{Settings, settings_ok, Lent, operand1, operand2, composition_of}

pub record Case : Type 0 where
  pub settings : Settings
  pub lent : Lent
  pub at : Triple
  pub wants : List ℕ

-- the settings as six words, machine 1, machine 2, their allowed lists, the triple, the answer
unfoldable pub case_of : List ℕ → List ℕ → List ℕ → Option (List ℕ) → Option (List ℕ) → ℕ → ℕ → ℕ → List ℕ → Case
case_of w m1 m2 a1 a2 s1 s2 f wants = record {
  settings = record { kind = get_or w 0 0; filter = get_or w 1 0; sigma1 = get_or w 2 0; mode1 = get_or w 3 0; sigma2 = get_or w 4 0; mode2 = get_or w 5 0 };
  lent = record { m1 = m1; m2 = m2; allowed1 = a1; allowed2 = a2; ignored = [] };
  at = record { s1 = s1; s2 = s2; f = f };
  wants = wants;
}

-- the words of a transition: input, output, weight, the triple reached
abbrev step_words : Step → List ℕ
step_words t = t.input ∷ t.output ∷ t.weight ∷ t.to.s1 ∷ t.to.s2 ∷ t.to.f ∷ []

-- 1 and the words of all transitions, or 0 and the refusal
abbrev list_words : Checked (List Step) → List ℕ
list_words (refused n) = 0 ∷ n ∷ []
list_words (good ts) = 1 ∷ flat_map step_words ts

-- 2 and the weight, 1 and 0 where the state is not final, or 0 and the refusal
abbrev final_words : Checked (Option ℕ) → List ℕ
final_words (refused n) = 0 ∷ n ∷ []
final_words (good None) = 1 ∷ 0 ∷ []
final_words (good (Some w)) = 2 ∷ w ∷ []

abbrev side_number : Side → ℕ
side_number (only inputs) = 1
side_number (only outputs) = 2
side_number both = 3

-- 1 and the triple, or 0 where there is no start
abbrev start_words : Option Triple → List ℕ
start_words None = 0 ∷ []
start_words (Some t) = 1 ∷ t.s1 ∷ t.s2 ∷ t.f ∷ []

abbrev state_words : Composition → Triple → List ℕ
state_words c t = start_words (start_at c) ++ (final_words (final_at c t) ++ list_words (collect (steps_at c t)))

-- the side, the start, the final weight and the list of a composed state, or 0 and the refusal of the opening
abbrev answer_by : Settings → Lent → Triple → Checked Side → List ℕ
answer_by s l t (refused n) = 0 ∷ n ∷ []
answer_by s l t (good side) = side_number side ∷ state_words (composition_of s l side) t

-- its own `unfolding` line opens all that it calls: a closed case names `answer` alone
unfoldable pub answer : Settings → Lent → Triple → List ℕ
unfolding collect start_at final_at is_zero times steps_at step_of given kept_at kept_along flat_map walk lookup has sigma_trs sigma_matches labelled keep_if sorted_matches none_at all_at every direction_at side_of sorted no_fall interval side_mark acceptor_mark state_count tr_count start_word state_word tr_word first_ok next_ok first_of next_of list_by list_from list_of heard
answer s l t = answer_by s l t (side_of (operand1 s l) (operand2 s l))

-- the settings are in their ranges, the machines are well formed, and the answer is the one wanted
unfoldable pub holds : Case → Bool
holds c =
    settings_ok c.settings && (well_formed c.lent.m1 && (well_formed c.lent.m2 && eq_list (answer c.settings c.lent c.at) c.wants))
