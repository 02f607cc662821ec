-- Machines that are well formed, and malformed machines, each one word away from a well-formed one; settings in and out of their ranges; products of weights; starts.
-- Each table under one theorem.
use mathlib.Core.Path.{◌≡◌, refl}
use mathlib.Core.Bool.{true, false, not}
use mathlib.Core.List.{List, [], ◌∷◌, ◌++◌, Memᴰ as In}
use Rattle.std.specs.Prelude.{Option, None, Some}
use Prim.Native.Nat.{ℕ}
use lib.ListN.{set, take}
use borrow.Author.Tests.{not-true}
use Rattle.lists.specs.Lists.{every, interval, keep_if}
use Rattle.lists.proofs.Members.{every_in}
use Rattle.words.specs.Labels.{MAX, Checked, good, refused}
use Rattle.words.specs.Weights.{cost, count, times}
use Rattle.words.specs.Machines.{state_count, tr_count, start_word, side_mark, acceptor_mark, state_word, tr_word, first_ok, next_ok, first_of, next_of, list_by, list_from, list_of, no_fall, sorted, state_ok, tr_ok, acceptor, marks_ok, well_formed, size_up_to, well_formed_up_to}
use Rattle.words.specs.Matches.{MatchType, inputs, outputs, labelled}
use Rattle.words.specs.Sigmas.{has, is_allowed, sigma_trs}
use Rattle.words.specs.Sides.{Side, only, both, side_of, direction_at}
use Rattle.words.specs.Steps.{Triple, start_at}
use Rattle.words.specs.Settings.{Settings, settings_ok, operand_of, composition_of}

-- Two states and three transitions. State 0 has the list 1, 3 and state 1 the list 2, 3, final with weight 4: the lists share a tail. Inputs rise in both lists, outputs fall in one.
abbrev sound : List ℕ
sound = 2 ∷ 3 ∷ 1 ∷ 0 ∷ 0 ∷ 0 ∷ 1 ∷ 0 ∷ 0 ∷ 2 ∷ 1 ∷ 4 ∷ 1 ∷ 8 ∷ 0 ∷ 1 ∷ 3 ∷ 2 ∷ 6 ∷ 2 ∷ 1 ∷ 3 ∷ 3 ∷ 7 ∷ 3 ∷ 0 ∷ 0 ∷ []

-- one state whose list is record 1; record 2, whose labels fall to those of record 3, stands in no list
abbrev unlisted : List ℕ
unlisted = 1 ∷ 3 ∷ 1 ∷ 1 ∷ 1 ∷ 1 ∷ 1 ∷ 0 ∷ 0 ∷ 1 ∷ 1 ∷ 0 ∷ 0 ∷ 0 ∷ 5 ∷ 5 ∷ 0 ∷ 0 ∷ 3 ∷ 4 ∷ 4 ∷ 0 ∷ 0 ∷ 0 ∷ []

unfoldable pub well_formed_ones : List (List ℕ)
well_formed_ones =
    sound
    -- marks: inputs are sorted, outputs are not; no start
    ∷ set sound 3 1
    ∷ set sound 4 2
    ∷ set sound 2 0
    -- "no label falls within any list": records that stand in no list do not count
    ∷ unlisted
    -- no states: every side is sorted and input equals output everywhere
    ∷ (0 ∷ 0 ∷ 0 ∷ 1 ∷ 1 ∷ 1 ∷ [])
    ∷ []

unfoldable pub malformed_ones : List (List ℕ)
malformed_ones =
    -- no words, a header cut short, a word too few, a word too many
    []
    ∷ take 5 sound
    ∷ take 26 sound
    ∷ (sound ++ (0 ∷ []))
    -- counts that lie
    ∷ set sound 0 3
    ∷ set sound 1 4
    -- "Start plus one is at most S"
    ∷ set sound 2 3
    -- a mark out of its range
    ∷ set sound 3 3
    ∷ set sound 4 3
    ∷ set sound 5 2
    -- a false mark: outputs are not sorted, inputs are, input differs from output in a record
    ∷ set sound 4 1
    ∷ set sound 3 2
    ∷ set sound 5 1
    -- "input equals output everywhere": also in a record that stands in no list, in the first and in the last
    ∷ set unlisted 14 6
    ∷ set unlisted 10 2
    ∷ set unlisted 19 5
    -- mark 2 whose only fall stands in no list
    ∷ set unlisted 3 2
    ∷ (0 ∷ 0 ∷ 0 ∷ 2 ∷ 0 ∷ 0 ∷ [])
    -- "a first at most T", "final 0 or 1", "final weight (0 if not final)"
    ∷ set sound 6 4
    ∷ set sound 10 2
    ∷ set sound 8 1
    -- a label MAX, "a target below S"
    ∷ set sound 12 MAX
    ∷ set sound 13 MAX
    ∷ set sound 15 2
    ∷ set sound 25 2
    -- "next is 0 or above its own number, up to T"
    ∷ set sound 16 1
    ∷ set sound 21 1
    ∷ set sound 21 4
    -- a record that stands in no list is checked too
    ∷ set unlisted 17 1
    ∷ []

well_formed_hold : every well_formed well_formed_ones ≡ true
unfolding well_formed_ones well_formed_up_to size_up_to state_ok tr_ok marks_ok acceptor every interval sorted no_fall side_mark acceptor_mark state_count tr_count start_word state_word tr_word first_ok next_ok first_of next_of list_by list_from list_of
well_formed_hold = refl

malformed_hold : every (λ m. not (well_formed m)) malformed_ones ≡ true
unfolding malformed_ones well_formed_up_to size_up_to state_ok tr_ok marks_ok acceptor every interval sorted no_fall side_mark acceptor_mark state_count tr_count start_word state_word tr_word first_ok next_ok first_of next_of list_by list_from list_of
malformed_hold = refl

pub well_formed_ones_lem : (m : List ℕ) → In m well_formed_ones → well_formed m ≡ true
well_formed_ones_lem m i = every_in well_formed well_formed_hold i

pub malformed_ones_lem : (m : List ℕ) → In m malformed_ones → well_formed m ≡ false
malformed_ones_lem m i = not-true (well_formed m) (every_in (λ n. not (well_formed n)) malformed_hold i)

-- a cost reaches MAX only as zero; a count may be MAX
pub products :
    (times cost 2147483647 2147483647 ≡ Some 4294967294)
    × (times cost 2147483648 2147483647 ≡ None)
    × (times cost MAX 4294967294 ≡ Some MAX)
    × (times cost 1 MAX ≡ Some MAX)
    × (times cost 4294967294 0 ≡ Some 4294967294)
    × (times count 65535 65537 ≡ Some MAX)
    × (times count 65536 65536 ≡ None)
    × (times count 0 MAX ≡ Some 0)
unfolding times
products = (refl, refl, refl, refl, refl, refl, refl, refl)

abbrev settings : ℕ → ℕ → ℕ → ℕ → Settings
settings kind filter mode1 mode2 = record { kind = kind; filter = filter; sigma1 = MAX; mode1 = mode1; sigma2 = MAX; mode2 = mode2 }

-- "kind, filter or rewrite mode outside its range"
pub ranges :
    (settings_ok (settings 1 5 2 2) ≡ true)
    × (settings_ok (settings 2 0 0 0) ≡ false)
    × (settings_ok (settings 0 6 0 0) ≡ false)
    × (settings_ok (settings 0 0 3 0) ≡ false)
    × (settings_ok (settings 0 0 0 3) ≡ false)
unfolding settings_ok
ranges = (refl, refl, refl, refl, refl)

-- "in the allowed list (no list: all; empty list: none)", "any words in any order"
pub allowed_lists :
    (is_allowed None 5 ≡ true)
    × (is_allowed (Some []) 5 ≡ false)
    × (is_allowed (Some (4 ∷ [])) 5 ≡ false)
    × (is_allowed (Some (6 ∷ [])) 5 ≡ false)
    × (is_allowed (Some (6 ∷ 5 ∷ 4 ∷ [])) 5 ≡ true)
unfolding has
allowed_lists = (refl, refl, refl, refl, refl)

-- one state whose list has the labels 3:3 and then 2:2: sorted on no side
abbrev falling : List ℕ
falling = 1 ∷ 2 ∷ 1 ∷ 0 ∷ 0 ∷ 0 ∷ 1 ∷ 0 ∷ 0 ∷ 3 ∷ 3 ∷ 0 ∷ 0 ∷ 2 ∷ 2 ∷ 2 ∷ 0 ∷ 0 ∷ 0 ∷ []

-- the side for two machines with these sigma labels
abbrev side_of_words : ℕ → ℕ → List ℕ → List ℕ → Checked Side
side_of_words sigma1 sigma2 m1 m2 = side_of (operand_of outputs m1 sigma1 0 None) (operand_of inputs m2 sigma2 0 None)

-- refusals 4 to 7 in their order, each with all the later ones that it can come with
pub side_refusals :
    (side_of_words 0 5 falling falling ≡ refused 4)
    × (side_of_words 5 0 falling falling ≡ refused 4)
    × (side_of_words 5 5 falling falling ≡ refused 5)
    × (side_of_words MAX 5 falling falling ≡ refused 6)
    × (side_of_words MAX MAX falling falling ≡ refused 7)
    × (side_of_words MAX 5 falling sound ≡ good (only inputs))
unfolding side_of sorted no_fall every interval side_mark state_count tr_count state_word tr_word first_ok next_ok first_of next_of list_by list_from list_of
side_refusals = (refl, refl, refl, refl, refl, refl)

-- two states: state 0 has no list, state 1 one transition 9:9
abbrev second : List ℕ
second = 2 ∷ 1 ∷ 1 ∷ 0 ∷ 0 ∷ 0 ∷ 0 ∷ 0 ∷ 0 ∷ 1 ∷ 0 ∷ 0 ∷ 9 ∷ 9 ∷ 0 ∷ 0 ∷ 0 ∷ []

-- the direction under "both" at a pair of states of two machines with these sigma labels
abbrev direction_of_words : ℕ → ℕ → List ℕ → List ℕ → ℕ → ℕ → Checked MatchType
direction_of_words sigma1 sigma2 m1 m2 s1 s2 = direction_at both (operand_of outputs m1 sigma1 0 None) (operand_of inputs m2 sigma2 0 None) s1 s2

-- "length 1 at most length 2 gives input", each at its own state; the state with a sigma transition decides before that; "two such are refusal 10"
pub directions :
    (direction_of_words MAX MAX second second 0 1 ≡ good inputs)
    × (direction_of_words MAX MAX second second 1 1 ≡ good inputs)
    × (direction_of_words MAX MAX second second 1 0 ≡ good outputs)
    × (direction_of_words 9 MAX second falling 1 0 ≡ good outputs)
    × (direction_of_words 9 MAX second falling 0 0 ≡ good inputs)
    × (direction_of_words MAX 9 falling second 0 1 ≡ good inputs)
    × (direction_of_words MAX 9 falling second 0 0 ≡ good outputs)
    × (direction_of_words 9 9 second second 1 1 ≡ refused 10)
unfolding direction_at sigma_trs labelled keep_if state_count tr_count state_word tr_word first_ok next_ok first_of next_of list_by list_from list_of
directions = (refl, refl, refl, refl, refl, refl, refl, refl)

-- the start of the composition of two machines
abbrev start_of_words : List ℕ → List ℕ → Option Triple
start_of_words m1 m2 = start_at (composition_of (settings 0 0 0 0) (record { m1 = m1; m2 = m2; allowed1 = None; allowed2 = None; ignored = [] }) both)

-- start plus one: the pair of starts with f = 0, or none where a machine has no start
pub starts :
    (start_of_words (set sound 2 2) sound ≡ Some (record { s1 = 1; s2 = 0; f = 0 }))
    × (start_of_words (set sound 2 0) sound ≡ None)
    × (start_of_words sound (set sound 2 0) ≡ None)
unfolding start_at start_word
starts = (refl, refl, refl)
