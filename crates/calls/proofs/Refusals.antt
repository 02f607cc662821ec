-- The order of the checks, and every condition of form, each by a session or memory one word away from a sound one.
use mathlib.Core.Path.{◌≡◌, refl}
use mathlib.Core.Bool.{true}
use mathlib.Core.List.{List, [], ◌∷◌, Memᴰ as In}
use Prim.Native.Nat.{ℕ}
use lib.Dec.{eqb}
use lib.ListN.{set, replicate}
use Rattle.lists.specs.Lists.{every}
use Rattle.lists.proofs.Members.{every_in}
use borrow.Author.Tests.{eqb-true}
use Rattle.lists.proofs.Compare.{eq_list, eq_list_eq}
use Rattle.words.specs.Labels.{MAX, Checked, good, refused}
use Rattle.words.specs.Settings.{Lent}
use Rattle.calls.specs.Checks.{entered}
use Rattle.calls.specs.Calls.{open_of, expand_of, final_weight_of, run_of, records_of, records_place_with, records_place}
use Rattle.calls.specs.Sequences.{World}
use Rattle.calls.specs.Listing.{settings_of}
use Rattle.calls.proofs.Cases.{Holds}
use Rattle.calls.proofs.StarCases.{plain, lend, lend_with, session, world, example1, example2, marked1, marked2}

-- the number of a refusal, 0 where there is none
abbrev pub refusal_of : {A : Type 0} → Checked A → ℕ
refusal_of (good a) = 0
refusal_of (refused n) = n

-- an opening: settings, ignored labels, machines, memory; and its refusal
pub record Opening : Type 0 where
  pub settings : List ℕ
  pub ignored : List ℕ
  pub machine1 : List ℕ
  pub machine2 : List ℕ
  pub heads : List ℕ
  pub states : List ℕ
  pub wants : ℕ

abbrev listed : List ℕ → List ℕ → List ℕ → List ℕ → List ℕ → List ℕ → ℕ → Opening
listed xs w m1 m2 heads states n = record { settings = w; ignored = xs; machine1 = m1; machine2 = m2; heads = heads; states = states; wants = n }

abbrev at : List ℕ → List ℕ → List ℕ → List ℕ → List ℕ → ℕ → Opening
at = listed []

-- what an opening is refused by
abbrev opens_with : Opening → ℕ
opens_with o =
    refusal_of (open_of (settings_of o.settings) (lend_with o.ignored o.machine1 o.machine2) (session [] 0 0 0) (record { heads = o.heads; states = o.states; trs = [] })).answer

-- kind, filter, sigma 1, mode 1, sigma 2, mode 2
abbrev setting : ℕ → ℕ → ℕ → ℕ → ℕ → ℕ → List ℕ
setting k f s1 m1 s2 m2 = k ∷ f ∷ s1 ∷ m1 ∷ s2 ∷ m2 ∷ []

-- one state whose list has the labels 3:3 and then 2:2: sorted on no side
abbrev falling : List ℕ
falling = 1 ∷ 2 ∷ 1 ∷ 0 ∷ 0 ∷ 0 ∷ 1 ∷ 0 ∷ 0 ∷ 3 ∷ 3 ∷ 0 ∷ 0 ∷ 2 ∷ 2 ∷ 2 ∷ 0 ∷ 0 ∷ 0 ∷ []

-- 5:5 and then 2:2, with an output mark that says sorted: false as lent, and true of 0 2
abbrev false_mark : List ℕ
false_mark = 1 ∷ 2 ∷ 1 ∷ 0 ∷ 1 ∷ 0 ∷ 1 ∷ 0 ∷ 0 ∷ 5 ∷ 5 ∷ 0 ∷ 0 ∷ 2 ∷ 2 ∷ 2 ∷ 0 ∷ 0 ∷ 0 ∷ []

-- 2:2 and then 5:5, with a mark that is true as lent, and would be false of 2 0
abbrev true_mark : List ℕ
true_mark = 1 ∷ 2 ∷ 1 ∷ 0 ∷ 1 ∷ 0 ∷ 1 ∷ 0 ∷ 0 ∷ 2 ∷ 2 ∷ 0 ∷ 0 ∷ 2 ∷ 5 ∷ 5 ∷ 0 ∷ 0 ∷ 0 ∷ []

-- each fault comes with all the later ones that it can come with
unfoldable pub openings : List Opening
openings =
    -- 1: each setting's last value and the one above it
    at (setting 2 0 0 0 0 0) [] [] [] [] 1
    ∷ at (setting 0 6 0 0 0 0) [] [] [] [] 1
    ∷ at (setting 0 0 0 3 0 0) [] [] [] [] 1
    ∷ at (setting 0 0 0 0 0 3) [] [] [] [] 1
    ∷ at (setting MAX MAX 0 MAX 0 MAX) [] [] [] [] 1
    -- 2, 3
    ∷ at (setting 1 5 0 2 0 2) [] [] [] [] 2
    ∷ at (setting 1 2 0 2 0 2) falling [] [] [] 3
    -- 02, 2.7: 18 "after 3" and before 4, where the list "holds 0 or MAX", at any place; without them 4
    ∷ listed (0 ∷ []) (setting 2 0 0 0 0 0) [] [] [] [] 1
    ∷ listed (0 ∷ []) (setting 1 2 0 2 0 2) [] [] [] [] 2
    ∷ listed (0 ∷ []) (setting 1 2 0 2 0 2) falling [] [] [] 3
    ∷ listed (0 ∷ []) (setting 1 2 0 2 5 2) falling falling [] [] 18
    ∷ listed (5 ∷ MAX ∷ 7 ∷ []) (setting 1 2 5 2 0 2) falling falling [] [] 18
    ∷ listed (5 ∷ 7 ∷ []) (setting 1 2 5 2 0 2) falling falling [] [] 4
    ∷ listed (MAX ∷ 5 ∷ []) (setting 0 0 MAX 0 MAX 0) example1 example2 (0 ∷ []) (replicate 6 0) 18
    ∷ listed (5 ∷ []) (setting 0 0 MAX 0 MAX 0) example1 example2 (0 ∷ []) (replicate 6 0) 0
    -- "Malformed is judged on the machines as lent": a false mark that replacement would make true, and a true one that it would make false
    ∷ listed (5 ∷ []) (setting 0 0 MAX 0 MAX 0) false_mark example2 (0 ∷ []) (replicate 6 0) 2
    ∷ listed (5 ∷ []) (setting 0 0 MAX 0 MAX 0) true_mark example2 (0 ∷ []) (replicate 6 0) 0
    -- and then it is unsorted in fact: 5 with a sigma, 7 with an unsorted machine 2
    ∷ listed (5 ∷ []) (setting 0 0 9 0 MAX 0) true_mark example2 (0 ∷ []) (replicate 6 0) 5
    ∷ listed (5 ∷ []) (setting 0 0 MAX 0 MAX 0) true_mark falling (0 ∷ []) (replicate 6 0) 7
    -- 4: either sigma label, before 5 to 7
    ∷ at (setting 1 2 0 2 5 2) falling falling [] [] 4
    ∷ at (setting 1 2 5 2 0 2) falling falling [] [] 4
    -- 5, 6, 7: sigma is judged in fact, with marks or without
    ∷ at (setting 0 0 5 0 5 0) falling falling [] [] 5
    ∷ at (setting 0 0 5 0 5 0) example1 falling [] [] 6
    ∷ at (setting 0 0 MAX 0 5 0) falling falling [] [] 6
    ∷ at (setting 0 0 MAX 0 MAX 0) falling falling [] [] 7
    -- 13: a head, a state record; with one of each, accepted
    ∷ at (setting 0 0 MAX 0 MAX 0) example1 falling [] (replicate 6 0) 13
    ∷ at (setting 0 0 MAX 0 MAX 0) example1 falling (0 ∷ []) (replicate 5 0) 13
    ∷ at (setting 0 0 MAX 0 MAX 0) example1 falling (0 ∷ []) (replicate 6 0) 0
    ∷ at (setting 0 0 MAX 0 MAX 0) falling example2 (0 ∷ []) (replicate 6 0) 0
    ∷ []

openings_hold : every (λ o. eqb (opens_with o) o.wants) openings ≡ true
unfolding Holds openings
openings_hold = refl

-- each opening of the table is refused by its first fault
pub first_fault : (o : Opening) → In o openings → opens_with o ≡ o.wants
first_fault o i = eqb-true _ _ (every_in (λ o. eqb (opens_with o) o.wants) openings_hold i)

-- Case 1 after two expansions, two heads: states 0, 1 and 2 are found, 0 and 1 are expanded, state 2 stands before state 0 in the chain of head 0. A record of each sort
-- is not in use, and a word of each is no record.
abbrev heads₀ : List ℕ
heads₀ = 3 ∷ 2 ∷ []

abbrev states₀ : List ℕ
states₀ = 0 ∷ 0 ∷ 0 ∷ 1 ∷ 1 ∷ 0 ∷ 1 ∷ 0 ∷ 0 ∷ 1 ∷ 2 ∷ 0 ∷ 1 ∷ 1 ∷ 0 ∷ 0 ∷ 0 ∷ 1 ∷ 9 ∷ 9 ∷ 9 ∷ 9 ∷ 9 ∷ 9 ∷ 9 ∷ []

abbrev trs₀ : List ℕ
trs₀ = 1 ∷ 0 ∷ 1 ∷ 1 ∷ 0 ∷ 0 ∷ 7 ∷ 4 ∷ 2 ∷ 0 ∷ 9 ∷ 9 ∷ 9 ∷ 9 ∷ 9 ∷ 9 ∷ []

abbrev sides : ℕ → World
sides k = world (session (plain 0 0) k 3 2) heads₀ states₀ trs₀

abbrev counts : ℕ → ℕ → World
counts states trs = world (session (plain 0 0) 1 states trs) heads₀ states₀ trs₀

abbrev heads : List ℕ → World
heads h = world (session (plain 0 0) 1 3 2) h states₀ trs₀

abbrev state : ℕ → ℕ → World
state i v = world (session (plain 0 0) 1 3 2) heads₀ (set states₀ i v) trs₀

abbrev tr : ℕ → ℕ → World
tr i v = world (session (plain 0 0) 1 3 2) heads₀ states₀ (set trs₀ i v)

unfoldable pub broken : List World
broken =
    -- "session side differs from the rule"
    sides 0
    ∷ sides 2
    ∷ sides 3
    -- "used above room"; a used count that no slice could reach
    ∷ counts 5 2
    ∷ counts 3 4
    ∷ counts MAX 2
    ∷ counts 3 MAX
    -- used records that were never written
    ∷ counts 4 2
    ∷ counts 3 3
    -- "heads at most the used states, and not empty if any is used"
    ∷ heads (4 ∷ 2 ∷ [])
    ∷ heads (3 ∷ 4 ∷ [])
    ∷ heads []
    -- "pairs in range; f at most 2"; "expanded (0 or 1)", with a first and without
    ∷ state 0 3
    ∷ state 1 65536
    ∷ state 7 3
    ∷ state 14 3
    ∷ state 9 2
    ∷ state 15 2
    -- "next below own number"
    ∷ state 5 1
    ∷ state 17 3
    -- "unexpanded means first 0; firsts .. used"
    ∷ state 16 1
    ∷ state 4 3
    -- "targets used"
    ∷ tr 3 3
    -- "transition chains consecutive, the last used ending in 0"
    ∷ tr 4 1
    ∷ tr 4 3
    ∷ tr 9 3
    ∷ tr 9 2
    ∷ []

-- what form does not ask: it is no test of how memory came about
unfoldable pub sound : List World
sound =
    sides 1
    -- no state, and no used transition of any; fewer transitions
    ∷ world (session (plain 0 0) 1 0 0) (0 ∷ 0 ∷ []) states₀ trs₀
    ∷ world (session (plain 0 0) 1 0 0) [] [] []
    -- heads and chains that lead elsewhere, or nowhere
    ∷ heads (0 ∷ 0 ∷ [])
    ∷ heads (2 ∷ 3 ∷ [])
    ∷ heads (1 ∷ [])
    ∷ state 17 2
    -- a triple twice, another pair at state 0, any f up to 2
    ∷ state 13 0
    ∷ state 0 2
    ∷ state 1 2
    ∷ state 2 2
    -- a list that begins with another's record or is empty, a chain that goes on
    ∷ state 4 2
    ∷ state 4 0
    ∷ tr 4 2
    -- labels and weights
    ∷ tr 0 MAX
    ∷ tr 2 MAX
    -- words that are not in use
    ∷ state 18 MAX
    ∷ state 24 MAX
    ∷ tr 10 MAX
    ∷ tr 15 MAX
    ∷ []

abbrev lent : Lent
lent = lend example1 example2

-- what expand, final weight and run are refused by
abbrev answers : World → List ℕ
answers w =
    refusal_of (expand_of lent w.session w.memory 0).answer
    ∷ refusal_of (final_weight_of lent w.session w.memory 0).answer
    ∷ refusal_of (run_of lent w.session w.memory).answer
    ∷ records_of lent w.session w.memory 0

broken_hold : every (λ w. eq_list (answers w) (8 ∷ 8 ∷ 8 ∷ [])) broken ≡ true
unfolding Holds broken eq_list
broken_hold = refl

-- each of these worlds gets 8 from every call, and an empty part handed back
pub each_broken : (w : World) → In w broken → answers w ≡ 8 ∷ 8 ∷ 8 ∷ []
each_broken w i = eq_list_eq _ _ (every_in (λ w. eq_list (answers w) (8 ∷ 8 ∷ 8 ∷ [])) broken_hold i)

sound_hold : every (λ w. eqb (refusal_of (entered lent w.session w.memory)) 0) sound ≡ true
unfolding Holds sound
sound_hold = refl

-- each of these worlds passes the checks 1 to 8
pub each_sound : (w : World) → In w sound → refusal_of (entered lent w.session w.memory) ≡ 0
each_sound w i = eqb-true _ _ (every_in (λ w. eqb (refusal_of (entered lent w.session w.memory)) 0) sound_hold i)

-- where handed-back records lie: those of state 1 begin with word 5; a state that is not expanded, or not found, has none, at the start; the third of three records, in form with one state
pub placed :
    (let w = sides 1 in let place = records_place lent w.session w.memory in (place 1 ≡ 5) × (place 2 ≡ 0) × (place 3 ≡ 0))
    × (let w = world (session (plain 0 0) 1 1 3) (1 ∷ []) (0 ∷ 0 ∷ 0 ∷ 1 ∷ 3 ∷ 0 ∷ []) (replicate 15 0) in records_place lent w.session w.memory 0 ≡ 10)
unfolding Holds records_place_with
placed = ((refl, refl, refl), refl)

-- a later call with several faults: what it is lent, its world, the state; and what expand, final weight and run are refused by
pub record Later : Type 0 where
  pub ignored : List ℕ
  pub machine1 : List ℕ
  pub machine2 : List ℕ
  pub world : World
  pub state : ℕ
  pub wants : List ℕ

abbrev later_listed : List ℕ → List ℕ → List ℕ → World → ℕ → List ℕ → Later
later_listed xs m1 m2 w n wants = record { ignored = xs; machine1 = m1; machine2 = m2; world = w; state = n; wants = wants }

abbrev later : List ℕ → List ℕ → World → ℕ → List ℕ → Later
later = later_listed []

abbrev later_answers : Later → List ℕ
later_answers c =
    let l = lend_with c.ignored c.machine1 c.machine2 in
    let w = c.world in
    refusal_of (expand_of l w.session w.memory c.state).answer
    ∷ refusal_of (final_weight_of l w.session w.memory c.state).answer
    ∷ refusal_of (run_of l w.session w.memory).answer
    ∷ records_of l w.session w.memory c.state

-- a session that breaks 8 in every way, with these settings
abbrev wrong : List ℕ → World
wrong w = world (session w 9 MAX MAX) [] [] []

-- one state, final with a cost that is too large when taken twice
abbrev heavy : List ℕ
heavy = 1 ∷ 0 ∷ 1 ∷ 0 ∷ 0 ∷ 0 ∷ 0 ∷ 1 ∷ 2147483648 ∷ []

-- both machines so, with state 0 found
abbrev heaviest : World
heaviest = world (session (plain 0 0) 1 1 0) (1 ∷ []) (replicate 6 0) []

-- state 0 of two machines with marks 1, side both, not expanded, with room for its four transitions
abbrev one_state_lem : World
one_state_lem = world (session (plain 0 0) 2 1 0) (1 ∷ []) (replicate 6 0) (replicate 20 0)

unfoldable pub later_calls : List Later
later_calls =
    -- 1 to 7 and 18 by the session's own settings, before 8 and 9
    later [] [] (wrong (setting 2 0 0 0 0 0)) MAX (1 ∷ 1 ∷ 1 ∷ [])
    ∷ later [] [] (wrong (setting 0 0 0 0 0 0)) MAX (2 ∷ 2 ∷ 2 ∷ [])
    ∷ later falling [] (wrong (setting 0 0 0 0 0 0)) MAX (3 ∷ 3 ∷ 3 ∷ [])
    ∷ later falling falling (wrong (setting 0 0 0 0 0 0)) MAX (4 ∷ 4 ∷ 4 ∷ [])
    ∷ later falling falling (wrong (setting 0 0 5 0 5 0)) MAX (5 ∷ 5 ∷ 5 ∷ [])
    ∷ later falling falling (wrong (setting 0 0 MAX 0 5 0)) MAX (6 ∷ 6 ∷ 6 ∷ [])
    ∷ later falling falling (wrong (setting 0 0 MAX 0 MAX 0)) MAX (7 ∷ 7 ∷ 7 ∷ [])
    -- 18 after 3 and before 4; a call that is sound but for the list, and hands back nothing of an expanded state
    ∷ later_listed (0 ∷ []) falling [] (wrong (setting 0 0 0 0 0 0)) MAX (3 ∷ 3 ∷ 3 ∷ [])
    ∷ later_listed (MAX ∷ []) falling falling (wrong (setting 0 0 0 0 0 0)) MAX (18 ∷ 18 ∷ 18 ∷ [])
    ∷ later_listed (7 ∷ 0 ∷ []) example1 example2 (sides 1) 1 (18 ∷ 18 ∷ 18 ∷ [])
    -- 8: under another list than the opening's the side of the rule is another one
    ∷ later marked1 marked2 one_state_lem 0 (0 ∷ 0 ∷ 0 ∷ [])
    ∷ later_listed (77 ∷ []) marked1 marked2 one_state_lem 0 (8 ∷ 8 ∷ 8 ∷ [])
    -- 8 before 9
    ∷ later example1 example2 (wrong (setting 0 0 MAX 0 MAX 0)) MAX (8 ∷ 8 ∷ 8 ∷ [])
    -- 9: not of a run
    ∷ later example1 example2 (sides 1) 3 (9 ∷ 9 ∷ 0 ∷ [])
    ∷ later example1 example2 (sides 1) MAX (9 ∷ 9 ∷ 0 ∷ [])
    -- 9 before 12: past its end memory reads as the triple 0, 0, 0, which is that of state 0
    ∷ later heavy heavy heaviest 1 (9 ∷ 9 ∷ 0 ∷ [])
    ∷ later heavy heavy heaviest 0 (0 ∷ 12 ∷ 0 ∷ [])
    -- none: the records of an expanded state
    ∷ later example1 example2 (sides 1) 1 (0 ∷ 0 ∷ 0 ∷ 0 ∷ 7 ∷ 4 ∷ 2 ∷ 0 ∷ [])
    ∷ []

later_hold : every (λ c. eq_list (later_answers c) c.wants) later_calls ≡ true
unfolding Holds later_calls eq_list
later_hold = refl

-- each call of the table is refused by its first fault
pub later_fault : (c : Later) → In c later_calls → later_answers c ≡ c.wants
later_fault c i = eq_list_eq _ _ (every_in (λ c. eq_list (later_answers c) c.wants) later_hold i)
