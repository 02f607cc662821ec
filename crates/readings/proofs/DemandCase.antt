-- A closed instance, so that the claim is seen to speak of something: 01's listing in memory full of words without meaning, with a refused opening, an expansion, a run, handing back
-- and a final weight. In a memory of one state record less the run is refused by 13, and there the answers part.
use mathlib.Core.Path.{◌≡◌, refl, sym, ◌∙◌, subst}
use mathlib.Core.List.{List, [], ◌∷◌, Memᴰ as In}
use mathlib.Core.Logic.{inl}
use Rattle.std.specs.Prelude.{Some}
use Prim.Native.Nat.{ℕ, ◌<◌}
use native.Mathlib.Omega.{arith}
use lib.ListN.{replicate}
use Rattle.words.specs.Labels.{good, refused}
use Rattle.words.specs.Matches.{outputs}
use Rattle.words.specs.Sides.{only}
use Rattle.words.specs.Steps.{Composition}
use Rattle.words.specs.Settings.{Settings, Lent, composition_of}
use Rattle.words.proofs.CheckedLaws.{good_is}
use Rattle.calls.specs.Store.{Memory}
use Rattle.calls.specs.Checks.{Session, side_for}
use Rattle.calls.specs.Calls.{open_of}
use Rattle.calls.specs.Sequences.{World, Call, opening, expand, final_weight, records, run, Reply, refusal, accepted, weight, answered, handed, replies, after}
use Rattle.calls.specs.Listing.{settings_of}
use Rattle.calls.proofs.Cases.{Holds}
use Rattle.calls.proofs.StarCases.{plain, lend, session, world, list_part, example1, example2}
use Rattle.readings.specs.Worlds.{world_of, final_in, handed_in, OpeningsRefused, state_at, Sound}
use Rattle.readings.specs.Answers.{ExpandedBy, Answers}
use Rattle.readings.specs.Again.{reply_after}
use Rattle.readings.specs.Larger.{NoShorter, SameUntil}
use Rattle.readings.specs.StorePaths.{Finished, Paths}
use Rattle.readings.specs.Listed.{pick_of}
use Rattle.readings.specs.Demands.{Demand3}
use Rattle.readings.proofs.Openings.{opens}
use Rattle.readings.proofs.StoreWalks.{finished_test, test_finished}
use Rattle.readings.proofs.Demands.{demand_3}

abbrev pub both : Lent
both = lend example1 example2

abbrev pub set : Settings
set = settings_of (plain 0 0)

-- the session that the opening gets is unread
abbrev pub got : Session
got = session (1 ∷ 2 ∷ 3 ∷ 4 ∷ 5 ∷ 6 ∷ []) 7 8 9

-- room for the four states and three transitions that are found; three heads
abbrev pub large : Memory
large = record { heads = 9 ∷ 9 ∷ 9 ∷ []; states = replicate 28 8; trs = replicate 17 6 }

-- room for three states; two heads
abbrev pub small : Memory
small = record { heads = 7 ∷ 7 ∷ []; states = replicate 23 5; trs = replicate 15 4 }

abbrev pub from : Memory → World
from m = world_of (open_of set both got m)

-- expand, an opening with the kind 2, which is refused by 1, run, handing back, expand again, final weight
abbrev calls : List Call
calls = expand 0 ∷ opening (settings_of (plain 2 0)) both ∷ run ∷ records 1 ∷ expand 0 ∷ final_weight 3 ∷ []

abbrev pub with : ℕ → ℕ → Session
with states trs = session (plain 0 0) 1 states trs

-- what the list returns in the larger memory, and in the smaller
abbrev said : List Reply
said =
    answered (list_part 1 1) (with 2 1)
    ∷ answered (refusal 1) (with 2 1)
    ∷ answered accepted (with 4 3)
    ∷ handed (0 ∷ 7 ∷ 4 ∷ 2 ∷ 0 ∷ [])
    ∷ answered (list_part 1 1) (with 4 3)
    ∷ answered (weight (Some 3)) (with 4 3)
    ∷ []

abbrev said_small : List Reply
said_small =
    answered (list_part 1 1) (with 2 1)
    ∷ answered (refusal 1) (with 2 1)
    ∷ answered (refusal 13) (with 3 2)
    ∷ handed (0 ∷ 7 ∷ 4 ∷ 2 ∷ 0 ∷ [])
    ∷ answered (list_part 1 1) (with 3 2)
    ∷ answered (refusal 9) (with 3 2)
    ∷ []

pub rule : side_for set both ≡ good (only outputs)
unfolding Holds
rule = refl

-- both memories have a head and a state record
pub opens_large : (open_of set both got large).answer ≡ good tt
unfolding Holds
opens_large = (opens set both got large).accepts.1 (only outputs, rule, λ t. (omega arith, omega arith))

pub opens_small : (open_of set both got small).answer ≡ good tt
unfolding Holds
opens_small = (opens set both got small).accepts.1 (only outputs, rule, λ t. (omega arith, omega arith))

pub replies_large : replies both (from large) calls ≡ said
unfolding Holds
replies_large = refl

pub replies_small : replies both (from small) calls ≡ said_small
unfolding Holds
replies_small = refl

refused_large : OpeningsRefused both (from large) calls
unfolding Holds
refused_large = (tt, tt)

refused_small : OpeningsRefused both (from small) calls
unfolding Holds
refused_small = (tt, tt)

abbrev pub c : Composition
c = composition_of set both (only outputs)

-- the claim holds of this list, in both memories
claims : (m : Memory) → (open_of set both got m).answer ≡ good tt → OpeningsRefused both (from m) calls → Demand3 set both m c (from m) calls
claims m e refusing =
    let r = demand_3 set both got m e in
    subst (λ x. Demand3 set both m (composition_of set both x) (from m) calls) (good_is (sym r.1 ∙ rule)) (r.2 calls refusing)

pub claimed : Demand3 set both large c (from large) calls
claimed = claims large opens_large refused_large

pub claimed_small : Demand3 set both small c (from small) calls
claimed_small = claims small opens_small refused_small

-- what it leaves: states (0, 0, 0), (1, 0, 0), (1, 1, 0), (2, 2, 0), three of them with one transition
abbrev left : World
left =
    world (with 4 3) (1 ∷ 4 ∷ 3 ∷ [])
    (0 ∷ 0 ∷ 0 ∷ 1 ∷ 1 ∷ 0 ∷ 1 ∷ 0 ∷ 0 ∷ 1 ∷ 2 ∷ 0 ∷ 1 ∷ 1 ∷ 0 ∷ 1 ∷ 3 ∷ 0 ∷ 2 ∷ 2 ∷ 0 ∷ 1 ∷ 0 ∷ 2 ∷ replicate 4 8)
    (1 ∷ 0 ∷ 1 ∷ 1 ∷ 0 ∷ 0 ∷ 7 ∷ 4 ∷ 2 ∷ 0 ∷ 2 ∷ 8 ∷ 3 ∷ 3 ∷ 0 ∷ replicate 2 6)

pub left_there : after both (from large) calls ≡ left
unfolding Holds
left_there = refl

-- its world at the end is sound
pub sound_there : Sound both c (after both (from large) calls)
sound_there = claimed.sound calls [] refl

-- its states have one number each
pub one_number : (i j : ℕ) → i < 4 → j < 4 → state_at left i ≡ state_at left j → i ≡ j
one_number = (subst (Sound both c) left_there sound_there).distinct

-- state 3 has document 01's final weight
pub final_there : (final_in both left 3).answer ≡ good (Some 3)
unfolding Holds
final_there = (subst (Answers both c) left_there (claimed.answers calls [] refl)).finals 3 (omega arith)

-- state 1, expanded in the run, has its words again at the end
pub again_there : handed_in both (after both (from large) calls) 1 ≡ 0 ∷ 7 ∷ 4 ∷ 2 ∷ 0 ∷ []
unfolding Holds
again_there = (claimed.again (expand 0 ∷ opening (settings_of (plain 2 0)) both ∷ run ∷ []) (records 1 ∷ expand 0 ∷ final_weight 3 ∷ []) [] refl).words 1 (omega arith, refl)

-- state 3 is expanded by the calls made, and expand 0, asked again after the run, gives the part that it gave
pub expanded_there : ExpandedBy both (from large) calls 3
unfolding Holds
expanded_there = (claimed.expanded calls [] refl 3).0 (omega arith, refl)

pub given_there : (t : Session) × (reply_after both (from large) (expand 0 ∷ opening (settings_of (plain 2 0)) both ∷ run ∷ records 1 ∷ []) (expand 0) ≡ answered (list_part 1 1) t)
unfolding Holds
given_there = claimed.given [] (opening (settings_of (plain 2 0)) both ∷ run ∷ records 1 ∷ []) (final_weight 3 ∷ []) (expand 0) refl

finished_left : Finished set both c left
unfolding Holds finished_test
finished_left = test_finished set both (only outputs) left refl

-- every found state is expanded there, and has a final weight or none: 3c speaks of it
pub finished_there : Finished set both c (after both (from large) calls)
finished_there = subst (Finished set both c) (sym left_there) finished_left

pub paths_there : Paths both c (pick_of 0) (after both (from large) calls)
paths_there = claimed.paths finished_there

-- the opening is accepted in the larger memory by the smaller one's claim, and hands back the same session
more : NoShorter small large
more = record { heads = omega arith; states = omega arith; trs = omega arith }

pub opens_too : ((open_of set both got large).answer ≡ good tt) × ((open_of set both got large).session ≡ with 1 0)
unfolding Holds
opens_too = let r = claimed_small.larger got large more in (r.accepted, r.session)

-- the smaller memory's answers, up to its 13, are the larger one's
pub same_there : SameUntil said_small said
same_there =
    subst (λ x. SameUntil x said) replies_small
    (subst (SameUntil (replies both (from small) calls)) replies_large
    (claimed_small.larger got large more).same)

-- none of its answers is an 8
pub eight_there : (t : Session) → In (answered (refusal 8) t) said_small → ⊥
eight_there t i = claimed_small.eight (answered (refusal 8) t) (subst (λ x. In (answered (refusal 8) t) x) (sym replies_small) i) t refl

-- a memory without heads is shorter: its opening is refused
abbrev headless : Memory
headless = record { heads = []; states = replicate 28 8; trs = replicate 17 6 }

pub no_heads : (open_of set both got headless).answer ≡ refused 13
unfolding Holds
no_heads = (opens set both got headless).full.1 (only outputs, rule, (record { s1 = 0; s2 = 0; f = 0 }, refl), inl refl)
