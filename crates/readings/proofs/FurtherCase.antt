-- Why 3c is kept for filters 0 to 2: the two machines of Example under null, trivial and no-match, opened and run, by counts. Each of the first three filters lists the four pairs
-- of paths that match once, of weights 72, 48, 240 and 360 (`counts_by_alternate`): 720. Trivial lists one of them three times and no-match twice; null loses two. By costs the sum
-- is the least, and trivial's is right.
use mathlib.Core.Path.{◌≡◌, refl, sym, ◌∙◌, ap, subst}
use mathlib.Core.Bool.{Bool, true}
use mathlib.Core.List.Memᴰ
use mathlib.Core.List.Memᴰ.{head as here}
use mathlib.Core.List.Memᴰ.{tail as there}
use mathlib.Core.List.{List, [], ◌∷◌, map, Memᴰ as In}
use mathlib.Core.Logic.{◌≢◌, ◌↔◌, inr, ⊎_elim}
use Prim.Native.Nat.{ℕ}
use native.Mathlib.Omega.{arith}
use lib.Dec.{leb}
use lib.ListN.{replicate, length}
use borrow.Author.Tests.{leb-true}
use Rattle.lists.specs.Lists.{every}
use Rattle.lists.proofs.Members.{every_in}
use Rattle.papers.specs.Weight.{Cost, finite, infinite, least, Kind, count, semiring}
use Rattle.papers.specs.Paths.{Accepting}
use Rattle.papers.specs.Sums.{total, LeastIs, weight_of_pair}
use Rattle.words.specs.Labels.{good}
use Rattle.words.specs.Machines.{machine_of}
use Rattle.words.specs.Matches.{outputs}
use Rattle.words.specs.Ignored.{heard}
use Rattle.words.specs.Sigmas.{has}
use Rattle.words.specs.Sides.{Side, only}
use Rattle.words.specs.Steps.{Composition}
use Rattle.words.specs.Settings.{Settings, Lent, composition_of}
use Rattle.words.specs.AsPapers.{exact}
use Rattle.words.proofs.CheckedLaws.{good_is}
use Rattle.words.proofs.ListLaws.{list_member}
use Rattle.calls.specs.Checks.{side_for}
use Rattle.calls.specs.Calls.{open_of}
use Rattle.calls.specs.Sequences.{World, opening, run, after, after_with, call_with}
use Rattle.calls.specs.Listing.{settings_of}
use Rattle.calls.proofs.Cases.{Holds}
use Rattle.calls.proofs.StarCases.{plain, lend, session, world}
use Rattle.readings.specs.Listed.{goods, listed_at}
use Rattle.readings.specs.StorePaths.{Settled, AcceptingRecords, machine1, machine2, AgreeingPair, moves_of_records, pair_of_records, records_weight}
use Rattle.readings.specs.Further.{EpsilonFree, OneEpsilonFree, NoneLost, StepByStep, Further}
use Rattle.readings.proofs.Example.{words1, words2, long, short}
use Rattle.readings.proofs.StoreWalks.{settled_test, test_settled, walks, shallow, just_walks}
use Rattle.readings.proofs.Further.{further_claim}

abbrev lent : Lent
lent = lend words1 words2

-- by this kind of weight, with this filter
abbrev set : ℕ → ℕ → Settings
set kind filter = settings_of (plain kind filter)

abbrev with : ℕ → ℕ → Composition
with kind filter = composition_of (set kind filter) lent (only outputs)

-- a session and slices of words without meaning
abbrev any : World
any = world (session (plain 1 2) 7 8 9) (9 ∷ 9 ∷ []) (replicate 32 8) (replicate 47 8)

-- What is shown of a store: an opening and a run, both accepted, leave it. `accepting` are its accepting paths, with their pairs, their exact weights and the sum of these.
pub record ShownStore (kind filter : ℕ) (left : World) (accepting : List (List ℕ)) (pairs : List (List ℕ × List ℕ)) (weights : List (semiring (with kind filter).kind).Element)
    (sum : (semiring (with kind filter).kind).Element) : Type 0 where
  pub rule : side_for (set kind filter) lent ≡ good (only outputs)
  pub opens : (open_of (set kind filter) lent any.session any.memory).answer ≡ good tt
  pub left_by : after lent any (opening (set kind filter) lent ∷ run ∷ []) ≡ left
  pub settled : Settled (set kind filter) lent left
  pub just_these : (rs : List ℕ) → AcceptingRecords lent left rs ↔ In rs accepting
  pub their_pairs : map (pair_of_records (with kind filter) left) accepting ≡ pairs
  pub their_weights : map (records_weight (with kind filter).kind lent left 0) accepting ≡ weights
  pub their_sum : total (semiring (with kind filter).kind) (λ x. x) weights ≡ sum

-- null: states (0, 0, 0), (1, 1, 0), (2, 2, 0)
abbrev left3 : World
left3 =
    world (session (plain 1 3) 1 3 3) (3 ∷ 0 ∷ [])
    (0 ∷ 0 ∷ 0 ∷ 1 ∷ 1 ∷ 0 ∷ 1 ∷ 1 ∷ 0 ∷ 1 ∷ 3 ∷ 1 ∷ 2 ∷ 2 ∷ 0 ∷ 1 ∷ 0 ∷ 2 ∷ replicate 14 8)
    (1 ∷ 7 ∷ 4 ∷ 1 ∷ 2
    ∷ 3 ∷ 9 ∷ 60 ∷ 2 ∷ 0
    ∷ 2 ∷ 8 ∷ 2 ∷ 2 ∷ 0
    ∷ replicate 32 8)

pub by_null : ShownStore 1 3 left3
    ((1 ∷ 3 ∷ []) ∷ (2 ∷ []) ∷ [])
    ((long, long) ∷ (short, short) ∷ [])
    (48 ∷ 360 ∷ [])
    408
unfolding Holds moves_of_records listed_at goods settled_test walks shallow total
by_null = record {
  rule = refl;
  opens = refl;
  left_by = refl;
  settled = test_settled _ _ _ refl;
  just_these = just_walks lent left3 4 refl;
  their_pairs = refl;
  their_weights = refl;
  their_sum = refl;
}

-- trivial: states (0, 0, 0), (1, 0, 0), (0, 1, 0), (1, 1, 0), (2, 2, 0)
abbrev left4 : World
left4 =
    world (session (plain 1 4) 1 5 9) (5 ∷ 3 ∷ [])
    (0 ∷ 0 ∷ 0 ∷ 1 ∷ 1 ∷ 0 ∷ 1 ∷ 0 ∷ 0 ∷ 1 ∷ 5 ∷ 0 ∷ 0 ∷ 1 ∷ 0 ∷ 1 ∷ 7 ∷ 2 ∷ 1 ∷ 1 ∷ 0 ∷ 1 ∷ 9 ∷ 1 ∷ 2 ∷ 2 ∷ 0 ∷ 1 ∷ 0 ∷ 4 ∷ 8 ∷ 8 ∷ [])
    (1 ∷ 0 ∷ 1 ∷ 1 ∷ 2
    ∷ 0 ∷ 7 ∷ 4 ∷ 2 ∷ 3
    ∷ 1 ∷ 7 ∷ 4 ∷ 3 ∷ 4
    ∷ 3 ∷ 9 ∷ 60 ∷ 4 ∷ 0
    ∷ 0 ∷ 7 ∷ 4 ∷ 3 ∷ 6
    ∷ 2 ∷ 9 ∷ 12 ∷ 4 ∷ 0
    ∷ 1 ∷ 0 ∷ 1 ∷ 3 ∷ 8
    ∷ 3 ∷ 8 ∷ 10 ∷ 4 ∷ 0
    ∷ 2 ∷ 8 ∷ 2 ∷ 4 ∷ 0
    ∷ 8 ∷ 8 ∷ [])

pub by_trivial : ShownStore 1 4 left4
    ((1 ∷ 5 ∷ 9 ∷ []) ∷ (1 ∷ 6 ∷ []) ∷ (2 ∷ 7 ∷ 9 ∷ []) ∷ (2 ∷ 8 ∷ []) ∷ (3 ∷ 9 ∷ []) ∷ (4 ∷ []) ∷ [])
    ((long, long) ∷ (long, short) ∷ (long, long) ∷ (short, long) ∷ (long, long) ∷ (short, short) ∷ [])
    (48 ∷ 72 ∷ 48 ∷ 240 ∷ 48 ∷ 360 ∷ [])
    816
unfolding Holds moves_of_records listed_at goods settled_test walks shallow total
by_trivial = record {
  rule = refl;
  opens = refl;
  left_by = refl;
  settled = test_settled _ _ _ refl;
  just_these = just_walks lent left4 4 refl;
  their_pairs = refl;
  their_weights = refl;
  their_sum = refl;
}

-- no-match: states (0, 0, 0), (1, 0, 0), (0, 1, 0), (2, 2, 0), (1, 1, 0)
abbrev left5 : World
left5 =
    world (session (plain 1 5) 1 5 8) (5 ∷ 3 ∷ [])
    (0 ∷ 0 ∷ 0 ∷ 1 ∷ 1 ∷ 0 ∷ 1 ∷ 0 ∷ 0 ∷ 1 ∷ 4 ∷ 0 ∷ 0 ∷ 1 ∷ 0 ∷ 1 ∷ 6 ∷ 2 ∷ 2 ∷ 2 ∷ 0 ∷ 1 ∷ 0 ∷ 1 ∷ 1 ∷ 1 ∷ 0 ∷ 1 ∷ 8 ∷ 4 ∷ 8 ∷ 8 ∷ [])
    (1 ∷ 0 ∷ 1 ∷ 1 ∷ 2
    ∷ 0 ∷ 7 ∷ 4 ∷ 2 ∷ 3
    ∷ 3 ∷ 9 ∷ 60 ∷ 3 ∷ 0
    ∷ 0 ∷ 7 ∷ 4 ∷ 4 ∷ 5
    ∷ 2 ∷ 9 ∷ 12 ∷ 3 ∷ 0
    ∷ 1 ∷ 0 ∷ 1 ∷ 4 ∷ 7
    ∷ 3 ∷ 8 ∷ 10 ∷ 3 ∷ 0
    ∷ 2 ∷ 8 ∷ 2 ∷ 3 ∷ 0
    ∷ replicate 7 8)

pub by_no_match : ShownStore 1 5 left5
    ((1 ∷ 4 ∷ 8 ∷ []) ∷ (1 ∷ 5 ∷ []) ∷ (2 ∷ 6 ∷ 8 ∷ []) ∷ (2 ∷ 7 ∷ []) ∷ (3 ∷ []) ∷ [])
    ((long, long) ∷ (long, short) ∷ (long, long) ∷ (short, long) ∷ (short, short) ∷ [])
    (48 ∷ 72 ∷ 48 ∷ 240 ∷ 360 ∷ [])
    768
unfolding Holds moves_of_records listed_at goods settled_test walks shallow total
by_no_match = record {
  rule = refl;
  opens = refl;
  left_by = refl;
  settled = test_settled _ _ _ refl;
  just_these = just_walks lent left5 4 refl;
  their_pairs = refl;
  their_weights = refl;
  their_sum = refl;
}

-- trivial by costs: the same states and records, with other weights
abbrev left40 : World
left40 =
    world (session (plain 0 4) 1 5 9) (5 ∷ 3 ∷ []) left4.memory.states
    (1 ∷ 0 ∷ 1 ∷ 1 ∷ 2
    ∷ 0 ∷ 7 ∷ 4 ∷ 2 ∷ 3
    ∷ 1 ∷ 7 ∷ 5 ∷ 3 ∷ 4
    ∷ 3 ∷ 9 ∷ 16 ∷ 4 ∷ 0
    ∷ 0 ∷ 7 ∷ 4 ∷ 3 ∷ 6
    ∷ 2 ∷ 9 ∷ 8 ∷ 4 ∷ 0
    ∷ 1 ∷ 0 ∷ 1 ∷ 3 ∷ 8
    ∷ 3 ∷ 8 ∷ 11 ∷ 4 ∷ 0
    ∷ 2 ∷ 8 ∷ 3 ∷ 4 ∷ 0
    ∷ 8 ∷ 8 ∷ [])

abbrev costs : List Cost
costs = finite 13 ∷ finite 14 ∷ finite 13 ∷ finite 20 ∷ finite 13 ∷ finite 21 ∷ []

pub costs_by_trivial : ShownStore 0 4 left40
    ((1 ∷ 5 ∷ 9 ∷ []) ∷ (1 ∷ 6 ∷ []) ∷ (2 ∷ 7 ∷ 9 ∷ []) ∷ (2 ∷ 8 ∷ []) ∷ (3 ∷ 9 ∷ []) ∷ (4 ∷ []) ∷ [])
    ((long, long) ∷ (long, short) ∷ (long, long) ∷ (short, long) ∷ (long, long) ∷ (short, short) ∷ [])
    costs
    (finite 13)
unfolding Holds moves_of_records listed_at goods settled_test walks shallow total
costs_by_trivial = record {
  rule = refl;
  opens = refl;
  left_by = refl;
  settled = test_settled _ _ _ refl;
  just_these = just_walks lent left40 4 refl;
  their_pairs = refl;
  their_weights = refl;
  their_sum = refl;
}

-- the claims speak of these stores
claimed : (kind filter : ℕ) {left : World} {accepting : List (List ℕ)} {pairs : List (List ℕ × List ℕ)} {weights : List (semiring (with kind filter).kind).Element}
    {sum : (semiring (with kind filter).kind).Element} → ShownStore kind filter left accepting pairs weights sum → Further (set kind filter) lent (with kind filter) left
unfolding after_with call_with
claimed kind filter {left} x =
    let s = set kind filter in
    let d = further_claim s lent any.session any.memory x.opens in
    subst (λ (z : Side). Further s lent (composition_of s lent z) left) (good_is (sym d.1 ∙ x.rule))
    (subst (λ (w : World). Further s lent (composition_of s lent d.0) w) x.left_by (d.2 (run ∷ []) tt))

pub null_there : StepByStep lent (with 1 3) left3
null_there = (claimed 1 3 by_null).null refl by_null.settled

pub trivial_there : NoneLost lent (with 1 4) left4
trivial_there = (claimed 1 4 by_trivial).trivial refl by_trivial.settled

pub no_match_there : NoneLost lent (with 1 5) left5
no_match_there = (claimed 1 5 by_no_match).no_match_lem refl by_no_match.settled

-- the least cost of the pairs is 13, since that of trivial's paths is
abbrev at_least13 : Cost → Bool
at_least13 (finite n) = leb 13 n
at_least13 infinite = true

at_least : (x : Cost) → at_least13 x ≡ true → least (finite 13) x ≡ finite 13
at_least (finite n) e = let h = leb-true 13 n e in ap finite (omega (arith, h))
at_least infinite e = refl

pub least_there : LeastIs (semiring (with 0 4).kind) (AgreeingPair (with 0 4)) (weight_of_pair (semiring (with 0 4).kind) (exact (with 0 4).kind) (machine1 (with 0 4)) (machine2 (with 0 4))) (finite 13)
unfolding Holds moves_of_records listed_at goods every
least_there =
    (((claimed 0 4 costs_by_trivial).trivial refl costs_by_trivial.settled).least (finite 13)).0
    (1 ∷ 5 ∷ 9 ∷ [], (costs_by_trivial.just_these _).1 (here refl), refl, bound)
  where
    bound : (rs : List ℕ) → AcceptingRecords lent left40 rs → least (finite 13) (records_weight (with 0 4).kind lent left40 0 rs) ≡ finite 13
    bound rs h =
        at_least (records_weight (with 0 4).kind lent left40 0 rs) (every_in at_least13 {l = costs} refl
        (subst (In (records_weight (with 0 4).kind lent left40 0 rs)) costs_by_trivial.their_weights (Memᴰ.map (records_weight (with 0 4).kind lent left40 0) ((costs_by_trivial.just_these rs).0 h))))

-- a machine 2 of one state and 5:8: no path of it has an ε on its inner side, so that trivial and no-match list each pair once
abbrev looping : List ℕ
looping = 1 ∷ 1 ∷ 1 ∷ 0 ∷ 0 ∷ 0 ∷ 1 ∷ 1 ∷ 3 ∷ 5 ∷ 8 ∷ 1 ∷ 0 ∷ 0 ∷ []

free_path : (k : Kind) (q : ℕ) (p : List ℕ) → Accepting (semiring k) (exact k) (machine_of looping) q p → EpsilonFree (machine_of looping).input p
unfolding Holds
free_path k q [] h t i = absurd (Memᴰ.not-nil i)
free_path k q (u ∷ p) h t i =
    ⊎_elim (λ e z. let r = list_member looping q h.0 in let n : t ≡ 1 = e ∙ (omega (arith, r.0, r.1)) in five (sym (ap (machine_of looping).input n) ∙ z))
    (free_path k ((machine_of looping).target u) p h.1 t) (Memᴰ.cases_cons i)
  where
    five : (machine_of looping).input 1 ≡ 0 → ⊥
    five e = let z : ◌≡◌ {A = ℕ} 5 0 = e in omega (arith, z)

pub free_there : (filter : ℕ) → OneEpsilonFree (composition_of (set 1 filter) (lend words1 looping) (only outputs))
unfolding heard has
free_there filter = inr (λ p h. free_path count h.0 p h.2)

-- trivial lists a pair with two paths, and so does no-match
pub trivial_doubles : AcceptingRecords lent left4 (1 ∷ 5 ∷ 9 ∷ [])
    × AcceptingRecords lent left4 (3 ∷ 9 ∷ [])
    × (pair_of_records (with 1 4) left4 (1 ∷ 5 ∷ 9 ∷ []) ≡ pair_of_records (with 1 4) left4 (3 ∷ 9 ∷ []))
unfolding Holds moves_of_records listed_at goods
trivial_doubles = ((by_trivial.just_these _).1 (here refl), (by_trivial.just_these _).1 (there (there (there (there (here refl))))), refl)

pub no_match_doubles : AcceptingRecords lent left5 (1 ∷ 4 ∷ 8 ∷ [])
    × AcceptingRecords lent left5 (2 ∷ 6 ∷ 8 ∷ [])
    × (pair_of_records (with 1 5) left5 (1 ∷ 4 ∷ 8 ∷ []) ≡ pair_of_records (with 1 5) left5 (2 ∷ 6 ∷ 8 ∷ []))
unfolding Holds moves_of_records listed_at goods
no_match_doubles = ((by_no_match.just_these _).1 (here refl), (by_no_match.just_these _).1 (there (there (here refl))), refl)

-- null has no path for a pair whose inner labels agree, ε left out: the first path has an ε where the second has none
agrees : AgreeingPair (with 1 4) (long, short)
unfolding Holds moves_of_records listed_at goods
agrees = trivial_there.paths.goes (1 ∷ 6 ∷ []) ((by_trivial.just_these _).1 (there (here refl)))

pub null_loses : AgreeingPair (with 1 3) (long, short) × ((rs : List ℕ) → AcceptingRecords lent left3 rs → pair_of_records (with 1 3) left3 rs ≢ (long, short))
null_loses = (record { first = agrees.first; second = agrees.second; inner = agrees.inner }, λ rs h e. other (Memᴰ.cast (sym e) (listed rs h)))
  where
    listed : (rs : List ℕ) → AcceptingRecords lent left3 rs → In (pair_of_records (with 1 3) left3 rs) ((long, long) ∷ (short, short) ∷ [])
    listed rs h = subst (In (pair_of_records (with 1 3) left3 rs)) by_null.their_pairs (Memᴰ.map (pair_of_records (with 1 3) left3) ((by_null.just_these rs).0 h))

    other : In {A = List ℕ × List ℕ} (long, short) ((long, long) ∷ (short, short) ∷ []) → ⊥
    other i =
        ⊎_elim (λ z. let n : ◌≡◌ {A = ℕ} 1 2 = ap (λ (p : List ℕ × List ℕ). length p.1) z in omega (arith, n))
        (λ j. ⊎_elim (λ z. let n : ◌≡◌ {A = ℕ} 2 1 = ap (λ (p : List ℕ × List ℕ). length p.0) z in omega (arith, n)) Memᴰ.not-nil (Memᴰ.cases_cons j))
        (Memᴰ.cases_cons i)
