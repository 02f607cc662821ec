-- Closed instances of 3c with sigma on machine 2 (02, 2.4), over the calls. A letter with a match of its own and a sigma match has two readings; an allowed list that excludes it leaves
-- one. Under "both" a state of machine 2 without a sigma transition may be walked, in direction output.
use mathlib.Core.Path.{◌≡◌, refl, sym}
use mathlib.Core.Bool.{false≢true}
use mathlib.Core.List.Memᴰ.{head as here}
use mathlib.Core.List.Memᴰ.{tail as there}
use mathlib.Core.List.{List, [], ◌∷◌}
use mathlib.Core.Logic.{inr, ⊎_elim}
use Rattle.std.specs.Prelude.{None, Some}
use Prim.Native.Nat.{ℕ}
use native.Mathlib.Omega.{arith}
use lib.ListN.{replicate}
use Rattle.lists.specs.Lists.{keep_if}
use Rattle.lists.proofs.Compare.{eq_list}
use Rattle.lists.proofs.Listed.{once, once_distinct}
use Rattle.papers.specs.Weight.{finite, naturals, count}
use Rattle.papers.specs.Pick.{sequence_pick}
use Rattle.papers.specs.Paths.{word}
use Rattle.papers.proofs.SemiringLaws.{semiring_laws}
use Rattle.papers.specs.Sums.{total, SumIs, weight_of_pair}
use Rattle.words.specs.Labels.{MAX}
use Rattle.words.specs.Matches.{inputs}
use Rattle.words.specs.Sides.{only, both}
use Rattle.words.specs.Steps.{Composition}
use Rattle.words.specs.Settings.{Lent, composition_of}
use Rattle.words.specs.AsPapers.{exact}
use Rattle.calls.specs.Sequences.{World}
use Rattle.calls.specs.Listing.{settings_of}
use Rattle.calls.proofs.Cases.{Holds}
use Rattle.calls.proofs.StarCases.{lend, session, triple, world}
use Rattle.readings.specs.Places.{place_among}
use Rattle.readings.specs.Merge.{merge_up_to}
use Rattle.readings.specs.Listed.{goods, listed_at}
use Rattle.readings.specs.StorePaths.{machine1, machine2, sigma2, AgreeingPair, outputs_for, moves_of_records, records_of_moves, records_weight, WriteOwn, Paths}
use Rattle.readings.proofs.Correspondences.{same_sum}
use Rattle.readings.proofs.Letters.{write_own}
use Rattle.readings.proofs.StoreWalks.{finished_test, test_finished, walks, shallow, just_walks}
use Rattle.readings.proofs.PathExample.{Shown, paths_of, any}

-- counts, sequence; sigma 9 on machine 2, mode 1
abbrev asked : List ℕ
asked = 1 ∷ 0 ∷ MAX ∷ 0 ∷ 9 ∷ 1 ∷ []

-- machine 1 has 5:6 and 5:8, of weights 2 and 3; machine 2 has 8:4 and 9:9, of weights 5 and 7
abbrev letters : Lent
letters =
    lend (2 ∷ 2 ∷ 1 ∷ 0 ∷ 0 ∷ 0 ∷ 1 ∷ 0 ∷ 0 ∷ 0 ∷ 1 ∷ 1 ∷ 5 ∷ 6 ∷ 2 ∷ 1 ∷ 2 ∷ 5 ∷ 8 ∷ 3 ∷ 1 ∷ 0 ∷ [])
    (2 ∷ 2 ∷ 1 ∷ 1 ∷ 0 ∷ 0 ∷ 1 ∷ 0 ∷ 0 ∷ 0 ∷ 1 ∷ 1 ∷ 8 ∷ 4 ∷ 5 ∷ 1 ∷ 2 ∷ 9 ∷ 9 ∷ 7 ∷ 1 ∷ 0 ∷ [])

-- 6 by sigma; 8 by its own transition and by sigma
abbrev left1 : World
left1 =
    world (session asked 0 2 3) (2 ∷ 0 ∷ []) (0 ∷ 0 ∷ 0 ∷ 1 ∷ 1 ∷ 0 ∷ 1 ∷ 1 ∷ 0 ∷ 1 ∷ 0 ∷ 1 ∷ replicate 20 8)
    (5 ∷ 6 ∷ 14 ∷ 1 ∷ 2
    ∷ 5 ∷ 4 ∷ 15 ∷ 1 ∷ 3
    ∷ 5 ∷ 8 ∷ 21 ∷ 1 ∷ 0
    ∷ replicate 22 8)

pub both_ways : Shown (settings_of asked) letters (only inputs) any left1
    ((1 ∷ []) ∷ (2 ∷ []) ∷ (3 ∷ []) ∷ [])
    ((1 ∷ [], 2 ∷ []) ∷ (2 ∷ [], 1 ∷ []) ∷ (2 ∷ [], 2 ∷ []) ∷ [])
    ((5 ∷ []) ∷ (5 ∷ []) ∷ (5 ∷ []) ∷ [])
    ((6 ∷ []) ∷ (4 ∷ []) ∷ (8 ∷ []) ∷ [])
    (14 ∷ 15 ∷ 21 ∷ [])
unfolding Holds moves_of_records records_of_moves place_among merge_up_to listed_at goods word finished_test walks shallow
both_ways = record {
  rule = refl;
  opens = refl;
  left_by = refl;
  finished = test_finished _ _ _ _ refl;
  just_these = just_walks letters left1 2 refl;
  their_pairs = refl;
  their_records = refl;
  their_inputs = refl;
  their_outputs = refl;
  their_weights = refl;
}

abbrev c1 : Composition
c1 = composition_of (settings_of asked) letters (only inputs)

-- by the claim the path by 5:8 agrees with both paths of machine 2,
pub two_readings : AgreeingPair c1 (2 ∷ [], 1 ∷ []) × AgreeingPair c1 (2 ∷ [], 2 ∷ [])
unfolding Holds moves_of_records listed_at goods
two_readings = (
  (paths_of both_ways).paths.goes (2 ∷ []) ((both_ways.just_these _).1 (there (here refl))),
  (paths_of both_ways).paths.goes (3 ∷ []) ((both_ways.just_these _).1 (there (there (here refl)))),
)

-- the second, by sigma, writes 8 in the place of 9,
pub by_sigma_writes : word (outputs_for (sigma2 c1) (machine2 c1) (8 ∷ []) (2 ∷ [])) ≡ 8 ∷ []
unfolding Holds moves_of_records listed_at goods word
by_sigma_writes = sym ((paths_of both_ways).outputs (3 ∷ []) ((both_ways.just_these _).1 (there (there (here refl)))))

-- and the weights of all pairs that agree add up to 50, as those of the store's paths do
pub total_of_pairs : SumIs naturals (AgreeingPair c1) (weight_of_pair naturals (exact count) (machine1 c1) (machine2 c1)) 50
unfolding Holds moves_of_records listed_at goods total once eq_list keep_if
total_of_pairs =
    (same_sum naturals (semiring_laws count) (records_weight count letters left1 0) (weight_of_pair naturals (exact count) (machine1 c1) (machine2 c1)) 50
    (paths_of both_ways).paths ((paths_of both_ways).weights (triple 0 0 0) refl)).0
    ((1 ∷ []) ∷ (2 ∷ []) ∷ (3 ∷ []) ∷ [], record { once = once_distinct ((1 ∷ []) ∷ (2 ∷ []) ∷ (3 ∷ []) ∷ []); exactly = λ rs. ((both_ways.just_these rs).1, (both_ways.just_these rs).0) }, refl)

-- the same with an allowed list that has 6 alone: 8 is read by its own transition only
abbrev excluding : Lent
excluding = record { m1 = letters.m1; m2 = letters.m2; allowed1 = None; allowed2 = Some (6 ∷ []); ignored = [] }

abbrev left2 : World
left2 =
    world (session asked 0 2 2) (2 ∷ 0 ∷ []) left1.memory.states
    (5 ∷ 6 ∷ 14 ∷ 1 ∷ 2
    ∷ 5 ∷ 4 ∷ 15 ∷ 1 ∷ 0
    ∷ replicate 27 8)

pub one_way : Shown (settings_of asked) excluding (only inputs) any left2
    ((1 ∷ []) ∷ (2 ∷ []) ∷ [])
    ((1 ∷ [], 2 ∷ []) ∷ (2 ∷ [], 1 ∷ []) ∷ [])
    ((5 ∷ []) ∷ (5 ∷ []) ∷ [])
    ((6 ∷ []) ∷ (4 ∷ []) ∷ [])
    (14 ∷ 15 ∷ [])
unfolding Holds moves_of_records records_of_moves place_among merge_up_to listed_at goods word finished_test walks shallow
one_way = record {
  rule = refl;
  opens = refl;
  left_by = refl;
  finished = test_finished _ _ _ _ refl;
  just_these = just_walks excluding left2 2 refl;
  their_pairs = refl;
  their_records = refl;
  their_inputs = refl;
  their_outputs = refl;
  their_weights = refl;
}

abbrev c2 : Composition
c2 = composition_of (settings_of asked) excluding (only inputs)

-- together 29
pub total_without : SumIs naturals (AgreeingPair c2) (weight_of_pair naturals (exact count) (machine1 c2) (machine2 c2)) 29
unfolding Holds moves_of_records listed_at goods total once eq_list keep_if
total_without =
    (same_sum naturals (semiring_laws count) (records_weight count excluding left2 0) (weight_of_pair naturals (exact count) (machine1 c2) (machine2 c2)) 29
    (paths_of one_way).paths ((paths_of one_way).weights (triple 0 0 0) refl)).0
    ((1 ∷ []) ∷ (2 ∷ []) ∷ [], record { once = once_distinct ((1 ∷ []) ∷ (2 ∷ []) ∷ []); exactly = λ rs. ((one_way.just_these rs).1, (one_way.just_these rs).0) }, refl)

-- by sigma it does not agree any more
pub excluded : AgreeingPair c2 (2 ∷ [], 2 ∷ []) → ⊥
unfolding Holds word
excluded h = ⊎_elim (λ e. let z : ◌≡◌ {A = ℕ} 9 8 = e in omega (arith, z)) (λ r. false≢true r.1) h.inner.0

-- costs, sequence, under "both"; sigma 9 on machine 2, mode 2. Machine 1 has 1:3, then 2:4 and 2:5; machine 2 has 9:9, then 4:7. In (0, 0, 0) sigma decides: machine 1 is walked. In
-- (1, 1, 0), where machine 2 has no sigma transition, its list is the shorter and is walked.
abbrev asked_both : List ℕ
asked_both = 0 ∷ 0 ∷ MAX ∷ 0 ∷ 9 ∷ 2 ∷ []

abbrev marked : Lent
marked =
    lend (3 ∷ 3 ∷ 1 ∷ 0 ∷ 1 ∷ 0 ∷ 1 ∷ 0 ∷ 0 ∷ 2 ∷ 0 ∷ 0 ∷ 0 ∷ 1 ∷ 0 ∷ 1 ∷ 3 ∷ 2 ∷ 1 ∷ 0 ∷ 2 ∷ 4 ∷ 1 ∷ 2 ∷ 3 ∷ 2 ∷ 5 ∷ 4 ∷ 2 ∷ 0 ∷ [])
    (3 ∷ 2 ∷ 1 ∷ 1 ∷ 0 ∷ 0 ∷ 1 ∷ 0 ∷ 0 ∷ 2 ∷ 0 ∷ 0 ∷ 0 ∷ 1 ∷ 0 ∷ 9 ∷ 9 ∷ 3 ∷ 1 ∷ 0 ∷ 4 ∷ 7 ∷ 1 ∷ 2 ∷ 0 ∷ [])

abbrev left3 : World
left3 =
    world (session asked_both 2 3 2) (3 ∷ 0 ∷ []) (0 ∷ 0 ∷ 0 ∷ 1 ∷ 1 ∷ 0 ∷ 1 ∷ 1 ∷ 0 ∷ 1 ∷ 2 ∷ 1 ∷ 2 ∷ 2 ∷ 0 ∷ 1 ∷ 0 ∷ 2 ∷ replicate 14 8)
    (1 ∷ 9 ∷ 5 ∷ 1 ∷ 0
    ∷ 2 ∷ 7 ∷ 2 ∷ 2 ∷ 0
    ∷ replicate 27 8)

pub under_both : Shown (settings_of asked_both) marked both any left3
    ((1 ∷ 2 ∷ []) ∷ [])
    ((1 ∷ 2 ∷ [], 1 ∷ 2 ∷ []) ∷ [])
    ((1 ∷ 2 ∷ []) ∷ [])
    ((9 ∷ 7 ∷ []) ∷ [])
    (finite 7 ∷ [])
unfolding Holds moves_of_records records_of_moves place_among merge_up_to listed_at goods word finished_test walks shallow
under_both = record {
  rule = refl;
  opens = refl;
  left_by = refl;
  finished = test_finished _ _ _ _ refl;
  just_these = just_walks marked left3 3 refl;
  their_pairs = refl;
  their_records = refl;
  their_inputs = refl;
  their_outputs = refl;
  their_weights = refl;
}

pub paths_under_both : Paths marked (composition_of (settings_of asked_both) marked both) sequence_pick left3
paths_under_both = paths_of under_both

-- sigma is rewritten on the matched side alone, so that the outputs are machine 2's own
pub own_under_both : WriteOwn marked (composition_of (settings_of asked_both) marked both) left3
own_under_both = write_own marked (composition_of (settings_of asked_both) marked both) left3 (inr refl) paths_under_both.outputs
