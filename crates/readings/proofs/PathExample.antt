-- Closed instances of 3c over the calls: the stores that an opening and a run leave for the two machines of Example. Each is finished, four lists of records are
-- accepting and no others, and their pairs, labels and weights are computed: those of the four pairs of Example, each once. Costs with filter sequence; counts
-- with alternate; costs with match under "both", where a transition of machine 1 costs MAX.
use mathlib.Core.Path.{◌≡◌, refl, sym, ◌∙◌, subst}
use mathlib.Core.List.Memᴰ.{head as here}
use mathlib.Core.List.{List, [], ◌∷◌, map, Memᴰ as In}
use mathlib.Core.Logic.{◌↔◌}
use Rattle.std.specs.Prelude.{Some}
use Prim.Native.Nat.{ℕ}
use lib.ListN.{replicate}
use Rattle.papers.specs.Weight.{finite, infinite, semiring}
use Rattle.papers.specs.Paths.{word}
use Rattle.words.specs.Labels.{MAX, good}
use Rattle.words.specs.Matches.{outputs}
use Rattle.words.specs.Sides.{Side, only, both}
use Rattle.words.specs.Steps.{Composition, start_at}
use Rattle.words.specs.Settings.{Settings, Lent, composition_of}
use Rattle.words.proofs.CheckedLaws.{good_is}
use Rattle.calls.specs.Checks.{side_for}
use Rattle.calls.specs.Calls.{open_of}
use Rattle.calls.specs.Sequences.{World, opening, run, after, after_with, call_with}
use Rattle.calls.specs.Listing.{settings_of}
use Rattle.calls.proofs.Cases.{Holds}
use Rattle.calls.proofs.StarCases.{plain, lend, session, triple, world}
use Rattle.readings.specs.Places.{place_among}
use Rattle.readings.specs.Merge.{merge_up_to}
use Rattle.readings.specs.Listed.{goods, listed_at, pick_of}
use Rattle.readings.specs.Worlds.{input_of, output_of}
use Rattle.readings.specs.StorePaths.{Finished, AcceptingRecords, machine1, machine2, weight_from, moves_of_records, records_of_moves, pair_of_records, records_of_pair, records_weight, outputs_for, Paths}
use Rattle.readings.proofs.Example.{words1, words2, long, short}
use Rattle.readings.proofs.StoreWalks.{finished_test, test_finished, walks, shallow, just_walks}
use Rattle.readings.proofs.Demands.{demand_3}

-- What is shown of a store: an opening and a run, both accepted, leave it. `accepting` are its accepting paths, with their pairs, labels and exact weights.
pub record Shown (s : Settings) (l : Lent) (side : Side) (before left : World) (accepting : List (List ℕ)) (pairs : List (List ℕ × List ℕ)) (inputs outputs : List (List ℕ))
    (weights : List (semiring (composition_of s l side).kind).Element) : Type 0 where
  pub rule : side_for s l ≡ good side
  pub opens : (open_of s l before.session before.memory).answer ≡ good tt
  pub left_by : after l before (opening s l ∷ run ∷ []) ≡ left
  pub finished : Finished s l (composition_of s l side) left
  pub just_these : (rs : List ℕ) → AcceptingRecords l left rs ↔ In rs accepting
  pub their_pairs : map (pair_of_records (composition_of s l side) left) accepting ≡ pairs
  pub their_records : map (records_of_pair (composition_of s l side) (pick_of s.filter) left) pairs ≡ accepting
  pub their_inputs : map (λ rs. word (map (input_of left) rs)) accepting ≡ inputs
  pub their_outputs : map (λ rs. word (map (output_of left) rs)) accepting ≡ outputs
  pub their_weights : map (records_weight (composition_of s l side).kind l left 0) accepting ≡ weights

-- the claim of such a store
pub paths_of : {s : Settings} {l : Lent} {side : Side} {before left : World} {accepting : List (List ℕ)} {pairs : List (List ℕ × List ℕ)} {inputs outputs : List (List ℕ)}
    {weights : List (semiring (composition_of s l side).kind).Element} → Shown s l side before left accepting pairs inputs outputs weights
    → Paths l (composition_of s l side) (pick_of s.filter) left
unfolding after_with call_with
paths_of {s} {l} {side} {before} {left} x =
    let d = demand_3 s l before.session before.memory x.opens in
    let v = after l before (opening s l ∷ run ∷ []) in
    let p = subst (λ (z : Side). Finished s l (composition_of s l z) v → Paths l (composition_of s l z) (pick_of s.filter) v) (good_is (sym d.1 ∙ x.rule)) (d.2 (run ∷ []) tt).paths in
    subst (Paths l (composition_of s l side) (pick_of s.filter)) x.left_by (p (subst (Finished s l (composition_of s l side)) (sym x.left_by) x.finished))

-- a session and slices of words without meaning
abbrev pub any : World
any = world (session (plain 1 2) 7 8 9) (9 ∷ 9 ∷ []) (replicate 32 8) (replicate 37 8)

-- 1: costs, filter sequence. Both machines are sorted in fact: machine 1's side is taken. States (0, 0, 0), (1, 0, 0), (0, 1, 1), (2, 2, 0), (1, 1, 0).
abbrev left1 : World
left1 =
    world (session (plain 0 0) 1 5 7) (5 ∷ 2 ∷ [])
    (0 ∷ 0 ∷ 0 ∷ 1 ∷ 1 ∷ 0 ∷ 1 ∷ 0 ∷ 0 ∷ 1 ∷ 4 ∷ 0 ∷ 0 ∷ 1 ∷ 1 ∷ 1 ∷ 6 ∷ 1 ∷ 2 ∷ 2 ∷ 0 ∷ 1 ∷ 0 ∷ 3 ∷ 1 ∷ 1 ∷ 0 ∷ 1 ∷ 7 ∷ 4 ∷ 8 ∷ 8 ∷ [])
    (1 ∷ 0 ∷ 1 ∷ 1 ∷ 2
    ∷ 0 ∷ 7 ∷ 4 ∷ 2 ∷ 3
    ∷ 3 ∷ 9 ∷ 16 ∷ 3 ∷ 0
    ∷ 0 ∷ 7 ∷ 4 ∷ 4 ∷ 5
    ∷ 2 ∷ 9 ∷ 8 ∷ 3 ∷ 0
    ∷ 3 ∷ 8 ∷ 11 ∷ 3 ∷ 0
    ∷ 2 ∷ 8 ∷ 3 ∷ 3 ∷ 0
    ∷ 8 ∷ 8 ∷ [])

pub costs_by_sequence : Shown (settings_of (plain 0 0)) (lend words1 words2) (only outputs) any left1
    ((1 ∷ 4 ∷ 7 ∷ []) ∷ (1 ∷ 5 ∷ []) ∷ (2 ∷ 6 ∷ []) ∷ (3 ∷ []) ∷ [])
    ((long, long) ∷ (long, short) ∷ (short, long) ∷ (short, short) ∷ [])
    ((1 ∷ 2 ∷ []) ∷ (1 ∷ 2 ∷ []) ∷ (3 ∷ []) ∷ (3 ∷ []) ∷ [])
    ((7 ∷ 8 ∷ []) ∷ (9 ∷ []) ∷ (7 ∷ 8 ∷ []) ∷ (9 ∷ []) ∷ [])
    (finite 13 ∷ finite 14 ∷ finite 20 ∷ finite 21 ∷ [])
unfolding Holds moves_of_records records_of_moves place_among merge_up_to listed_at goods word finished_test walks shallow
costs_by_sequence = record {
  rule = refl;
  opens = refl;
  left_by = refl;
  finished = test_finished _ _ _ _ refl;
  just_these = just_walks (lend words1 words2) left1 4 refl;
  their_pairs = refl;
  their_records = refl;
  their_inputs = refl;
  their_outputs = refl;
  their_weights = refl;
}

-- 2: counts, filter alternate. States (0, 0, 0), (1, 0, 1), (0, 1, 0), (2, 2, 0), (1, 1, 0).
abbrev left2 : World
left2 =
    world (session (plain 1 1) 1 5 7) (5 ∷ 3 ∷ [])
    (0 ∷ 0 ∷ 0 ∷ 1 ∷ 1 ∷ 0 ∷ 1 ∷ 0 ∷ 1 ∷ 1 ∷ 4 ∷ 1 ∷ 0 ∷ 1 ∷ 0 ∷ 1 ∷ 5 ∷ 0 ∷ 2 ∷ 2 ∷ 0 ∷ 1 ∷ 0 ∷ 2 ∷ 1 ∷ 1 ∷ 0 ∷ 1 ∷ 7 ∷ 4 ∷ 8 ∷ 8 ∷ [])
    (1 ∷ 0 ∷ 1 ∷ 1 ∷ 2
    ∷ 0 ∷ 7 ∷ 4 ∷ 2 ∷ 3
    ∷ 3 ∷ 9 ∷ 60 ∷ 3 ∷ 0
    ∷ 2 ∷ 9 ∷ 12 ∷ 3 ∷ 0
    ∷ 1 ∷ 0 ∷ 1 ∷ 4 ∷ 6
    ∷ 3 ∷ 8 ∷ 10 ∷ 3 ∷ 0
    ∷ 2 ∷ 8 ∷ 2 ∷ 3 ∷ 0
    ∷ 8 ∷ 8 ∷ [])

pub counts_by_alternate : Shown (settings_of (plain 1 1)) (lend words1 words2) (only outputs) any left2
    ((1 ∷ 4 ∷ []) ∷ (2 ∷ 5 ∷ 7 ∷ []) ∷ (2 ∷ 6 ∷ []) ∷ (3 ∷ []) ∷ [])
    ((long, short) ∷ (long, long) ∷ (short, long) ∷ (short, short) ∷ [])
    ((1 ∷ 2 ∷ []) ∷ (1 ∷ 2 ∷ []) ∷ (3 ∷ []) ∷ (3 ∷ []) ∷ [])
    ((9 ∷ []) ∷ (7 ∷ 8 ∷ []) ∷ (7 ∷ 8 ∷ []) ∷ (9 ∷ []) ∷ [])
    (72 ∷ 48 ∷ 240 ∷ 360 ∷ [])
unfolding Holds moves_of_records records_of_moves place_among merge_up_to listed_at goods word finished_test walks shallow
counts_by_alternate = record {
  rule = refl;
  opens = refl;
  left_by = refl;
  finished = test_finished _ _ _ _ refl;
  just_these = just_walks (lend words1 words2) left2 4 refl;
  their_pairs = refl;
  their_records = refl;
  their_inputs = refl;
  their_outputs = refl;
  their_weights = refl;
}

-- 3: costs, filter match, under "both": machine 1 with output mark 1, and MAX for 10 on its record 3; machine 2 with input mark 1
abbrev pub words1max : List ℕ
words1max = 3 ∷ 3 ∷ 1 ∷ 0 ∷ 1 ∷ 0 ∷ 1 ∷ 0 ∷ 0 ∷ 2 ∷ 0 ∷ 0 ∷ 0 ∷ 1 ∷ 2 ∷ 1 ∷ 0 ∷ 1 ∷ 1 ∷ 3 ∷ 2 ∷ 5 ∷ 2 ∷ 2 ∷ 0 ∷ 3 ∷ 5 ∷ MAX ∷ 2 ∷ 0 ∷ []

abbrev pub words2marked : List ℕ
words2marked = 3 ∷ 3 ∷ 1 ∷ 1 ∷ 0 ∷ 0 ∷ 1 ∷ 0 ∷ 0 ∷ 2 ∷ 0 ∷ 0 ∷ 0 ∷ 1 ∷ 3 ∷ 0 ∷ 7 ∷ 4 ∷ 1 ∷ 3 ∷ 5 ∷ 8 ∷ 1 ∷ 2 ∷ 0 ∷ 5 ∷ 9 ∷ 6 ∷ 2 ∷ 0 ∷ []

-- states (0, 0, 0), (0, 1, 2), (1, 0, 1), (1, 1, 0), (2, 2, 0)
abbrev left3 : World
left3 =
    world (session (plain 0 2) 2 5 7) (5 ∷ 2 ∷ [])
    (0 ∷ 0 ∷ 0 ∷ 1 ∷ 1 ∷ 0 ∷ 0 ∷ 1 ∷ 2 ∷ 1 ∷ 5 ∷ 0 ∷ 1 ∷ 0 ∷ 1 ∷ 1 ∷ 6 ∷ 1 ∷ 1 ∷ 1 ∷ 0 ∷ 1 ∷ 7 ∷ 3 ∷ 2 ∷ 2 ∷ 0 ∷ 1 ∷ 0 ∷ 4 ∷ 8 ∷ 8 ∷ [])
    (0 ∷ 7 ∷ 4 ∷ 1 ∷ 2
    ∷ 1 ∷ 0 ∷ 1 ∷ 2 ∷ 3
    ∷ 1 ∷ 7 ∷ 5 ∷ 3 ∷ 4
    ∷ 3 ∷ 9 ∷ MAX ∷ 4 ∷ 0
    ∷ 3 ∷ 8 ∷ MAX ∷ 4 ∷ 0
    ∷ 2 ∷ 9 ∷ 8 ∷ 4 ∷ 0
    ∷ 2 ∷ 8 ∷ 3 ∷ 4 ∷ 0
    ∷ 8 ∷ 8 ∷ [])

pub costs_by_match : Shown (settings_of (plain 0 2)) (lend words1max words2marked) both any left3
    ((1 ∷ 5 ∷ []) ∷ (2 ∷ 6 ∷ []) ∷ (3 ∷ 7 ∷ []) ∷ (4 ∷ []) ∷ [])
    ((short, long) ∷ (long, short) ∷ (long, long) ∷ (short, short) ∷ [])
    ((3 ∷ []) ∷ (1 ∷ 2 ∷ []) ∷ (1 ∷ 2 ∷ []) ∷ (3 ∷ []) ∷ [])
    ((7 ∷ 8 ∷ []) ∷ (9 ∷ []) ∷ (7 ∷ 8 ∷ []) ∷ (9 ∷ []) ∷ [])
    (infinite ∷ finite 14 ∷ finite 13 ∷ infinite ∷ [])
unfolding Holds moves_of_records records_of_moves place_among merge_up_to listed_at goods word finished_test walks shallow
costs_by_match = record {
  rule = refl;
  opens = refl;
  left_by = refl;
  finished = test_finished _ _ _ _ refl;
  just_these = just_walks (lend words1max words2marked) left3 4 refl;
  their_pairs = refl;
  their_records = refl;
  their_inputs = refl;
  their_outputs = refl;
  their_weights = refl;
}

-- So the pair of the first of its paths weighs infinite, by the claim; it reads 3 and writes 7 8.
abbrev c3 : Composition
c3 = composition_of (settings_of (plain 0 2)) (lend words1max words2marked) both

first3 : AcceptingRecords (lend words1max words2marked) left3 (1 ∷ 5 ∷ [])
first3 = (costs_by_match.just_these (1 ∷ 5 ∷ [])).1 (here refl)

start3 : start_at c3 ≡ Some (triple 0 0 0)
unfolding Holds
start3 = refl

pub pair_weighs : (semiring c3.kind).times (weight_from c3 (machine1 c3) 0 short) (weight_from c3 (machine2 c3) 0 long) ≡ infinite
unfolding Holds moves_of_records listed_at goods
pair_weighs = sym ((paths_of costs_by_match).weights (triple 0 0 0) start3 (1 ∷ 5 ∷ []) first3)

pub pair_reads : word (map (machine1 c3).input short) ≡ 3 ∷ []
unfolding Holds moves_of_records listed_at goods word
pair_reads = sym ((paths_of costs_by_match).inputs (1 ∷ 5 ∷ []) first3)

pub pair_writes : word (map (machine2 c3).output long) ≡ 7 ∷ 8 ∷ []
unfolding Holds moves_of_records listed_at goods word outputs_for
pair_writes = sym ((paths_of costs_by_match).outputs (1 ∷ 5 ∷ []) first3)
