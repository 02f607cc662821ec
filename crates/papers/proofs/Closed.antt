-- Two small machines composed: an accepting list of moves under each of the papers' filters and OpenFst's, with its labels and its weight; moves that are not kept, and why.
use mathlib.Core.Path.{◌≡◌, refl, sym, ap}
use mathlib.Core.Bool.{Bool, true, false, true≢false, false≢true}
use mathlib.Core.List.Memᴰ
use mathlib.Core.List.Memᴰ.{head as here}
use mathlib.Core.List.{List, [], ◌∷◌, flat_map}
use mathlib.Core.Logic.{⊎_elim}
use Rattle.std.specs.Prelude.{None, Some}
use Rattle.std.proofs.lemmas.Option.{none-some, same_Some}
use Prim.Native.Nat.{ℕ}
use native.Mathlib.Omega.{arith}
use lib.ListN.{get_or}
use Rattle.lists.specs.Lists.{keep_if, every}
use Rattle.papers.specs.Machine.{ε, Machine}
use Rattle.papers.specs.Weight.{Cost, finite, infinite, tropical, naturals}
use Rattle.papers.specs.Filter.{lone1, lone2, bothEpsilon, aLabel, no_epsilon, only_epsilons, Facts, facts_of, Filter, epsilon_sequencing, epsilon_sequencing_mirrored, epsilon_matching, null_filter, trivial_filter, no_match_filter}
use Rattle.papers.specs.Composition.{Edge, rest, along, equal, Composed, Triple, Edges, Start, KeptMove}
use Rattle.papers.specs.Paths.{word, path1, path2, Agree, Matching, input_word, output_word, Ends, EndsBoth, AcceptingRun, AcceptingPath, path_weight, moves_weight}
use Rattle.papers.proofs.Forms.{pair_meets, lone1_is, lone2_is}

-- a table of a machine: the entry of number n, d past its end
abbrev table : {A : Type 0} → A → List A → ℕ → A
table d l n = get_or l n d

-- 0 -- 1:ε, weight 1 --> 1 -- 2:5, weight 2 --> 2, final with weight 4
abbrev T1 : Machine
T1 = record {
  states = 3;
  start = Some 0;
  list = table [] ((1 ∷ []) ∷ (2 ∷ []) ∷ []);
  input = table 0 (0 ∷ 1 ∷ 2 ∷ []);
  output = table 0 (0 ∷ ε ∷ 5 ∷ []);
  weight = table 0 (0 ∷ 1 ∷ 2 ∷ []);
  target = table 0 (0 ∷ 1 ∷ 2 ∷ []);
  is_final = table false (false ∷ false ∷ true ∷ []);
  final_weight = table 0 (0 ∷ 0 ∷ 4 ∷ []);
}

-- 0 -- ε:7, weight 8 --> 1 -- 5:ε, weight 16 --> 2, final with weight 32; and 1 -- 6:9, weight 3 --> 2
abbrev T2 : Machine
T2 = record {
  states = 3;
  start = Some 0;
  list = table [] ((1 ∷ []) ∷ (2 ∷ 3 ∷ []) ∷ []);
  input = table 0 (0 ∷ ε ∷ 5 ∷ 6 ∷ []);
  output = table 0 (0 ∷ 7 ∷ ε ∷ 9 ∷ []);
  weight = table 0 (0 ∷ 8 ∷ 16 ∷ 3 ∷ []);
  target = table 0 (0 ∷ 1 ∷ 2 ∷ 2 ∷ []);
  is_final = table false (false ∷ false ∷ true ∷ []);
  final_weight = table 0 (0 ∷ 0 ∷ 32 ∷ []);
}

abbrev with : Filter → Composed
with filter = record { first = T1; second = T2; meets = equal; filter = filter }

abbrev at : ℕ → ℕ → ℕ → Triple
at q1 q2 f = record { s1 = q1; s2 = q2; f = f }

abbrev pair : Edge → Edge → Edges
pair e d = record { first = e; second = d }

-- T1's ε alone, T2's ε alone, both, the label 5; the labels 5 and 6
abbrev alone1 : Edges
alone1 = pair (along 1) rest

abbrev alone2 : Edges
alone2 = pair rest (along 1)

abbrev together : Edges
together = pair (along 1) (along 1)

abbrev five : Edges
five = pair (along 2) (along 2)

abbrev unequal : Edges
unequal = pair (along 2) (along 3)

-- T1 first, T2 first, both together
abbrev sequenced : List Edges
sequenced = alone1 ∷ alone2 ∷ five ∷ []

abbrev mirrored : List Edges
mirrored = alone2 ∷ alone1 ∷ five ∷ []

abbrev matched : List Edges
matched = together ∷ five ∷ []

abbrev is_finite : Cost → Bool
is_finite (finite n) = true
is_finite infinite = false

pub finite≢infinite : {n : ℕ} → finite n ≡ infinite → ⊥
finite≢infinite e = true≢false (ap is_finite e)

not5 : ◌≡◌ {A = ℕ} 5 0 → ⊥
not5 e = omega arith

-- the moves are kept where the filter lets them pass
move1 : (filter : Filter) (q2 f g : ℕ) → filter lone1 (facts_of T1 T2 0 q2) f ≡ Some g → KeptMove (with filter) (at 0 q2 f) alone1 g
move1 filter q2 f g e = (lone1, (here refl, tt, (refl, refl)), e)

move2 : (filter : Filter) (q1 f g : ℕ) → filter lone2 (facts_of T1 T2 q1 0) f ≡ Some g → KeptMove (with filter) (at q1 0 f) alone2 g
move2 filter q1 f g e = (lone2, (tt, here refl, (refl, refl)), e)

moveε : (filter : Filter) (f g : ℕ) → filter bothEpsilon (facts_of T1 T2 0 0) f ≡ Some g → KeptMove (with filter) (at 0 0 f) together g
moveε filter f g e = (bothEpsilon, (here refl, here refl, (refl, refl)), e)

move5 : (filter : Filter) (f g : ℕ) → filter aLabel (facts_of T1 T2 1 1) f ≡ Some g → KeptMove (with filter) (at 1 1 f) five g
move5 filter f g e = (aLabel, (here refl, here refl, (5, 5, refl, refl, not5, not5, refl)), e)

-- an accepting list of moves under each filter
pub sequenced_run : AcceptingRun tropical finite (with epsilon_sequencing) sequenced
sequenced_run =
    (at 0 0 0, (refl, refl, refl), (0, move1 epsilon_sequencing 0 0 0 refl, (1, move2 epsilon_sequencing 1 0 1 refl, (0, move5 epsilon_sequencing 1 0 refl, ((refl, refl), finite≢infinite)))))

pub mirrored_run : AcceptingRun tropical finite (with epsilon_sequencing_mirrored) mirrored
mirrored_run =
    (at 0 0 0, (refl, refl, refl), (0, move2 epsilon_sequencing_mirrored 0 0 0 refl, (1, move1 epsilon_sequencing_mirrored 1 0 1 refl, (0, move5 epsilon_sequencing_mirrored 1 0 refl, ((refl, refl), finite≢infinite)))))

pub matched_run : AcceptingRun tropical finite (with epsilon_matching) matched
matched_run = (at 0 0 0, (refl, refl, refl), (0, moveε epsilon_matching 0 0 refl, (0, move5 epsilon_matching 0 0 refl, ((refl, refl), finite≢infinite))))

-- null accepts the last of these lists, which is the only one without a rest; trivial all three; no-match the first two
pub null_run : AcceptingRun tropical finite (with null_filter) matched
null_run = (at 0 0 0, (refl, refl, refl), (0, moveε null_filter 0 0 refl, (0, move5 null_filter 0 0 refl, ((refl, refl), finite≢infinite))))

lone_runs : (F : Filter) → ((φ : Facts) (f : ℕ) → (F lone1 φ f ≡ Some 0) × (F lone2 φ f ≡ Some 0) × (F aLabel φ f ≡ Some 0))
    → AcceptingRun tropical finite (with F) sequenced × AcceptingRun tropical finite (with F) mirrored
lone_runs F e = (
  (at 0 0 0, (refl, refl, refl), (0, move1 F 0 0 0 (e _ 0).0, (0, move2 F 1 0 0 (e _ 0).1, (0, move5 F 0 0 (e _ 0).2, ((refl, refl), finite≢infinite))))),
  (at 0 0 0, (refl, refl, refl), (0, move2 F 0 0 0 (e _ 0).1, (0, move1 F 1 0 0 (e _ 0).0, (0, move5 F 0 0 (e _ 0).2, ((refl, refl), finite≢infinite))))),
)

pub trivial_runs : AcceptingRun tropical finite (with trivial_filter) sequenced × AcceptingRun tropical finite (with trivial_filter) mirrored × AcceptingRun tropical finite (with trivial_filter) matched
trivial_runs =
    let r = lone_runs trivial_filter (λ φ f. (refl, refl, refl)) in
    (r.0, r.1, (at 0 0 0, (refl, refl, refl), (0, moveε trivial_filter 0 0 refl, (0, move5 trivial_filter 0 0 refl, ((refl, refl), finite≢infinite)))))

pub no_match_runs : AcceptingRun tropical finite (with no_match_filter) sequenced × AcceptingRun tropical finite (with no_match_filter) mirrored
no_match_runs = lone_runs no_match_filter (λ φ f. (refl, refl, refl))

-- what they block
pub further_block : (φ : Facts) (f : ℕ) → (null_filter lone1 φ f ≡ None) × (null_filter lone2 φ f ≡ None) × (no_match_filter bothEpsilon φ f ≡ None)
further_block φ f = (refl, refl, refl)

-- the first list: its labels, its paths, its weight in both semirings, and that of its paths
pub sequenced_labels :
    (input_word (with epsilon_sequencing) sequenced ≡ 1 ∷ 2 ∷ [])
    × (output_word (with epsilon_sequencing) sequenced ≡ 7 ∷ [])
    × (path1 sequenced ≡ 1 ∷ 2 ∷ [])
    × (path2 sequenced ≡ 1 ∷ 2 ∷ [])
unfolding word keep_if flat_map
sequenced_labels = (refl, refl, refl, refl)

pub sequenced_weight :
    (moves_weight tropical finite (with epsilon_sequencing) 0 0 sequenced ≡ finite 63)
    × (moves_weight naturals (λ n. n) (with epsilon_sequencing) 0 0 sequenced ≡ 32768)
    × (path_weight tropical finite T1 0 (1 ∷ 2 ∷ []) ≡ finite 7)
    × (path_weight naturals (λ n. n) T2 0 (1 ∷ 2 ∷ []) ≡ 4096)
sequenced_weight = (refl, refl, refl, refl)

-- its two paths are accepting and match
pub sequenced_paths : AcceptingPath tropical finite T1 (1 ∷ 2 ∷ []) × AcceptingPath tropical finite T2 (1 ∷ 2 ∷ []) × Matching (λ x y. x ≡ y) T1 T2 (1 ∷ 2 ∷ []) (1 ∷ 2 ∷ [])
unfolding word keep_if
sequenced_paths = ((0, refl, (here refl, (here refl, (refl, finite≢infinite)))), (0, refl, (here refl, (here refl, (refl, finite≢infinite)))), (refl, tt))

-- what the filters see of a state: only ε there, no ε there, nothing there and final, nothing there and not final
pub facts_seen :
    (facts_of T1 T2 0 0 ≡ record { none1 = false; all1 = true; none2 = false; all2 = true })
    × (facts_of T1 T2 1 1 ≡ record { none1 = true; all1 = false; none2 = true; all2 = false })
    × (facts_of T1 T2 2 3 ≡ record { none1 = true; all1 = false; none2 = true; all2 = true })
    × (facts_of T2 T1 0 1 ≡ record { none1 = true; all1 = false; none2 = true; all2 = false })
unfolding no_epsilon only_epsilons every
facts_seen = (refl, refl, refl, refl)

-- unequal labels do not meet
pub unequal_labels : (filter : Filter) (f g : ℕ) → KeptMove (with filter) (at 1 1 f) unequal g → ⊥
unequal_labels filter f g h =
    ⊎_elim (λ e. not5 e.0) (λ e. let z : ◌≡◌ {A = ℕ} 5 6 = e.2 in omega arith) (pair_meets T1 T2 T1.output T2.input equal 1 1 h.0 2 3 h.1)

-- a transition is taken only from its own state, and alone only with ε
pub other_state : (filter : Filter) (f g : ℕ) → KeptMove (with filter) (at 1 0 f) alone1 g → ⊥
other_state filter f g h = ⊎_elim (λ e. let z : ◌≡◌ {A = ℕ} 1 2 = e in omega arith) Memᴰ.not-nil (Memᴰ.cases_cons h.1.0)

pub label_alone : (filter : Filter) (q2 f g : ℕ) → KeptMove (with filter) (at 1 q2 f) (pair (along 2) rest) g → ⊥
label_alone filter q2 f g h = not5 (lone1_is T1 T2 T1.output T2.input equal 1 q2 h.0 2 h.1).1

-- the filter blocks T1's ε after T2's, T2's after T1's, and one alone after the other alone
pub sequencing_blocks : (g : ℕ) → KeptMove (with epsilon_sequencing) (at 0 1 1) alone1 g → ⊥
sequencing_blocks g h = let k = (lone1_is T1 T2 T1.output T2.input equal 0 1 h.0 1 h.1).0 in none-some _ (rw k at h.2)

pub mirrored_blocks : (g : ℕ) → KeptMove (with epsilon_sequencing_mirrored) (at 1 0 1) alone2 g → ⊥
mirrored_blocks g h = let k = (lone2_is T1 T2 T1.output T2.input equal 1 0 h.0 1 h.1).0 in none-some _ (rw k at h.2)

pub matching_blocks : (g : ℕ) → (KeptMove (with epsilon_matching) (at 1 0 1) alone2 g → ⊥) × (KeptMove (with epsilon_matching) (at 0 1 2) alone1 g → ⊥)
matching_blocks g = (
  λ h. let k = (lone2_is T1 T2 T1.output T2.input equal 1 0 h.0 1 h.1).0 in none-some _ (rw k at h.2),
  λ h. let k = (lone1_is T1 T2 T1.output T2.input equal 0 1 h.0 1 h.1).0 in none-some _ (rw k at h.2),
)

-- each filter's next state is the one that it gives
pub next_states : (g : ℕ) → (KeptMove (with epsilon_sequencing) (at 1 0 0) alone2 g → g ≡ 1) × (KeptMove (with epsilon_sequencing_mirrored) (at 0 1 0) alone1 g → g ≡ 1) × (KeptMove (with epsilon_matching) (at 0 0 0) alone1 g → g ≡ 1) × (KeptMove (with epsilon_matching) (at 0 0 0) alone2 g → g ≡ 2)
next_states g = (
  λ h. let k = (lone2_is T1 T2 T1.output T2.input equal 1 0 h.0 1 h.1).0 in sym (same_Some _ _ (rw k at h.2)),
  λ h. let k = (lone1_is T1 T2 T1.output T2.input equal 0 1 h.0 1 h.1).0 in sym (same_Some _ _ (rw k at h.2)),
  λ h. let k = (lone1_is T1 T2 T1.output T2.input equal 0 0 h.0 1 h.1).0 in sym (same_Some _ _ (rw k at h.2)),
  λ h. let k = (lone2_is T1 T2 T1.output T2.input equal 0 0 h.0 1 h.1).0 in sym (same_Some _ _ (rw k at h.2)),
)

-- starts, and ends: both must be final, and a weight zero ends nothing
pub no_start : (Start (with epsilon_sequencing) (at 0 0 1) → ⊥) × (Start (with epsilon_sequencing) (at 1 0 0) → ⊥) × (Start (with epsilon_sequencing) (at 0 1 0) → ⊥)
no_start = (
  λ h. let z : ◌≡◌ {A = ℕ} 1 0 = h.2 in omega arith,
  λ h. let z : ◌≡◌ {A = ℕ} 0 1 = same_Some _ _ h.0 in omega arith,
  λ h. let z : ◌≡◌ {A = ℕ} 0 1 = same_Some _ _ h.1 in omega arith,
)

pub no_end : (EndsBoth tropical finite (with epsilon_sequencing) 1 2 → ⊥) × (EndsBoth tropical finite (with epsilon_sequencing) 2 1 → ⊥) × (EndsBoth tropical (λ n. infinite) (with epsilon_sequencing) 2 2 → ⊥) × (Ends tropical (λ n. infinite) T1 2 → ⊥) × (Ends tropical finite T1 1 → ⊥)
no_end = (λ h. false≢true h.0.0, λ h. false≢true h.0.1, λ h. h.1 refl, λ h. h.1 refl, λ h. false≢true h.0)

-- lists of labels of two lengths do not agree
pub no_agreement : (Agree (λ x y. x ≡ y) [] (5 ∷ []) → ⊥) × (Agree (λ x y. x ≡ y) (5 ∷ []) [] → ⊥) × (Agree (λ x y. x ≡ y) (5 ∷ []) (6 ∷ []) → ⊥)
no_agreement = (λ h. h, λ h. h, λ h. let z : ◌≡◌ {A = ℕ} 5 6 = h.0 in omega arith)

-- the two semirings at numbers
pub sums :
    (tropical.plus (finite 3) (finite 5) ≡ finite 3)
    × (tropical.times (finite 3) (finite 5) ≡ finite 8)
    × (naturals.plus 3 5 ≡ 8)
    × (naturals.times 3 5 ≡ 15)
sums = (refl, refl, refl, refl)
