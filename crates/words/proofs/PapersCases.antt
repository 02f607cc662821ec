-- Closed instances, so that nothing above is empty: the machines of 01's listing are an accepted opening and have an accepting list of moves of the papers; a sigma transition serves
-- for each letter, beside the letter's own match.
use mathlib.Core.Path.{◌≡◌, refl}
use mathlib.Core.List.Memᴰ.{head as here}
use mathlib.Core.List.Memᴰ.{tail as there}
use mathlib.Core.List.{List, [], ◌∷◌}
use mathlib.Core.Logic.{◌≢◌, ◌⊎◌, inl, inr, ⊎_elim}
use Rattle.std.specs.Prelude.{None}
use Prim.Native.Nat.{ℕ}
use native.Mathlib.Omega.{arith}
use Rattle.lists.specs.Lists.{every, interval}
use Rattle.papers.specs.Weight.{finite, semiring}
use Rattle.papers.specs.Machine.{Machine}
use Rattle.papers.specs.Filter.{MoveKind, lone1, lone2, aLabel, no_epsilon, only_epsilons}
use Rattle.papers.specs.Composition.{Edge, rest, along, Triple, Edges, KeptMove}
use Rattle.papers.specs.Paths.{AcceptingRun, moves_weight}
use Rattle.papers.proofs.Closed.{finite≢infinite}
use Rattle.papers.proofs.Forms.{Meeting, pair_meets}
use Rattle.words.specs.Labels.{MAX}
use Rattle.words.specs.Weights.{cost}
use Rattle.words.specs.Matches.{inputs, outputs}
use Rattle.words.specs.Machines.{state_count, tr_count, start_word, side_mark, acceptor_mark, state_word, tr_word, first_ok, next_ok, first_of, next_of, list_by, list_from, list_of, no_fall, sorted, state_ok, tr_ok, acceptor, marks_ok, size_up_to, well_formed_up_to}
use Rattle.words.specs.Ignored.{heard}
use Rattle.words.specs.Sigmas.{has}
use Rattle.words.specs.Sides.{only, side_of, direction_at}
use Rattle.words.specs.Steps.{Composition}
use Rattle.words.specs.Settings.{Settings, Lent, composition_of}
use Rattle.words.specs.AsPapers.{exact, composed_of}
use Rattle.words.specs.Links.{Composable}
use Rattle.words.proofs.PapersOpened.{sound_of}

abbrev settings : ℕ → Settings
settings sigma2 = record { kind = 0; filter = 0; sigma1 = MAX; mode1 = 0; sigma2 = sigma2; mode2 = 0 }

abbrev lent : List ℕ → List ℕ → Lent
lent m1 m2 = record { m1 = m1; m2 = m2; allowed1 = None; allowed2 = None; ignored = [] }

abbrev pair : Edge → Edge → Edges
pair e d = record { first = e; second = d }

-- "The listing": machine 1 has 1:0 and then 2:5, machine 2 has 0:7 and then 5:8
abbrev listed1 : List ℕ
listed1 = 3 ∷ 2 ∷ 1 ∷ 0 ∷ 0 ∷ 0 ∷ 1 ∷ 0 ∷ 0 ∷ 2 ∷ 0 ∷ 0 ∷ 0 ∷ 1 ∷ 0 ∷ 1 ∷ 0 ∷ 1 ∷ 1 ∷ 0 ∷ 2 ∷ 5 ∷ 2 ∷ 2 ∷ 0 ∷ []

abbrev listed2 : List ℕ
listed2 = 3 ∷ 2 ∷ 1 ∷ 0 ∷ 0 ∷ 0 ∷ 1 ∷ 0 ∷ 0 ∷ 2 ∷ 0 ∷ 0 ∷ 0 ∷ 1 ∷ 3 ∷ 0 ∷ 7 ∷ 4 ∷ 1 ∷ 0 ∷ 5 ∷ 8 ∷ 1 ∷ 2 ∷ 0 ∷ []

abbrev pub listing : Composition
listing = composition_of (settings MAX) (lent listed1 listed2) (only outputs)

pub listing_sound : Composable listing
unfolding side_of well_formed_up_to size_up_to state_ok tr_ok marks_ok acceptor every interval sorted no_fall side_mark acceptor_mark state_count tr_count start_word state_word tr_word first_ok next_ok first_of next_of list_by list_from list_of heard has
listing_sound = sound_of (settings MAX) (lent listed1 listed2) (only outputs) refl refl refl

-- the four states of the listing: 1 alone, 2 alone, the label 5
abbrev pub moves : List Edges
moves = pair (along 1) rest ∷ pair rest (along 1) ∷ pair (along 2) (along 2) ∷ []

pub listing_run : AcceptingRun (semiring cost) (exact cost) (composed_of listing) moves
unfolding direction_at no_epsilon only_epsilons every state_count tr_count start_word state_word tr_word first_ok next_ok first_of next_of list_by list_from list_of heard has
listing_run = (
  record { s1 = 0; s2 = 0; f = 0 },
  (refl, refl, refl),
  (
    0,
    (lone1, (here refl, tt, (refl, refl)), refl),
    (
      0,
      (lone2, (tt, here refl, (refl, refl)), refl),
      (0, (aLabel, (here refl, here refl, (5, 5, refl, refl, λ e. omega arith, λ e. omega arith, (λ e. omega arith, inl refl))), refl), ((refl, refl), finite≢infinite)),
    ),
  ),
)

-- "t 1 0 1 1", "t 0 7 4 2", "t 2 8 3 3", "s 3 2 2 0 3": 1 + 4 + 3 + 3
pub listing_weight : moves_weight (semiring cost) (exact cost) (composed_of listing) 0 0 moves ≡ finite 11
unfolding state_count tr_word state_word heard has
listing_weight = refl

-- machine 1 has 1:3 and 1:4; machine 2 has 3:6 and, with sigma 9, 9:7
abbrev served : Lent
served =
    lent (1 ∷ 2 ∷ 1 ∷ 0 ∷ 0 ∷ 0 ∷ 1 ∷ 1 ∷ 0 ∷ 1 ∷ 3 ∷ 0 ∷ 0 ∷ 2 ∷ 1 ∷ 4 ∷ 0 ∷ 0 ∷ 0 ∷ []) (1 ∷ 2 ∷ 1 ∷ 1 ∷ 0 ∷ 0 ∷ 1 ∷ 1 ∷ 0 ∷ 3 ∷ 6 ∷ 0 ∷ 0 ∷ 2 ∷ 9 ∷ 7 ∷ 0 ∷ 0 ∷ 0 ∷ [])

abbrev pub sigmas : Composition
sigmas = composition_of (settings 9) served (only inputs)

pub sigmas_sound : Composable sigmas
unfolding side_of well_formed_up_to size_up_to state_ok tr_ok marks_ok acceptor every interval sorted no_fall side_mark acceptor_mark state_count tr_count start_word state_word tr_word first_ok next_ok first_of next_of list_by list_from list_of heard has
sigmas_sound = sound_of (settings 9) served (only inputs) refl refl refl

abbrev origin : Triple
origin = record { s1 = 0; s2 = 0; f = 0 }

-- 3 has a match of its own
pub own_kept : KeptMove (composed_of sigmas) origin (pair (along 1) (along 1)) 0
unfolding direction_at state_count tr_count state_word tr_word first_ok next_ok first_of next_of list_by list_from list_of heard has
own_kept = (aLabel, (here refl, here refl, (3, 3, refl, refl, λ e. omega arith, λ e. omega arith, (λ e. omega arith, inl refl))), refl)

-- beside it 9:7 serves for 3, and it serves for 4, which has none
pub sigma_kept : KeptMove (composed_of sigmas) origin (pair (along 1) (along 2)) 0 × KeptMove (composed_of sigmas) origin (pair (along 2) (along 2)) 0
unfolding direction_at state_count tr_count state_word tr_word first_ok next_ok first_of next_of list_by list_from list_of heard has
sigma_kept = (
  (aLabel, (here refl, there (here refl), (3, 9, refl, refl, λ e. omega arith, λ e. omega arith, (λ e. omega arith, inr (refl, refl)))), refl),
  (aLabel, (there (here refl), there (here refl), (4, 9, refl, refl, λ e. omega arith, λ e. omega arith, (λ e. omega arith, inr (refl, refl)))), refl),
)

-- 3:6 does not serve for 4
pub other_not_kept : (g : ℕ) → KeptMove (composed_of sigmas) origin (pair (along 2) (along 1)) g → ⊥
unfolding direction_at state_count tr_count state_word tr_word first_ok next_ok first_of next_of list_by list_from list_of heard has
other_not_kept g h =
    ⊎_elim
    (λ e. let z : ◌≡◌ {A = ℕ} 4 0 = e.0 in omega arith)
    (λ e. ⊎_elim (λ y. let z : ◌≡◌ {A = ℕ} 3 4 = y in omega arith) (λ r. let z : ◌≡◌ {A = ℕ} 3 9 = r.0 in omega arith) e.2.1)
    (pairs h.0 2 1 h.1)
  where
    A : Machine
    A = sigmas.operand1.machine

    B : Machine
    B = sigmas.operand2.machine

    pairs : (k : MoveKind) (t u : ℕ) → Meeting A B A.output B.input (composed_of sigmas).meets 0 0 k (along t) (along u)
        → ((A.output t ≡ 0) × (B.input u ≡ 0)) ⊎ ((A.output t ≢ 0) × (B.input u ≢ 0) × (composed_of sigmas).meets 0 0 (A.output t) (B.input u))
    pairs k t u m = pair_meets A B A.output B.input (composed_of sigmas).meets 0 0 k t u m
