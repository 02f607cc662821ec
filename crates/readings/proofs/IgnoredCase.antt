-- Closed instances of 3c with ignored labels: a joiner that machine 1 writes and machine 2 does not read, and the widened case of sigma on machine 2 where the list makes the side input.
use mathlib.Core.Path.{refl}
use mathlib.Core.List.Memᴰ.{head as here}
use mathlib.Core.List.Memᴰ.{tail as there}
use mathlib.Core.List.{List, [], ◌∷◌}
use Prim.Native.Nat.{ℕ}
use lib.ListN.{replicate}
use Rattle.papers.specs.Weight.{finite}
use Rattle.papers.specs.Paths.{word}
use Rattle.words.specs.Labels.{MAX}
use Rattle.words.specs.Matches.{inputs, outputs}
use Rattle.words.specs.Sides.{only}
use Rattle.words.specs.Settings.{Settings, Lent, composition_of}
use Rattle.calls.specs.Sequences.{World}
use Rattle.calls.specs.Listing.{settings_of}
use Rattle.calls.proofs.Cases.{Holds}
use Rattle.calls.proofs.StarCases.{plain, lend_with, session, world}
use Rattle.calls.proofs.IgnoredCases.{ignoring, before, left}
use Rattle.readings.specs.Places.{place_among}
use Rattle.readings.specs.Merge.{merge_up_to}
use Rattle.readings.specs.Listed.{goods, listed_at, pick_of}
use Rattle.readings.specs.StorePaths.{moves_of_records, records_of_moves}
use Rattle.readings.specs.LentPaths.{AgreeingLent, LentPaths}
use Rattle.readings.proofs.StoreWalks.{finished_test, test_finished, walks, shallow, just_walks}
use Rattle.readings.proofs.LentPaths.{lent_paths}
use Rattle.readings.proofs.PathExample.{Shown, paths_of, any}

-- 1:5 2:3 and 3:5 agree where 5 is ignored: one reading, 1 2 : 5, of weight 1 + 2 + 1 + 4 + 2. The outer 5 is written.
abbrev joining : Settings
joining = settings_of (plain 0 0)

pub joined_path : Shown joining (ignoring (5 ∷ [])) (only outputs) before left ((1 ∷ 2 ∷ []) ∷ []) ((1 ∷ 2 ∷ [], 1 ∷ []) ∷ []) ((1 ∷ 2 ∷ []) ∷ []) ((5 ∷ []) ∷ []) (finite 10 ∷ [])
unfolding Holds moves_of_records records_of_moves place_among merge_up_to listed_at goods word finished_test walks shallow
joined_path = record {
  rule = refl;
  opens = refl;
  left_by = refl;
  finished = test_finished _ _ _ _ refl;
  just_these = just_walks (ignoring (5 ∷ [])) left 4 refl;
  their_pairs = refl;
  their_records = refl;
  their_inputs = refl;
  their_outputs = refl;
  their_weights = refl;
}

-- the claim on the machines as lent
pub joined_lent : LentPaths joining (ignoring (5 ∷ [])) (composition_of joining (ignoring (5 ∷ [])) (only outputs)) (pick_of 0) left
joined_lent = lent_paths joining (ignoring (5 ∷ [])) (only outputs) (pick_of 0) left (paths_of joined_path)

-- so the two paths agree, though the words that they were lent with are 5 3 and 3
pub joined_agree : AgreeingLent joining (ignoring (5 ∷ [])) (composition_of joining (ignoring (5 ∷ [])) (only outputs)) (1 ∷ 2 ∷ [], 1 ∷ [])
unfolding Holds moves_of_records listed_at goods
joined_agree = joined_lent.paths.goes (1 ∷ 2 ∷ []) ((joined_path.just_these (1 ∷ 2 ∷ [])).1 (here refl))

-- Machine 1: 1:2 and 1:5 to a final state. Machine 2: final with 3, and 9:7 to a state that is final with 5. With 5 ignored the outputs 2 0 fall, so the side is input, and sigma 9
-- of machine 2 pairs with the letter 2, though the list holds 9 (02, 2.8).
abbrev fallen : Lent
fallen =
    lend_with (5 ∷ 9 ∷ []) (2 ∷ 2 ∷ 1 ∷ 0 ∷ 0 ∷ 0 ∷ 1 ∷ 0 ∷ 0 ∷ 0 ∷ 1 ∷ 0 ∷ 1 ∷ 2 ∷ 1 ∷ 1 ∷ 2 ∷ 1 ∷ 5 ∷ 2 ∷ 1 ∷ 0 ∷ []) (2 ∷ 1 ∷ 1 ∷ 0 ∷ 0 ∷ 0 ∷ 1 ∷ 1 ∷ 3 ∷ 0 ∷ 1 ∷ 5 ∷ 9 ∷ 7 ∷ 4 ∷ 1 ∷ 0 ∷ [])

abbrev nine : List ℕ
nine = 0 ∷ 0 ∷ MAX ∷ 0 ∷ 9 ∷ 0 ∷ []

-- states (0, 0, 0), (1, 1, 0), (1, 0, 0)
abbrev left_by_sigma : World
left_by_sigma = world (session nine 0 3 2) (2 ∷ 3 ∷ []) (0 ∷ 0 ∷ 0 ∷ 1 ∷ 1 ∷ 0 ∷ 1 ∷ 1 ∷ 0 ∷ 1 ∷ 0 ∷ 1 ∷ 1 ∷ 0 ∷ 0 ∷ 1 ∷ 0 ∷ 0 ∷ replicate 14 8) (1 ∷ 7 ∷ 5 ∷ 1 ∷ 2 ∷ 1 ∷ 0 ∷ 2 ∷ 2 ∷ 0 ∷ replicate 27 8)

pub sigma_paths : Shown (settings_of nine) fallen (only inputs) any left_by_sigma ((1 ∷ []) ∷ (2 ∷ []) ∷ []) ((1 ∷ [], 1 ∷ []) ∷ (2 ∷ [], []) ∷ []) ((1 ∷ []) ∷ (1 ∷ []) ∷ []) ((7 ∷ []) ∷ [] ∷ [])
    (finite 10 ∷ finite 5 ∷ [])
unfolding Holds moves_of_records records_of_moves place_among merge_up_to listed_at goods word finished_test walks shallow
sigma_paths = record {
  rule = refl;
  opens = refl;
  left_by = refl;
  finished = test_finished _ _ _ _ refl;
  just_these = just_walks fallen left_by_sigma 4 refl;
  their_pairs = refl;
  their_records = refl;
  their_inputs = refl;
  their_outputs = refl;
  their_weights = refl;
}

-- the path 1:5 of machine 1, lent with the word 5, agrees with the empty path of machine 2
pub silent_agrees : AgreeingLent (settings_of nine) fallen (composition_of (settings_of nine) fallen (only inputs)) (2 ∷ [], [])
unfolding Holds moves_of_records listed_at goods
silent_agrees =
    (lent_paths (settings_of nine) fallen (only inputs) (pick_of 0) left_by_sigma (paths_of sigma_paths)).paths.goes (2 ∷ []) ((sigma_paths.just_these (2 ∷ [])).1 (there (here refl)))
