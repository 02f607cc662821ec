-- Closed cases of the maps between old and new paths.
use mathlib.Core.Path.{◌≡◌, refl}
use mathlib.Core.List.{[], ◌∷◌}
use Rattle.std.specs.Prelude.{None, Some}
use Rattle.lists.specs.Lists.{keep_if, interval}
use Rattle.papers.specs.Machine.{Machine}
use Rattle.graphs.specs.Walks.{exists, leads_within, useful}
use Rattle.machine_words.specs.MachineWords.{before}
use Rattle.trims.specs.Trims.{number}
use Rattle.trims.proofs.Cases.{state, tr, machine}
use Rattle.trim_readings.specs.TrimPaths.{place_in, to_new, to_old, new_path, old_path}

-- 0 leads to 1, which leads nowhere, and by records 2 and 3 to 2; 2 is final and leads to 1 and to itself
two_ways : Machine
two_ways =
    machine (Some 0) 3 (state None (1 ∷ 2 ∷ 3 ∷ []) ∷ state None [] ∷ state (Some 7) (4 ∷ 5 ∷ []) ∷ [])
    (tr 10 11 12 1 ∷ tr 20 21 22 2 ∷ tr 30 31 32 2 ∷ tr 40 41 42 1 ∷ tr 50 51 52 2 ∷ [])

-- three records are left: 2 and 3 of state 0, and 5 of state 2
path_there : new_path two_ways (3 ∷ 5 ∷ 5 ∷ []) ≡ 2 ∷ 3 ∷ 3 ∷ []
unfolding two_ways to_new place_in before number useful leads_within exists keep_if interval
path_there = refl

path_back : old_path two_ways (2 ∷ 3 ∷ 3 ∷ []) ≡ 3 ∷ 5 ∷ 5 ∷ []
unfolding two_ways to_old before number useful leads_within exists keep_if interval
path_back = refl

path_first : new_path two_ways (2 ∷ []) ≡ 1 ∷ []
unfolding two_ways to_new place_in before number useful leads_within exists keep_if interval
path_first = refl
