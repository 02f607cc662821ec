-- A closed case: the words of a small machine.
use mathlib.Core.Path.{◌≡◌, refl}
use mathlib.Core.List.{[], ◌∷◌}
use Rattle.std.specs.Prelude.{None, Some}
use Rattle.machine_words.specs.MachineWords.{list_words, trs_words, states_words, trs_in, machine_words}

-- two states, the first with two transitions, the second final with weight 7 and one transition; the start is the first
two_rows : machine_words 1
    (record { final = None; list = record { input = 1; output = 2; weight = 3; target = 1 } ∷ record { input = 4; output = 5; weight = 6; target = 0 } ∷ [] }
    ∷ record { final = Some 7; list = record { input = 8; output = 9; weight = 10; target = 1 } ∷ [] }
    ∷ [])
    ≡ 2 ∷ 3 ∷ 1 ∷ 0 ∷ 0 ∷ 0 ∷ 1 ∷ 0 ∷ 0 ∷ 3 ∷ 1 ∷ 7 ∷ 1 ∷ 2 ∷ 3 ∷ 1 ∷ 2 ∷ 4 ∷ 5 ∷ 6 ∷ 0 ∷ 0 ∷ 8 ∷ 9 ∷ 10 ∷ 1 ∷ 0 ∷ []
unfolding machine_words states_words trs_words list_words trs_in
two_rows = refl
