-- The definition on small graphs, computed.
use mathlib.Core.Path.{◌≡◌, refl}
use mathlib.Core.List.{List, [], ◌∷◌, map}
use Prim.Native.Nat.{ℕ}
use lib.ListN.{get_or}
use Rattle.searches.specs.WorkWords.{up, pack3, low, middle, high, with_low, with_middle, with_high}
use Rattle.searches.specs.UsefulSearch.{status_in, merged_to, settled_of, Links, opened_of, entered_of, on_white, on_final, on_dead, on_open, on_alive, state_at, back, killed, on_end, by_status, step_of, start_of, resume, run_of}

links : List ℕ → List ℕ → List ℕ → Links
links firsts nexts targets = record { first = λ x. get_or firsts x 0; next = λ r. get_or nexts r 0; target = λ r. get_or targets r 0 }

unfoldable statuses : Links → List ℕ → List ℕ → List ℕ
unfolding up pack3 low middle high with_low with_middle with_high merged_to settled_of opened_of entered_of on_white on_final on_dead on_open on_alive state_at back killed on_end by_status step_of start_of resume run_of
statuses L w xs = map (λ x. status_in (run_of L 60 (start_of L w)).work x) xs

-- 0 → 1, 0 → 2, 1 → 1, 3 → 2; 2 is final
one : statuses (links (1 ∷ 3 ∷ 0 ∷ 4 ∷ []) (0 ∷ 2 ∷ 0 ∷ 0 ∷ 0 ∷ []) (0 ∷ 1 ∷ 2 ∷ 1 ∷ 2 ∷ [])) (0 ∷ 0 ∷ 0 ∷ 0 ∷ 1125899906842624 ∷ 0 ∷ 0 ∷ 0 ∷ []) (0 ∷ 1 ∷ 2 ∷ 3 ∷ []) ≡ 2 ∷ 3 ∷ 2 ∷ 0 ∷ []
unfolding statuses links
one = refl

-- 0 → 1, 1 → 2, 2 → 0, 2 → 3, 3 → 4, 4 → 3, 2 → 5; 5 is final: a merge of three frames, a dead cycle in it, then an end
two : statuses (links (1 ∷ 2 ∷ 3 ∷ 5 ∷ 6 ∷ 0 ∷ []) (0 ∷ 0 ∷ 0 ∷ 4 ∷ 7 ∷ 0 ∷ 0 ∷ 0 ∷ []) (0 ∷ 1 ∷ 2 ∷ 0 ∷ 3 ∷ 4 ∷ 3 ∷ 5 ∷ []))
    (0 ∷ 0 ∷ 0 ∷ 0 ∷ 0 ∷ 0 ∷ 0 ∷ 0 ∷ 0 ∷ 0 ∷ 1125899906842624 ∷ 0 ∷ []) (0 ∷ 1 ∷ 2 ∷ 3 ∷ 4 ∷ 5 ∷ []) ≡ 2 ∷ 2 ∷ 2 ∷ 3 ∷ 3 ∷ 2 ∷ []
unfolding statuses links
two = refl
