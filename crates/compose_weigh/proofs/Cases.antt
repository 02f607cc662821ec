-- Closed cases, on a store with one state, one head, and room for two records of each sort: two steps to one new triple need one state; 12 and 13 stand in move order.
use mathlib.Core.Path.{◌≡◌, refl}
use mathlib.Core.List.{[], ◌∷◌}
use Prim.Native.Nat.{ℕ}
use Rattle.lists.specs.Lists.{first, linked}
use Rattle.words.specs.Labels.{Checked, good, refused}
use Rattle.words.specs.Steps.{Step}
use Rattle.calls.specs.Store.{Store, triple_at, slot, head_of, same_triple, chain_with, field_of, find_with, next_with, room_with, state_room_with, tr_room_with}
use Rattle.store_records.specs.Meaning.{stored}
use Rattle.compose_weigh.specs.Weigh.{reached_within, is_new, count_state, weigh_from, weigh_of}

-- state 0 has the triple (0, 0, 0)
abbrev small : Store
small = stored (1 ∷ []) (0 ∷ 0 ∷ 0 ∷ 0 ∷ 0 ∷ 0 ∷ 0 ∷ 0 ∷ 0 ∷ 0 ∷ 0 ∷ 0 ∷ []) (0 ∷ 0 ∷ 0 ∷ 0 ∷ 0 ∷ 0 ∷ 0 ∷ 0 ∷ 0 ∷ 0 ∷ []) 1 0

-- a step to the triple (q, 0, 0)
abbrev to : ℕ → Checked Step
to q = good (record { input = 1; output = 1; weight = 0; to = record { s1 = q; s2 = 0; f = 0 } })

-- one new state for two steps
once : weigh_of small (to 1 ∷ to 1 ∷ []) ≡ good tt
unfolding weigh_of weigh_from count_state is_new reached_within state_room_with tr_room_with room_with find_with first chain_with linked head_of slot next_with triple_at field_of same_triple
once = refl

-- two new states, and one record; the 12 after it is not met
lacking : weigh_of small (to 1 ∷ to 2 ∷ refused 12 ∷ []) ≡ refused 13
unfolding weigh_of weigh_from count_state is_new reached_within state_room_with tr_room_with room_with find_with first chain_with linked head_of slot next_with triple_at field_of same_triple
lacking = refl

-- 12 before a record is lacking
heavy : weigh_of small (to 1 ∷ refused 12 ∷ to 2 ∷ []) ≡ refused 12
unfolding weigh_of weigh_from count_state is_new reached_within state_room_with tr_room_with room_with find_with first chain_with linked head_of slot next_with triple_at field_of same_triple
heavy = refl

-- 12 before 13 at one step: its transition record is lacking too
heavier : weigh_of small (to 0 ∷ to 0 ∷ refused 12 ∷ []) ≡ refused 12
unfolding weigh_of weigh_from count_state is_new reached_within state_room_with tr_room_with room_with find_with first chain_with linked head_of slot next_with triple_at field_of same_triple
heavier = refl

-- a third transition has no record, though its target is found
full : weigh_of small (to 0 ∷ to 0 ∷ to 0 ∷ []) ≡ refused 13
unfolding weigh_of weigh_from count_state is_new reached_within state_room_with tr_room_with room_with find_with first chain_with linked head_of slot next_with triple_at field_of same_triple
full = refl
