-- The weighing of steps none of which is a refusal, told by two counts: the steps, and the targets that the table lacks.
use mathlib.Core.Path.{◌≡◌, refl}
use mathlib.Core.Bool.{Bool, true, false, and-true}
use mathlib.Core.List.{List, [], ◌∷◌}
use Prim.Native.Nat.{ℕ, ◌+◌, ◌-◌, ◌≤◌, ◌<◌, min}
use native.Mathlib.Omega.{arith}
use lib.Dec.{leb}
use lib.ListN.{length}
use borrow.Author.Tests.{leb-false, lt-ltb, le-ltb}
use Rattle.words.specs.Labels.{MAX, Checked, good, refused, refuse_if, and_then}
use Rattle.words.specs.Machines.{limit}
use Rattle.words.specs.Steps.{Step}
use Rattle.calls.specs.Store.{Store, tr_size, room_of, state_room, tr_room, find}
use Rattle.calls.proofs.RecordLaws.{room_words}
use Rattle.stored_steps.specs.Storing.{AllGood}
use Rattle.compose_weigh.specs.Weigh.{reached_within, missing, is_new, count_state, weigh_from, weigh_of}
use Rattle.compose_weigh.specs.Windows.{new_within, Ahead}
use Rattle.compose_weigh.proofs.CountLaws.{new_same}
use Rattle.compose_weigh.proofs.WindowLaws.{after_new, weigh_window}
use Rattle.compose_count.specs.Room.{EnoughFor, RoomTells}
use Rattle.compose_count.specs.declared.Room.{Room}
use Rattle.compose_count.specs.declared.Room.TheVariants.{Suffices, Lacks, Unknown}

-- they are all one window
all_ahead : (steps : List (Checked Step)) → AllGood steps → Ahead (length steps) steps []
all_ahead [] g = refl
all_ahead (refused n ∷ others) g = absurd g
all_ahead (good s ∷ others) g = all_ahead others g.1

module _ (d : Store) (steps : List (Checked Step)) (g : AllGood steps) where
  abbrev new : ℕ
  new = new_within (λ t. missing (find d t)) (length steps) steps

  -- at first nothing was reached
  all_new : new_within (is_new d steps 0) (length steps) steps ≡ new
  unfolding is_new reached_within
  all_new = new_same (is_new d steps 0) (λ t. missing (find d t)) (length steps) steps (λ t. and-true (missing (find d t)))

  module _ (few : length steps ≤ tr_room d.memory - d.used.trs) where
    window : weigh_of d steps ≡ after_new (state_room d.memory - d.used.states) new (good tt)
    unfolding weigh_of weigh_from
    window =
        rw all_new at
        (weigh_window d steps (length steps) 0 d.used.states steps [] refl (all_ahead steps g) (λ l. omega (arith, few, l)))

    -- there are records for all, or a state's is lacking
    pub room_told : (room left : ℕ) → room ≡ state_room d.memory → left ≡ room - d.used.states → (r : Room) → EnoughFor new left r → RoomTells (weigh_of d steps) r
    room_told room left q e Suffices h = rw (le-ltb (state_room d.memory - d.used.states) new (omega (arith, q, e, h))) at window
    room_told room left q e Lacks h = rw (lt-ltb (state_room d.memory - d.used.states) new (omega (arith, q, e, h))) at window
    room_told room left q e Unknown h = tt

-- a transition's record is lacking, or a state's before it
lacks_from : (d : Store) (all : List (Checked Step)) (i u : ℕ) (steps : List (Checked Step)) → AllGood steps → tr_room d.memory - (d.used.trs + i) < length steps → weigh_from d all i u steps ≡ refused 13
unfolding weigh_from count_state
lacks_from d all i u [] g h = absurd (omega (arith, h))
lacks_from d all i u (refused n ∷ others) g h = absurd g
lacks_from d all i u (good s ∷ others) g h =
    by_tr (leb (tr_room d.memory) (d.used.trs + i)) refl (λ l v. lacks_from d all (i + 1) v others g.1 (omega (arith, h, l)))
  where
    onward : ℕ → Checked (Unit {0})
    onward v = weigh_from d all (i + 1) v others

    by_state : (b : Bool) → ((v : ℕ) → onward v ≡ refused 13) → and_then (count_state b (state_room d.memory) u) onward ≡ refused 13
    by_state false r = r u
    by_state true r = go (leb (state_room d.memory) u)
      where
        go : (b : Bool) → and_then (refuse_if b 13 (good (u + 1))) onward ≡ refused 13
        go true = refl
        go false = r (u + 1)

    by_tr : (b : Bool) → leb (tr_room d.memory) (d.used.trs + i) ≡ b → (d.used.trs + i < tr_room d.memory → (v : ℕ) → onward v ≡ refused 13)
        → refuse_if b 13 (and_then (count_state (is_new d all i s.to) (state_room d.memory) u) onward) ≡ refused 13
    by_tr true p r = refl
    by_tr false p r = by_state (is_new d all i s.to) (r (leb-false (tr_room d.memory) (d.used.trs + i) p))

pub room_lacks_trs : (d : Store) (steps : List (Checked Step)) → AllGood steps → tr_room d.memory - d.used.trs < length steps → weigh_of d steps ≡ refused 13
unfolding weigh_of
room_lacks_trs d steps g h = lacks_from d steps 0 d.used.states steps g (omega (arith, h))

-- as many steps as are counted where the transition records that are left suffice
pub few_steps : (trs : List ℕ) (used n moves room left : ℕ) → moves ≡ min n MAX → room ≡ room_of tr_size trs → left ≡ room - used → moves ≤ left → (n ≤ room_of tr_size trs - used) × (n ≤ limit)
few_steps trs used n moves room left m r s l =
    let most = (room_words tr_size trs (room_of tr_size trs) (omega arith)).0 in
    (omega (arith, m, r, s, l, most), omega (arith, m, r, s, l, most))
