-- 01, "Session and memory": form, judged on whatever memory holds.
use Rattle.std.specs.Prelude.{Bool, ◌&&◌, ◌||◌, List, ℕ, ◌+◌, eqb, ltb, leb}
use Rattle.lists.specs.Lists.{every, interval}
use Rattle.words.specs.Sides.{non_empty}
use Rattle.calls.specs.Store.{Store, target_at, tr_next_at, Layout, six, state_room_with, tr_room_with, expanded_with, first_with, next_with}

-- "heads at most the used states, and not empty if any is used"
unfoldable pub heads_ok : Store → Bool
heads_ok d = every (λ h. leb h d.used.states) d.memory.heads && (eqb d.used.states 0 || non_empty d.memory.heads)

-- A transition record: targets used; "transition chains consecutive, the last used ending in 0". Its own number is i + 1.
unfoldable pub tr_form_ok : Store → ℕ → Bool
tr_form_ok d i =
    ltb (target_at d.memory.trs i) d.used.states
    && (eqb (tr_next_at d.memory.trs i) 0 || (eqb (tr_next_at d.memory.trs i) (i + 2) && ltb (i + 1) d.used.trs))

module _ (L : Layout) where
  -- not "used above room"
  unfoldable pub fits_with : Store → Bool
  fits_with d = leb d.used.states (state_room_with L d.memory) && leb d.used.trs (tr_room_with L d.memory)

  -- "pairs in range; f at most 2": S1 and S2 are the two machines' numbers of states
  unfoldable pub triple_ok_with : ℕ → ℕ → List ℕ → ℕ → Bool
  triple_ok_with S1 S2 states n = ltb (L.triple_at states n).s1 S1 && (ltb (L.triple_at states n).s2 S2 && leb (L.triple_at states n).f 2)

  -- "expanded (0 or 1)"; "unexpanded means first 0"; firsts used
  unfoldable pub expanded_ok_with : Store → ℕ → Bool
  expanded_ok_with d n =
      leb (expanded_with L d.memory.states n) 1
      && ((eqb (expanded_with L d.memory.states n) 1 || eqb (first_with L d.memory.states n) 0)
      && leb (first_with L d.memory.states n) d.used.trs)

  -- a state record; "next below own number", which is n + 1
  unfoldable pub state_form_ok_with : ℕ → ℕ → Store → ℕ → Bool
  state_form_ok_with S1 S2 d n = triple_ok_with S1 S2 d.memory.states n && (expanded_ok_with d n && leb (next_with L d.memory.states n) n)

  -- form, on the used records
  unfoldable pub form_ok_with : ℕ → ℕ → Store → Bool
  form_ok_with S1 S2 d =
      heads_ok d
      && (every (state_form_ok_with S1 S2 d) (interval 0 d.used.states)
      && every (tr_form_ok d) (interval 0 d.used.trs))

-- the same in the layout of every call
abbrev pub fits : Store → Bool
fits = fits_with six

abbrev pub triple_ok : ℕ → ℕ → List ℕ → ℕ → Bool
triple_ok = triple_ok_with six

abbrev pub expanded_ok : Store → ℕ → Bool
expanded_ok = expanded_ok_with six

abbrev pub state_form_ok : ℕ → ℕ → Store → ℕ → Bool
state_form_ok = state_form_ok_with six

abbrev pub form_ok : ℕ → ℕ → Store → Bool
form_ok = form_ok_with six
