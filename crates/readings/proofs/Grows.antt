-- How a later world grows from an earlier one, and what every call keeps: soundness, and that each used state is found by its triple.
use mathlib.Core.Path.{◌≡◌, refl, ◌∙◌}
use Prim.Native.Nat.{ℕ, ◌*◌, ◌≤◌, ◌<◌}
use native.Mathlib.Omega.{arith}
use lib.ListN.{length, get_or}
use Rattle.words.specs.Steps.{Composition}
use Rattle.words.specs.Settings.{Lent}
use Rattle.calls.specs.Store.{state_size, tr_size, state_room, tr_room, state_room_with, tr_room_with}
use Rattle.calls.specs.Checks.{store_of}
use Rattle.calls.specs.Sequences.{World}
use Rattle.calls.proofs.RecordLaws.{room_same}
use Rattle.calls.proofs.FindLaws.{Whole}
use Rattle.readings.specs.Worlds.{Expanded, part_in, state_at, Sound}

pub record KeptWorld (l : Lent) (c : Composition) (w : World) : Type 0 where
  pub sound : Sound l c w
  pub whole : Whole (store_of w.session w.memory)

-- states keep their triples, expanded states their lists, used transition records their words; no slice changes its length
pub record Grows (w v : World) : Type 0 where
  pub states : w.session.used.states ≤ v.session.used.states
  pub trs : w.session.used.trs ≤ v.session.used.trs
  pub states_length : length v.memory.states ≡ length w.memory.states
  pub trs_length : length v.memory.trs ≡ length w.memory.trs
  pub state : (n : ℕ) → n < w.session.used.states → state_at v n ≡ state_at w n
  pub expanded : (n : ℕ) → Expanded w n → Expanded v n
  pub part : (n : ℕ) → Expanded w n → part_in v n ≡ part_in w n
  pub word : (i : ℕ) → i < tr_size * w.session.used.trs → get_or v.memory.trs i 0 ≡ get_or w.memory.trs i 0

pub grows_none : (w : World) → Grows w w
grows_none w = record {
  states = omega arith;
  trs = omega arith;
  states_length = refl;
  trs_length = refl;
  state = λ n h. refl;
  expanded = λ n h. h;
  part = λ n h. refl;
  word = λ i h. refl;
}

pub grows_on : (w v u : World) → Grows w v → Grows v u → Grows w u
grows_on w v u p q = record {
  states = omega (arith, p.states, q.states);
  trs = omega (arith, p.trs, q.trs);
  states_length = q.states_length ∙ p.states_length;
  trs_length = q.trs_length ∙ p.trs_length;
  state = λ n h. q.state n (omega (arith, h, p.states)) ∙ p.state n h;
  expanded = λ n h. q.expanded n (p.expanded n h);
  part = λ n h. q.part n (p.expanded n h) ∙ p.part n h;
  word = λ i h. q.word i (omega (arith, h, p.trs)) ∙ p.word i h;
}

pub room_grows : (w v : World) → Grows w v → state_room v.memory ≡ state_room w.memory
unfolding state_room_with
room_grows w v g = room_same state_size w.memory.states v.memory.states g.states_length

pub tr_room_grows : (w v : World) → Grows w v → tr_room v.memory ≡ tr_room w.memory
unfolding tr_room_with
tr_room_grows w v g = room_same tr_size w.memory.trs v.memory.trs g.trs_length
