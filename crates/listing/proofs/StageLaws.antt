-- The stages one after the other: what each answers, said of the stage above it.
use mathlib.Core.Path.{◌≡◌, refl, sym, ap, ◌∙◌}
use mathlib.Core.List.{List, [], ◌∷◌, ◌++◌, flat_map}
use Rattle.std.specs.Prelude.{Option}
use Prim.Native.Nat.{ℕ, ◌+◌, ◌*◌, ◌≤◌, ◌<◌}
use native.Mathlib.Nat.{mul-div_cancel_left}
use native.Mathlib.Omega.{arith}
use lib.ListN.{length}
use borrow.Author.Tests.{eq-eqb, ne_eqb}
use Rattle.words.specs.Labels.{good, refused}
use Rattle.words.specs.Steps.{Triple}
use Rattle.words.specs.Settings.{Settings, Lent}
use Rattle.calls.specs.Store.{Memory, state_size, tr_size, room_of, state_room, tr_room, triple_at, room_with, state_room_with, tr_room_with}
use Rattle.calls.specs.Checks.{Session, Passes}
use Rattle.calls.specs.Calls.{Outcome, open_of, run_of, final_weight_of, records_of}
use Rattle.calls.specs.Listing.{Line, side_line, state_line, end_line, refused_line, tr_lines, printed, composed_lines, settings_of, no_session, empty_memory, listing_on}
use Rattle.calls.proofs.RunLaws.{run_passes}
use Rattle.listing_text.specs.Printing.{line_bytes, bytes_of}
use Rattle.final_weights.specs.Weights.{given_weight}
use Rattle.listing.specs.Stages.{lines_at, lines_from, ran_of, opened_of, FewLines}
use Rattle.listing.proofs.LinesFit.{few_lines}
use Rattle.listing.proofs.LineLaws.{bytes_append, bytes_one}

-- a state's line and those of its records
pub one_state : (l : Lent) (s : Session) (m : Memory) (n : ℕ) (t : Triple) (o : Outcome (Option ℕ)) (r : List ℕ) → t ≡ triple_at m.states n → o ≡ final_weight_of l s m n → r ≡ records_of l s m n
    → line_bytes (state_line n t (given_weight o.answer)) ++ bytes_of (tr_lines r) ≡ bytes_of (lines_at l s m n)
unfolding flat_map
one_state l s m n t o r p q e = λ i. bytes_of (state_line n (p i) (given_weight (q i).answer) ∷ tr_lines (e i))

-- the side, the states and the counts
pub whole_listing : (side states trs : ℕ) (ls : List Line) → line_bytes (side_line side) ++ (bytes_of ls ++ line_bytes (end_line states trs)) ≡ bytes_of (side_line side ∷ ls ++ (end_line states trs ∷ []))
unfolding flat_map
whole_listing side states trs ls =
    ap (λ (t : List ℕ). line_bytes (side_line side) ++ t) (ap (λ (t : List ℕ). bytes_of ls ++ t) (sym (bytes_one (end_line states trs))) ∙ sym (bytes_append ls (end_line states trs ∷ [])))

module _ (l : Lent) (s : Session) (m : Memory) (o : Outcome (Unit {0})) (e : o ≡ run_of l s m) where
  pub ran_refused : (k : ℕ) → o.answer ≡ refused k → refused_line k ∷ [] ≡ printed (ran_of l s m)
  unfolding ran_of
  ran_refused k q = rw (← e, q)

  pub ran_few : o.answer ≡ good tt → FewLines l s m → length (lines_from l o.session o.memory 0 o.session.used.states) ≤ state_room o.memory + tr_room o.memory
  ran_few q h = rw e (h (ap (λ (x : Outcome (Unit {0})). x.answer) (sym e) ∙ q))

  pub ran_passes : o.answer ≡ good tt → Passes l o.session o.memory
  ran_passes q = rw e (run_passes l s m tt (ap (λ (x : Outcome (Unit {0})). x.answer) (sym e) ∙ q))

module _ (s : Settings) (l : Lent) (got : Session) (m : Memory) (o : Outcome (Unit {0})) (e : o ≡ open_of s l got m) where
  pub open_refused : (k : ℕ) → o.answer ≡ refused k → refused_line k ∷ [] ≡ printed (opened_of s l got m)
  unfolding opened_of
  open_refused k q = rw (← e, q)

  pub open_few : o.answer ≡ good tt → FewLines l o.session o.memory
  open_few q = rw e (few_lines s l got m (ap (λ (x : Outcome (Unit {0})). x.answer) (sym e) ∙ q))

-- "room is 1024 records of each sort": room for every line
pub room_words : (size : ℕ) (w : List ℕ) → 0 < size → length w ≡ size * 1024 → room_of size w ≡ 1024
unfolding room_with
room_words size w some e = rw (e, mul-div_cancel_left 1024 some)

pub lines_room : (m : Memory) (n : ℕ) (out : List ℕ) → length m.states ≡ state_size * 1024 → length m.trs ≡ tr_size * 1024 → n ≤ state_room m + tr_room m → 131200 ≤ length out → 128 + 64 * n ≤ length out
unfolding state_room_with tr_room_with
lines_room m n out p q h k =
    let a = room_words state_size m.states (omega arith) p in
    let b = room_words tr_size m.trs (omega arith) q in
    omega (arith, a, b, h, k)

-- "a settings line not of six such words is refused 1"
pub not_six : (w : List ℕ) (l : Lent) → (length w ≡ 6 → ⊥) → refused_line 1 ∷ [] ≡ listing_on w l
not_six w l h = rw (ne_eqb (length w) 6 h) refl

pub six : (w : List ℕ) (l : Lent) (s : Settings) → s ≡ settings_of w → length w ≡ 6 → printed (opened_of s l (no_session s) empty_memory) ≡ listing_on w l
unfolding composed_lines opened_of ran_of
six w l s p h = rw (eq-eqb (length w) 6 h) (ap (λ (x : Settings). printed (opened_of x l (no_session x) empty_memory)) p)
