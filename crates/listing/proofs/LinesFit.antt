-- An accepted opening and run leave no more lines than there is room for records: one for each state, and one for each record of their lists.
use mathlib.Core.Path.{◌≡◌, refl}
use mathlib.Core.Bool.{Bool, true, false, cond}
use mathlib.Core.List.{List, []}
use Prim.Native.Nat.{ℕ, ◌+◌, ◌-◌, ◌*◌, ◌/◌, ◌≤◌}
use native.Mathlib.Omega.{arith}
use lib.Dec.{eqb}
use lib.ListN.{length, drop, length-take, length-map}
use Rattle.lists.proofs.Totals.{length_interval, parts_length}
use Rattle.words.specs.Labels.{Checked, good, refused}
use Rattle.words.specs.Settings.{Settings, Lent}
use Rattle.words.specs.Steps.{Composition}
use Rattle.calls.specs.Store.{Memory, Store, tr_size, part_at, expanded_at}
use Rattle.calls.specs.Checks.{Session, store_of, entered_at}
use Rattle.calls.specs.Calls.{words_of_part, open_of, run_of, records_by, records_of, records_with}
use Rattle.calls.specs.Listing.{tr_lines}
use Rattle.calls.proofs.FewRecords.{few_records}
use Rattle.listing.specs.Stages.{lines_at, lines_from, FewLines}

-- a line for each record
pub tr_lines_length : (words : List ℕ) → length (tr_lines words) ≡ length words / tr_size
unfolding tr_lines
tr_lines_length words = rw (length-map, length_interval) refl

-- what is handed back of a state has no more records than its list
handed_length : (c : Checked Composition) (d : Store) (n : ℕ) → length (records_by c d n) / tr_size ≤ (part_at d n).count
handed_length (refused k) d n = omega arith
handed_length (good c) d n = go (eqb (expanded_at d.memory.states n) 1)
  where
    go : (b : Bool) → length (cond b (words_of_part d.memory.trs (part_at d n)) []) / tr_size ≤ (part_at d n).count
    go true = let t = length-take (tr_size * (part_at d n).count) (drop (tr_size * ((part_at d n).first - 1)) d.memory.trs) in omega (arith, t)
    go false = omega arith

-- a state's lines: its own, and one for each of its records
lines_one : (l : Lent) (s : Session) (m : Memory) (n : ℕ) → length (lines_at l s m n) ≤ 1 + (part_at (store_of s m) n).count
unfolding records_with
lines_one l s m n =
    let e = tr_lines_length (records_of l s m n) in
    let h = handed_length (entered_at l s m n) (store_of s m) n in
    omega (arith, e, h)

-- what an accepted opening leaves has few lines, once it was run
pub few_lines : (s : Settings) (l : Lent) (got : Session) (m : Memory) → (open_of s l got m).answer ≡ good tt → FewLines l (open_of s l got m).session (open_of s l got m).memory
unfolding lines_from
few_lines s l got m e f =
    let r = run_of l (open_of s l got m).session (open_of s l got m).memory in
    let b = few_records s l got m e f in
    let p = parts_length (lines_at l r.session r.memory) (λ i. (part_at (store_of r.session r.memory) i).count) 0 r.session.used.states (λ n h. lines_one l r.session r.memory n) in
    omega (arith, b.states, b.trs, p)
