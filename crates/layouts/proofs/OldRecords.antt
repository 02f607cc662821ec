-- Records of states in both layouts: a state is read from its own words, and two states in one word are read back.
use mathlib.Core.Path.{◌≡◌, sym, ◌∙◌}
use mathlib.Core.List.{List}
use Prim.Native.Nat.{ℕ, ◌+◌, ◌*◌, ◌/◌, ◌%◌, ◌<◌}
use native.Mathlib.Omega.{arith}
use Rattle.calls.specs.Store.{state_size, state_field, expanded_with, field_of, first_with, next_with}
use Rattle.calls.proofs.RecordLaws.{triple_same}
use Rattle.layouts.specs.Layout.{old_field}
use Rattle.layouts.specs.SameRecords.{SameState}

-- s1 × 65536 + s2 holds both
pub packed : (a b : ℕ) → b < 65536 → ((a * 65536 + b) / 65536 ≡ a) × ((a * 65536 + b) % 65536 ≡ b)
packed a b h = (omega arith, omega arith)

-- the same words, the same state
pub state_moved : (o m o' m' : List ℕ) (n : ℕ) → ((k : ℕ) → k < 5 → old_field o' n k ≡ old_field o n k) → ((k : ℕ) → k < state_size → state_field m' n k ≡ state_field m n k)
    → SameState o m n → SameState o' m' n
unfolding expanded_with first_with next_with field_of
state_moved o m o' m' n old new s = record {
  triple = rw (old 0 (omega arith), old 1 (omega arith), triple_same m m' n n (λ k h. new k (omega arith))) s.triple;
  expanded = old 2 (omega arith) ∙ (s.expanded ∙ sym (new 3 (omega arith)));
  first = old 3 (omega arith) ∙ (s.first ∙ sym (new 4 (omega arith)));
  next = old 4 (omega arith) ∙ (s.next ∙ sym (new 5 (omega arith)));
}
