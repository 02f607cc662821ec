-- In memory in form a look-up reads used records alone: the rest of words is not read.
use mathlib.Core.Path.{◌≡◌, ◌∙◌, ap}
use mathlib.Core.List.{List}
use Prim.Native.Nat.{ℕ, ◌≤◌, ◌<◌}
use native.Mathlib.Omega.{arith}
use Rattle.lists.specs.Lists.{first}
use Rattle.lists.proofs.Links.{first_same, linked_same}
use Rattle.words.specs.Steps.{Triple}
use Rattle.calls.specs.Store.{Store, state_size, triple_at, next_at, head_of, chain_of, same_triple, find, chain_with, find_with, next_with, state_room_with}
use Rattle.calls.proofs.RecordLaws.{next_place, triple_same}
use Rattle.calls.proofs.StoreForms.{Form}
use Rattle.calls.proofs.ChainLaws.{chain_below}
use Rattle.store_records.specs.Meaning.{stored}
use Rattle.store_records.proofs.RestLaws.{SameRecords, state_same}

module _ {S1 S2 : ℕ} (d : Store) {last : ℕ} (form : Form S1 S2 d last) (states trs : List ℕ) (same : SameRecords state_size d.memory.states states) where
  abbrev U : ℕ
  U = d.used.states

  next_rest : (n : ℕ) → n < U → next_at states n ≡ next_at d.memory.states n
  unfolding next_with state_room_with
  next_rest n h = state_same same n next_place (omega (arith, form.states_fit)) (omega arith)

  triple_rest : (n : ℕ) → n < U → triple_at states n ≡ triple_at d.memory.states n
  unfolding state_room_with
  triple_rest n h = let l = form.states_fit in triple_same d.memory.states states n n (λ k b. state_same same n k (omega (arith, l)) (omega arith))

  pub find_rest : (t : Triple) (k : ℕ) → find (stored d.memory.heads states trs U k) t ≡ find d t
  unfolding find_with chain_with head_of
  find_rest t k =
      let low : head_of d.memory.heads t ≤ U = form.head _ in
      ap (first (λ n. same_triple (triple_at states n) t)) (linked_same (next_at d.memory.states) (next_at states) U U U (head_of d.memory.heads t) (λ n h. (form.state n h).next) next_rest low low low)
      ∙ first_same (λ n. same_triple (triple_at states n) t) (λ n. same_triple (triple_at d.memory.states n) t) (chain_of d t) (λ n i. ap (λ v. same_triple v t) (triple_rest n (chain_below d form t i)))
