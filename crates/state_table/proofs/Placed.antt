-- A link found along the chain, or a state just added, is what `place` says.
use mathlib.Core.Path.{◌≡◌, refl, sym, ◌∙◌, ap}
use mathlib.Core.List.{List}
use Rattle.std.specs.Prelude.{Option, None, Some}
use Prim.Native.Nat.{ℕ, zero, suc, ◌+◌, ◌-◌}
use native.Mathlib.Omega.{arith}
use Rattle.words.specs.Steps.{Triple}
use Rattle.calls.specs.Store.{Store, find, add}
use Rattle.calls.specs.Calls.{Reached}
use Rattle.stored_steps.specs.Storing.{place}
use Rattle.stored_steps.proofs.OneStep.{place_found, place_new}
use Rattle.store_records.specs.Meaning.{stored}
use Rattle.state_table.specs.Meaning.{link_means, placed_by}

pub placed_found : (heads states trs : List ℕ) (used k link : ℕ) (t : Triple) → (link ≡ 0 → ⊥) → link_means link ≡ find (stored heads states trs used k) t
    → placed_by heads states trs used k link ≡ place (stored heads states trs used k) t
placed_found heads states trs used k zero t h e = absurd (h refl)
placed_found heads states trs used k (suc n) t h e = sym (place_found (stored heads states trs used k) t n (sym e))

-- where none was found
pub missing : (link : ℕ) (d : Store) (t : Triple) → link ≡ 0 → link_means link ≡ find d t → find d t ≡ None
missing link d t z e = sym (ap link_means (sym z) ∙ e)

pub placed_new : (heads states newHeads new_states trs : List ℕ) (used k : ℕ) (t : Triple) → find (stored heads states trs used k) t ≡ None
    → stored newHeads new_states trs (used + 1) k ≡ add (stored heads states trs used k) t → placed_by newHeads new_states trs used k 0 ≡ place (stored heads states trs used k) t
placed_new heads states newHeads new_states trs used k t e a =
    ap (λ (d : Store). record { store = d; state = used }) a ∙ sym (place_new (stored heads states trs used k) t e)

-- a link that is not 0 leads to a state that was there
pub placed_some : (heads states trs : List ℕ) (used k link : ℕ) → (link ≡ 0 → ⊥) → placed_by heads states trs used k link ≡ record { store = stored heads states trs used k; state = link - 1 }
placed_some heads states trs used k zero h = absurd (h refl)
placed_some heads states trs used k (suc n) h = let z : suc n - 1 ≡ n = omega arith in rw z

-- a state was added where none was found
pub placed_lacks : (heads states newHeads new_states trs : List ℕ) (used k : ℕ) (t : Triple) → placed_by newHeads new_states trs used k 0 ≡ place (stored heads states trs used k) t
    → find (stored heads states trs used k) t ≡ None
placed_lacks heads states newHeads new_states trs used k t e = go (find (stored heads states trs used k) t) refl
  where
    go : (o : Option ℕ) → find (stored heads states trs used k) t ≡ o → find (stored heads states trs used k) t ≡ None
    go None p = p
    go (Some n) p = let z = ap (λ (r : Reached). r.store.used.states) (e ∙ place_found (stored heads states trs used k) t n p) in absurd (omega (arith, z))
