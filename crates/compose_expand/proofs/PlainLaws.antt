-- What a plain expansion leaves: all steps stored, the last link ended, the state marked.
use mathlib.Core.Path.{◌≡◌, refl, sym, ◌∙◌, ap}
use mathlib.Core.Bool.{Bool, true, false, cond}
use mathlib.Core.List.{List}
use Prim.Native.Nat.{ℕ, ◌≤◌}
use native.Mathlib.Omega.{arith}
use lib.Dec.{eqb}
use Rattle.words.specs.Labels.{Checked, good}
use Rattle.words.specs.Steps.{Composition, Step, steps_at}
use Rattle.calls.specs.Store.{Memory, Store, Part, triple_at, mark}
use Rattle.calls.specs.Checks.{Session, store_of}
use Rattle.calls.specs.Calls.{settle, new_part, expansion}
use Rattle.stored_steps.specs.Storing.{store_all, end_from, end_link, Fits}
use Rattle.stored_steps.proofs.AllSteps.{all_trs, fits_settle}
use Rattle.compose_store.proofs.ExpandLaws.{expanded_new}

-- no fewer transitions are used after the steps
pub no_fewer : (d e : Store) (steps : List (Checked Step)) → Fits d steps → e ≡ store_all d steps → d.used.trs ≤ e.used.trs
no_fewer d e steps f q = omega (arith, all_trs d steps f, ap (λ (x : Store). x.used.trs) q)

-- ending the last link leaves the used counts
end_used : (before : ℕ) (d : Store) → (end_from before d).used ≡ d.used
unfolding end_link
end_used before d = go (eqb d.used.trs before)
  where
    go : (b : Bool) → (cond b d (end_link d)).used ≡ d.used
    go true = refl
    go false = refl

pub plain_left : (c : Composition) (s : Session) (m : Memory) (n : ℕ) (e g v : Store) (p : Part) → Fits (store_of s m) (steps_at c (triple_at m.states n))
    → e ≡ store_all (store_of s m) (steps_at c (triple_at m.states n)) → g ≡ end_from s.used.trs e → p ≡ new_part s.used e.used → v ≡ mark g n p.first
    → settle s m (expansion c s m n) ≡ record { answer = good p; session = record { settings = s.settings; side = s.side; used = v.used }; memory = v.memory }
plain_left c s m n e g v p f q h k z =
    expanded_new c s m n g v p (fits_settle (store_of s m) (steps_at c (triple_at m.states n)) f ∙ ap good (ap (end_from s.used.trs) (sym q) ∙ sym h))
    (k ∙ ap (new_part s.used) (sym (end_used s.used.trs e) ∙ ap (λ (x : Store). x.used) (sym h))) z
