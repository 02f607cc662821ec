-- The expansion by what its steps leave: the store with the state marked, or a refusal and all as it was.
use mathlib.Core.Path.{◌≡◌, sym, ◌∙◌, ap, subst}
use mathlib.Core.List.{List, [], ◌∷◌}
use Prim.Native.Nat.{ℕ, ◌<◌}
use Rattle.words.specs.Labels.{Checked, good, refused, and_then}
use Rattle.words.specs.Settings.{Lent}
use Rattle.words.specs.Steps.{Composition, Step, steps_at}
use Rattle.words.proofs.CheckedLaws.{good≢refused, refused_is}
use Rattle.calls.specs.Store.{Memory, Store, Part, triple_at, mark}
use Rattle.calls.specs.Checks.{Session, store_of, entered}
use Rattle.calls.specs.Calls.{Outcome, settle, store_steps, new_part, expansion, expansion_with, store_steps_with}
use Rattle.calls.proofs.ExpandKept.{entered_is}
use Rattle.compose_weigh.specs.Weigh.{weigh_of}
use Rattle.compose_weigh.proofs.EnteredLaws.{weigh_entered}

-- a weighing that refuses tells the number with which storing refuses
pub refused_same : (x : Checked Store) (k : ℕ) → ◌≡◌ {A = Checked (Unit {0})} (refused k) (and_then x (λ d. good tt)) → x ≡ refused k
refused_same (good d) k e = absurd (good≢refused (sym e))
refused_same (refused n) k e = ap refused (sym (refused_is e))

module _ (c : Composition) (s : Session) (m : Memory) (n : ℕ) where
  -- part and store of an accepted expansion
  abbrev leaves : Part → Store → Outcome Part
  leaves p e = record { answer = good p; session = record { settings = s.settings; side = s.side; used = e.used }; memory = e.memory }

  taken_on : (d : Store) → store_steps (store_of s m) (steps_at c (triple_at m.states n)) ≡ good d
      → settle s m (expansion c s m n) ≡ leaves (new_part s.used d.used) (mark d n (new_part s.used d.used).first)
  unfolding expansion_with
  taken_on d g = rw g

  pub expanded_new : (d e : Store) (p : Part) → store_steps (store_of s m) (steps_at c (triple_at m.states n)) ≡ good d → p ≡ new_part s.used d.used → e ≡ mark d n p.first
      → settle s m (expansion c s m n) ≡ record { answer = good p; session = record { settings = s.settings; side = s.side; used = e.used }; memory = e.memory }
  expanded_new d e p g q f = taken_on d g ∙ ap (λ (o : Part). leaves o (mark d n o.first)) (sym q) ∙ ap (leaves p) (sym f)

  pub expanded_refused : (k : ℕ) → store_steps (store_of s m) (steps_at c (triple_at m.states n)) ≡ refused k
      → settle s m (expansion c s m n) ≡ record { answer = refused k; session = s; memory = m }
  unfolding expansion_with
  expanded_refused k g = rw g

  -- 10 alone
  pub start_refused : (k : ℕ) → refused k ∷ [] ≡ steps_at c (triple_at m.states n) → settle s m (expansion c s m n) ≡ record { answer = refused k; session = s; memory = m }
  unfolding store_steps_with
  start_refused k e = expanded_refused k (ap (store_steps (store_of s m)) (sym e))

-- where the checks 1 to 8 passed, the steps of a found state are weighed exactly
pub ready : (l : Lent) (s : Session) (m : Memory) (c : Composition) (n : ℕ) (steps : List (Checked Step)) → entered l s m ≡ good c → n < s.used.states → steps ≡ steps_at c (triple_at m.states n)
    → weigh_of (store_of s m) steps ≡ and_then (store_steps (store_of s m) steps) (λ d. good tt)
ready l s m c n steps e found k =
    subst (λ x. weigh_of (store_of s m) x ≡ and_then (store_steps (store_of s m) x) (λ d. good tt)) (sym k) (weigh_entered l s m c (entered_is l s m c e) n found)
