-- A piece of one state that was not expanded before is its expansion, with the new records as its list.
use mathlib.Core.Path.{◌≡◌, refl, sym, ◌∙◌, ap, subst}
use mathlib.Core.Bool.{false}
use Prim.Native.Nat.{ℕ, suc, ◌≤◌, ◌<◌}
use lib.Dec.{eqb}
use borrow.Author.Tests.{lt-leb}
use Rattle.words.specs.Labels.{Checked, good, refused}
use Rattle.words.specs.Settings.{Lent}
use Rattle.words.specs.Steps.{Composition, steps_at}
use Rattle.words.proofs.CheckedLaws.{good≢refused, good_is, refused_is, past_then}
use Rattle.calls.specs.Store.{Memory, Part, triple_at, expanded_at, mark, mark_with}
use Rattle.calls.specs.Checks.{Session, store_of, entered}
use Rattle.calls.specs.Calls.{Outcome, Done as Accepted, settle, new_part, grown, onward, expansion, expansion_with, expand_of, run_from, run_from_with, store_steps}
use Rattle.calls.proofs.StepsStay.{steps_stay}
use Rattle.compose_run.specs.Meaning.{turned, turn_of}
use Rattle.compose_run.proofs.RunTurns.{expand_new}

-- the state is found, so the piece is its expansion and no more
run_one : (l : Lent) (n : ℕ) (s : Session) (m : Memory) → n < s.used.states → run_from l 1 n s m ≡ turn_of (expand_of l s m n)
unfolding run_from_with
run_one l n s m found = rw (lt-leb _ _ found) (go (expand_of l s m n) (expand_of l s m n).answer)
  where
    go : (o : Outcome Part) (a : Checked Part) → onward a o.session o.memory (run_from l 0 (suc n)) ≡ record { answer = turned a; session = o.session; memory = o.memory }
    go o (good p) = refl
    go o (refused j) = refl

-- an accepted expansion answers the new records, and no fewer transitions are used after it
new_records : (c : Composition) (s : Session) (m : Memory) (n : ℕ) (d : Accepted Part) → expansion c s m n ≡ good d → (d.value ≡ new_part s.used d.session.used) × (s.used.trs ≤ d.session.used.trs)
unfolding expansion_with mark_with
new_records c s m n d e =
    let h = past_then (store_steps (store_of s m) (steps_at c (triple_at m.states n))) (λ x. let p = new_part s.used x.used in good (grown s (mark x n p.first) p)) d e in
    subst (λ (y : Accepted Part). (y.value ≡ new_part s.used y.session.used) × (s.used.trs ≤ y.session.used.trs)) (good_is h.2) (refl, (steps_stay (store_of s m) (steps_at c (triple_at m.states n)) h.0 h.1).trs)

module _ (l : Lent) (s : Session) (m : Memory) (n : ℕ) (c : Composition) (checks : entered l s m ≡ good c) (found : n < s.used.states) (new : eqb (expanded_at m.states n) 1 ≡ false) where
  is_expansion : settle s m (expansion c s m n) ≡ expand_of l s m n
  is_expansion = expand_new l s m n c checks found new

  one : run_from l 1 n s m ≡ turn_of (settle s m (expansion c s m n))
  one = run_one l n s m found ∙ ap turn_of (sym is_expansion)

  -- what an accepted piece leaves, with the new records as the answer
  abbrev with_list : Outcome (Unit {0}) → Outcome Part
  with_list y = record { answer = good (new_part s.used y.session.used); session = y.session; memory = y.memory }

  pub one_new : (s' : Session) (m' : Memory) → record { answer = good tt; session = s'; memory = m' } ≡ run_from l 1 n s m
      → (s.used.trs ≤ s'.used.trs) × (record { answer = good (new_part s.used s'.used); session = s'; memory = m' } ≡ expand_of l s m n)
  one_new s' m' q = go (expansion c s m n) refl (q ∙ one)
    where
      go : (x : Checked (Accepted Part)) → expansion c s m n ≡ x → record { answer = good tt; session = s'; memory = m' } ≡ turn_of (settle s m x)
          → (s.used.trs ≤ s'.used.trs) × (record { answer = good (new_part s.used s'.used); session = s'; memory = m' } ≡ expand_of l s m n)
      go (refused j) e t = absurd (good≢refused (ap (λ (y : Outcome (Unit {0})). y.answer) t))
      go (good d) e t =
          let k = new_records c s m n d e in
          (subst (λ (y : Outcome (Unit {0})). s.used.trs ≤ y.session.used.trs) (sym t) k.1, ap with_list t ∙ ap (λ (p : Part). record { answer = good p; session = d.session; memory = d.memory }) (sym k.0) ∙ ap (settle s m) (sym e) ∙ is_expansion)

  pub one_refused : (j : ℕ) (s' : Session) (m' : Memory) → record { answer = refused j; session = s'; memory = m' } ≡ run_from l 1 n s m → record { answer = refused j; session = s; memory = m' } ≡ expand_of l s m n
  one_refused j s' m' q = go (expansion c s m n) refl (q ∙ one)
    where
      go : (x : Checked (Accepted Part)) → expansion c s m n ≡ x → record { answer = refused j; session = s'; memory = m' } ≡ turn_of (settle s m x) → record { answer = refused j; session = s; memory = m' } ≡ expand_of l s m n
      go (good d) e t = absurd (good≢refused (sym (ap (λ (y : Outcome (Unit {0})). y.answer) t)))
      go (refused i) e t =
          ap (λ (y : Outcome (Unit {0})). record { answer = refused j; session = s; memory = y.memory }) t
          ∙ ap (λ (k : ℕ). record { answer = refused k; session = s; memory = m }) (refused_is (ap (λ (y : Outcome (Unit {0})). y.answer) t)) ∙ ap (settle s m) (sym e) ∙ is_expansion
