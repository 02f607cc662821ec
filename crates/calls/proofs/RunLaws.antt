-- A run need check once: the checks 1 to 8 pass again after each accepted expansion, and 9 cannot stand; and they pass again after the run.
use mathlib.Core.Path.{◌≡◌, refl, sym, ◌∙◌, ap, subst}
use mathlib.Core.Bool.{Bool, true, false}
use Prim.Native.Nat.{ℕ, zero, suc}
use lib.Dec.{eqb, leb}
use Rattle.words.specs.Labels.{Checked, good, refused, and_then}
use Rattle.words.specs.Steps.{Composition}
use Rattle.words.specs.Settings.{Lent}
use Rattle.words.proofs.CheckedLaws.{good≢refused}
use Rattle.calls.specs.Store.{Memory, state_room, expanded_at, Part}
use Rattle.calls.specs.Checks.{Session, entered, entered_at, Passes, entered_at_with}
use Rattle.calls.specs.Calls.{Outcome, Done, settle, expand_by, expand_of, onward, run_ended, run_by, run_from, run_after, run_of, expand_with, run_from_with, run_with}
use Rattle.calls.proofs.ExpandKept.{expand_kept}

-- a run that does not check
unfoldable pub run_under : Composition → ℕ → ℕ → Session → Memory → Outcome (Unit {0})
run_under c zero n s m = run_ended s m
run_under c (suc k) n s m =
    let o = settle s m (expand_by c s m n (eqb (expanded_at m.states n) 1)) in run_by (leb s.used.states n) s m o (run_under c k (suc n))

-- an expansion of a found state, where the checks 1 to 8 pass
pub expand_under : (l : Lent) (s : Session) (m : Memory) (n : ℕ) (c : Composition) → entered l s m ≡ good c → leb s.used.states n ≡ false
    → expand_of l s m n ≡ settle s m (expand_by c s m n (eqb (expanded_at m.states n) 1))
unfolding expand_with entered_at_with
expand_under l s m n c e h = rw (e, h)

-- a run, where the checks 1 to 8 pass, is one that does not check
pub run_once : (l : Lent) (k n : ℕ) (s : Session) (m : Memory) (c : Composition) → entered l s m ≡ good c → run_from l k n s m ≡ run_under c k n s m
unfolding run_from_with run_under
run_once l zero n s m c e = refl
run_once l (suc k) n s m c e = go (leb s.used.states n) refl (λ s' m' h. run_once l k (suc n) s' m' c h)
  where
    next : Outcome Part
    next = settle s m (expand_by c s m n (eqb (expanded_at m.states n) 1))

    on : (a : Checked Part) → next.answer ≡ a → ((s' : Session) (m' : Memory) → entered l s' m' ≡ good c → run_from l k (suc n) s' m' ≡ run_under c k (suc n) s' m') → leb s.used.states n ≡ false
        → onward a next.session next.memory (run_from l k (suc n)) ≡ onward a next.session next.memory (run_under c k (suc n))
    on (refused j) p rec b = refl
    on (good p) q rec b =
        let f = expand_under l s m n c e b in
        let h : (expand_of l s m n).answer ≡ good p = ap (λ (o : Outcome Part). o.answer) f ∙ q in
        rec next.session next.memory (rw f at (expand_kept l s m n c p e h))

    go : (b : Bool) → leb s.used.states n ≡ b → ((s' : Session) (m' : Memory) → entered l s' m' ≡ good c → run_from l k (suc n) s' m' ≡ run_under c k (suc n) s' m')
        → run_by b s m (expand_of l s m n) (run_from l k (suc n)) ≡ run_by b s m next (run_under c k (suc n))
    go true b rec = refl
    go false b rec = ap (λ (o : Outcome Part). onward o.answer o.session o.memory (run_from l k (suc n))) (expand_under l s m n c e b) ∙ on next.answer refl rec b

-- a refused call leaves the session and the memory that it got
stays : {A : Type 0} (s : Session) (m : Memory) (x : Checked (Done A)) (j : ℕ) → (settle s m x).answer ≡ refused j → settle s m x ≡ record { answer = refused j; session = s; memory = m }
stays s m (refused n) j e = λ i. record { answer = e i; session = s; memory = m }
stays s m (good d) j e = absurd (good≢refused e)

-- the checks 1 to 8 pass again after a run, refused at a state or not
pub run_kept : (l : Lent) (k n : ℕ) (s : Session) (m : Memory) (c : Composition) → entered l s m ≡ good c → let r = run_from l k n s m in entered l r.session r.memory ≡ good c
unfolding run_from_with expand_with
run_kept l zero n s m c e = e
run_kept l (suc k) n s m c e = go (leb s.used.states n) (λ s' m' h. run_kept l k (suc n) s' m' c h)
  where
    next : Outcome Part
    next = expand_of l s m n

    on : (a : Checked Part) → next.answer ≡ a → ((s' : Session) (m' : Memory) → entered l s' m' ≡ good c → let r = run_from l k (suc n) s' m' in entered l r.session r.memory ≡ good c)
        → let r = onward a next.session next.memory (run_from l k (suc n)) in entered l r.session r.memory ≡ good c
    on (good p) q rec = rec next.session next.memory (expand_kept l s m n c p e q)
    on (refused j) q rec = subst (λ (o : Outcome Part). entered l o.session o.memory ≡ good c) (sym (stays s m (and_then (entered_at l s m n) (λ d. expand_by d s m n (eqb (expanded_at m.states n) 1))) j q)) e

    go : (b : Bool) → ((s' : Session) (m' : Memory) → entered l s' m' ≡ good c → let r = run_from l k (suc n) s' m' in entered l r.session r.memory ≡ good c)
        → let r = run_by b s m next (run_from l k (suc n)) in entered l r.session r.memory ≡ good c
    go true rec = e
    go false rec = on next.answer refl rec

-- so that after an accepted run no call need check
pub run_passes : (l : Lent) (s : Session) (m : Memory) (u : Unit {0}) → (run_of l s m).answer ≡ good u → Passes l (run_of l s m).session (run_of l s m).memory
unfolding run_with
run_passes l s m u h = go (entered l s m) refl h
  where
    go : (x : Checked Composition) → entered l s m ≡ x → (run_after x l s m).answer ≡ good u → Passes l (run_after x l s m).session (run_after x l s m).memory
    go (good c) e h = (c, run_kept l (state_room m) 0 s m c e)
    go (refused k) e h = absurd (good≢refused (sym h))
