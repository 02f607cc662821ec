-- An expansion where the checks have passed, and one turn of a run: the rest of the run gives what the whole gives, and the checks pass again.
use mathlib.Core.Path.{◌≡◌, refl, sym, ap, subst}
use mathlib.Core.Bool.{true, false}
use Prim.Native.Nat.{ℕ, suc, ◌+◌, ◌≤◌, ◌<◌}
use native.Mathlib.Numerals.{add-one}
use lib.Dec.{eqb}
use borrow.Author.Tests.{le-leb, lt-leb}
use Rattle.words.specs.Labels.{Checked, good, refused}
use Rattle.words.specs.Settings.{Lent}
use Rattle.words.specs.Steps.{Composition}
use Rattle.words.proofs.CheckedLaws.{good≢refused, refused_is}
use Rattle.calls.specs.Store.{Memory, expanded_at, Part, part_at}
use Rattle.calls.specs.Checks.{Session, store_of, entered}
use Rattle.calls.specs.Calls.{Outcome, settle, expansion, expand_of, run_ended, run_from, run_from_with}
use Rattle.calls.specs.Owned.{stop_from}
use Rattle.calls.proofs.RunLaws.{expand_under}
use Rattle.calls.proofs.ExpandKept.{expand_kept}
use Rattle.calls.proofs.ExpandCases.{expand_late}
use Rattle.compose_run.specs.Meaning.{turned, turn_of}

-- what the answer of a turn says of the expansion's
pub accepted : (a : Checked Part) → good tt ≡ turned a → (p : Part) × (a ≡ good p)
accepted (good p) e = (p, refl)
accepted (refused n) e = absurd (good≢refused e)

pub stopped : (a : Checked Part) (j : ℕ) → refused j ≡ turned a → a ≡ refused j
stopped (good p) j e = absurd (good≢refused (sym e))
stopped (refused n) j e = ap refused (sym (refused_is e))

module _ (l : Lent) where
  -- a state expanded before
  pub expand_listed : (s : Session) (m : Memory) (n : ℕ) (c : Composition) (p : Part) → entered l s m ≡ good c → n < s.used.states → eqb (expanded_at m.states n) 1 ≡ true → p ≡ part_at (store_of s m) n
      → record { answer = good p; session = s; memory = m } ≡ expand_of l s m n
  expand_listed s m n c p e found h q = rw (expand_under l s m n c e (lt-leb _ _ found), h, q)

  -- a state not expanded before
  pub expand_new : (s : Session) (m : Memory) (n : ℕ) (c : Composition) → entered l s m ≡ good c → n < s.used.states → eqb (expanded_at m.states n) 1 ≡ false → settle s m (expansion c s m n) ≡ expand_of l s m n
  expand_new s m n c e found h = rw (expand_under l s m n c e (lt-leb _ _ found), h)

  -- none is left, or the run is over
  pub run_ends : (k j n : ℕ) (s : Session) (m : Memory) (v : Outcome (Unit {0})) → k ≡ suc j → s.used.states ≤ n → run_from l k n s m ≡ v → run_ended s m ≡ v
  unfolding run_from_with
  run_ends k j n s m v h b e = rw (h, le-leb _ _ b) at e

  pub run_over : (k n : ℕ) (s : Session) (m : Memory) (v : Outcome (Unit {0})) → k ≡ 0 → run_from l k n s m ≡ v → run_ended s m ≡ v
  unfolding run_from_with
  run_over k n s m v h e = rw h at e

  -- the state at which it stands, in the same two cases
  pub stop_ends : (k j n : ℕ) (s : Session) (m : Memory) (c : Composition) (v : ℕ) → entered l s m ≡ good c → k ≡ suc j → s.used.states ≤ n → stop_from l k n s m ≡ v → n ≡ v
  unfolding stop_from
  stop_ends k j n s m c v e h b q = rw (h, expand_late l s m c e n b) at q

  pub stop_over : (k n : ℕ) (s : Session) (m : Memory) (v : ℕ) → k ≡ 0 → stop_from l k n s m ≡ v → n ≡ v
  unfolding stop_from
  stop_over k n s m v h e = rw h at e

  module _ (s : Session) (m : Memory) (n : ℕ) where
    abbrev next : Outcome Part
    next = expand_of l s m n

    -- an accepted turn leaves what the expansion leaves
    module _ (s' : Session) (m' : Memory) (q : record { answer = good tt; session = s'; memory = m' } ≡ turn_of next) where
      pub took : (p : Part) × (next.answer ≡ good p)
      took = accepted next.answer (ap (λ (x : Outcome (Unit {0})). x.answer) q)

      -- the checks 1 to 8 pass again
      pub new_kept : (c : Composition) → entered l s m ≡ good c → entered l s' m' ≡ good c
      new_kept c e = subst (λ (x : Outcome (Unit {0})). entered l x.session x.memory ≡ good c) (sym q) (expand_kept l s m n c took.0 e took.1)

      -- and the rest of the run gives what the whole gives, and stands where it stands
      pub new_turn : (k j : ℕ) (v : Outcome (Unit {0})) → k ≡ suc j → n < s.used.states → run_from l k n s m ≡ v → run_from l j (n + 1) s' m' ≡ v
      unfolding run_from_with
      new_turn k j v h found e =
          subst (λ (x : Outcome (Unit {0})). run_from l j (n + 1) x.session x.memory ≡ v) (sym q) (rw add-one (rw (h, lt-leb _ _ found, took.1) at e))

      pub new_stop : (k j v : ℕ) → k ≡ suc j → stop_from l k n s m ≡ v → stop_from l j (n + 1) s' m' ≡ v
      unfolding stop_from
      new_stop k j v h e = subst (λ (x : Outcome (Unit {0})). stop_from l j (n + 1) x.session x.memory ≡ v) (sym q) (rw add-one (rw (h, took.1) at e))

    -- a refused one ends the run, and what was expanded before it stays
    module _ (i : ℕ) (s' : Session) (m' : Memory) (q : record { answer = refused i; session = s'; memory = m' } ≡ turn_of next) where
      pub no_part : next.answer ≡ refused i
      no_part = stopped next.answer i (ap (λ (x : Outcome (Unit {0})). x.answer) q)

      pub refused_turn : (k j : ℕ) (v : Outcome (Unit {0})) → k ≡ suc j → n < s.used.states → run_from l k n s m ≡ v → record { answer = refused i; session = s'; memory = m' } ≡ v
      unfolding run_from_with
      refused_turn k j v h found e =
          subst (λ (x : Outcome (Unit {0})). record { answer = refused i; session = x.session; memory = x.memory } ≡ v) (sym q) (rw (h, lt-leb _ _ found, no_part) at e)

      pub refused_stop : (k j v : ℕ) → k ≡ suc j → stop_from l k n s m ≡ v → n ≡ v
      unfolding stop_from
      refused_stop k j v h e = rw (h, no_part) at e
