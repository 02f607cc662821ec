-- A run in both layouts: each room is fuel enough, since no more states are used than the old one has room for; so both end where none is left, or at the same refusal, or at the
-- old one's 13.
use mathlib.Core.Path.{◌≡◌, refl}
use mathlib.Core.Logic.{◌⊎◌, inl, inr}
use Prim.Native.Nat.{ℕ, zero, suc, ◌+◌, ◌≤◌, ◌<◌, min}
use native.Mathlib.Omega.{arith}
use native.Mathlib.Decide.{dec_lt}
use borrow.Author.Tests.{le-leb, lt-leb}
use Rattle.words.specs.Labels.{refused}
use Rattle.words.specs.Steps.{Composition}
use Rattle.words.specs.Settings.{Lent}
use Rattle.calls.specs.Store.{Memory}
use Rattle.calls.specs.Checks.{Session, store_of}
use Rattle.calls.specs.Calls.{Outcome, expand_of, run_ended, run_from, expand_with, run_from_with}
use Rattle.calls.proofs.ExpandKept.{entered_is}
use Rattle.layouts.specs.Layout.{five}
use Rattle.layouts.specs.SameRecords.{Small}
use Rattle.layouts.proofs.SameStores.{whole_states}
use Rattle.layouts.proofs.SameSteps.{Wide}
use Rattle.layouts.proofs.SameChecks.{Pair}
use Rattle.layouts.proofs.SameExpansions.{Ready, Expand2, expand_ready}

-- the same outcome, and the same records left
pub record Agree {A : Type 0} (K J : ℕ) (x y : Outcome A) : Type 0 where
  pub answer : x.answer ≡ y.answer
  pub session : x.session ≡ y.session
  pub pair : Pair K J x.memory y.memory y.session.used

-- or 13 in the old one
abbrev pub Run2 : ℕ → ℕ → Outcome (Unit {0}) → Outcome (Unit {0}) → Type 0
Run2 K J x y = ((x.answer ≡ refused 13) × Wide K J) ⊎ Agree K J x y

module _ {K J : ℕ} (l : Lent) (small : Small l) (c : Composition) where
  -- the used states are among the whole records
  few : (s : Session) (o m : Memory) → Ready K J l c s o m → s.used.states ≤ min 65535 K
  few s o m h = let w = whole_states o (store_of s m) h.pair.same (entered_is l s m c h.enters).form in omega (arith, w, h.low.0, h.pair.states)

  ended : (s : Session) (o m : Memory) → Ready K J l c s o m → Run2 K J (run_ended s o) (run_ended s m)
  ended s o m h = inr (record { answer = refl; session = refl; pair = h.pair })

  pub run_ready : (k j n : ℕ) (s : Session) (o m : Memory) → Ready K J l c s o m → min 65535 K ≤ n + k → min 16777215 K ≤ n + j → Run2 K J (run_from_with five l k n s o) (run_from l j n s m)
  unfolding run_from_with
  run_ready zero zero n s o m h a b = ended s o m h
  run_ready zero (suc j) n s o m h a b = let u = few s o m h in rw (le-leb s.used.states n (omega (arith, u, a))) (ended s o m h)
  run_ready (suc k) zero n s o m h a b = let u = few s o m h in rw (le-leb s.used.states n (omega (arith, u, b))) (ended s o m h)
  run_ready (suc k) (suc j) n s o m h a b = go (dec_lt n s.used.states) (expand_ready l small c s o m h n) (λ t p q r. run_ready k j (suc n) t p q r (omega (arith, a)) (omega (arith, b)))
    where
      go : Dec (n < s.used.states) → Expand2 K J l c s o m (expand_with five l s o n) (expand_of l s m n)
          → ((t : Session) (p q : Memory) → Ready K J l c t p q → Run2 K J (run_from_with five l k (suc n) t p) (run_from l j (suc n) t q))
          → Run2 K J (run_from_with five l (suc k) n s o) (run_from l (suc j) n s m)
      go (no i) x rec = rw (le-leb s.used.states n (omega arith)) (ended s o m h)
      go (yes i) (inl (x, w)) rec = inl (rw (lt-leb s.used.states n i, x), w)
      go (yes i) (inr (inl (e, x, y))) rec = rw (lt-leb s.used.states n i, x, y) (inr (record { answer = refl; session = refl; pair = h.pair }))
      go (yes i) (inr (inr (p, t, o', m', x, y, r))) rec = rw (lt-leb s.used.states n i, x, y) (rec t o' m' r)
