-- "8 is never answered", as a fact about all replies of a list: a found state is refused by 10 to 13, one that is not found by 9, and an opening by 1 to 7, 18 or 13.
use mathlib.Core.Path.{◌≡◌, refl, sym, ◌∙◌, ap}
use mathlib.Core.List.Memᴰ
use mathlib.Core.List.{List, [], ◌∷◌, Memᴰ as In}
use mathlib.Core.Logic.{◌≢◌, ⊎_elim}
use Prim.Native.Nat.{ℕ, ◌<◌}
use native.Mathlib.Omega.{arith}
use native.Mathlib.Decide.{dec_lt}
use borrow.Author.Tests.{le-leb}
use Rattle.words.specs.Labels.{Checked, good, refused}
use Rattle.words.specs.Steps.{Composition}
use Rattle.words.specs.Settings.{Lent}
use Rattle.words.proofs.CheckedLaws.{refused_is}
use Rattle.calls.specs.Store.{Part}
use Rattle.calls.specs.Checks.{Session, entered_at_with}
use Rattle.calls.specs.Calls.{Outcome, open_of, final_weight_with}
use Rattle.calls.specs.Sequences.{World, Call, opening, expand, final_weight, records, run, Said, refusal, accepted, part, weight, Reply, answered, handed, said_of, turn_of, call_of, replies, call_with, replies_with}
use Rattle.calls.proofs.ExpandCases.{expand_late}
use Rattle.calls.proofs.OpenCases.{open_refusals}
use Rattle.readings.specs.Worlds.{world_of, expand_in, final_in, run_in, OpeningsRefused}
use Rattle.readings.proofs.Grows.{KeptWorld}
use Rattle.readings.proofs.CallsKept.{expand_numbers, final_numbers}
use Rattle.readings.proofs.Pieces.{run_onto}
use Rattle.readings.proofs.CallLists.{one_call}

-- the number of a refusal, where the reply is one
abbrev number_of : Reply → ℕ
number_of (answered (refusal n) s) = n
number_of (answered accepted s) = 0
number_of (answered (part p) s) = 0
number_of (answered (weight x) s) = 0
number_of (handed words) = 0

-- a call whose answer is not refused by 8 does not say so
turn_eight : {A : Type 0} (say : A → Said) → ((a : A) (t : Session) → number_of (answered (say a) t) ≡ 0) → (o : Outcome A) → o.answer ≢ refused 8 → (t : Session) → (turn_of say o).reply ≢ answered (refusal 8) t
turn_eight {A} say quiet o h t = go o.answer refl
  where
    go : (a : Checked A) → o.answer ≡ a → answered (said_of say a) o.session ≢ answered (refusal 8) t
    go (good a) e z = let n : number_of (answered (say a) o.session) ≡ 8 = ap number_of z in omega (arith, quiet a o.session, n)
    go (refused k) e z = h (e ∙ ap refused (ap number_of z))

module _ (l : Lent) (c : Composition) where
  expand_eight : (w : World) → KeptWorld l c w → (n : ℕ) → (expand_in l w n).answer ≢ refused 8
  expand_eight w h n e = go (dec_lt n w.session.used.states)
    where
      go : Dec (n < w.session.used.states) → ⊥
      go (yes i) = let r = expand_numbers l c w h n i 8 e in omega (arith, r.0)
      go (no i) =
          let z : ◌≡◌ {A = ℕ} 9 8 = refused_is (sym (ap (λ (o : Outcome Part). o.answer) (expand_late l w.session w.memory c h.sound.enters n (omega arith))) ∙ e) in
          omega (arith, z)

  final_eight : (w : World) → KeptWorld l c w → (n : ℕ) → (final_in l w n).answer ≢ refused 8
  unfolding final_weight_with entered_at_with
  final_eight w h n e = go (dec_lt n w.session.used.states)
    where
      go : Dec (n < w.session.used.states) → ⊥
      go (yes i) = let r = final_numbers l c w h n i 8 e in omega (arith, r)
      go (no i) = let z : ◌≡◌ {A = ℕ} 9 8 = refused_is (rw (h.sound.enters, le-leb w.session.used.states n (omega arith)) at e) in omega (arith, z)

  run_eight : (w : World) → KeptWorld l c w → (run_in l w).answer ≢ refused 8
  run_eight w h e =
      let r = run_onto l c w h in
      let q = r.is.stops 8 e in
      let z = expand_numbers l c (world_of (run_in l w)) r.onto.kept r.is.stop q.0 8 q.1 in
      omega (arith, z.0)

  call_eight : (w : World) → KeptWorld l c w → (x : Call) (t : Session) → (call_of l w x).reply ≢ answered (refusal 8) t
  unfolding call_with
  call_eight w h (opening s k) =
      turn_eight (λ u. accepted) (λ a t. refl) (open_of s k w.session w.memory) (λ e. ⊎_elim (⊎_elim (λ z. omega (arith, z)) (λ z. omega (arith, z))) (λ z. omega (arith, z)) (open_refusals s k w.session w.memory 8 e))
  call_eight w h (expand n) = turn_eight part (λ a t. refl) (expand_in l w n) (expand_eight w h n)
  call_eight w h (final_weight n) = turn_eight weight (λ a t. refl) (final_in l w n) (final_eight w h n)
  call_eight w h (records n) = λ t z. let a : ◌≡◌ {A = ℕ} 0 8 = ap number_of z in omega (arith, a)
  call_eight w h run = turn_eight (λ u. accepted) (λ a t. refl) (run_in l w) (run_eight w h)

  pub never_eight : (w : World) (cs : List Call) → KeptWorld l c w → OpeningsRefused l w cs → (r : Reply) → In r (replies l w cs) → (t : Session) → r ≢ answered (refusal 8) t
  unfolding replies_with
  never_eight w [] h o r i t z = Memᴰ.not-nil i
  never_eight w (x ∷ cs) h o r i t z =
      let a = one_call l c w x cs h o in
      ⊎_elim (λ e. call_eight w h x t (sym e ∙ z)) (λ j. never_eight (call_of l w x).world cs a.0.kept a.1 r j t z) (Memᴰ.cases_cons i)
