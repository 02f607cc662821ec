-- The weighing window by window: the weighing from here on, with some used states that leave `left` records, answers what all of it does.
use mathlib.Core.Path.{◌≡◌, refl, sym, ◌∙◌, subst}
use mathlib.Core.List.{List}
use Rattle.std.specs.Prelude.{Option, Result}
use Prim.Native.Nat.{ℕ, ◌+◌, ◌-◌, ◌≤◌, ◌<◌}
use native.Mathlib.Omega.{arith}
use borrow.Author.Tests.{lt-ltb, le-ltb}
use Rattle.words.specs.Labels.{Checked, refused}
use Rattle.words.specs.Steps.{Step}
use Rattle.fst.specs.declared.refusals.Refusal.{Refusal}
use Rattle.calls.specs.Store.{Store, state_room}
use Rattle.compose_weigh.specs.Weigh.{is_new, weigh_from, weigh_of}
use Rattle.compose_weigh.specs.Windows.{new_within, Ahead}
use Rattle.compose_weigh.specs.Meaning.{Tells, Spans}
use Rattle.compose_weigh.proofs.WindowLaws.{after_new, ahead_more, weigh_window}

pub record Weighs (d : Store) (all : List (Checked Step)) (i left : ℕ) (rest : List (Checked Step)) : Type 0 where
  pub u : ℕ
  pub spare : left ≡ state_room d.memory - u
  pub ahead : Ahead i all rest
  pub same : weigh_from d all i u rest ≡ weigh_of d all

pub weighs_start : (d : Store) (all : List (Checked Step)) (left : ℕ) → left ≡ state_room d.memory - d.used.states → Weighs d all 0 left all
unfolding weigh_of
weighs_start d all left e = record { u = d.used.states; spare = e; ahead = refl; same = refl }

module _ (d : Store) (all : List (Checked Step)) (i left : ℕ) (steps : List (Checked Step)) (w : Weighs d all i left steps)
    (k j : ℕ) (rest : List (Checked Step)) (e : Option (Result (Unit {0}) Refusal)) (s : Spans d i k steps rest j e) (n : ℕ) (counted : n ≡ new_within (is_new d all i) k steps) where
  abbrev R : ℕ
  R = state_room d.memory

  window : weigh_from d all i w.u steps ≡ after_new (R - w.u) n (weigh_from d all j (w.u + n) rest)
  window =
      let c = s.counts in
      rw (counted, ← c) (weigh_window d all k i w.u steps rest w.ahead s.ahead (λ l. let r = s.recorded l in omega (arith, r, c)))

  -- a record is lacking among the new states
  pub weighs_lacks : left < n → weigh_of d all ≡ refused 13
  weighs_lacks h = let p = w.spare in sym w.same ∙ (rw (lt-ltb (R - w.u) n (omega (arith, h, p))) at window)

  -- there are records for all
  pub weighs_next : n ≤ left → Weighs d all j (left - n) rest
  weighs_next h =
      let p = w.spare in
      record {
        u = w.u + n;
        spare = omega (arith, p);
        ahead = subst (λ x. Ahead x all rest) s.counts (ahead_more i k all steps rest w.ahead s.ahead);
        same = sym (rw (le-ltb (R - w.u) n (omega (arith, h, p))) at window) ∙ w.same;
      }

  -- what ends the steps after them is the answer
  pub weighs_told : n ≤ left → Tells (weigh_of d all) e
  weighs_told h = let v = weighs_next h in subst (λ x. Tells x e) v.same (s.told all v.u)
