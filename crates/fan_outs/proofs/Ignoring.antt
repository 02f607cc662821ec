-- 02, 2.7: a fan-out reads of what it is lent the side of the rule, the two operands and the numbers of states, as every call does.
use mathlib.Core.Path.{◌≡◌, sym, ap₂}
use mathlib.Core.Bool.{cond}
use Prim.Native.Nat.{ℕ}
use lib.Dec.{eqb, leb}
use Rattle.words.specs.Labels.{refuse_if, and_then}
use Rattle.words.specs.Matches.{inputs, outputs}
use Rattle.words.specs.Sides.{only}
use Rattle.words.specs.Steps.{Composition}
use Rattle.words.specs.Settings.{Settings, Lent, ignored_by}
use Rattle.words.proofs.ReplacedLaws.{same_states}
use Rattle.calls.specs.Store.{six}
use Rattle.calls.specs.Ignoring.{replaced_lent, AsReplaced}
use Rattle.calls.proofs.Ignoring.{empty_changes_nothing, otherwise_replaced}
use Rattle.fan_outs.specs.FanOut.{fan_out, states_of, fan_out_at, fan_out_of}
use Rattle.fan_outs.specs.Ignoring.{EmptyFanOut, OtherwiseFanOut}

pub empty_fan_out : EmptyFanOut
unfolding fan_out_of fan_out_at
empty_fan_out s l e n q x =
    let r = empty_changes_nothing six l e in
    let c = r.composition s (only inputs) in
    ap₂ (λ y (z : Composition). and_then y (λ side. refuse_if (leb (states_of l n) q) 9 (fan_out (cond (eqb n 1) z.operand1 z.operand2) q x))) (r.side s) c

at_replaced : (s : Settings) (l : Lent) → AsReplaced six l (λ s. replaced_lent s l) → (n q x : ℕ) → fan_out_at s l n q x ≡ fan_out_at s (replaced_lent s l) n q x
unfolding fan_out_at
at_replaced s l r n q x =
    ap₂ (λ (k : ℕ) (z : Composition). refuse_if (leb k q) 9 (fan_out (cond (eqb n 1) z.operand1 z.operand2) q x))
    (ap₂ (λ (a b : ℕ). cond (eqb n 1) a (cond (eqb n 2) b 0)) (sym (same_states outputs (ignored_by s l) l.m1)) (sym (same_states inputs (ignored_by s l) l.m2)))
    (r.composition s (only inputs))

pub otherwise_fan_out : OtherwiseFanOut
unfolding fan_out_of
otherwise_fan_out s l formed1 formed2 some ok =
    let r = otherwise_replaced six l formed1 formed2 some ok in
    record { call = λ n q x. ap₂ (λ y z. and_then y (λ side. z)) (r.side s) (at_replaced s l r n q x); at = at_replaced s l r }
