-- 02, 2.7, of the fan-out of a look-up: the list acts there as in every call that is lent the machines.
use Rattle.std.specs.Prelude.{◌≡◌, true, cond, [], ℕ, eqb, leb}
use Rattle.words.specs.Labels.{Checked, refuse_if, and_then}
use Rattle.words.specs.Machines.{well_formed}
use Rattle.words.specs.Ignored.{ignored_ok}
use Rattle.words.specs.Sides.{non_empty}
use Rattle.words.specs.Settings.{Settings, Lent}
use Rattle.calls.specs.Store.{six}
use Rattle.calls.specs.Ignoring.{plain1, plain2, earlier_side, replaced_lent}
use Rattle.fan_outs.specs.FanOut.{fan_out, states_of, fan_out_at, fan_out_of}

-- the earlier text of the call
abbrev pub earlier_fan_out : Settings → Lent → (n q x : ℕ) → Checked ℕ
earlier_fan_out s l n q x = and_then (earlier_side six s l) (λ side. refuse_if (leb (states_of l n) q) 9 (fan_out (cond (eqb n 1) (plain1 s l) (plain2 s l)) q x))

-- "An empty list changes nothing"
abbrev pub EmptyFanOut : Type 0
EmptyFanOut = (s : Settings) (l : Lent) → l.ignored ≡ [] → (n q x : ℕ) → fan_out_of s l n q x ≡ earlier_fan_out s l n q x

-- otherwise the answer is that of the replaced words without a list: of the call, and after an accepted opening
pub record FanOutAsReplaced (s : Settings) (l : Lent) : Type 0 where
  pub call : (n q x : ℕ) → fan_out_of s l n q x ≡ fan_out_of s (replaced_lent s l) n q x
  pub at : (n q x : ℕ) → fan_out_at s l n q x ≡ fan_out_at s (replaced_lent s l) n q x

abbrev pub OtherwiseFanOut : Type 0
OtherwiseFanOut = (s : Settings) (l : Lent) → well_formed l.m1 ≡ true → well_formed l.m2 ≡ true → non_empty l.ignored ≡ true → ignored_ok l.ignored ≡ true → FanOutAsReplaced s l
