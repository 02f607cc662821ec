-- A query not of three words is looked up in no machine.
use mathlib.Core.Path.{◌≡◌, refl}
use mathlib.Core.List.{List}
use Prim.Native.Nat.{ℕ}
use lib.ListN.{length}
use borrow.Author.Tests.{ne_eqb}
use Rattle.words.specs.Settings.{Settings, Lent}
use Rattle.fan_outs.specs.FanOut.{fan_out_at, queried}

pub unasked : (s : Settings) (l : Lent) (query : List ℕ) → (length query ≡ 3 → ⊥) → fan_out_at s l 0 0 0 ≡ queried s l query
unfolding fan_out_at
unasked s l query h = rw (ne_eqb (length query) 3 h) refl
