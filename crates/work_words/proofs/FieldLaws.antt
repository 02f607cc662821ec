-- A word with one field changed, as the code makes it.
use mathlib.Core.Path.{◌≡◌, refl}
use Prim.Native.Nat.{ℕ, ◌+◌, ◌*◌, ◌/◌, ◌%◌, ◌≤◌, ◌<◌}
use native.Mathlib.Omega.{arith}
use borrow.Author.Tests.{le-ltb}
use Rattle.searches.proofs.Columns.{up_suc}
use Rattle.searches.specs.WorkWords.{pack3, low, middle, high, up}

pub low_changed : (w v : ℕ) → v + 16777216 * (w / 16777216) ≡ pack3 v (middle w) (high w)
unfolding pack3 middle high
low_changed w v = omega arith

pub middle_changed : (w v : ℕ) → w % 16777216 + 16777216 * (v + 16777216 * (w / 16777216 / 16777216)) ≡ pack3 (low w) v (high w)
unfolding pack3 low high
middle_changed w v = refl

pub high_changed : (w v : ℕ) → w % 281474976710656 + 281474976710656 * v ≡ pack3 (low w) (middle w) v
unfolding pack3 low middle
high_changed w v = omega arith

pub up_below : (x : ℕ) → x < 16777216 → x + 1 ≡ up x
up_below x h = let e = up_suc x h in omega (arith, e)

pub up_not : (x : ℕ) → 16777216 ≤ x → x ≡ up x
unfolding up
up_not x h = rw (le-ltb x 16777216 h) refl
