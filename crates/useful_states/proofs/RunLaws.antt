-- One turn of the search, and its two ends.
use mathlib.Core.Path.{◌≡◌, refl, ap}
use mathlib.Core.Bool.{true, false}
use mathlib.Core.List.{List}
use Prim.Native.Nat.{ℕ, zero, suc, ◌+◌, ◌-◌, ◌*◌, ◌≤◌, ◌<◌}
use native.Mathlib.Nat.{mul-le-mul_left}
use native.Mathlib.Numerals.{add-one}
use native.Mathlib.Omega.{arith}
use Rattle.searches.specs.UsefulSearch.{Links, Found, step_of, start_of, resume, run_of}

pub run_turn : (L : Links) (left : ℕ) (f : Found) → 0 < left → f.done ≡ false → run_of L (left - 1) (step_of L f.work f.at) ≡ run_of L left f
unfolding run_of resume
run_turn L zero f h e = absurd (omega arith)
run_turn L (suc k) f h e = let z : suc k - 1 ≡ k = omega arith in rw (z, e) refl

pub run_done : (L : Links) (left : ℕ) (f : Found) → f.done ≡ true → f ≡ run_of L left f
unfolding run_of resume
run_done L zero f e = refl
run_done L (suc k) f e = rw e refl

pub run_end : (L : Links) (left : ℕ) (f : Found) → left ≡ 0 → f ≡ run_of L left f
unfolding run_of
run_end L zero f e = refl
run_end L (suc k) f e = absurd (omega arith)

-- the number of turns is a u64
pub turns_fit : (x y : ℕ) → x ≤ 16777216 → y ≤ 16777217 → x * y < 18446744073709551616
turns_fit x y h k = omega (arith, mul-le-mul_left x k)

-- started, then run
pub run_whole : (L : Links) (n k : ℕ) (w : List ℕ) (f g : Found) → g ≡ start_of L w → f ≡ run_of L ((n + 1) * k) g → f.work ≡ (run_of L (suc n * k) (start_of L w)).work
run_whole L n k w f g s e = ap (λ (x : Found). x.work) (rw (s, add-one n) at e)
