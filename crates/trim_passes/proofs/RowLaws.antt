-- The rows of the kept states, state by state.
use mathlib.Core.Path.{◌≡◌, refl, ◌∙◌, ap}
use mathlib.Core.Bool.{Bool, true, false, cond}
use mathlib.Core.List.{List, [], map}
use Prim.Native.Nat.{ℕ, suc, ◌+◌, ◌-◌, ◌≤◌, ◌<◌}
use native.Mathlib.Omega.{arith}
use lib.ListN.{length, length-map}
use Rattle.lists.specs.Lists.{put_if, keep_if, interval}
use Rattle.words.specs.Steps.{Composition}
use Rattle.calls.specs.Store.{Store}
use Rattle.searches.specs.StoreLinks.{first_in}
use Rattle.machine_words.specs.MachineWords.{trs_in}
use Rattle.trim_passes.specs.Passes.{is_kept, kept_from, new_tr, row_in, rows_from}
use Rattle.trim_passes.proofs.KeptLaws.{kept_few}

-- state n and those after it
pub rows_turn : (c : Composition) (d : Store) (work : List ℕ) (n : ℕ) → n < d.used.states → rows_from c d work n ≡ put_if (is_kept work n) (row_in c d work n) (rows_from c d work (n + 1))
unfolding rows_from interval keep_if
rows_turn c d work n h =
    let e : d.used.states - n ≡ suc (d.used.states - (n + 1)) = omega arith in
    let f : n + 1 ≡ suc n = omega arith in
    rw (e, f) (one (is_kept work n))
  where
    rest : List ℕ
    rest = keep_if (is_kept work) (interval (suc n) (d.used.states - suc n))

    one : (b : Bool) → map (row_in c d work) (put_if b n rest) ≡ put_if b (row_in c d work n) (map (row_in c d work) rest)
    one true = refl
    one false = refl

-- none is left
pub rows_end : (c : Composition) (d : Store) (work : List ℕ) (n : ℕ) → d.used.states ≤ n → rows_from c d work n ≡ []
unfolding rows_from interval keep_if
rows_end c d work n h = let e : d.used.states - n ≡ 0 = omega arith in rw e refl

-- the transitions of a row, and of those after it
pub trs_turn : (c : Composition) (d : Store) (work : List ℕ) (n : ℕ) → n < d.used.states
    → trs_in (rows_from c d work n) ≡ cond (is_kept work n) (length (kept_from d work (first_in d n))) 0 + trs_in (rows_from c d work (n + 1))
unfolding trs_in
trs_turn c d work n h = ap trs_in (rows_turn c d work n h) ∙ one (is_kept work n)
  where
    one : (b : Bool) → trs_in (put_if b (row_in c d work n) (rows_from c d work (n + 1))) ≡ cond b (length (kept_from d work (first_in d n))) 0 + trs_in (rows_from c d work (n + 1))
    one true = ap (λ k. k + trs_in (rows_from c d work (n + 1))) (length-map (kept_from d work (first_in d n)) (new_tr d work))
    one false = omega arith

pub trs_end : (c : Composition) (d : Store) (work : List ℕ) (n : ℕ) → d.used.states ≤ n → trs_in (rows_from c d work n) ≡ 0
unfolding trs_in
trs_end c d work n h = ap trs_in (rows_end c d work n h)

-- the transitions of one state are few
pub count_few : (d : Store) (work : List ℕ) (n k : ℕ) → k ≡ cond (is_kept work n) (length (kept_from d work (first_in d n))) 0 → k ≤ suc d.used.trs
count_few d work n k e = one (is_kept work n) e
  where
    one : (b : Bool) → k ≡ cond b (length (kept_from d work (first_in d n))) 0 → k ≤ suc d.used.trs
    one true f = let z = kept_few d work (first_in d n) in omega (arith, f, z)
    one false f = omega (arith, f)
