-- No label of a list in which none falls stands more often than the longest run.
use mathlib.Core.Path.{◌≡◌, refl, ap, subst}
use mathlib.Core.Bool.{Bool, true, false, cond}
use mathlib.Core.List.{List, [], ◌∷◌, map}
use Prim.Native.Nat.{ℕ, ◌+◌, ◌≤◌, max}
use native.Mathlib.Omega.{arith}
use lib.Dec.{eqb}
use lib.ListN.{length}
use borrow.Author.Tests.{eqb-true, eqb-false}
use Rattle.lists.specs.Lists.{put_if, keep_if}
use Rattle.papers.specs.Machine.{Machine}
use Rattle.words.specs.Matches.{MatchType, label_on, labelled}
use Rattle.words.specs.Machines.{no_fall}
use Rattle.sorted_lists.specs.Longest.{longest}
use Rattle.sorted_lists.proofs.Falls.{fall_turn, none_above}

module _ (f : ℕ → ℕ) where
  longest_grows : (last same run : ℕ) (l : List ℕ) → run ≤ longest f last same run l
  unfolding longest
  longest_grows last same run [] = omega arith
  longest_grows last same run (u ∷ us) =
      let s = cond (eqb (f u) last) (same + 1) 1 in
      let q = longest_grows (f u) s (max run s) us in
      omega (arith, q)

  abbrev times : ℕ → List ℕ → ℕ
  times x l = length (keep_if (λ u. eqb (f u) x) l)

  -- the label in hand: what came in a row, and what comes of it yet
  row : (last same run : ℕ) (l : List ℕ) → no_fall last (map f l) ≡ true → same ≤ run → same + times last l ≤ longest f last same run l
  unfolding longest keep_if
  row last same run [] e h = omega (arith, h)
  row last same run (u ∷ us) e h = go (eqb (f u) last) refl (fall_turn last (f u) (map f us) e) (λ l s r n k. row l s r us n k)
    where
      go : (t : Bool) → eqb (f u) last ≡ t → (last ≤ f u) × (no_fall (f u) (map f us) ≡ true)
          → ((l s r : ℕ) → no_fall l (map f us) ≡ true → s ≤ r → s + times l us ≤ longest f l s r us)
          → same + length (put_if t u (keep_if (λ v. eqb (f v) last) us)) ≤ longest f (f u) (cond t (same + 1) 1) (max run (cond t (same + 1) 1)) us
      go true t p rec =
          let z = eqb-true (f u) last t in
          let q = subst (λ (y : ℕ). same + 1 + times y us ≤ longest f (f u) (same + 1) (max run (same + 1)) us) z (rec (f u) (same + 1) (max run (same + 1)) p.1 (omega arith)) in
          omega (arith, q)
      go false t p rec =
          let d = eqb-false (f u) last t in
          let z = ap length (none_above f last (f u) us (omega (arith, d, p.0)) p.1) in
          let q = longest_grows (f u) 1 (max run 1) us in
          omega (arith, z, q, h)

  -- every label
  run_bounds : (x last same run : ℕ) (l : List ℕ) → no_fall last (map f l) ≡ true → same ≤ run → times x l ≤ longest f last same run l
  unfolding longest keep_if
  run_bounds x last same run [] e h = omega arith
  run_bounds x last same run (u ∷ us) e h =
      let s = cond (eqb (f u) last) (same + 1) 1 in
      go (eqb (f u) x) refl s (max run s) (omega arith) (one (eqb (f u) last)) (fall_turn last (f u) (map f us) e).1 (run_bounds x (f u) s (max run s) us (fall_turn last (f u) (map f us) e).1 (omega arith))
    where
      one : (t : Bool) → 1 ≤ cond t (same + 1) 1
      one true = omega arith
      one false = omega arith

      go : (t : Bool) → eqb (f u) x ≡ t → (s r : ℕ) → s ≤ r → 1 ≤ s → no_fall (f u) (map f us) ≡ true → times x us ≤ longest f (f u) s r us
          → length (put_if t u (keep_if (λ v. eqb (f v) x) us)) ≤ longest f (f u) s r us
      go true t s r k o n rec =
          let z = eqb-true (f u) x t in
          let q = subst (λ (y : ℕ). s + times y us ≤ longest f (f u) s r us) z (row (f u) s r us n k) in
          omega (arith, q, o)
      go false t s r k o n rec = rec

  first_one : (b : Bool) → cond b (0 + 1) 1 ≡ 1
  first_one true = refl
  first_one false = refl

  -- before the first record, the last label plays no part
  start_any : (last other : ℕ) (l : List ℕ) → longest f last 0 0 l ≡ longest f other 0 0 l
  unfolding longest
  start_any last other [] = refl
  start_any last other (u ∷ us) = rw (first_one (eqb (f u) last), first_one (eqb (f u) other))

  run_bounds_any : (x last : ℕ) (l : List ℕ) → no_fall 0 (map f l) ≡ true → times x l ≤ longest f last 0 0 l
  run_bounds_any x last l e = subst (λ (n : ℕ). times x l ≤ n) (start_any 0 last l) (run_bounds x 0 0 0 l e (omega arith))

-- in a state's list
pub labelled_run : (on : MatchType) (M : Machine) (s last : ℕ) → no_fall 0 (map (label_on on M) (M.list s)) ≡ true → (x : ℕ) → length (labelled on M s x) ≤ longest (label_on on M) last 0 0 (M.list s)
unfolding labelled
labelled_run on M s last e x = run_bounds_any (label_on on M) x last (M.list s) e
