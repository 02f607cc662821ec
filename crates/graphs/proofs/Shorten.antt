-- A walk can be made one that passes no state twice and is no longer.
use mathlib.Core.Path.{◌≡◌, refl, sym, subst}
use mathlib.Core.List.Memᴰ
use mathlib.Core.List.{List, [], ◌∷◌, Memᴰ as In}
use mathlib.Core.Logic.{◌⊎◌, inl, inr, ⊎_elim}
use Prim.Native.Nat.{ℕ, suc, ◌≤◌}
use native.Mathlib.Omega.{arith}
use lib.ListN.{length}
use Rattle.lists.specs.Lists.{Distinct}
use Rattle.papers.specs.Machine.{Machine}
use Rattle.graphs.specs.Walks.{Walk}
use Rattle.graphs.proofs.Few.{seek}

-- the states passed, the first and the last among them
abbrev pub passed : Machine → ℕ → List ℕ → List ℕ
passed M a [] = a ∷ []
passed M a (r ∷ rs) = a ∷ passed M (M.target r) rs

-- a walk from a to b that passes no state twice and is no longer than rs
pub record Straight (M : Machine) (a : ℕ) (rs : List ℕ) (b : ℕ) : Type 0 where
  pub way : List ℕ
  pub walk : Walk M a way b
  pub once : Distinct (passed M a way)
  pub shorter : length way ≤ length rs

-- the part of a straight walk from a state that it passes
cut : (M : Machine) (a x b : ℕ) (rs : List ℕ) → In a (passed M x rs) → Walk M x rs b → Distinct (passed M x rs) → Straight M a rs b
cut M a x b [] i w d = ⊎_elim
    (λ e. record { way = []; walk = subst (λ y. y ≡ b) (sym e) w; once = (λ j. Memᴰ.not-nil j, tt); shorter = omega arith })
    (λ j. absurd (Memᴰ.not-nil j)) (Memᴰ.cases_cons i)
cut M a x b (r ∷ rs) i w d = ⊎_elim
    (λ e. record { way = r ∷ rs; walk = subst (λ y. Walk M y (r ∷ rs) b) (sym e) w; once = subst (λ y. Distinct (passed M y (r ∷ rs))) (sym e) d; shorter = omega arith })
    (λ j. let s = cut M a (M.target r) b rs j w.1 d.1 in
    record { way = s.way; walk = s.walk; once = s.once; shorter = let u = s.shorter in omega (arith, u) })
    (Memᴰ.cases_cons i)

pub straighten : (M : Machine) (a b : ℕ) (rs : List ℕ) → Walk M a rs b → Straight M a rs b
straighten M a b [] w = record { way = []; walk = w; once = (λ j. Memᴰ.not-nil j, tt); shorter = omega arith }
straighten M a b (r ∷ rs) w = go (straighten M (M.target r) b rs w.1)
  where
    go : Straight M (M.target r) rs b → Straight M a (r ∷ rs) b
    go s = pick (seek a (passed M (M.target r) s.way))
      where
        pick : In a (passed M (M.target r) s.way) ⊎ (In a (passed M (M.target r) s.way) → ⊥) → Straight M a (r ∷ rs) b
        pick (inl i) =
            let c = cut M a (M.target r) b s.way i s.walk s.once in
            record { way = c.way; walk = c.walk; once = c.once; shorter = let u = c.shorter in let v = s.shorter in omega (arith, u, v) }
        pick (inr n) = record { way = r ∷ s.way; walk = (w.0, s.walk); once = (n, s.once); shorter = let v = s.shorter in omega (arith, v) }

-- one state more is passed than transitions are taken
pub passed_length : (M : Machine) (a : ℕ) (rs : List ℕ) → length (passed M a rs) ≡ suc (length rs)
passed_length M a [] = refl
passed_length M a (r ∷ rs) = let z = passed_length M (M.target r) rs in omega (arith, z)
