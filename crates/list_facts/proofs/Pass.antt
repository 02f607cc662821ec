-- One pass along a list: what was found so far, with what is left of the list, tells the same as the whole list.
use mathlib.Core.Path.{◌≡◌, refl, ◌∙◌}
use mathlib.Core.Bool.{Bool, true, false, ◌&&◌, cond, and_assoc}
use mathlib.Core.List.{List, ◌∷◌}
use Prim.Native.Nat.{ℕ, ◌+◌, ◌≤◌, max}
use native.Mathlib.Omega.{arith}
use lib.Dec.{eqb}
use lib.ListN.{length}
use Rattle.lists.specs.Lists.{put_if, keep_if, every}
use Rattle.words.specs.Labels.{eps_label, no_label}
use Rattle.words.specs.Weights.{Kind, is_zero}
use Rattle.sorted_lists.specs.Longest.{longest}
use Rattle.list_facts.specs.Facts.{heaviest}

one_eps : (b : Bool) (t : ℕ) (l : List ℕ) → length (put_if b t l) ≡ cond b 1 0 + length l
one_eps true t l = omega arith
one_eps false t l = omega arith

pub eps_within_lem : (b : Bool) (a c : ℕ) → a ≤ c → a + cond b 1 0 ≤ c + 1
eps_within_lem true a c h = omega (arith, h)
eps_within_lem false a c h = omega (arith, h)

same_within_lem : (b : Bool) (a c : ℕ) → a ≤ c → cond b (a + 1) 1 ≤ c + 1
same_within_lem true a c h = omega (arith, h)
same_within_lem false a c h = omega (arith, h)

module _ (label weight : ℕ → ℕ) (k : Kind) (on : ℕ → Bool) (all : List ℕ) where
  abbrev epsilons : List ℕ → ℕ
  epsilons l = length (keep_if (λ t. eqb (label t) eps_label) l)

  -- what was found so far: the length, the epsilons, whether all goes on, the largest weight, the longest run; how often the last label came in a row
  pub record Found (left : List ℕ) (len eps : ℕ) (straight : Bool) (most run same last : ℕ) : Type 0 where
    pub lens : len + length left ≡ length all
    pub epss : eps + epsilons left ≡ epsilons all
    pub straights : straight && every on left ≡ every on all
    pub mosts : max most (heaviest k weight left) ≡ heaviest k weight all
    pub runs : longest label last same run left ≡ longest label no_label 0 0 all
    -- these two are at most the length
    pub eps_within : eps ≤ len
    pub same_within : same ≤ len

  pub begun : Found all 0 0 true 0 0 0 no_label
  begun = record {
    lens = omega arith;
    epss = omega arith;
    straights = refl;
    mosts = omega arith;
    runs = refl;
    eps_within = omega arith;
    same_within = omega arith;
  }

  -- a turn
  pub noted : (t : ℕ) (left : List ℕ) (len eps : ℕ) (straight : Bool) (most run same last : ℕ) → Found (t ∷ left) len eps straight most run same last
      → let row = cond (eqb (label t) last) (same + 1) 1 in
      Found left (len + 1) (eps + cond (eqb (label t) eps_label) 1 0) (straight && on t) (max most (cond (is_zero k (weight t)) 0 (weight t))) (max run row) row (label t)
  unfolding keep_if every heaviest longest
  noted t left len eps straight most run same last f =
      record {
        lens = omega (arith, f.lens);
        epss = omega (arith, f.epss, one_eps (eqb (label t) eps_label) t (keep_if (λ u. eqb (label u) eps_label) left));
        straights = and_assoc straight (on t) (every on left) ∙ f.straights;
        mosts = omega (arith, f.mosts);
        runs = f.runs;
        eps_within = eps_within_lem (eqb (label t) eps_label) eps len f.eps_within;
        same_within = same_within_lem (eqb (label t) last) same len f.same_within;
      }
