-- The words of final weights: two for each, one state after the other; they are those of all weights where none was refused.
use mathlib.Core.Path.{◌≡◌, refl, sym, ap, ◌∙◌}
use mathlib.Core.List.{List, [], ◌∷◌, ◌++◌, map, flat_map, append-nil}
use Rattle.std.specs.Prelude.{Option, None, Some}
use Prim.Native.Nat.{ℕ, suc, ◌+◌, ◌-◌, ◌*◌, ◌≤◌, ◌<◌}
use native.Mathlib.Nat.{sub-zero}
use native.Mathlib.Omega.{arith}
use lib.ListN.{length, length-append, drop_of_length-le}
use lib.Seq.{sets, sets-eq}
use Rattle.lists.specs.Lists.{interval, put}
use Rattle.lists.proofs.Put.{put_put}
use Rattle.words.specs.Labels.{Checked, good, refused, collect}
use Rattle.words.specs.Settings.{Lent}
use Rattle.words.proofs.CheckedLaws.{good≢refused}
use Rattle.calls.specs.Store.{Memory}
use Rattle.calls.specs.Checks.{Session}
use Rattle.calls.specs.Calls.{Outcome, final_weight_of}
use Rattle.calls.specs.Owned.{weights_from}
use Rattle.final_weights.specs.Weights.{verdict, given_weight, weight_words, weights_words, words_at, words_from}
use Rattle.final_weights.proofs.WeightLaws.{interval_on}

-- all words of a slice, written one after the other
pub sets_all : (w r : List ℕ) → length w ≡ length r → sets w 0 r ≡ r
sets_all w r e = sets-eq r w 0 (omega (arith, e)) ∙ ap (λ (q : List ℕ). r ++ q) (drop_of_length-le w {i = 0 + length r} (omega (arith, e))) ∙ append-nil r

two_words : (w : Option ℕ) → length (weight_words w) ≡ 2
two_words (Some w) = refl
two_words None = refl

module _ (l : Lent) (s : Session) (m : Memory) where
  words_length : (n k : ℕ) → length (words_from l s m n k) ≡ 2 * k
  unfolding words_from interval flat_map
  words_length n ℕ.zero = refl
  words_length n (suc k) =
      let a = two_words (given_weight (final_weight_of l s m n).answer) in
      let b = words_length (suc n) k in
      length-append (words_at l s m n) (words_from l s m (suc n) k) ∙ omega (arith, a, b)

  -- nothing is put yet
  pub words_start : (k : ℕ) (out : List ℕ) → length out ≡ 2 * k → put out (2 * 0) (words_from l s m 0 (k - 0)) ≡ words_from l s m 0 k
  unfolding put
  words_start k out e = ap (λ (j : ℕ). put out 0 (words_from l s m 0 j)) (sub-zero k) ∙ sets_all out (words_from l s m 0 k) (e ∙ sym (words_length 0 k))

  -- those of state n are put
  pub words_again : (n k : ℕ) (out out' whole : List ℕ) (o : Outcome (Option ℕ)) → n < k → put out (2 * n) (words_from l s m n (k - n)) ≡ whole
      → out' ≡ put out (2 * n) (weight_words (given_weight o.answer)) → o ≡ final_weight_of l s m n → put out' (2 * (n + 1)) (words_from l s m (n + 1) (k - (n + 1))) ≡ whole
  unfolding words_from flat_map
  words_again n k out out' whole o h e p q =
      let rest = words_from l s m (n + 1) (k - (n + 1)) in
      let at : 2 * (n + 1) ≡ 2 * n + length (words_at l s m n) = omega (arith, two_words (given_weight (final_weight_of l s m n).answer)) in
      ap (λ (t : List ℕ). put t (2 * (n + 1)) rest) (p ∙ ap (λ (x : Outcome (Option ℕ)). put out (2 * n) (weight_words (given_weight x.answer))) q)
      ∙ ap (λ (j : ℕ). put (put out (2 * n) (words_at l s m n)) j rest) at
      ∙ put_put out (2 * n) (words_at l s m n) rest
      ∙ ap (λ (i : List ℕ). put out (2 * n) (flat_map (words_at l s m) i)) (sym (interval_on n k h))
      ∙ e

  -- all are put
  pub words_done : (n k : ℕ) (out whole : List ℕ) → k ≤ n → put out (2 * n) (words_from l s m n (k - n)) ≡ whole → out ≡ whole
  unfolding put words_from interval flat_map
  words_done n k out whole h e = let z : k - n ≡ 0 = omega arith in rw z at e

all_words : (f : ℕ → Checked (Option ℕ)) (xs old : List ℕ) → good tt ≡ verdict (collect (map f xs))
    → flat_map (λ n. weight_words (given_weight (f n))) xs ≡ weights_words old (collect (map f xs))
unfolding collect flat_map
all_words f [] old e = refl
all_words f (x ∷ xs) old e = go (f x) (collect (map f xs)) refl e (λ d. all_words f xs old d)
  where
    go : (y : Checked (Option ℕ)) (z : Checked (List (Option ℕ))) → collect (map f xs) ≡ z → good tt ≡ verdict (collect (y ∷ map f xs))
        → (good tt ≡ verdict (collect (map f xs)) → flat_map (λ n. weight_words (given_weight (f n))) xs ≡ weights_words old (collect (map f xs)))
        → weight_words (given_weight y) ++ flat_map (λ n. weight_words (given_weight (f n))) xs ≡ weights_words old (collect (y ∷ map f xs))
    go (refused n) z q d rec = absurd (good≢refused d)
    go (good w) (refused n) q d rec = absurd (good≢refused (rw q at d))
    go (good w) (good ws) q d rec = rw (rec (sym (ap verdict q)), q)

module _ (l : Lent) (s : Session) (m : Memory) (k : ℕ) (old : List ℕ) where
  -- all were answered: the words of the states are those of all weights
  pub words_all : good tt ≡ verdict (weights_from l s m 0 k) → words_from l s m 0 k ≡ weights_words old (weights_from l s m 0 k)
  unfolding weights_from words_from
  words_all e = all_words (λ n. (final_weight_of l s m n).answer) (interval 0 k) old e
