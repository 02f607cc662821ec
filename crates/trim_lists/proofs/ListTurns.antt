-- One record after the other: what is written, and what is still to be written, is the whole list.
use mathlib.Core.Path.{◌≡◌, refl, sym, ◌∙◌, ap}
use mathlib.Core.Bool.{cond}
use mathlib.Core.List.{List, [], ◌∷◌, map}
use Prim.Native.Nat.{ℕ, zero, suc, ◌+◌, ◌*◌, ◌≤◌, ◌<◌}
use native.Mathlib.Omega.{arith}
use lib.Dec.{eqb}
use lib.ListN.{length, set}
use borrow.Author.Tests.{ne_eqb}
use Rattle.lists.specs.Lists.{put}
use Rattle.lists.proofs.Put.{length_put, put_none, put_put}
use Rattle.words.specs.Matches.{Tr}
use Rattle.words.specs.Machines.{tr_words}
use Rattle.words.specs.Sides.{non_empty}
use Rattle.calls.specs.Store.{Store}
use Rattle.searches.specs.StoreLinks.{next_in}
use Rattle.machine_words.specs.MachineWords.{words_of_tr, list_words}
use Rattle.trim_passes.specs.Passes.{kept_from, kept_at, new_tr, new_list}
use Rattle.trim_passes.proofs.KeptLaws.{at_some, at_none}

-- five words, one after the other
pub five : (s : List ℕ) (at a b c d e : ℕ) → set (set (set (set (set s at a) (at + 1) b) (at + 2) c) (at + 3) d) (at + 4) e ≡ put s at (a ∷ b ∷ c ∷ d ∷ e ∷ [])
unfolding put
five s at a b c d e =
    let one : at + 1 ≡ suc at = omega arith in
    let two : at + 2 ≡ suc (suc at) = omega arith in
    let three : at + 3 ≡ suc (suc (suc at)) = omega arith in
    let four : at + 4 ≡ suc (suc (suc (suc at))) = omega arith in
    rw (one, two, three, four) refl

-- the list from `from` on is written from `at` on; the part of it from the kept record r on is still to come, at `here`, behind n records
pub record Writing (d : Store) (work out₀ : List ℕ) (at before from : ℕ) (out : List ℕ) (here n r : ℕ) : Type 0 where
  pub same : length out ≡ length out₀
  pub room : here + tr_words * length (kept_at d work r) ≤ length out₀
  pub count : n + length (kept_at d work r) ≡ before + length (kept_from d work from)
  pub words : put out here (list_words n (map (new_tr d work) (kept_at d work r))) ≡ put out₀ at (list_words before (new_list d work from))

-- the link of a record tells whether another comes
linked_on : (d : Store) (work : List ℕ) (q n : ℕ) → cond (non_empty (map (new_tr d work) (kept_at d work q))) (n + 2) 0 ≡ cond (eqb q 0) 0 (n + 2)
unfolding kept_at
linked_on d work zero n = refl
linked_on d work (suc q) n = rw (ne_eqb (suc q) 0 (λ e. omega (arith, e))) refl

pub turns : (d : Store) (work out₀ : List ℕ) (at before from : ℕ) (out out' : List ℕ) (here n r q next : ℕ) → Writing d work out₀ at before from out here n r → 0 < r
    → kept_from d work (next_in d r) ≡ kept_at d work q → next ≡ cond (eqb q 0) 0 (n + 2) → out' ≡ put out here (words_of_tr (new_tr d work r) next)
    → Writing d work out₀ at before from out' (here + 5) (n + 1) q
unfolding list_words
turns d work out₀ at before from out out' here n r q next h pos e f g = record {
  same = ap length g ∙ length_put out here _ ∙ h.same;
  room = let a = h.room in let b = ap length all in omega (arith, a, b);
  count = let a = h.count in let b = ap length all in omega (arith, a, b);
  words =
      ap (λ (o : List ℕ). put o (here + 5) (list_words (n + 1) rest)) g
      ∙ ap (λ x. put (put out here (words_of_tr (new_tr d work r) x)) (here + 5) (list_words (n + 1) rest)) (f ∙ sym (linked_on d work q n))
      ∙ ap (λ k. put (put out here one) (here + 5) (list_words k rest)) (omega arith)
      ∙ put_put out here one (list_words (suc n) rest)
      ∙ ap (λ (l : List ℕ). put out here (list_words n (map (new_tr d work) l))) (sym all)
      ∙ h.words;
}
  where
    all : kept_at d work r ≡ r ∷ kept_at d work q
    all = at_some d work r pos ∙ ap (λ (l : List ℕ). r ∷ l) e

    rest : List Tr
    rest = map (new_tr d work) (kept_at d work q)

    one : List ℕ
    one = words_of_tr (new_tr d work r) (cond (non_empty rest) (n + 2) 0)

pub ends : (d : Store) (work out₀ : List ℕ) (at before from : ℕ) (out : List ℕ) (here n r : ℕ) → Writing d work out₀ at before from out here n r → r ≤ 0
    → (n ≡ before + length (kept_from d work from)) × (out ≡ put out₀ at (list_words before (new_list d work from)))
unfolding list_words
ends d work out₀ at before from out here n r h z =
    let a : kept_at d work r ≡ [] = at_none d work r z in
    let b = h.count in
    let c = ap length a in
    (omega (arith, b, c), sym (put_none out here) ∙ ap (λ (l : List ℕ). put out here (list_words n (map (new_tr d work) l))) (sym a) ∙ h.words)
