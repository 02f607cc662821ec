-- Triples counted class by class: those below a class and those of it are those below the next one, and below the last stand all.
use mathlib.Core.Path.{◌≡◌, refl, sym, ◌∙◌, ap}
use mathlib.Core.Bool.{Bool, true, false, not, ◌&&◌, and-true, and-false}
use mathlib.Core.List.{List, [], ◌∷◌}
use Prim.Native.Nat.{ℕ, zero, suc, ◌+◌, ◌*◌, ◌%◌, ◌<◌, ◌≤◌}
use native.Mathlib.Nat.{mod-lt}
use native.Mathlib.Omega.{arith}
use lib.Dec.{eqb, ltb}
use borrow.Author.Tests.{ltb-true, ltb-false, lt-ltb, le-ltb, eq-eqb, ne_eqb}
use Rattle.words.specs.Labels.{Checked, good, refused}
use Rattle.words.specs.Steps.{Triple, Step}
use Rattle.calls.specs.Store.{Store, same_triple, find}
use Rattle.compose_weigh.specs.Weigh.{missing}
use Rattle.compose_weigh.specs.Windows.{new_within}
use Rattle.compose_weigh.proofs.CountLaws.{one, but, and_swap, new_same, new_most}
use Rattle.compose_count.specs.Notes.{class_of, wanted_by}

one_split : (q r : Bool) → one q ≡ one (q && r) + one (q && not r)
one_split false r = refl
one_split true true = refl
one_split true false = refl

-- those with R and those without it
new_split : (Q R : Triple → Bool) (k : ℕ) (steps : List (Checked Step)) → new_within Q k steps ≡ new_within (λ t. Q t && R t) k steps + new_within (λ t. Q t && not (R t)) k steps
unfolding new_within
new_split Q R zero steps = refl
new_split Q R (suc k) [] = refl
new_split Q R (suc k) (refused n ∷ others) = refl
new_split Q R (suc k) (good s ∷ others) =
    let a = s.to in
    let o = one_split (Q a) (R a) in
    let r = new_split (but Q a) R k others in
    let with = new_same (λ t. but Q a t && R t) (but (λ t. Q t && R t) a) k others (λ t. and_swap (Q t) (not (same_triple a t)) (R t)) in
    let without = new_same (λ t. but Q a t && not (R t)) (but (λ t. Q t && not (R t)) a) k others (λ t. and_swap (Q t) (not (same_triple a t)) (not (R t))) in
    omega (arith, o, r, with, without)

-- P counts no triple
new_none : (P : Triple → Bool) (k : ℕ) (steps : List (Checked Step)) → ((t : Triple) → P t ≡ false) → new_within P k steps ≡ 0
unfolding new_within
new_none P zero steps e = refl
new_none P (suc k) [] e = refl
new_none P (suc k) (refused n ∷ others) e = refl
new_none P (suc k) (good s ∷ others) e =
    let o = ap one (e s.to) in
    let r = new_none (but P s.to) k others (λ t. ap (λ b. b && not (same_triple s.to t)) (e t)) in
    omega (arith, o, r)

below_still : (q : Bool) (x c : ℕ) → (q && ltb x (c + 1)) && ltb x c ≡ q && ltb x c
below_still false x c = refl
below_still true x c = go (ltb x c) refl
  where
    go : (b : Bool) → ltb x c ≡ b → ltb x (c + 1) && ltb x c ≡ ltb x c
    go true p = let l = ltb-true x c p in rw (lt-ltb x (c + 1) (omega (arith, l)))
    go false p = rw (p, and-false (ltb x (c + 1)))

just_there : (q : Bool) (x c : ℕ) → (q && ltb x (c + 1)) && not (ltb x c) ≡ eqb x c && q
just_there false x c = sym (and-false (eqb x c))
just_there true x c = go (ltb x c) refl (ltb x (c + 1)) refl
  where
    go : (b : Bool) → ltb x c ≡ b → (b' : Bool) → ltb x (c + 1) ≡ b' → ltb x (c + 1) && not (ltb x c) ≡ eqb x c && true
    go true p b' p' = let l = ltb-true x c p in rw (p, and-false (ltb x (c + 1)), ne_eqb x c (omega (arith, l))) refl
    go false p true p' = let l = ltb-false x c p in let l' = ltb-true x (c + 1) p' in rw (p, p', eq-eqb x c (omega (arith, l, l'))) refl
    go false p false p' = let l' = ltb-false x (c + 1) p' in rw (p', ne_eqb x c (omega (arith, l'))) refl

-- one class more
new_class : (Q : Triple → Bool) (h : Triple → ℕ) (c k : ℕ) (steps : List (Checked Step))
    → new_within (λ t. Q t && ltb (h t) (c + 1)) k steps ≡ new_within (λ t. Q t && ltb (h t) c) k steps + new_within (λ t. eqb (h t) c && Q t) k steps
new_class Q h c k steps =
    let r = new_split (λ t. Q t && ltb (h t) (c + 1)) (λ t. ltb (h t) c) k steps in
    let below = new_same (λ t. (Q t && ltb (h t) (c + 1)) && ltb (h t) c) (λ t. Q t && ltb (h t) c) k steps (λ t. below_still (Q t) (h t) c) in
    let there = new_same (λ t. (Q t && ltb (h t) (c + 1)) && not (ltb (h t) c)) (λ t. eqb (h t) c && Q t) k steps (λ t. just_there (Q t) (h t) c) in
    omega (arith, r, below, there)

-- before the first class
new_first : (Q : Triple → Bool) (h : Triple → ℕ) (k : ℕ) (steps : List (Checked Step)) → new_within (λ t. Q t && ltb (h t) 0) k steps ≡ 0
new_first Q h k steps = new_none (λ t. Q t && ltb (h t) 0) k steps (λ t. ap (λ b. Q t && b) (le-ltb (h t) 0 (omega arith)) ∙ and-false (Q t))

-- after the last class
new_last : (Q : Triple → Bool) (h : Triple → ℕ) (c k : ℕ) (steps : List (Checked Step)) → ((t : Triple) → h t < c) → new_within (λ t. Q t && ltb (h t) c) k steps ≡ new_within Q k steps
new_last Q h c k steps l = new_same (λ t. Q t && ltb (h t) c) Q k steps (λ t. ap (λ b. Q t && b) (lt-ltb (h t) c (l t)) ∙ and-true (Q t))

module _ (d : Store) (classes k : ℕ) (steps : List (Checked Step)) where
  -- the triples that the table lacks, of the classes below c
  abbrev pub lacked_below : ℕ → ℕ
  lacked_below c = new_within (λ t. missing (find d t) && ltb (class_of classes t) c) k steps

  -- no more than steps
  pub lacked_most : (c : ℕ) → lacked_below c ≤ k
  lacked_most c = new_most (λ t. missing (find d t) && ltb (class_of classes t) c) k steps

  -- no more than of all classes
  pub lacked_some : (c : ℕ) → lacked_below c ≤ new_within (λ t. missing (find d t)) k steps
  lacked_some c = let r = new_split (λ t. missing (find d t)) (λ t. ltb (class_of classes t) c) k steps in omega (arith, r)

  pub lacked_first : lacked_below 0 ≡ 0
  lacked_first = new_first (λ t. missing (find d t)) (class_of classes) k steps

  pub lacked_next : (c : ℕ) → lacked_below (c + 1) ≡ lacked_below c + new_within (wanted_by d classes c) k steps
  unfolding wanted_by
  lacked_next c = new_class (λ t. missing (find d t)) (class_of classes) c k steps

  pub lacked_last : 0 < classes → lacked_below classes ≡ new_within (λ t. missing (find d t)) k steps
  unfolding class_of
  lacked_last l = new_last (λ t. missing (find d t)) (class_of classes) classes k steps (λ t. mod-lt ((40503 * t.s1 + 30011 * t.s2 + t.f) % 65521) l)

-- one class: its triples are all that the table lacks
pub wanted_one : (d : Store) (k : ℕ) (steps : List (Checked Step)) → new_within (wanted_by d 1 0) k steps ≡ new_within (λ t. missing (find d t)) k steps
wanted_one d k steps =
    let a = lacked_first d 1 k steps in
    let b = lacked_next d 1 k steps 0 in
    let c = lacked_last d 1 k steps (omega arith) in
    omega (arith, a, b, c)
