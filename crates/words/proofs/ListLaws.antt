-- Lists along links: a turn, the end, the length; the records of a list rise, so that none stands in it twice.
use mathlib.Core.Path.{◌≡◌, refl, ap}
use mathlib.Core.Bool.{Bool, true, false, ◌&&◌, ◌||◌, cond}
use mathlib.Core.List.Memᴰ
use mathlib.Core.List.{List, [], ◌∷◌, Memᴰ as In}
use mathlib.Core.Logic.{⊎_elim}
use Prim.Native.Nat.{ℕ, zero, suc, ◌+◌, ◌<◌, ◌≤◌}
use native.Mathlib.Omega.{arith}
use lib.Dec.{eqb, ltb, leb}
use lib.ListN.{length}
use borrow.Author.Tests.{eqb-true, ltb-true, leb-true}
use Rattle.lists.specs.Lists.{Distinct}
use Rattle.words.specs.Machines.{tr_count, state_word, tr_word, first_ok, next_ok, first_of, next_of, list_by, list_from, list_of}

-- a link is 0, or rises and leads to a record
pub record Link (at n last : ℕ) : Type 0 where
  pub rises : (n ≡ 0 → ⊥) → at < n
  pub inside : n ≤ last

-- the handy form of a link for code: one that does not rise, or leads past the last record, is 0
pub next_guarded : (m : List ℕ) (t : ℕ) → next_of m t ≡ cond (ltb t (tr_word m t 4) && leb (tr_word m t 4) (tr_count m)) (tr_word m t 4) 0
unfolding next_of next_ok
next_guarded m t = go (eqb (tr_word m t 4) 0) (ltb t (tr_word m t 4) && leb (tr_word m t 4) (tr_count m)) refl
  where
    go : (z b : Bool) → eqb (tr_word m t 4) 0 ≡ z → cond (z || b) (tr_word m t 4) 0 ≡ cond b (tr_word m t 4) 0
    go false b o = refl
    go true true o = refl
    go true false o = eqb-true _ _ o

pub link : (m : List ℕ) (t : ℕ) → Link t (next_of m t) (tr_count m)
link m t = rw next_guarded (go (ltb t (tr_word m t 4)) (leb (tr_word m t 4) (tr_count m)) refl refl)
  where
    go : (a b : Bool) → ltb t (tr_word m t 4) ≡ a → leb (tr_word m t 4) (tr_count m) ≡ b → Link t (cond (a && b) (tr_word m t 4) 0) (tr_count m)
    go false b p q = record { rises = λ e. absurd (e refl); inside = omega arith }
    go true false p q = record { rises = λ e. absurd (e refl); inside = omega arith }
    go true true p q = record { rises = λ e. ltb-true _ _ p; inside = leb-true _ _ q }

-- the first record of a state is one of the records
pub first_inside : (m : List ℕ) (s : ℕ) → first_of m s ≤ tr_count m
unfolding first_of first_ok
first_inside m s = go (leb (state_word m s 0) (tr_count m)) refl
  where
    go : (b : Bool) → leb (state_word m s 0) (tr_count m) ≡ b → first_of m s ≤ tr_count m
    go false p = rw p (omega arith)
    go true p = rw p (leb-true _ _ p)

-- one more unit of fuel changes nothing, where the numbers leave no room for another record
more : (m : List ℕ) (k t : ℕ) → t ≤ tr_count m → ((t ≡ 0 → ⊥) → tr_count m < k + t) → list_by m k t ≡ list_by m (suc k) t
unfolding list_by
more m zero zero h p = refl
more m zero (suc t) h p = let f = p (omega arith) in absurd (omega arith)
more m (suc k) zero h p = refl
more m (suc k) (suc t) h p =
    let l = link m (suc t) in
    let f = p (omega arith) in
    ap (λ (ts : List ℕ). suc t ∷ ts) (more m k (next_of m (suc t)) l.inside (λ e. let r = l.rises e in omega arith))

by_end : (m : List ℕ) (k : ℕ) → list_by m k 0 ≡ []
unfolding list_by
by_end m zero = refl
by_end m (suc k) = refl

pub list_end_lem : (m : List ℕ) (t : ℕ) → t ≡ 0 → list_from m t ≡ []
unfolding list_from
list_end_lem m t e = rw (e, by_end)

-- a turn: the list from a record is that record and the list from its link
pub list_turn : (m : List ℕ) (t : ℕ) → (t ≡ 0 → ⊥) → t ≤ tr_count m → list_from m t ≡ t ∷ list_from m (next_of m t)
unfolding list_from list_by
list_turn m zero e h = absurd (e refl)
list_turn m (suc t) e h = more m (tr_count m) (suc t) h (λ _. omega arith)

by_length : (m : List ℕ) (k t : ℕ) → length (list_by m k t) ≤ k
unfolding list_by
by_length m zero t = omega arith
by_length m (suc k) zero = omega arith
by_length m (suc k) (suc t) = let h = by_length m k (next_of m (suc t)) in omega arith

pub list_length : (m : List ℕ) (t : ℕ) → length (list_from m t) ≤ tr_count m
unfolding list_from
list_length m t = by_length m (tr_count m) t

-- every record of the list from t is a record of the machine, and not below t; so t is not 0
pub record Member (t last u : ℕ) : Type 0 where
  pub begun : 0 < t
  pub above : t ≤ u
  pub inside : u ≤ last

by_members : (m : List ℕ) (k t : ℕ) {u : ℕ} → t ≤ tr_count m → In u (list_by m k t) → Member t (tr_count m) u
unfolding list_by
by_members m zero t h i = absurd (Memᴰ.not-nil i)
by_members m (suc k) zero h i = absurd (Memᴰ.not-nil i)
by_members m (suc k) (suc t) h i =
    let l = link m (suc t) in
    ⊎_elim
    (λ e. record { begun = omega arith; above = omega arith; inside = omega arith })
    (λ j. let r = by_members m k (next_of m (suc t)) l.inside j in let n : suc t < next_of m (suc t) = l.rises (λ z. omega (arith, r.begun)) in record { begun = omega arith; above = omega (arith, r.above); inside = r.inside })
    (Memᴰ.cases_cons i)

by_distinct : (m : List ℕ) (k t : ℕ) → t ≤ tr_count m → Distinct (list_by m k t)
unfolding list_by
by_distinct m zero t h = tt
by_distinct m (suc k) zero h = tt
by_distinct m (suc k) (suc t) h =
    let l = link m (suc t) in (
      λ i. let r = by_members m k (next_of m (suc t)) l.inside i in let n : suc t < next_of m (suc t) = l.rises (λ z. omega (arith, r.begun)) in omega (arith, r.above),
      by_distinct m k (next_of m (suc t)) l.inside,
    )

-- the records of a state's list are records of the machine
pub list_member : (m : List ℕ) (s : ℕ) {t : ℕ} → In t (list_of m s) → (0 < t) × (t ≤ tr_count m)
unfolding list_of list_from
list_member m s i = let r = by_members m (tr_count m) (first_of m s) (first_inside m s) i in (omega (arith, r.begun, r.above), r.inside)

-- no record stands twice in a state's list
pub list_distinct : (m : List ℕ) (s : ℕ) → Distinct (list_of m s)
unfolding list_of list_from
list_distinct m s = by_distinct m (tr_count m) (first_of m s) (first_inside m s)
