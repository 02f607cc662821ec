-- The records with a label from a place on: the first of them, and what comes after it. A turn along the list gives each law.
use mathlib.Core.Path.{◌≡◌, refl, ap}
use mathlib.Core.Bool.{Bool, true, false, not}
use mathlib.Core.List.{List, [], ◌∷◌}
use mathlib.Core.Logic.{◌⊎◌, inl, inr}
use Prim.Native.Nat.{ℕ, zero, suc, ◌≤◌, ◌<◌}
use native.Mathlib.Omega.{arith}
use lib.Dec.{eqb, leb}
use lib.ListN.{length}
use borrow.Author.Tests.{leb-true, leb-false, le-leb, lt-leb, ne_eqb}
use Rattle.lists.specs.Lists.{put_if, keep_if}
use Rattle.words.specs.Matches.{MatchType, label_on, labelled}
use Rattle.words.specs.Machines.{tr_count, first_of, next_of, list_from, list_of, machine_of}
use Rattle.words.specs.Sides.{non_empty}
use Rattle.words.proofs.ListLaws.{link, first_inside, list_end_lem, list_turn}
use Rattle.matchers.specs.Cursors.{records_from, with_label, head0}

pub records_inside : (m : List ℕ) (t : ℕ) → t ≤ tr_count m → records_from m t ≡ list_from m t
unfolding records_from
records_inside m t h = rw (le-leb t (tr_count m) h)

-- a place that is no record's
pub with_outside : (on : MatchType) (m : List ℕ) (x t : ℕ) → tr_count m < t → with_label on m x t ≡ []
unfolding with_label records_from keep_if
with_outside on m x t h = rw (lt-leb t (tr_count m) h)

pub with_end : (on : MatchType) (m : List ℕ) (x t : ℕ) → t ≡ 0 → with_label on m x t ≡ []
unfolding with_label keep_if
with_end on m x t e = rw (e, records_inside m 0 (omega arith), list_end_lem m 0 refl)

-- a turn: the record, if it has the label, and what comes from its link on
pub with_turn : (on : MatchType) (m : List ℕ) (x t : ℕ) → (t ≡ 0 → ⊥) → t ≤ tr_count m
    → with_label on m x t ≡ put_if (eqb (label_on on (machine_of m) t) x) t (with_label on m x (next_of m t))
unfolding with_label keep_if
with_turn on m x t e h = rw (records_inside m t h, list_turn m t e h, records_inside m (next_of m t) (link m t).inside)

-- from a state's first record on: the state's transitions with the label
pub with_first : (on : MatchType) (m : List ℕ) (x s : ℕ) → with_label on m x (first_of m s) ≡ labelled on (machine_of m) s x
unfolding with_label labelled list_of
with_first on m x s = rw (records_inside m (first_of m s) (first_inside m s))

-- none has the label; or a record has, and after it comes what its link leads to
abbrev Sought : MatchType → List ℕ → ℕ → List ℕ → Type 0
Sought on m x l = (l ≡ []) ⊎ ((u : ℕ) × (0 < u) × (u ≤ tr_count m) × (eqb (label_on on (machine_of m) u) x ≡ true) × (l ≡ u ∷ with_label on m x (next_of m u)))

sought_by : (on : MatchType) (m : List ℕ) (x n t : ℕ) → length (list_from m t) ≤ n → t ≤ tr_count m → Sought on m x (with_label on m x t)
sought_by on m x zero zero b h = inl (with_end on m x 0 refl)
sought_by on m x zero (suc t) b h = let e = ap length (list_turn m (suc t) (λ z. omega arith) h) in absurd (omega arith)
sought_by on m x (suc n) zero b h = inl (with_end on m x 0 refl)
sought_by on m x (suc n) (suc t) b h =
    let e = ap length (list_turn m (suc t) (λ z. omega arith) h) in
    rw (with_turn on m x (suc t) (λ z. omega arith) h)
    (go (eqb (label_on on (machine_of m) (suc t)) x) refl (sought_by on m x n (next_of m (suc t)) (omega arith) (link m (suc t)).inside))
  where
    go : (p : Bool) → eqb (label_on on (machine_of m) (suc t)) x ≡ p → Sought on m x (with_label on m x (next_of m (suc t))) → Sought on m x (put_if p (suc t) (with_label on m x (next_of m (suc t))))
    go true p later = inr (suc t, omega arith, h, p, refl)
    go false p later = later

sought : (on : MatchType) (m : List ℕ) (x t : ℕ) → Sought on m x (with_label on m x t)
sought on m x t = go (leb t (tr_count m)) refl
  where
    go : (b : Bool) → leb t (tr_count m) ≡ b → Sought on m x (with_label on m x t)
    go true e = sought_by on m x (length (list_from m t)) t (omega arith) (leb-true _ _ e)
    go false e = inl (with_outside on m x t (leb-false _ _ e))

-- no first: none
pub sought_none : (on : MatchType) (m : List ℕ) (x t : ℕ) → head0 (with_label on m x t) ≡ 0 → with_label on m x t ≡ []
sought_none on m x t z = go (sought on m x t)
  where
    go : Sought on m x (with_label on m x t) → with_label on m x t ≡ []
    go (inl e) = e
    go (inr r) = let h = ap head0 r.4 in let a = r.1 in absurd (omega arith)

-- a first u: u, and what comes from its link on
pub sought_first : (on : MatchType) (m : List ℕ) (x t : ℕ) → (head0 (with_label on m x t) ≡ 0 → ⊥)
    → with_label on m x t ≡ head0 (with_label on m x t) ∷ with_label on m x (next_of m (head0 (with_label on m x t)))
sought_first on m x t n = go (sought on m x t)
  where
    go : Sought on m x (with_label on m x t) → with_label on m x t ≡ head0 (with_label on m x t) ∷ with_label on m x (next_of m (head0 (with_label on m x t)))
    go (inl e) = absurd (n (ap head0 e))
    go (inr r) = rw r.4

-- from the first on, the same
pub sought_again : (on : MatchType) (m : List ℕ) (x t : ℕ) → with_label on m x (head0 (with_label on m x t)) ≡ with_label on m x t
sought_again on m x t = go (sought on m x t)
  where
    go : Sought on m x (with_label on m x t) → with_label on m x (head0 (with_label on m x t)) ≡ with_label on m x t
    go (inl e) = rw (e, with_end on m x 0 refl)
    go (inr r) = rw (r.4, with_turn on m x r.0 (λ z. let a = r.1 in omega arith) r.2, r.3)

-- there is one where its first is a record
pub sought_any : (on : MatchType) (m : List ℕ) (x t : ℕ) → non_empty (with_label on m x t) ≡ not (eqb (head0 (with_label on m x t)) 0)
sought_any on m x t = go (sought on m x t)
  where
    go : Sought on m x (with_label on m x t) → non_empty (with_label on m x t) ≡ not (eqb (head0 (with_label on m x t)) 0)
    go (inl e) = rw e
    go (inr r) = rw (r.4, ne_eqb r.0 0 (λ z. let a = r.1 in omega arith))
