-- One turn of each loop along a list: the rest from here gives the same as all from the start.
use mathlib.Core.Path.{◌≡◌, refl, ◌∙◌, ap}
use mathlib.Core.List.{List, [], ◌∷◌}
use Prim.Native.Nat.{ℕ, zero, suc, ◌-◌, ◌≤◌, ◌<◌}
use native.Mathlib.Omega.{arith}
use lib.ListN.{length}
use borrow.Author.Tests.{eq-eqb, ne_eqb}
use Rattle.lists.specs.Lists.{put_if, keep_if}
use Rattle.lists.proofs.Members.{keep_length}
use Rattle.calls.specs.Store.{Store, target_at}
use Rattle.searches.specs.StoreLinks.{next_in, along, list_from}
use Rattle.searches.proofs.StoreSearch.{list_turn, list_none}
use Rattle.trim_passes.specs.Passes.{number_in, is_kept, kept_from, kept_at}

pub kept_turn : (d : Store) (work : List ℕ) (r : ℕ) → 0 < r → kept_from d work r ≡ put_if (is_kept work (target_at d.memory.trs (r - 1))) r (kept_from d work (next_in d r))
unfolding kept_from keep_if
kept_turn d work r h = rw (list_turn d r h) refl

pub kept_none : (d : Store) (work : List ℕ) → kept_from d work 0 ≡ []
unfolding kept_from keep_if
kept_none d work = rw (list_none d) refl

-- the record in hand is kept
pub kept_here : (d : Store) (work : List ℕ) (r : ℕ) → 0 < r → 0 < number_in work (target_at d.memory.trs (r - 1)) → kept_from d work r ≡ kept_at d work r
unfolding kept_at
kept_here d work r h k = kept_turn d work r h ∙ rw (ne_eqb r 0 (λ e. omega (arith, e, h)), ne_eqb (number_in work (target_at d.memory.trs (r - 1))) 0 (λ e. omega (arith, e, k))) refl

-- it is not
pub kept_skip : (d : Store) (work : List ℕ) (r : ℕ) → 0 < r → number_in work (target_at d.memory.trs (r - 1)) ≤ 0 → kept_from d work r ≡ kept_from d work (next_in d r)
kept_skip d work r h k = kept_turn d work r h ∙ rw (eq-eqb (number_in work (target_at d.memory.trs (r - 1))) 0 (omega (arith, k))) refl

-- there is none
pub kept_end : (d : Store) (work : List ℕ) (r : ℕ) → r ≤ 0 → kept_from d work r ≡ kept_at d work 0
unfolding kept_at
kept_end d work r h = let e : r ≡ 0 = omega arith in rw e (kept_none d work)

pub at_some : (d : Store) (work : List ℕ) (r : ℕ) → 0 < r → kept_at d work r ≡ r ∷ kept_from d work (next_in d r)
unfolding kept_at
at_some d work r h = rw (ne_eqb r 0 (λ e. omega (arith, e, h))) refl

pub at_none : (d : Store) (work : List ℕ) (r : ℕ) → r ≤ 0 → kept_at d work r ≡ []
unfolding kept_at
at_none d work r h = rw (eq-eqb r 0 (omega (arith, h))) refl

-- the rest of a list is shorter
pub list_less : (d : Store) (r : ℕ) → 0 < r → length (list_from d (next_in d r)) < length (list_from d r)
list_less d r h = rw (list_turn d r h) (omega arith)

along_few : (next : ℕ → ℕ) (k r : ℕ) → length (along next k r) ≤ k
unfolding along
along_few next zero r = omega arith
along_few next (suc k) zero = omega arith
along_few next (suc k) (suc r) = let z = along_few next k (next (suc r)) in omega (arith, z)

-- no more records are kept than there are
pub kept_few : (d : Store) (work : List ℕ) (r : ℕ) → length (kept_from d work r) ≤ suc d.used.trs
unfolding kept_from list_from
kept_few d work r =
    let a = keep_length (λ q. is_kept work (target_at d.memory.trs (q - 1))) (along (next_in d) (suc d.used.trs) r) in
    let b = along_few (next_in d) (suc d.used.trs) r in
    omega (arith, a, b)

-- one turn of a loop from kept record to kept record: q is the next after r
pub at_turn : (d : Store) (work : List ℕ) (r q : ℕ) → 0 < r → kept_from d work (next_in d r) ≡ kept_at d work q → length (kept_at d work r) ≡ suc (length (kept_at d work q))
at_turn d work r q h e = ap length (at_some d work r h) ∙ ap (λ (l : List ℕ). suc (length l)) e
