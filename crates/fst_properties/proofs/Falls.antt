-- Where no record falls against its next, no label falls within any list; and past the end of the words nothing falls.
use mathlib.Core.Path.{◌≡◌, refl, sym, ◌∙◌}
use mathlib.Core.Bool.{Bool, true, false, ◌||◌, cond, and-eq-true_iff}
use mathlib.Core.List.{List, map}
use Prim.Native.Nat.{ℕ, zero, suc, ◌+◌, ◌*◌, ◌/◌, ◌≤◌, ◌<◌, min}
use native.Mathlib.Omega.{arith}
use lib.Dec.{eqb, leb, ltb}
use lib.ListN.{length, get_or, get_or-eq_default}
use borrow.Author.Tests.{eqb-true, leb-true, le-leb}
use Rattle.lists.specs.Lists.{every, interval}
use Rattle.lists.proofs.Members.{every_in, every_of, in_interval}
use Rattle.words.specs.Matches.{MatchType, label_on}
use Rattle.words.specs.Machines.{state_count, tr_count, state_word, tr_word, first_ok, next_ok, first_of, next_of, list_by, list_from, list_of, machine_of, no_fall, sorted, acceptor}
use Rattle.words.proofs.ListLaws.{link, first_inside, list_end_lem}
use Rattle.fst_properties.specs.RecordTests.{rises}
use Rattle.lists.proofs.Runs.{run_cut}

-- no label falls within the list of state s
unfoldable pub list_sorted : MatchType → List ℕ → ℕ → Bool
list_sorted on m s = no_fall 0 (map (label_on on (machine_of m)) (list_of m s))

-- `sorted`, by the lists of the states
pub sorted_lists : (on : MatchType) (m : List ℕ) → sorted on (machine_of m) ≡ every (list_sorted on m) (interval 0 (machine_of m).states)
unfolding sorted list_sorted
sorted_lists on m = refl

-- a record that rises, and has a next, has a label at most that of the next
next_above : (on : MatchType) (m : List ℕ) (t : ℕ) → rises on m t ≡ true → (next_of m t ≡ 0 → ⊥)
    → label_on on (machine_of m) t ≤ label_on on (machine_of m) (next_of m t)
unfolding rises
next_above on m t h e = go (eqb (next_of m t) 0) refl h
  where
    go : (b : Bool) → eqb (next_of m t) 0 ≡ b → b || leb (label_on on (machine_of m) t) (label_on on (machine_of m) (next_of m t)) ≡ true
        → label_on on (machine_of m) t ≤ label_on on (machine_of m) (next_of m t)
    go true d p = absurd (e (eqb-true _ _ d))
    go false d p = leb-true _ _ p

by_rising : (on : MatchType) (m : List ℕ) (k t low : ℕ) → t ≤ tr_count m → ((t ≡ 0 → ⊥) → low ≤ label_on on (machine_of m) t)
    → ((u : ℕ) → 0 < u → u ≤ tr_count m → rises on m u ≡ true) → no_fall low (map (label_on on (machine_of m)) (list_by m k t)) ≡ true
unfolding list_by no_fall
by_rising on m zero t low h l p = refl
by_rising on m (suc k) zero low h l p = refl
by_rising on m (suc k) (suc t) low h l p =
    let r = p (suc t) (omega arith) h in
    (and-eq-true_iff (leb low (label_on on (machine_of m) (suc t))) _).1 (
      le-leb _ _ (l (λ e. omega arith)),
      by_rising on m k (next_of m (suc t)) (label_on on (machine_of m) (suc t)) (link m (suc t)).inside (λ e. next_above on m (suc t) r e) p,
    )

-- all records rise: every list is sorted
pub rising_sorted : (on : MatchType) (m : List ℕ) → every (rises on m) (interval 1 (tr_count m)) ≡ true → sorted on (machine_of m) ≡ true
unfolding list_sorted list_of list_from
rising_sorted on m h =
    sorted_lists on m
    ∙ every_of (list_sorted on m) (interval 0 (machine_of m).states) (λ s i. by_rising on m (tr_count m) (first_of m s) 0 (first_inside m s) (λ e. omega arith)
    (λ u a b. every_in (rises on m) h (in_interval 1 (tr_count m) u (omega arith) (omega arith))))

-- a record past the end has only words 0
pub far_word : (m : List ℕ) (t k : ℕ) → 1 + length m / 5 ≤ t → tr_word m t k ≡ 0
unfolding tr_word
far_word m zero k h = refl
far_word m (suc t) k h = get_or-eq_default m 0 (omega (arith, h))

far_next : (m : List ℕ) (t : ℕ) → 1 + length m / 5 ≤ t → next_of m t ≡ 0
unfolding next_of next_ok
far_next m t h = rw (far_word m t 4 h)

-- it has no next, so that it does not fall
pub far_rises : (on : MatchType) (m : List ℕ) (t : ℕ) → 1 + length m / 5 ≤ t → rises on m t ≡ true
unfolding rises
far_rises on m t h = rw (far_next m t h)

-- the records within the words decide for all records
pub near_sorted : (on : MatchType) (m : List ℕ) → every (rises on m) (interval 1 (min (tr_count m) (length m / 5))) ≡ true → sorted on (machine_of m) ≡ true
near_sorted on m h = rising_sorted on m (sym (run_cut (rises on m) 1 (tr_count m) (length m / 5) (far_rises on m)) ∙ h)

pub near_acceptor : (m : List ℕ) → every (λ t. eqb (tr_word m t 0) (tr_word m t 1)) (interval 1 (min (tr_count m) (length m / 5))) ≡ acceptor m
unfolding acceptor
near_acceptor m = run_cut (λ t. eqb (tr_word m t 0) (tr_word m t 1)) 1 (tr_count m) (length m / 5) (λ t h. rw (far_word m t 0 h, far_word m t 1 h))

same : (b : Bool) → cond {A = ℕ} b 0 0 ≡ 0
same true = refl
same false = refl

far_first : (m : List ℕ) (s : ℕ) → 0 + length m / 3 ≤ s → first_of m s ≡ 0
unfolding first_of state_word
far_first m s h = let e : get_or m (6 + 3 * s + 0) 0 ≡ 0 = get_or-eq_default m 0 (omega arith) in rw (e, same (ltb s (state_count m))) (same (first_ok m s))

-- a state past the end has no transition
pub far_list : (on : MatchType) (m : List ℕ) (s : ℕ) → 0 + length m / 3 ≤ s → list_sorted on m s ≡ true
unfolding list_sorted no_fall list_of
far_list on m s h = rw (list_end_lem m (first_of m s) (far_first m s h))
