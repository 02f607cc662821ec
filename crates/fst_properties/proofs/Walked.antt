-- Records that a walk has seen: from each of them on no label falls, if none falls in what is left of the list in hand.
use mathlib.Core.Path.{◌≡◌, sym, ◌∙◌, ap}
use mathlib.Core.Bool.{Bool, true, ◌&&◌, and-eq-true_iff}
use mathlib.Core.List.{List, map}
use mathlib.Core.Logic.{⊎_elim}
use Prim.Native.Nat.{ℕ, ◌≤◌}
use native.Mathlib.Decide.{ℕ_discrete}
use native.Mathlib.Omega.{arith}
use lib.Dec.{leb}
use borrow.Author.Tests.{le-leb}
use Rattle.lists.proofs.Members.{and_right}
use Rattle.words.specs.Matches.{MatchType, label_on}
use Rattle.words.specs.Machines.{tr_count, next_of, list_from, machine_of, no_fall}
use Rattle.words.proofs.ListLaws.{link, list_end_lem, list_turn}
use Rattle.fst_properties.specs.Seen.{seen_in, seen_with}
use Rattle.fst_properties.proofs.Bits.{seen_with_lem}

-- no label falls in the list from record t on, of which the first is at least `low`
unfoldable pub from_on_lem : MatchType → List ℕ → ℕ → ℕ → Bool
from_on_lem on m low t = no_fall low (map (label_on on (machine_of m)) (list_from m t))

-- no label falls from a seen record on, of n records
abbrev pub SeenSorted : MatchType → List ℕ → ℕ → List ℕ → Type 0
SeenSorted on m n seen = (u : ℕ) → seen_in n seen u ≡ true → from_on_lem on m 0 u ≡ true

-- in a walk, at record t: the records that this walk saw are below t
pub record Walked (on : MatchType) (m : List ℕ) (n : ℕ) (seen : List ℕ) (low t : ℕ) : Type 0 where
  pub later : (u : ℕ) → seen_in n seen u ≡ true → t ≤ u → from_on_lem on m 0 u ≡ true
  pub then : from_on_lem on m low t ≡ true → SeenSorted on m n seen

pub from_end : (on : MatchType) (m : List ℕ) (low t : ℕ) → t ≡ 0 → from_on_lem on m low t ≡ true
unfolding from_on_lem no_fall
from_end on m low t e = rw (list_end_lem m t e)

pub from_turn : (on : MatchType) (m : List ℕ) (low t : ℕ) → (t ≡ 0 → ⊥) → t ≤ tr_count m
    → from_on_lem on m low t ≡ leb low (label_on on (machine_of m) t) && from_on_lem on m (label_on on (machine_of m) t) (next_of m t)
unfolding from_on_lem no_fall
from_turn on m low t e h = rw (list_turn m t e h)

-- a record in hand whose label does not fall, and what comes after it
from_on : (on : MatchType) (m : List ℕ) (low t : ℕ) → (t ≡ 0 → ⊥) → t ≤ tr_count m → low ≤ label_on on (machine_of m) t
    → from_on_lem on m (label_on on (machine_of m) t) (next_of m t) ≡ true → from_on_lem on m low t ≡ true
from_on on m low t e h l r = from_turn on m low t e h ∙ (and-eq-true_iff (leb low (label_on on (machine_of m) t)) _).1 (le-leb _ _ l, r)

-- a walk begins
pub begins : (on : MatchType) (m : List ℕ) (n : ℕ) (seen : List ℕ) (low t : ℕ) → SeenSorted on m n seen → Walked on m n seen low t
begins on m n seen low t p = record { later = λ u h _. p u h; then = λ _. p }

-- it meets a record that an earlier walk saw
pub meets : (on : MatchType) (m : List ℕ) (n : ℕ) (seen : List ℕ) (low t : ℕ) → Walked on m n seen low t → (t ≡ 0 → ⊥) → t ≤ tr_count m
    → low ≤ label_on on (machine_of m) t → seen_in n seen t ≡ true → from_on_lem on m low t ≡ true
meets on m n seen low t w e h l s =
    from_on on m low t e h l (and_right (leb 0 (label_on on (machine_of m) t)) _ (sym (from_turn on m 0 t e h) ∙ w.later t s (omega arith)))

-- it sees one more record, and goes on
pub goes_on_lem : (on : MatchType) (m : List ℕ) (n : ℕ) (seen : List ℕ) (low t : ℕ) → Walked on m n seen low t → (t ≡ 0 → ⊥) → t ≤ tr_count m
    → low ≤ label_on on (machine_of m) t → Walked on m n (seen_with n seen t) (label_on on (machine_of m) t) (next_of m t)
goes_on_lem on m n seen low t w e h l = record { later = λ u s a. ahead (ℕ_discrete (next_of m t) 0) u s a; then = after }
  where
    after : from_on_lem on m (label_on on (machine_of m) t) (next_of m t) ≡ true → SeenSorted on m n (seen_with n seen t)
    after r u s =
        ⊎_elim
        (λ (d : u ≡ t). ap (from_on_lem on m 0) d ∙ from_on on m 0 t e h (omega arith) r)
        (w.then (from_on on m low t e h l r) u)
        (seen_with_lem n seen t u s)

    ahead : Dec (next_of m t ≡ 0) → (u : ℕ) → seen_in n (seen_with n seen t) u ≡ true → next_of m t ≤ u → from_on_lem on m 0 u ≡ true
    ahead (yes z) u s a = after (from_end on m _ _ z) u s
    ahead (no z) u s a =
        let r = (link m t).rises z in
        ⊎_elim (λ (d : u ≡ t). absurd (omega (arith, d, r, a))) (λ o. w.later u o (omega (arith, r, a))) (seen_with_lem n seen t u s)
