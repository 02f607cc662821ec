-- A form that fits is good, with no label falling on a side that was asked for.
use mathlib.Core.Path.{◌≡◌, refl}
use mathlib.Core.Bool.{Bool, true, false, ◌&&◌, true≢false, and-true}
use mathlib.Core.List.{List}
use Prim.Native.Nat.{ℕ, ◌<◌}
use native.Mathlib.Omega.{arith}
use lib.Dec.{eqb, leb}
use borrow.Author.Tests.{eq-eqb}
use Rattle.lists.specs.Lists.{every, interval}
use Rattle.lists.proofs.Members.{and_left, and_right, every_in, every_of, every_same}
use Rattle.words.specs.Matches.{MatchType, inputs, outputs}
use Rattle.words.specs.Machines.{word_on, state_count, tr_count, start_word, side_mark, machine_of, sorted, state_ok, tr_ok, marks_ok, size_ok, well_formed, well_formed_up_to}
use Rattle.fst_properties.specs.RecordTests.{rises, rises_if, fits, form_fits}
use Rattle.fst_properties.proofs.Falls.{rising_sorted}

-- whether a side is asked for
abbrev asked_on : Bool → Bool → MatchType → Bool
asked_on p q inputs = p
asked_on p q outputs = q

pub word_small : (on : MatchType) → word_on on < 5
word_small inputs = omega arith
word_small outputs = omega arith

-- what a form that fits says
pub record FormFits (p q : Bool) (m : List ℕ) : Type 0 where
  pub size : size_ok m ≡ true
  pub start : leb (start_word m) (state_count m) ≡ true
  pub states : every (state_ok m) (interval 0 (state_count m)) ≡ true
  pub records : every (fits p q m) (interval 1 (tr_count m)) ≡ true

form_parts : (p q : Bool) (m : List ℕ) → form_fits p q m ≡ true → FormFits p q m
unfolding form_fits
form_parts p q m e =
    let e1 = and_right (size_ok m) _ e in
    let e2 = and_right (leb (start_word m) (state_count m)) _ e1 in
    record {
      size = and_left (size_ok m) _ e;
      start = and_left (leb (start_word m) (state_count m)) _ e1;
      states = and_left (every (state_ok m) (interval 0 (state_count m))) _ e2;
      records = and_right (every (state_ok m) (interval 0 (state_count m))) _ e2;
    }

-- all records fit: each has a good form
all_formed : (p q : Bool) (m : List ℕ) (l : List ℕ) → every (fits p q m) l ≡ true → every (tr_ok m) l ≡ true
unfolding fits
all_formed p q m l h = every_of (tr_ok m) l (λ t i. and_left (tr_ok m t) _ (every_in (fits p q m) h i))

-- the form is good: the marks are left
pub marks_left : (p q : Bool) (m : List ℕ) → form_fits p q m ≡ true → well_formed m ≡ marks_ok m
unfolding well_formed_up_to
marks_left p q m e = let f = form_parts p q m e in rw (f.size, f.start, f.states, all_formed p q m _ f.records)

-- where no side is asked for, the form of a record alone counts
form_alone : (m : List ℕ) (l : List ℕ) → every (fits false false m) l ≡ every (tr_ok m) l
unfolding fits
form_alone m l = every_same (fits false false m) (tr_ok m) l (λ t i. and-true (tr_ok m t))

-- four tests, and a fifth after them
fifth : (a b c d e : Bool) → a && (b && (c && d)) ≡ false → a && (b && (c && (d && e))) ≡ false
fifth true true true true e h = absurd (true≢false h)
fifth true true true false e h = refl
fifth true true false d e h = refl
fifth true false c d e h = refl
fifth false b c d e h = refl

-- the form is broken
pub form_broken : (m : List ℕ) → form_fits false false m ≡ false → well_formed m ≡ false
unfolding form_fits well_formed_up_to
form_broken m h =
    fifth (size_ok m) (leb (start_word m) (state_count m)) (every (state_ok m) (interval 0 (state_count m))) (every (tr_ok m) (interval 1 (tr_count m))) (marks_ok m)
    (rw (form_alone m) at h)

asked_rises : (p : Bool) (on : MatchType) (m : List ℕ) (t : ℕ) → p ≡ true → rises_if p on m t ≡ true → rises on m t ≡ true
asked_rises p on m t e h = rw e at h

-- a record that fits rises on each side that is asked for
fit_rises : (p q : Bool) (on : MatchType) (m : List ℕ) (t : ℕ) → asked_on p q on ≡ true → fits p q m t ≡ true → rises on m t ≡ true
unfolding fits
fit_rises p q inputs m t e h = asked_rises p inputs m t e (and_left (rises_if p inputs m t) _ (and_right (tr_ok m t) _ h))
fit_rises p q outputs m t e h = asked_rises q outputs m t e (and_right (rises_if p inputs m t) _ (and_right (tr_ok m t) _ h))

marked : (on : MatchType) (m : List ℕ) → side_mark on m ≡ 1 → asked_on (eqb (side_mark inputs m) 1) (eqb (side_mark outputs m) 1) on ≡ true
marked inputs m e = eq-eqb _ _ e
marked outputs m e = eq-eqb _ _ e

-- the form fits, asked for the sides that are marked sorted: they are
pub marked_sorted : (m : List ℕ) → form_fits (eqb (side_mark inputs m) 1) (eqb (side_mark outputs m) 1) m ≡ true → (on : MatchType) → side_mark on m ≡ 1 → sorted on (machine_of m) ≡ true
marked_sorted m h on e =
    rising_sorted on m (every_of (rises on m) _ (λ t i. fit_rises _ _ on m t (marked on m e) (every_in (fits _ _ m) (form_parts _ _ m h).records i)))
