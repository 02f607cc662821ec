-- What is left to search: n records from place p on. Each turn halves it.
use mathlib.Core.Path.{◌≡◌, ap, subst}
use mathlib.Core.List.{List}
use Prim.Native.Nat.{ℕ, ◌+◌, ◌-◌, ◌*◌, ◌/◌, ◌≤◌, ◌<◌}
use native.Mathlib.Omega.{arith}
use lib.ListN.{get_or}
use Rattle.words.specs.Machines.{tr_words}
use Rattle.sorted_lists.specs.Seeks.{label_at, NoFalls, Sought}

-- the labels before place p are below x, and those after the n records from there on are not
pub record Left (m : List ℕ) (from count x p n : ℕ) : Type 0 where
  pub number : ℕ
  pub place : p ≡ from + tr_words * number
  pub within : number + n ≤ count
  pub before : (i : ℕ) → i < number → label_at m from i < x
  pub after : (i : ℕ) → number + n ≤ i → i < count → x ≤ label_at m from i

pub all_left : (m : List ℕ) (from count x : ℕ) → Left m from count x from count
all_left m from count x = record { number = 0; place = omega arith; within = omega arith; before = λ i h. absurd (omega arith); after = λ i h l. absurd (omega arith) }

pub none_left : (m : List ℕ) (from count x p n : ℕ) → n ≤ 0 → Left m from count x p n → Sought m from count x p
none_left m from count x p n z l = record { number = l.number; within = omega (arith, l.within); place = l.place; before = l.before; after = λ i h k. l.after i (omega arith) k }

-- the label in the middle, as a record's
mid_label : (m : List ℕ) (from p number half : ℕ) → p ≡ from + tr_words * number → get_or m (p + tr_words * half) 0 ≡ label_at m from (number + half)
mid_label m from p number half e = let z : p + tr_words * half ≡ from + tr_words * (number + half) = omega arith in ap (λ (i : ℕ). get_or m i 0) z

module _ (m : List ℕ) (from count x p n : ℕ) (sorted : NoFalls m from count) (any : 0 < n) (l : Left m from count x p n) where
  -- a label below x: what comes after it is left
  pub up : get_or m (p + tr_words * (n / 2)) 0 < x → Left m from count x (p + tr_words * (n / 2) + tr_words) (n - n / 2 - 1)
  up h =
      let low : label_at m from (l.number + n / 2) < x = subst (λ (y : ℕ). y < x) (mid_label m from p l.number (n / 2) l.place) h in
      record {
        number = l.number + n / 2 + 1;
        place = omega (arith, l.place);
        within = omega (arith, l.within, any);
        before = λ i k. let s = sorted i (l.number + n / 2) (omega arith) (omega (arith, l.within, any)) in omega (arith, s, low);
        after = λ i k r. l.after i (omega (arith, k, any)) r;
      }

  -- a label that is not: what comes before it is left
  pub down : x ≤ get_or m (p + tr_words * (n / 2)) 0 → Left m from count x p (n / 2)
  down h =
      let high : x ≤ label_at m from (l.number + n / 2) = subst (λ (y : ℕ). x ≤ y) (mid_label m from p l.number (n / 2) l.place) h in
      record {
        number = l.number;
        place = l.place;
        within = omega (arith, l.within);
        before = l.before;
        after = λ i k r. let s = sorted (l.number + n / 2) i k r in omega (arith, s, high);
      }
