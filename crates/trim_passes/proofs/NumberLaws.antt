-- Numbers, state by state.
use mathlib.Core.Path.{◌≡◌, refl, ◌∙◌, ap}
use mathlib.Core.Bool.{Bool, true, false, cond}
use mathlib.Core.List.{List}
use mathlib.Core.Logic.{◌≢◌}
use Prim.Native.Nat.{ℕ, zero, suc, ◌+◌, ◌*◌, ◌≤◌, ◌<◌}
use native.Mathlib.Omega.{arith}
use native.Mathlib.Decide.{ℕ_discrete}
use lib.Dec.{eqb}
use lib.ListN.{length, get_or, set, length-set}
use lib.Seq.{get_or-set_same, get_or-set_other}
use borrow.Author.Tests.{eq-eqb, ne_eqb}
use Rattle.lists.specs.Lists.{keep_if, interval}
use Rattle.lists.proofs.Members.{keep_length}
use Rattle.lists.proofs.Totals.{length_interval}
use Rattle.lists.proofs.Same.{keep_more}
use Rattle.words.specs.Machines.{limit}
use Rattle.searches.specs.WorkWords.{low, high}
use Rattle.trim_passes.specs.Passes.{is_alive, new_number, numbered_up_to, number_in}

uncut : (v : ℕ) → v < 16777216 → low v ≡ v
unfolding low
uncut v h = omega arith

-- the state in hand is alive
pub alive_turn : (w v : List ℕ) (n kept : ℕ) → high (get_or w (2 * n) 0) ≡ 2 → v ≡ set w (2 * n) (kept + 1)
    → (kept + 1 ≡ kept + cond (is_alive w n) 1 0) × (v ≡ set w (2 * n) (cond (is_alive w n) (suc kept) 0))
alive_turn w v n kept h e = rw (eq-eqb (high (get_or w (2 * n) 0)) 2 h) (refl, e ∙ ap (λ k. set w (2 * n) k) (omega arith))

-- it is not
pub other_turn : (w v : List ℕ) (n kept : ℕ) → high (get_or w (2 * n) 0) ≢ 2 → v ≡ set w (2 * n) 0
    → (kept ≡ kept + cond (is_alive w n) 1 0) × (v ≡ set w (2 * n) (cond (is_alive w n) (suc kept) 0))
other_turn w v n kept h e = rw (ne_eqb (high (get_or w (2 * n) 0)) 2 h) (omega arith, e)

-- words of states that are not numbered yet stay
other_word : (w : List ℕ) (k x : ℕ) → k ≤ x → get_or (numbered_up_to w k) (2 * x) 0 ≡ get_or w (2 * x) 0
unfolding numbered_up_to
other_word w zero x l = refl
other_word w (suc k) x l = get_or-set_other (numbered_up_to w k) (2 * k) (2 * x) (new_number w k) 0 (λ e. omega (arith, e, l)) ∙ other_word w k x (omega arith)

pub numbered_length : (w : List ℕ) (k : ℕ) → length (numbered_up_to w k) ≡ length w
unfolding numbered_up_to
numbered_length w zero = refl
numbered_length w (suc k) = length-set (numbered_up_to w k) (2 * k) (new_number w k) ∙ numbered_length w k

-- no more are kept than there are
pub kept_below : (w : List ℕ) (n : ℕ) → length (keep_if (is_alive w) (interval 0 n)) ≤ n
kept_below w n = let a = keep_length (is_alive w) (interval 0 n) in let b = length_interval 0 n in omega (arith, a, b)

-- none is numbered
pub numbered_none : (w : List ℕ) → (0 ≡ length (keep_if (is_alive w) (interval 0 0))) × (w ≡ numbered_up_to w 0)
unfolding numbered_up_to keep_if interval
numbered_none w = (refl, refl)

-- all are
pub numbered_all : (w v : List ℕ) (kept n count : ℕ) → n ≤ count → count ≤ n → kept ≡ length (keep_if (is_alive w) (interval 0 n)) → v ≡ numbered_up_to w n
    → (kept ≡ length (keep_if (is_alive w) (interval 0 count))) × (v ≡ numbered_up_to w count)
numbered_all w v kept n count a b f e = let z : n ≡ count = omega arith in (f ∙ ap (λ k. length (keep_if (is_alive w) (interval 0 k))) z, e ∙ ap (numbered_up_to w) z)

-- one more state is numbered
pub numbered_on : (w v u : List ℕ) (kept n q : ℕ) → v ≡ numbered_up_to w n → kept ≡ length (keep_if (is_alive w) (interval 0 n))
    → q ≡ kept + cond (is_alive v n) 1 0 → u ≡ set v (2 * n) (cond (is_alive v n) (suc kept) 0) → (q ≡ length (keep_if (is_alive w) (interval 0 (n + 1)))) × (u ≡ numbered_up_to w (n + 1))
unfolding numbered_up_to new_number
numbered_on w v u kept n q e f g h =
    let z : n + 1 ≡ suc n = omega arith in
    let a : is_alive v n ≡ is_alive w n = ap (λ (l : List ℕ). is_alive l n) e ∙ ap (λ y. eqb (high y) 2) (other_word w n n (omega arith)) in
    let b = keep_more (is_alive w) n in
    let c = ap {B = ℕ} (λ y. cond y 1 0) a in
    rw z (omega (arith, b, c, f, g), h ∙ ap (λ (l : List ℕ). set l (2 * n) (cond (is_alive v n) (suc kept) 0)) e ∙ ap (λ y. set (numbered_up_to w n) (2 * n) (cond y (suc kept) 0)) a ∙ ap (λ y. set (numbered_up_to w n) (2 * n) (cond (is_alive w n) (suc y) 0)) f)

-- a new number is at most one more than the old one
number_small : (w : List ℕ) (k : ℕ) → new_number w k ≤ suc k
unfolding new_number
number_small w k = cut (is_alive w k)
  where
    cut : (b : Bool) → cond b (suc (length (keep_if (is_alive w) (interval 0 k)))) 0 ≤ suc k
    cut true = let z = kept_below w k in omega (arith, z)
    cut false = omega arith

-- the number of a state is read where it was written: it fits its field
pub number_at : (w : List ℕ) (k x : ℕ) → x < k → k ≤ limit → 2 * k ≤ length w → number_in (numbered_up_to w k) x ≡ new_number w x
unfolding numbered_up_to number_in
number_at w zero x l m long = absurd (omega arith)
number_at w (suc k) x l m long = by (ℕ_discrete x k) (λ h. number_at w k x h (omega arith) (omega arith))
  where
    by : Dec (x ≡ k) → (x < k → low (get_or (numbered_up_to w k) (2 * x) 0) ≡ new_number w x) → low (get_or (set (numbered_up_to w k) (2 * k) (new_number w k)) (2 * x) 0) ≡ new_number w x
    by (yes e) r = rw e (ap low (get_or-set_same (numbered_up_to w k) (2 * k) (new_number w k) 0 (let z = numbered_length w k in omega (arith, z, long))) ∙ uncut (new_number w k) (let z = number_small w k in omega (arith, z, m)))
    by (no e) r = ap low (get_or-set_other (numbered_up_to w k) (2 * k) (2 * x) (new_number w k) 0 (λ z. e (omega (arith, z)))) ∙ r (omega (arith, l, e))
