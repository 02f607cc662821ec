-- State by state: which are expanded, which are final, and whether each final weight is answered.
use mathlib.Core.Path.{◌≡◌, refl, sym, ◌∙◌, ap}
use mathlib.Core.Bool.{Bool, true, false, ◌&&◌, cond}
use mathlib.Core.List.{List}
use Rattle.std.specs.Prelude.{Option}
use Prim.Native.Nat.{ℕ, ◌+◌, ◌-◌, ◌*◌, ◌≤◌, ◌<◌}
use native.Mathlib.Omega.{arith}
use native.Mathlib.Decide.{ℕ_discrete}
use lib.Dec.{eqb}
use lib.ListN.{length, get_or, length-set}
use lib.Seq.{get_or-set_same, get_or-set_other}
use Rattle.lists.specs.Lists.{every, interval}
use Rattle.lists.proofs.Runs.{run_turn, run_end}
use Rattle.words.specs.Labels.{Checked}
use Rattle.words.specs.Steps.{Composition, final_at}
use Rattle.calls.specs.Store.{Store, triple_at, expanded_at}
use Rattle.graphs.specs.StoreMachine.{answered, store_machine}
use Rattle.searches.specs.WorkWords.{low, middle, high, with_high}
use Rattle.searches.specs.UsefulSearch.{status_in}
use Rattle.searches.proofs.Columns.{high_pack, low_below, middle_below}
use Rattle.trims.specs.Trims.{all_expanded, is_good, all_weighed}

-- the states from n on
abbrev pub rest_expanded : List ℕ → ℕ → ℕ → Bool
rest_expanded states count n = every (λ x. eqb (expanded_at states x) 1) (interval n (count - n))

pub expanded_begins : (d : Store) → rest_expanded d.memory.states d.used.states 0 ≡ all_expanded d
unfolding all_expanded
expanded_begins d = ap (λ k. every (λ x. eqb (expanded_at d.memory.states x) 1) (interval 0 k)) (omega arith)

pub expanded_on : (states : List ℕ) (count n : ℕ) → n < count → eqb (expanded_at states n) 1 ≡ true → rest_expanded states count (n + 1) ≡ rest_expanded states count n
expanded_on states count n l e = sym (run_turn (λ x. eqb (expanded_at states x) 1) n n count l ∙ ap (λ b. b && rest_expanded states count (n + 1)) e)

pub expanded_stops : (states : List ℕ) (count n : ℕ) → n < count → eqb (expanded_at states n) 1 ≡ false → rest_expanded states count n ≡ false
expanded_stops states count n l e = run_turn (λ x. eqb (expanded_at states x) 1) n n count l ∙ ap (λ b. b && rest_expanded states count (n + 1)) e

pub expanded_ends : (states : List ℕ) (count n : ℕ) → count ≤ n → rest_expanded states count n ≡ true
expanded_ends states count n l = run_end (λ x. eqb (expanded_at states x) 1) n n count l

-- a status written: that of its own state, and those of the others
status_here : (w : List ℕ) (n v : ℕ) → 2 * n < length w → status_in (with_high w (2 * n) v) n ≡ v
unfolding with_high
status_here w n v l = ap high (get_or-set_same w (2 * n) _ 0 l) ∙ high_pack (low (get_or w (2 * n) 0)) (middle (get_or w (2 * n) 0)) v (low_below _) (middle_below _)

status_there : (w : List ℕ) (n v x : ℕ) → (x ≡ n → ⊥) → status_in (with_high w (2 * n) v) x ≡ status_in w x
unfolding with_high
status_there w n v x e = ap high (get_or-set_other w (2 * n) (2 * x) _ 0 (λ z. e (omega (arith, z))))

-- the states below n are marked, those from n on are not, and the weights from n on tell the rest
pub record Marking (c : Composition) (d : Store) (work : List ℕ) (n : ℕ) : Type 0 where
  pub below : (x : ℕ) → x < n → status_in work x ≡ cond ((store_machine c d).is_final x) 4 0
  pub above : (x : ℕ) → n ≤ x → status_in work x ≡ 0
  pub weighed : every (λ x. is_good (final_at c (triple_at d.memory.states x))) (interval n (d.used.states - n)) ≡ all_weighed c d

pub marking_begins : (c : Composition) (d : Store) (work : List ℕ) → ((x : ℕ) → status_in work x ≡ 0) → Marking c d work 0
unfolding all_weighed
marking_begins c d work h = record {
  below = λ x l. absurd (omega (arith, l));
  above = λ x l. h x;
  weighed = ap (λ k. every (λ x. is_good (final_at c (triple_at d.memory.states x))) (interval 0 k)) (omega arith);
}

pub marking_on : (c : Composition) (d : Store) (work work' : List ℕ) (n : ℕ) (a : Checked (Option ℕ)) → Marking c d work n → n < d.used.states → 2 * d.used.states ≤ length work
    → a ≡ final_at c (triple_at d.memory.states n) → is_good a ≡ true → work' ≡ cond (answered a) (with_high work (2 * n) 4) work → Marking c d work' (n + 1)
marking_on c d work work' n a h l long e g f = record {
  below = λ x k. at x k (ℕ_discrete x n);
  above = λ x k. (ap (λ (w : List ℕ). status_in w x) f ∙ there (answered a) x (λ z. omega (arith, z, k))) ∙ h.above x (omega (arith, k));
  weighed = sym (run_turn good n n d.used.states l ∙ ap (λ b. b && every good (interval (n + 1) (d.used.states - (n + 1)))) (ap is_good (sym e) ∙ g)) ∙ h.weighed;
}
  where
    good : ℕ → Bool
    good x = is_good (final_at c (triple_at d.memory.states x))

    there : (b : Bool) (x : ℕ) → (x ≡ n → ⊥) → status_in (cond b (with_high work (2 * n) 4) work) x ≡ status_in work x
    there true x z = status_there work n 4 x z
    there false x z = refl

    here : (b : Bool) → status_in (cond b (with_high work (2 * n) 4) work) n ≡ cond b 4 0
    here true = status_here work n 4 (omega (arith, l, long))
    here false = h.above n (omega arith)

    at : (x : ℕ) → x < n + 1 → Dec (x ≡ n) → status_in work' x ≡ cond ((store_machine c d).is_final x) 4 0
    at x k (yes z) = rw z (ap (λ (w : List ℕ). status_in w n) f ∙ here (answered a) ∙ ap (λ r. cond (answered r) 4 0) e)
    at x k (no z) = ap (λ (w : List ℕ). status_in w x) f ∙ there (answered a) x z ∙ h.below x (omega (arith, k, z))

-- a weight is refused
pub marking_stops : (c : Composition) (d : Store) (work : List ℕ) (n : ℕ) (a : Checked (Option ℕ)) → Marking c d work n → n < d.used.states
    → a ≡ final_at c (triple_at d.memory.states n) → is_good a ≡ false → false ≡ all_weighed c d
marking_stops c d work n a h l e g =
    sym (run_turn (λ x. is_good (final_at c (triple_at d.memory.states x))) n n d.used.states l ∙ ap (λ b. b && every (λ x. is_good (final_at c (triple_at d.memory.states x))) (interval (n + 1) (d.used.states - (n + 1)))) (ap is_good (sym e) ∙ g))
    ∙ h.weighed

-- none is
pub marking_ends : (c : Composition) (d : Store) (work : List ℕ) (n : ℕ) → Marking c d work n → d.used.states ≤ n → true ≡ all_weighed c d
marking_ends c d work n h l = sym (run_end (λ x. is_good (final_at c (triple_at d.memory.states x))) n n d.used.states l) ∙ h.weighed

-- how many words a mark leaves
pub marked_length : (work work' : List ℕ) (i : ℕ) (b : Bool) → work' ≡ cond b (with_high work i 4) work → length work' ≡ length work
unfolding with_high
marked_length work work' i true e = ap length e ∙ length-set work _ _
marked_length work work' i false e = ap length e
