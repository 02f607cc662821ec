-- Triples counted once each: one step more at the end, and one triple less.
use mathlib.Core.Path.{◌≡◌, refl, sym, ◌∙◌, ap}
use mathlib.Core.Bool.{Bool, true, false, not, ◌&&◌, ◌||◌, cond, and-true, and-false}
use mathlib.Core.List.{List, [], ◌∷◌}
use Prim.Native.Nat.{ℕ, zero, suc, ◌+◌, ◌≤◌}
use native.Mathlib.Omega.{arith}
use Rattle.words.specs.Labels.{Checked, good, refused}
use Rattle.words.specs.Steps.{Triple, Step}
use Rattle.calls.specs.Store.{same_triple}
use Rattle.calls.proofs.ChainLaws.{same_triple_lem, same_self}
use Rattle.compose_weigh.specs.Weigh.{reached_within}
use Rattle.compose_weigh.specs.Windows.{new_within, Ahead}
use Rattle.compose_weigh.proofs.WeighLaws.{less}

-- 1 where the test holds
abbrev pub one : Bool → ℕ
one b = cond b 1 0

-- P without a triple
abbrev pub but : (Triple → Bool) → Triple → Triple → Bool
but P a t = P t && not (same_triple a t)

-- the same triples counted, the same number
pub new_same : (P Q : Triple → Bool) (k : ℕ) (steps : List (Checked Step)) → ((t : Triple) → P t ≡ Q t) → new_within P k steps ≡ new_within Q k steps
new_same P Q k steps e = let f : P ≡ Q = λ i t. e t i in ap (λ (R : Triple → Bool). new_within R k steps) f

one_most : (b : Bool) → one b ≤ 1
one_most true = omega arith
one_most false = omega arith

-- no more triples than steps
pub new_most : (P : Triple → Bool) (k : ℕ) (steps : List (Checked Step)) → new_within P k steps ≤ k
unfolding new_within
new_most P zero steps = omega arith
new_most P (suc k) [] = omega arith
new_most P (suc k) (refused n ∷ others) = omega arith
new_most P (suc k) (good s ∷ others) = let r = new_most (but P s.to) k others in let o = one_most (P s.to) in omega (arith, r, o)

-- one step more: its target counts where it has P and none of the steps before went to it
pub new_step : (P : Triple → Bool) (k : ℕ) (steps : List (Checked Step)) (s : Step) (others : List (Checked Step)) → Ahead k steps (good s ∷ others)
    → new_within P (suc k) steps ≡ new_within P k steps + one (P s.to && not (reached_within s.to k steps))
unfolding new_within reached_within
new_step P zero steps s others e = rw (e, and-true (P s.to)) (omega arith)
new_step P (suc k) [] s others e = absurd e
new_step P (suc k) (refused n ∷ steps) s others e = absurd e
new_step P (suc k) (good r ∷ steps) s others e =
    let rec = new_step (but P r.to) k steps s others e in
    let b = ap one (less (P s.to) (same_triple r.to s.to) (reached_within s.to k steps)) in
    omega (arith, rec, b)

-- the test of triples is even-handed
same_sym : (a b : Triple) → same_triple a b ≡ false → same_triple b a ≡ false
same_sym a b e = go (same_triple b a) refl
  where
    go : (x : Bool) → same_triple b a ≡ x → same_triple b a ≡ false
    go false p = p
    go true p = let z = same_triple_lem b a p in ap (λ t. same_triple t a) z ∙ (sym (ap (λ t. same_triple a t) z) ∙ e)

pub and_swap : (a b c : Bool) → (a && b) && c ≡ (a && c) && b
and_swap false b c = refl
and_swap true true true = refl
and_swap true true false = refl
and_swap true false true = refl
and_swap true false false = refl

and_again : (a b : Bool) → (a && b) && b ≡ a && b
and_again false b = refl
and_again true true = refl
and_again true false = refl

-- one triple less: it counted once where it has P and some step goes to it
pub new_but : (P : Triple → Bool) (a : Triple) (k : ℕ) (steps : List (Checked Step)) → new_within P k steps ≡ one (P a && reached_within a k steps) + new_within (but P a) k steps
unfolding new_within reached_within
new_but P a zero steps = rw (and-false (P a)) refl
new_but P a (suc k) [] = rw (and-false (P a)) refl
new_but P a (suc k) (refused n ∷ others) = rw (and-false (P a)) refl
new_but P a (suc k) (good s ∷ others) = go (same_triple s.to a) refl (new_but (but P s.to) a k others)
  where
    go : (b : Bool) → same_triple s.to a ≡ b
        → new_within (but P s.to) k others ≡ one (but P s.to a && reached_within a k others) + new_within (but (but P s.to) a) k others
        → one (P s.to) + new_within (but P s.to) k others ≡ one (P a && (b || reached_within a k others)) + (one (but P a s.to) + new_within (but (but P a) s.to) k others)
    go true p rec =
        let z : s.to ≡ a = same_triple_lem s.to a p in
        let again = new_same (but (but P a) a) (but P a) k others (λ t. and_again (P t) (not (same_triple a t))) in
        rw (z, and-true (P a), same_self a, and-false (P a), again) (omega arith)
    go false p rec =
        let q = same_sym s.to a p in
        let swap = new_same (but (but P s.to) a) (but (but P a) s.to) k others (λ t. and_swap (P t) (not (same_triple s.to t)) (not (same_triple a t))) in
        let here : but P s.to a ≡ P a = ap (λ b. P a && not b) p ∙ and-true (P a) in
        let there : but P a s.to ≡ P s.to = ap (λ b. P s.to && not b) q ∙ and-true (P s.to) in
        let m = ap (λ b. one (b && reached_within a k others)) here in
        let n = ap one there in
        omega (arith, rec, swap, m, n)
