-- What is left to do.
use mathlib.Core.Path.{◌≡◌, refl, sym, ◌∙◌, ap, subst}
use mathlib.Core.Bool.{Bool, true, false, cond}
use mathlib.Core.Logic.{◌⊎◌, inl, inr, ⊎_elim}
use Prim.Native.Nat.{ℕ, zero, suc, ◌+◌, ◌*◌, ◌≤◌, ◌<◌}
use native.Mathlib.Omega.{arith}
use native.Mathlib.Nat.{suc-mul}
use native.Mathlib.Decide.{ℕ_discrete}
use lib.Dec.{eqb}
use borrow.Author.Tests.{ne_eqb}
use Rattle.searches.proofs.Ties.{update, fresh, whites}
use Rattle.searches.proofs.Columns.{update_same, update_other}

pub fresh_none : (v c : ℕ) → (v ≡ 0 → ⊥) → (v ≡ 4 → ⊥) → fresh v c ≡ 0
unfolding fresh
fresh_none v c a b = rw (ne_eqb v 0 a, ne_eqb v 4 b) refl

pub fresh_some : (v c : ℕ) → (v ≡ 0) ⊎ (v ≡ 4) → fresh v c ≡ c
unfolding fresh
fresh_some v c (inl e) = rw e refl
fresh_some v c (inr e) = rw e refl

fresh_most : (v c : ℕ) → fresh v c ≤ c
unfolding fresh
fresh_most v c = by (eqb v 0) (eqb v 4)
  where
    by : (a b : Bool) → cond a c (cond b c 0) ≤ c
    by true b = omega arith
    by false true = omega arith
    by false false = omega arith

pub whites_less : (len st st' : ℕ → ℕ) (n : ℕ) → ((x : ℕ) → x < n → (st' x ≡ st x) ⊎ (fresh (st' x) (suc (suc (len x))) ≡ 0)) → whites len st' n ≤ whites len st n
unfolding whites
whites_less len st st' zero h = omega arith
whites_less len st st' (suc x) h =
    let r = whites_less len st st' x (λ y l. h y (omega arith)) in
    let z : fresh (st' x) (suc (suc (len x))) ≤ fresh (st x) (suc (suc (len x))) = ⊎_elim (λ e. let u = ap (λ v. fresh v (suc (suc (len x)))) e in omega (arith, u)) (λ e. omega (arith, e)) (h x (omega arith)) in
    omega (arith, r, z)

pub whites_enter : (len st : ℕ → ℕ) (t n : ℕ) → t < n → (st t ≡ 0) ⊎ (st t ≡ 4) → whites len (update st t 1) n + suc (suc (len t)) ≤ whites len st n
unfolding whites
whites_enter len st t zero l w = absurd (omega arith)
whites_enter len st t (suc x) l w = go (ℕ_discrete x t) (λ k. whites_enter len st t x k w)
  where
    go : Dec (x ≡ t) → (t < x → whites len (update st t 1) x + suc (suc (len t)) ≤ whites len st x)
        → fresh (update st t 1 x) (suc (suc (len x))) + whites len (update st t 1) x + suc (suc (len t)) ≤ fresh (st x) (suc (suc (len x))) + whites len st x
    go (yes e) r =
        let a : fresh (update st t 1 x) (suc (suc (len x))) ≡ 0 = ap (λ v. fresh v (suc (suc (len x)))) (update_same st t 1 x e) ∙ fresh_none 1 (suc (suc (len x))) (λ z. omega arith) (λ z. omega arith) in
        let b : fresh (st x) (suc (suc (len x))) ≡ suc (suc (len x)) = fresh_some (st x) (suc (suc (len x))) (subst (λ y. (st y ≡ 0) ⊎ (st y ≡ 4)) (sym e) w) in
        let c = whites_less len st (update st t 1) x (λ y k. inl (update_other st t 1 y (λ z. omega arith))) in
        let d = ap len e in
        omega (arith, a, b, c, d)
    go (no e) r =
        let a = ap (λ v. fresh v (suc (suc (len x)))) (update_other st t 1 x e) in
        let b = r (omega arith) in
        omega (arith, a, b)

pub whites_most : (len st : ℕ → ℕ) (c n : ℕ) → ((x : ℕ) → x < n → len x ≤ c) → whites len st n ≤ n * (c + 2)
unfolding whites
whites_most len st c zero h = omega arith
whites_most len st c (suc x) h =
    let r = whites_most len st c x (λ y l. h y (omega arith)) in
    let f = fresh_most (st x) (suc (suc (len x))) in
    let l = h x (omega arith) in
    omega (arith, r, f, l, suc-mul x (c + 2))
