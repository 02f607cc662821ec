-- Writing a field of a word writes one place of one column.
use mathlib.Core.Path.{◌≡◌, refl, sym, ◌∙◌, ap, subst}
use mathlib.Core.List.{List}
use Prim.Native.Nat.{ℕ, zero, suc, ◌+◌, ◌*◌, ◌%◌, ◌≤◌, ◌<◌}
use native.Mathlib.Omega.{arith}
use native.Mathlib.Decide.{ℕ_discrete}
use lib.ListN.{length, get_or, set, length-set}
use lib.Seq.{get_or-set_same, get_or-set_other}
use borrow.Author.Tests.{eq-eqb, ne_eqb, lt-ltb}
use Rattle.searches.specs.WorkWords.{up, pack3, low, middle, high, with_low, with_middle, with_high}
use Rattle.searches.specs.UsefulSearch.{open_in, settled_of, opened_of, entered_of}
use Rattle.searches.proofs.Ties.{Cols, update, Held, settled}

pub low_pack : (lo mid hi : ℕ) → lo < 16777216 → low (pack3 lo mid hi) ≡ lo
unfolding low pack3
low_pack lo mid hi h = omega arith

pub middle_pack : (lo mid hi : ℕ) → lo < 16777216 → mid < 16777216 → middle (pack3 lo mid hi) ≡ mid
unfolding middle pack3
middle_pack lo mid hi h k = omega arith

pub high_pack : (lo mid hi : ℕ) → lo < 16777216 → mid < 16777216 → high (pack3 lo mid hi) ≡ hi
unfolding high pack3
high_pack lo mid hi h k = omega arith

pub low_below : (w : ℕ) → low w < 16777216
unfolding low
low_below w = omega arith

pub middle_below : (w : ℕ) → middle w < 16777216
unfolding middle
middle_below w = omega arith

pub up_suc : (x : ℕ) → x < 16777216 → up x ≡ suc x
unfolding up
up_suc x h = rw (lt-ltb x 16777216 h) refl

mod_small : (v : ℕ) → v < 16777216 → v % 16777216 ≡ v
mod_small v h = omega arith

pub update_same : (f : ℕ → ℕ) (i v j : ℕ) → j ≡ i → update f i v j ≡ v
unfolding update
update_same f i v j e = rw (eq-eqb j i e) refl

pub update_other : (f : ℕ → ℕ) (i v j : ℕ) → (j ≡ i → ⊥) → update f i v j ≡ f j
unfolding update
update_other f i v j e = rw (ne_eqb j i e) refl

-- a field that the new word keeps
same_field : (g : ℕ → ℕ) (w : List ℕ) (k x j : ℕ) → k < length w → g x ≡ g (get_or w k 0) → g (get_or (set w k x) j 0) ≡ g (get_or w j 0)
same_field g w k x j h e = go (ℕ_discrete j k)
  where
    go : Dec (j ≡ k) → g (get_or (set w k x) j 0) ≡ g (get_or w j 0)
    go (yes d) = subst (λ i. g (get_or (set w k x) i 0) ≡ g (get_or w i 0)) (sym d) (ap g (get_or-set_same w k x 0 h) ∙ e)
    go (no d) = ap g (get_or-set_other w k j x 0 d)

-- a field that it changes
new_field : (g : ℕ → ℕ) (w : List ℕ) (k x q : ℕ) (f : ℕ → ℕ) (i v j : ℕ) → k < length w → g x ≡ v → (q ≡ k → j ≡ i) → (j ≡ i → q ≡ k) → g (get_or w q 0) ≡ f j
    → g (get_or (set w k x) q 0) ≡ update f i v j
new_field g w k x q f i v j h e m n d = go (ℕ_discrete j i)
  where
    go : Dec (j ≡ i) → g (get_or (set w k x) q 0) ≡ update f i v j
    go (yes z) = subst (λ y. g (get_or (set w k x) y 0) ≡ update f i v j) (sym (n z)) (ap g (get_or-set_same w k x 0 h) ∙ (e ∙ sym (update_same f i v j z)))
    go (no z) = ap g (get_or-set_other w k q x 0 (λ y. z (m y))) ∙ (d ∙ sym (update_other f i v j z))

pub put_cursor : (n : ℕ) (w : List ℕ) (a : Cols) (i v : ℕ) → i < n → v < 16777216 → Held n w a
    → Held n (with_low w (2 * i) v) (record { cursor = update a.cursor i v; opens = a.opens; status = a.status; place = a.place; bound = a.bound })
unfolding with_low
put_cursor n w a i v l k h = subst (λ z. Held n (set w (2 * i) (pack3 z (middle (get_or w (2 * i) 0)) (high (get_or w (2 * i) 0)))) (record { cursor = update a.cursor i v; opens = a.opens; status = a.status; place = a.place; bound = a.bound })) (sym (mod_small v k)) (record {
  long = simp length-set h.long;
  cursors = λ j m. new_field low w (2 * i) (pack3 v mid hi) (2 * j) a.cursor i v j inside (low_pack v mid hi k) (λ e. omega arith) (λ e. omega arith) (h.cursors j m);
  openings = λ j m. same_field middle w (2 * i) (pack3 v mid hi) (2 * j) inside (middle_pack v mid hi k (middle_below _)) ∙ h.openings j m;
  statuses = λ j m. same_field high w (2 * i) (pack3 v mid hi) (2 * j) inside (high_pack v mid hi k (middle_below _)) ∙ h.statuses j m;
  places = λ j m. ap low (get_or-set_other w (2 * i) (2 * j + 1) (pack3 v mid hi) 0 (λ e. omega arith)) ∙ h.places j m;
  bounds = λ j m. ap middle (get_or-set_other w (2 * i) (2 * j + 1) (pack3 v mid hi) 0 (λ e. omega arith)) ∙ h.bounds j m;
})
  where
    mid : ℕ
    mid = middle (get_or w (2 * i) 0)

    hi : ℕ
    hi = high (get_or w (2 * i) 0)

    inside : 2 * i < length w
    inside = omega (arith, h.long)

pub put_open : (n : ℕ) (w : List ℕ) (a : Cols) (i v : ℕ) → i < n → v < 16777216 → Held n w a
    → Held n (with_middle w (2 * i) v) (record { cursor = a.cursor; opens = update a.opens i v; status = a.status; place = a.place; bound = a.bound })
unfolding with_middle
put_open n w a i v l k h = subst (λ z. Held n (set w (2 * i) (pack3 (low (get_or w (2 * i) 0)) z (high (get_or w (2 * i) 0)))) (record { cursor = a.cursor; opens = update a.opens i v; status = a.status; place = a.place; bound = a.bound })) (sym (mod_small v k)) (record {
  long = simp length-set h.long;
  cursors = λ j m. same_field low w (2 * i) (pack3 lo v hi) (2 * j) inside (low_pack lo v hi (low_below _)) ∙ h.cursors j m;
  openings = λ j m. new_field middle w (2 * i) (pack3 lo v hi) (2 * j) a.opens i v j inside (middle_pack lo v hi (low_below _) k) (λ e. omega arith) (λ e. omega arith) (h.openings j m);
  statuses = λ j m. same_field high w (2 * i) (pack3 lo v hi) (2 * j) inside (high_pack lo v hi (low_below _) k) ∙ h.statuses j m;
  places = λ j m. ap low (get_or-set_other w (2 * i) (2 * j + 1) (pack3 lo v hi) 0 (λ e. omega arith)) ∙ h.places j m;
  bounds = λ j m. ap middle (get_or-set_other w (2 * i) (2 * j + 1) (pack3 lo v hi) 0 (λ e. omega arith)) ∙ h.bounds j m;
})
  where
    lo : ℕ
    lo = low (get_or w (2 * i) 0)

    hi : ℕ
    hi = high (get_or w (2 * i) 0)

    inside : 2 * i < length w
    inside = omega (arith, h.long)

pub put_status : (n : ℕ) (w : List ℕ) (a : Cols) (i v : ℕ) → i < n → Held n w a
    → Held n (with_high w (2 * i) v) (record { cursor = a.cursor; opens = a.opens; status = update a.status i v; place = a.place; bound = a.bound })
unfolding with_high
put_status n w a i v l h = record {
  long = simp length-set h.long;
  cursors = λ j m. same_field low w (2 * i) (pack3 lo mid v) (2 * j) inside (low_pack lo mid v (low_below _)) ∙ h.cursors j m;
  openings = λ j m. same_field middle w (2 * i) (pack3 lo mid v) (2 * j) inside (middle_pack lo mid v (low_below _) (middle_below _)) ∙ h.openings j m;
  statuses = λ j m. new_field high w (2 * i) (pack3 lo mid v) (2 * j) a.status i v j inside (high_pack lo mid v (low_below _) (middle_below _)) (λ e. omega arith) (λ e. omega arith) (h.statuses j m);
  places = λ j m. ap low (get_or-set_other w (2 * i) (2 * j + 1) (pack3 lo mid v) 0 (λ e. omega arith)) ∙ h.places j m;
  bounds = λ j m. ap middle (get_or-set_other w (2 * i) (2 * j + 1) (pack3 lo mid v) 0 (λ e. omega arith)) ∙ h.bounds j m;
}
  where
    lo : ℕ
    lo = low (get_or w (2 * i) 0)

    mid : ℕ
    mid = middle (get_or w (2 * i) 0)

    inside : 2 * i < length w
    inside = omega (arith, h.long)

pub put_place : (n : ℕ) (w : List ℕ) (a : Cols) (i v : ℕ) → i < n → v < 16777216 → Held n w a
    → Held n (with_low w (2 * i + 1) v) (record { cursor = a.cursor; opens = a.opens; status = a.status; place = update a.place i v; bound = a.bound })
unfolding with_low
put_place n w a i v l k h = subst (λ z. Held n (set w (2 * i + 1) (pack3 z (middle (get_or w (2 * i + 1) 0)) (high (get_or w (2 * i + 1) 0)))) (record { cursor = a.cursor; opens = a.opens; status = a.status; place = update a.place i v; bound = a.bound })) (sym (mod_small v k)) (record {
  long = simp length-set h.long;
  cursors = λ j m. ap low (get_or-set_other w (2 * i + 1) (2 * j) (pack3 v mid hi) 0 (λ e. omega arith)) ∙ h.cursors j m;
  openings = λ j m. ap middle (get_or-set_other w (2 * i + 1) (2 * j) (pack3 v mid hi) 0 (λ e. omega arith)) ∙ h.openings j m;
  statuses = λ j m. ap high (get_or-set_other w (2 * i + 1) (2 * j) (pack3 v mid hi) 0 (λ e. omega arith)) ∙ h.statuses j m;
  places = λ j m. new_field low w (2 * i + 1) (pack3 v mid hi) (2 * j + 1) a.place i v j inside (low_pack v mid hi k) (λ e. omega arith) (λ e. omega arith) (h.places j m);
  bounds = λ j m. same_field middle w (2 * i + 1) (pack3 v mid hi) (2 * j + 1) inside (middle_pack v mid hi k (middle_below _)) ∙ h.bounds j m;
})
  where
    mid : ℕ
    mid = middle (get_or w (2 * i + 1) 0)

    hi : ℕ
    hi = high (get_or w (2 * i + 1) 0)

    inside : 2 * i + 1 < length w
    inside = omega (arith, h.long)

pub put_bound : (n : ℕ) (w : List ℕ) (a : Cols) (i v : ℕ) → i < n → v < 16777216 → Held n w a
    → Held n (with_middle w (2 * i + 1) v) (record { cursor = a.cursor; opens = a.opens; status = a.status; place = a.place; bound = update a.bound i v })
unfolding with_middle
put_bound n w a i v l k h = subst (λ z. Held n (set w (2 * i + 1) (pack3 (low (get_or w (2 * i + 1) 0)) z (high (get_or w (2 * i + 1) 0)))) (record { cursor = a.cursor; opens = a.opens; status = a.status; place = a.place; bound = update a.bound i v })) (sym (mod_small v k)) (record {
  long = simp length-set h.long;
  cursors = λ j m. ap low (get_or-set_other w (2 * i + 1) (2 * j) (pack3 lo v hi) 0 (λ e. omega arith)) ∙ h.cursors j m;
  openings = λ j m. ap middle (get_or-set_other w (2 * i + 1) (2 * j) (pack3 lo v hi) 0 (λ e. omega arith)) ∙ h.openings j m;
  statuses = λ j m. ap high (get_or-set_other w (2 * i + 1) (2 * j) (pack3 lo v hi) 0 (λ e. omega arith)) ∙ h.statuses j m;
  places = λ j m. same_field low w (2 * i + 1) (pack3 lo v hi) (2 * j + 1) inside (low_pack lo v hi (low_below _)) ∙ h.places j m;
  bounds = λ j m. new_field middle w (2 * i + 1) (pack3 lo v hi) (2 * j + 1) a.bound i v j inside (middle_pack lo v hi (low_below _) k) (λ e. omega arith) (λ e. omega arith) (h.bounds j m);
})
  where
    lo : ℕ
    lo = low (get_or w (2 * i + 1) 0)

    hi : ℕ
    hi = high (get_or w (2 * i + 1) 0)

    inside : 2 * i + 1 < length w
    inside = omega (arith, h.long)

-- entering writes all five
pub put_opened : (n : ℕ) (w : List ℕ) (a : Cols) (t o b : ℕ) → t < n → o < n → b < n → n ≤ 16777216 → Held n w a
    → Held n (opened_of w t o b) (record { cursor = a.cursor; opens = update a.opens o t; status = update a.status t 1; place = update a.place t o; bound = update a.bound b o })
unfolding opened_of
put_opened n w a t o b tn on bn k h =
    put_bound n _ _ b o bn (omega arith) (put_place n _ _ t o tn (omega arith) (put_status n _ _ t 1 tn (put_open n w a o t on (omega arith) h)))

pub put_entered : (n : ℕ) (w : List ℕ) (a : Cols) (d r t o b : ℕ) → d < n → r < 16777216 → t < n → o < n → b < n → n ≤ 16777216 → Held n w a
    → Held n (entered_of w d r t o b) (record { cursor = update a.cursor d r; opens = update a.opens o t; status = update a.status t 1; place = update a.place t o; bound = update a.bound b o })
unfolding entered_of
put_entered n w a d r t o b dn rn tn on bn k h = put_opened n _ _ t o b tn on bn k (put_cursor n w a d r dn rn h)

-- the loop of settling
pub put_settled : (n : ℕ) (w : List ℕ) (a : Cols) (v p m : ℕ) → p + m ≤ n → ((k : ℕ) → p ≤ k → k < p + m → a.opens k < n) → Held n w a
    → Held n (settled_of w v p m) (record { cursor = a.cursor; opens = a.opens; status = settled a.status a.opens v p m; place = a.place; bound = a.bound })
unfolding settled_of settled
put_settled n w a v p zero l u h = h
put_settled n w a v p (suc m) l u h =
    put_settled n (with_high w (2 * open_in w p) v) (record { cursor = a.cursor; opens = a.opens; status = update a.status (a.opens p) v; place = a.place; bound = a.bound }) v (suc p) m
    (omega arith) (λ k x y. u k (omega arith) (omega arith))
    (subst (λ z. Held n (with_high w (2 * z) v) (record { cursor = a.cursor; opens = a.opens; status = update a.status (a.opens p) v; place = a.place; bound = a.bound }))
    (sym (h.openings p (omega arith))) (put_status n w a (a.opens p) v (u p (omega arith) (omega arith)) h))

pub settle_miss : (st op : ℕ → ℕ) (v p m x : ℕ) → ((k : ℕ) → p ≤ k → k < p + m → x ≡ op k → ⊥) → settled st op v p m x ≡ st x
unfolding settled
settle_miss st op v p zero x h = refl
settle_miss st op v p (suc m) x h =
    settle_miss (update st (op p) v) op v (suc p) m x (λ k a b. h k (omega arith) (omega arith)) ∙ update_other st (op p) v x (h p (omega arith) (omega arith))

settle_keeps : (st op : ℕ → ℕ) (v p m x : ℕ) → st x ≡ v → settled st op v p m x ≡ v
unfolding settled
settle_keeps st op v p zero x h = h
settle_keeps st op v p (suc m) x h = settle_keeps (update st (op p) v) op v (suc p) m x (go (ℕ_discrete x (op p)))
  where
    go : Dec (x ≡ op p) → update st (op p) v x ≡ v
    go (yes e) = update_same st (op p) v x e
    go (no e) = update_other st (op p) v x e ∙ h

pub settle_hit : (st op : ℕ → ℕ) (v p m k : ℕ) → p ≤ k → k < p + m → settled st op v p m (op k) ≡ v
unfolding settled
settle_hit st op v p zero k a b = absurd (omega arith)
settle_hit st op v p (suc m) k a b = go (ℕ_discrete k p) (λ x y. settle_hit (update st (op p) v) op v (suc p) m k x y)
  where
    go : Dec (k ≡ p) → (suc p ≤ k → k < suc p + m → settled (update st (op p) v) op v (suc p) m (op k) ≡ v) → settled (update st (op p) v) op v (suc p) m (op k) ≡ v
    go (yes e) r = settle_keeps (update st (op p) v) op v (suc p) m (op k) (update_same st (op p) v (op k) (ap op e))
    go (no e) r = r (omega arith) (omega arith)
