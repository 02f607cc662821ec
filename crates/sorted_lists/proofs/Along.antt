-- Along links: a walk from the first record with a label may stop at the first record without it.
use mathlib.Core.Path.{◌≡◌, refl, sym, ◌∙◌, ap, subst}
use mathlib.Core.Bool.{Bool, true, false}
use mathlib.Core.List.{List, [], ◌∷◌, map}
use Prim.Native.Nat.{ℕ, zero, suc, ◌≤◌, ◌<◌}
use native.Mathlib.Omega.{arith}
use lib.Dec.{eqb, leb}
use lib.ListN.{length}
use borrow.Author.Tests.{eqb-true, eq-eqb, ne_eqb, leb-true, leb-false}
use Rattle.lists.specs.Lists.{put_if}
use Rattle.lists.proofs.Members.{every_in, in_interval}
use Rattle.words.specs.Matches.{MatchType, inputs, outputs, label_on}
use Rattle.words.specs.Machines.{word_on, state_count, tr_count, tr_word, first_of, next_of, list_from, list_of, machine_of, no_fall, sorted}
use Rattle.words.proofs.ListLaws.{link, first_inside, list_turn}
use Rattle.matchers.specs.Cursors.{records_from, with_label, head0}
use Rattle.matchers.proofs.Seeks.{records_inside, with_outside, with_end, with_turn}
use Rattle.sorted_lists.specs.Runs.{rising}
use Rattle.sorted_lists.proofs.Falls.{fall_turn, fall_make, fall_lower, none_above}

records_turn : (m : List ℕ) (t : ℕ) → (t ≡ 0 → ⊥) → t ≤ tr_count m → records_from m t ≡ t ∷ records_from m (next_of m t)
records_turn m t n h = records_inside m t h ∙ (list_turn m t n h ∙ ap (λ (r : List ℕ). t ∷ r) (sym (records_inside m (next_of m t) (link m t).inside)))

-- a turn: the label is at least `low`, and those after it at least the label
pub rising_turn : (on : MatchType) (m : List ℕ) (low t : ℕ) → (t ≡ 0 → ⊥) → t ≤ tr_count m → rising on m low t ≡ true
    → (low ≤ label_on on (machine_of m) t) × (rising on m (label_on on (machine_of m) t) (next_of m t) ≡ true)
unfolding rising
rising_turn on m low t n h e =
    fall_turn low (label_on on (machine_of m) t) (map (label_on on (machine_of m)) (records_from m (next_of m t)))
    (subst (λ (r : List ℕ). no_fall low (map (label_on on (machine_of m)) r) ≡ true) (records_turn m t n h) e)

-- the same bound holds from the link on
pub rising_next : (on : MatchType) (m : List ℕ) (low t : ℕ) → (t ≡ 0 → ⊥) → t ≤ tr_count m → rising on m low t ≡ true → rising on m low (next_of m t) ≡ true
unfolding rising
rising_next on m low t n h e =
    let r = rising_turn on m low t n h e in fall_lower low (label_on on (machine_of m) t) (map (label_on on (machine_of m)) (records_from m (next_of m t))) r.0 r.1

-- a turn back
pub rising_make : (on : MatchType) (m : List ℕ) (low t : ℕ) → (t ≡ 0 → ⊥) → t ≤ tr_count m → low ≤ label_on on (machine_of m) t → rising on m (label_on on (machine_of m) t) (next_of m t) ≡ true
    → rising on m low t ≡ true
unfolding rising
rising_make on m low t n h b e =
    subst (λ (r : List ℕ). no_fall low (map (label_on on (machine_of m)) r) ≡ true) (sym (records_turn m t n h))
    (fall_make low (label_on on (machine_of m) t) (map (label_on on (machine_of m)) (records_from m (next_of m t))) b e)

-- all labels from here on are above x
pub rising_none : (on : MatchType) (m : List ℕ) (x low t : ℕ) → x < low → rising on m low t ≡ true → with_label on m x t ≡ []
unfolding rising with_label
rising_none on m x low t h e = none_above (label_on on (machine_of m)) x low (records_from m t) h e

-- the word of a record that holds its label
pub label_word : (on : MatchType) (m : List ℕ) (t k y : ℕ) → k ≡ word_on on → y ≡ tr_word m t k → y ≡ label_on on (machine_of m) t
label_word inputs m t k y e r = r ∙ ap (tr_word m t) e
label_word outputs m t k y e r = r ∙ ap (tr_word m t) e

-- the label is x: this record is the first
pub with_here : (on : MatchType) (m : List ℕ) (x t : ℕ) → (t ≡ 0 → ⊥) → t ≤ tr_count m → label_on on (machine_of m) t ≡ x → with_label on m x t ≡ t ∷ with_label on m x (next_of m t)
with_here on m x t n h p = with_turn on m x t n h ∙ ap (λ (b : Bool). put_if b t (with_label on m x (next_of m t))) (eq-eqb (label_on on (machine_of m) t) x p)

-- it is not: what comes from the link on
pub with_skip : (on : MatchType) (m : List ℕ) (x t : ℕ) → (t ≡ 0 → ⊥) → t ≤ tr_count m → (label_on on (machine_of m) t ≡ x → ⊥) → with_label on m x t ≡ with_label on m x (next_of m t)
with_skip on m x t n h p = with_turn on m x t n h ∙ ap (λ (b : Bool). put_if b t (with_label on m x (next_of m t))) (ne_eqb (label_on on (machine_of m) t) x p)

-- a scan may stop at a larger label
pub with_past : (on : MatchType) (m : List ℕ) (x low t : ℕ) → (t ≡ 0 → ⊥) → t ≤ tr_count m → rising on m low t ≡ true → x < label_on on (machine_of m) t → with_label on m x t ≡ []
with_past on m x low t n h e p =
    let r = rising_turn on m low t n h e in
    with_skip on m x t n h (λ z. omega (arith, z, p)) ∙ rising_none on m x (label_on on (machine_of m) t) (next_of m t) p r.1

-- among labels from x on, a walk may stop at the first that is not x
pub with_stops : (on : MatchType) (m : List ℕ) (x t : ℕ) → (t ≡ 0 → ⊥) → t ≤ tr_count m → rising on m x t ≡ true → (label_on on (machine_of m) t ≡ x → ⊥) → with_label on m x t ≡ []
with_stops on m x t n h e p = let r = rising_turn on m x t n h e in with_past on m x x t n h e (omega (arith, r.0, p))

-- and goes on from one that is x
pub with_on : (on : MatchType) (m : List ℕ) (x t : ℕ) → (t ≡ 0 → ⊥) → t ≤ tr_count m → rising on m x t ≡ true → label_on on (machine_of m) t ≡ x
    → (with_label on m x t ≡ t ∷ with_label on m x (next_of m t)) × (rising on m x (next_of m t) ≡ true)
with_on on m x t n h e p = (with_here on m x t n h p, rising_next on m x t n h e)

rising_by : (on : MatchType) (m : List ℕ) (x n low t : ℕ) → length (list_from m t) ≤ n → t ≤ tr_count m → rising on m low t ≡ true → (head0 (with_label on m x t) ≡ 0 → ⊥)
    → rising on m x (head0 (with_label on m x t)) ≡ true
rising_by on m x zero low zero b h e a = absurd (a (ap head0 (with_end on m x 0 refl)))
rising_by on m x zero low (suc t) b h e a = let l = ap length (list_turn m (suc t) (λ z. omega arith) h) in absurd (omega arith)
rising_by on m x (suc n) low zero b h e a = absurd (a (ap head0 (with_end on m x 0 refl)))
rising_by on m x (suc n) low (suc t) b h e a =
    let l = ap length (list_turn m (suc t) (λ z. omega arith) h) in
    let w = with_turn on m x (suc t) (λ z. omega arith) h in
    let r = rising_turn on m low (suc t) (λ z. omega arith) h e in
    subst (λ (k : List ℕ). rising on m x (head0 k) ≡ true) (sym w)
    (go (eqb (label_on on (machine_of m) (suc t)) x) refl r (λ z. a (ap head0 w ∙ z)) (λ y. rising_by on m x n (label_on on (machine_of m) (suc t)) (next_of m (suc t)) (omega arith) (link m (suc t)).inside r.1 y))
  where
    go : (p : Bool) → eqb (label_on on (machine_of m) (suc t)) x ≡ p → (low ≤ label_on on (machine_of m) (suc t)) × (rising on m (label_on on (machine_of m) (suc t)) (next_of m (suc t)) ≡ true)
        → (head0 (put_if p (suc t) (with_label on m x (next_of m (suc t)))) ≡ 0 → ⊥)
        → ((head0 (with_label on m x (next_of m (suc t))) ≡ 0 → ⊥) → rising on m x (head0 (with_label on m x (next_of m (suc t)))) ≡ true)
        → rising on m x (head0 (put_if p (suc t) (with_label on m x (next_of m (suc t))))) ≡ true
    go true p r a rec = let q = eqb-true (label_on on (machine_of m) (suc t)) x p in rising_make on m x (suc t) (λ z. omega arith) h (omega (arith, q)) r.1
    go false p r a rec = rec a

-- from the first record with label x on, no label is below x
pub rising_first : (on : MatchType) (m : List ℕ) (x low t : ℕ) → rising on m low t ≡ true → (head0 (with_label on m x t) ≡ 0 → ⊥) → rising on m x (head0 (with_label on m x t)) ≡ true
rising_first on m x low t e a = go (leb t (tr_count m)) refl
  where
    go : (b : Bool) → leb t (tr_count m) ≡ b → rising on m x (head0 (with_label on m x t)) ≡ true
    go true p = rising_by on m x (length (list_from m t)) low t (omega arith) (leb-true _ _ p) e a
    go false p = absurd (a (ap head0 (with_outside on m x t (leb-false _ _ p))))

-- a sorted machine: the list of each state
pub sorted_rising : (on : MatchType) (m : List ℕ) (s : ℕ) → sorted on (machine_of m) ≡ true → s < state_count m → rising on m 0 (first_of m s) ≡ true
unfolding sorted rising list_of
sorted_rising on m s e h =
    subst (λ (r : List ℕ). no_fall 0 (map (label_on on (machine_of m)) r) ≡ true) (sym (records_inside m (first_of m s) (first_inside m s)))
    (every_in (λ q. no_fall 0 (map (label_on on (machine_of m)) (list_from m (first_of m q)))) e (in_interval 0 (state_count m) s (omega arith) (omega arith)))
