-- Where the words of a state and of a transition stand among the words of all of them.
use mathlib.Core.Path.{◌≡◌, refl, sym, ◌∙◌, ap}
use mathlib.Core.Bool.{Bool, true, false, cond}
use mathlib.Core.List.{List, [], ◌∷◌, ◌++◌}
use Rattle.std.specs.Prelude.{Option, None, Some}
use Rattle.std.proofs.lemmas.Option.{none-some, same_Some}
use Prim.Native.Nat.{ℕ, zero, suc, ◌+◌, ◌*◌, ◌<◌}
use native.Mathlib.Nat.{add-zero}
use native.Mathlib.Omega.{arith}
use lib.Dec.{ltb}
use lib.ListN.{length, get_or, length-append, get_or-append}
use lib.Seq.{get_or-append-add}
use borrow.Author.Tests.{ltb-true, ltb-false, lt-ltb, le-ltb}
use Rattle.lists.specs.Lists.{At}
use Rattle.lists.proofs.Places.{at_length}
use Rattle.words.specs.Matches.{Tr}
use Rattle.words.specs.Sides.{non_empty}
use Rattle.machine_words.specs.MachineWords.{Row, words_of_tr, list_words, trs_words, final_words, row_words, states_words, trs_in, before}

-- the link of transition j of a list of so many that begins behind n records
abbrev pub link_of : ℕ → ℕ → ℕ → ℕ
link_of n j many = cond (ltb (j + 1) many) (n + j + 2) 0

final_length : (o : Option ℕ) → length (final_words o) ≡ 2
final_length None = refl
final_length (Some w) = refl

-- a word in the first of two joined lists, and one in the second, by what the index is equal to
in_left : (l r : List ℕ) (n i : ℕ) → i ≡ n → n < length l → get_or (l ++ r) i 0 ≡ get_or l n 0
in_left l r n i e h = ap (λ (k : ℕ). get_or (l ++ r) k 0) e ∙ get_or-append l r 0 n h

in_right : (l r : List ℕ) (n i : ℕ) → i ≡ length l + n → get_or (l ++ r) i 0 ≡ get_or r n 0
in_right l r n i e = ap (λ (k : ℕ). get_or (l ++ r) k 0) e ∙ get_or-append-add l r n 0

-- three words for a state
pub states_length : (n : ℕ) (rows : List Row) → length (states_words n rows) ≡ 3 * length rows
unfolding states_words
states_length n [] = refl
states_length n (r ∷ rs) =
    let a = states_length (n + length r.list) rs in
    omega (arith, a, final_length r.final, length-append (row_words n r) (states_words (n + length r.list) rs))

pub states_word : (n : ℕ) (rows : List Row) (s k : ℕ) {row : Row} → At rows s row → k < 3
    → get_or (states_words n rows) (3 * s + k) 0 ≡ get_or (row_words (n + before rows s) row) k 0
unfolding states_words before
states_word n [] s k h l = absurd (none-some _ h)
states_word n (r ∷ rs) zero k {row} h l =
    let e : r ≡ row = same_Some _ _ h in
    in_left (row_words n r) (states_words (n + length r.list) rs) k (3 * 0 + k) (omega arith) (omega (arith, final_length r.final))
    ∙ ap (λ (q : Row). get_or (row_words n q) k 0) e
    ∙ ap (λ (i : ℕ). get_or (row_words i row) k 0) (sym (add-zero n))
states_word n (r ∷ rs) (suc s) k {row} h l =
    let z : n + (length r.list + before rs s) ≡ n + length r.list + before rs s = omega arith in
    in_right (row_words n r) (states_words (n + length r.list) rs) (3 * s + k) (3 * suc s + k) (omega (arith, final_length r.final))
    ∙ states_word (n + length r.list) rs s k h l
    ∙ ap (λ (i : ℕ). get_or (row_words i row) k 0) (sym z)

-- five words for a transition
pub list_length : (n : ℕ) (ts : List Tr) → length (list_words n ts) ≡ 5 * length ts
unfolding list_words
list_length n [] = refl
list_length n (t ∷ ts) = let a = list_length (suc n) ts in omega (arith, a)

pub trs_length : (n : ℕ) (rows : List Row) → length (trs_words n rows) ≡ 5 * trs_in rows
unfolding trs_words trs_in
trs_length n [] = refl
trs_length n (r ∷ rs) =
    let a = trs_length (n + length r.list) rs in
    let b = list_length n r.list in
    omega (arith, a, b, length-append (list_words n r.list) (trs_words (n + length r.list) rs))

-- a list ends where nothing comes after
more : {A : Type 0} (l : List A) → non_empty l ≡ ltb (0 + 1) (suc (length l))
more [] = refl
more (x ∷ xs) = sym (lt-ltb (0 + 1) (suc (suc (length xs))) (omega arith))

-- one more of both sides
ltb_suc : (a b : ℕ) → ltb (a + 1) b ≡ ltb (suc a + 1) (suc b)
ltb_suc a b = go (ltb (a + 1) b) refl
  where
    go : (c : Bool) → ltb (a + 1) b ≡ c → ltb (a + 1) b ≡ ltb (suc a + 1) (suc b)
    go true e = e ∙ sym (lt-ltb (suc a + 1) (suc b) (omega (arith, ltb-true (a + 1) b e)))
    go false e = e ∙ sym (le-ltb (suc a + 1) (suc b) (omega (arith, ltb-false (a + 1) b e)))

pub list_word : (n : ℕ) (ts : List Tr) (j k : ℕ) {t : Tr} → At ts j t → k < 5
    → get_or (list_words n ts) (5 * j + k) 0 ≡ get_or (words_of_tr t (link_of n j (length ts))) k 0
unfolding list_words
list_word n [] j k h l = absurd (none-some _ h)
list_word n (t ∷ ts) zero k {t = u} h l =
    let e : t ≡ u = same_Some _ _ h in
    in_left (words_of_tr t (cond (non_empty ts) (n + 2) 0)) (list_words (suc n) ts) k (5 * 0 + k) (omega arith) (omega arith)
    ∙ ap (λ (b : Bool). get_or (words_of_tr t (cond b (n + 2) 0)) k 0) (more ts)
    ∙ ap (λ (i : ℕ). get_or (words_of_tr t (cond (ltb (0 + 1) (suc (length ts))) (i + 2) 0)) k 0) (sym (add-zero n))
    ∙ ap (λ (v : Tr). get_or (words_of_tr v (link_of n 0 (suc (length ts)))) k 0) e
list_word n (t ∷ ts) (suc j) k {t = u} h l =
    in_right (words_of_tr t (cond (non_empty ts) (n + 2) 0)) (list_words (suc n) ts) (5 * j + k) (5 * suc j + k) (omega arith)
    ∙ list_word (suc n) ts j k h l
    ∙ ap (λ (i : ℕ). get_or (words_of_tr u i) k 0) (same j (length ts))
  where
    same : (j many : ℕ) → link_of (suc n) j many ≡ link_of n (suc j) (suc many)
    same j many =
        let a : suc n + j + 2 ≡ n + suc j + 2 = omega arith in
        rw a (ap (λ (b : Bool). cond b (n + suc j + 2) 0) (ltb_suc j many))

pub trs_word : (n : ℕ) (rows : List Row) (s j k : ℕ) {row : Row} {t : Tr} → At rows s row → At row.list j t → k < 5
    → get_or (trs_words n rows) (5 * (before rows s + j) + k) 0 ≡ get_or (words_of_tr t (link_of (n + before rows s) j (length row.list))) k 0
unfolding trs_words before
trs_word n [] s j k h i l = absurd (none-some _ h)
trs_word n (r ∷ rs) zero j k {row} {t} h i l =
    let e : r ≡ row = same_Some _ _ h in
    let i' : At r.list j t = rw e i in
    let b = list_length n r.list in
    in_left (list_words n r.list) (trs_words (n + length r.list) rs) (5 * j + k) (5 * (0 + j) + k) (omega arith) (omega (arith, b, at_length r.list j i'))
    ∙ list_word n r.list j k i' l
    ∙ ap (λ (q : Row). get_or (words_of_tr t (link_of n j (length q.list))) k 0) e
    ∙ ap (λ (i : ℕ). get_or (words_of_tr t (link_of i j (length row.list))) k 0) (sym (add-zero n))
trs_word n (r ∷ rs) (suc s) j k {row} {t} h i l =
    let b = list_length n r.list in
    in_right (list_words n r.list) (trs_words (n + length r.list) rs) (5 * (before rs s + j) + k) (5 * (length r.list + before rs s + j) + k) (omega (arith, b))
    ∙ trs_word (n + length r.list) rs s j k h i l
    ∙ ap (λ (i : ℕ). get_or (words_of_tr t (link_of i j (length row.list))) k 0) (omega arith)
