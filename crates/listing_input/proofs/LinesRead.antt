-- The lines that have ended in the first bytes of an input are the input's.
use mathlib.Core.Path.{◌≡◌, refl, sym, ap, ◌∙◌, subst}
use mathlib.Core.Bool.{Bool, true, false, cond}
use mathlib.Core.List.{List, [], ◌∷◌, ◌++◌}
use mathlib.Core.Logic.{◌⊎◌, inl, inr}
use Prim.Native.Nat.{ℕ, zero, suc, ◌+◌, ◌<◌}
use native.Mathlib.Omega.{arith}
use lib.Dec.{eqb, ltb}
use Rattle.listing_text.specs.Reading.{line_feed, line_at, step}
use Rattle.listing_text.specs.Chunks.{Input, unread, into_line, next_line, read_byte, read_bytes}
use Rattle.listing_text.proofs.FirstLines.{SameLines}
use Rattle.listing_input.specs.Read.{IsReadOf}

-- a byte within a line ends none
at_into : (i : Input) (b : ℕ) → (into_line i b).at ≡ i.at
at_into i b = go (eqb i.at 0) (eqb i.at 1) (eqb i.at 2)
  where
    go : (x y z : Bool) → (
        cond {A = Input} x (record { at = i.at; settings = step i.settings b; first = i.first; second = i.second; query = i.query })
        (cond y (record { at = i.at; settings = i.settings; first = step i.first b; second = i.second; query = i.query })
        (cond z (record { at = i.at; settings = i.settings; first = i.first; second = step i.second b; query = i.query })
        (record { at = i.at; settings = i.settings; first = i.first; second = i.second; query = step i.query b })))).at ≡ i.at
    go true y z = refl
    go false true z = refl
    go false false true = refl
    go false false false = refl

-- a byte of a line that is read, by its tests
read_by : (i : Input) (b : ℕ) (y : Bool) → ltb i.at 4 ≡ true → eqb b line_feed ≡ y → read_byte i b ≡ cond y (next_line i) (into_line i b)
unfolding read_byte
read_by i b y e f = λ k. cond (e k) (cond (f k) (next_line i) (into_line i b)) i

-- after four lines none is read
stays : (i : Input) (bs : List ℕ) → ltb i.at 4 ≡ false → (read_bytes i bs).at ≡ i.at
unfolding read_byte read_bytes
stays i [] h = refl
stays i (b ∷ bs) h =
    let e : read_byte i b ≡ i = ap (λ (x : Bool). cond x (cond (eqb b line_feed) (next_line i) (into_line i b)) i) h in
    ap (λ (j : Input). (read_bytes j bs).at) e ∙ stays i bs h

line_by : ℕ → Bool → ℕ → List ℕ → List ℕ
line_by b y zero xs = cond y [] (b ∷ line_at zero xs)
line_by b y (suc m) xs = cond y (line_at m xs) (line_at (suc m) xs)

-- the line by whether the first byte is a line feed
by : (b : ℕ) {y : Bool} (n : ℕ) (xs : List ℕ) → eqb b line_feed ≡ y → line_at n (b ∷ xs) ≡ line_by b y n xs
unfolding line_at line_by
by b zero xs f = λ k. cond (f k) [] (b ∷ line_at zero xs)
by b (suc m) xs f = λ k. cond (f k) (line_at m xs) (line_at (suc m) xs)

-- one byte more before the bytes of which it holds
one_before : (i : Input) (b : ℕ) (bs rest : List ℕ) → ((j : Input) (n : ℕ) → j.at + n < (read_bytes j bs).at → line_at n (bs ++ rest) ≡ line_at n bs) → (x y : Bool) (n : ℕ) → ltb i.at 4 ≡ x → eqb b line_feed ≡ y
    → i.at + n < (read_bytes i (b ∷ bs)).at → line_at n (b ∷ (bs ++ rest)) ≡ line_at n (b ∷ bs)
unfolding read_bytes line_by
one_before i b bs rest on false y n e f h = absurd (omega (arith, h, stays i (b ∷ bs) e))
one_before i b bs rest on true true zero e f h = by b zero (bs ++ rest) f ∙ sym (by b zero bs f)
one_before i b bs rest on true true (suc m) e f h =
    let r : i.at + suc m < (read_bytes (next_line i) bs).at = subst (λ (j : Input). i.at + suc m < (read_bytes j bs).at) (read_by i b true e f) h in
    by b (suc m) (bs ++ rest) f ∙ on (next_line i) m (omega (arith, r)) ∙ sym (by b (suc m) bs f)
one_before i b bs rest on true false zero e f h =
    let r : i.at + 0 < (read_bytes (into_line i b) bs).at = subst (λ (j : Input). i.at + 0 < (read_bytes j bs).at) (read_by i b false e f) h in
    by b zero (bs ++ rest) f ∙ ap (λ (l : List ℕ). b ∷ l) (on (into_line i b) zero (omega (arith, r, at_into i b))) ∙ sym (by b zero bs f)
one_before i b bs rest on true false (suc m) e f h =
    let r : i.at + suc m < (read_bytes (into_line i b) bs).at = subst (λ (j : Input). i.at + suc m < (read_bytes j bs).at) (read_by i b false e f) h in
    by b (suc m) (bs ++ rest) f ∙ on (into_line i b) (suc m) (omega (arith, r, at_into i b)) ∙ sym (by b (suc m) bs f)

same_line : (bs rest : List ℕ) (i : Input) (n : ℕ) → i.at + n < (read_bytes i bs).at → line_at n (bs ++ rest) ≡ line_at n bs
unfolding read_bytes
same_line [] rest i n h = absurd (omega arith)
same_line (b ∷ bs) rest i n h = one_before i b bs rest (same_line bs rest) (ltb i.at 4) (eqb b line_feed) n refl refl h

-- as many lines as were asked for are the input's, if no read failed
pub lines_read : (lines : ℕ) (input bytes : List ℕ) → IsReadOf lines input bytes
    → SameLines lines bytes input ⊎ ((front : List ℕ) × (rest : List ℕ) × (input ≡ front ++ rest) × (bytes ≡ front ++ (33 ∷ [])))
lines_read lines input bytes (inl e) = inl (λ n h. ap (line_at n) e)
lines_read lines input bytes (inr (inl e)) = inl (λ n h. sym (same_line bytes e.0 unread n (omega (arith, e.2))) ∙ ap (line_at n) (sym e.1))
lines_read lines input bytes (inr (inr e)) = inr e
