-- Lines put one after the other: what is left to put, after one more, is the rest.
use mathlib.Core.Path.{◌≡◌, refl, sym, ap, ◌∙◌}
use mathlib.Core.List.{List, [], ◌∷◌, ◌++◌, map, flat_map, append_assoc, append-nil}
use Prim.Native.Nat.{ℕ, ◌+◌, ◌-◌, ◌/◌, ◌≤◌, ◌<◌}
use native.Mathlib.Nat.{add-zero, sub-zero}
use native.Mathlib.Omega.{arith}
use lib.ListN.{length, length-append}
use Rattle.lists.specs.Lists.{interval}
use Rattle.lists.proofs.Put.{put_none}
use Rattle.words.specs.Matches.{Tr}
use Rattle.words.specs.Settings.{Lent}
use Rattle.calls.specs.Store.{Memory, tr_size, tr_at}
use Rattle.calls.specs.Checks.{Session}
use Rattle.calls.specs.Listing.{Line, line_of, tr_lines}
use Rattle.listing_text.specs.Printing.{line_bytes, bytes_of}
use Rattle.listing_write.specs.Written.{Written}
use Rattle.listing_write.proofs.WrittenLaws.{then, same_text}
use Rattle.final_weights.proofs.WeightLaws.{interval_on}
use Rattle.listing.specs.Stages.{lines_at, lines_from}

-- the bytes of lines one after the other
pub bytes_append : (xs ys : List Line) → bytes_of (xs ++ ys) ≡ bytes_of xs ++ bytes_of ys
unfolding flat_map
bytes_append [] ys = refl
bytes_append (x ∷ xs) ys = ap (λ (t : List ℕ). line_bytes x ++ t) (bytes_append xs ys) ∙ sym (append_assoc (line_bytes x) (bytes_of xs) (bytes_of ys))

pub bytes_one : (x : Line) → bytes_of (x ∷ []) ≡ line_bytes x
unfolding flat_map
bytes_one x = append-nil (line_bytes x)

-- nothing put
pub none_put : (out : List ℕ) (to : ℕ) → Written out to [] out to
none_put out to = record { stored = sym (put_none out to); after = sym (add-zero to) }

-- The rest put from here is the whole put from the start: what a loop that puts lines keeps.
abbrev pub Rest : (out₀ : List ℕ) (to₀ : ℕ) (whole : List Line) (out : List ℕ) (to : ℕ) (rest : List Line) → Type 0
Rest out₀ to₀ whole out to rest = (o : List ℕ) (r : ℕ) → Written out to (bytes_of rest) o r → Written out₀ to₀ (bytes_of whole) o r

-- some more were put
pub rest_on : {out₀ out out' : List ℕ} {to₀ to to' : ℕ} (whole rest more others : List Line) → Rest out₀ to₀ whole out to rest → rest ≡ more ++ others → Written out to (bytes_of more) out' to' → Rest out₀ to₀ whole out' to' others
rest_on whole rest more others h e w = λ o r v. h o r (same_text (sym (ap bytes_of e ∙ bytes_append more others)) (then w v))

-- all were put
pub rest_done : {out₀ out : List ℕ} {to₀ to : ℕ} (whole rest : List Line) → Rest out₀ to₀ whole out to rest → rest ≡ [] → Written out₀ to₀ (bytes_of whole) out to
unfolding flat_map
rest_done {out = out} {to = to} whole rest h e = h out to (same_text (sym (ap bytes_of e)) (none_put out to))

-- the lines of the records from i on, of k in all
abbrev pub tr_line_at : List ℕ → ℕ → Line
tr_line_at words i = line_of (tr_at words i)

unfoldable pub tr_lines_from : List ℕ → ℕ → ℕ → List Line
tr_lines_from words i k = map (tr_line_at words) (interval i (k - i))

pub trs_turn : (words : List ℕ) (i k : ℕ) → i < k → tr_lines_from words i k ≡ (tr_line_at words i ∷ []) ++ tr_lines_from words (i + 1) k
unfolding tr_lines_from
trs_turn words i k h = ap (map (tr_line_at words)) (interval_on i k h)

pub trs_done : (words : List ℕ) (i k : ℕ) → k ≤ i → tr_lines_from words i k ≡ []
unfolding tr_lines_from interval
trs_done words i k h = let z : k - i ≡ 0 = omega arith in ap (λ (j : ℕ). map (tr_line_at words) (interval i j)) z

pub trs_all : (words : List ℕ) → tr_lines_from words 0 (length words / tr_size) ≡ tr_lines words
unfolding tr_lines_from tr_lines
trs_all words = ap (λ (j : ℕ). map (tr_line_at words) (interval 0 j)) (sub-zero (length words / tr_size))

-- the line of a record that was read
pub tr_line_bytes : (words : List ℕ) (i : ℕ) (t : Tr) → t ≡ tr_at words i → line_bytes (line_of t) ≡ bytes_of (tr_line_at words i ∷ [])
tr_line_bytes words i t e = ap (λ (u : Tr). line_bytes (line_of u)) e ∙ sym (bytes_one (tr_line_at words i))

module _ (l : Lent) (s : Session) (m : Memory) where
  pub states_turn : (n k : ℕ) → n < k → lines_from l s m n (k - n) ≡ lines_at l s m n ++ lines_from l s m (n + 1) (k - (n + 1))
  unfolding lines_from flat_map
  states_turn n k h = ap (flat_map (lines_at l s m)) (interval_on n k h)

  -- nothing is put yet
  pub states_start : (k : ℕ) → lines_from l s m 0 (k - 0) ≡ lines_from l s m 0 k
  states_start k = ap (lines_from l s m 0) (sub-zero k)

  pub states_done : (n k : ℕ) → k ≤ n → lines_from l s m n (k - n) ≡ []
  unfolding lines_from flat_map interval
  states_done n k h = let z : k - n ≡ 0 = omega arith in ap (λ (j : ℕ). flat_map (lines_at l s m) (interval n j)) z

  pub states_length : (n k : ℕ) → n < k → length (lines_from l s m n (k - n)) ≡ length (lines_at l s m n) + length (lines_from l s m (n + 1) (k - (n + 1)))
  states_length n k h = ap length (states_turn n k h) ∙ length-append (lines_at l s m n) (lines_from l s m (n + 1) (k - (n + 1)))
