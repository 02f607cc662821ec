-- 02, 2.6, as a C function has it: it "checks as the program does", with the settings and the answer as words in lent slices.
use Rattle.std.specs.Prelude.{◌&&◌, cond, List, [], ◌∷◌, ℕ, eqb, length}
use Rattle.words.specs.Labels.{Checked, good, refused}
use Rattle.words.specs.Settings.{Lent}
use Rattle.calls.specs.Listing.{settings_of}
use Rattle.fan_outs.specs.FanOut.{fan_out_of}
use Rattle.rinkolza.specs.Exported.{six}

-- What the call leaves: the number it returns, and the answer's words. It is lent nothing else that it may write.
pub record CountLeft : Type 0 where
  pub number : ℕ
  pub answer : List ℕ

abbrev pub count_left : ℕ → List ℕ → CountLeft
count_left n answer = record { number = n; answer = answer }

-- the count in an answer of one word; a refused call leaves it as it was
abbrev pub in_count : List ℕ → Checked ℕ → CountLeft
in_count old (good n) = count_left 0 (n ∷ [])
in_count old (refused k) = count_left k old

-- slices of another length: refused 1, as "a settings line not of six such words", and nothing is changed
unfoldable pub fan_out_words : List ℕ → Lent → (n q x : ℕ) → List ℕ → CountLeft
fan_out_words settings l n q x old = cond (six settings && eqb (length old) 1) (in_count old (fan_out_of (settings_of settings) l n q x)) (count_left 1 old)
