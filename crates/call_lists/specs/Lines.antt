-- The lines of a list of calls in the words that were read: a count, a code, and the code's words. Places are kept in 32 bits.
use Rattle.std.specs.Prelude.{cond, List, ℕ, zero, suc, ◌+◌, ◌-◌, ◌%◌, ltb, get_or}
use Rattle.call_lists.specs.declared.lines.Span.{Span}

-- word k of the line at a place, 0 its code; a word past the end is 0
abbrev pub arg_of : List ℕ → ℕ → ℕ → ℕ
arg_of words at k = get_or words (at + 1 + k) 0

-- the words of the line from the k-th on
abbrev pub args_of : List ℕ → ℕ → ℕ → Span
args_of words at k = cond (ltb (get_or words at 0) k) (record { at = 0; count = 0 }) (record { at = (at + 1 + k) % 4294967296; count = get_or words at 0 - k })

-- the place of the next line
abbrev pub next_line : List ℕ → ℕ → ℕ
next_line words at = (at + 1 + get_or words at 0) % 4294967296

-- where the list ends: before the first line of code 0 or 1, or after n lines
unfoldable pub list_end : List ℕ → ℕ → ℕ → ℕ
list_end words zero at = at
list_end words (suc n) at = cond (ltb (arg_of words at 0) 2) at (list_end words n (next_line words at))
