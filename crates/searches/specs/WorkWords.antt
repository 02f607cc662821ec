-- 02, 2.2: "a work slice, two 64-bit words for each found state". A work word as three fields, of 24, 24 and 16 bits.
use Rattle.std.specs.Prelude.{cond, List, ℕ, suc, ◌+◌, ◌*◌, ◌/◌, ◌%◌, ltb, get_or, set}

-- the word of three values, the first in the lowest bits
unfoldable pub pack3 : ℕ → ℕ → ℕ → ℕ
pack3 lo mid hi = lo + 16777216 * (mid + 16777216 * hi)

-- its three fields
unfoldable pub low : ℕ → ℕ
low w = w % 16777216

unfoldable pub middle : ℕ → ℕ
middle w = w / 16777216 % 16777216

unfoldable pub high : ℕ → ℕ
high w = w / 16777216 / 16777216

-- word i with one field changed. A value is cut to its field, so that the code needs no bound; the search never cuts. The third has what is left of 64 bits, and its values are statuses.
unfoldable pub with_low : List ℕ → ℕ → ℕ → List ℕ
with_low ws i v = set ws i (pack3 (v % 16777216) (middle (get_or ws i 0)) (high (get_or ws i 0)))

unfoldable pub with_middle : List ℕ → ℕ → ℕ → List ℕ
with_middle ws i v = set ws i (pack3 (low (get_or ws i 0)) (v % 16777216) (high (get_or ws i 0)))

unfoldable pub with_high : List ℕ → ℕ → ℕ → List ℕ
with_high ws i v = set ws i (pack3 (low (get_or ws i 0)) (middle (get_or ws i 0)) v)

-- a counter that stops at the field's width, so that the code needs no bound; the search never stops it
unfoldable pub up : ℕ → ℕ
up x = cond (ltb x 16777216) (suc x) x
