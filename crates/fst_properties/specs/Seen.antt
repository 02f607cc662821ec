-- Which records were walked, in 65536 bits: of up to 65535 records each has one, of more every second, every third and so on.
-- Bit i is bit i % 32 of word i / 32.
use Rattle.std.specs.Prelude.{Bool, ◌&&◌, cond, List, ℕ, ◌+◌, ◌/◌, ◌%◌, ◌^◌, eqb, ltb, get_or, set}
use Rattle.std.specs.Int.Bits.{bit_or}

-- how many bits there are
abbrev pub seen_bits : ℕ
seen_bits = 65536

-- how far apart the records stand that have a bit, of n records
unfoldable pub step_of : ℕ → ℕ
step_of n = n / seen_bits + 1

-- the number of record t's bit, of n records; 65536, which no bit has, for a record between
unfoldable pub bit_of : ℕ → ℕ → ℕ
bit_of n t = cond (eqb (t % step_of n) 0) (t / step_of n) seen_bits

-- bit i is set
unfoldable pub bit_in : List ℕ → ℕ → Bool
bit_in seen i = ltb i seen_bits && eqb (get_or seen (i / 32) 0 / 2 ^ (i % 32) % 2) 1

-- with bit i
unfoldable pub bit_with : List ℕ → ℕ → List ℕ
bit_with seen i = cond (ltb i seen_bits) (set seen (i / 32) (bit_or (get_or seen (i / 32) 0) (2 ^ (i % 32)))) seen

-- record t was walked, of n records
unfoldable pub seen_in : ℕ → List ℕ → ℕ → Bool
seen_in n seen t = bit_in seen (bit_of n t)

-- with record t
unfoldable pub seen_with : ℕ → List ℕ → ℕ → List ℕ
seen_with n seen t = bit_with seen (bit_of n t)
