-- 01's records of states and limit as they were before 02's request 2.9, and nothing else of it: the definitions of the calls take the layout.
use Rattle.std.specs.Prelude.{List, [], ◌∷◌, ℕ, ◌+◌, ◌*◌, ◌/◌, ◌%◌}
use Rattle.calls.specs.Store.{field_of, Layout}

-- the words of a state record, and word k of that of state n
abbrev pub old_size : ℕ
old_size = 5

abbrev pub old_field : List ℕ → ℕ → ℕ → ℕ
old_field = field_of old_size

-- "A state record is s1 × 65536 + s2, f, expanded (0 or 1), first transition, next"; S and T, and the records of each sort, are "at most 65535"
abbrev pub five : Layout
five = record {
  limit = 65535;
  state_size = old_size;
  triple_words = λ t. (t.s1 * 65536 + t.s2) ∷ t.f ∷ [];
  triple_at = λ states n. record { s1 = old_field states n 0 / 65536; s2 = old_field states n 0 % 65536; f = old_field states n 1 };
  expanded_place = 2;
}
