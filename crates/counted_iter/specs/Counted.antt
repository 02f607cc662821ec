-- What the answer of a look-up that counts stands for.
use Rattle.std.specs.Prelude.{List, ℕ, Option, None, Some, option_map, Result}
use Rattle.fst.specs.declared.refusals.Refusal.{Refusal}
use Rattle.matchers.specs.Meaning.{match_means}
use Rattle.matchers.specs.Cursors.{Asked, items_left}
use Rattle.matchers.specs.declared.IterItemMatcher.{IterItemMatcher}
use Rattle.matchers.specs.declared.Cursor.{Cursor}

-- what the code states: the number with the first match, none where there is none; and the cursor to ask on with
abbrev pub Counted : Type 0
Counted = Option (ℕ × IterItemMatcher) × Cursor

-- or the refusal
abbrev pub CountedIter : Type 0
CountedIter = Result Counted Refusal

-- 02, 2.6: what it states "with its first match, or as 0 where there is none"
abbrev pub count_of : Counted → ℕ
count_of (Some first, cursor) = first.0
count_of (None, cursor) = 0

-- the first match (none: there is none), and what is left to give
abbrev pub first_asked : List ℕ → Counted → Asked
first_asked m counted = record { given = option_map (λ first. match_means first.1) counted.0; left = items_left m counted.1 }
