-- Lists along links in which no label falls, and lists whose records are consecutive.
use Rattle.std.specs.Prelude.{Bool, ◌||◌, List, map, ℕ, ◌+◌, ◌*◌, eqb}
use Rattle.lists.specs.Lists.{every}
use Rattle.words.specs.Matches.{MatchType, label_on}
use Rattle.words.specs.Machines.{word_on, tr_words, next_of, list_from, machine_of, no_fall}
use Rattle.matchers.specs.Cursors.{records_from}
use Rattle.fst_reads.specs.Places.{record_base}

-- no label falls from record t on, and none is below `low`
unfoldable pub rising : MatchType → List ℕ → ℕ → ℕ → Bool
rising on m low t = no_fall low (map (label_on on (machine_of m)) (records_from m t))

-- the records are consecutive: from record t on every next is own + 1 or 0
unfoldable pub straight : List ℕ → ℕ → Bool
straight m t = every (λ u. eqb (next_of m u) 0 || eqb (next_of m u) (u + 1)) (list_from m t)

-- the place of record t's label on a side
unfoldable pub label_place : MatchType → List ℕ → ℕ → ℕ
label_place on m t = record_base m + tr_words * t + word_on on
