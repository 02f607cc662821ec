-- 01, "A machine in words", the other way: the words of a machine that is given by its rows, with lists one after another.
use Rattle.std.specs.Prelude.{cond, List, [], ◌∷◌, ◌++◌, ℕ, zero, suc, ◌+◌, length, Option, None, Some}
use Rattle.words.specs.Matches.{Tr}
use Rattle.words.specs.Sides.{non_empty}

-- a state: its final weight, if it is final, and its transitions in their order
pub record Row : Type 0 where
  pub final : Option ℕ
  pub list : List Tr

-- "input, output, weight, target state, next"
abbrev pub words_of_tr : Tr → ℕ → List ℕ
words_of_tr t next = t.input ∷ t.output ∷ t.weight ∷ t.target ∷ next ∷ []

-- a list behind n other records: "Transitions count from 1", each names the one after it, "0 ends the list"
unfoldable pub list_words : ℕ → List Tr → List ℕ
list_words n [] = []
list_words n (t ∷ ts) = words_of_tr t (cond (non_empty ts) (n + 2) 0) ++ list_words (suc n) ts

-- the lists of all states, one after another
unfoldable pub trs_words : ℕ → List Row → List ℕ
trs_words n [] = []
trs_words n (r ∷ rs) = list_words n r.list ++ trs_words (n + length r.list) rs

-- "final 0 or 1, final weight (0 if not final)"
abbrev pub final_words : Option ℕ → List ℕ
final_words None = 0 ∷ 0 ∷ []
final_words (Some w) = 1 ∷ w ∷ []

-- "first transition (0: none), final 0 or 1, final weight": the record of a state whose list begins behind n other records
abbrev pub row_words : ℕ → Row → List ℕ
row_words n r = cond (non_empty r.list) (suc n) 0 ∷ final_words r.final

-- the records of all states
unfoldable pub states_words : ℕ → List Row → List ℕ
states_words n [] = []
states_words n (r ∷ rs) = row_words n r ++ states_words (n + length r.list) rs

-- how many transitions there are
unfoldable pub trs_in : List Row → ℕ
trs_in [] = 0
trs_in (r ∷ rs) = length r.list + trs_in rs

-- how many of them the states before s have: the list of state s begins behind as many records
unfoldable pub before : List Row → ℕ → ℕ
before [] s = 0
before (r ∷ rs) zero = 0
before (r ∷ rs) (suc s) = length r.list + before rs s

-- "state count S, transition count T, start plus one (0: no start), input mark, output mark, acceptor mark"; "All marks are 0." (02, 2.2)
unfoldable pub machine_words : ℕ → List Row → List ℕ
machine_words start rows = length rows ∷ trs_in rows ∷ start ∷ 0 ∷ 0 ∷ 0 ∷ (states_words 0 rows ++ trs_words 0 rows)
