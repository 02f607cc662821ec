-- The links that a search follows in a store. A link that breaks the form, which no call past check 8 meets, is read as 0: so every list ends, whatever the words are.
use Rattle.std.specs.Prelude.{◌&&◌, not, cond, List, [], ◌∷◌, ℕ, zero, suc, ◌+◌, ◌-◌, ◌*◌, eqb, ltb, leb}
use Rattle.calls.specs.Store.{Store, first_at, tr_next_at, target_at}
use Rattle.searches.specs.UsefulSearch.{Links}

-- the first record of a state's list
unfoldable pub first_in : Store → ℕ → ℕ
first_in d n = cond (leb (first_at d.memory.states n) d.used.trs) (first_at d.memory.states n) 0

-- the record after record r in its list: "transition chains consecutive, the last used ending in 0"
unfoldable pub next_in : Store → ℕ → ℕ
next_in d r = cond (ltb r d.used.trs && not (eqb (tr_next_at d.memory.trs (r - 1)) 0)) (r + 1) 0

-- the records from record r on along links, at most k of them
unfoldable pub along : (ℕ → ℕ) → ℕ → ℕ → List ℕ
along next zero r = []
along next (suc k) zero = []
along next (suc k) (suc r) = suc r ∷ along next k (next (suc r))

-- the records of a list from record r on; numbers rise along it
unfoldable pub list_from : Store → ℕ → List ℕ
list_from d r = along (next_in d) (suc d.used.trs) r

abbrev pub links_of : Store → Links
links_of d = record { first = first_in d; next = next_in d; target = λ r. target_at d.memory.trs (r - 1) }

-- enough turns for every search: each state is entered and left once, and its list is walked once
abbrev pub turns_for : Store → ℕ
turns_for d = suc d.used.states * (d.used.trs + 2)
