-- What the code's types stand for in the definitions of `calls`, and a store made of its parts.
use Rattle.std.specs.Prelude.{List, ℕ}
use Rattle.words.specs.Steps.{Triple, Step}
use Rattle.calls.specs.Store.{Memory, Used as Counts, Store}
use Rattle.fst.specs.declared.tr.Tr.{Tr}
use Rattle.store_records.specs.declared.Used.{Used}

-- A composed transition that leads to a triple. Its record holds the number of that state, and not the triple.
abbrev pub step_means : Tr → Triple → Step
step_means r to = record { input = r.ilabel.0; output = r.olabel.0; weight = r.weight; to = to }

-- the store with these three slices and used counts: heads, states, transitions, used states, used transitions
abbrev pub stored : List ℕ → List ℕ → List ℕ → ℕ → ℕ → Store
stored heads states trs n k = record { memory = record { heads = heads; states = states; trs = trs }; used = record { states = n; trs = k } }

-- the same with the used counts as the code holds them
abbrev pub store_in : (heads states trs : List ℕ) → Used → Store
store_in heads states trs u = stored heads states trs u.states u.trs

-- the "used counts"
abbrev pub used_means : Used → Counts
used_means u = record { states = u.states; trs = u.trs }

-- "Memory is three slices: heads, states, transitions."
abbrev pub memory_of : List ℕ → List ℕ → List ℕ → Memory
memory_of heads states trs = record { heads = heads; states = states; trs = trs }
