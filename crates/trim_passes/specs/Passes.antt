-- The passes after the search: what the work words say of each state, its kept records, and the rows of the trimmed machine read off them.
use Rattle.std.specs.Prelude.{Bool, not, cond, List, [], ◌∷◌, map, ℕ, zero, suc, ◌-◌, ◌*◌, eqb, length, get_or, set}
use Rattle.lists.specs.Lists.{keep_if, interval}
use Rattle.words.specs.Matches.{Tr}
use Rattle.words.specs.Steps.{Composition, final_at}
use Rattle.calls.specs.Store.{Store, triple_at, input_at, output_at, weight_at, target_at}
use Rattle.graphs.specs.StoreMachine.{given_weight}
use Rattle.searches.specs.WorkWords.{low}
use Rattle.searches.specs.UsefulSearch.{status_in}
use Rattle.searches.specs.StoreLinks.{first_in, next_in, list_from}
use Rattle.machine_words.specs.MachineWords.{Row}

-- what the search left: 2 where a state is useful
abbrev pub is_alive : List ℕ → ℕ → Bool
is_alive work n = eqb (status_in work n) 2

-- the new number plus one of a state that is alive, else 0
unfoldable pub new_number : List ℕ → ℕ → ℕ
new_number work n = cond (is_alive work n) (suc (length (keep_if (is_alive work) (interval 0 n)))) 0

-- the work words once the states below k are numbered: word 2 n is the new number plus one of state n, or 0; all other words stay
unfoldable pub numbered_up_to : List ℕ → ℕ → List ℕ
numbered_up_to work zero = work
numbered_up_to work (suc k) = set (numbered_up_to work k) (2 * k) (new_number work k)

-- the number as it is read there
unfoldable pub number_in : List ℕ → ℕ → ℕ
number_in work n = low (get_or work (2 * n) 0)

abbrev pub is_kept : List ℕ → ℕ → Bool
is_kept work n = not (eqb (number_in work n) 0)

-- the records from r on that lead to kept states
unfoldable pub kept_from : Store → List ℕ → ℕ → List ℕ
kept_from d work r = keep_if (λ q. is_kept work (target_at d.memory.trs (q - 1))) (list_from d r)

-- the kept record r and those after it; 0: none
unfoldable pub kept_at : Store → List ℕ → ℕ → List ℕ
kept_at d work r = cond (eqb r 0) [] (r ∷ kept_from d work (next_in d r))

-- a kept record as a transition of the trimmed machine
unfoldable pub new_tr : Store → List ℕ → ℕ → Tr
new_tr d work q = record {
  input = input_at d.memory.trs (q - 1);
  output = output_at d.memory.trs (q - 1);
  weight = weight_at d.memory.trs (q - 1);
  target = number_in work (target_at d.memory.trs (q - 1)) - 1;
}

abbrev pub new_list : Store → List ℕ → ℕ → List Tr
new_list d work r = map (new_tr d work) (kept_from d work r)

abbrev pub row_in : Composition → Store → List ℕ → ℕ → Row
row_in c d work n = record { final = given_weight (final_at c (triple_at d.memory.states n)); list = new_list d work (first_in d n) }

-- the rows of the kept states from state n on
unfoldable pub rows_from : Composition → Store → List ℕ → ℕ → List Row
rows_from c d work n = map (row_in c d work) (keep_if (is_kept work) (interval n (d.used.states - n)))
