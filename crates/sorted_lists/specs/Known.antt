-- What is known of a list in which labels are looked up.
use Rattle.std.specs.Prelude.{◌≡◌, true, List, ℕ, ◌≤◌, length}
use Rattle.words.specs.Labels.{eps_label}
use Rattle.words.specs.Machines.{tr_count, list_from, well_formed}
use Rattle.fst.specs.Meaning.{on_of}
use Rattle.fst_reads.specs.Places.{record_base}
use Rattle.matchers.specs.Cursors.{with_label}
use Rattle.sorted_lists.specs.Runs.{rising, straight}
use Rattle.sorted_lists.specs.declared.SortedList.{SortedList}

-- what `l` says of the list from its first record on is true, and no label falls along it
pub record Known (m : List ℕ) (l : SortedList) : Type 0 where
  pub form : well_formed m ≡ true
  pub base : l.base ≡ record_base m
  pub first : l.first ≤ tr_count m
  pub len : l.len ≡ length (list_from m l.first)
  pub eps : l.eps ≡ length (with_label (on_of l.on) m eps_label l.first)
  pub sorted : rising (on_of l.on) m 0 l.first ≡ true
  pub straight : l.straight ≡ straight m l.first
