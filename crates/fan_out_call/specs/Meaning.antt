-- What the private functions of the call ask.
use Rattle.std.specs.Prelude.{◌≡◌, List, ℕ, ◌≤◌}
use Rattle.words.specs.Labels.{MAX, Checked, good}
use Rattle.words.specs.Machines.{limit, tr_count}

-- a number, if there is one, is a word
abbrev pub Word : Checked ℕ → Type 0
Word x = (n : ℕ) → x ≡ good n → n ≤ MAX

-- neither machine has more transitions than the limit
abbrev pub Limited : List ℕ → List ℕ → Type 0
Limited m1 m2 = (tr_count m1 ≤ limit) × (tr_count m2 ≤ limit)
