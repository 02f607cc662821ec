-- The paths of the trimmed machine and the old ones, as maps both ways. Paths are lists of record numbers.
use Rattle.std.specs.Prelude.{cond, List, [], ◌∷◌, ℕ, suc, ◌+◌, ◌-◌, eqb, Option, None, Some, slice_get}
use Rattle.papers.specs.Machine.{Machine}
use Rattle.machine_words.specs.MachineWords.{before}
use Rattle.trims.specs.Trims.{number, kept_records, rows_of}

-- the first place of x in l, counted from 0
unfoldable pub place_in : ℕ → List ℕ → ℕ
place_in x [] = 0
place_in x (y ∷ ys) = cond (eqb x y) 0 (suc (place_in x ys))

-- the record at hand and what comes after it; without one nothing
abbrev pub then_records : Option ℕ → (ℕ → List ℕ) → List ℕ
then_records None go = []
then_records (Some r) go = r ∷ go r

-- the start, or 0 where there is none
abbrev pub start_or : Option ℕ → ℕ
start_or None = 0
start_or (Some a) = a

module _ (M : Machine) where
  -- how many new records stand before those of the old state n
  abbrev pub records_before : ℕ → ℕ
  records_before n = before (rows_of M) (number M n)

  -- an old path from the old state n as a new one: each record by its place among the kept ones of its state
  unfoldable pub to_new : ℕ → List ℕ → List ℕ
  to_new n [] = []
  to_new n (r ∷ rs) = (records_before n + place_in r (kept_records M n) + 1) ∷ to_new (M.target r) rs

  -- a new path from the new number of the old state n as an old one: each record is the kept one at its place
  unfoldable pub to_old : ℕ → List ℕ → List ℕ
  to_old n [] = []
  to_old n (q ∷ qs) = then_records (slice_get (kept_records M n) (q - 1 - records_before n)) (λ r. to_old (M.target r) qs)

  -- from the start on
  abbrev pub new_path : List ℕ → List ℕ
  new_path p = to_new (start_or M.start) p

  abbrev pub old_path : List ℕ → List ℕ
  old_path q = to_old (start_or M.start) q
