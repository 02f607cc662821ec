-- The longest run of one label, as one pass counts it.
use Rattle.std.specs.Prelude.{cond, List, [], ◌∷◌, ℕ, ◌+◌, max, eqb}

-- what is left of the pass: the last label, how often it came in a row, the longest run so far
unfoldable pub longest : (ℕ → ℕ) → ℕ → ℕ → ℕ → List ℕ → ℕ
longest f last same run [] = run
longest f last same run (u ∷ us) = longest f (f u) (cond (eqb (f u) last) (same + 1) 1) (max run (cond (eqb (f u) last) (same + 1) 1)) us
