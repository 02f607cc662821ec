-- What the code's types stand for in the definitions of `words` and `calls`, and what the checks before a call give.
use Rattle.std.specs.Prelude.{List, ℕ, zero, suc, Option}
use Rattle.words.specs.Matches.{inputs, outputs}
use Rattle.words.specs.Sides.{Side, only, both}
use Rattle.words.specs.Steps.{Composition}
use Rattle.words.specs.Settings.{Settings as Six, Lent, composition_of}
use Rattle.calls.specs.Checks.{Session}
use Rattle.match_type.specs.Chosen.{side_means}
use Rattle.match_type.specs.declared.Side.{Side as CodeSide}
use Rattle.store_records.specs.declared.Used.{Used}
use Rattle.store_records.specs.Meaning.{used_means}
use Rattle.session_checks.specs.declared.Settings.{Settings}

-- "settings (kind, filter, sigma 1, mode 1, sigma 2, mode 2)"
abbrev pub settings_means : Settings → Six
settings_means s = record { kind = s.kind; filter = s.filter; sigma1 = s.sigma1.0; mode1 = s.mode1; sigma2 = s.sigma2.0; mode2 = s.mode2 }

-- the two machines, their allowed lists, and the ignored labels
abbrev pub lent_slices : List ℕ → List ℕ → Option (List ℕ) → Option (List ℕ) → List ℕ → Lent
lent_slices m1 m2 allowed1 allowed2 ignored = record { m1 = m1; m2 = m2; allowed1 = allowed1; allowed2 = allowed2; ignored = ignored }

-- a session of its parts
abbrev pub session_of : Six → ℕ → Used → Session
session_of s side used = record { settings = s; side = side; used = used_means used }

-- the composition that a call goes on with
abbrev pub composed_by : Settings → Lent → CodeSide → Composition
composed_by s l side = composition_of (settings_means s) l (side_means side)

-- the side with a number, the inverse of `side_number`: "session side differs from the rule" is refused before it is asked
abbrev pub side_numbered : ℕ → Side
side_numbered zero = only inputs
side_numbered (suc zero) = only outputs
side_numbered (suc (suc n)) = both
