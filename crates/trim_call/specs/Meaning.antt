-- What the answer of trimming stands for in the definitions of `trims`.
use Rattle.std.specs.Prelude.{List, ℕ, Ok, Err}
use Rattle.words.specs.Labels.{good, refused}
use Rattle.trims.specs.Trims.{Trim}
use Rattle.fst.specs.Refusals.{number_of}
use Rattle.lazy_fst.specs.Meaning.{Answered}
use Rattle.lazy_fst.specs.declared.Session.{Session}

-- what the call leaves: its answer, the output slice and the work slice
abbrev pub trim_left : Answered (ℕ × Session) → (out work : List ℕ) → Trim
trim_left (Ok (n, s)) out work = record { answer = good n; out = out; work = work }
trim_left (Err (refusal, s)) out work = record { answer = refused (number_of refusal); out = out; work = work }

-- the session that it hands back
abbrev pub handed_back : Answered (ℕ × Session) → Session
handed_back (Ok (n, s)) = s
handed_back (Err (refusal, s)) = s
