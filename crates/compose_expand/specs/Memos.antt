-- What an expansion remembers: a memo for each machine, of its lists by their inner labels ("Machine 1 is matched on outputs, 2 on inputs.").
use Rattle.std.specs.Prelude.{Bool, ◌&&◌, cond, List, ℕ, eqb, length}
use Rattle.words.specs.Weights.{kind_of}
use Rattle.words.specs.Matches.{MatchType}
use Rattle.words.specs.Settings.{Settings, Lent}
use Rattle.calls.specs.Store.{Memory, triple_at}
use Rattle.calls.specs.Checks.{Session}
use Rattle.list_facts.specs.Facts.{facts_of}
use Rattle.list_facts.specs.Memo.{Remembers, asked_for}
use Rattle.compose_moves.specs.Walks.{looked_state, looked_words}
use Rattle.compose_plan.specs.Serves.{no_sigma}

-- what is remembered of the machine that is matched on a side is so, under the kind of a session
abbrev pub Remembered : MatchType → Lent → Session → List ℕ → Type 0
Remembered on l s memo = Remembers on (kind_of s.settings.kind) (looked_words on l.m1 l.m2) memo

-- labels are taken as they stand: none is ignored, and none is sigma
unfoldable pub plain_labels : Settings → List ℕ → Bool
plain_labels s ignored = eqb (length ignored) 0 && no_sigma s

-- the memo of that machine after it was asked for the list of its state in composed state n; where a label is ignored or a sigma label is set, it is not asked
unfoldable pub asked_at : MatchType → Lent → Session → Memory → ℕ → List ℕ → List ℕ
asked_at on l s m n memo =
    let q = looked_state on (triple_at m.states n) in
    cond (plain_labels s.settings l.ignored) (asked_for memo q (facts_of on (kind_of s.settings.kind) (looked_words on l.m1 l.m2) q)) memo
