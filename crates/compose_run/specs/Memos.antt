-- What a run remembers: its two memos are asked at each state that it expands.
use Rattle.std.specs.Prelude.{not, ◌&&◌, cond, List, ℕ, zero, suc, eqb, ltb}
use Rattle.words.specs.Labels.{Checked, good, refused}
use Rattle.words.specs.Matches.{MatchType}
use Rattle.words.specs.Settings.{Lent}
use Rattle.calls.specs.Store.{Memory, Part, expanded_at}
use Rattle.calls.specs.Checks.{Session}
use Rattle.calls.specs.Calls.{Outcome, expand_of}
use Rattle.compose_expand.specs.Memos.{asked_at}

-- the memo of the machine that is matched on a side, after the expansion of state n: asked where the state is found and not expanded before
unfoldable pub memo_at : MatchType → Lent → Session → Memory → ℕ → List ℕ → List ℕ
memo_at on l s m n memo = cond (ltb n s.used.states && not (eqb (expanded_at m.states n) 1)) (asked_at on l s m n memo) memo

-- a piece goes on after an accepted expansion, and ends at a refused one, which was asked for too
abbrev pub memo_by : Outcome Part → Checked Part → List ℕ → (Session → Memory → List ℕ → List ℕ) → List ℕ
memo_by o (good p) memo go = go o.session o.memory memo
memo_by o (refused j) memo go = memo

-- the memo after a piece of a run, from state n on, at most k states
unfoldable pub memo_from : MatchType → Lent → ℕ → ℕ → Session → Memory → List ℕ → List ℕ
memo_from on l zero n s m memo = memo
memo_from on l (suc k) n s m memo = let o = expand_of l s m n in memo_by o o.answer (memo_at on l s m n memo) (memo_from on l k (suc n))
