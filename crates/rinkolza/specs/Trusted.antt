-- The calls of a caller that owns its memory, as C functions have them. Expand, final weight and handing back without their checks are those of Exported; a run in pieces, all final weights and the memos are beside them.
use Rattle.std.specs.Prelude.{◌≡◌, true, ◌&&◌, cond, List, [], ◌∷◌, ℕ, ◌-◌, ◌*◌, eqb, length}
use Rattle.words.specs.Matches.{MatchType, inputs, outputs}
use Rattle.words.specs.Settings.{Lent}
use Rattle.calls.specs.Store.{Memory}
use Rattle.calls.specs.Calls.{Outcome, run_from}
use Rattle.calls.specs.Sequences.{accepted, said_of}
use Rattle.calls.specs.Owned.{stop_from, final_weights_of}
use Rattle.compose_expand.specs.Memos.{Remembered}
use Rattle.compose_run.specs.Memos.{memo_at, memo_from}
use Rattle.final_weights.specs.Weights.{weights_words}
use Rattle.rinkolza.specs.Exported.{session_words, session_at, nine, two, Left, leaves, number_of, if_sized}

-- What a piece of a run leaves: number, session and memory as of a run; in the answer's words, at a refusal too, the state with which the next piece goes on, and how many found states
-- there are from it on.
abbrev pub piece_left : ℕ → Outcome (Unit {0}) → Left
piece_left next o = leaves (number_of (said_of (λ u. accepted) o.answer)) (session_words o.session) (next ∷ (o.session.used.states - next) ∷ []) o.memory

-- from state n on, at most k states
unfoldable pub piece_words : Lent → List ℕ → List ℕ → Memory → ℕ → ℕ → Left
piece_words l session old m n k =
    let s = session_at session in
    if_sized (nine session && two old) session old m (piece_left (stop_from l k n s m) (run_from l k n s m))

-- What those that expand ask of the two memos, and keep: what is remembered of the machines' lists is so.
abbrev pub Memos : Lent → List ℕ → List ℕ → List ℕ → Type 0
Memos l session memo1 memo2 = nine session ≡ true → Remembered outputs l (session_at session) memo1 × Remembered inputs l (session_at session) memo2

-- the memo of the machine that is matched on a side, after an expansion and after a piece of a run: as it was where a length is refused
unfoldable pub expand_memo : MatchType → Lent → List ℕ → List ℕ → Memory → ℕ → List ℕ → List ℕ
expand_memo on l session old m n memo = cond (nine session && two old) (memo_at on l (session_at session) m n memo) memo

unfoldable pub piece_memo : MatchType → Lent → List ℕ → List ℕ → Memory → ℕ → ℕ → List ℕ → List ℕ
piece_memo on l session old m n k memo = cond (nine session && two old) (memo_from on l k n (session_at session) m memo) memo

-- The final weights of all found states: two words for each, as the answer of a final weight; another length is refused 1. Refused, 12 at the first that is too large, nothing is
-- written. The session stays.
unfoldable pub final_weights_words : Lent → List ℕ → List ℕ → Memory → Left
final_weights_words l session old m =
    let s = session_at session in
    let ws = final_weights_of l s m in
    if_sized (nine session && eqb (length old) (2 * s.used.states)) session old m (leaves (number_of (said_of (λ w. accepted) ws)) session (weights_words old ws) m)
