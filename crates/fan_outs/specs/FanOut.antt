-- 02, 2.6, "Fan-out of a lookup": "how many matches it will give, the loop and sigma matches included".
use Rattle.std.specs.Prelude.{cond, List, ℕ, eqb, leb, length, get_or}
use Rattle.words.specs.Labels.{Checked, good, refused, refuse_if, and_then}
use Rattle.words.specs.Machines.{state_count}
use Rattle.words.specs.Sigmas.{Operand, lookup}
use Rattle.words.specs.Settings.{Settings, Lent, operand1, operand2}
use Rattle.calls.specs.Checks.{side_for}
use Rattle.calls.specs.Calls.{open_of}
use Rattle.calls.specs.Listing.{settings_size, settings_of, empty_memory, no_session}

-- the number of matches of the label x at state q; 11 where x is the sigma label
unfoldable pub fan_out : Operand → ℕ → ℕ → Checked ℕ
fan_out o q x = and_then (lookup o q x) (λ ms. good (length ms))

-- the states of machine 1 or 2; another machine has none
abbrev pub states_of : Lent → ℕ → ℕ
states_of l n = cond (eqb n 1) (state_count l.m1) (cond (eqb n 2) (state_count l.m2) 0)

-- machine 1 or 2 as it is looked up, whatever the side: "Machine 1 is matched on outputs, 2 on inputs", each with its own sigma; the ignored labels count as 0 (02, 2.7)
abbrev pub operand_numbered : Settings → Lent → ℕ → Operand
operand_numbered s l n = cond (eqb n 1) (operand1 s l) (operand2 s l)

-- After an accepted opening, "naming another machine or a state not below S" is 9; then the look-up, with its 11. The label x at state q of machine n.
unfoldable pub fan_out_at : Settings → Lent → (n q x : ℕ) → Checked ℕ
fan_out_at s l n q x = refuse_if (leb (states_of l n) q) 9 (fan_out (operand_numbered s l n) q x)

-- for a caller that is lent no memory: the checks 1 to 7, with 18 (02, 2.7), first
unfoldable pub fan_out_of : Settings → Lent → (n q x : ℕ) → Checked ℕ
fan_out_of s l n q x = and_then (side_for s l) (λ side. fan_out_at s l n q x)

-- "a fourth, machine (1 or 2), state and label": so many words
abbrev pub query_size : ℕ
query_size = 3

-- "a fourth line not of three words .. prints `refused 9`"
abbrev pub queried : Settings → Lent → List ℕ → Checked ℕ
queried s l w = cond (eqb (length w) query_size) (fan_out_at s l (get_or w 0 0) (get_or w 1 0) (get_or w 2 0)) (refused 9)

-- "reads the lines of `composed` and a fourth": it opens as `composed` does, in the same room, and then looks up. The words of the settings and of the fourth line, and what is lent.
unfoldable pub fan_out_line : List ℕ → Lent → List ℕ → Checked ℕ
fan_out_line settings l query =
    let s = settings_of settings in
    cond (eqb (length settings) settings_size) (and_then (open_of s l (no_session s) empty_memory).answer (λ u. queried s l query)) (refused 1)
