-- What a caller that owns its memory does beside the five calls: a run in pieces, all final weights in one go, and slices that are lengthened by a copy. These are ours: document
-- 01 has the five calls alone.
use Rattle.std.specs.Prelude.{List, map, ◌++◌, ℕ, zero, suc, Option}
use Rattle.lists.specs.Lists.{interval}
use Rattle.words.specs.Labels.{Checked, good, refused, collect}
use Rattle.words.specs.Settings.{Lent}
use Rattle.calls.specs.Store.{Memory, Part}
use Rattle.calls.specs.Checks.{Session}
use Rattle.calls.specs.Calls.{Outcome, expand_of, final_weight_of}

-- A piece of a run, from state n on, at most k states, is `run_from`. The state with which the next piece goes on: the first of them whose expansion is not accepted, since it is
-- refused or no such state is found, else the one after them.
abbrev pub stop_by : Outcome Part → Checked Part → ℕ → (Session → Memory → ℕ) → ℕ
stop_by o (good p) n go = go o.session o.memory
stop_by o (refused j) n go = n

unfoldable pub stop_from : Lent → ℕ → ℕ → Session → Memory → ℕ
stop_from l zero n s m = n
stop_from l (suc k) n s m = let o = expand_of l s m n in stop_by o o.answer n (stop_from l k (suc n))

-- the final weights of the k states from state n on, in number order, or the first refusal among them
unfoldable pub weights_from : Lent → Session → Memory → ℕ → ℕ → Checked (List (Option ℕ))
weights_from l s m n k = collect (map (λ i. (final_weight_of l s m i).answer) (interval n k))

-- and those of all found states
abbrev pub final_weights_of : Lent → Session → Memory → Checked (List (Option ℕ))
final_weights_of l s m = weights_from l s m 0 s.used.states

-- a copy into longer slices: any words behind those of the states and of the transitions; heads as they are
abbrev pub lengthened : List ℕ → List ℕ → Memory → Memory
lengthened xs ys m = record { heads = m.heads; states = m.states ++ xs; trs = m.trs ++ ys }
