-- 01, "The listing": what `composed` prints, from the words of its three lines.
use Rattle.std.specs.Prelude.{cond, ℕ, ◌*◌, ◌/◌, eqb, leb, length, get_or, replicate, Option, None}
use mathlib.Core.List.{List, [], ◌∷◌, ◌++◌, map, flat_map}
use Rattle.lists.specs.Lists.{interval}
use Rattle.words.specs.Labels.{Checked, good, refused, and_then, collect}
use Rattle.words.specs.Matches.{Tr}
use Rattle.words.specs.Steps.{Triple}
use Rattle.words.specs.Settings.{Settings, Lent}
use Rattle.calls.specs.Store.{Memory, state_size, tr_size, triple_at, tr_at}
use Rattle.calls.specs.Checks.{Session}
use Rattle.calls.specs.Calls.{open_of, run_of, final_weight_of, records_of}

-- "side: input, output or both; s: state, s1, s2, f, final or -; t: input, output, weight, target; end: counts"; a side by its number in the session
pub data Line : Type 0 where
  side_line : ℕ → Line
  state_line : ℕ → Triple → Option ℕ → Line
  tr_line : ℕ → ℕ → ℕ → ℕ → Line
  end_line : ℕ → ℕ → Line
  refused_line : ℕ → Line

-- "kind, filter, sigma 1, mode 1, sigma 2, mode 2": so many words
abbrev pub settings_size : ℕ
settings_size = 6

abbrev pub settings_of : List ℕ → Settings
settings_of w = record { kind = get_or w 0 0; filter = get_or w 1 0; sigma1 = get_or w 2 0; mode1 = get_or w 3 0; sigma2 = get_or w 4 0; mode2 = get_or w 5 0 }

-- "A machine line above 4096 words .. is malformed": it stands for no words, which are malformed
abbrev pub machine_most : ℕ
machine_most = 4096

abbrev pub machine_line : List ℕ → List ℕ
machine_line m = cond (leb (length m) machine_most) m []

-- "both machines as decimal words, one line each, without allowed lists"; 02, 2.7: "`composed` and the program of 2.6 take an empty one"
abbrev pub lent_lines : List ℕ → List ℕ → Lent
lent_lines m1 m2 = record { m1 = machine_line m1; m2 = machine_line m2; allowed1 = None; allowed2 = None; ignored = [] }

-- "room is 1024 records of each sort and 64 heads"
abbrev pub empty_memory : Memory
empty_memory = record { heads = replicate 64 0; states = replicate (state_size * 1024) 0; trs = replicate (tr_size * 1024) 0 }

-- the session that the opening gets, unread
abbrev pub no_session : Settings → Session
no_session s = record { settings = s; side = 0; used = record { states = 0; trs = 0 } }

abbrev pub line_of : Tr → Line
line_of t = tr_line t.input t.output t.weight t.target

-- the transition records that were handed back
unfoldable pub tr_lines : List ℕ → List Line
tr_lines words = map (λ i. line_of (tr_at words i)) (interval 0 (length words / tr_size))

-- a state and its transitions
abbrev pub state_lines : Lent → Session → Memory → ℕ → Option ℕ → List Line
state_lines l s m n w = state_line n (triple_at m.states n) w ∷ tr_lines (records_of l s m n)

-- "then takes final weights in number order": the lines of each state, or the refusal of its final weight
abbrev pub states_listed : Lent → Session → Memory → Checked (List (List Line))
states_listed l s m = collect (map (λ n. and_then (final_weight_of l s m n).answer (λ w. good (state_lines l s m n w))) (interval 0 s.used.states))

abbrev pub joined : List (List Line) → List Line
joined ls = flat_map (λ l. l) ls

-- the listing of a store that was run to its end
abbrev pub listed : Lent → Session → Memory → Checked (List Line)
listed l s m = and_then (states_listed l s m) (λ ls. good (side_line s.side ∷ joined ls ++ (end_line s.used.states s.used.trs ∷ [])))

-- "It opens, runs, then takes final weights in number order"
unfoldable pub composed_lines : Settings → Lent → Checked (List Line)
composed_lines s l =
    let o = open_of s l (no_session s) empty_memory in
    let r = run_of l o.session o.memory in
    and_then o.answer (λ u. and_then r.answer (λ v. listed l r.session r.memory))

-- "the first refusal n prints `refused n` and nothing more"
abbrev pub printed : Checked (List Line) → List Line
printed (good lines) = lines
printed (refused n) = refused_line n ∷ []

-- "a settings line not of six such words is refused 1"; a line that is not of decimal words up to MAX counts as one without words. With any machines and allowed lists lent.
abbrev pub listing_on : List ℕ → Lent → List Line
listing_on w l = printed (cond (eqb (length w) settings_size) (composed_lines (settings_of w) l) (refused 1))

-- "`composed` reads settings .. and both machines as decimal words, one line each, without allowed lists"
unfoldable pub listing : List ℕ → List ℕ → List ℕ → List Line
listing w m1 m2 = listing_on w (lent_lines m1 m2)
