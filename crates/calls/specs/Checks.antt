-- 01, "Session and memory" and "Answers": the session, and the one order of checks.
use Rattle.std.specs.Prelude.{◌≡◌, Bool, ◌&&◌, not, ℕ, eqb, leb}
use Rattle.words.specs.Labels.{Checked, good, refuse_if, and_then}
use Rattle.words.specs.Matches.{inputs, outputs}
use Rattle.words.specs.Machines.{state_count, well_formed_up_to}
use Rattle.words.specs.Ignored.{ignored_ok}
use Rattle.words.specs.Sides.{Side, only, both, side_of}
use Rattle.words.specs.Steps.{Composition}
use Rattle.words.specs.Settings.{Settings, settings_ok, Lent, operand1, operand2, composition_of}
use Rattle.calls.specs.Store.{Memory, Used, Store, Layout, six}
use Rattle.calls.specs.Forms.{fits_with, form_ok_with}

-- "Opening fixes settings and side; each call takes the session and hands back the next one, with used counts. The session also holds the six settings"
pub record Session : Type 0 where
  pub settings : Settings
  pub side : ℕ
  pub used : Used

-- The number of a side is ours: the Rust's order of its match types.
abbrev pub side_number : Side → ℕ
side_number (only inputs) = 0
side_number (only outputs) = 1
side_number both = 2

-- what a call finds: memory and the session's used counts
abbrev pub store_of : Session → Memory → Store
store_of s m = record { memory = m; used = s.used }

module _ (L : Layout) where
  -- checks 1 to 7, and 18 "after 3" (02, 2.7); where none stands, the side of the rule. "Malformed is judged on the machines as lent."
  unfoldable pub side_for_with : Settings → Lent → Checked Side
  side_for_with s l =
      refuse_if (not (settings_ok s)) 1
      (refuse_if (not (well_formed_up_to L.limit l.m1)) 2
      (refuse_if (not (well_formed_up_to L.limit l.m2)) 3
      (refuse_if (not (ignored_ok l.ignored)) 18
      (side_of (operand1 s l) (operand2 s l)))))

  -- not "session side differs from the rule, used above room, or form broken"
  unfoldable pub session_ok_with : Lent → Session → Memory → Side → Bool
  session_ok_with l s m side =
      eqb s.side (side_number side) && (fits_with L (store_of s m) && form_ok_with L (state_count l.m1) (state_count l.m2) (store_of s m))

  -- checks 1 to 8 of a later call, with 18, which is "included wherever 1 to 7, 8 or 9 are named", by the session's own settings; where none stands, the composition that it goes on with
  unfoldable pub entered_with : Lent → Session → Memory → Checked Composition
  entered_with l s m = and_then (side_for_with s.settings l) (λ side. refuse_if (not (session_ok_with l s m side)) 8 (good (composition_of s.settings l side)))

  -- checks 1 to 9: "state not found yet"
  unfoldable pub entered_at_with : Lent → Session → Memory → ℕ → Checked Composition
  entered_at_with l s m n = and_then (entered_with l s m) (λ c. refuse_if (leb s.used.states n) 9 (good c))

-- the same in the layout of every call
abbrev pub side_for : Settings → Lent → Checked Side
side_for = side_for_with six

abbrev pub session_ok : Lent → Session → Memory → Side → Bool
session_ok = session_ok_with six

abbrev pub entered : Lent → Session → Memory → Checked Composition
entered = entered_with six

abbrev pub entered_at : Lent → Session → Memory → ℕ → Checked Composition
entered_at = entered_at_with six

-- the checks 1 to 8 pass
abbrev pub Passes : Lent → Session → Memory → Type 0
Passes l s m = (c : Composition) × (entered l s m ≡ good c)
