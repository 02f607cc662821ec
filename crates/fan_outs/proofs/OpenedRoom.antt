-- The room of `composed` is enough for every opening, which is then refused by the checks 1 to 7 and 18 or not at all: so a caller that is lent no memory gets what the program prints.
use mathlib.Core.Path.{◌≡◌, refl, ◌∙◌}
use mathlib.Core.List.{List}
use Rattle.std.specs.Prelude.{Option, None, Some}
use Prim.Native.Nat.{ℕ}
use native.Mathlib.Omega.{arith}
use lib.ListN.{length, get_or}
use borrow.Author.Tests.{eq-eqb, ne_eqb}
use Rattle.words.specs.Labels.{Checked, good, refused, and_then}
use Rattle.words.specs.Sides.{Side}
use Rattle.words.specs.Steps.{Triple, start_at}
use Rattle.words.specs.Settings.{Settings, Lent, composition_of}
use Rattle.calls.specs.Checks.{Session, side_for}
use Rattle.calls.specs.Calls.{open_of, open_with}
use Rattle.calls.specs.Listing.{settings_size, settings_of, empty_memory, no_session}
use Rattle.calls.proofs.OpenCases.{open_empty, open_begun}
use Rattle.calls.proofs.ListingLaws.{rooms}
use Rattle.fan_outs.specs.FanOut.{fan_out_at, fan_out_of, query_size, queried, fan_out_line}

-- whatever comes after an accepted opening comes after accepted checks 1 to 7 and 18
pub room_enough : {A : Type 0} (s : Settings) (l : Lent) (got : Session) (after : Checked A) → and_then (open_of s l got empty_memory).answer (λ u. after) ≡ and_then (side_for s l) (λ side. after)
unfolding open_with
room_enough s l got after = go (side_for s l) refl
  where
    by_start : (side : Side) (t : Option Triple) → side_for s l ≡ good side → start_at (composition_of s l side) ≡ t → and_then (open_of s l got empty_memory).answer (λ u. after) ≡ after
    by_start side None e h = rw (open_empty s l got empty_memory side e h)
    by_start side (Some t) e h = rw (open_begun s l got empty_memory side t e h (record { room = let r = rooms.1 in omega (arith, r); headed = let r = rooms.0 in omega (arith, r) }))

    go : (o : Checked Side) → side_for s l ≡ o → and_then (open_of s l got empty_memory).answer (λ u. after) ≡ and_then o (λ side. after)
    go (refused k) e = rw e
    go (good side) e = by_start side (start_at (composition_of s l side)) e refl

-- the program's answer without memory
pub line_checked : (w : List ℕ) (l : Lent) (query : List ℕ) → length w ≡ settings_size → fan_out_line w l query ≡ and_then (side_for (settings_of w) l) (λ side. queried (settings_of w) l query)
unfolding fan_out_line
line_checked w l query e = rw (eq-eqb (length w) settings_size e) (room_enough (settings_of w) l (no_session (settings_of w)) (queried (settings_of w) l query))

-- with three words on its fourth line it is that of the call ..
pub line_is_call : (w : List ℕ) (l : Lent) (query : List ℕ) → length w ≡ settings_size → length query ≡ query_size
    → fan_out_line w l query ≡ fan_out_of (settings_of w) l (get_or query 0 0) (get_or query 1 0) (get_or query 2 0)
unfolding fan_out_of
line_is_call w l query e f = line_checked w l query e ∙ rw (eq-eqb (length query) query_size f) refl

-- .. and with another number of words that of the call for a machine which is none
pub line_unasked : (w : List ℕ) (l : Lent) (query : List ℕ) → length w ≡ settings_size → (length query ≡ query_size → ⊥) → fan_out_line w l query ≡ fan_out_of (settings_of w) l 0 0 0
unfolding fan_out_of fan_out_at
line_unasked w l query e f = line_checked w l query e ∙ rw (ne_eqb (length query) query_size f) refl
