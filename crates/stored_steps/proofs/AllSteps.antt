-- All steps: those that fit, stored one by one with the last link ended, are what `store_steps` leaves; and they fit just where it accepts them.
use mathlib.Core.Path.{◌≡◌, refl, sym, subst}
use mathlib.Core.Bool.{true}
use mathlib.Core.List.{List, [], ◌∷◌, ◌++◌}
use Prim.Native.Nat.{◌+◌, ◌<◌}
use native.Mathlib.Omega.{arith}
use lib.ListN.{length}
use borrow.Author.Tests.{eq-eqb, ne_eqb}
use Rattle.words.specs.Labels.{Checked, good, refused}
use Rattle.words.specs.Steps.{Step}
use Rattle.calls.specs.Store.{Store}
use Rattle.calls.specs.Calls.{next_for, store_step, store_steps, store_steps_with}
use Rattle.stored_steps.specs.Storing.{Accepted, place, store_one, store_good, store_all, end_link, end_from, Fits}
use Rattle.stored_steps.proofs.OneStep.{accepted_then, room_stores, accepted_room, end_append}
use Rattle.stored_steps.proofs.Rooms.{one_trs}

-- one list after the other
pub all_append : (d : Store) (a b : List (Checked Step)) → store_all d (a ++ b) ≡ store_all (store_all d a) b
unfolding store_all
all_append d [] b = refl
all_append d (st ∷ a) b = all_append (store_good d st) a b

pub fits_append : (d : Store) (a b : List (Checked Step)) → Fits d (a ++ b) → Fits d a × Fits (store_all d a) b
unfolding store_all
fits_append d [] b f = (tt, f)
fits_append d (good st ∷ a) b f = let r = fits_append (store_one d st) a b f.1 in ((f.0, r.0), r.1)
fits_append d (refused n ∷ a) b f = absurd f

-- one record for each step
pub all_trs : (d : Store) (steps : List (Checked Step)) → Fits d steps → (store_all d steps).used.trs ≡ d.used.trs + length steps
unfolding store_all
all_trs d [] f = omega arith
all_trs d (good st ∷ others) f = let r = all_trs (store_one d st) others f.1 in omega (arith, r, one_trs d st)
all_trs d (refused n ∷ others) f = absurd f

-- at least one step
pub fits_some : (d : Store) (steps : List (Checked Step)) → 0 < length steps → Fits d steps → store_steps d steps ≡ good (end_link (store_all d steps))
unfolding store_steps_with store_all store_one
fits_some d [] h f = absurd (omega arith)
fits_some d (refused n ∷ others) h f = absurd f
fits_some d (good st ∷ []) h f = rw (room_stores d st 0 f.0, end_append (place d st.to).store st (place d st.to).state (next_for d true))
fits_some d (good st ∷ x ∷ others) h f = rw (room_stores d st (next_for d true) f.0) (fits_some (store_one d st) (x ∷ others) (omega arith) f.1)

no_steps : (d : Store) → store_steps d [] ≡ good (end_from d.used.trs (store_all d []))
unfolding store_steps_with store_all
no_steps d = rw (eq-eqb d.used.trs d.used.trs refl)

-- steps that fit are stored one by one, and the last link is ended
pub fits_settle : (d : Store) (steps : List (Checked Step)) → Fits d steps → store_steps d steps ≡ good (end_from d.used.trs (store_all d steps))
fits_settle d [] f = no_steps d
fits_settle d (st ∷ others) f =
    let u = all_trs d (st ∷ others) f in
    rw (ne_eqb (store_all d (st ∷ others)).used.trs d.used.trs (λ z. omega (arith, u, z))) (fits_some d (st ∷ others) (omega arith) f)

-- steps fit where they are accepted, and only there
pub accepted_fits : (d : Store) (steps : List (Checked Step)) → Accepted (store_steps d steps) → Fits d steps
unfolding store_steps_with store_one
accepted_fits d [] h = tt
accepted_fits d (refused n ∷ others) h = absurd h
accepted_fits d (good st ∷ []) h = (accepted_room d st 0 (accepted_then (store_step d 0 st) (λ e. good e) h), tt)
accepted_fits d (good st ∷ x ∷ others) h =
    let r = accepted_room d st (next_for d true) (accepted_then (store_step d (next_for d true) st) (λ e. store_steps e (x ∷ others)) h) in
    (r, accepted_fits (store_one d st) (x ∷ others) (rw (room_stores d st (next_for d true) r) at h))

pub fits_accepted : (d : Store) (steps : List (Checked Step)) → Fits d steps → Accepted (store_steps d steps)
fits_accepted d steps f = subst Accepted (sym (fits_settle d steps f)) tt
