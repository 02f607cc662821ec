-- What the checks 1 to 8 say of the store that a call goes on with.
use mathlib.Core.Path.{◌≡◌}
use mathlib.Core.Bool.{true}
use Prim.Native.Nat.{◌≤◌}
use Rattle.words.specs.Labels.{good}
use Rattle.words.specs.Machines.{state_count, limit}
use Rattle.words.specs.Steps.{Composition}
use Rattle.words.specs.Settings.{Lent}
use Rattle.calls.specs.Store.{Memory, Store, state_size, tr_size, state_room_with, tr_room_with}
use Rattle.calls.specs.Forms.{form_ok}
use Rattle.calls.specs.Checks.{Session, store_of, entered}
use Rattle.calls.proofs.StoreForms.{of_form}
use Rattle.calls.proofs.ExpandKept.{entered_is}
use Rattle.calls.proofs.RecordLaws.{room_words}

-- its form holds, and its used counts are within the limit
pub record Within (l : Lent) (d : Store) : Type 0 where
  pub form : form_ok (state_count l.m1) (state_count l.m2) d ≡ true
  pub states : d.used.states ≤ limit
  pub trs : d.used.trs ≤ limit

pub within : (l : Lent) (s : Session) (m : Memory) (c : Composition) → entered l s m ≡ good c → Within l (store_of s m)
unfolding state_room_with tr_room_with
within l s m c e =
    let f = (entered_is l s m c e).form in
    record {
      form = (of_form (state_count l.m1) (state_count l.m2) (store_of s m) f).1;
      states = (room_words state_size m.states s.used.states f.states_fit).0;
      trs = (room_words tr_size m.trs s.used.trs f.trs_fit).0;
    }
