-- What is used fits.
use Rattle.store_form.proofs.RecordForms.{fits_room}
use Rattle.store_form.proofs.form_ok.Goals as goal

pub states_ok-requires : goal.states_ok-requires
states_ok-requires c = (fits_room _ c.requires).0

pub trs_ok-requires : goal.trs_ok-requires
trs_ok-requires c = (fits_room _ c.requires).1
