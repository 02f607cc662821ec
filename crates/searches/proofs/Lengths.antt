-- No step, and so no run, changes how many words there are; it needs nothing of the search.
use mathlib.Core.Path.{◌≡◌, refl, ◌∙◌}
use mathlib.Core.Bool.{Bool, true, false, cond}
use mathlib.Core.List.{List}
use Prim.Native.Nat.{ℕ, zero, suc, ◌-◌, ◌*◌}
use lib.Dec.{eqb}
use lib.ListN.{length, length-set}
use Rattle.searches.specs.WorkWords.{up, with_low, with_middle, with_high}
use Rattle.searches.specs.UsefulSearch.{status_in, place_in, bound_in, open_in, settled_of, Links, Place, Found, opened_of, entered_of, on_white, on_final, on_dead, on_open, on_alive, back, killed, on_end, by_status, step_of, start_of, resume, run_of}

settle_length : (v m p : ℕ) (w : List ℕ) → length (settled_of w v p m) ≡ length w
unfolding settled_of with_high
settle_length v zero p w = refl
settle_length v (suc m) p w = settle_length v m (suc p) (with_high w (2 * open_in w p) v) ∙ length-set w _ _

entered_length : (w : List ℕ) (d r t o b : ℕ) → length (entered_of w d r t o b) ≡ length w
unfolding entered_of opened_of with_low with_middle with_high
entered_length w d r t o b = simp length-set

back_length : (L : Links) (w : List ℕ) (p : Place) (d : ℕ) → length (back L w p d).work ≡ length w
unfolding back
back_length L w p zero = refl
back_length L w p (suc k) = refl

either : (b : Bool) (f g : Found) (n : ℕ) → length f.work ≡ n → length g.work ≡ n → length (cond b f g).work ≡ n
either true f g n x y = x
either false f g n x y = y

white_length : (L : Links) (w : List ℕ) (p : Place) → length (on_white L w p).work ≡ length w
unfolding on_white
white_length L w p = entered_length w p.d p.r (L.target p.r) p.o p.b

final_length : (L : Links) (w : List ℕ) (p : Place) → length (on_final L w p).work ≡ length w
unfolding on_final
final_length L w p = settle_length 2 (up p.o) 0 (entered_of w p.d p.r (L.target p.r) p.o p.b) ∙ entered_length w p.d p.r (L.target p.r) p.o p.b

open_length : (L : Links) (w : List ℕ) (p : Place) → length (on_open L w p).work ≡ length w
unfolding on_open
open_length L w p = refl

dead_length : (L : Links) (w : List ℕ) (p : Place) → length (on_dead L w p).work ≡ length w
unfolding on_dead
dead_length L w p = refl

alive_length : (L : Links) (w : List ℕ) (p : Place) → length (on_alive L w p).work ≡ length w
unfolding on_alive
alive_length L w p = either (eqb (status_in w p.s) 1) (record { work = settled_of w 2 0 p.o; at = record { d = p.d; s = p.s; r = L.next p.r; o = 0; b = 0 }; done = false }) (on_dead L w p) (length w)
    (settle_length 2 p.o 0 w) (dead_length L w p)

killed_length : (L : Links) (w : List ℕ) (p : Place) → length (killed L w p).work ≡ length w
unfolding killed
killed_length L w p = back_length L _ _ p.d ∙ settle_length 3 (p.o - place_in w p.s) (place_in w p.s) w

end_length : (L : Links) (w : List ℕ) (p : Place) → length (on_end L w p).work ≡ length w
unfolding on_end
end_length L w p =
    let b : length (back L w p p.d).work ≡ length w = back_length L w p p.d in
    either (eqb (status_in w p.s) 1) (cond (eqb (place_in w p.s) (bound_in w (p.b - 1))) (killed L w p) (back L w p p.d)) (back L w p p.d) (length w)
    (either (eqb (place_in w p.s) (bound_in w (p.b - 1))) (killed L w p) (back L w p p.d) (length w) (killed_length L w p) b) b

record_length : (L : Links) (w : List ℕ) (p : Place) (v : ℕ) → length (by_status L w p v).work ≡ length w
unfolding by_status
record_length L w p v =
    let three : length (cond (eqb v 2) (on_alive L w p) (on_dead L w p)).work ≡ length w = either (eqb v 2) (on_alive L w p) (on_dead L w p) (length w) (alive_length L w p) (dead_length L w p) in
    let two : length (cond (eqb v 1) (on_open L w p) (cond (eqb v 2) (on_alive L w p) (on_dead L w p))).work ≡ length w = either (eqb v 1) (on_open L w p) (cond (eqb v 2) (on_alive L w p) (on_dead L w p)) (length w) (open_length L w p) three in
    either (eqb v 0) (on_white L w p) (cond (eqb v 4) (on_final L w p) (cond (eqb v 1) (on_open L w p) (cond (eqb v 2) (on_alive L w p) (on_dead L w p)))) (length w) (white_length L w p)
    (either (eqb v 4) (on_final L w p) (cond (eqb v 1) (on_open L w p) (cond (eqb v 2) (on_alive L w p) (on_dead L w p))) (length w) (final_length L w p) two)

pub step_length : (L : Links) (w : List ℕ) (p : Place) → length (step_of L w p).work ≡ length w
unfolding step_of
step_length L w p = either (eqb p.r 0) (on_end L w p) (by_status L w p (status_in w (L.target p.r))) (length w) (end_length L w p) (record_length L w p (status_in w (L.target p.r)))

opened_length : (w : List ℕ) (t o b : ℕ) → length (opened_of w t o b) ≡ length w
unfolding opened_of with_low with_middle with_high
opened_length w t o b = simp length-set

pub start_length : (L : Links) (w : List ℕ) → length (start_of L w).work ≡ length w
unfolding start_of
start_length L w = either (eqb (status_in w 0) 4)
    (record { work = settled_of (opened_of w 0 0 0) 2 0 1; at = record { d = 0; s = 0; r = L.first 0; o = 0; b = 0 }; done = false })
    (record { work = opened_of w 0 0 0; at = record { d = 0; s = 0; r = L.first 0; o = 1; b = 1 }; done = false }) (length w)
    (settle_length 2 1 0 (opened_of w 0 0 0) ∙ opened_length w 0 0 0) (opened_length w 0 0 0)

pub run_length : (L : Links) (k : ℕ) (f : Found) → length (run_of L k f).work ≡ length f.work
unfolding run_of resume
run_length L zero f = refl
run_length L (suc k) f = by f.done (run_length L k (step_of L f.work f.at))
  where
    by : (b : Bool) → length (run_of L k (step_of L f.work f.at)).work ≡ length (step_of L f.work f.at).work → length (resume L b f (λ g. run_of L k g)).work ≡ length f.work
    by true h = refl
    by false h = h ∙ step_length L f.work f.at
