-- The search for useful states (02, 2.2) on work words: fields, loops, and one step of the search. It goes through the store from state 0, depth first. Open states, those that are seen and not yet decided,
-- stand in order of finding and are cut into frames of states that reach one another: Gabow's path-based components.
use Rattle.std.specs.Prelude.{Bool, true, false, cond, List, ℕ, zero, suc, ◌+◌, ◌-◌, ◌*◌, eqb, leb, get_or}
use Rattle.searches.specs.WorkWords.{low, middle, high, with_low, with_middle, with_high, up}

-- The five columns. Word 2 i: the record by which the path was left at depth i, the open state at place i, the status of state i. Word 2 i + 1: the place of state i among the open ones, the first place of frame i.
abbrev pub cursor_in : List ℕ → ℕ → ℕ
cursor_in w i = low (get_or w (2 * i) 0)

abbrev pub open_in : List ℕ → ℕ → ℕ
open_in w i = middle (get_or w (2 * i) 0)

abbrev pub status_in : List ℕ → ℕ → ℕ
status_in w i = high (get_or w (2 * i) 0)

abbrev pub place_in : List ℕ → ℕ → ℕ
place_in w i = low (get_or w (2 * i + 1) 0)

abbrev pub bound_in : List ℕ → ℕ → ℕ
bound_in w i = middle (get_or w (2 * i + 1) 0)

-- of n frames those that begin at the place or before it: how many are left when the frames behind it are joined to the one that holds it
unfoldable pub merged_to : List ℕ → ℕ → ℕ → ℕ
merged_to ws place zero = 0
merged_to ws place (suc n) = cond (leb (bound_in ws n) place) (suc n) (merged_to ws place n)

-- the n open states from place p on get the status v
unfoldable pub settled_of : List ℕ → ℕ → ℕ → ℕ → List ℕ
settled_of ws v p zero = ws
settled_of ws v p (suc n) = settled_of (with_high ws (2 * open_in ws p) v) v (suc p) n

-- what the search reads of a store: the first record of a state's list, the record after another, the state that a record leads to
pub record Links : Type 0 where
  pub first : ℕ → ℕ
  pub next : ℕ → ℕ
  pub target : ℕ → ℕ

-- where the search is: the depth, the state, the record of its list in hand (0: past the last), the numbers of open states and of frames
pub record Place : Type 0 where
  pub d : ℕ
  pub s : ℕ
  pub r : ℕ
  pub o : ℕ
  pub b : ℕ

-- after a step: the work words, the place, whether the search is done
pub record Found : Type 0 where
  pub work : List ℕ
  pub at : Place
  pub done : Bool

-- status: 0 not seen, 4 not seen and final, 1 open, 2 alive, 3 dead. State t becomes open, in a frame of its own;
unfoldable pub opened_of : List ℕ → ℕ → ℕ → ℕ → List ℕ
opened_of w t o b = with_middle (with_low (with_high (with_middle w (2 * o) t) (2 * t) 1) (2 * t + 1) o) (2 * b + 1) o

-- and the same where record r led to it from depth d
unfoldable pub entered_of : List ℕ → ℕ → ℕ → ℕ → ℕ → ℕ → List ℕ
entered_of w d r t o b = opened_of (with_low w (2 * d) r) t o b

-- the record in hand leads to a state that is not seen: it is entered
unfoldable pub on_white : Links → List ℕ → Place → Found
on_white L w p = record {
  work = entered_of w p.d p.r (L.target p.r) p.o p.b;
  at = record { d = up p.d; s = L.target p.r; r = L.first (L.target p.r); o = up p.o; b = up p.b };
  done = false;
}

-- to one that is final: every open state reaches it, so all become alive
unfoldable pub on_final : Links → List ℕ → Place → Found
on_final L w p = record {
  work = settled_of (entered_of w p.d p.r (L.target p.r) p.o p.b) 2 0 (up p.o);
  at = record { d = up p.d; s = L.target p.r; r = L.first (L.target p.r); o = 0; b = 0 };
  done = false;
}

-- to a dead one: the next record
unfoldable pub on_dead : Links → List ℕ → Place → Found
on_dead L w p = record { work = w; at = record { d = p.d; s = p.s; r = L.next p.r; o = p.o; b = p.b }; done = false }

-- to an open one: the frames from its own on reach one another, and are joined
unfoldable pub on_open : Links → List ℕ → Place → Found
on_open L w p = record {
  work = w;
  at = record { d = p.d; s = p.s; r = L.next p.r; o = p.o; b = merged_to w (place_in w (L.target p.r)) p.b };
  done = false;
}

-- to one that is alive: where the state in hand is open, every open state reaches it, so all become alive
unfoldable pub on_alive : Links → List ℕ → Place → Found
on_alive L w p = cond (eqb (status_in w p.s) 1)
    (record { work = settled_of w 2 0 p.o; at = record { d = p.d; s = p.s; r = L.next p.r; o = 0; b = 0 }; done = false })
    (on_dead L w p)

-- the state of the path at a depth
unfoldable pub state_at : Links → List ℕ → ℕ → ℕ
state_at L w zero = 0
state_at L w (suc k) = L.target (cursor_in w k)

-- one step back along the path
unfoldable pub back : Links → List ℕ → Place → ℕ → Found
back L w p zero = record { work = w; at = p; done = true }
back L w p (suc k) = record { work = w; at = record { d = k; s = state_at L w k; r = L.next (cursor_in w k); o = p.o; b = p.b }; done = false }

-- the list of the oldest state of the last frame is done: no state of the frame reaches an end, and all become dead
unfoldable pub killed : Links → List ℕ → Place → Found
killed L w p = back L (settled_of w 3 (place_in w p.s) (p.o - place_in w p.s))
    (record { d = p.d; s = p.s; r = p.r; o = place_in w p.s; b = p.b - 1 }) p.d

-- the list of the state in hand is done
unfoldable pub on_end : Links → List ℕ → Place → Found
on_end L w p = cond (eqb (status_in w p.s) 1) (cond (eqb (place_in w p.s) (bound_in w (p.b - 1))) (killed L w p) (back L w p p.d)) (back L w p p.d)

-- the record in hand leads to a state with status v
unfoldable pub by_status : Links → List ℕ → Place → ℕ → Found
by_status L w p v = cond (eqb v 0) (on_white L w p) (cond (eqb v 4) (on_final L w p) (cond (eqb v 1) (on_open L w p) (cond (eqb v 2) (on_alive L w p) (on_dead L w p))))

-- one step
unfoldable pub step_of : Links → List ℕ → Place → Found
step_of L w p = cond (eqb p.r 0) (on_end L w p) (by_status L w p (status_in w (L.target p.r)))

-- state 0 is entered first
unfoldable pub start_of : Links → List ℕ → Found
start_of L w = cond (eqb (status_in w 0) 4)
    (record { work = settled_of (opened_of w 0 0 0) 2 0 1; at = record { d = 0; s = 0; r = L.first 0; o = 0; b = 0 }; done = false })
    (record { work = opened_of w 0 0 0; at = record { d = 0; s = 0; r = L.first 0; o = 1; b = 1 }; done = false })

-- steps until the search is done, at most k
unfoldable pub resume : Links → Bool → Found → (Found → Found) → Found
resume L true f g = f
resume L false f g = g (step_of L f.work f.at)

unfoldable pub run_of : Links → ℕ → Found → Found
run_of L zero f = f
run_of L (suc k) f = resume L f.done f (λ g. run_of L k g)
