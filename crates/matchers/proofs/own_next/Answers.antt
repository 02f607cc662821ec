-- The first own transition from the place on, and after it what its link leads to; where there is none, the sigma transitions.
use mathlib.Core.Path.{◌≡◌, sym, ap, subst, ◌∙◌}
use mathlib.Core.List.{List}
use Prim.Native.Nat.{ℕ}
use Rattle.words.specs.Machines.{next_of}
use Rattle.words.proofs.ReplacedLaws.{read_next}
use Rattle.fst.specs.Meaning.{on_of, ignored_under}
use Rattle.matchers.specs.Cursors.{held_words, moved_to, sigma_left, items_of, asked, Step, cursor_of, step_means, moved_past}
use Rattle.matchers.specs.declared.Cursor.{Cursor}
use Rattle.matchers.specs.declared.Phase.TheVariants.{Own, Sigmas}
use Rattle.matchers.proofs.Turns.{same_gives, own_end, own_end_place, next_own, own_turn, own_turn_place}
use Rattle.matchers.proofs.own_next.Goals as goal

-- the cursor d in phase Sigmas reads the words as the one that was given, c
held : (g m : List ℕ) (c d : Cursor) (r : Step) → d ≡ moved_to c Sigmas c.sigmas
    → step_means (held_words d g m) r ≡ asked (items_of (held_words d g m) d (sigma_left (held_words d g m) d d.tr))
    → cursor_of r ≡ moved_past (held_words d g m) d (sigma_left (held_words d g m) d d.tr)
    → let words = held_words c g m in
    (step_means words r ≡ asked (items_of words d (sigma_left words d d.tr))) × (cursor_of r ≡ moved_past words d (sigma_left words d d.tr))
held g m c d r e means place =
    subst (λ (w : List ℕ). (step_means w r ≡ asked (items_of w d (sigma_left w d d.tr))) × (cursor_of r ≡ moved_past w d (sigma_left w d d.tr)))
    (ap (λ (e : Cursor). held_words e g m) e) (means, place)

pub returns-then-t-eq0 : goal.returns-then-t-eq0
returns-then-t-eq0 c =
    let a = c.args in
    let words = held_words a.cursor a.ignored.now a.m.now in
    let d = c.moved in
    let none = sym (rw c.looked.ensures at (rw c.read_by-read.ensures at c.seek-t.ensures)) ∙ c.if-t-eq0.true in
    let h = held a.ignored.now a.m.now a.cursor d.result c.sigma_next.result d.ensures c.sigma_next.ensures.result_value c.sigma_next.ensures.place in
    record { result_value = h.0 ∙ own_end words a.cursor d.result d.ensures none; place = h.1 ∙ own_end_place words a.cursor d.result d.ensures none }

pub returns : goal.returns
returns c =
    let a = c.args in
    let words = held_words a.cursor a.ignored.now a.m.now in
    let found = rw c.looked.ensures at (rw c.read_by-read.ensures at c.seek-t.ensures) in
    let some : next_own words a.cursor ≡ 0 → ⊥ = λ z. c.if-t-eq0.false (found ∙ z) in
    let place = c.moved-2.ensures ∙ ap (moved_to a.cursor Own) (c.next_tr.ensures ∙ (sym (read_next (on_of a.cursor.on) (ignored_under a.cursor.labels a.ignored.now) a.m.now _) ∙ ap (next_of words) found)) in
    record { result_value = same_gives words (rw c.read_by-read.ensures at c.get_tr-found.ensures ∙ rw found) place ∙ own_turn words a.cursor some; place = place ∙ own_turn_place words a.cursor some }
