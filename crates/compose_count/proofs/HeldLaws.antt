-- What is noted of a whole list of steps: as long as the set was never full it holds each triple that is looked for, once; else it holds some of them; and the steps are counted up to MAX.
use mathlib.Core.Path.{◌≡◌, refl, sym, ◌∙◌, ap, subst}
use mathlib.Core.Bool.{Bool, true, false, not, ◌&&◌, and-false}
use mathlib.Core.List.{List, [], ◌∷◌}
use Prim.Native.Nat.{ℕ, zero, suc, ◌+◌, ◌≤◌, min}
use native.Mathlib.Omega.{arith}
use lib.ListN.{length, replicate}
use borrow.Author.Tests.{le-leb}
use Rattle.lists.proofs.Members.{or_false}
use Rattle.words.specs.Labels.{MAX, Checked, good, refused}
use Rattle.words.specs.Steps.{Triple, Step}
use Rattle.calls.specs.Store.{Store, state_room, state_room_with}
use Rattle.stored_steps.specs.Storing.{AllGood}
use Rattle.triple_set.specs.Sets.{set_of, holds, take_if, take_of, with_room}
use Rattle.triple_set.proofs.SetLaws.{headed_none, holds_none}
use Rattle.compose_weigh.specs.Weigh.{reached_within}
use Rattle.compose_weigh.specs.Windows.{set_room, new_within, Ahead, Filled}
use Rattle.compose_weigh.proofs.CountLaws.{but}
use Rattle.compose_weigh.proofs.WeighLaws.{ahead_next}
use Rattle.compose_weigh.proofs.SetTurns.{offered, set_room_lem}
use Rattle.compose_count.specs.Notes.{Notes, note_to, note_all}

-- once full, always full
full_before : (P : Triple → Bool) (n : Notes) (steps : List (Checked Step)) → (note_all P n steps).full ≡ false → n.full ≡ false
unfolding note_all
full_before P n [] e = e
full_before P n (refused k ∷ others) e = full_before P n others e
full_before P n (good s ∷ others) e = (or_false n.full (take_of (P s.to) n.set s.to).0 (full_before P (note_to P n s.to) others e)).0

-- the set holds what it should after the first k steps, and so after all
noted_held : (P : Triple → Bool) (all : List (Checked Step)) (room k : ℕ) (n : Notes) (rest : List (Checked Step)) → Ahead k all rest → Filled P k all room n.set → AllGood rest
    → (note_all P n rest).full ≡ false → (note_all P n rest).set.used.states ≡ new_within P (k + length rest) all
unfolding note_all
noted_held P all room k n [] a f g e = let z : k + 0 ≡ k = omega arith in rw z f.number
noted_held P all room k n (refused j ∷ others) a f g e = absurd g
noted_held P all room k n (good s ∷ others) a f g e =
    let z : k + suc (length others) ≡ suc k + length others = omega arith in
    let b = (or_false n.full (take_of (P s.to) n.set s.to).0 (full_before P (note_to P n s.to) others e)).1 in
    let t = (offered P k all room n.set f s others a (take_of (P s.to) n.set s.to) refl).1 b in
    rw z (noted_held P all room (suc k) (note_to P n s.to) others (ahead_next k all s others a) t g.1 e)

-- more steps go to no fewer triples
new_more : (P : Triple → Bool) (k l : ℕ) (steps : List (Checked Step)) → k ≤ l → new_within P k steps ≤ new_within P l steps
unfolding new_within
new_more P zero l steps h = omega arith
new_more P (suc k) zero steps h = absurd (omega (arith, h))
new_more P (suc k) (suc l) [] h = omega arith
new_more P (suc k) (suc l) (refused n ∷ others) h = omega arith
new_more P (suc k) (suc l) (good s ∷ others) h = let r = new_more (but P s.to) k l others (omega (arith, h)) in omega (arith, r)

-- a set without room takes nothing in
take_none : (b : Bool) (d : Store) (t : Triple) → state_room d.memory ≤ d.used.states → (take_of b d t).1 ≡ d
unfolding take_of
take_none b d t h = go (b && not (holds d t))
  where
    go : (x : Bool) → (take_if x d t).1 ≡ d
    go true = ap (λ y. (with_room y d t).1) (le-leb (state_room d.memory) d.used.states h)
    go false = refl

-- and so stays as it is
noted_none : (P : Triple → Bool) (d : Store) (n : Notes) (steps : List (Checked Step)) → n.set ≡ d → state_room d.memory ≤ d.used.states → (note_all P n steps).set ≡ d
unfolding note_all
noted_none P d n [] e h = e
noted_none P d n (refused k ∷ others) e h = noted_none P d n others e h
noted_none P d n (good s ∷ others) e h = noted_none P d (note_to P n s.to) others (ap (λ x. (take_of (P s.to) x s.to).1) e ∙ take_none (P s.to) d s.to h) h

-- the set holds what it should after the first k steps: after all it holds no more than it should, full or not
noted_least : (P : Triple → Bool) (all : List (Checked Step)) (room k : ℕ) (n : Notes) (rest : List (Checked Step)) → Ahead k all rest → Filled P k all room n.set → AllGood rest
    → (note_all P n rest).set.used.states ≤ new_within P (k + length rest) all
unfolding note_all
noted_least P all room k n [] a f g = let z : k + 0 ≡ k = omega arith in let e = f.number in rw z (omega (arith, e))
noted_least P all room k n (refused j ∷ others) a f g = absurd g
noted_least P all room k n (good s ∷ others) a f g =
    go (take_of (P s.to) n.set s.to).0 refl (λ t. noted_least P all room (suc k) (note_to P n s.to) others (ahead_next k all s others a) t g.1)
  where
    go : (b : Bool) → (take_of (P s.to) n.set s.to).0 ≡ b
        → (Filled P (suc k) all room (note_to P n s.to).set → (note_all P (note_to P n s.to) others).set.used.states ≤ new_within P (suc k + length others) all)
        → (note_all P (note_to P n s.to) others).set.used.states ≤ new_within P (k + suc (length others)) all
    go true p rec =
        let t = (offered P k all room n.set f s others a (take_of (P s.to) n.set s.to) refl).0 p in
        let l = t.1 in
        let r = f.room_kept in
        let e = ap (λ (d : Store). d.used.states) (noted_none P n.set (note_to P n s.to) others t.0 (omega (arith, l, r))) in
        let m = f.number in
        let i = new_more P k (k + suc (length others)) all (omega arith) in
        omega (arith, e, m, i)
    go false p rec =
        let z : k + suc (length others) ≡ suc k + length others = omega arith in
        rw z (rec ((offered P k all room n.set f s others a (take_of (P s.to) n.set s.to) refl).1 p))

-- each step counts, up to MAX
noted_moves : (P : Triple → Bool) (n : Notes) (steps : List (Checked Step)) → AllGood steps → n.moves ≤ MAX → (note_all P n steps).moves ≡ min (n.moves + length steps) MAX
unfolding note_all
noted_moves P n [] g h = omega (arith, h)
noted_moves P n (refused k ∷ others) g h = absurd g
noted_moves P n (good s ∷ others) g h =
    let r = noted_moves P (note_to P n s.to) others g.1 (omega arith) in
    omega (arith, r, h)

-- words that are all 0: a set that holds nothing, of the code's sizes
abbrev no_notes : Notes
no_notes = record { set = set_of (replicate 2039 0) (replicate 12288 0) 0; full = false; moves = 0 }

none_held : (P : Triple → Bool) (steps : List (Checked Step)) → Filled P 0 steps set_room no_notes.set
unfolding new_within reached_within state_room_with
none_held P steps = record {
  chained = headed_none 2039 12288 (omega arith);
  holding = λ t. holds_none (replicate 2039 0) (replicate 12288 0) t ∙ sym (and-false (P t));
  number = refl;
  fits = omega arith;
  room_kept = set_room_lem;
}

-- from an empty set on: at most the triples that are looked for, just those where it was never full, and all steps
abbrev pub Told : (Triple → Bool) → List (Checked Step) → Notes → Type 0
Told P steps n = (n.set.used.states ≤ new_within P (length steps) steps) × (n.full ≡ false → n.set.used.states ≡ new_within P (length steps) steps) × (n.moves ≡ min (length steps) MAX)

pub noted_told : (P : Triple → Bool) (steps : List (Checked Step)) (n : Notes) → AllGood steps → n ≡ note_all P no_notes steps → Told P steps n
noted_told P steps n g e =
    let z : 0 + length steps ≡ length steps = omega arith in
    let m = noted_moves P no_notes steps g (omega arith) in
    subst (Told P steps) (sym e) (
      rw z at (noted_least P steps set_room 0 no_notes steps refl (none_held P steps) g),
      λ f. rw z at (noted_held P steps set_room 0 no_notes steps refl (none_held P steps) g f),
      omega (arith, m),
    )
