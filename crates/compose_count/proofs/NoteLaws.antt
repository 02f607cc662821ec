-- Laws of noting: one list of steps after another, and a step of which only the target counts. And a loop that notes: what is left leaves what all leaves.
use mathlib.Core.Path.{◌≡◌, refl, sym, ◌∙◌, ap, subst}
use mathlib.Core.Bool.{Bool, true, ◌||◌}
use mathlib.Core.List.{List, [], ◌∷◌, ◌++◌, map}
use Rattle.std.specs.Prelude.{Option, None, Some}
use Prim.Native.Nat.{ℕ, ◌+◌, ◌≤◌, min}
use native.Mathlib.Omega.{arith}
use Rattle.words.specs.Labels.{MAX, Checked, good, refused}
use Rattle.words.specs.Weights.{Kind, times}
use Rattle.words.specs.Matches.{MatchType, inputs, outputs, label_on, Tr as Transition, tr_of}
use Rattle.words.specs.Machines.{tr_count, next_of, machine_of, no_fall}
use Rattle.words.specs.Steps.{Triple, Step, weighed}
use Rattle.words.proofs.ListLaws.{link, list_end_lem}
use Rattle.calls.specs.Store.{Store}
use Rattle.store_records.specs.Meaning.{store_in}
use Rattle.triple_set.specs.Sets.{take_of}
use Rattle.matchers.specs.Cursors.{with_label}
use Rattle.matchers.proofs.Seeks.{records_inside}
use Rattle.sorted_lists.specs.Runs.{rising}
use Rattle.sorted_lists.proofs.Along.{with_on}
use Rattle.stored_steps.specs.Storing.{AllGood}
use Rattle.compose_walk.specs.Plans.{joined_by, with_records}
use Rattle.compose_walk.proofs.Turns.{no_records, steps_on, steps_here}
use Rattle.compose_count.specs.Notes.{Notes, notes_means, wanted_by, target_by, note_to, note_good, note_all}
use Rattle.compose_count.specs.declared.notes.Counting.{Counting}
use Rattle.compose_count.specs.declared.notes.Noted.{Noted}

-- what is looked for, by the code's values
abbrev pub wanted_in : (heads states : List ℕ) → Counting → List ℕ → Triple → Bool
wanted_in heads states c trs = wanted_by (store_in heads states trs c.used) c.classes c.class

-- the same slices and counts are the same notes
pub same_notes : (chains chains' records records' : List ℕ) (n n' : Noted) → chains ≡ chains' → records ≡ records' → n ≡ n' → notes_means chains records n ≡ notes_means chains' records' n'
same_notes chains chains' records records' n n' p q e i = notes_means (p i) (q i) (e i)

-- the parts of what a step leaves
pub noted_is : (P : Triple → Bool) (n : Notes) (t : Triple) (w : Bool) (x : Bool × Store) (full : Bool) (moves : ℕ)
    → w ≡ P t → x ≡ take_of w n.set t → full ≡ (n.full || x.0) → moves ≡ min (n.moves + 1) MAX
    → record { set = x.1; full = full; moves = moves } ≡ note_to P n t
noted_is P n t w x full moves e q f m =
    let y = q ∙ ap (λ (b : Bool). take_of b n.set t) e in
    λ i. record { set = (y i).1; full = (f ∙ ap (λ (z : Bool × Store). n.full || z.0) y) i; moves = m i }

-- one list after the other
note_append : (P : Triple → Bool) (n : Notes) (a b : List (Checked Step)) → note_all P n (a ++ b) ≡ note_all P (note_all P n a) b
unfolding note_all
note_append P n [] b = refl
note_append P n (st ∷ a) b = note_append P (note_good P n st) a b

pub good_split : (a b : List (Checked Step)) → AllGood (a ++ b) → AllGood a × AllGood b
good_split [] b h = (tt, h)
good_split (good st ∷ a) b h = let r = good_split a b h.1 in ((h.0, r.0), r.1)
good_split (refused n ∷ a) b h = absurd h

pub note_none : (P : Triple → Bool) (n : Notes) (l : List (Checked Step)) → l ≡ [] → n ≡ note_all P n l
unfolding note_all
note_none P n l e = ap (note_all P n) (sym e)

-- the same steps
pub as_noted : (P : Triple → Bool) (n o : Notes) (a b : List (Checked Step)) → a ≡ b → o ≡ note_all P n a → o ≡ note_all P n b
as_noted P n o a b q p = p ∙ ap (note_all P n) q

-- once the first part is noted, the other is left
pub note_then : (P : Triple → Bool) (n o q : Notes) (a b : List (Checked Step)) → o ≡ note_all P n a → q ≡ note_all P o b → q ≡ note_all P n (a ++ b)
note_then P n o q a b e f = f ∙ (ap (λ (z : Notes). note_all P z b) e ∙ sym (note_append P n a b))

-- a step that is no refusal: only its target counts
note_weighed : (P : Triple → Bool) (n : Notes) (a b : Transition) (f : ℕ) (o : Option ℕ) (others : List (Checked Step)) → AllGood (weighed a b f o ∷ others)
    → AllGood others × (note_all P (note_to P n (record { s1 = a.target; s2 = b.target; f = f })) others ≡ note_all P n (weighed a b f o ∷ others))
unfolding note_all
note_weighed P n a b f (Some v) others h = (h.1, refl)
note_weighed P n a b f None others h = absurd h

-- in either direction
note_joined : (P : Triple → Bool) (n : Notes) (on : MatchType) (k : Kind) (w l : Transition) (f : ℕ) (others : List (Checked Step)) → AllGood (joined_by on k w l (Some f) ++ others)
    → AllGood others × (note_all P (note_to P n (target_by on f w.target l.target)) others ≡ note_all P n (joined_by on k w l (Some f) ++ others))
note_joined P n inputs k w l f others h = note_weighed P n w l f (times k w.weight l.weight) others h
note_joined P n outputs k w l f others h = note_weighed P n l w f (times k l.weight w.weight) others h

-- the same of one step by itself
pub note_one : (P : Triple → Bool) (n : Notes) (on : MatchType) (k : Kind) (w l : Transition) (f : ℕ) → AllGood (joined_by on k w l (Some f))
    → note_to P n (target_by on f w.target l.target) ≡ note_all P n (joined_by on k w l (Some f))
unfolding note_all
note_one P n inputs k w l f h = (note_weighed P n w l f (times k w.weight l.weight) [] h).1
note_one P n outputs k w l f h = (note_weighed P n l w f (times k l.weight w.weight) [] h).1

-- where no record is, no label is below any
pub rising_end : (on : MatchType) (m : List ℕ) (x t : ℕ) → t ≡ 0 → rising on m x t ≡ true
unfolding rising no_fall
rising_end on m x t e = subst (λ (l : List ℕ). no_fall x (map (label_on on (machine_of m)) l) ≡ true) (sym (records_inside m t (omega (arith, e)) ∙ list_end_lem m t e)) refl

-- Where a loop over the records with a label stands, at record u: whatever walked transition to s is meant, what is left is good and leaves what all from the first on leaves.
pub record Stand (on : MatchType) (m : List ℕ) (s f x first : ℕ) (P : List ℕ → Triple → Bool) (n₀ n : Notes) (u : ℕ) : Type 0 where
  pub inside : u ≤ tr_count m
  pub rises : rising on m x u ≡ true
  pub left : (trs : List ℕ) (k : Kind) (w : Transition) → w.target ≡ s → AllGood (steps_on on k m w f x first)
      → AllGood (steps_on on k m w f x u) × (note_all (P trs) n (steps_on on k m w f x u) ≡ note_all (P trs) n₀ (steps_on on k m w f x first))

pub stand_first : (on : MatchType) (m : List ℕ) (s f x first : ℕ) (P : List ℕ → Triple → Bool) (n : Notes) → first ≤ tr_count m → rising on m x first ≡ true → Stand on m s f x first P n n first
stand_first on m s f x first P n h r = record { inside = h; rises = r; left = λ trs k w e g. (g, refl) }

module _ {on : MatchType} {m : List ℕ} {s f x first : ℕ} {P : List ℕ → Triple → Bool} {n₀ n : Notes} {u : ℕ} (a : Stand on m s f x first P n₀ n u) where
  -- no record is left
  pub stand_end : with_label on m x u ≡ [] → (trs : List ℕ) (k : Kind) (w : Transition) → w.target ≡ s → AllGood (steps_on on k m w f x first) → n ≡ note_all (P trs) n₀ (steps_on on k m w f x first)
  stand_end e trs k w t g = note_none (P trs) n (steps_on on k m w f x u) (ap (with_records on k m w (Some f)) e ∙ no_records on k m w f) ∙ (a.left trs k w t g).1

  -- a record with the label is in hand, and its target is noted
  module _ (z : u ≡ 0 → ⊥) (y : label_on on (machine_of m) u ≡ x) {l : Transition} (t : l ≡ tr_of (machine_of m) u) where
    here : (k : Kind) (w : Transition) → steps_on on k m w f x u ≡ joined_by on k w l (Some f) ++ steps_on on k m w f x (next_of m u)
    here k w = steps_here on k m w f x u l (with_on on m x u z a.inside a.rises y).0 t

    pub stand_turn : (o : Notes) (c : Triple) → c ≡ target_by on f s l.target → ((trs : List ℕ) → o ≡ note_to (P trs) n c) → Stand on m s f x first P n₀ o (next_of m u)
    stand_turn o c d p = record {
      inside = (link m u).inside;
      rises = (with_on on m x u z a.inside a.rises y).1;
      left = λ trs k w e g.
          let old = a.left trs k w e g in
          let j = note_joined (P trs) n on k w l f (steps_on on k m w f x (next_of m u)) (subst AllGood (here k w) old.0) in
          let to = p trs ∙ ap (λ (b : Triple). note_to (P trs) n b) (d ∙ ap (λ (b : ℕ). target_by on f b l.target) (sym e)) in
          (j.0, ap (λ (q : Notes). note_all (P trs) q (steps_on on k m w f x (next_of m u))) to ∙ (j.1 ∙ (ap (note_all (P trs) n) (sym (here k w)) ∙ old.1)));
    }
