-- One record and its move: in a store all of whose states are expanded, the records of a state and the papers' kept moves there are linked one to one, and both lead to one state.
use mathlib.Core.Path.{◌≡◌, ◌∙◌, ap, subst}
use mathlib.Core.List.{List, ◌∷◌, Memᴰ as In}
use Rattle.std.specs.Prelude.{Option}
use Prim.Native.Nat.{ℕ, ◌+◌, ◌-◌, ◌<◌}
use native.Mathlib.Omega.{arith}
use Rattle.lists.specs.Lists.{At}
use Rattle.lists.proofs.Members.{in_interval, of_interval}
use Rattle.lists.proofs.Places.{at_in, in_at, at_length, at_place}
use Rattle.papers.specs.Composition.{Edges, KeptMove}
use Rattle.words.specs.Labels.{good}
use Rattle.words.specs.Matches.{MatchType}
use Rattle.words.specs.Steps.{Composition}
use Rattle.words.specs.AsPapers.{composed_of, direction_of}
use Rattle.words.specs.Settings.{Lent}
use Rattle.words.specs.Links.{Composable}
use Rattle.calls.specs.Calls.{final_weight_of}
use Rattle.calls.specs.Sequences.{World}
use Rattle.readings.specs.Places.{then_moves}
use Rattle.readings.specs.Worlds.{Expanded, part_in, records_in, state_at, target_of, Sound}
use Rattle.readings.specs.StorePaths.{moves_in, moves_of_records, then_record, records_of_moves}
use Rattle.readings.specs.Follows.{IsTransition, PapersList}
use Rattle.readings.proofs.Placed.{place_of}
use Rattle.readings.proofs.PapersLists.{papers_list}

-- record r of state n is the move m, kept with the next filter state g: at the same place, to the same state, with the same labels and weight
pub record Link (c : Composition) (w : World) (n r : ℕ) (m : Edges) (g : ℕ) : Type 0 where
  pub listed : In r (records_in w n)
  pub place : At (moves_in c w n) (r - (part_in w n).first) (m, g)
  pub kept : KeptMove (composed_of c) (state_at w n) m g
  pub direction : MatchType
  pub rule : direction_of c (state_at w n) ≡ good direction
  pub same : IsTransition c w direction (state_at w n) m g r

-- What the correspondence asks: all used states are expanded, and none of their final weights is refused.
pub record Whole (l : Lent) (c : Composition) (w : World) : Type 0 where
  pub links : Composable c
  pub sound : Sound l c w
  pub expanded : (n : ℕ) → n < w.session.used.states → Expanded w n
  pub weighed : (n : ℕ) → n < w.session.used.states → (x : Option ℕ) × ((final_weight_of l w.session w.memory n).answer ≡ good x)

module _ (l : Lent) (c : Composition) (w : World) (W : Whole l c w) where
  abbrev list_of : (n : ℕ) → n < w.session.used.states → PapersList c w n (part_in w n)
  list_of n u = papers_list c W.links w n (W.sound.lists n (W.expanded n u))

  -- what stands at place k of the listing is linked to the k-th record
  pub at_link : (n : ℕ) → n < w.session.used.states → (k : ℕ) (m : Edges) (g : ℕ) → At (moves_in c w n) k (m, g) → Link c w n ((part_in w n).first + k) m g
  at_link n u k m g h =
      let F = list_of n u in
      let below = at_length (moves_in c w n) k h in
      record {
        listed = in_interval (part_in w n).first (part_in w n).count ((part_in w n).first + k) (omega arith) (omega (arith, below, F.count));
        place = subst (λ j. At (moves_in c w n) j (m, g)) (omega arith) h;
        kept = (F.moves.exactly (m, g)).0 (at_in (moves_in c w n) k h);
        direction = F.direction;
        rule = F.rule;
        same = F.record_of k m g h;
      }

  -- every kept move has a record
  pub move_link : (n : ℕ) → n < w.session.used.states → (m : Edges) (g : ℕ) → KeptMove (composed_of c) (state_at w n) m g → (r : ℕ) × Link c w n r m g
  move_link n u m g h =
      let p = in_at (((list_of n u).moves.exactly (m, g)).1 h) in
      ((part_in w n).first + p.0, at_link n u p.0 m g p.1)

  -- every record has a kept move
  pub record_link : (n : ℕ) → n < w.session.used.states → (r : ℕ) → In r (records_in w n) → (m : Edges) × (g : ℕ) × Link c w n r m g
  record_link n u r i =
      let b = of_interval (part_in w n).first (part_in w n).count i in
      let k = r - (part_in w n).first in
      let e = at_place (moves_in c w n) k (omega (arith, (list_of n u).count, b)) in
      (e.0.0, e.0.1, subst (λ j. Link c w n j e.0.0 e.0.1) (omega (arith, b)) (at_link n u k e.0.0 e.0.1 e.1))

  -- one turn of the two maps, for a record and its move
  pub moves_turn : (n r : ℕ) (m : Edges) (g : ℕ) → Link c w n r m g → (rs : List ℕ) → moves_of_records c w n (r ∷ rs) ≡ m ∷ moves_of_records c w (target_of w r) rs
  unfolding moves_of_records
  moves_turn n r m g h rs = ap (λ o. then_moves o (λ m g. moves_of_records c w (target_of w r) rs)) h.place

  pub records_turn : (n : ℕ) → n < w.session.used.states → (r : ℕ) (m : Edges) (g : ℕ) → Link c w n r m g → (ms : List Edges)
      → records_of_moves c w n (m ∷ ms) ≡ r ∷ records_of_moves c w (target_of w r) ms
  unfolding records_of_moves
  records_turn n u r m g h ms =
      let found = place_of (composed_of c) (state_at w n) (moves_in c w n) (list_of n u).moves (r - (part_in w n).first) m g h.place in
      let b = of_interval (part_in w n).first (part_in w n).count h.listed in
      ap (λ o. then_record o (λ k. ((part_in w n).first + k) ∷ records_of_moves c w (target_of w ((part_in w n).first + k)) ms)) found
      ∙ ap (λ (j : ℕ). j ∷ records_of_moves c w (target_of w j) ms) (omega (arith, b))
