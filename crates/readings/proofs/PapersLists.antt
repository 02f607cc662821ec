-- An expanded state's list is the papers': its records are the kept moves of its triple, each once, in 01's order, sigma set or not.
use mathlib.Core.Path.{◌≡◌, sym, ◌∙◌, ap, subst}
use mathlib.Core.List.{Memᴰ as In}
use Prim.Native.Nat.{ℕ, ◌+◌, ◌-◌}
use native.Mathlib.Omega.{arith}
use Rattle.lists.specs.Lists.{At, interval}
use Rattle.lists.proofs.Members.{in_interval, of_interval}
use Rattle.lists.proofs.Once.{one_place}
use Rattle.lists.proofs.Places.{at_in, in_at, at_length, at_place}
use Rattle.papers.specs.Composition.{Triple, Edges, KeptMove}
use Rattle.words.specs.Matches.{MatchType}
use Rattle.words.specs.Steps.{Composition, Kept, Step, kept_at}
use Rattle.words.specs.AsPapers.{exact, edges_of, composed_of, matches_of, input_by, output_by}
use Rattle.words.specs.Links.{Composable, IsStep}
use Rattle.words.proofs.PapersOpened.{kept_as_papers}
use Rattle.calls.specs.Store.{Part}
use Rattle.calls.specs.Sequences.{World}
use Rattle.readings.specs.Worlds.{part_in, state_at, IsRecord, IsList}
use Rattle.readings.specs.StorePaths.{moves_in}
use Rattle.readings.specs.Follows.{IsTransition, PapersList}
use Rattle.readings.proofs.Placed.{one_next}
use Rattle.readings.proofs.Listed.{places, enumerated}
use Rattle.readings.proofs.PathMoves.{listed_step, no_refusal, has_direction, listed_length}

module _ (c : Composition) (P : Composable c) (w : World) (n : ℕ) (L : IsList c w n) where
  abbrev s : Triple
  s = state_at w n

  -- the record of a kept move's step; how its matches serve is known from its edges
  recorded : (d : MatchType) (v : Kept) (st : Step) (r : ℕ) → IsRecord w r st → IsStep c s v st → matches_of d c.operand1 c.operand2 (edges_of v.move) ≡ v.move
      → IsTransition c w d s (edges_of v.move) v.next r
  recorded d v st r h is known = record {
    input = h.input ∙ is.input ∙ ap (input_by c) (sym known);
    output = h.output ∙ is.output ∙ ap (output_by c) (sym known);
    weight = ap (exact c.kind) h.weight ∙ is.weight;
    target = h.target ∙ is.to;
    found = h.used;
  }

  pub papers_list : PapersList c w n (part_in w n)
  papers_list =
      let d = has_direction c P s L.steps L.moves in
      record {
        direction = d.0;
        rule = d.1;
        moves = enumerated c s (no_refusal c P s L.steps L.moves) P d.0 d.1;
        count = L.count ∙ sym (listed_length c P s L.steps L.moves);
        record_of = λ k m g h.
            let v = (places c s (no_refusal c P s L.steps L.moves) k m g).0 h in
            let st = listed_step c P s L.steps L.moves k v.0 v.1 in
            subst (λ (e : Edges × ℕ). IsTransition c w d.0 s e.0 e.1 ((part_in w n).first + k)) (sym v.2)
            (recorded d.0 v.0 st.0 ((part_in w n).first + k) (L.record_of k st.0 st.1) st.2 ((kept_as_papers c P s d.0 d.1).known v.0 (at_in (kept_at c s) k v.1)));
      }

-- What such a list says, move by move and record by record.
module _ (c : Composition) (w : World) (n : ℕ) (p : Part) (F : PapersList c w n p) where
  -- every kept move has its record,
  pub kept_has_record : (m : Edges) (g : ℕ) → KeptMove (composed_of c) (state_at w n) m g
      → (r : ℕ) × In r (interval p.first p.count) × IsTransition c w F.direction (state_at w n) m g r
  kept_has_record m g h =
      let i = in_at ((F.moves.exactly (m, g)).1 h) in
      let b = at_length (moves_in c w n) i.0 i.1 in
      (p.first + i.0, in_interval p.first p.count (p.first + i.0) (omega arith) (omega (arith, b, F.count)), F.record_of i.0 m g i.1)

  -- every record is that of a kept move,
  pub record_is_kept : (r : ℕ) → In r (interval p.first p.count)
      → (m : Edges) × (g : ℕ) × KeptMove (composed_of c) (state_at w n) m g × IsTransition c w F.direction (state_at w n) m g r
  record_is_kept r i =
      let b = of_interval p.first p.count i in
      let e = at_place (moves_in c w n) (r - p.first) (omega (arith, F.count, b)) in (
        e.0.0,
        e.0.1,
        (F.moves.exactly e.0).0 (at_in (moves_in c w n) (r - p.first) e.1),
        subst (IsTransition c w F.direction (state_at w n) e.0.0 e.0.1) (omega (arith, b)) (F.record_of (r - p.first) e.0.0 e.0.1 e.1),
      )

  -- and no kept move stands in the list twice
  pub listed_once : (j k : ℕ) (m : Edges) (g h : ℕ) → At (moves_in c w n) j (m, g) → At (moves_in c w n) k (m, h) → j ≡ k
  listed_once j k m g h a b =
      let e = one_next (composed_of c) (state_at w n) m g h ((F.moves.exactly (m, g)).0 (at_in (moves_in c w n) j a)) ((F.moves.exactly (m, h)).0 (at_in (moves_in c w n) k b)) in
      one_place (moves_in c w n) F.moves.once j k (subst (λ (x : ℕ). At (moves_in c w n) j (m, x)) e a) b
