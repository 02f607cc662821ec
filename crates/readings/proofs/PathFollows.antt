-- A list of records and a list of moves that follow one another, link by link, to an end. What accepts on either side is followed by its image, and of two that follow one
-- another each is the image of the other, with the same weight and, with sigma on machine 2 alone or none, the labels that the moves have: so accepting records and accepting moves correspond one to one.
use mathlib.Core.Path.{◌≡◌, refl, sym, ◌∙◌, ap, ap₂, subst}
use mathlib.Core.List.{List, [], ◌∷◌, map, Memᴰ as In}
use mathlib.Core.Logic.{◌≢◌}
use Prim.Native.Nat.{ℕ, ◌<◌}
use Rattle.papers.specs.Weight.{semiring}
use Rattle.papers.specs.Composition.{Triple, Edges, composed_input}
use Rattle.papers.specs.Paths.{AcceptingMoves, moves_weight}
use Rattle.words.specs.Labels.{no_label}
use Rattle.words.specs.Weights.{zero_of}
use Rattle.words.specs.Steps.{Composition}
use Rattle.words.specs.AsPapers.{exact, composed_of}
use Rattle.words.specs.Settings.{Lent}
use Rattle.calls.specs.Sequences.{World}
use Rattle.readings.specs.Correspondence.{OneToOne}
use Rattle.readings.specs.Worlds.{state_at, input_of, output_of, target_of}
use Rattle.readings.specs.StorePaths.{machine1, SigmaOn2AtMost, AcceptingFrom, moves_of_records, records_of_moves, answered_weight, records_weight}
use Rattle.readings.proofs.Letters.{written_by, output_by_lem}
use Rattle.readings.proofs.PathMoves.{input_by_lem}
use Rattle.readings.proofs.PathEnds.{IsEnd, answered_end, end_answered}
use Rattle.readings.proofs.PathRecords.{Link, Whole, move_link, record_link, moves_turn, records_turn}

-- accepting moves of the papers' composition, from a triple on
abbrev pub AcceptingAt : Composition → Triple → List Edges → Type 0
AcceptingAt c t ms = AcceptingMoves (semiring c.kind) (exact c.kind) (composed_of c) t ms

abbrev pub Follows : Lent → Composition → World → ℕ → List ℕ → List Edges → Type 0
Follows l c w n [] [] = (x : ℕ) × IsEnd l c w n x
Follows l c w n [] (m ∷ ms) = ⊥
Follows l c w n (r ∷ rs) [] = ⊥
Follows l c w n (r ∷ rs) (m ∷ ms) = (g : ℕ) × Link c w n r m g × Follows l c w (target_of w r) rs ms

-- what holds of two lists that follow one another from state n on
pub record Alike (l : Lent) (c : Composition) (w : World) (n : ℕ) (rs : List ℕ) (ms : List Edges) : Type 0 where
  pub records : AcceptingFrom l w n rs
  pub moves : AcceptingAt c (state_at w n) ms
  pub to : moves_of_records c w n rs ≡ ms
  pub from : records_of_moves c w n ms ≡ rs
  pub weight : records_weight c.kind l w n rs ≡ moves_weight (semiring c.kind) (exact c.kind) (composed_of c) (state_at w n).s1 (state_at w n).s2 ms

module _ (l : Lent) (c : Composition) (w : World) (W : Whole l c w) where
  of_records : (rs : List ℕ) (n : ℕ) → n < w.session.used.states → AcceptingFrom l w n rs → Follows l c w n rs (moves_of_records c w n rs)
  unfolding moves_of_records
  of_records [] n u h = (h.0, answered_end l c w W.sound.enters n u h.0 h.1)
  of_records (r ∷ rs) n u h =
      let k = record_link l c w W n u r h.1 in
      let turn = moves_turn l c w W n r k.0 k.1 k.2 rs in
      subst (Follows l c w n (r ∷ rs)) (sym turn) (k.1, k.2, of_records rs (target_of w r) k.2.same.found h.2)

  of_moves : (ms : List Edges) (n : ℕ) → n < w.session.used.states → AcceptingAt c (state_at w n) ms
      → Follows l c w n (records_of_moves c w n ms) ms
  unfolding records_of_moves
  of_moves [] n u h = let x = W.weighed n u in end_answered l c w W.sound.enters n u x.0 x.1 h
  of_moves (m ∷ ms) n u h =
      let k = move_link l c w W n u m h.0 h.1 in
      let turn = records_turn l c w W n u k.0 m h.0 k.1 ms in
      let onward = subst (λ t. AcceptingAt c t ms) (sym k.1.same.target) h.2 in
      subst (λ rs. Follows l c w n rs (m ∷ ms)) (sym turn) (h.0, k.1, of_moves ms (target_of w k.0) k.1.same.found onward)

  alike : (rs : List ℕ) (ms : List Edges) (n : ℕ) → n < w.session.used.states → Follows l c w n rs ms → Alike l c w n rs ms
  unfolding moves_of_records records_of_moves
  alike [] [] n u h = record {
    records = (h.0, h.1.answer);
    moves = h.1.both;
    to = refl;
    from = refl;
    weight = ap (λ a. exact c.kind (answered_weight (zero_of c.kind) a)) h.1.answer ∙ h.1.product;
  }
  alike [] (m ∷ ms) n u h = absurd h
  alike (r ∷ rs) [] n u h = absurd h
  alike (r ∷ rs) (m ∷ ms) n u h =
      let k = h.1 in
      let A = alike rs ms (target_of w r) k.same.found h.2 in
      record {
        records = (W.expanded n u, k.listed, A.records);
        moves = (h.0, k.kept, subst (λ t. AcceptingAt c t ms) k.same.target A.moves);
        to = moves_turn l c w W n r m h.0 k rs ∙ ap (λ (z : List Edges). m ∷ z) A.to;
        from = records_turn l c w W n u r m h.0 k ms ∙ ap (λ (z : List ℕ). r ∷ z) A.from;
        weight =
            ap₂ (semiring c.kind).times k.same.weight
            (A.weight ∙ ap (λ (t : Triple). moves_weight (semiring c.kind) (exact c.kind) (composed_of c) t.s1 t.s2 ms) k.same.target);
      }

  -- with sigma on machine 2 alone, or none, where no input of machine 1 is MAX
  module _ (N : SigmaOn2AtMost c) (labels1 : (q t : ℕ) → In t ((machine1 c).list q) → (machine1 c).input t ≢ no_label) where
    -- the output that a move of such a composition has
    abbrev written : Edges → ℕ
    written m = written_by c W.links N m.first m.second

    labels : (rs : List ℕ) (ms : List Edges) (n : ℕ) → Follows l c w n rs ms
        → (map (input_of w) rs ≡ map (composed_input (composed_of c)) ms) × (map (output_of w) rs ≡ map written ms)
    labels [] [] n h = (refl, refl)
    labels [] (m ∷ ms) n h = absurd h
    labels (r ∷ rs) [] n h = absurd h
    labels (r ∷ rs) (m ∷ ms) n h =
        let k = h.1 in
        let q = labels rs ms (target_of w r) h.2 in
        let t = state_at w n in (
          ap₂ ◌∷◌ (k.same.input ∙ input_by_lem c N.alone labels1 t k.direction m k.kept.1.0) q.0,
          ap₂ ◌∷◌ (k.same.output ∙ output_by_lem c W.links N k.direction t k.rule m h.0 k.kept) q.1,
        )

    -- accepting records have the labels of their moves
    pub records_labels : (rs : List ℕ) (n : ℕ) → n < w.session.used.states → AcceptingFrom l w n rs
        → (map (input_of w) rs ≡ map (composed_input (composed_of c)) (moves_of_records c w n rs)) × (map (output_of w) rs ≡ map written (moves_of_records c w n rs))
    records_labels rs n u h = labels rs (moves_of_records c w n rs) n (of_records rs n u h)

  module _ (n : ℕ) (u : n < w.session.used.states) where
    -- accepting records from a used state on, and what their moves share with them
    pub records_alike : (rs : List ℕ) → AcceptingFrom l w n rs → Alike l c w n rs (moves_of_records c w n rs)
    records_alike rs h = alike rs (moves_of_records c w n rs) n u (of_records rs n u h)

    pub moves_alike : (ms : List Edges) → AcceptingAt c (state_at w n) ms → Alike l c w n (records_of_moves c w n ms) ms
    moves_alike ms h = alike (records_of_moves c w n ms) ms n u (of_moves ms n u h)

    pub records_moves : OneToOne (AcceptingFrom l w n) (AcceptingAt c (state_at w n)) (moves_of_records c w n) (records_of_moves c w n)
    records_moves = record {
      goes = λ rs h. (records_alike rs h).moves;
      comes = λ ms h. (moves_alike ms h).records;
      from_to = λ rs h. (records_alike rs h).from;
      to_from = λ ms h. (moves_alike ms h).to;
    }
