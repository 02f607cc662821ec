-- The accepting paths of a store, as lists of record numbers, are those of the papers' composition (2b); with sigma on machine 2 alone, or none, they correspond one to one with the
-- pairs of accepting paths that agree (3c). The records of a state are its moves (PathRecords, PathFollows), and the moves are read by the theorem on the papers' composition (Filters); here the two are chained,
-- from the start.
use mathlib.Core.Path.{◌≡◌, refl, sym, ◌∙◌, ap, ap₂, subst}
use mathlib.Core.Bool.{Bool}
use mathlib.Core.List.{List, [], ◌∷◌, map, Memᴰ as In}
use mathlib.Core.Logic.{◌≢◌, ◌↔◌}
use Rattle.std.specs.Prelude.{Option, None, Some}
use Rattle.std.proofs.lemmas.Option.{none-some}
use Prim.Native.Nat.{ℕ, ◌<◌, ◌≤◌}
use native.Mathlib.Omega.{arith}
use Rattle.papers.specs.Weight.{semiring}
use Rattle.papers.specs.Filter.{MoveKind}
use Rattle.papers.specs.Composition.{Triple, Edges, reached}
use Rattle.papers.specs.Paths.{word, AcceptingMoves, AcceptingRun, moves_weight}
use Rattle.papers.specs.Sums.{weight_from, weight_of_pair}
use Rattle.papers.proofs.SemiringLaws.{semiring_laws}
use Rattle.papers.proofs.PathLaws.{agree_equal, input_word_lem, moves_weigh}
use Rattle.words.specs.Labels.{no_label, good}
use Rattle.words.specs.Sides.{Side}
use Rattle.words.specs.Steps.{Composition, start_at}
use Rattle.words.specs.Settings.{Settings, Lent, composition_of}
use Rattle.words.specs.AsPapers.{exact, composed_of, plain}
use Rattle.words.specs.Links.{Composable}
use Rattle.words.proofs.PapersOpened.{plain_composition, listed_form, sound_of}
use Rattle.words.proofs.PapersSteps.{start_as_papers}
use Rattle.calls.specs.Checks.{side_for}
use Rattle.calls.specs.Sequences.{World}
use Rattle.calls.proofs.ExpandKept.{sided}
use Rattle.readings.specs.Correspondence.{OneToOne}
use Rattle.readings.specs.Readings.{Pair}
use Rattle.readings.specs.Listed.{pick_of}
use Rattle.readings.specs.Worlds.{state_at, Found, at_start, as_target, Sound}
use Rattle.readings.specs.StorePaths.{machine1, machine2, sigma2, SigmaOn2AtMost, PairsWith, AgreeingPair, AcceptingRecords, moves_of_records, records_of_moves, pair_of_records, records_of_pair, records_weight, WeighBoth, ReadFirst, WriteSecond, Paths, Settled, Finished, AllRead}
use Rattle.readings.specs.Follows.{PapersPaths}
use Rattle.readings.proofs.Correspondences.{chained, exchanged}
use Rattle.readings.proofs.Letters.{set_where, agree_unset, written_word_lem}
use Rattle.readings.proofs.Listed.{readings_of}
use Rattle.readings.proofs.PathRecords.{Whole}
use Rattle.readings.proofs.PathFollows.{AcceptingAt, records_alike, records_moves, records_labels}

pub whole : (s : Settings) (l : Lent) (side : Side) → side_for s l ≡ good side → (w : World) → Sound l (composition_of s l side) w → AllRead l w → Whole l (composition_of s l side) w
whole s l side rule w S R =
    let z = sided s l side rule in
    record { links = sound_of s l side z.formed1 z.formed2 z.rule; sound = S; expanded = R.expanded; weighed = R.weighed }

-- what is found goes back to the start
begun : (c : Composition) (w : World) (n : ℕ) → Found c w n → (t : Triple) × (start_at c ≡ Some t)
begun c w n (at_start _ t e z) = (t, e)
begun c w n (as_target _ k r f x i e) = begun c w k f

-- so where a state is used, both machines have a start
pub begins : (l : Lent) (c : Composition) (w : World) → Sound l c w → 0 < w.session.used.states → (t : Triple) × (start_at c ≡ Some t)
begins l c w S h = begun c w 0 ((S.found 0).0 h)

-- there the weights of its paths are those of the pairs, from the machines' own starts
pub pair_weighs : (l : Lent) (c : Composition) (w : World) → Sound l c w → WeighBoth l c w → (rs : List ℕ) → AcceptingRecords l w rs
    → records_weight c.kind l w 0 rs ≡ weight_of_pair (semiring c.kind) (exact c.kind) (machine1 c) (machine2 c) (pair_of_records c w rs)
pair_weighs l c w S B rs h =
    let t = begins l c w S h.0 in
    let q = (start_as_papers c t.0).0 t.1 in
    B t.0 t.1 rs h
    ∙ ap₂ (semiring c.kind).times (ap (λ (o : Option ℕ). weight_from (semiring c.kind) (exact c.kind) o (machine1 c) (pair_of_records c w rs).0) (sym q.0))
    (ap (λ (o : Option ℕ). weight_from (semiring c.kind) (exact c.kind) o (machine2 c) (pair_of_records c w rs).1) (sym q.1))

module _ (l : Lent) (c : Composition) (w : World) (W : Whole l c w) where
  -- where the start is t, state 0 is used and has its triple
  from_start : (t : Triple) → start_at c ≡ Some t → (0 < w.session.used.states) × (state_at w 0 ≡ t)
  from_start t e = ((W.sound.found 0).1 (at_start 0 t e refl), W.sound.start t e)

  start_records : OneToOne (AcceptingRecords l w) (AcceptingRun (semiring c.kind) (exact c.kind) (composed_of c)) (moves_of_records c w 0) (records_of_moves c w 0)
  start_records = record {
    goes = λ rs h.
        let t = begins l c w W.sound h.0 in
        (t.0, (start_as_papers c t.0).0 t.1, subst (λ q. AcceptingAt c q (moves_of_records c w 0 rs)) (from_start t.0 t.1).1 ((records_moves l c w W 0 h.0).goes rs h.1));
    comes = λ ms h. let u = used ms h in (u.0, (records_moves l c w W 0 u.0).comes ms u.1);
    from_to = λ rs h. (records_moves l c w W 0 h.0).from_to rs h.1;
    to_from = λ ms h. let u = used ms h in (records_moves l c w W 0 u.0).to_from ms u.1;
  }
    where
      used : (ms : List Edges) → AcceptingRun (semiring c.kind) (exact c.kind) (composed_of c) ms
          → (0 < w.session.used.states) × AcceptingAt c (state_at w 0) ms
      used ms h =
          let f = from_start h.0 ((start_as_papers c h.0).1 h.1) in
          (f.0, subst (λ q. AcceptingAt c q ms) (sym f.1) h.2)

-- 2b, of every sound store whose states are all expanded and weighed, sigma set or not
pub papers_paths : (s : Settings) (l : Lent) (side : Side) → side_for s l ≡ good side → (w : World) → Sound l (composition_of s l side) w → AllRead l w
    → PapersPaths l (composition_of s l side) w
papers_paths s l side rule w S R =
    let c = composition_of s l side in
    let W = whole s l side rule w S R in
    record { paths = start_records l c w W; weights = λ rs h. (records_alike l c w W 0 h.0 rs h.1).weight }

-- without sigma the papers' composition is the plain one, so they have the same accepting paths
module _ (c : Composition) (P : Composable c) (none1 : c.operand1.sigma.label ≡ no_label) (none2 : c.operand2.sigma.label ≡ no_label) where
  plain_moves : (ms : List Edges) (t : Triple)
      → AcceptingMoves (semiring c.kind) (exact c.kind) (composed_of c) t ms ↔ AcceptingMoves (semiring c.kind) (exact c.kind) (plain c) t ms
  plain_moves [] t = (λ h. h, λ h. h)
  plain_moves (m ∷ ms) t = (
    λ h. (h.0, (plain_composition c P none1 none2 t m h.0).0 h.1, (plain_moves ms (reached (plain c) t m h.0)).0 h.2),
    λ h. (h.0, (plain_composition c P none1 none2 t m h.0).1 h.1, (plain_moves ms (reached (plain c) t m h.0)).1 h.2),
  )

  plain_runs : (ms : List Edges) → AcceptingRun (semiring c.kind) (exact c.kind) (composed_of c) ms ↔ AcceptingRun (semiring c.kind) (exact c.kind) (plain c) ms
  plain_runs ms = (λ h. (h.0, h.1, (plain_moves ms h.0).0 h.2), λ h. (h.0, h.1, (plain_moves ms h.0).1 h.2))

-- the pairs that match, in the demand's words
agreeing : (c : Composition) (p : List ℕ × List ℕ) → Pair (semiring c.kind) (exact c.kind) (PairsWith (sigma2 c)) (composed_of c) p ↔ AgreeingPair c p
agreeing c p = (λ h. record { first = h.0; second = h.1; inner = h.2 }, λ h. (h.first, h.second, h.inner))

-- without sigma they are those of the plain composition
pub agreeing_plain : (c : Composition) → (sigma2 c).label ≡ no_label → (p : List ℕ × List ℕ) → Pair (semiring c.kind) (exact c.kind) ◌≡◌ (plain c) p ↔ AgreeingPair c p
agreeing_plain c e p =
    let xs = word (map (machine1 c).output p.0) in
    let ys = word (map (machine2 c).input p.1) in
    let m = agree_equal xs ys in
    let n = agree_unset (sigma2 c) e xs ys in
    (λ h. record { first = h.0; second = h.1; inner = n.1 (m.0 h.2) }, λ h. (h.first, h.second, m.1 (n.0 h.inner)))

-- of every sound store that is read, with sigma on machine 2 alone or none, whichever the filter, the side and the order of the lists
module _ (s : Settings) (l : Lent) (side : Side) (rule : side_for s l ≡ good side) (w : World) (S : Sound l (composition_of s l side) w) (R : AllRead l w)
    (N : SigmaOn2AtMost (composition_of s l side)) where
  abbrev c : Composition
  c = composition_of s l side

  all_whole : Whole l c w
  all_whole = whole s l side rule w S R

  -- what its accepting paths tell of their pairs
  pub weigh_both : WeighBoth l c w
  weigh_both t e rs h =
      (records_alike l c w all_whole 0 h.0 rs h.1).weight
      ∙ ap (λ (q : Triple). moves_weight (semiring c.kind) (exact c.kind) (composed_of c) q.s1 q.s2 (moves_of_records c w 0 rs)) (S.start t e)
      ∙ moves_weigh (semiring c.kind) (semiring_laws c.kind) (exact c.kind) (composed_of c) t.s1 t.s2 (moves_of_records c w 0 rs)

  labels1 : (q t : ℕ) → In t ((machine1 c).list q) → (machine1 c).input t ≢ no_label
  labels1 q t i e = let h = (listed_form l.m1 (sided s l side rule).formed1 q t i).input in omega (arith, h, e)

  pub read_first : ReadFirst l c w
  read_first rs h = ap word (records_labels l c w all_whole N labels1 rs 0 h.0 h.1).0 ∙ input_word_lem (composed_of c) (moves_of_records c w 0 rs)

  pub write_second : WriteSecond l c w
  write_second rs h =
      ap word (records_labels l c w all_whole N labels1 rs 0 h.0 h.1).1
      ∙ written_word_lem c all_whole.links N (semiring c.kind) (exact c.kind) (state_at w 0) (moves_of_records c w 0 rs) (records_alike l c w all_whole 0 h.0 rs h.1).moves

-- 3c, of every sound and finished store
pub store_paths : (s : Settings) (l : Lent) (side : Side) → side_for s l ≡ good side → (w : World) → Sound l (composition_of s l side) w → Finished s l (composition_of s l side) w
    → Paths l (composition_of s l side) (pick_of s.filter) w
store_paths s l side rule w S F =
    let c = composition_of s l side in
    let W = whole s l side rule w S F.read in
    record {
      paths = chained (start_records l c w W) (exchanged (agreeing c) (readings_of c W.links F.sigma s.filter F.filter refl).paths);
      weights = weigh_both s l side rule w S F.read F.sigma;
      inputs = read_first s l side rule w S F.read F.sigma;
      outputs = write_second s l side rule w S F.read F.sigma;
    }

-- with no sigma label set
module _ (s : Settings) (l : Lent) (side : Side) (w : World) (N : Settled s l w) where
  pub no_sigmas : SigmaOn2AtMost (composition_of s l side)
  no_sigmas = record { alone = N.sigma1; side = λ e. absurd (set_where (sigma2 (composition_of s l side)) e N.sigma2); letters = λ e q t i. absurd (set_where (sigma2 (composition_of s l side)) e N.sigma2) }

  pub finished : s.filter ≤ 2 → Finished s l (composition_of s l side) w
  finished h = record { filter = h; sigma = no_sigmas; read = N.read }

  -- the accepting paths are those of the plain composition
  pub plain_records : side_for s l ≡ good side → Sound l (composition_of s l side) w
      → let c = composition_of s l side in
      OneToOne (AcceptingRecords l w) (AcceptingRun (semiring c.kind) (exact c.kind) (plain c)) (moves_of_records c w 0) (records_of_moves c w 0)
  plain_records rule S =
      let c = composition_of s l side in
      let W = whole s l side rule w S N.read in
      exchanged (plain_runs c W.links N.sigma1 N.sigma2) (start_records l c w W)

-- a machine without a start: the store has no accepting path, and there is no pair
pub none_without_start : (l : Lent) (c : Composition) (pick : Bool → Bool → MoveKind) (w : World) → Sound l c w → Paths l c pick w → start_at c ≡ None
    → ((rs : List ℕ) → AcceptingRecords l w rs → ⊥) × ((p : List ℕ × List ℕ) → AgreeingPair c p → ⊥)
none_without_start l c pick w S P e = (no_records, λ p h. no_records (records_of_pair c pick w p) (P.paths.comes p h))
  where
    no_records : (rs : List ℕ) → AcceptingRecords l w rs → ⊥
    no_records rs h = none-some _ (sym e ∙ (begins l c w S h.0).1)
