-- 3c on the machines as lent: replacement changes inner labels alone, and no path, weight or outer label goes by them. And lists of calls: the settings stay, so each call is that of
-- the replaced words.
use mathlib.Core.Path.{◌≡◌, refl, ◌∙◌, ap, ap₂}
use mathlib.Core.Bool.{Bool, true}
use mathlib.Core.List.{List, [], ◌∷◌}
use mathlib.Core.Logic.{◌↔◌}
use Prim.Native.Nat.{ℕ}
use Rattle.papers.specs.Weight.{Semiring, semiring}
use Rattle.papers.specs.Filter.{MoveKind}
use Rattle.papers.specs.Machine.{Machine}
use Rattle.papers.specs.Paths.{Accepting, AcceptingPath, path_weight}
use Rattle.words.specs.Machines.{well_formed}
use Rattle.words.specs.Ignored.{heard, ignored_ok}
use Rattle.words.specs.Sides.{Side, non_empty}
use Rattle.words.specs.Steps.{Composition}
use Rattle.words.specs.Settings.{Settings, Lent, ignored_by, composition_of}
use Rattle.words.specs.AsPapers.{exact}
use Rattle.calls.specs.Store.{six}
use Rattle.calls.specs.Sequences.{World, Call, opening, expand, final_weight, records, run, Turn, Reply, call_of, replies, after, call_with, replies_with, after_with}
use Rattle.calls.specs.Ignoring.{replaced_lent, AsReplaced}
use Rattle.calls.proofs.Ignoring.{call_settings, otherwise_replaced}
use Rattle.readings.specs.Worlds.{OpeningsRefused}
use Rattle.readings.specs.StorePaths.{machine1, machine2, AgreeingPair, pair_of_records, Paths}
use Rattle.readings.specs.LentPaths.{lent1, lent2, AgreeingLent, LentPaths, CallsAsReplaced}
use Rattle.readings.proofs.Correspondences.{exchanged}
use Rattle.readings.proofs.Letters.{write_own}
use Rattle.readings.proofs.CallLists.{open_stays}

-- a machine with other labels
abbrev with_labels : Machine → (ℕ → ℕ) → (ℕ → ℕ) → Machine
with_labels M i o = record {
  states = M.states;
  start = M.start;
  list = M.list;
  input = i;
  output = o;
  weight = M.weight;
  target = M.target;
  is_final = M.is_final;
  final_weight = M.final_weight;
}

module _ (K : Semiring) (value : ℕ → K.Element) (M : Machine) (i o : ℕ → ℕ) where
  from_same : (q : ℕ) (p : List ℕ) → Accepting K value (with_labels M i o) q p ↔ Accepting K value M q p
  from_same q [] = (λ h. h, λ h. h)
  from_same q (t ∷ p) = let r = from_same (M.target t) p in (λ h. (h.0, r.0 h.1), λ h. (h.0, r.1 h.1))

  path_same : (p : List ℕ) → AcceptingPath K value (with_labels M i o) p ↔ AcceptingPath K value M p
  path_same p = (λ h. (h.0, h.1, (from_same h.0 p).0 h.2), λ h. (h.0, h.1, (from_same h.0 p).1 h.2))

  weight_same : (q : ℕ) (p : List ℕ) → path_weight K value (with_labels M i o) q p ≡ path_weight K value M q p
  weight_same q [] = refl
  weight_same q (t ∷ p) = ap (K.times (value (M.weight t))) (weight_same (M.target t) p)

module _ (s : Settings) (l : Lent) (side : Side) where
  abbrev c : Composition
  c = composition_of s l side

  module _ (K : Semiring) (value : ℕ → K.Element) where
    path1 : (p : List ℕ) → AcceptingPath K value (machine1 c) p ↔ AcceptingPath K value (lent1 l) p
    path1 = path_same K value (lent1 l) (lent1 l).input (λ t. heard (ignored_by s l) ((lent1 l).output t))

    path2 : (p : List ℕ) → AcceptingPath K value (machine2 c) p ↔ AcceptingPath K value (lent2 l) p
    path2 = path_same K value (lent2 l) (λ t. heard (ignored_by s l) ((lent2 l).input t)) (lent2 l).output

    weight1 : (q : ℕ) (p : List ℕ) → path_weight K value (machine1 c) q p ≡ path_weight K value (lent1 l) q p
    weight1 = weight_same K value (lent1 l) (lent1 l).input (λ t. heard (ignored_by s l) ((lent1 l).output t))

    weight2 : (q : ℕ) (p : List ℕ) → path_weight K value (machine2 c) q p ≡ path_weight K value (lent2 l) q p
    weight2 = weight_same K value (lent2 l) (λ t. heard (ignored_by s l) ((lent2 l).input t)) (lent2 l).output

  -- the pairs that agree are those of the replaced machines
  agreeing_lent : (p : List ℕ × List ℕ) → AgreeingPair c p ↔ AgreeingLent s l c p
  agreeing_lent p =
      let K = semiring c.kind in
      let v = exact c.kind in (
        λ h. record { first = (path1 K v p.0).0 h.first; second = (path2 K v p.1).0 h.second; inner = h.inner },
        λ h. record { first = (path1 K v p.0).1 h.first; second = (path2 K v p.1).1 h.second; inner = h.inner },
      )

  pub lent_paths : (pick : Bool → Bool → MoveKind) (w : World) → Paths l c pick w → LentPaths s l c pick w
  lent_paths pick w P =
      let K = semiring c.kind in
      let v = exact c.kind in
      record {
        paths = exchanged agreeing_lent P.paths;
        weights = λ t e rs h. P.weights t e rs h ∙ ap₂ K.times (weight1 K v t.s1 (pair_of_records c w rs).0) (weight2 K v t.s2 (pair_of_records c w rs).1);
        inputs = P.inputs;
        outputs = P.outputs;
        own_outputs = λ h. write_own l c w h P.outputs;
      }

module _ (l : Lent) (r : AsReplaced six l (λ s. replaced_lent s l)) where
  -- the settings stay along such a list
  settings_stay : (w : World) (x : Call) (cs : List Call) → OpeningsRefused l w (x ∷ cs) → ((call_of l w x).world.session.settings ≡ w.session.settings) × OpeningsRefused l (call_of l w x).world cs
  unfolding call_with
  settings_stay w (opening s k) cs h = (ap (λ (v : World). v.session.settings) (open_stays s k w h.0), h.1)
  settings_stay w (expand n) cs h = (call_settings six l w (expand n) (λ z. z), h)
  settings_stay w (final_weight n) cs h = (call_settings six l w (final_weight n) (λ z. z), h)
  settings_stay w (records n) cs h = (refl, h)
  settings_stay w run cs h = (call_settings six l w run (λ z. z), h)

  replies_replaced : (w : World) (cs : List Call) → OpeningsRefused l w cs → replies l w cs ≡ replies (replaced_lent w.session.settings l) w cs
  unfolding replies_with
  replies_replaced w [] h = refl
  replies_replaced w (x ∷ cs) h =
      let k = settings_stay w x cs h in
      let l' = replaced_lent w.session.settings l in
      let t = call_of l w x in
      ap (λ (y : List Reply). t.reply ∷ y) (replies_replaced t.world cs k.1 ∙ ap (λ (σ : Settings). replies (replaced_lent σ l) t.world cs) k.0)
      ∙ ap (λ (u : Turn). u.reply ∷ replies l' u.world cs) (r.call w x)

  after_replaced : (w : World) (cs : List Call) → OpeningsRefused l w cs → after l w cs ≡ after (replaced_lent w.session.settings l) w cs
  unfolding after_with
  after_replaced w [] h = refl
  after_replaced w (x ∷ cs) h =
      let k = settings_stay w x cs h in
      let l' = replaced_lent w.session.settings l in
      let t = call_of l w x in
      after_replaced t.world cs k.1 ∙ ap (λ (σ : Settings). after (replaced_lent σ l) t.world cs) k.0 ∙ ap (λ (u : Turn). after l' u.world cs) (r.call w x)

-- a list of calls in which each opening is refused, for machines well formed as lent and a nonempty list without 0 and MAX
pub calls_as_replaced : (l : Lent) → well_formed l.m1 ≡ true → well_formed l.m2 ≡ true → non_empty l.ignored ≡ true → ignored_ok l.ignored ≡ true
    → (w : World) (cs : List Call) → OpeningsRefused l w cs → CallsAsReplaced l w cs
calls_as_replaced l formed1 formed2 some ok w cs h =
    let r = otherwise_replaced six l formed1 formed2 some ok in
    record { replies = replies_replaced l r w cs h; after = after_replaced l r w cs h }
