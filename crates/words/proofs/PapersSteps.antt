-- A step of 01 has the papers' input, output, target and exact weight of its move, the labels after 01's rewriting; it is refused just where the weight is too large. The list of a
-- composed state, place by place; its start.
use mathlib.Core.Path.{◌≡◌, refl, sym, ◌∙◌, ap, ap₂, subst}
use mathlib.Core.Bool.{Bool, true, false, cond}
use mathlib.Core.List.{List, [], ◌∷◌, map}
use mathlib.Core.Logic.{◌↔◌, ◌⊎◌, inl, inr}
use Rattle.std.specs.Prelude.{Option, None, Some}
use Rattle.std.proofs.lemmas.Option.{none-some, same_Some}
use Prim.Native.Nat.{ℕ}
use Rattle.lists.specs.Lists.{At}
use Rattle.lists.proofs.Places.{at_map, of_at_map, at_in, in_at}
use Rattle.papers.specs.Weight.{semiring}
use Rattle.papers.specs.Composition.{next_state, outer, Triple, Start, KeptMove, edge_weight}
use Rattle.words.specs.Labels.{Checked, good, refused, and_then, collect}
use Rattle.words.specs.Weights.{Kind, times}
use Rattle.words.specs.Matches.{MatchType, inputs, outputs, Match, loop, own, viaSigma, Tr, tr_of}
use Rattle.words.specs.Machines.{well_formed}
use Rattle.words.specs.Sides.{Side, side_of}
use Rattle.words.specs.Sigmas.{Operand, replace, rewrite, given}
use Rattle.words.specs.Steps.{Composition, asks, Kept, kept_at, Step, weighed, step_of, steps_at, start_of, start_at}
use Rattle.words.specs.Settings.{Settings, Lent, operand1, operand2, composition_of}
use Rattle.words.specs.AsPapers.{exact, TooLarge, edge_of, edges_of, composed_of, direction_of, WalkedSigma, matches_of, rewritten, weight_by}
use Rattle.words.specs.Links.{Composable, Exactly, IsStep, StepWeighed, StepsExactly}
use Rattle.words.proofs.PapersWeights.{product, times_some, times_none, exact_one}
use Rattle.words.proofs.CheckedLaws.{good_is, refused_is, good≢refused}
use Rattle.words.proofs.PapersOpened.{kept_as_papers, at_direction, sound_of}

-- what a match gives: rewriting touches labels alone
module _ (k : Kind) (o : Operand) (s x : ℕ) where
  given_weight_lem : (m : Match) → exact k (given k o s x m).weight ≡ edge_weight (semiring k) (exact k) o.machine (edge_of m)
  unfolding given
  given_weight_lem loop = exact_one k
  given_weight_lem (own t) = refl
  given_weight_lem (viaSigma t) = ap (exact k) (go o.sigma.rewrite_both o.on)
    where
      go : (b : Bool) (on : MatchType) → (rewrite b on o.sigma.label x (tr_of o.machine t)).weight ≡ o.machine.weight t
      go true on = refl
      go false inputs = refl
      go false outputs = refl

  given_target : (m : Match) → (given k o s x m).target ≡ next_state o.machine s (edge_of m)
  unfolding given
  given_target loop = refl
  given_target (own t) = refl
  given_target (viaSigma t) = go o.sigma.rewrite_both o.on
    where
      go : (b : Bool) (on : MatchType) → (rewrite b on o.sigma.label x (tr_of o.machine t)).target ≡ o.machine.target t
      go true on = refl
      go false inputs = refl
      go false outputs = refl

  given_input : o.on ≡ outputs → (m : Match) → (given k o s x m).input ≡ rewritten o.sigma x m (outer o.machine.input (edge_of m))
  unfolding given
  given_input e loop = refl
  given_input e (own t) = refl
  given_input e (viaSigma t) = rw e (go o.sigma.rewrite_both)
    where
      go : (b : Bool) → (rewrite b outputs o.sigma.label x (tr_of o.machine t)).input ≡ cond b (replace o.sigma.label x (o.machine.input t)) (o.machine.input t)
      go true = refl
      go false = refl

  given_output : o.on ≡ inputs → (m : Match) → (given k o s x m).output ≡ rewritten o.sigma x m (outer o.machine.output (edge_of m))
  unfolding given
  given_output e loop = refl
  given_output e (own t) = refl
  given_output e (viaSigma t) = rw e (go o.sigma.rewrite_both)
    where
      go : (b : Bool) → (rewrite b inputs o.sigma.label x (tr_of o.machine t)).output ≡ cond b (replace o.sigma.label x (o.machine.output t)) (o.machine.output t)
      go true = refl
      go false = refl

module _ (c : Composition) (S : Composable c) (s : Triple) (v : Kept) where
  abbrev a : Tr
  a = given c.kind c.operand1 s.s1 (asks c.operand2 v.move.second) v.move.first

  abbrev b : Tr
  b = given c.kind c.operand2 s.s2 (asks c.operand1 v.move.first) v.move.second

  weights : product c.kind a.weight b.weight ≡ weight_by c (edges_of v.move)
  weights = ap₂ (semiring c.kind).times (given_weight_lem c.kind c.operand1 s.s1 _ v.move.first) (given_weight_lem c.kind c.operand2 s.s2 _ v.move.second)

  made : (w : ℕ) → times c.kind a.weight b.weight ≡ Some w → (t : Step) → weighed a b v.next (Some w) ≡ good t → IsStep c s v t
  made w e t h =
      let q : record { input = a.input; output = b.output; weight = w; to = record { s1 = a.target; s2 = b.target; f = v.next } } ≡ t = good_is h in
      let p = (times_some c.kind a.weight b.weight w).0 e in
      subst (IsStep c s v) q
      (record {
        input = given_input c.kind c.operand1 s.s1 _ S.on1 v.move.first;
        output = given_output c.kind c.operand2 s.s2 _ S.on2 v.move.second;
        to = λ i. record { s1 = given_target c.kind c.operand1 s.s1 (asks c.operand2 v.move.second) v.move.first i; s2 = given_target c.kind c.operand2 s.s2 (asks c.operand1 v.move.first) v.move.second i; f = v.next };
        weight = p.0 ∙ weights;
        word = p.1;
      })

  pub step_good : (t : Step) → step_of c s v ≡ good t → IsStep c s v t
  unfolding step_of
  step_good t h = go (times c.kind a.weight b.weight) refl h
    where
      go : (o : Option ℕ) → times c.kind a.weight b.weight ≡ o → weighed a b v.next o ≡ good t → IsStep c s v t
      go None e h = absurd (good≢refused (sym h))
      go (Some w) e h = made w e t h

  -- 12, just where the exact weight is too large
  pub step_refused : (n : ℕ) → (step_of c s v ≡ refused n) ↔ ((n ≡ 12) × TooLarge c.kind (weight_by c (edges_of v.move)))
  unfolding step_of
  step_refused n = (
    λ h. go (times c.kind a.weight b.weight) refl h,
    λ h. rw ((times_none c.kind a.weight b.weight).1 (rw weights h.1), h.0),
  )
    where
      go : (o : Option ℕ) → times c.kind a.weight b.weight ≡ o → weighed a b v.next o ≡ refused n → (n ≡ 12) × TooLarge c.kind (weight_by c (edges_of v.move))
      go None e h = (cc, rw (← weights) ((times_none c.kind a.weight b.weight).0 e))
      go (Some w) e h = absurd (good≢refused h)

pub steps_as_papers : (c : Composition) → Composable c → (s : Triple) (d : MatchType) → direction_of c s ≡ good d → StepsExactly d c s (steps_at c s)
unfolding steps_at
steps_as_papers c S s d e =
    let E = kept_as_papers c S s d e in
    record {
      sound = λ k t h. let r = of_at_map step (kept_at c s) k h in of_good E k t r.0 r.1 r.2;
      known = λ k v i. E.known v (at_in (kept_at c s) k i);
      complete = λ m g h.
          let v : Kept = record { move = matches_of d c.operand1 c.operand2 m; next = g } in
          let p = in_at (E.complete m g ((at_direction c s d e m g).0 h)) in
          (p.0, v, E.itself m, refl, p.1, weigh p.0 v (step_of c s v) refl (at_map step (kept_at c s) p.0 p.1));
      once = E.once;
      refusals = λ k n h. let r = of_at_map step (kept_at c s) k h in of_refused E k n r.0 r.1 r.2;
      eleven = λ h. let p = in_at ((E.refusals 11).1 (refl, h)) in (p.0, at_map step (kept_at c s) p.0 p.1);
    }
  where
    step : Checked Kept → Checked Step
    step x = and_then x (step_of c s)

    of_good : Exactly d c s (kept_at c s) → (k : ℕ) (t : Step) (x : Checked Kept) → At (kept_at c s) k x → good t ≡ step x
        → (v : Kept) × At (kept_at c s) k (good v) × KeptMove (composed_of c) s (edges_of v.move) v.next × IsStep c s v t
    of_good E k t (good v) i h = (v, i, (at_direction c s d e (edges_of v.move) v.next).1 (E.sound v (at_in (kept_at c s) k i)), step_good c S s v t (sym h))
    of_good E k t (refused n) i h = absurd (good≢refused h)

    of_refused : Exactly d c s (kept_at c s) → (k n : ℕ) (x : Checked Kept) → At (kept_at c s) k x → refused n ≡ step x
        → ((n ≡ 11) × WalkedSigma d c.operand1 c.operand2 s.s1 s.s2) ⊎ ((n ≡ 12) × ((v : Kept) × At (kept_at c s) k (good v) × TooLarge c.kind (weight_by c (edges_of v.move))))
    of_refused E k n (good v) i h = let r = (step_refused c S s v n).0 (sym h) in inr (r.0, (v, i, r.1))
    of_refused E k n (refused m) i h = let r = (E.refusals m).0 (at_in (kept_at c s) k i) in inl (refused_is h ∙ r.0, r.1)

    weigh : (k : ℕ) (v : Kept) (r : Checked Step) → step_of c s v ≡ r → At (map step (kept_at c s)) k r → StepWeighed c s (map step (kept_at c s)) k v
    weigh k v (good t) h i = inl (t, i, step_good c S s v t h)
    weigh k v (refused n) h i = let r = (step_refused c S s v n).0 h in inr (subst (λ (z : ℕ). At (map step (kept_at c s)) k (refused z)) r.0 i, r.1)

-- at every triple of an opening with well-formed machines and an accepted side
pub opened_as_papers : (s : Settings) (l : Lent) (side : Side) → well_formed l.m1 ≡ true → well_formed l.m2 ≡ true → side_of (operand1 s l) (operand2 s l) ≡ good side
    → (t : Triple) (d : MatchType) → direction_of (composition_of s l side) t ≡ good d → StepsExactly d (composition_of s l side) t (steps_at (composition_of s l side) t)
opened_as_papers s l side w1 w2 e t d h = steps_as_papers (composition_of s l side) (sound_of s l side w1 w2 e) t d h

-- a list that is accepted holds steps alone, at their places
pub collected : {A : Type 0} (l : List (Checked A)) (xs : List A) → collect l ≡ good xs → l ≡ map good xs
unfolding collect
collected [] [] e = refl
collected [] (x ∷ xs) e = cc
collected (refused n ∷ l) xs e = absurd (good≢refused (sym e))
collected {A} (good a ∷ l) xs e = go (collect l) refl e (λ ys h. collected l ys h)
  where
    go : (r : Checked (List A)) → collect l ≡ r → and_then r (λ ys. good (a ∷ ys)) ≡ good xs → ((ys : List A) → collect l ≡ good ys → l ≡ map good ys) → good a ∷ l ≡ map good xs
    go (refused n) h d rec = absurd (good≢refused (sym d))
    go (good ys) h d rec = ap (λ z. good a ∷ z) (rec ys h) ∙ ap (map good) (good_is d)

-- the start
pub start_as_papers : (c : Composition) (s : Triple) → (start_at c ≡ Some s) ↔ Start (composed_of c) s
unfolding start_at
start_as_papers c s = (
  λ e. go c.operand1.machine.start c.operand2.machine.start refl refl e,
  λ h. rw (h.0, h.1) (ap Some (λ i. record { s1 = s.s1; s2 = s.s2; f = sym h.2 i })),
)
  where
    go : (a b : Option ℕ) → c.operand1.machine.start ≡ a → c.operand2.machine.start ≡ b → start_of a b ≡ Some s → Start (composed_of c) s
    go None b x y e = absurd (none-some _ e)
    go (Some q) None x y e = absurd (none-some _ e)
    go (Some q) (Some r) x y e =
        let h : record { s1 = q; s2 = r; f = 0 } ≡ s = same_Some _ _ e in
        (x ∙ ap (λ (z : Triple). Some z.s1) h, y ∙ ap (λ (z : Triple). Some z.s2) h, sym (ap (λ (z : Triple). z.f) h))
