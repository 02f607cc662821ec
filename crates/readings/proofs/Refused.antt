-- Why the expansion of a found state is refused, but for a record that is lacking: a refusal stands in 01's list of its steps.
use mathlib.Core.Path.{◌≡◌, refl, ◌∙◌, ap}
use mathlib.Core.List.Memᴰ
use mathlib.Core.List.{Memᴰ as In}
use mathlib.Core.Logic.{◌≢◌, ⊎_elim}
use Prim.Native.Nat.{ℕ}
use native.Mathlib.Omega.{arith}
use Rattle.lists.proofs.Places.{at_in, in_at}
use Rattle.papers.specs.Composition.{Edges, KeptMove}
use Rattle.words.specs.Labels.{Checked, good, refused}
use Rattle.words.specs.Matches.{MatchType}
use Rattle.words.specs.Sides.{Side}
use Rattle.words.specs.Steps.{Composition, kept_at, steps_at}
use Rattle.words.specs.Settings.{Settings, Lent, composition_of}
use Rattle.words.specs.AsPapers.{TooLarge, edges_of, composed_of, direction_of, WalkedSigma, weight_by}
use Rattle.words.proofs.CheckedLaws.{refused_is, good≢refused}
use Rattle.words.proofs.PapersOpened.{kept_as_papers, kept_refused, direction_refused, at_direction, sound_of}
use Rattle.words.proofs.PapersSteps.{opened_as_papers}
use Rattle.calls.specs.Checks.{store_of, side_for, entered}
use Rattle.calls.specs.Sequences.{World}
use Rattle.calls.proofs.ExpandKept.{sided}
use Rattle.calls.proofs.ExpandCases.{by_expand, stored_refused}
use Rattle.readings.specs.Worlds.{expand_in, UsedState, state_at}
use Rattle.readings.specs.Follows.{RefusedFor, undirected, walked_sigma, too_large}

module _ (s : Settings) (l : Lent) (side : Side) (rule : side_for s l ≡ good side) (w : World) where
  abbrev c : Composition
  c = composition_of s l side

  -- a refusal in the list
  in_list : (n k : ℕ) → In (refused k) (steps_at c (state_at w n)) → RefusedFor c w n k
  unfolding steps_at
  in_list n k i = go (direction_of c (state_at w n)) refl
    where
      go : (r : Checked MatchType) → direction_of c (state_at w n) ≡ r → RefusedFor c w n k
      go (refused j) e =
          let ten : j ≡ 10 = ((direction_refused c (state_at w n) j).0 e).0 in
          let h : k ≡ j = ⊎_elim refused_is (λ z. absurd (Memᴰ.not-nil z)) (Memᴰ.cases_cons (rw (kept_refused c (state_at w n) j e) at i)) in
          undirected (h ∙ ten) (e ∙ ap refused ten)
      go (good d) e =
          let z = sided s l side rule in
          let p = in_at i in
          ⊎_elim (λ h. walked_sigma h.0 d e h.1)
          (λ h.
          let v = h.1.0 in
          let listed = (kept_as_papers c (sound_of s l side z.formed1 z.formed2 z.rule) (state_at w n) d e).sound v (at_in (kept_at c (state_at w n)) p.0 h.1.1) in
          too_large h.0 (edges_of v.move) v.next ((at_direction c (state_at w n) d e (edges_of v.move) v.next).1 listed) h.1.2)
          ((opened_as_papers s l side z.formed1 z.formed2 z.rule (state_at w n) d e).refusals p.0 k p.1)

  pub refused_for : entered l w.session w.memory ≡ good c → (n : ℕ) → UsedState w n → (k : ℕ) → k ≢ 13 → (expand_in l w n).answer ≡ refused k → RefusedFor c w n k
  refused_for enters n u k other =
      by_expand l w.session w.memory c enters n (λ o. o.answer ≡ refused k → RefusedFor c w n k)
      (λ a e. absurd (omega (arith, a, u))) (λ a x e. absurd (good≢refused e))
      (λ a b j y e. ⊎_elim (λ h. absurd (other h)) (in_list n k) (stored_refused (store_of w.session w.memory) (steps_at c (state_at w n)) k (y ∙ ap refused (refused_is e))))
      (λ a b d g e. absurd (good≢refused e))

-- what each number says
module _ (c : Composition) (w : World) (n : ℕ) where
  pub says_ten : RefusedFor c w n 10 → direction_of c (state_at w n) ≡ refused 10
  says_ten (undirected e h) = h
  says_ten (walked_sigma e d r h) = absurd (omega (arith, e))
  says_ten (too_large e m g r h) = absurd (omega (arith, e))

  pub says_eleven : RefusedFor c w n 11 → (d : MatchType) × (direction_of c (state_at w n) ≡ good d) × WalkedSigma d c.operand1 c.operand2 (state_at w n).s1 (state_at w n).s2
  says_eleven (undirected e h) = absurd (omega (arith, e))
  says_eleven (walked_sigma e d r h) = (d, r, h)
  says_eleven (too_large e m g r h) = absurd (omega (arith, e))

  pub says_twelve : RefusedFor c w n 12 → (m : Edges) × (g : ℕ) × KeptMove (composed_of c) (state_at w n) m g × TooLarge c.kind (weight_by c m)
  says_twelve (undirected e h) = absurd (omega (arith, e))
  says_twelve (walked_sigma e d r h) = absurd (omega (arith, e))
  says_twelve (too_large e m g r h) = (m, g, r, h)
