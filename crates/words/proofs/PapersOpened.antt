-- The moves of a composed state: in the direction that its side gives; without sigma; and that every opening of well-formed machines with an accepted side is sound.
use mathlib.Core.Path.{◌≡◌, refl, sym, ◌∙◌, ap, subst}
use mathlib.Core.Bool.{Bool, true, false, ◌||◌, cond, true≢false}
use mathlib.Core.List.Memᴰ
use mathlib.Core.List.{List, [], ◌∷◌, Memᴰ as In}
use mathlib.Core.Logic.Iff
use mathlib.Core.Logic.{◌≢◌, ◌↔◌, inl, ⊎_elim}
use Prim.Native.Nat.{ℕ}
use native.Mathlib.Omega.{arith}
use lib.Dec.{eqb, leb}
use lib.ListN.{length}
use borrow.Author.Tests.{eqb-false, eq-eqb}
use Rattle.papers.specs.Machine.{Machine}
use Rattle.papers.specs.Filter.{MoveKind}
use Rattle.papers.specs.Composition.{Edge, along, Meets, equal, Triple, Edges, KeptMove}
use Rattle.papers.proofs.Forms.{met_change, Meeting, by_form, form1, form2, formε, formx}
use Rattle.words.specs.Labels.{eps_label, no_label, Checked, good, refused, refuse_if}
use Rattle.words.specs.Matches.{MatchType, inputs, outputs}
use Rattle.words.specs.Machines.{tr_word, list_of, well_formed}
use Rattle.words.specs.Sides.{Side, only, both, side_of, non_empty, direction_by, direction_at}
use Rattle.words.specs.Sigmas.{Operand, inner, sigma_trs}
use Rattle.words.specs.Steps.{Composition, Move, Kept, kept_along, kept_at}
use Rattle.words.specs.Settings.{Settings, Lent, ignored_by, operand1, operand2, composition_of}
use Rattle.words.specs.AsPapers.{edges_of, meets_in, composed_in, composed_of, plain, direction_of, matches_of}
use Rattle.words.proofs.ListLaws.{list_member, list_distinct}
use Rattle.words.proofs.FormLaws.{TrForm, form}
use Rattle.words.proofs.ReplacedLaws.{heard_small}
use Rattle.words.proofs.CheckedLaws.{good_is, good≢refused}
use Rattle.words.specs.Links.{Composable, Exactly}
use Rattle.words.proofs.PapersMoves.{kept_along_lem, outputs1, inputs2}

-- at every composed state: the papers' moves, each once
pub kept_as_papers : (c : Composition) → Composable c → (s : Triple) (d : MatchType) → direction_of c s ≡ good d → Exactly d c s (kept_at c s)
unfolding kept_at
kept_as_papers c S s d e = rw e (kept_along_lem c S s d)

-- or 10 alone,
pub kept_refused : (c : Composition) (s : Triple) (n : ℕ) → direction_of c s ≡ refused n → kept_at c s ≡ refused n ∷ []
unfolding kept_at
kept_refused c s n e = rw e

ten : (a b : Bool) (k l n : ℕ) → direction_by a b k l ≡ refused n → (n ≡ 10) × (a ≡ true) × (b ≡ true)
ten true true k l n e = (cc, refl, refl)
ten true false k l n e = absurd (good≢refused e)
ten false true k l n e = absurd (good≢refused e)
ten false false k l n e = absurd (good≢refused e)

-- just where the side is "both" and both states have a sigma transition
pub direction_refused : (c : Composition) (s : Triple) (n : ℕ)
    → (direction_of c s ≡ refused n)
    ↔ ((n ≡ 10) × (c.side ≡ both) × (non_empty (sigma_trs c.operand1 s.s1) ≡ true) × (non_empty (sigma_trs c.operand2 s.s2) ≡ true))
unfolding direction_at
direction_refused c s n = (λ e. go c.side refl e, λ h. rw (h.1, h.2, h.3, h.0))
  where
    go : (side : Side) → c.side ≡ side → direction_at side c.operand1 c.operand2 s.s1 s.s2 ≡ refused n
        → (n ≡ 10) × (c.side ≡ both) × (non_empty (sigma_trs c.operand1 s.s1) ≡ true) × (non_empty (sigma_trs c.operand2 s.s2) ≡ true)
    go (only on) e h = absurd (good≢refused h)
    go both e h =
        let r = ten (non_empty (sigma_trs c.operand1 s.s1)) (non_empty (sigma_trs c.operand2 s.s2)) (length (c.operand1.machine.list s.s1)) (length (c.operand2.machine.list s.s2)) n h in
        (r.0, e, r.1, r.2)

-- the one composition of all states is, at a state, that of its direction
pub at_direction : (c : Composition) (s : Triple) (d : MatchType) → direction_of c s ≡ good d → (m : Edges) (g : ℕ) → KeptMove (composed_of c) s m g ↔ KeptMove (composed_in d c) s m g
at_direction c s d e m g = (
  λ h. (h.0, (h.1.0, h.1.1, met_change (composed_of c).meets (composed_in d c).meets s.s1 s.s2 (λ x y l. rw e at l) h.0 _ _ h.1.2), h.2),
  λ h. (h.0, (h.1.0, h.1.1, met_change (composed_in d c).meets (composed_of c).meets s.s1 s.s2 (λ x y l. rw e l) h.0 _ _ h.1.2), h.2),
)

-- where there is no direction, no labels meet
pub no_direction : (c : Composition) (s : Triple) (n x y : ℕ) → direction_of c s ≡ refused n → (composed_of c).meets s.s1 s.s2 x y → ⊥
no_direction c s n x y e h = rw e at h

-- "MAX is `NO_LABEL`, never a label of a machine.": of machine 1's outputs, and of machine 2's inputs
pub inner_label1 : (c : Composition) → Composable c → (q t : ℕ) → In t (c.operand1.machine.list q) → c.operand1.machine.output t ≢ no_label
inner_label1 c S q t i e = S.labels1 q t i (ap (λ (l : ℕ → ℕ). l t) (outputs1 c S (record { s1 = q; s2 = q; f = 0 })) ∙ e)

pub inner_label2 : (c : Composition) → Composable c → (q u : ℕ) → In u (c.operand2.machine.list q) → c.operand2.machine.input u ≢ no_label
inner_label2 c S q u i e = S.labels2 q u i (ap (λ (l : ℕ → ℕ). l u) (inputs2 c S (record { s1 = q; s2 = q; f = 0 })) ∙ e)

-- without sigma labels the papers' relation is the plain one, in both directions
module _ (c : Composition) (S : Composable c) (none1 : c.operand1.sigma.label ≡ no_label) (none2 : c.operand2.sigma.label ≡ no_label) (s : Triple) where
  abbrev M : Machine
  M = c.operand1.machine

  abbrev N : Machine
  N = c.operand2.machine

  abbrev Pairs : Meets → MoveKind → Edge → Edge → Type 0
  Pairs meets k e1 e2 = Meeting M N M.output N.input meets s.s1 s.s2 k e1 e2

  -- it is enough to look at the labels of transitions that leave the two states
  change : (F G : Meets)
      → ((t u : ℕ) → In t (M.list s.s1) → In u (N.list s.s2) → F s.s1 s.s2 (M.output t) (N.input u) → G s.s1 s.s2 (M.output t) (N.input u))
      → (k : MoveKind) (e1 e2 : Edge) → Pairs F k e1 e2 → Pairs G k e1 e2
  change F G f =
      by_form M N M.output N.input F s.s1 s.s2 (λ k e1 e2. Pairs G k e1 e2)
      (form1 M N M.output N.input G s.s1 s.s2)
      (form2 M N M.output N.input G s.s1 s.s2)
      (formε M N M.output N.input G s.s1 s.s2)
      (λ t u i j n o m. formx M N M.output N.input G s.s1 s.s2 t u i j n o (f t u i j m))

  pub no_sigma_lem : (d : MatchType) (m : Edges) (g : ℕ) → KeptMove (composed_in d c) s m g ↔ KeptMove (plain c) s m g
  no_sigma_lem inputs m g = (
    λ h. (h.0, change (meets_in inputs c.operand1 c.operand2) equal (λ t u i j x. ⊎_elim (λ e. sym e) (λ r. absurd (inner_label2 c S s.s2 u j (r.0 ∙ none2))) x.1) h.0 m.first m.second h.1, h.2),
    λ h. (h.0, change equal (meets_in inputs c.operand1 c.operand2) (λ t u i j x. (λ e. inner_label1 c S s.s1 t i (e ∙ none2), inl (sym x))) h.0 m.first m.second h.1, h.2),
  )
  no_sigma_lem outputs m g = (
    λ h. (h.0, change (meets_in outputs c.operand1 c.operand2) equal (λ t u i j x. ⊎_elim (λ e. e) (λ r. absurd (inner_label1 c S s.s1 t i (r.0 ∙ none1))) x.1) h.0 m.first m.second h.1, h.2),
    λ h. (h.0, change equal (meets_in outputs c.operand1 c.operand2) (λ t u i j x. (λ e. inner_label2 c S s.s2 u j (e ∙ none1), inl x)) h.0 m.first m.second h.1, h.2),
  )

  -- no transition serves as sigma, so the matches are the same whichever machine is walked
  same_matches : (k : MoveKind) (e1 e2 : Edge) → Pairs equal k e1 e2
      → matches_of inputs c.operand1 c.operand2 (record { first = e1; second = e2 }) ≡ matches_of outputs c.operand1 c.operand2 (record { first = e1; second = e2 })
  same_matches =
      by_form M N M.output N.input equal s.s1 s.s2
      (λ k e1 e2. matches_of inputs c.operand1 c.operand2 (record { first = e1; second = e2 }) ≡ matches_of outputs c.operand1 c.operand2 (record { first = e1; second = e2 }))
      (λ t i e. refl) (λ u i e. refl) (λ t u i j e h. own_both t u (e ∙ sym h)) (λ t u i j n o m. own_both t u m)
    where
      own_both : (t u : ℕ) → M.output t ≡ N.input u
          → matches_of inputs c.operand1 c.operand2 (record { first = along t; second = along u }) ≡ matches_of outputs c.operand1 c.operand2 (record { first = along t; second = along u })
      own_both t u h =
          let e : inner c.operand1 t ≡ inner c.operand2 u = ap (λ (l : ℕ → ℕ). l t) (outputs1 c S s) ∙ (h ∙ sym (ap (λ (l : ℕ → ℕ). l u) (inputs2 c S s))) in
          rw (eq-eqb (inner c.operand2 u) (inner c.operand1 t) (sym e), eq-eqb (inner c.operand1 t) (inner c.operand2 u) e)

  other : (d e : MatchType) → ((m : Edges) (k : MoveKind) → Pairs equal k m.first m.second → matches_of e c.operand1 c.operand2 m ≡ matches_of d c.operand1 c.operand2 m)
      → (v : Kept) → In (good v) (kept_along c s d) → In (good v) (kept_along c s e)
  other d e same v i =
      let D = kept_along_lem c S s d in
      let m = edges_of v.move in
      let p = (no_sigma_lem d m v.next).0 (D.sound v i) in
      let j = (kept_along_lem c S s e).complete m v.next ((no_sigma_lem e m v.next).1 p) in
      let w : matches_of e c.operand1 c.operand2 m ≡ v.move = same m p.0 p.1 ∙ D.known v i in
      subst (λ (z : Move). In (good (record { move = z; next = v.next })) (kept_along c s e)) w j

  -- the two walks list the same kept moves
  pub either_way : (v : Kept) → In (good v) (kept_along c s inputs) ↔ In (good v) (kept_along c s outputs)
  either_way v = (
    other inputs outputs (λ m k h. sym (same_matches k m.first m.second h)) v,
    other outputs inputs (λ m k h. same_matches k m.first m.second h) v,
  )

-- a machine without a sigma label has no sigma transition, so that there is no 10
unset : (o : Operand) (s : ℕ) → o.sigma.label ≡ no_label → non_empty (sigma_trs o s) ≡ false
unfolding sigma_trs
unset o s e = rw (eq-eqb o.sigma.label no_label e)

pub directed : (c : Composition) (s : Triple) → c.operand1.sigma.label ≡ no_label → (d : MatchType) × (direction_of c s ≡ good d)
unfolding direction_at
directed c s e = go c.side
  where
    by : (b : Bool) (k l : ℕ) → (d : MatchType) × (direction_by false b k l ≡ good d)
    by true k l = (inputs, refl)
    by false k l = (cond (leb k l) inputs outputs, refl)

    go : (side : Side) → (d : MatchType) × (direction_at side c.operand1 c.operand2 s.s1 s.s2 ≡ good d)
    go (only on) = (on, refl)
    go both = rw (unset c.operand1 s.s1 e) (by (non_empty (sigma_trs c.operand2 s.s2)) (length (c.operand1.machine.list s.s1)) (length (c.operand2.machine.list s.s2)))

pub inputs≢outputs : inputs ≡ outputs → ⊥
inputs≢outputs h = true≢false cc

-- with a sigma label on machine 2 alone, direction output is taken under "both" only where its state has no sigma transition
pub unwalked_sigma : (c : Composition) (s : Triple) → c.operand1.sigma.label ≡ no_label → c.side ≡ both → direction_of c s ≡ good outputs → (u : ℕ) → In u (sigma_trs c.operand2 s.s2) → ⊥
unfolding direction_at
unwalked_sigma c s e b d u i = go (sigma_trs c.operand2 s.s2) i (rw (b, unset c.operand1 s.s1 e) at d)
  where
    go : (l : List ℕ) → In u l → direction_by false (non_empty l) (length (c.operand1.machine.list s.s1)) (length (c.operand2.machine.list s.s2)) ≡ good outputs → ⊥
    go [] j h = Memᴰ.not-nil j
    go (t ∷ ts) j h = inputs≢outputs (good_is h)

-- so 01's composition without sigma is the papers' plain one
pub plain_composition : (c : Composition) → Composable c → c.operand1.sigma.label ≡ no_label → c.operand2.sigma.label ≡ no_label → (s : Triple) (m : Edges) (g : ℕ)
    → KeptMove (composed_of c) s m g ↔ KeptMove (plain c) s m g
plain_composition c S e1 e2 s m g =
    let r = directed c s e1 in
    Iff.trans (at_direction c s r.0 r.1 m g) (no_sigma_lem c S e1 e2 s r.0 m g)

-- 4 was not given: neither sigma label is 0
not_four : (a b : Bool) (r : Checked Side) {side : Side} → refuse_if (a || b) 4 r ≡ good side → (a ≡ false) × (b ≡ false)
not_four true b r e = absurd (good≢refused (sym e))
not_four false true r e = absurd (good≢refused (sym e))
not_four false false r e = (refl, refl)

pub side_nonzero : (A B : Operand) (side : Side) → side_of A B ≡ good side → (A.sigma.label ≢ eps_label) × (B.sigma.label ≢ eps_label)
unfolding side_of
side_nonzero A B side e =
    let r = not_four (eqb A.sigma.label eps_label) (eqb B.sigma.label eps_label) _ e in
    (eqb-false _ _ r.0, eqb-false _ _ r.1)

-- a record in a list of a well-formed machine
pub listed_form : (m : List ℕ) → well_formed m ≡ true → (s t : ℕ) → In t (list_of m s) → TrForm m t
listed_form m w s t i = let r = list_member m s i in (form m w).tr t r.0 r.1

-- the composition that an opening fixes: its machines are well formed and its side is the one that 4 to 7 leave
pub sound_of : (s : Settings) (l : Lent) (side : Side) → well_formed l.m1 ≡ true → well_formed l.m2 ≡ true → side_of (operand1 s l) (operand2 s l) ≡ good side
    → Composable (composition_of s l side)
sound_of s l side w1 w2 e =
    let n = side_nonzero (operand1 s l) (operand2 s l) side e in
    record {
      on1 = refl;
      on2 = refl;
      distinct1 = list_distinct l.m1;
      distinct2 = list_distinct l.m2;
      labels1 = λ q t i d. let h = (listed_form l.m1 w1 q t i).output in omega (arith, h, d, heard_small (ignored_by s l) (tr_word l.m1 t 1));
      labels2 = λ q t i d. let h = (listed_form l.m2 w2 q t i).input in omega (arith, h, d, heard_small (ignored_by s l) (tr_word l.m2 t 0));
      nonzero1 = n.0;
      nonzero2 = n.1;
    }
