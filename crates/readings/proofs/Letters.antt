-- Sigma on machine 2 alone (02, 2.4): which labels meet is then told by one relation, whatever the states and the direction; and what becomes of outer labels. In direction input no
-- walked label is sigma, so that an own match and a sigma match are never one; direction output is taken only where machine 2's state has no sigma transition.
use mathlib.Core.Path.{◌≡◌, refl, sym, ◌∙◌, ap, ap₂, subst}
use mathlib.Core.Bool.{Bool, true, false, cond, true≢false, and-false}
use mathlib.Core.List.{List, [], ◌∷◌, ◌++◌, map, flat_map, Memᴰ as In}
use mathlib.Core.Logic.{◌≢◌, ◌⊎◌, ◌↔◌, inl, inr, ⊎_elim}
use Prim.Native.Nat.{ℕ}
use lib.Dec.{eqb}
use borrow.Author.Tests.{eqb-true, eqb-false, eq-eqb, ne_eqb, not-true, not-false}
use Rattle.lists.proofs.Members.{and_right}
use Rattle.papers.specs.Machine.{ε, Machine}
use Rattle.papers.specs.Weight.{Semiring}
use Rattle.papers.specs.Filter.{MoveKind}
use Rattle.papers.specs.Composition.{Edge, rest, along, outer, Triple, Edges, KeptMove, reached}
use Rattle.papers.specs.Paths.{word, taken, path1, path2, Agree, AcceptingMoves}
use Rattle.papers.proofs.Forms.{Meeting, by_form}
use Rattle.papers.proofs.PathLaws.{word_ε, word_label, word_same, agree_equal}
use Rattle.words.specs.Labels.{no_label, good}
use Rattle.words.specs.Matches.{MatchType, inputs, outputs, own, viaSigma}
use Rattle.words.specs.Sigmas.{Sigma, Operand, inner, is_set, is_sigma, replace}
use Rattle.words.specs.Sides.{direction_at}
use Rattle.words.specs.Steps.{Composition}
use Rattle.words.specs.Settings.{Lent}
use Rattle.words.specs.AsPapers.{edge_of, meets_in, meets_by, composed_of, direction_of, matches_of, rewritten, output_by}
use Rattle.words.specs.Links.{Composable}
use Rattle.words.proofs.CheckedLaws.{good_is}
use Rattle.words.proofs.PapersLookup.{in_sigmas}
use Rattle.words.proofs.PapersMoves.{outputs1, inputs2}
use Rattle.words.proofs.PapersOpened.{inner_label1, inner_label2, directed, inputs≢outputs, unwalked_sigma}
use Rattle.calls.specs.Sequences.{World}
use Rattle.readings.specs.Readings.{MeetBy, at}
use Rattle.readings.specs.StorePaths.{machine1, machine2, sigma2, SigmaOn2AtMost, PairsWith, pair_of_records, output_for, outputs_for, WriteSecond, WriteOwn}

-- whether a sigma label is set, and whether a label is it
pub set_where : (σ : Sigma) → is_set σ ≡ true → σ.label ≢ no_label
set_where σ e = eqb-false _ _ (not-true _ e)

unset_where : (σ : Sigma) → is_set σ ≡ false → σ.label ≡ no_label
unset_where σ e = eqb-true _ _ (not-false _ e)

is_sigma_lem : (σ : Sigma) (y : ℕ) → y ≢ no_label → y ≡ σ.label → is_sigma σ y ≡ true
is_sigma_lem σ y n e = rw (ne_eqb σ.label no_label (λ z. n (e ∙ z)), eq-eqb y σ.label e)

not_sigma_lem : (σ : Sigma) (y : ℕ) → y ≢ σ.label → is_sigma σ y ≡ false
not_sigma_lem σ y n = rw (ne_eqb y σ.label n, and-false)

-- what agrees by one relation agrees by a wider one
agree_by : (R Q : ℕ → ℕ → Type 0) → ((x y : ℕ) → R x y → Q x y) → (xs ys : List ℕ) → Agree R xs ys → Agree Q xs ys
agree_by R Q f [] [] h = tt
agree_by R Q f [] (y ∷ ys) h = absurd h
agree_by R Q f (x ∷ xs) [] h = absurd h
agree_by R Q f (x ∷ xs) (y ∷ ys) h = (f x y h.0, agree_by R Q f xs ys h.1)

-- without sigma: no label is it, so labels pair just where they are equal,
unset_sigma : (σ : Sigma) (y : ℕ) → σ.label ≡ no_label → is_sigma σ y ≡ false
unset_sigma σ y e = rw (eq-eqb σ.label no_label e)

pub agree_unset : (σ : Sigma) → σ.label ≡ no_label → (xs ys : List ℕ) → Agree (PairsWith σ) xs ys ↔ (xs ≡ ys)
agree_unset σ e xs ys =
    let r = agree_equal xs ys in (
      λ h. r.0 (agree_by (PairsWith σ) (λ x y. x ≡ y) (λ x y. ⊎_elim (λ z. sym z) (λ z. absurd (true≢false (sym z.0 ∙ unset_sigma σ y e)))) xs ys h),
      λ h. agree_by (λ x y. x ≡ y) (PairsWith σ) (λ x y z. inl (sym z)) xs ys (r.1 h),
    )

-- and nothing is rewritten, as where sigma is rewritten on the matched side alone
own_output : (σ : Sigma) (B : Machine) → (σ.label ≡ no_label) ⊎ (σ.rewrite_both ≡ false) → (x u : ℕ) → output_for σ B x u ≡ B.output u
own_output σ B (inl e) x u = rw (unset_sigma σ (B.input u) e)
own_output σ B (inr e) x u = rw (e, and-false)

own_outputs : (σ : Sigma) (B : Machine) → (σ.label ≡ no_label) ⊎ (σ.rewrite_both ≡ false) → (z p : List ℕ) → outputs_for σ B z p ≡ map B.output p
unfolding outputs_for
own_outputs σ B h z [] = refl
own_outputs σ B h [] (u ∷ p) = ap (λ (l : List ℕ). B.output u ∷ l) (own_outputs σ B h [] p)
own_outputs σ B h (x ∷ z) (u ∷ p) = go (eqb (B.input u) ε) (own_outputs σ B h (x ∷ z) p) (own_outputs σ B h z p)
  where
    go : (b : Bool) → outputs_for σ B (x ∷ z) p ≡ map B.output p → outputs_for σ B z p ≡ map B.output p
        → cond b (B.output u ∷ outputs_for σ B (x ∷ z) p) (output_for σ B x u ∷ outputs_for σ B z p) ≡ B.output u ∷ map B.output p
    go true same later = ap (λ (l : List ℕ). B.output u ∷ l) same
    go false same later = ap₂ ◌∷◌ (own_output σ B h x u) later

-- an ε takes no letter, another label the next one
output_ε : (σ : Sigma) (B : Machine) (z : List ℕ) (u : ℕ) (p : List ℕ) → B.input u ≡ ε → outputs_for σ B z (u ∷ p) ≡ B.output u ∷ outputs_for σ B z p
unfolding outputs_for
output_ε σ B [] u p e = refl
output_ε σ B (x ∷ z) u p e = rw (eq-eqb (B.input u) ε e)

output_label : (σ : Sigma) (B : Machine) (x : ℕ) (z : List ℕ) (u : ℕ) (p : List ℕ) → B.input u ≢ ε → outputs_for σ B (x ∷ z) (u ∷ p) ≡ output_for σ B x u ∷ outputs_for σ B z p
unfolding outputs_for
output_label σ B x z u p n = rw (ne_eqb (B.input u) ε n)

-- so the outputs of a store's accepting paths are then the second path's own
pub write_own : (l : Lent) (c : Composition) (w : World) → ((sigma2 c).label ≡ no_label) ⊎ ((sigma2 c).rewrite_both ≡ false) → WriteSecond l c w → WriteOwn l c w
write_own l c w h written rs a = written rs a ∙ ap word (own_outputs (sigma2 c) (machine2 c) h _ (pair_of_records c w rs).1)

module _ (c : Composition) (S : Composable c) (N : SigmaOn2AtMost c) where
  abbrev A : Operand
  A = c.operand1

  abbrev B : Operand
  B = c.operand2

  abbrev σ : Sigma
  σ = sigma2 c

  -- no output of machine 1 is machine 2's sigma label, set or not
  pub letter : (q t : ℕ) → In t ((machine1 c).list q) → (machine1 c).output t ≢ σ.label
  letter q t i = go (is_set σ) refl
    where
      go : (b : Bool) → is_set σ ≡ b → (machine1 c).output t ≢ σ.label
      go true e = N.letters e q t i
      go false e = λ z. inner_label1 c S q t i (z ∙ unset_where σ e)

  -- and where machine 2 is walked, none of its inputs there is
  pub walked_letter : (s : Triple) → direction_of c s ≡ good outputs → (u : ℕ) → In u ((machine2 c).list s.s2) → (machine2 c).input u ≢ σ.label
  unfolding direction_at
  walked_letter s d u i = go (is_set σ) refl
    where
      go : (b : Bool) → is_set σ ≡ b → (machine2 c).input u ≢ σ.label
      go false e z = inner_label2 c S s.s2 u i (z ∙ unset_where σ e)
      go true e z =
          let same = ap (λ (l : ℕ → ℕ). l u) (inputs2 c S s) in
          ⊎_elim
          (λ h. inputs≢outputs (good_is (rw h at d)))
          (λ h. unwalked_sigma c s N.alone h d u (in_sigmas B s.s2 i (same ∙ z) (S.labels2 s.s2 u i)))
          (N.side e)

  -- so whatever the states and the direction, labels meet just where they pair
  pub pairs_meet : MeetBy (PairsWith σ) (composed_of c)
  pairs_meet q1 q2 t u i j nx ny =
      let r = directed c (at q1 q2) N.alone in
      subst (λ d. meets_by d A B q1 q2 ((machine1 c).output t) ((machine2 c).input u) ↔ PairsWith σ ((machine1 c).output t) ((machine2 c).input u)) (sym r.1) (go r.0 r.1)
    where
      is_label_lem : is_sigma σ ((machine2 c).input u) ≡ true → (machine2 c).input u ≡ σ.label
      is_label_lem e = eqb-true _ _ (and_right (is_set σ) _ e)

      go : (d : MatchType) → direction_of c (at q1 q2) ≡ good d
          → meets_in d A B q1 q2 ((machine1 c).output t) ((machine2 c).input u) ↔ PairsWith σ ((machine1 c).output t) ((machine2 c).input u)
      go inputs e = (
        λ h. ⊎_elim inl (λ r. inr (is_sigma_lem σ ((machine2 c).input u) (inner_label2 c S q2 u j) r.0, r.1)) h.1,
        λ h. (letter q1 t i, ⊎_elim inl (λ r. inr (is_label_lem r.0, r.1)) h),
      )
      go outputs e = (
        λ h. ⊎_elim (λ z. inl (sym z)) (λ r. absurd (inner_label1 c S q1 t i (r.0 ∙ N.alone))) h.1,
        λ h. (λ z. inner_label2 c S q2 u j (z ∙ N.alone), inl (⊎_elim (λ z. sym z) (λ r. absurd (walked_letter (at q1 q2) e u j (is_label_lem r.0))) h)),
      )

  -- the output of a composed transition, by its edges
  abbrev pub written_by : Edge → Edge → ℕ
  written_by e1 rest = ε
  written_by rest (along u) = (machine2 c).output u
  written_by (along t) (along u) = output_for σ (machine2 c) ((machine1 c).output t) u

  -- two transitions whose labels pair: an own match stays as it is, and a sigma match is rewritten
  along_both : (d : MatchType) (s : Triple) → direction_of c s ≡ good d → (t u : ℕ) → In t ((machine1 c).list s.s1) → In u ((machine2 c).list s.s2)
      → PairsWith σ ((machine1 c).output t) ((machine2 c).input u)
      → output_by c (matches_of d A B (record { first = along t; second = along u })) ≡ output_for σ (machine2 c) ((machine1 c).output t) u
  along_both outputs s e t u i j p = sym (rw (not_sigma_lem σ ((machine2 c).input u) (walked_letter s e u j)))
  along_both inputs s e t u i j p = go (eqb (inner B u) (inner A t)) refl
    where
      same1 : inner A t ≡ (machine1 c).output t
      same1 = ap (λ (l : ℕ → ℕ). l t) (outputs1 c S s)

      same2 : inner B u ≡ (machine2 c).input u
      same2 = ap (λ (l : ℕ → ℕ). l u) (inputs2 c S s)

      go : (b : Bool) → eqb (inner B u) (inner A t) ≡ b
          → rewritten σ (inner A t) (cond b (own u) (viaSigma u)) (outer (machine2 c).output (edge_of (cond b (own u) (viaSigma u)))) ≡ output_for σ (machine2 c) ((machine1 c).output t) u
      go true h = sym (rw (not_sigma_lem σ ((machine2 c).input u) (λ z. letter s.s1 t i (sym same1 ∙ (sym (eqb-true _ _ h) ∙ (same2 ∙ z))))))
      go false h =
          ⊎_elim
          (λ z. absurd (eqb-false _ _ h (same2 ∙ (z ∙ sym same1))))
          (λ r. rw r.0 (ap (λ (x : ℕ). cond σ.rewrite_both (replace σ.label x ((machine2 c).output u)) ((machine2 c).output u)) same1))
          p

  pub output_by_lem : (d : MatchType) (s : Triple) → direction_of c s ≡ good d → (m : Edges) (g : ℕ) → KeptMove (composed_of c) s m g
      → output_by c (matches_of d A B m) ≡ written_by m.first m.second
  output_by_lem d s e m g h =
      by_form (machine1 c) (machine2 c) (machine1 c).output (machine2 c).input (composed_of c).meets s.s1 s.s2
      (λ k e1 e2. output_by c (matches_of d A B (record { first = e1; second = e2 })) ≡ written_by e1 e2)
      (λ t i z. alone1 d t)
      (λ u i z. alone2 d u)
      (λ t u i j y z. along_both d s e t u i j (inl (z ∙ sym y)))
      (λ t u i j y z k. along_both d s e t u i j ((pairs_meet s.s1 s.s2 t u i j y z).0 k))
      h.0 m.first m.second h.1
    where
      alone1 : (d : MatchType) (t : ℕ) → output_by c (matches_of d A B (record { first = along t; second = rest })) ≡ ε
      alone1 inputs t = refl
      alone1 outputs t = refl

      alone2 : (d : MatchType) (u : ℕ) → output_by c (matches_of d A B (record { first = rest; second = along u })) ≡ (machine2 c).output u
      alone2 inputs u = refl
      alone2 outputs u = refl

  -- one move before a path of each machine
  written_move : (s : Triple) (later p1 p2 : List ℕ) → word later ≡ word (outputs_for σ (machine2 c) (word (map (machine1 c).output p1)) p2)
      → (k : MoveKind) (e1 e2 : Edge) → Meeting (machine1 c) (machine2 c) (machine1 c).output (machine2 c).input (composed_of c).meets s.s1 s.s2 k e1 e2
      → word (written_by e1 e2 ∷ later) ≡ word (outputs_for σ (machine2 c) (word (map (machine1 c).output (taken e1 ++ p1))) (taken e2 ++ p2))
  written_move s later p1 p2 h =
      by_form (machine1 c) (machine2 c) (machine1 c).output (machine2 c).input (composed_of c).meets s.s1 s.s2
      (λ k e1 e2. word (written_by e1 e2 ∷ later) ≡ word (outputs_for σ (machine2 c) (word (map (machine1 c).output (taken e1 ++ p1))) (taken e2 ++ p2)))
      (λ t i e. word_ε ε later refl ∙ (h ∙ reads p2 (sym (word_ε ((machine1 c).output t) _ e))))
      (λ u i e. alone u e)
      (λ t u i j e d. ap (λ (y : ℕ). word (y ∷ later)) (unwritten t u d) ∙ (alone u d ∙ reads (u ∷ p2) (sym (word_ε ((machine1 c).output t) _ e))))
      (λ t u i j n o p. word_same (output_for σ (machine2 c) ((machine1 c).output t) u) later _ h
      ∙ (ap word (sym (output_label σ (machine2 c) ((machine1 c).output t) _ u p2 o)) ∙ reads (u ∷ p2) (sym (word_label ((machine1 c).output t) _ n))))
    where
      -- another word that is read
      reads : (p : List ℕ) {y z : List ℕ} → y ≡ z → word (outputs_for σ (machine2 c) y p) ≡ word (outputs_for σ (machine2 c) z p)
      reads p e = ap (λ (z : List ℕ). word (outputs_for σ (machine2 c) z p)) e

      alone : (u : ℕ) → (machine2 c).input u ≡ ε
          → word ((machine2 c).output u ∷ later) ≡ word (outputs_for σ (machine2 c) (word (map (machine1 c).output p1)) (u ∷ p2))
      alone u e = word_same ((machine2 c).output u) later _ h ∙ ap word (sym (output_ε σ (machine2 c) _ u p2 e))

      -- ε is no sigma
      unwritten : (t u : ℕ) → (machine2 c).input u ≡ ε → output_for σ (machine2 c) ((machine1 c).output t) u ≡ (machine2 c).output u
      unwritten t u e = rw (not_sigma_lem σ ((machine2 c).input u) (λ z. S.nonzero2 (sym z ∙ e)))

  -- the outputs along accepting moves are those of the path of machine 2 that reads the word of the path of machine 1
  pub written_word_lem : (K : Semiring) (value : ℕ → K.Element) (s : Triple) (ms : List Edges) → AcceptingMoves K value (composed_of c) s ms
      → word (map (λ m. written_by m.first m.second) ms) ≡ word (outputs_for σ (machine2 c) (word (map (machine1 c).output (path1 ms))) (path2 ms))
  unfolding flat_map outputs_for
  written_word_lem K value s [] h = refl
  written_word_lem K value s (m ∷ ms) h =
      written_move s (map (λ (e : Edges). written_by e.first e.second) ms) (path1 ms) (path2 ms)
      (written_word_lem K value (reached (composed_of c) s m h.0) ms h.2) h.1.0 m.first m.second h.1.1
