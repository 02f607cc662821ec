-- The four forms of a pair of extended transitions whose inner labels meet: T1 alone with ε, T2 alone with ε, both with ε, both with labels that meet.
use mathlib.Core.Path.{◌≡◌, refl, sym, ◌∙◌, ap}
use mathlib.Core.Bool.{Bool, true, false, true≢false, false≢true}
use mathlib.Core.List.{Memᴰ as In}
use mathlib.Core.Logic.{◌≢◌, ◌⊎◌, inl, inr}
use Rattle.std.specs.Prelude.{None}
use Rattle.std.proofs.lemmas.Option.{none-some}
use Prim.Native.Nat.{ℕ}
use Rattle.papers.specs.Machine.{ε, Machine}
use Rattle.papers.specs.Filter.{MoveKind, lone1, lone2, bothEpsilon, aLabel, facts_of}
use Rattle.papers.specs.Composition.{Edge, rest, along, Leaves, Inner, label, εᴸ, inner, Meets, Met, Composed, Triple, Edges, KeptMove}

abbrev is_label : Inner → Bool
is_label (label x) = true
is_label εᴸ = false

label≢rest : {x : ℕ} → label x ≡ εᴸ → ⊥
label≢rest e = true≢false (ap is_label e)

rest≢label : {x : ℕ} → εᴸ ≡ label x → ⊥
rest≢label e = false≢true (ap is_label e)

label_is : {x y : ℕ} → label x ≡ label y → x ≡ y
label_is e = cc

-- which labels meet matters at the two states alone
pub met_change : (N O : Meets) (q1 q2 : ℕ) → ((x y : ℕ) → N q1 q2 x y → O q1 q2 x y) → (k : MoveKind) (a b : Inner) → Met N q1 q2 k a b → Met O q1 q2 k a b
met_change N O q1 q2 f lone1 a b m = m
met_change N O q1 q2 f lone2 a b m = m
met_change N O q1 q2 f bothEpsilon a b m = m
met_change N O q1 q2 f aLabel a b m = (m.0, m.1, m.2, m.3, m.4, m.5, f m.0 m.1 m.6)

-- `la` and `lb` are the inner labels of T1 and of T2
module _ (A B : Machine) (la lb : ℕ → ℕ) (meets : Meets) (q1 q2 : ℕ) where
  -- (e1, e2) leaves (q1, q2) and its inner labels meet as a move of kind k
  abbrev pub Meeting : MoveKind → Edge → Edge → Type 0
  Meeting k e1 e2 = Leaves A q1 e1 × Leaves B q2 e2 × Met meets q1 q2 k (inner la e1) (inner lb e2)

  -- a fact of every such pair, from its four forms
  pub by_form : (P : MoveKind → Edge → Edge → Type 0)
      → ((t : ℕ) → In t (A.list q1) → la t ≡ ε → P lone1 (along t) rest)
      → ((u : ℕ) → In u (B.list q2) → lb u ≡ ε → P lone2 rest (along u))
      → ((t u : ℕ) → In t (A.list q1) → In u (B.list q2) → la t ≡ ε → lb u ≡ ε → P bothEpsilon (along t) (along u))
      → ((t u : ℕ) → In t (A.list q1) → In u (B.list q2) → la t ≢ ε → lb u ≢ ε → meets q1 q2 (la t) (lb u) → P aLabel (along t) (along u))
      → (k : MoveKind) (e1 e2 : Edge) → Meeting k e1 e2 → P k e1 e2
  by_form P a b c d lone1 (along t) rest h = a t h.0 (label_is h.2.0)
  by_form P a b c d lone1 rest e2 h = absurd (rest≢label h.2.0)
  by_form P a b c d lone1 (along t) (along u) h = absurd (label≢rest h.2.1)
  by_form P a b c d lone2 rest (along u) h = b u h.1 (label_is h.2.1)
  by_form P a b c d lone2 rest rest h = absurd (rest≢label h.2.1)
  by_form P a b c d lone2 (along t) e2 h = absurd (label≢rest h.2.0)
  by_form P a b c d bothEpsilon (along t) (along u) h = c t u h.0 h.1 (label_is h.2.0) (label_is h.2.1)
  by_form P a b c d bothEpsilon rest e2 h = absurd (rest≢label h.2.0)
  by_form P a b c d bothEpsilon (along t) rest h = absurd (rest≢label h.2.1)
  by_form P a b c d aLabel (along t) (along u) h =
      let m = h.2 in
      let x : la t ≡ m.0 = label_is m.2 in
      let y : lb u ≡ m.1 = label_is m.3 in
      d t u h.0 h.1 (rw x m.4) (rw y m.5) (rw (x, y) m.6)
  by_form P a b c d aLabel rest e2 h = absurd (rest≢label h.2.2)
  by_form P a b c d aLabel (along t) rest h = absurd (rest≢label h.2.3)

  -- and each form is such a pair
  pub form1 : (t : ℕ) → In t (A.list q1) → la t ≡ ε → Meeting lone1 (along t) rest
  form1 t i e = (i, tt, (ap label e, refl))

  pub form2 : (u : ℕ) → In u (B.list q2) → lb u ≡ ε → Meeting lone2 rest (along u)
  form2 u i e = (tt, i, (refl, ap label e))

  pub formε : (t u : ℕ) → In t (A.list q1) → In u (B.list q2) → la t ≡ ε → lb u ≡ ε → Meeting bothEpsilon (along t) (along u)
  formε t u i j e d = (i, j, (ap label e, ap label d))

  pub formx : (t u : ℕ) → In t (A.list q1) → In u (B.list q2) → la t ≢ ε → lb u ≢ ε → meets q1 q2 (la t) (lb u) → Meeting aLabel (along t) (along u)
  formx t u i j n o m = (i, j, (la t, lb u, refl, refl, n, o, m))

  -- two transitions that are enabled: both have ε, or neither has and their labels meet
  abbrev OfPair : MoveKind → Edge → Edge → Type 0
  OfPair k (along t) (along u) = ((la t ≡ ε) × (lb u ≡ ε)) ⊎ ((la t ≢ ε) × (lb u ≢ ε) × meets q1 q2 (la t) (lb u))
  OfPair k (along t) rest = (k ≡ lone1) × (la t ≡ ε)
  OfPair k rest (along u) = (k ≡ lone2) × (lb u ≡ ε)
  OfPair k rest rest = ⊥

  of_pair : (k : MoveKind) (e1 e2 : Edge) → Meeting k e1 e2 → OfPair k e1 e2
  of_pair = by_form OfPair (λ t i e. (refl, e)) (λ u i e. (refl, e)) (λ t u i j e d. inl (e, d)) (λ t u i j n o m. inr (n, o, m))

  pub pair_meets : (k : MoveKind) (t u : ℕ) → Meeting k (along t) (along u) → ((la t ≡ ε) × (lb u ≡ ε)) ⊎ ((la t ≢ ε) × (lb u ≢ ε) × meets q1 q2 (la t) (lb u))
  pair_meets k t u h = of_pair k (along t) (along u) h

  -- one alone has ε; two machines at rest are no move
  pub lone1_is : (k : MoveKind) (t : ℕ) → Meeting k (along t) rest → (k ≡ lone1) × (la t ≡ ε)
  lone1_is k t h = of_pair k (along t) rest h

  pub lone2_is : (k : MoveKind) (u : ℕ) → Meeting k rest (along u) → (k ≡ lone2) × (lb u ≡ ε)
  lone2_is k u h = of_pair k rest (along u) h

  pub rest_is_none : (k : MoveKind) → Meeting k rest rest → ⊥
  rest_is_none k h = of_pair k rest rest h

-- what the filter blocks is not kept
pub blocked : (C : Composed) (s : Triple) (m : Edges) (g : ℕ) → ((k : MoveKind) → C.filter k (facts_of C.first C.second s.s1 s.s2) s.f ≡ None) → KeptMove C s m g → ⊥
blocked C s m g n h = none-some _ (sym (n h.0) ∙ h.2)
