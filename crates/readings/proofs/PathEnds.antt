-- The final weight that a call answers for a found state is that of its triple: some weight just where both states end a path, and it is the product of theirs.
use mathlib.Core.Path.{◌≡◌, refl, sym, ◌∙◌}
use mathlib.Core.Bool.{true≢false}
use mathlib.Core.Logic.{⊎_elim}
use Rattle.std.specs.Prelude.{Option, None, Some}
use Prim.Native.Nat.{ℕ, ◌<◌}
use borrow.Author.Tests.{lt-leb}
use Rattle.papers.specs.Machine.{Machine}
use Rattle.papers.specs.Weight.{Kind, semiring}
use Rattle.papers.specs.Composition.{final_product as productAt}
use Rattle.papers.specs.Paths.{Ends, EndsBoth}
use Rattle.papers.proofs.SemiringLaws.{semiring_laws}
use Rattle.papers.proofs.PathLaws.{ends_both}
use Rattle.words.specs.Labels.{Checked, good, refused, and_then}
use Rattle.words.specs.Steps.{Composition, final_at}
use Rattle.words.specs.Settings.{Lent}
use Rattle.words.specs.AsPapers.{exact, composed_of}
use Rattle.words.specs.Links.{NoEnd}
use Rattle.words.proofs.PapersFinal.{final_as_papers}
use Rattle.calls.specs.Checks.{entered, entered_at_with}
use Rattle.calls.specs.Calls.{settle, unchanged, final_weight_of, final_weight_with}
use Rattle.calls.specs.Sequences.{World}
use Rattle.readings.specs.Worlds.{state_at}

-- past the checks 1 to 9, the answer is the final weight of the triple
pub final_answer : (l : Lent) (c : Composition) (w : World) → entered l w.session w.memory ≡ good c → (n : ℕ) → n < w.session.used.states
    → (final_weight_of l w.session w.memory n).answer ≡ final_at c (state_at w n)
unfolding final_weight_with entered_at_with
final_answer l c w e n u = rw (e, lt-leb w.session.used.states n u) (go (final_at c (state_at w n)))
  where
    go : (r : Checked (Option ℕ)) → (settle w.session w.memory (and_then r (λ x. good (unchanged w.session w.memory x)))).answer ≡ r
    go (good x) = refl
    go (refused k) = refl

-- a state that ends no path ends none
no_end : (k : Kind) (M : Machine) (q : ℕ) → Ends (semiring k) (exact k) M q → NoEnd k M q → ⊥
no_end k M q h d = ⊎_elim (λ f. true≢false (sym h.0 ∙ f)) (λ z. h.1 z) d

-- state n ends a path: with the weight x that is answered
pub record IsEnd (l : Lent) (c : Composition) (w : World) (n x : ℕ) : Type 0 where
  pub answer : (final_weight_of l w.session w.memory n).answer ≡ good (Some x)
  pub both : EndsBoth (semiring c.kind) (exact c.kind) (composed_of c) (state_at w n).s1 (state_at w n).s2
  pub product : exact c.kind x ≡ productAt (semiring c.kind) (exact c.kind) (composed_of c) (state_at w n).s1 (state_at w n).s2

module _ (l : Lent) (c : Composition) (w : World) (enters : entered l w.session w.memory ≡ good c) (n : ℕ) (u : n < w.session.used.states) where
  pub answered_end : (x : ℕ) → (final_weight_of l w.session w.memory n).answer ≡ good (Some x) → IsEnd l c w n x
  answered_end x e =
      let r = ((final_as_papers c (state_at w n)).some_where x).0 (sym (final_answer l c w enters n u) ∙ e) in
      record { answer = e; both = r.0; product = r.1 }

  -- where the answer is no refusal
  pub end_answered : (x : Option ℕ) → (final_weight_of l w.session w.memory n).answer ≡ good x
      → EndsBoth (semiring c.kind) (exact c.kind) (composed_of c) (state_at w n).s1 (state_at w n).s2 → (y : ℕ) × IsEnd l c w n y
  end_answered (Some x) e h = (x, answered_end x e)
  end_answered None e h =
      let d = (final_as_papers c (state_at w n)).none_where.0 (sym (final_answer l c w enters n u) ∙ e) in
      let b = (ends_both (semiring c.kind) (semiring_laws c.kind) (exact c.kind) (composed_of c) (state_at w n).s1 (state_at w n).s2).0 h in
      absurd (⊎_elim (no_end c.kind c.operand1.machine (state_at w n).s1 b.0) (no_end c.kind c.operand2.machine (state_at w n).s2 b.1) d)
