-- The memos of a piece: as the state at which it stands, they are the same from turn to turn for the rest of the piece.
use mathlib.Core.Path.{◌≡◌, refl, sym, ◌∙◌, subst}
use mathlib.Core.List.{List}
use Prim.Native.Nat.{ℕ, suc, ◌+◌, ◌≤◌}
use native.Mathlib.Numerals.{add-one}
use borrow.Author.Tests.{le-ltb}
use Rattle.words.specs.Labels.{Checked, good, refused}
use Rattle.words.specs.Matches.{MatchType}
use Rattle.words.specs.Settings.{Lent}
use Rattle.words.specs.Steps.{Composition}
use Rattle.calls.specs.Store.{Memory, Part}
use Rattle.calls.specs.Checks.{Session, entered}
use Rattle.calls.specs.Calls.{Outcome, expand_of}
use Rattle.calls.proofs.ExpandCases.{expand_late}
use Rattle.compose_run.specs.Meaning.{turn_of}
use Rattle.compose_run.specs.Memos.{memo_at, memo_by, memo_from}
use Rattle.compose_run.proofs.RunTurns.{took, no_part}

module _ (on : MatchType) (l : Lent) where
  -- none is left, or the piece is over
  pub memo_ends : (k j n : ℕ) (s : Session) (m : Memory) (c : Composition) (memo v : List ℕ) → entered l s m ≡ good c → k ≡ suc j → s.used.states ≤ n → memo_from on l k n s m memo ≡ v → memo ≡ v
  unfolding memo_from memo_at
  memo_ends k j n s m c memo v e h b q = rw (h, expand_late l s m c e n b, le-ltb _ _ b) at q

  pub memo_over : (k n : ℕ) (s : Session) (m : Memory) (memo v : List ℕ) → k ≡ 0 → memo_from on l k n s m memo ≡ v → memo ≡ v
  unfolding memo_from
  memo_over k n s m memo v h e = rw h at e

  -- a piece of one state
  pub memo_one : (n : ℕ) (s : Session) (m : Memory) (memo : List ℕ) → memo_from on l 1 n s m memo ≡ memo_at on l s m n memo
  unfolding memo_from
  memo_one n s m memo = go (expand_of l s m n) (expand_of l s m n).answer
    where
      go : (o : Outcome Part) (a : Checked Part) → memo_by o a (memo_at on l s m n memo) (λ s' m' memo'. memo') ≡ memo_at on l s m n memo
      go o (good p) = refl
      go o (refused j) = refl

  -- an accepted turn, and a refused one
  module _ (s : Session) (m : Memory) (n : ℕ) (memo memo' : List ℕ) (asked : memo' ≡ memo_at on l s m n memo) where
    pub new_memo : (s' : Session) (m' : Memory) → record { answer = good tt; session = s'; memory = m' } ≡ turn_of (expand_of l s m n)
        → (k j : ℕ) (v : List ℕ) → k ≡ suc j → memo_from on l k n s m memo ≡ v → memo_from on l j (n + 1) s' m' memo' ≡ v
    unfolding memo_from
    new_memo s' m' q k j v h e =
        subst (λ (x : Outcome (Unit {0})). memo_from on l j (n + 1) x.session x.memory memo' ≡ v) (sym q) (rw (add-one, asked) (rw (h, (took l s m n s' m' q).1) at e))

    pub refused_memo : (i : ℕ) (s' : Session) (m' : Memory) → record { answer = refused i; session = s'; memory = m' } ≡ turn_of (expand_of l s m n)
        → (k j : ℕ) (v : List ℕ) → k ≡ suc j → memo_from on l k n s m memo ≡ v → memo' ≡ v
    unfolding memo_from
    refused_memo i s' m' q k j v h e = asked ∙ (rw (h, no_part l s m n i s' m' q) at e)
