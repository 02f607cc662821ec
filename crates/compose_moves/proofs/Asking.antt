-- 02, 2.5, for the moves of a composed state: asked on from the start, `next_step` gives the definition's steps in their order, and then the end ever after; or its refusal. The premises are the
-- contracts of `moves_start` and `next_step` as the toolchain reads them off the code. Each asking takes the head of what is left and leaves its tail.
use mathlib.Core.Path.{◌≡◌, refl, sym, ap, ◌∙◌}
use mathlib.Core.List.{List, [], ◌∷◌}
use mathlib.Core.Logic.{◌≢◌}
use Prim.Native.Nat.{ℕ, suc}
use native.Mathlib.Omega.{arith}
use contract.Lifetimes.{Lfts}
use denote.Ref.{Bor}
use Rattle.std.specs.Prelude.{None, Some, Result, Ok, Err}
use Rattle.lists.proofs.Asking.{asked_on_lem, kept_on}
use Rattle.words.specs.Labels.{Checked, good, refused}
use Rattle.words.specs.Matches.{MatchType}
use Rattle.words.specs.Settings.{Lent}
use Rattle.words.specs.Steps.{Step, steps_at}
use Rattle.words.proofs.CheckedLaws.{refused_is, good≢refused}
use Rattle.fst.specs.declared.refusals.Refusal.{Refusal}
use Rattle.fst.specs.Refusals.{number_of}
use Rattle.compose_state_tuple.specs.Meaning.{tuple_means}
use Rattle.compose_state_tuple.specs.declared.ComposeStateTuple.{ComposeStateTuple}
use Rattle.compose_fst_op.specs.Composing.{lent_of, composing}
use Rattle.compose_fst_op.specs.declared.ComposeFstOpOptions.{ComposeFstOpOptions}
use Rattle.compose_moves.specs.Moves.{compose_tr_means}
use Rattle.compose_moves.specs.Walks.{Asked, gives, ends, refuses, asked}
use Rattle.compose_moves.specs.Cursors.{steps_left, moves_start_means, NextStep, next_means, cursor_at as move_at, SameState, MovesPlaced, StaysPlaced, direction_for, StartsPlaced}
use Rattle.compose_moves.specs.Asking.{given_by, onward, answer_at, GivesSteps, StartGivesSteps}
use Rattle.compose_moves.specs.declared.MoveCursor.{MoveCursor}
use Rattle.compose_moves.proofs.moves_start.Reads as moves-start
use Rattle.compose_moves.proofs.next_step.Reads as next-step

-- the sort of an asking
abbrev sort : Asked → ℕ
sort (gives st l) = 0
sort ends = 1
sort (refuses n) = 2

apart : {a b : Asked} → sort a ≢ sort b → a ≡ b → ⊥
apart n e = n (ap sort e)

-- what the list is by what it gives: a caller gets the head and the tail of what was left
asked_gives : (l r : List (Checked Step)) (st : Step) → gives st r ≡ asked l → l ≡ good st ∷ r
asked_gives [] r st e = absurd (apart (λ z. omega arith) e)
asked_gives (good x ∷ xs) r st e = cc
asked_gives (refused n ∷ xs) r st e = absurd (apart (λ z. omega arith) e)

pub asked_ends : (l : List (Checked Step)) → ends ≡ asked l → l ≡ []
asked_ends [] e = refl
asked_ends (good x ∷ xs) e = absurd (apart (λ z. omega arith) e)
asked_ends (refused n ∷ xs) e = absurd (apart (λ z. omega arith) e)

asked_refuses : (l : List (Checked Step)) (n : ℕ) → refuses n ≡ asked l → (r : List (Checked Step)) × (l ≡ refused n ∷ r)
asked_refuses [] n e = absurd (apart (λ z. omega arith) e)
asked_refuses (good x ∷ xs) n e = absurd (apart (λ z. omega arith) e)
asked_refuses (refused m ∷ xs) n e = (xs, cc)

-- r is a reply that the contract of `next_step` allows, asked with these lent words, with the list g of ignored labels, options and cursor
abbrev pub StepReply : Lfts 5 → (m1 m2 a1 a2 g : Bor (List ℕ)) → ComposeFstOpOptions → MoveCursor → NextStep → Type 0
StepReply κs m1 m2 a1 a2 g o c r = next-step.Learnt κs (m1, (m2, (a1, (a2, (g, (o, (c, tt))))))) r (m1, (m2, (a1, (a2, (g, (o, (c, tt)))))))

-- b is a reply that the contract of `moves_start` allows
abbrev pub StartReply : Lfts 3 → (m1 m2 g : Bor (List ℕ)) → ComposeFstOpOptions → ComposeStateTuple → Result MoveCursor Refusal → Type 0
StartReply κs m1 m2 g o t b = moves-start.Learnt κs (m1, (m2, (g, (o, (t, tt))))) b (m1, (m2, (g, (o, (t, tt)))))

module _ (o : ComposeFstOpOptions) (l : Lent) where
  -- one asking gives the first of what is to be given, and leaves the others
  one : (c : MoveCursor) (r : NextStep) → next_means o l r ≡ asked (steps_left o l c) → (given_by r ≡ answer_at (steps_left o l c) 0) × ((k : ℕ) → answer_at (steps_left o l (onward c r)) k ≡ answer_at (steps_left o l c) (suc k))
  one c (Ok (Some (t, d))) e = rw (asked_gives (steps_left o l c) (steps_left o l d) (compose_tr_means t) e) (refl, λ k. refl)
  one c (Ok None) e = rw (asked_ends (steps_left o l c) e) (refl, λ k. refl)
  one c (Err r) e = rw (asked_refuses (steps_left o l c) (number_of r) e).1 (refl, λ k. refl)

  -- an asking keeps the composed state, and places
  abbrev Kept : MoveCursor → MoveCursor → Type 0
  Kept c d = SameState c d × MovesPlaced o l d

  keeps : (c d : MoveCursor) (r : NextStep) → StaysPlaced o l d r → Kept c d → Kept c (onward d r)
  keeps c d (Ok (Some (t, e))) h k = (h.0 ∙ ap (λ x. move_at x e.walked e.matches) k.0, h.1 k.1)
  keeps c d (Ok None) h k = k
  keeps c d (Err r) h k = k

-- On any words, allowed lists, ignored labels and options, at any composed state: refusal 10 at the start; or all its composed transitions in 01's order, or the first refusal among them; and then the end, or that refusal, ever after.
pub moves_asked_on : (κs : Lfts 3) (κt : Lfts 5) (m1 m2 a1 a2 g : Bor (List ℕ)) (o : ComposeFstOpOptions) (t : ComposeStateTuple) (b : Result MoveCursor Refusal) → StartReply κs m1 m2 g o t b
    →
    let l = lent_of o m1.now m2.now a1.now a2.now g.now in
    StartGivesSteps (StepReply κt m1 m2 a1 a2 g o) o l t (steps_at (composing o m1.now m2.now a1.now a2.now g.now) (tuple_means t)) b
moves_asked_on κs κt m1 m2 a1 a2 g o t b (means, place) = record {
  refuses = λ n e. refused_at b n e (means a1.now a2.now) (place a1.now a2.now);
  gives = λ d e. found b d e (means a1.now a2.now) (place a1.now a2.now);
}
  where
    l : Lent
    l = lent_of o m1.now m2.now a1.now a2.now g.now

    steps : List (Checked Step)
    steps = steps_at (composing o m1.now m2.now a1.now a2.now g.now) (tuple_means t)

    Answers : MoveCursor → NextStep → Type 0
    Answers = StepReply κt m1 m2 a1 a2 g o

    refused_at : (a : Result MoveCursor Refusal) (n : ℕ) → direction_for o l t ≡ refused n → moves_start_means o l a ≡ steps → StartsPlaced o l t a
        → (k : Refusal) × (number_of k ≡ n) × (a ≡ Err k) × (steps ≡ refused n ∷ [])
    refused_at (Ok c) n e m h = absurd (good≢refused (sym h.direction ∙ e))
    refused_at (Err k) n e m h = let number : number_of k ≡ n = refused_is (sym h ∙ e) in (k, number, refl, sym m ∙ ap (λ x. refused x ∷ []) number)

    found : (a : Result MoveCursor Refusal) (d : MatchType) → direction_for o l t ≡ good d → moves_start_means o l a ≡ steps → StartsPlaced o l t a → (c : MoveCursor) × (a ≡ Ok c) × GivesSteps Answers o l t steps c
    found (Err k) d e m h = absurd (good≢refused (sym e ∙ h))
    found (Ok c) d e m h = (
      c,
      refl,
      record {
        in_order = λ k r g. asked_on_lem Answers onward given_by (λ x j. answer_at (steps_left o l x) j) (λ x q p. one o l x q p.0) c k r g ∙ ap (λ x. answer_at x k) m;
        begins = h;
        holds = λ k q x g.
            let last = kept_on Answers onward (Kept o l c) (λ f r p. keeps o l c f r p.1) c k (Ok (Some (q, x))) g (refl, h.place) in
            keeps o l c last.0 (Ok (Some (q, x))) last.2.1 last.1;
      },
    )

-- a start that is a cursor
abbrev started : MoveCursor → Result MoveCursor Refusal
started c = Ok c

-- from it the steps are given
pub from_cursor : {Answers : MoveCursor → NextStep → Type 0} {o : ComposeFstOpOptions} {l : Lent} {t : ComposeStateTuple} {steps : List (Checked Step)} {c : MoveCursor} (d : MatchType)
    → direction_for o l t ≡ good d → StartGivesSteps Answers o l t steps (started c) → GivesSteps Answers o l t steps c
from_cursor {Answers} {o} {l} {t} {steps} {c} d e h = go (h.gives d e)
  where
    same : {x y : MoveCursor} → started x ≡ started y → x ≡ y
    same q = cc

    go : (x : MoveCursor) × (started c ≡ started x) × GivesSteps Answers o l t steps x → GivesSteps Answers o l t steps c
    go (x, q, g) = rw (same q) g
