-- One turn of the storing: a step is stored once the answer after it is known.
use mathlib.Core.Path.{◌≡◌, refl, sym, ◌∙◌, ap, subst}
use mathlib.Core.List.{List, [], ◌∷◌}
use Prim.Native.Nat.{ℕ, ◌≤◌}
use native.Mathlib.Omega.{arith}
use lib.ListN.{length}
use Rattle.std.specs.Prelude.{None, Some, Ok, Err}
use Rattle.words.specs.Labels.{Checked, good, refused, and_then}
use Rattle.words.specs.Settings.{Lent}
use Rattle.compose_fst_op.specs.declared.ComposeFstOpOptions.{ComposeFstOpOptions}
use Rattle.words.specs.Sides.{non_empty}
use Rattle.words.specs.Steps.{Step}
use Rattle.calls.specs.Store.{Store}
use Rattle.calls.specs.Calls.{next_for, store_step, store_steps, store_steps_with}
use Rattle.stored_steps.proofs.OneStep.{accepted_then}
use Rattle.compose_moves.specs.Walks.{Asked, gives, ends, refuses, asked}
use Rattle.compose_moves.specs.Cursors.{NextStep, next_means}
use Rattle.compose_store.specs.Meaning.{Accepted, goes_on}

-- the steps that an answer tells of; nothing after a refusal counts
abbrev pub asked_left : Asked → List (Checked Step)
asked_left (gives s l) = good s ∷ l
asked_left ends = []
asked_left (refuses n) = refused n ∷ []

goes_on_lem : (S : ComposeFstOpOptions) (L : Lent) (r : NextStep) → goes_on r ≡ non_empty (asked_left (next_means S L r))
goes_on_lem S L (Ok (Some p)) = refl
goes_on_lem S L (Ok None) = refl
goes_on_lem S L (Err refusal) = refl

left_any : (l : List (Checked Step)) → non_empty (asked_left (asked l)) ≡ non_empty l
left_any [] = refl
left_any (good s ∷ l) = refl
left_any (refused n ∷ l) = refl

pub left_same : (d : Store) (l : List (Checked Step)) → store_steps d (asked_left (asked l)) ≡ store_steps d l
unfolding store_steps_with
left_same d [] = refl
left_same d (good s ∷ l) = refl
left_same d (refused n ∷ l) = refl

pub left_length : (l : List (Checked Step)) → length (asked_left (asked l)) ≤ length l
left_length [] = omega arith
left_length (good s ∷ l) = omega arith
left_length (refused n ∷ l) = omega arith

-- the link that the code gives is that of the definition
pub follows : (S : ComposeFstOpOptions) (L : Lent) (r : NextStep) (l : List (Checked Step)) → next_means S L r ≡ asked l → goes_on r ≡ non_empty l
follows S L r l e = goes_on_lem S L r ∙ ap (λ x. non_empty (asked_left x)) e ∙ left_any l

-- an accepted list's first step is accepted
pub first_accepted : (d : Store) (s : Step) (others : List (Checked Step)) → Accepted (store_steps d (good s ∷ others)) → Accepted (store_step d (next_for d (non_empty others)) s)
unfolding store_steps_with
first_accepted d s others h = accepted_then (store_step d (next_for d (non_empty others)) s) (λ e. store_steps e others) h

-- an accepted list has no refusal
pub no_refusal : (d : Store) (n : ℕ) (l : List (Checked Step)) → Accepted (store_steps d (refused n ∷ l)) → ⊥
unfolding store_steps_with
no_refusal d n l h = h

pub store_turn : (d e : Store) (s : Step) (others : List (Checked Step)) (x : Asked) → x ≡ asked others → good e ≡ store_step d (next_for d (non_empty others)) s
    → store_steps e (asked_left x) ≡ store_steps d (good s ∷ others)
unfolding store_steps_with
store_turn d e s others x p q = ap (λ y. store_steps e (asked_left y)) p ∙ left_same e others ∙ ap (λ (y : Checked Store). and_then y (λ f. store_steps f others)) q

-- the first answer stands for all steps
pub left_all : (d : Store) (l : List (Checked Step)) (x : Asked) → x ≡ asked l → store_steps d (asked_left x) ≡ store_steps d l
left_all d l x e = ap (λ y. store_steps d (asked_left y)) e ∙ left_same d l

pub left_less : (l : List (Checked Step)) (x : Asked) → x ≡ asked l → length (asked_left x) ≤ length l
left_less l x e = subst (λ y. length (asked_left y) ≤ length l) (sym e) (left_length l)

pub none_stored : (d : Store) → store_steps d [] ≡ good d
unfolding store_steps_with
none_stored d = refl
