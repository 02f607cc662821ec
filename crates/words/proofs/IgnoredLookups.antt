-- 02, 2.7: a label that is replaced is never heard, so that asked for directly it has no own matches, whatever records hold it.
use mathlib.Core.Path.{◌≡◌, refl, sym, ◌∙◌, ap}
use mathlib.Core.Bool.{Bool, true, false, not, cond, true≢false}
use mathlib.Core.List.{List, [], ◌∷◌}
use mathlib.Core.Logic.{◌≢◌}
use Prim.Native.Nat.{ℕ}
use lib.Dec.{eqb}
use borrow.Author.Tests.{ne_eqb, not-true}
use Rattle.lists.specs.Lists.{keep_if}
use Rattle.lists.proofs.Members.{and_left, and_right}
use Rattle.papers.specs.Machine.{Machine}
use Rattle.words.specs.Labels.{eps_label, no_label}
use Rattle.words.specs.Matches.{MatchType, inputs, outputs, label_on, labelled, sorted_matches}
use Rattle.words.specs.Sigmas.{has}
use Rattle.words.specs.Ignored.{Ignored, ignored_ok, is_ignored, heard, replaced}

-- a label is heard as itself, and then it is not replaced, or as 0
pub ignored_unheard : (g : Ignored) (x y : ℕ) → is_ignored g x ≡ true → x ≢ eps_label → heard g y ≢ x
unfolding heard
ignored_unheard g x y i d = go (is_ignored g y) refl
  where
    go : (b : Bool) → is_ignored g y ≡ b → cond b eps_label y ≢ x
    go true e z = d (sym z)
    go false e z = true≢false (sym i ∙ (ap (is_ignored g) (sym z) ∙ e))

-- where no label of a side is x, none is found
none_kept : (P : ℕ → Bool) → ((t : ℕ) → P t ≡ false) → (l : List ℕ) → keep_if P l ≡ []
unfolding keep_if
none_kept P h [] = refl
none_kept P h (t ∷ l) = rw (h t) (none_kept P h l)

-- a list without 0 and MAX has neither
pub listed_apart : (xs : List ℕ) (x : ℕ) → ignored_ok xs ≡ true → has x xs ≡ true → (x ≢ eps_label) × (x ≢ no_label)
unfolding ignored_ok
listed_apart xs x ok i = (
  λ e. true≢false (sym i ∙ (ap (λ (y : ℕ). has y xs) e ∙ not-true _ (and_left (not (has eps_label xs)) _ ok))),
  λ e. true≢false (sym i ∙ (ap (λ (y : ℕ). has y xs) e ∙ not-true _ (and_right (not (has eps_label xs)) _ ok))),
)

pub no_own_matches : (on : MatchType) (g : Ignored) (M : Machine) (s x : ℕ) → ignored_ok g.list ≡ true → is_ignored g x ≡ true → sorted_matches on (replaced on g M) s x ≡ []
unfolding sorted_matches labelled
no_own_matches on g M s x ok i =
    let a = ignored_apart in
    rw (ne_eqb x eps_label a.0, ne_eqb x no_label a.1, none_kept (λ t. eqb (label_on on (replaced on g M) t) x) (λ t. ne_eqb _ x (unheard on t)) ((replaced on g M).list s))
  where
    ignored_apart : (x ≢ eps_label) × (x ≢ no_label)
    ignored_apart = listed_apart g.list x ok (and_left (has x g.list) _ i)

    unheard : (on : MatchType) (t : ℕ) → label_on on (replaced on g M) t ≢ x
    unheard inputs t = ignored_unheard g x (M.input t) i ignored_apart.0
    unheard outputs t = ignored_unheard g x (M.output t) i ignored_apart.0
