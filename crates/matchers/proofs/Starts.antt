-- Where a look-up begins: the loop, the label's own transitions and the sigma transitions after them are what `words` defines.
use mathlib.Core.Path.{◌≡◌, refl, ap, ap₂, ◌∙◌}
use mathlib.Core.Bool.{Bool, true, false, not, ◌&&◌, cond}
use mathlib.Core.List.{List, [], ◌∷◌, ◌++◌, map, append-nil}
use Rattle.std.specs.Prelude.{Option}
use Prim.Native.Nat.{ℕ}
use lib.Dec.{eqb}
use borrow.Author.Tests.{eqb-true}
use Rattle.lists.specs.Lists.{put_if}
use Rattle.words.specs.Labels.{eps_label, no_label}
use Rattle.words.specs.Matches.{MatchType, Match, loop, own, viaSigma, Tr, tr_of, labelled, sorted_matches}
use Rattle.words.specs.Machines.{first_of, machine_of}
use Rattle.words.specs.Sigmas.{is_allowed, sigma_trs, sigma_matches}
use Rattle.words.specs.Settings.{operand_by}
use Rattle.matchers.specs.Meaning.{Item, the_loop, whole, item_of, sorted_items, stands_for}
use Rattle.matchers.specs.Cursors.{with_label, head0, looked}
use Rattle.matchers.proofs.Seeks.{with_end, with_first, sought_again}

-- the first of a label's own transitions at a state; 0: none
abbrev pub first_own : MatchType → List ℕ → ℕ → ℕ → ℕ
first_own on m s x = head0 (with_label on m (looked x) (first_of m s))

-- the sorted look-up: the loop where the label is epsilon, and the transitions with the label looked for
sorted_is : (on : MatchType) (m : List ℕ) (s x : ℕ) → put_if (eqb x eps_label) loop (map own (labelled on (machine_of m) s (looked x))) ≡ sorted_matches on (machine_of m) s x
unfolding sorted_matches
sorted_is on m s x = go (eqb x eps_label) (eqb x no_label) refl refl
  where
    go : (a b : Bool) → eqb x eps_label ≡ a → eqb x no_label ≡ b → put_if (eqb x eps_label) loop (map own (labelled on (machine_of m) s (looked x))) ≡ sorted_matches on (machine_of m) s x
    go true b p q = rw (eqb-true x eps_label p)
    go false true p q = rw (p, q)
    go false false p q = rw (p, q)

-- from the first own transition on, the whole sorted look-up
own_is : (on : MatchType) (m : List ℕ) (s x : ℕ) → put_if (eqb x eps_label) loop (map own (with_label on m (looked x) (first_own on m s x))) ≡ sorted_matches on (machine_of m) s x
own_is on m s x = rw (sought_again on m (looked x) (first_of m s), with_first on m (looked x) s) (sorted_is on m s x)

put_append : (b : Bool) (l r : List Match) → put_if b loop (l ++ r) ≡ put_if b loop l ++ r
put_append true l r = refl
put_append false l r = refl

-- a cursor without sigma transitions
pub own_start : (on : MatchType) (m : List ℕ) (sigma s x : ℕ)
    → put_if (eqb x eps_label) loop (map own (with_label on m (looked x) (first_own on m s x)) ++ map viaSigma (with_label on m sigma 0)) ≡ sorted_matches on (machine_of m) s x
own_start on m sigma s x = rw (with_end on m sigma 0 refl, append-nil (map own (with_label on m (looked x) (first_own on m s x)))) (own_is on m s x)

-- no match of the sorted look-up is rewritten
pub sorted_items_lem : (on : MatchType) (m : List ℕ) (s x : ℕ) (rewritten : Tr → Tr) → map (item_of (machine_of m) rewritten) (sorted_matches on (machine_of m) s x) ≡ sorted_items on m s x
unfolding sorted_items
sorted_items_lem on m s x rewritten = rw (← sorted_is on m s x) (go (eqb x eps_label))
  where
    along : (l : List ℕ) → map (item_of (machine_of m) rewritten) (map own l) ≡ map (item_of (machine_of m) (λ t. t)) (map own l)
    along [] = refl
    along (t ∷ ts) = ap (λ (is : List Item). whole (tr_of (machine_of m) t) ∷ is) (along ts)

    go : (b : Bool) → map (item_of (machine_of m) rewritten) (put_if b loop (map own (labelled on (machine_of m) s (looked x)))) ≡ map (item_of (machine_of m) (λ t. t)) (put_if b loop (map own (labelled on (machine_of m) s (looked x))))
    go true = ap (λ (is : List Item). the_loop ∷ is) (along (labelled on (machine_of m) s (looked x)))
    go false = along (labelled on (machine_of m) s (looked x))

-- the sigma transitions, where sigma may stand for the label
sigma_is : (on : MatchType) (m : List ℕ) (mark acceptor sigma mode : ℕ) (allowed : Option (List ℕ)) (s x : ℕ)
    → map viaSigma (with_label on m sigma (cond (stands_for sigma allowed x) (first_of m s) 0)) ≡ sigma_matches (operand_by on (machine_of m) mark acceptor sigma mode allowed) s x
unfolding sigma_matches sigma_trs stands_for
sigma_is on m mark acceptor sigma mode allowed s x = go (not (eqb sigma no_label)) (not (eqb x eps_label) && (not (eqb x no_label) && is_allowed allowed x))
  where
    go : (a b : Bool) → map viaSigma (with_label on m sigma (cond (a && b) (first_of m s) 0)) ≡ cond b (map viaSigma (cond a (labelled on (machine_of m) s sigma) [])) []
    go true true = rw (with_first on m sigma s)
    go true false = rw (with_end on m sigma 0 refl)
    go false true = rw (with_end on m sigma 0 refl)
    go false false = rw (with_end on m sigma 0 refl)

-- the sigma look-up's cursor
pub sigma_start : (on : MatchType) (m : List ℕ) (mark acceptor sigma mode : ℕ) (allowed : Option (List ℕ)) (s x : ℕ)
    → put_if (eqb x eps_label) loop (map own (with_label on m (looked x) (first_own on m s x)) ++ map viaSigma (with_label on m sigma (cond (stands_for sigma allowed x) (first_of m s) 0)))
    ≡ sorted_matches on (machine_of m) s x ++ sigma_matches (operand_by on (machine_of m) mark acceptor sigma mode allowed) s x
sigma_start on m mark acceptor sigma mode allowed s x =
    put_append (eqb x eps_label) (map own (with_label on m (looked x) (first_own on m s x))) _ ∙ ap₂ ◌++◌ (own_is on m s x) (sigma_is on m mark acceptor sigma mode allowed s x)
