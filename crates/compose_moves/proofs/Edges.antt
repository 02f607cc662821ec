-- One walked edge: each asking of the look-up takes the head of what the edge has still to make.
use mathlib.Core.Path.{◌≡◌, refl, sym, ap, ap₂}
use mathlib.Core.Bool.{Bool, true, false, true≢false}
use mathlib.Core.List.{List, [], ◌∷◌, ◌++◌, flat_map}
use Rattle.std.specs.Prelude.{Option, None, Some}
use Prim.Native.Nat.{ℕ, zero, suc, ◌≤◌}
use Rattle.words.specs.Labels.{Checked, good, refused}
use Rattle.words.specs.Matches.{MatchType, tr_of}
use Rattle.words.specs.Machines.{tr_count, next_of, machine_of}
use Rattle.words.specs.Steps.{Step}
use Rattle.words.proofs.ListLaws.{link, first_inside}
use Rattle.words.specs.Ignored.{Ignored, words_read}
use Rattle.words.proofs.ReplacedLaws.{read_first, read_next}
use Rattle.fst.specs.Meaning.{on_of, ignored_under}
use Rattle.matchers.specs.declared.Cursor.{Cursor}
use Rattle.matchers.specs.declared.IterItemMatcher.{IterItemMatcher}
use Rattle.matchers.specs.Meaning.{Item, whole, match_means}
use Rattle.matchers.specs.Cursors.{Step as Answer, held_words, items_left, step_means, asked as askedItem}
use Rattle.compose_moves.specs.Moves.{present_of, pair_steps, Made, made_means}
use Rattle.compose_moves.specs.Walks.{Walk, walk_means, walked_side, edge_item, edge_after, next_edge, edge_steps, trs_steps, walk_left, gives, refuses, asked}
use Rattle.compose_moves.specs.declared.moves.Walk.{Walk as Fixed}

-- a walked edge that is a transition
pub edge_taken : (m : List ℕ) (t : ℕ) → (t ≡ 0 → ⊥) → edge_item m t ≡ whole (tr_of (machine_of m) t)
edge_taken m zero n = absurd (n refl)
edge_taken m (suc t) n = refl

pub after_taken : (m : List ℕ) (s t : ℕ) → (t ≡ 0 → ⊥) → edge_after m s t ≡ next_of m t
after_taken m s zero n = absurd (n refl)
after_taken m s (suc t) n = refl

-- the words as they are read lead along the same edges
pub read_after : (on : MatchType) (g : Ignored) (m : List ℕ) (s t : ℕ) → edge_after (words_read on g m) s t ≡ edge_after m s t
read_after on g m s zero = read_first on g m s
read_after on g m s (suc t) = read_next on g m (suc t)

-- the edge after is none, or a record
pub after_inside : (m : List ℕ) (s t : ℕ) → edge_after m s t ≤ tr_count m
after_inside m s zero = first_inside m s
after_inside m s (suc t) = (link m (suc t)).inside

-- what a walked edge makes with matches, by the code's own values: no allowed list plays a part
unfoldable pub edge_made : List ℕ → Fixed → ℕ → List Item → List (Checked Step)
edge_made mw w t ms = flat_map (pair_steps (on_of w.on) (present_of w) (edge_item mw t)) ms

abbrev is_some : Option Item → Bool
is_some None = false
is_some (Some i) = true

some_is : {i j : Item} → Some i ≡ Some j → i ≡ j
some_is e = cc

-- the look-up gives a match: it is the head of what was left
pub found_is : (m : List ℕ) (l : List Item) (i : IterItemMatcher) (c : Cursor) → step_means m (Some i, c) ≡ askedItem l → l ≡ match_means i ∷ items_left m c
found_is m [] i c e = absurd (true≢false (ap (λ a. is_some a.given) e))
found_is m (x ∷ xs) i c e = ap₂ (λ (y : Item) (ys : List Item). y ∷ ys) (some_is (sym (ap (λ a. a.given) e))) (sym (ap (λ a. a.left) e))

-- it gives none: nothing was left
pub none_is : (m : List ℕ) (l : List Item) (c : Cursor) → step_means m (None, c) ≡ askedItem l → l ≡ []
none_is m [] c e = refl
none_is m (x ∷ xs) c e = absurd (true≢false (sym (ap (λ a. is_some a.given) e)))

-- a match of the edge: what it makes, and then what the others make. r answers the cursor `left`.
-- mm are the words as the cursor reads them.
pub made_turn : (mw mm : List ℕ) (w : Fixed) (t : ℕ) (left : Cursor) (edge found : IterItemMatcher) (made : Made) (r : Answer) → r.0 ≡ Some found
    → step_means mm r ≡ askedItem (items_left mm left) → match_means edge ≡ edge_item mw t → made_means made ≡ pair_steps (on_of w.on) (present_of w) (match_means edge) (match_means found)
    → edge_made mw w t (items_left mm left) ≡ made_means made ++ edge_made mw w t (items_left mm r.1)
unfolding edge_made flat_map
made_turn mw mm w t left edge found made r e asks is p = rw (found_is mm (items_left mm left) found r.1 (rw e at asks), p, is)

pub made_end : (mw : List ℕ) (w : Fixed) (t : ℕ) (l : List Item) → l ≡ [] → edge_made mw w t l ≡ []
unfolding edge_made flat_map
made_end mw w t l e = rw e

-- the words of the walked machine as they are read
abbrev pub walked_words : Fixed → (ignored mw : List ℕ) → List ℕ
walked_words w ignored mw = words_read (walked_side (on_of w.on)) (ignored_under w.labels ignored) mw

-- by the head of what the edge c has to make
module _ (mw mm am ignored : List ℕ) (w : Fixed) (t : ℕ) where
  abbrev W : Walk
  W = walk_means w mw mm am ignored

  -- what the edge has to make with the matches of a cursor
  abbrev pub edge_left : Cursor → List (Checked Step)
  edge_left c = edge_made (walked_words w ignored mw) w t (items_left (held_words c ignored mm) c)

  pub edge_gives : (c d : Cursor) (st : Step) → edge_left c ≡ good st ∷ edge_left d → gives st (walk_left W t d) ≡ asked (walk_left W t c)
  unfolding walk_left edge_steps edge_made
  edge_gives c d st e = rw e

  pub edge_refuses : (c : Cursor) (n : ℕ) (l : List (Checked Step)) → edge_left c ≡ refused n ∷ l → refuses n ≡ asked (walk_left W t c)
  unfolding walk_left edge_steps edge_made
  edge_refuses c n l e = rw e

  pub edge_ends : (c : Cursor) → edge_left c ≡ [] → asked (trs_steps W (next_edge W t)) ≡ asked (walk_left W t c)
  unfolding walk_left edge_steps edge_made
  edge_ends c e = rw e
