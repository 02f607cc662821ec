-- What the filter keeps of a state's moves: each kept move is one of them, with the next f that its cell gives. No pair of edges stands at two places, whatever the machines' words.
use mathlib.Core.Path.{◌≡◌, refl, sym, ap, subst}
use mathlib.Core.List.Memᴰ
use mathlib.Core.List.Memᴰ.{head as here}
use mathlib.Core.List.{List, [], ◌∷◌, Memᴰ as In}
use mathlib.Core.Logic.{⊎_elim}
use Rattle.std.specs.Prelude.{Option, None, Some}
use Prim.Native.Nat.{ℕ}
use Rattle.lists.specs.Lists.{Distinct}
use Rattle.lists.proofs.Places.{at_in}
use Rattle.lists.proofs.Apart.{Apart, apart_flat, apart_place}
use Rattle.papers.specs.Filter.{Facts}
use Rattle.papers.specs.Composition.{Triple, Edges}
use Rattle.words.specs.Labels.{Checked, good, refused}
use Rattle.words.specs.Matches.{MatchType, inputs, outputs}
use Rattle.words.specs.Sigmas.{Operand}
use Rattle.words.specs.Sides.{Side, direction_at}
use Rattle.words.specs.Filters.{facts_at}
use Rattle.words.specs.Steps.{Composition, Move, moves_at, move_kind, Kept, kept_by, keep, kept_along, kept_in, kept_at}
use Rattle.words.specs.Settings.{Settings, Lent, composition_of}
use Rattle.words.specs.AsPapers.{edges_of}
use Rattle.words.specs.Links.{OnePlace}
use Rattle.words.proofs.ListLaws.{list_distinct}
use Rattle.words.proofs.CheckedLaws.{good_is, good≢refused}
use Rattle.words.proofs.PapersWalk.{Alike, alike_sym, walk_once}

module _ (c : Composition) (s : Triple) where
  abbrev A : Operand
  A = c.operand1

  abbrev B : Operand
  B = c.operand2

  abbrev pub moves : MatchType → List (Checked Move)
  moves d = moves_at d A B s.s1 s.s2

  -- the filter, over the inner labels of the operands
  abbrev pub facts : Facts
  facts = facts_at A B s.s1 s.s2

  abbrev pub kept1 : Checked Move → List (Checked Kept)
  kept1 x = keep c.filter A facts s.f x

  pub of_kept1 : (x : Checked Move) (v : Kept) → In (good v) (kept1 x) → (x ≡ good v.move) × (c.filter (move_kind A v.move.first v.move.second) facts s.f ≡ Some v.next)
  of_kept1 (refused n) v i = absurd (⊎_elim good≢refused Memᴰ.not-nil (Memᴰ.cases_cons i))
  of_kept1 (good u) v i = go (c.filter (move_kind A u.first u.second) facts s.f) refl i
    where
      go : (o : Option ℕ) → c.filter (move_kind A u.first u.second) facts s.f ≡ o → In (good v) (kept_by u o)
          → (good u ≡ good v.move) × (c.filter (move_kind A v.move.first v.move.second) facts s.f ≡ Some v.next)
      go None e j = absurd (Memᴰ.not-nil j)
      go (Some g) e j =
          ⊎_elim
          (λ h.
          let k : v ≡ record { move = u; next = g } = good_is h in
          (ap good (sym (ap (λ (z : Kept). z.move) k)), subst (λ (z : Kept). c.filter (move_kind A z.move.first z.move.second) facts s.f ≡ Some z.next) (sym k) e))
          (λ z. absurd (Memᴰ.not-nil z))
          (Memᴰ.cases_cons j)

  pub in_kept1 : (u : Move) (g : ℕ) → c.filter (move_kind A u.first u.second) facts s.f ≡ Some g → In (good (record { move = u; next = g })) (kept1 (good u))
  in_kept1 u g e = rw e (here refl)

  once1 : (x : Checked Move) → Apart (Alike (λ (v : Kept). edges_of v.move)) (kept1 x)
  once1 (refused n) = (λ y i r. r, tt)
  once1 (good u) = go (c.filter (move_kind A u.first u.second) facts s.f)
    where
      go : (o : Option ℕ) → Apart (Alike (λ (v : Kept). edges_of v.move)) (kept_by u o)
      go None = tt
      go (Some g) = (λ y i r. Memᴰ.not-nil i, tt)

  same_move_lem : (a b : Checked Move) (x y : Checked Kept) → In x (kept1 a) → In y (kept1 b) → Alike (λ (v : Kept). edges_of v.move) x y → Alike edges_of a b
  same_move_lem a b (good v) (good w) i j e = rw ((of_kept1 a v i).0, (of_kept1 b w j).0) e
  same_move_lem a b (good v) (refused n) i j e = absurd e
  same_move_lem a b (refused n) y i j e = absurd e

  pub refused1 : (x : Checked Move) (n : ℕ) → In (refused n) (kept1 x) → x ≡ refused n
  refused1 (refused k) n i = ⊎_elim (λ e. cc) (λ z. absurd (Memᴰ.not-nil z)) (Memᴰ.cases_cons i)
  refused1 (good u) n i = go (c.filter (move_kind A u.first u.second) facts s.f) i
    where
      go : (o : Option ℕ) → In (refused n) (kept_by u o) → good u ≡ refused n
      go None j = absurd (Memᴰ.not-nil j)
      go (Some g) j = ⊎_elim (λ e. absurd (good≢refused (sym e))) (λ z. absurd (Memᴰ.not-nil z)) (Memᴰ.cases_cons j)

  module _ (distinct1 : (q : ℕ) → Distinct (A.machine.list q)) (distinct2 : (q : ℕ) → Distinct (B.machine.list q)) where
    moves_once : (d : MatchType) → Apart (Alike edges_of) (moves d)
    moves_once inputs = walk_once inputs A s.s1 B s.s2 (distinct1 s.s1) (distinct2 s.s2)
    moves_once outputs = walk_once outputs B s.s2 A s.s1 (distinct2 s.s2) (distinct1 s.s1)

    pub along_once : (d : MatchType) → OnePlace (kept_along c s d)
    unfolding kept_along
    along_once d j k v w = apart_place (Alike key) (alike_sym key) (kept_along c s d) (apart_flat (Alike edges_of) (Alike key) kept1 (moves d) (moves_once d) once1 same_move_lem) j k
      where
        key : Kept → Edges
        key v = edges_of v.move

    pub kept_once : OnePlace (kept_at c s)
    unfolding kept_at
    kept_once = go (direction_at c.side A B s.s1 s.s2)
      where
        go : (r : Checked MatchType) → OnePlace (kept_in c s r)
        go (good d) = along_once d
        go (refused n) = λ j k v w h i e. absurd (⊎_elim good≢refused Memᴰ.not-nil (Memᴰ.cases_cons (at_in (refused n ∷ []) j h)))

-- no record stands twice in a list of any words, so no pair of edges stands twice in a list of kept moves
pub once_on_any_words : (s : Settings) (l : Lent) (side : Side) (t : Triple) → OnePlace (kept_at (composition_of s l side) t)
once_on_any_words s l side t = kept_once (composition_of s l side) t (list_distinct l.m1) (list_distinct l.m2)
