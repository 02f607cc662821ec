-- The laws of a filter, from which it follows that it leaves exactly one composed path for each pair of paths. Ours: the papers show it of each filter. Of a path from
-- a state, all that the laws look at is whether its first transition has ε on the inner side ("begins with ε").
use Rattle.std.specs.Prelude.{◌≡◌, Bool, true, false, not, ℕ, Some}
use Rattle.lists.specs.Finite.{both, implies}
use Rattle.papers.specs.Filter.{MoveKind, lone1, lone2, bothEpsilon, aLabel, Facts, Filter}

-- a path from a state where nothing (n) or everything (a) is ε begins with ε (e) or not
abbrev pub fits : Bool → Bool → Bool → Bool
fits n a e = both (implies n (not e)) (implies a e)

-- a move of this kind can be the first of two paths that begin with ε (x, y) or not
abbrev pub begins : MoveKind → Bool → Bool → Bool
begins lone1 x y = x
begins lone2 x y = y
begins bothEpsilon x y = both x y
begins aLabel x y = both (not x) (not y)

-- how path 1, and path 2, begins after the move: as its rest does (x'), or, where its machine rested, as before (x)
abbrev pub then1 : MoveKind → Bool → Bool → Bool
then1 lone1 x x' = x'
then1 lone2 x x' = x
then1 bothEpsilon x x' = x'
then1 aLabel x x' = x'

abbrev pub then2 : MoveKind → Bool → Bool → Bool
then2 lone1 y y' = y
then2 lone2 y y' = y'
then2 bothEpsilon y y' = y'
then2 aLabel y y' = y'

-- `live f x y`: from the filter state f, two paths that begin so can be taken to their ends; `pick x y`: the one kind of move that may come first
pub record Lawful (filter : Filter) (live : ℕ → Bool → Bool → Bool) (pick : Bool → Bool → MoveKind) : Type 0 where
  -- the picked move can begin two such paths
  pub picks : (x y : Bool) → begins (pick x y) x y ≡ true
  -- from the first filter state every two paths can be taken to their ends
  pub start : (x y : Bool) → live 0 x y ≡ true
  -- so can two paths that begin with no ε, from every filter state
  pub end : (f : ℕ) → live f false false ≡ true
  -- the picked move is kept, and what is left can be taken to its ends, however it begins
  pub forwards : (φ : Facts) (f : ℕ) (x y : Bool) → fits φ.none1 φ.all1 x ≡ true → fits φ.none2 φ.all2 y ≡ true → live f x y ≡ true
      → (g : ℕ) × (filter (pick x y) φ f ≡ Some g) × ((x' y' : Bool) → live g (then1 (pick x y) x x') (then2 (pick x y) y y') ≡ true)
  -- a kept move from which the rest can be taken to its ends is the picked one
  pub backwards : (k : MoveKind) (φ : Facts) (f g : ℕ) (x y x' y' : Bool) → fits φ.none1 φ.all1 x ≡ true → fits φ.none2 φ.all2 y ≡ true
      → begins k x y ≡ true → filter k φ f ≡ Some g → live g (then1 k x x') (then2 k y y') ≡ true → (live f x y ≡ true) × (pick x y ≡ k)
