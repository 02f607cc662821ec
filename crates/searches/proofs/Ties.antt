-- The tie of work words to the search without words. Columns are functions; Held says that the words hold them, Ties what they say of the search.
use mathlib.Core.Path.{◌≡◌}
use mathlib.Core.Bool.{Bool, true, false, cond}
use mathlib.Core.List.{List, [], ◌∷◌, Memᴰ}
use mathlib.Core.Logic.{◌⊎◌}
use Prim.Native.Nat.{ℕ, zero, suc, ◌+◌, ◌*◌, ◌≤◌, ◌<◌}
use lib.Dec.{eqb}
use lib.ListN.{length}
use Rattle.searches.proofs.Search.{Graph, flat, Config, Seen, Base}
use Rattle.searches.specs.UsefulSearch.{cursor_in, open_in, status_in, place_in, bound_in, Links, Place, Found}

pub record Cols : Type 0 where
  pub cursor : ℕ → ℕ
  pub opens : ℕ → ℕ
  pub status : ℕ → ℕ
  pub place : ℕ → ℕ
  pub bound : ℕ → ℕ

unfoldable pub update : (ℕ → ℕ) → ℕ → ℕ → ℕ → ℕ
update f i v j = cond (eqb j i) v (f j)

pub record Held (N : ℕ) (w : List ℕ) (a : Cols) : Type 0 where
  pub long : 2 * N ≤ length w
  pub cursors : (i : ℕ) → i < N → cursor_in w i ≡ a.cursor i
  pub openings : (i : ℕ) → i < N → open_in w i ≡ a.opens i
  pub statuses : (i : ℕ) → i < N → status_in w i ≡ a.status i
  pub places : (i : ℕ) → i < N → place_in w i ≡ a.place i
  pub bounds : (i : ℕ) → i < N → bound_in w i ≡ a.bound i

-- the graph of links: from r are the records from r on
abbrev pub graph_of : Links → (ℕ → List ℕ) → (ℕ → Bool) → Graph
graph_of L from fin = record { list = λ n. from (L.first n); target = L.target; final = fin }

pub record Linked (L : Links) (from : ℕ → List ℕ) (N : ℕ) : Type 0 where
  pub none : from 0 ≡ []
  pub some : (r : ℕ) → 0 < r → from r ≡ r ∷ from (L.next r)
  pub target_below : (x r : ℕ) → Memᴰ r (from (L.first x)) → L.target r < N
  pub record_below : (x r : ℕ) → Memᴰ r (from (L.first x)) → r < 16777216
  pub small : N ≤ 16777216

-- the open states, newest first, stand at the places below their number
abbrev pub Opened : (ℕ → ℕ) → (ℕ → ℕ) → List ℕ → Type 0
Opened op pl [] = Unit {0}
Opened op pl (x ∷ xs) = (op (length xs) ≡ x) × (pl x ≡ length xs) × Opened op pl xs

abbrev pub Bounds : (ℕ → ℕ) → List (List ℕ) → Type 0
Bounds bd [] = Unit {0}
Bounds bd (f ∷ fs) = (bd (length fs) ≡ length (flat fs)) × Bounds bd fs

-- the path below the state s at depth d
abbrev pub Below : Links → (ℕ → List ℕ) → (ℕ → ℕ) → ℕ → ℕ → List (ℕ × List ℕ) → Type 0
Below L from cur d s [] = (d ≡ 0) × (s ≡ 0)
Below L from cur d s (e ∷ p) = (k : ℕ) × (d ≡ suc k) × (s ≡ L.target (cur k)) × (e.1 ≡ from (L.next (cur k))) × Below L from cur k e.0 p

-- what a status says of x
pub data Says (G : Graph) (dead alive opened : List ℕ) (x v : ℕ) : Type 0 where
  white : v ≡ 0 → G.final x ≡ false → (Memᴰ x dead ⊎ (Memᴰ x alive ⊎ Memᴰ x opened) → ⊥) → Says G dead alive opened x v
  ending : v ≡ 4 → G.final x ≡ true → (Memᴰ x dead ⊎ (Memᴰ x alive ⊎ Memᴰ x opened) → ⊥) → Says G dead alive opened x v
  unsettled : v ≡ 1 → Memᴰ x opened → Says G dead alive opened x v
  living : v ≡ 2 → Memᴰ x alive → Says G dead alive opened x v
  gone : v ≡ 3 → Memᴰ x dead → Says G dead alive opened x v

pub record Ties (G : Graph) (N : ℕ) (a : Cols) (o b : ℕ) (c : Config) : Type 0 where
  pub base : Base G c
  pub within : (x : ℕ) → Seen c x → x < N
  pub own : (e : ℕ × List ℕ) → Memᴰ e c.path → (q : ℕ) → Memᴰ q e.1 → Memᴰ q (G.list e.0)
  pub opened : Opened a.opens a.place (flat c.frames)
  pub count : o ≡ length (flat c.frames)
  pub cuts : Bounds a.bound c.frames
  pub parts : b ≡ length c.frames
  pub lit : (x : ℕ) → Memᴰ x (flat c.frames) → a.status x ≡ 1
  pub marks : (x : ℕ) → x < N → Says G c.dead c.alive (flat c.frames) x (a.status x)

-- the statuses of the open places from p on become v
unfoldable pub settled : (ℕ → ℕ) → (ℕ → ℕ) → ℕ → ℕ → ℕ → ℕ → ℕ
settled st op v p zero = st
settled st op v p (suc m) = settled (update st (op p) v) op v (suc p) m

-- what is left to do: the records left on the path and one for each state on it, and the records of states not seen and two for each of them
unfoldable pub fresh : ℕ → ℕ → ℕ
fresh v c = cond (eqb v 0) c (cond (eqb v 4) c 0)

unfoldable pub whites : (ℕ → ℕ) → (ℕ → ℕ) → ℕ → ℕ
whites len st zero = 0
whites len st (suc x) = fresh (st x) (suc (suc (len x))) + whites len st x

abbrev pub left : List (ℕ × List ℕ) → ℕ
left [] = 0
left (e ∷ p) = suc (length e.1) + left p

abbrev pub Rank : Links → (ℕ → List ℕ) → ℕ → (ℕ → ℕ) → List (ℕ × List ℕ) → ℕ → Type 0
Rank L from N st path m = whites (λ x. length (from (L.first x))) st N + left path ≤ m

-- words and place are those of a search with s on top of the path
pub record Drawn (L : Links) (from : ℕ → List ℕ) (fin : ℕ → Bool) (N m : ℕ) (w : List ℕ) (p : Place) : Type 0 where
  pub cols : Cols
  pub dead : List ℕ
  pub alive : List ℕ
  pub frames : List (List ℕ)
  pub below : List (ℕ × List ℕ)
  pub held : Held N w cols
  pub ties : Ties (graph_of L from fin) N cols p.o p.b (record { dead = dead; alive = alive; frames = frames; path = (p.s, from p.r) ∷ below })
  pub rank : Rank L from N cols.status ((p.s, from p.r) ∷ below) m
  pub down : Below L from cols.cursor p.d p.s below

-- and no open state is final
pub record Tied (L : Links) (from : ℕ → List ℕ) (fin : ℕ → Bool) (N m : ℕ) (w : List ℕ) (p : Place) : Type 0 where
  pub drawn : Drawn L from fin N m w p
  pub calm : (x : ℕ) → Memᴰ x (flat drawn.frames) → fin x ≡ false

-- the same where s has left the path
pub record Left (L : Links) (from : ℕ → List ℕ) (fin : ℕ → Bool) (N m : ℕ) (w : List ℕ) (p : Place) : Type 0 where
  pub cols : Cols
  pub dead : List ℕ
  pub alive : List ℕ
  pub frames : List (List ℕ)
  pub below : List (ℕ × List ℕ)
  pub held : Held N w cols
  pub ties : Ties (graph_of L from fin) N cols p.o p.b (record { dead = dead; alive = alive; frames = frames; path = below })
  pub rank : Rank L from N cols.status below m
  pub down : Below L from cols.cursor p.d p.s below
  pub calm : (x : ℕ) → Memᴰ x (flat frames) → fin x ≡ false

pub record Ended (L : Links) (from : ℕ → List ℕ) (fin : ℕ → Bool) (N : ℕ) (w : List ℕ) : Type 0 where
  pub dead : List ℕ
  pub alive : List ℕ
  pub base : Base (graph_of L from fin) (record { dead = dead; alive = alive; frames = []; path = [] })
  pub marks : (x : ℕ) → x < N → Says (graph_of L from fin) dead alive [] x (status_in w x)

abbrev pub After : (L : Links) → (ℕ → List ℕ) → (ℕ → Bool) → ℕ → ℕ → Found → Type 0
After L from fin N m f = ((f.done ≡ false) × Tied L from fin N m f.work f.at) ⊎ ((f.done ≡ true) × Ended L from fin N f.work)
