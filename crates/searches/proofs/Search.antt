-- The search for useful states, without words: what is dead, what is alive, the open states in frames (newest first), and the path (newest first) with the records still to be looked at.
use mathlib.Core.Path.{◌≡◌}
use mathlib.Core.Bool.{Bool, true, false}
use mathlib.Core.List.{List, [], ◌∷◌, ◌++◌, map, Memᴰ}
use mathlib.Core.Logic.{◌⊎◌}
use Prim.Native.Nat.{ℕ}
use Rattle.lists.specs.Lists.{Distinct}

pub record Graph : Type 0 where
  pub list : ℕ → List ℕ
  pub target : ℕ → ℕ
  pub final : ℕ → Bool

pub data Reach (G : Graph) : ℕ → ℕ → Type 0 where
  stay : (a b : ℕ) → a ≡ b → Reach G a b
  go : (a r b : ℕ) → Memᴰ r (G.list a) → Reach G (G.target r) b → Reach G a b

abbrev pub Ends : Graph → ℕ → Type 0
Ends G x = (e : ℕ) × Reach G x e × (G.final e ≡ true)

abbrev pub flat : List (List ℕ) → List ℕ
flat [] = []
flat (f ∷ fs) = f ++ flat fs

abbrev pub states : List (ℕ × List ℕ) → List ℕ
states p = map (λ e. e.0) p

abbrev pub Pending : List (ℕ × List ℕ) → ℕ → ℕ → Type 0
Pending path u r = (rest : List ℕ) × Memᴰ (u, rest) path × Memᴰ r rest

-- The path's states: a part in each frame that ends with the frame's oldest state; the others are alive.
abbrev pub Along : List ℕ → List ℕ → List (List ℕ) → Type 0
Along alive ps [] = (x : ℕ) → Memᴰ x ps → Memᴰ x alive
Along alive ps (f ∷ fs) =
    (qs : List ℕ) × (x : ℕ) × (rest : List ℕ) × (g : List ℕ) × (ps ≡ qs ++ (x ∷ rest)) × (f ≡ g ++ (x ∷ [])) × ((y : ℕ) → Memᴰ y qs → Memᴰ y f) × Along alive rest fs

-- open states reach all states of their own frame and of newer ones
abbrev pub Reaches : Graph → List (List ℕ) → Type 0
Reaches G [] = Unit {0}
Reaches G (f ∷ fs) = ((u v : ℕ) → Memᴰ u (f ++ flat fs) → Memᴰ v f → Reach G u v) × Reaches G fs

-- what was looked at leads to dead states, or into the own frame or newer ones
abbrev pub Fenced : Graph → List ℕ → List (ℕ × List ℕ) → List ℕ → List (List ℕ) → Type 0
Fenced G dead path newer [] = Unit {0}
Fenced G dead path newer (f ∷ fs) =
    ((u r : ℕ) → Memᴰ u f → Memᴰ r (G.list u) → Pending path u r ⊎ (Memᴰ (G.target r) dead ⊎ Memᴰ (G.target r) (newer ++ f)))
    × Fenced G dead path (newer ++ f) fs

pub record Config : Type 0 where
  pub dead : List ℕ
  pub alive : List ℕ
  pub frames : List (List ℕ)
  pub path : List (ℕ × List ℕ)

abbrev pub Seen : Config → ℕ → Type 0
Seen c x = Memᴰ x c.dead ⊎ (Memᴰ x c.alive ⊎ Memᴰ x (flat c.frames))

pub record Base (G : Graph) (c : Config) : Type 0 where
  pub zero_seen : Seen c 0
  pub found : (x : ℕ) → Seen c x → Reach G 0 x
  pub along : Along c.alive (states c.path) c.frames
  pub once_path : Distinct (states c.path)
  pub once : Distinct (flat c.frames)
  pub not_alive : (x : ℕ) → Memᴰ x (flat c.frames) → Memᴰ x c.alive → ⊥
  pub reaches : Reaches G c.frames
  pub fenced : Fenced G c.dead c.path [] c.frames
  pub dead_ends : (x : ℕ) → Memᴰ x c.dead → (G.final x ≡ false) × ((r : ℕ) → Memᴰ r (G.list x) → Memᴰ (G.target r) c.dead)
  pub alive_ends : (x : ℕ) → Memᴰ x c.alive → Ends G x
  pub onward : (x r : ℕ) → Seen c x → Memᴰ r (G.list x) → Pending c.path x r ⊎ Seen c (G.target r)

abbrev pub NoFinal : Graph → Config → Type 0
NoFinal G c = (x : ℕ) → Memᴰ x (flat c.frames) → G.final x ≡ false
