-- The mirror image of a composition: the machines inverted and exchanged, the filter mirrored. Its moves are those of the composition, exchanged.
use mathlib.Core.Path.{◌≡◌, refl}
use mathlib.Core.Logic.{◌↔◌}
use Rattle.std.specs.Prelude.{option_map}
use Prim.Native.Nat.{ℕ, zero, suc}
use Rattle.papers.specs.Machine.{Machine}
use Rattle.papers.specs.Filter.{MoveKind, lone1, lone2, bothEpsilon, aLabel, Facts, no_epsilon, only_epsilons, Filter, epsilon_sequencing, epsilon_sequencing_mirrored, epsilon_matching}
use Rattle.papers.specs.Composition.{Edge, rest, along, Leaves, next_state, Inner, inner, Meets, Met, Composed, Triple, Edges, KeptMove, reached, composed_input, composed_output}

abbrev pub mirror_kind : MoveKind → MoveKind
mirror_kind lone1 = lone2
mirror_kind lone2 = lone1
mirror_kind bothEpsilon = bothEpsilon
mirror_kind aLabel = aLabel

pub mirror_twice : (k : MoveKind) → mirror_kind (mirror_kind k) ≡ k
mirror_twice lone1 = refl
mirror_twice lone2 = refl
mirror_twice bothEpsilon = refl
mirror_twice aLabel = refl

abbrev pub mirror_meets : Meets → Meets
mirror_meets meets q2 q1 y x = meets q1 q2 x y

-- labels that meet, meet in the mirror
pub met_mirror : (meets : Meets) (q1 q2 : ℕ) (k : MoveKind) (a b : Inner) → Met meets q1 q2 k a b → Met (mirror_meets meets) q2 q1 (mirror_kind k) b a
met_mirror meets q1 q2 lone1 a b m = (m.1, m.0)
met_mirror meets q1 q2 lone2 a b m = (m.1, m.0)
met_mirror meets q1 q2 bothEpsilon a b m = (m.1, m.0)
met_mirror meets q1 q2 aLabel a b m = (m.1, m.0, m.3, m.2, m.5, m.4, m.6)

abbrev pub mirror_facts : Facts → Facts
mirror_facts φ = record { none1 = φ.none2; all1 = φ.all2; none2 = φ.none1; all2 = φ.all1 }

abbrev pub mirror_filter : Filter → Filter
mirror_filter filter k φ f = filter (mirror_kind k) (mirror_facts φ) f

-- inputs and outputs exchanged
abbrev pub inverse : Machine → Machine
inverse M = record {
  states = M.states;
  start = M.start;
  list = M.list;
  input = M.output;
  output = M.input;
  weight = M.weight;
  target = M.target;
  is_final = M.is_final;
  final_weight = M.final_weight;
}

abbrev pub mirror_composed : Composed → Composed
mirror_composed C = record { first = inverse C.second; second = inverse C.first; meets = mirror_meets C.meets; filter = mirror_filter C.filter }

abbrev pub mirror_triple : Triple → Triple
mirror_triple s = record { s1 = s.s2; s2 = s.s1; f = s.f }

abbrev pub mirror_move : Edges → Edges
mirror_move m = record { first = m.second; second = m.first }

leaves_inverse : (M : Machine) (q : ℕ) (e : Edge) → Leaves M q e → Leaves (inverse M) q e
leaves_inverse M q rest l = l
leaves_inverse M q (along t) l = l

of_inverse : (M : Machine) (q : ℕ) (e : Edge) → Leaves (inverse M) q e → Leaves M q e
of_inverse M q rest l = l
of_inverse M q (along t) l = l

pub kept_mirror : (C : Composed) (s : Triple) (m : Edges) (g : ℕ) → KeptMove C s m g ↔ KeptMove (mirror_composed C) (mirror_triple s) (mirror_move m) g
unfolding no_epsilon only_epsilons
kept_mirror C s m g = (
  λ h. (
    mirror_kind h.0,
    (leaves_inverse C.second s.s2 m.second h.1.1, leaves_inverse C.first s.s1 m.first h.1.0, turn h.0 h.1.2),
    rw mirror_twice h.2,
  ),
  λ h. (
    mirror_kind h.0,
    (of_inverse C.first s.s1 m.first h.1.1, of_inverse C.second s.s2 m.second h.1.0, back h.0 h.1.2),
    h.2,
  ),
)
  where
    a : Inner
    a = inner C.first.output m.first

    b : Inner
    b = inner C.second.input m.second

    turn : (k : MoveKind) → Met C.meets s.s1 s.s2 k a b → Met (mirror_meets C.meets) s.s2 s.s1 (mirror_kind k) b a
    turn k h = met_mirror C.meets s.s1 s.s2 k a b h

    back : (k : MoveKind) → Met (mirror_meets C.meets) s.s2 s.s1 k b a → Met C.meets s.s1 s.s2 (mirror_kind k) a b
    back k h = met_mirror (mirror_meets C.meets) s.s2 s.s1 k b a h

-- what it leads to and its labels are exchanged
pub reached_mirror : (C : Composed) (s : Triple) (m : Edges) (g : ℕ) → reached (mirror_composed C) (mirror_triple s) (mirror_move m) g ≡ mirror_triple (reached C s m g)
reached_mirror C s m g = λ i. record { s1 = next C.second s.s2 m.second i; s2 = next C.first s.s1 m.first i; f = g }
  where
    next : (M : Machine) (q : ℕ) (e : Edge) → next_state (inverse M) q e ≡ next_state M q e
    next M q rest = refl
    next M q (along t) = refl

pub input_mirror : (C : Composed) (m : Edges) → composed_input (mirror_composed C) (mirror_move m) ≡ composed_output C m
input_mirror C m = refl

pub output_mirror : (C : Composed) (m : Edges) → composed_output (mirror_composed C) (mirror_move m) ≡ composed_input C m
output_mirror C m = refl

-- the second of the papers' filters is the first in the mirror; the third is its own mirror image but for the names of its states 1 and 2
pub sequencing_mirror : (k : MoveKind) (φ : Facts) (f : ℕ) → epsilon_sequencing_mirrored k φ f ≡ mirror_filter epsilon_sequencing k φ f
sequencing_mirror lone1 φ f = refl
sequencing_mirror lone2 φ zero = refl
sequencing_mirror lone2 φ (suc f) = refl
sequencing_mirror bothEpsilon φ f = refl
sequencing_mirror aLabel φ f = refl

abbrev exchanged : ℕ → ℕ
exchanged zero = 0
exchanged (suc zero) = 2
exchanged (suc (suc f)) = 1

pub matching_mirror : (k : MoveKind) (φ : Facts) (f : ℕ) → option_map exchanged (epsilon_matching k φ f) ≡ mirror_filter epsilon_matching k φ (exchanged f)
matching_mirror lone1 φ zero = refl
matching_mirror lone1 φ (suc zero) = refl
matching_mirror lone1 φ (suc (suc f)) = refl
matching_mirror lone2 φ zero = refl
matching_mirror lone2 φ (suc zero) = refl
matching_mirror lone2 φ (suc (suc f)) = refl
matching_mirror bothEpsilon φ zero = refl
matching_mirror bothEpsilon φ (suc zero) = refl
matching_mirror bothEpsilon φ (suc (suc f)) = refl
matching_mirror aLabel φ f = refl
