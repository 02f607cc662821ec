-- The kept moves that 01 lists at a composed state are exactly the papers' moves there with 01's filter, each once, whichever machine is walked; the refusals are 10 alone and 11.
use mathlib.Core.Path.{◌≡◌, refl, sym, ◌∙◌, ap, subst}
use mathlib.Core.Bool.{Bool, true, false, cond}
use mathlib.Core.List.Memᴰ.{head as here}
use mathlib.Core.List.{flat_map, Memᴰ as In}
use mathlib.Core.Logic.{◌↔◌}
use Rattle.std.specs.Prelude.{Some}
use Prim.Native.Nat.{ℕ}
use lib.Dec.{eqb}
use Rattle.lists.proofs.Members.{in_flat, of_flat}
use Rattle.papers.specs.Machine.{Machine}
use Rattle.papers.specs.Filter.{MoveKind, no_epsilon, only_epsilons}
use Rattle.papers.specs.Composition.{Edge, rest, along, Meets, Triple, Edges, KeptMove}
use Rattle.papers.specs.Sigma.{special_of1, special_of2}
use Rattle.papers.proofs.Forms.{Meeting}
use Rattle.papers.proofs.Mirror.{mirror_kind, mirror_twice, mirror_meets, met_mirror}
use Rattle.words.specs.Labels.{good, refused}
use Rattle.words.specs.Matches.{MatchType, inputs, outputs, label_on, own, viaSigma}
use Rattle.words.specs.Sigmas.{Operand, inner}
use Rattle.words.specs.Filters.{none_at, all_at}
use Rattle.words.specs.Steps.{Composition, Move, move_kind, Kept, kept_along}
use Rattle.words.specs.AsPapers.{edge_of, edges_of, special_of, meets_in, composed_in, WalkedSigma, walked_of, match_of, matches_of}
use Rattle.words.specs.Links.{Composable, Exactly}
use Rattle.words.proofs.PapersKept.{moves, facts, kept1, of_kept1, in_kept1, refused1, along_once}
use Rattle.words.proofs.PapersWalk.{in_walk, of_walk, kind_walked, kind_other, refused_walk}

edge_walked : (e : Edge) → edge_of (walked_of e) ≡ e
edge_walked rest = refl
edge_walked (along t) = refl

edge_match_lem : (W M : Operand) (e1 e2 : Edge) → edge_of (match_of W M e1 e2) ≡ e2
edge_match_lem W M e1 rest = refl
edge_match_lem W M rest (along u) = refl
edge_match_lem W M (along t) (along u) = go (eqb (inner M u) (inner W t))
  where
    go : (b : Bool) → edge_of (cond b (own u) (viaSigma u)) ≡ along u
    go true = refl
    go false = refl

pub edges_matches : (d : MatchType) (A B : Operand) (m : Edges) → edges_of (matches_of d A B m) ≡ m
edges_matches inputs A B m = λ i. record { first = edge_walked m.first i; second = edge_match_lem A B m.first m.second i }
edges_matches outputs A B m = λ i. record { first = edge_match_lem B A m.second m.first i; second = edge_walked m.second i }

meeting_mirror : (A B : Machine) (la lb : ℕ → ℕ) (meets : Meets) (q1 q2 : ℕ) (k : MoveKind) (e1 e2 : Edge)
    → Meeting A B la lb meets q1 q2 k e1 e2 → Meeting B A lb la (mirror_meets meets) q2 q1 (mirror_kind k) e2 e1
meeting_mirror A B la lb meets q1 q2 k e1 e2 h = (h.1, h.0, met_mirror meets q1 q2 k _ _ h.2)

-- the moves before the filter
module _ (c : Composition) (S : Composable c) (s : Triple) where
  abbrev A : Operand
  A = c.operand1

  abbrev B : Operand
  B = c.operand2

  abbrev Pairs : MatchType → MoveKind → Edges → Type 0
  Pairs d k m = Meeting A.machine B.machine (inner A) (inner B) (meets_in d A B) s.s1 s.s2 k m.first m.second

  -- a pair of edges that meet, its row of the filters' table, its matches
  abbrev Moved : MatchType → Move → Type 0
  Moved d v = (k : MoveKind) × (m : Edges) × Pairs d k m × (matches_of d A B m ≡ v) × (move_kind A v.first v.second ≡ k)

  of_moves : (d : MatchType) (v : Move) → In (good v) (moves c s d) → Moved d v
  of_moves inputs v i =
      let r = of_walk inputs A s.s1 B s.s2 S.nonzero2 (S.labels1 s.s1) (S.labels2 s.s2) v i in
      let kind = kind_walked inputs A s.s1 B s.s2 S.nonzero2 (S.labels1 s.s1) (S.labels2 s.s2) r.0 r.1 r.2 r.3 in
      (r.0, record { first = r.1; second = r.2 }, r.3, r.4, subst (λ z. move_kind A z.first z.second ≡ r.0) r.4 kind)
  of_moves outputs v i =
      let r = of_walk outputs B s.s2 A s.s1 S.nonzero1 (S.labels2 s.s2) (S.labels1 s.s1) v i in
      let kind = kind_other outputs B s.s2 A s.s1 S.nonzero1 (S.labels2 s.s2) (S.labels1 s.s1) r.0 r.1 r.2 r.3 in (
        mirror_kind r.0,
        record { first = r.2; second = r.1 },
        meeting_mirror B.machine A.machine (inner B) (inner A) (special_of2 (special_of A)) s.s2 s.s1 r.0 r.1 r.2 r.3,
        r.4,
        subst (λ z. move_kind A z.first z.second ≡ mirror_kind r.0) r.4 kind,
      )

  in_moves : (d : MatchType) (k : MoveKind) (m : Edges) → Pairs d k m → In (good (matches_of d A B m)) (moves c s d) × (move_kind A (matches_of d A B m).first (matches_of d A B m).second ≡ k)
  in_moves inputs k m h = (
    in_walk inputs A s.s1 B s.s2 S.nonzero2 (S.labels1 s.s1) (S.labels2 s.s2) k m.first m.second h,
    kind_walked inputs A s.s1 B s.s2 S.nonzero2 (S.labels1 s.s1) (S.labels2 s.s2) k m.first m.second h,
  )
  in_moves outputs k m h =
      let g = meeting_mirror A.machine B.machine (inner A) (inner B) (special_of1 (special_of A)) s.s1 s.s2 k m.first m.second h in (
        in_walk outputs B s.s2 A s.s1 S.nonzero1 (S.labels2 s.s2) (S.labels1 s.s1) (mirror_kind k) m.second m.first g,
        kind_other outputs B s.s2 A s.s1 S.nonzero1 (S.labels2 s.s2) (S.labels1 s.s1) (mirror_kind k) m.second m.first g ∙ mirror_twice k,
      )

  moves_refused : (d : MatchType) (n : ℕ) → In (refused n) (moves c s d) ↔ ((n ≡ 11) × WalkedSigma d A B s.s1 s.s2)
  moves_refused inputs n = refused_walk inputs A s.s1 B s.s2 S.nonzero2 (S.labels1 s.s1) (S.labels2 s.s2) n
  moves_refused outputs n = refused_walk outputs B s.s2 A s.s1 S.nonzero1 (S.labels2 s.s2) (S.labels1 s.s1) n

  -- the papers' relation over any inner labels: at the outputs of machine 1 and the inputs of machine 2 it is the papers', at the operands' inner labels it is 01's
  abbrev By : (ℕ → ℕ) → (ℕ → ℕ) → MatchType → Edges → ℕ → Type 0
  By la lb d m g =
      (k : MoveKind)
      × Meeting A.machine B.machine la lb (meets_in d A B) s.s1 s.s2 k m.first m.second
      × (c.filter k
      (record { none1 = no_epsilon la A.machine s.s1; all1 = only_epsilons la A.machine s.s1; none2 = no_epsilon lb B.machine s.s2; all2 = only_epsilons lb B.machine s.s2 })
      s.f ≡ Some g)

  pub outputs1 : inner A ≡ A.machine.output
  outputs1 = λ i t. label_on (S.on1 i) A.machine t

  pub inputs2 : inner B ≡ B.machine.input
  inputs2 = λ i t. label_on (S.on2 i) B.machine t

  as_papers : (d : MatchType) (m : Edges) (g : ℕ) → By (inner A) (inner B) d m g → KeptMove (composed_in d c) s m g
  as_papers d m g h = subst (λ lb. By A.machine.output lb d m g) inputs2 (subst (λ la. By la (inner B) d m g) outputs1 h)

  of_papers : (d : MatchType) (m : Edges) (g : ℕ) → KeptMove (composed_in d c) s m g → By (inner A) (inner B) d m g
  of_papers d m g h = subst (λ la. By la (inner B) d m g) (sym outputs1) (subst (λ lb. By A.machine.output lb d m g) (sym inputs2) h)

  -- in the direction given
  pub kept_along_lem : (d : MatchType) → Exactly d c s (kept_along c s d)
  unfolding kept_along none_at all_at
  kept_along_lem d = record {
    sound = λ v i. let r = move_of_lem v i in as_papers d (edges_of v.move) v.next r.0;
    known = λ v i. let r = move_of_lem v i in r.1;
    complete = λ m g h. let p = of_papers d m g h in let r = in_moves d p.0 m p.1 in in_flat (kept1 c s) r.0 (in_kept1 c s (matches_of d A B m) g (rw r.1 p.2));
    itself = edges_matches d A B;
    once = along_once c s S.distinct1 S.distinct2 d;
    refusals = λ n. (
      λ i. let r = of_flat (kept1 c s) (moves c s d) i in (moves_refused d n).0 (subst (λ x. In x (moves c s d)) (refused1 c s r.0 n r.2) r.1),
      λ h. in_flat (kept1 c s) ((moves_refused d n).1 h) (here refl),
    );
  }
    where
      move_of_lem : (v : Kept) → In (good v) (flat_map (kept1 c s) (moves c s d)) → By (inner A) (inner B) d (edges_of v.move) v.next × (matches_of d A B (edges_of v.move) ≡ v.move)
      move_of_lem v i =
          let r = of_flat (kept1 c s) (moves c s d) i in
          let e = of_kept1 c s r.0 v r.2 in
          let p = of_moves d v.move (subst (λ x. In x (moves c s d)) e.0 r.1) in
          let same : p.1 ≡ edges_of v.move = sym (edges_matches d A B p.1) ∙ ap edges_of p.3 in (
            (p.0, subst (Pairs d p.0) same p.2, subst (λ k. c.filter k (facts c s) s.f ≡ Some v.next) p.4 e.1),
            ap (matches_of d A B) (sym same) ∙ p.3,
          )
