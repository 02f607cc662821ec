-- A closed instance, so that the theorem is seen to speak of something: two machines in words, each with two accepting paths, one of which has an ε on its inner side. Their four
-- pairs all match. Under each filter the composition has just four accepting paths, which differ by filter where two ε meet, and weigh what the pairs weigh.
use mathlib.Core.Path.{◌≡◌, refl, sym, ◌∙◌, ap, ap₂, subst}
use mathlib.Core.Bool.{Bool, true, false, false≢true, true≢false}
use mathlib.Core.List.Memᴰ
use mathlib.Core.List.Memᴰ.{head as here}
use mathlib.Core.List.Memᴰ.{tail as there}
use mathlib.Core.List.{List, [], ◌∷◌, map, flat_map, Memᴰ as In}
use mathlib.Core.Logic.{◌↔◌, ⊎_elim}
use Rattle.std.specs.Prelude.{Some}
use Rattle.std.proofs.lemmas.Option.{same_Some}
use Prim.Native.Nat.{ℕ}
use native.Mathlib.Omega.{arith}
use Rattle.lists.specs.Lists.{every, interval, keep_if}
use Rattle.papers.specs.Machine.{Machine}
use Rattle.papers.specs.Weight.{Semiring, Cost, finite, infinite, Kind, cost, count, semiring}
use Rattle.papers.specs.Filter.{MoveKind, Filter}
use Rattle.papers.specs.Composition.{rest, along, Edges}
use Rattle.papers.specs.Paths.{word, path1, path2, Matching, Ends, Accepting, AcceptingPath, AcceptingRun, moves_weight}
use Rattle.words.specs.Machines.{state_count, tr_count, start_word, side_mark, acceptor_mark, state_word, tr_word, first_ok, next_ok, first_of, next_of, list_by, list_from, list_of, machine_of, no_fall, sorted, state_ok, tr_ok, acceptor, marks_ok, well_formed, size_up_to, well_formed_up_to}
use Rattle.words.specs.Ignored.{heard}
use Rattle.words.specs.Sigmas.{has}
use Rattle.words.specs.Filters.{sequence, alternate, matching}
use Rattle.words.specs.AsPapers.{exact}
use Rattle.papers.specs.Pick.{sequence_pick, alternate_pick, matching_pick}
use Rattle.readings.specs.Merge.{move, merge_up_to, merge}
use Rattle.readings.specs.Readings.{plain_composed, Pair, ReadingsOf}
use Rattle.readings.specs.Places.{same_edge}
use Rattle.readings.proofs.Filters.{sequence_readings, alternate_readings, match_readings}

-- States 0, 1, 2; records 1 from 0 to 1 and 2 from 1 to 2, and 3 from 0 to 2, which is final. Records 1 and 2 are those of 01's listing.
-- Machine 1: 1:0 of weight 1, 2:5 of weight 2, 3:5 of weight 10; final weight 2.
abbrev pub words1 : List ℕ
words1 = 3 ∷ 3 ∷ 1 ∷ 0 ∷ 0 ∷ 0 ∷ 1 ∷ 0 ∷ 0 ∷ 2 ∷ 0 ∷ 0 ∷ 0 ∷ 1 ∷ 2 ∷ 1 ∷ 0 ∷ 1 ∷ 1 ∷ 3 ∷ 2 ∷ 5 ∷ 2 ∷ 2 ∷ 0 ∷ 3 ∷ 5 ∷ 10 ∷ 2 ∷ 0 ∷ []

-- Machine 2: 0:7 of weight 4, 5:8 of weight 1, 5:9 of weight 6; final weight 3.
abbrev pub words2 : List ℕ
words2 = 3 ∷ 3 ∷ 1 ∷ 0 ∷ 0 ∷ 0 ∷ 1 ∷ 0 ∷ 0 ∷ 2 ∷ 0 ∷ 0 ∷ 0 ∷ 1 ∷ 3 ∷ 0 ∷ 7 ∷ 4 ∷ 1 ∷ 3 ∷ 5 ∷ 8 ∷ 1 ∷ 2 ∷ 0 ∷ 5 ∷ 9 ∷ 6 ∷ 2 ∷ 0 ∷ []

pub well_formed_lem : (well_formed words1 ≡ true) × (well_formed words2 ≡ true)
unfolding well_formed_up_to size_up_to state_ok tr_ok marks_ok acceptor sorted no_fall every interval side_mark acceptor_mark state_count tr_count start_word state_word tr_word first_ok next_ok first_of next_of list_by list_from list_of heard has
well_formed_lem = (refl, refl)

abbrev M1 : Machine
M1 = machine_of words1

abbrev M2 : Machine
M2 = machine_of words2

-- what the two have in common
pub record Shape (M : Machine) : Type 0 where
  pub start : M.start ≡ Some 0
  pub list0 : M.list 0 ≡ 1 ∷ 3 ∷ []
  pub list1 : M.list 1 ≡ 2 ∷ []
  pub list2 : M.list 2 ≡ []
  pub to1 : M.target 1 ≡ 1
  pub to2 : M.target 2 ≡ 2
  pub to3 : M.target 3 ≡ 2
  pub ends0 : M.is_final 0 ≡ false
  pub ends1 : M.is_final 1 ≡ false

shape1 : Shape M1
unfolding state_count tr_count start_word state_word tr_word first_ok next_ok first_of next_of list_by list_from list_of heard has
shape1 = record { start = refl; list0 = refl; list1 = refl; list2 = refl; to1 = refl; to2 = refl; to3 = refl; ends0 = refl; ends1 = refl }

shape2 : Shape M2
unfolding state_count tr_count start_word state_word tr_word first_ok next_ok first_of next_of list_by list_from list_of heard has
shape2 = record { start = refl; list0 = refl; list1 = refl; list2 = refl; to1 = refl; to2 = refl; to3 = refl; ends0 = refl; ends1 = refl }

-- the two accepting paths of such a machine
abbrev pub long : List ℕ
long = 1 ∷ 2 ∷ []

abbrev pub short : List ℕ
short = 3 ∷ []

module _ (K : Semiring) (value : ℕ → K.Element) (M : Machine) (S : Shape M) where
  from2 : (p : List ℕ) → Accepting K value M 2 p → p ≡ []
  from2 [] h = refl
  from2 (t ∷ p) h = absurd (Memᴰ.not-nil (subst (In t) S.list2 h.0))

  from1 : (p : List ℕ) → Accepting K value M 1 p → p ≡ 2 ∷ []
  from1 [] h = absurd (false≢true (sym S.ends1 ∙ h.0))
  from1 (t ∷ p) h =
      let e : t ≡ 2 = ⊎_elim (λ e. e) (λ i. absurd (Memᴰ.not-nil i)) (Memᴰ.cases_cons (subst (In t) S.list1 h.0)) in
      let r = from2 p (subst (λ q. Accepting K value M q p) (ap M.target e ∙ S.to2) h.1) in
      ap₂ ◌∷◌ e r

  only_two : (p : List ℕ) → Accepting K value M 0 p → In p (long ∷ short ∷ [])
  only_two [] h = absurd (false≢true (sym S.ends0 ∙ h.0))
  only_two (t ∷ p) h =
      ⊎_elim
      (λ e. here (ap₂ ◌∷◌ e (from1 p (subst (λ q. Accepting K value M q p) (ap M.target e ∙ S.to1) h.1))))
      (λ i.
      let e : t ≡ 3 = ⊎_elim (λ e. e) (λ i. absurd (Memᴰ.not-nil i)) (Memᴰ.cases_cons i) in
      there (here (ap₂ ◌∷◌ e (from2 p (subst (λ q. Accepting K value M q p) (ap M.target e ∙ S.to3) h.1)))))
      (Memᴰ.cases_cons (subst (In t) S.list0 h.0))

  module _ (ends : Ends K value M 2) where
    long_accepts : Accepting K value M 0 long
    long_accepts =
        let i : In 2 (M.list (M.target 1)) = subst (λ q. In 2 (M.list q)) (sym S.to1) (subst (In 2) (sym S.list1) (here refl)) in
        (subst (In 1) (sym S.list0) (here refl), (i, subst (λ q. Ends K value M q) (sym S.to2) ends))

    short_accepts : Accepting K value M 0 short
    short_accepts = (subst (In 3) (sym S.list0) (there (here refl)), subst (λ q. Ends K value M q) (sym S.to3) ends)

-- from its start
begun : (K : Semiring) (value : ℕ → K.Element) (M : Machine) (p : List ℕ) → Shape M → AcceptingPath K value M p → Accepting K value M 0 p
begun K value M p S h = subst (λ q. Accepting K value M q p) (same_Some _ _ (sym h.1 ∙ S.start)) h.2

abbrev is_finite : Cost → Bool
is_finite (finite a) = true
is_finite infinite = false

ends1 : (k : Kind) → Ends (semiring k) (exact k) M1 2
unfolding state_word state_count
ends1 cost = (refl, λ e. true≢false (ap is_finite e))
ends1 count = (refl, λ e. absurd (omega (arith, e)))

ends2 : (k : Kind) → Ends (semiring k) (exact k) M2 2
unfolding state_word state_count
ends2 cost = (refl, λ e. true≢false (ap is_finite e))
ends2 count = (refl, λ e. absurd (omega (arith, e)))

-- the four pairs
abbrev pub pairs : List (List ℕ × List ℕ)
pairs = (long, long) ∷ (long, short) ∷ (short, long) ∷ (short, short) ∷ []

-- what holds of both paths
of_two : (P : List ℕ → Type 0) (p : List ℕ) → P long → P short → In p (long ∷ short ∷ []) → P p
of_two P p a b i =
    ⊎_elim (λ e. subst P (sym e) a) (λ i. ⊎_elim (λ e. subst P (sym e) b) (λ i. absurd (Memᴰ.not-nil i)) (Memᴰ.cases_cons i)) (Memᴰ.cases_cons i)

-- the composed path of a pair, where `pick` says which move goes first; of the four
abbrev pub composed_path : (Bool → Bool → MoveKind) → List ℕ × List ℕ → List Edges
composed_path pick p = merge pick M1 M2 p.0 p.1

abbrev pub composed_paths : (Bool → Bool → MoveKind) → List (List Edges)
composed_paths pick = map (composed_path pick) pairs

pair_in : (p r : List ℕ) → In p (long ∷ short ∷ []) → In r (long ∷ short ∷ []) → In (p, r) pairs
pair_in p r i j =
    of_two (λ p. In (p, r) pairs) p
    (of_two (λ r. In (long, r) pairs) r (here refl) (there (here refl)) j)
    (of_two (λ r. In (short, r) pairs) r (there (there (here refl))) (there (there (there (here refl)))) j)
    i

of_pairs : (P : List ℕ × List ℕ → Type 0) (p : List ℕ × List ℕ) → P (long, long) → P (long, short) → P (short, long) → P (short, short) → In p pairs → P p
of_pairs P p a b c d i =
    ⊎_elim (λ e. subst P (sym e) a)
    (λ i. ⊎_elim (λ e. subst P (sym e) b)
    (λ i. ⊎_elim (λ e. subst P (sym e) c)
    (λ i. ⊎_elim (λ e. subst P (sym e) d) (λ i. absurd (Memᴰ.not-nil i)) (Memᴰ.cases_cons i)) (Memᴰ.cases_cons i)) (Memᴰ.cases_cons i)) (Memᴰ.cases_cons i)

all_match : (p : List ℕ × List ℕ) → In p pairs → Matching ◌≡◌ M1 M2 p.0 p.1
unfolding word keep_if tr_word state_count heard has
all_match p i = of_pairs (λ p. Matching ◌≡◌ M1 M2 p.0 p.1) p (refl, tt) (refl, tt) (refl, tt) (refl, tt) i

module _ (k : Kind) where
  -- their pairs are pairs of accepting paths that match
  all_accept : (p : List ℕ × List ℕ) → In p pairs → Pair (semiring k) (exact k) ◌≡◌ (plain_composed M1 M2 sequence) p
  all_accept p i = (
    (0, shape1.start, of_pairs (λ p. Accepting (semiring k) (exact k) M1 0 p.0) p l1 l1 s1 s1 i),
    (0, shape2.start, of_pairs (λ p. Accepting (semiring k) (exact k) M2 0 p.1) p l2 s2 l2 s2 i),
    all_match p i,
  )
    where
      l1 : Accepting (semiring k) (exact k) M1 0 long
      l1 = long_accepts (semiring k) (exact k) M1 shape1 (ends1 k)

      s1 : Accepting (semiring k) (exact k) M1 0 short
      s1 = short_accepts (semiring k) (exact k) M1 shape1 (ends1 k)

      l2 : Accepting (semiring k) (exact k) M2 0 long
      l2 = long_accepts (semiring k) (exact k) M2 shape2 (ends2 k)

      s2 : Accepting (semiring k) (exact k) M2 0 short
      s2 = short_accepts (semiring k) (exact k) M2 shape2 (ends2 k)

  -- whichever filter: the accepting paths of the composition are those of the four pairs, and no others
  pub just_four : (F : Filter) (pick : Bool → Bool → MoveKind) → ReadingsOf k (exact k) M1 M2 F pick → (ms : List Edges)
      → AcceptingRun (semiring k) (exact k) (plain_composed M1 M2 F) ms ↔ In ms (composed_paths pick)
  just_four F pick r ms = (
    λ h.
        let g = r.paths.goes ms h in
        let i = only_two (semiring k) (exact k) M1 shape1 (path1 ms) (begun (semiring k) (exact k) M1 (path1 ms) shape1 g.0) in
        let j = only_two (semiring k) (exact k) M2 shape2 (path2 ms) (begun (semiring k) (exact k) M2 (path2 ms) shape2 g.1) in
        subst (λ n. In n (composed_paths pick)) (r.paths.from_to ms h) (Memᴰ.map (composed_path pick) (pair_in (path1 ms) (path2 ms) i j)),
    λ i.
        let p = Memᴰ.of_map (composed_path pick) pairs i in
        subst (AcceptingRun (semiring k) (exact k) (plain_composed M1 M2 F)) p.2 (r.paths.comes p.0 (all_accept p.0 p.1)),
  )

  pub four_by_sequence : (ms : List Edges) → AcceptingRun (semiring k) (exact k) (plain_composed M1 M2 sequence) ms ↔ In ms (composed_paths sequence_pick)
  four_by_sequence = just_four sequence sequence_pick (sequence_readings k (exact k) M1 M2)

  pub four_by_alternate : (ms : List Edges) → AcceptingRun (semiring k) (exact k) (plain_composed M1 M2 alternate) ms ↔ In ms (composed_paths alternate_pick)
  four_by_alternate = just_four alternate alternate_pick (alternate_readings k (exact k) M1 M2)

  pub four_by_match : (ms : List Edges) → AcceptingRun (semiring k) (exact k) (plain_composed M1 M2 matching) ms ↔ In ms (composed_paths matching_pick)
  four_by_match = just_four matching matching_pick (match_readings k (exact k) M1 M2)

-- They are these. Two ε meet in the first pair: sequence takes machine 1's first, alternate machine 2's, match both together.
pub by_sequence : composed_paths sequence_pick ≡
    (move (along 1) rest ∷ move rest (along 1) ∷ move (along 2) (along 2) ∷ [])
    ∷ (move (along 1) rest ∷ move (along 2) (along 3) ∷ [])
    ∷ (move rest (along 1) ∷ move (along 3) (along 2) ∷ [])
    ∷ (move (along 3) (along 3) ∷ [])
    ∷ []
unfolding merge_up_to tr_word state_count heard has
by_sequence = refl

pub by_alternate : composed_paths alternate_pick ≡
    (move rest (along 1) ∷ move (along 1) rest ∷ move (along 2) (along 2) ∷ [])
    ∷ (move (along 1) rest ∷ move (along 2) (along 3) ∷ [])
    ∷ (move rest (along 1) ∷ move (along 3) (along 2) ∷ [])
    ∷ (move (along 3) (along 3) ∷ [])
    ∷ []
unfolding merge_up_to tr_word state_count heard has
by_alternate = refl

pub by_match : composed_paths matching_pick ≡
    (move (along 1) (along 1) ∷ move (along 2) (along 2) ∷ [])
    ∷ (move (along 1) rest ∷ move (along 2) (along 3) ∷ [])
    ∷ (move rest (along 1) ∷ move (along 3) (along 2) ∷ [])
    ∷ (move (along 3) (along 3) ∷ [])
    ∷ []
unfolding merge_up_to tr_word state_count heard has
by_match = refl

-- The other order of the two ε, by which the first reading would be doubled, is no accepting path under sequence.
abbrev moves1 : List Edges → Bool
moves1 [] = false
moves1 (m ∷ ms) = same_edge m.first (along 1)

abbrev other_order : List Edges
other_order = move rest (along 1) ∷ move (along 1) rest ∷ move (along 2) (along 2) ∷ []

pub not_doubled : (k : Kind) → AcceptingRun (semiring k) (exact k) (plain_composed M1 M2 sequence) other_order → ⊥
unfolding flat_map merge_up_to tr_word state_count heard has
not_doubled k h = true≢false (ap moves1 ((sequence_readings k (exact k) M1 M2).paths.from_to other_order h))

-- Machine 1's paths cost 5 and 12, machine 2's 8 and 9; they count 4 and 20, 12 and 18.
abbrev pub path_weights : (k : Kind) → Filter → (Bool → Bool → MoveKind) → List (semiring k).Element
path_weights k F pick = map (moves_weight (semiring k) (exact k) (plain_composed M1 M2 F) 0 0) (composed_paths pick)

abbrev sums : List Cost
sums = finite 13 ∷ finite 14 ∷ finite 20 ∷ finite 21 ∷ []

pub costs : (path_weights cost sequence sequence_pick ≡ sums) × (path_weights cost alternate alternate_pick ≡ sums) × (path_weights cost matching matching_pick ≡ sums)
unfolding merge_up_to state_word tr_word state_count heard has
costs = (refl, refl, refl)

abbrev products : List ℕ
products = 48 ∷ 72 ∷ 240 ∷ 360 ∷ []

pub counts : (path_weights count sequence sequence_pick ≡ products) × (path_weights count alternate alternate_pick ≡ products) × (path_weights count matching matching_pick ≡ products)
unfolding merge_up_to state_word tr_word state_count heard has
counts = (refl, refl, refl)
