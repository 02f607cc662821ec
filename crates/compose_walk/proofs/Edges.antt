-- What a walked transition makes, by its label; and the whole walked list, one record after the other. Each law serves both directions.
use mathlib.Core.Path.{◌≡◌, refl, sym, ◌∙◌, ap, ap₂, subst}
use mathlib.Core.Bool.{Bool, true, false}
use mathlib.Core.List.{List, [], ◌∷◌, ◌++◌, flat_map}
use Rattle.std.specs.Prelude.{Option, None, Some}
use Prim.Native.Nat.{ℕ, ◌≤◌}
use native.Mathlib.Omega.{arith}
use lib.Dec.{eqb, leb}
use lib.ListN.{length}
use borrow.Author.Tests.{leb-true, leb-false}
use Rattle.words.specs.Labels.{eps_label, Checked, good}
use Rattle.words.specs.Weights.{Kind, kind_of}
use Rattle.words.specs.Matches.{MatchType, inputs, outputs, Tr as Transition, tr_of}
use Rattle.words.specs.Machines.{tr_count, first_of, next_of, machine_of}
use Rattle.words.specs.Steps.{Step}
use Rattle.words.proofs.ListLaws.{list_end_lem, list_turn}
use Rattle.calls.specs.Store.{Store}
use Rattle.matchers.specs.Meaning.{the_loop}
use Rattle.matchers.specs.Cursors.{with_label, head0}
use Rattle.matchers.proofs.Seeks.{with_outside, sought_none, sought_again}
use Rattle.store_records.specs.Meaning.{store_in}
use Rattle.compose_moves.specs.Moves.{as_tr}
use Rattle.store_records.specs.declared.Used.{Used}
use Rattle.sorted_lists.specs.Runs.{rising}
use Rattle.sorted_lists.proofs.Along.{rising_first}
use Rattle.stored_steps.specs.Storing.{store_one, store_all, Room, Fits}
use Rattle.stored_steps.specs.Chains.{Chained}
use Rattle.stored_steps.proofs.AllSteps.{all_append, fits_append}
use Rattle.stored_steps.proofs.Chains.{all_chained}
use Rattle.compose_walk.specs.declared.Plan.{Plan}
use Rattle.compose_walk.specs.Plans.{side_by, joined_by, with_records, with_labelled, eps_by, edge_by, walked_label, record_by, edges_by, rest_by, plan_steps}

-- one step before others: it has its records
pub first_room : (d : Store) (l others : List (Checked Step)) (st : Step) → l ≡ good st ∷ [] → Fits d (l ++ others) → Room d st
first_room d l others st e h = (subst (λ (z : List (Checked Step)). Fits d (z ++ others)) e h).0

pub one_stored : (d e : Store) (l : List (Checked Step)) (st : Step) → e ≡ store_one d st → l ≡ good st ∷ [] → e ≡ store_all d l
unfolding store_all
one_stored d e l st p q = p ∙ ap (store_all d) (sym q)

pub none_stored : (d : Store) (l : List (Checked Step)) → l ≡ [] → d ≡ store_all d l
unfolding store_all
none_stored d l e = ap (store_all d) (sym e)

-- the same steps
pub as_steps : (d e : Store) (a b : List (Checked Step)) → a ≡ b → e ≡ store_all d a → e ≡ store_all d b
as_steps d e a b q p = p ∙ ap (store_all d) q

-- steps after others
pub then_fits : (d e : Store) (a b : List (Checked Step)) → e ≡ store_all d a → Fits d (a ++ b) → Fits e b
then_fits d e a b q h = subst (λ (z : Store). Fits z b) (sym q) (fits_append d a b h).1

pub then_chained : (d e : Store) (a : List (Checked Step)) → e ≡ store_all d a → Fits d a → Chained d → Chained e
then_chained d e a q f c = subst Chained (sym q) (all_chained d a c f)

pub then_stored : (d e f : Store) (a b : List (Checked Step)) → e ≡ store_all d a → f ≡ store_all e b → f ≡ store_all d (a ++ b)
then_stored d e f a b q p = p ∙ (ap (λ (z : Store). store_all z b) q ∙ sym (all_append d a b))

-- the same slices and counts are the same store
pub same_store : (heads heads' states states' trs trs' : List ℕ) (u u' : Used) → heads ≡ heads' → states ≡ states' → trs ≡ trs' → u ≡ u' → store_in heads states trs u ≡ store_in heads' states' trs' u'
same_store heads heads' states states' trs trs' u u' p q r e i = store_in (p i) (q i) (r i) (e i)

pub no_length : (l : List ℕ) → length l ≡ 0 → l ≡ []
no_length [] e = refl
no_length (u ∷ us) e = absurd (omega arith)

-- no pair is made with no record, nor where the filter drops it
no_pair : (on : MatchType) (k : Kind) (a b : Transition) (cell : Option ℕ) → cell ≡ None → joined_by on k a b cell ≡ []
no_pair inputs k a b cell e = rw e
no_pair outputs k a b cell e = rw e

pub no_records : (on : MatchType) (k : Kind) (mm : List ℕ) (w : Transition) (cell : Option ℕ) (us : List ℕ) → us ≡ [] → with_records on k mm w cell us ≡ []
unfolding with_records flat_map
no_records on k mm w cell us e = rw e

pub no_pairs : (on : MatchType) (k : Kind) (mm : List ℕ) (w : Transition) (cell : Option ℕ) (us : List ℕ) → cell ≡ None → with_records on k mm w cell us ≡ []
unfolding with_records flat_map
no_pairs on k mm w cell [] e = refl
no_pairs on k mm w cell (u ∷ us) e = ap₂ (λ (x y : List (Checked Step)). x ++ y) (no_pair on k w (tr_of (machine_of mm) u) cell e) (no_pairs on k mm w cell us e)

-- the first record with a label is a record, and from it on the same ones have the label
module _ (on : MatchType) (mm : List ℕ) (x first from : ℕ) (e : from ≡ head0 (with_label on mm x first)) where
  from_again : with_label on mm x from ≡ with_label on mm x first
  from_again = ap (with_label on mm x) e ∙ sought_again on mm x first

  pub from_inside : from ≤ tr_count mm
  from_inside = go (leb from (tr_count mm)) refl
    where
      go : (b : Bool) → leb from (tr_count mm) ≡ b → from ≤ tr_count mm
      go true p = leb-true _ _ p
      go false p = let z = e ∙ ap head0 (sym from_again ∙ with_outside on mm x from (leb-false _ _ p)) in omega (arith, z)

  pub from_rising : (low : ℕ) → (from ≡ 0 → ⊥) → rising on mm low first ≡ true → rising on mm x from ≡ true
  from_rising low n r = subst (λ (u : ℕ). rising on mm x u ≡ true) (sym e) (rising_first on mm x low first r (λ z. n (e ∙ z)))

  pub from_none : from ≡ 0 → with_label on mm x first ≡ []
  from_none z = sought_none on mm x first (sym e ∙ z)

-- a walked epsilon alone, and with each epsilon of the list
abbrev pub alone_by : Plan → Transition → List (Checked Step)
alone_by v w = joined_by (side_by v) (kind_of v.kind) w (as_tr (kind_of v.kind) v.looked.0 the_loop) v.lone_walked

abbrev pub both_by : Plan → List ℕ → Transition → List (Checked Step)
both_by v mm w = with_labelled v mm w v.both eps_label

-- the first as the code has it
pub alone_is : (v : Plan) (w u : Transition) (f : ℕ) → u ≡ as_tr (kind_of v.kind) v.looked.0 the_loop → v.lone_walked ≡ Some f → joined_by (side_by v) (kind_of v.kind) w u (Some f) ≡ alone_by v w
alone_is v w u f p q = ap₂ (joined_by (side_by v) (kind_of v.kind) w) p (sym q)

pub alone_none : (v : Plan) (w : Transition) → v.lone_walked ≡ None → alone_by v w ≡ []
alone_none v w q = no_pair (side_by v) (kind_of v.kind) w (as_tr (kind_of v.kind) v.looked.0 the_loop) v.lone_walked q

pub both_is : (v : Plan) (mm : List ℕ) (w : Transition) (f : ℕ) → v.both ≡ Some f → with_labelled v mm w (Some f) eps_label ≡ both_by v mm w
both_is v mm w f q = ap (λ (o : Option ℕ). with_labelled v mm w o eps_label) (sym q)

module _ (v : Plan) (mm : List ℕ) (w : Transition) where
  -- a walked epsilon, and another label
  pub edge_eps : (x : ℕ) → eqb x eps_label ≡ true → edge_by v mm w x ≡ eps_by v mm w
  unfolding edge_by
  edge_eps x e = rw e

  pub edge_label : (x : ℕ) → eqb x eps_label ≡ false → edge_by v mm w x ≡ with_labelled v mm w (Some 0) x
  unfolding edge_by
  edge_label x e = rw e

  pub edge_from : (x from : ℕ) → eqb x eps_label ≡ false → from ≡ head0 (with_label (side_by v) mm x v.list.first)
      → edge_by v mm w x ≡ with_records (side_by v) (kind_of v.kind) mm w (Some 0) (with_label (side_by v) mm x from)
  edge_from x from n e = edge_label x n ∙ ap (with_records (side_by v) (kind_of v.kind) mm w (Some 0)) (sym (from_again (side_by v) mm x v.list.first from e))

-- the rest as the code has it
pub rest_is : (v : Plan) (mm : List ℕ) (w : Transition) (f : ℕ) → w ≡ as_tr (kind_of v.kind) v.walked.0 the_loop → v.lone_looked ≡ Some f → with_labelled v mm w (Some f) eps_label ≡ rest_by v mm
rest_is v mm w f p q = ap₂ (λ (z : Transition) (o : Option ℕ). with_labelled v mm z o eps_label) p (sym q)

module _ (v : Plan) (mw mm : List ℕ) where
  -- a walked record as it is read
  record_is : (t : ℕ) (w : Transition) (x : ℕ) → w ≡ tr_of (machine_of mw) t → x ≡ walked_label (side_by v) w → edge_by v mm w x ≡ record_by v mw mm t
  record_is t w x p q = ap (edge_by v mm w) q ∙ ap (λ (z : Transition). edge_by v mm z (walked_label (side_by v) z)) p

  pub edges_end : (t : ℕ) → t ≡ 0 → edges_by v mw mm t ≡ []
  unfolding edges_by flat_map
  edges_end t e = ap (flat_map (record_by v mw mm)) (list_end_lem mw t e)

  -- this record, and those from its link on
  edges_turn : (t : ℕ) → (t ≡ 0 → ⊥) → t ≤ tr_count mw → edges_by v mw mm t ≡ record_by v mw mm t ++ edges_by v mw mm (next_of mw t)
  unfolding edges_by flat_map
  edges_turn t n h = ap (flat_map (record_by v mw mm)) (list_turn mw t n h)

  -- a walked record as it is read, in its turn: what it makes fits
  module _ (t : ℕ) (w : Transition) (x : ℕ) (n : t ≡ 0 → ⊥) (h : t ≤ tr_count mw) (p : w ≡ tr_of (machine_of mw) t) (q : x ≡ walked_label (side_by v) w) where
    pub turned : edges_by v mw mm t ≡ edge_by v mm w x ++ edges_by v mw mm (next_of mw t)
    turned = edges_turn t n h ∙ ap (λ (l : List (Checked Step)). l ++ edges_by v mw mm (next_of mw t)) (sym (record_is t w x p q))

    pub edges_first : (d : Store) → Fits d (edges_by v mw mm t) → Fits d (edge_by v mm w x)
    edges_first d f = (fits_append d (edge_by v mm w x) (edges_by v mw mm (next_of mw t)) (subst (Fits d) turned f)).0

    -- and once it is stored, the others are left
    pub edges_next : (d e : Store) (u : ℕ) → u ≡ next_of mw t → e ≡ store_all d (edge_by v mm w x) → Fits d (edges_by v mw mm t)
        → Fits e (edges_by v mw mm u) × (store_all e (edges_by v mw mm u) ≡ store_all d (edges_by v mw mm t))
    edges_next d e u l s f =
        let others = edges_by v mw mm (next_of mw t) in (
          subst (λ (r : ℕ). Fits e (edges_by v mw mm r)) (sym l) (then_fits d e (edge_by v mm w x) others s (subst (Fits d) turned f)),
          ap (λ (r : ℕ). store_all e (edges_by v mw mm r)) l ∙ (then_stored d e (store_all e others) (edge_by v mm w x) others s refl ∙ ap (store_all d) (sym turned)),
        )

  -- all: the rest, and then the walked list
  pub plan_rest : (d : Store) → Fits d (plan_steps v mw mm) → Fits d (rest_by v mm)
  unfolding plan_steps
  plan_rest d f = (fits_append d (rest_by v mm) (edges_by v mw mm (first_of mw v.walked.0)) f).0

  module _ (d e : Store) (t : ℕ) (l : t ≡ first_of mw v.walked.0) (s : e ≡ store_all d (rest_by v mm)) where
    pub plan_left : Fits d (plan_steps v mw mm) → Fits e (edges_by v mw mm t)
    unfolding plan_steps
    plan_left f = subst (λ (r : ℕ). Fits e (edges_by v mw mm r)) (sym l) (then_fits d e (rest_by v mm) (edges_by v mw mm (first_of mw v.walked.0)) s f)

    pub plan_stored : store_all e (edges_by v mw mm t) ≡ store_all d (plan_steps v mw mm)
    unfolding plan_steps
    plan_stored = ap (λ (r : ℕ). store_all e (edges_by v mw mm r)) l ∙ then_stored d e (store_all e (edges_by v mw mm (first_of mw v.walked.0))) (rest_by v mm) (edges_by v mw mm (first_of mw v.walked.0)) s refl
