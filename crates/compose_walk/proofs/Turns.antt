-- A loop that stores: what is left fits, and leaves what all leaves. And its turn, where each record with a label makes one step with a walked transition.
use mathlib.Core.Path.{◌≡◌, refl, sym, ◌∙◌, ap, subst}
use mathlib.Core.Bool.{Bool, true, false, or_comm}
use mathlib.Core.List.{List, [], ◌∷◌, ◌++◌, flat_map}
use Rattle.std.specs.Prelude.{Option, None, Some}
use Prim.Native.Nat.{ℕ, ◌≤◌, ◌<◌}
use native.Mathlib.Nat.{add_comm, mul_comm}
use native.Mathlib.Omega.{arith}
use lib.Dec.{eqb}
use lib.ListN.{length}
use borrow.Author.Tests.{eqb-true, eqb-false}
use Rattle.words.specs.Labels.{MAX, Checked, good}
use Rattle.words.specs.Weights.{Kind, cost, count, times}
use Rattle.words.specs.Matches.{MatchType, inputs, outputs, label_on, Tr as Transition, tr_of}
use Rattle.words.specs.Machines.{tr_count, next_of, machine_of}
use Rattle.words.specs.Steps.{Step, weighed}
use Rattle.words.proofs.ListLaws.{link}
use Rattle.calls.specs.Store.{Store}
use Rattle.matchers.specs.Cursors.{with_label}
use Rattle.matchers.proofs.Seeks.{with_end}
use Rattle.sorted_lists.specs.Runs.{rising}
use Rattle.sorted_lists.proofs.Along.{with_stops, with_on}
use Rattle.stored_steps.specs.Storing.{store_one, store_all, Room, Fits}
use Rattle.stored_steps.specs.Chains.{Chained}
use Rattle.stored_steps.proofs.Chains.{one_chained}
use Rattle.compose_walk.specs.Plans.{joined_by, with_records}

-- the order of two weights plays no part in their product
pub times_swap : (k : Kind) (a b : ℕ) → times k a b ≡ times k b a
unfolding times
times_swap cost a b = rw (or_comm (eqb a MAX) (eqb b MAX), add_comm a b)
times_swap count a b = rw (mul_comm a b)

-- a step that is no refusal has a product
some_product : (a b : Transition) (f : ℕ) (o : Option ℕ) (d : Store) (others : List (Checked Step)) → Fits d (weighed a b f o ∷ others) → (v : ℕ) × (o ≡ Some v)
some_product a b f (Some v) d others h = (v, refl)
some_product a b f None d others h = absurd h

-- so what fits has one at its front, in either direction
pub fits_product : (on : MatchType) (k : Kind) (w l : Transition) (f : ℕ) (d : Store) (others : List (Checked Step)) → Fits d (joined_by on k w l (Some f) ++ others)
    → (v : ℕ) × (times k w.weight l.weight ≡ Some v)
fits_product inputs k w l f d others h = some_product w l f (times k w.weight l.weight) d others h
fits_product outputs k w l f d others h =
    let p = some_product l w f (times k l.weight w.weight) d others h in (p.0, times_swap k w.weight l.weight ∙ p.1)

-- the steps that are left fit a chained store, and leave what all leave
pub record Left (d₀ : Store) (all : List (Checked Step)) (d : Store) (steps : List (Checked Step)) : Type 0 where
  pub fits : Fits d steps
  pub chained : Chained d
  pub same : store_all d steps ≡ store_all d₀ all

pub left_all : (d : Store) (all : List (Checked Step)) → Fits d all → Chained d → Left d all d all
left_all d all f c = record { fits = f; chained = c; same = refl }

-- nothing is left
pub left_none : {d₀ d : Store} {all steps : List (Checked Step)} → steps ≡ [] → Left d₀ all d steps → d ≡ store_all d₀ all
unfolding store_all
left_none {d = d} e l = sym (ap (store_all d) e) ∙ l.same

-- the first of what is left has its records
pub left_room : {d₀ d : Store} {all steps others : List (Checked Step)} {st : Step} → steps ≡ good st ∷ others → Left d₀ all d steps → Room d st × Chained d
left_room {d = d} e l = ((subst (Fits d) e l.fits).0, l.chained)

-- once it is stored, the others are left
pub left_turn : {d₀ d g : Store} {all steps others : List (Checked Step)} {st : Step} → steps ≡ good st ∷ others → g ≡ store_one d st → Left d₀ all d steps → Left d₀ all g others
unfolding store_all
left_turn {d = d} {others = others} {st = st} e p l = record {
  fits = subst (λ (q : Store). Fits q others) (sym p) (subst (Fits d) e l.fits).1;
  chained = subst Chained (sym p) (one_chained d l.chained st (left_room e l).0);
  same = ap (λ (q : Store). store_all q others) p ∙ sym (ap (store_all d) e) ∙ l.same;
}

-- where records with the label are left and no label is below it, the record in hand has it
pub some_here : (on : MatchType) (m : List ℕ) (x u : ℕ) → u ≤ tr_count m → rising on m x u ≡ true → 0 < length (with_label on m x u) → (u ≡ 0 → ⊥) × (label_on on (machine_of m) u ≡ x)
some_here on m x u h r n = (some_record, go (eqb (label_on on (machine_of m) u) x) refl)
  where
    some_record : u ≡ 0 → ⊥
    some_record e = omega (arith, n, ap length (with_end on m x u e))

    go : (b : Bool) → eqb (label_on on (machine_of m) u) x ≡ b → label_on on (machine_of m) u ≡ x
    go true e = eqb-true _ _ e
    go false e = absurd (omega (arith, n, ap length (with_stops on m x u some_record h r (eqb-false _ _ e))))

pub no_records : (on : MatchType) (k : Kind) (m : List ℕ) (w : Transition) (f : ℕ) → with_records on k m w (Some f) [] ≡ []
unfolding with_records flat_map
no_records on k m w f = refl

-- a walked transition w with the records that have the label x, where the filter's next state is f
module _ (on : MatchType) (k : Kind) (m : List ℕ) (w : Transition) (f x : ℕ) where
  -- the steps from record u on
  abbrev pub steps_on : ℕ → List (Checked Step)
  steps_on u = with_records on k m w (Some f) (with_label on m x u)

  -- at a record with the label, whose transition is l: its step comes first
  pub steps_here : (u : ℕ) (l : Transition) → with_label on m x u ≡ u ∷ with_label on m x (next_of m u) → l ≡ tr_of (machine_of m) u
      → steps_on u ≡ joined_by on k w l (Some f) ++ steps_on (next_of m u)
  unfolding with_records flat_map
  steps_here u l e t = ap (with_records on k m w (Some f)) e ∙ ap (λ (r : Transition). joined_by on k w r (Some f) ++ steps_on (next_of m u)) (sym t)

-- where a loop over these records stands: at record u, with the store d
pub record Stands (on : MatchType) (k : Kind) (m : List ℕ) (w : Transition) (f x : ℕ) (d₀ : Store) (all : List (Checked Step)) (d : Store) (u : ℕ) : Type 0 where
  pub inside : u ≤ tr_count m
  pub rises : rising on m x u ≡ true
  pub left : Left d₀ all d (steps_on on k m w f x u)

module _ {on : MatchType} {k : Kind} {m : List ℕ} {w : Transition} {f x : ℕ} {d₀ : Store} {all : List (Checked Step)} {d : Store} {u : ℕ} (a : Stands on k m w f x d₀ all d u) where
  -- no record is left
  pub at_end : with_label on m x u ≡ [] → d ≡ store_all d₀ all
  at_end e = left_none (ap (with_records on k m w (Some f)) e ∙ no_records on k m w f) a.left

  -- a record with the label is in hand
  module _ (n : u ≡ 0 → ⊥) (y : label_on on (machine_of m) u ≡ x) {l : Transition} (t : l ≡ tr_of (machine_of m) u) where
    front : steps_on on k m w f x u ≡ joined_by on k w l (Some f) ++ steps_on on k m w f x (next_of m u)
    front = steps_here on k m w f x u l (with_on on m x u n a.inside a.rises y).0 t

    pub at_product : (v : ℕ) × (times k w.weight l.weight ≡ Some v)
    at_product = fits_product on k w l f d (steps_on on k m w f x (next_of m u)) (subst (Fits d) front a.left.fits)

    module _ {st : Step} (j : joined_by on k w l (Some f) ≡ good st ∷ []) where
      first : steps_on on k m w f x u ≡ good st ∷ steps_on on k m w f x (next_of m u)
      first = front ∙ ap (λ (r : List (Checked Step)). r ++ steps_on on k m w f x (next_of m u)) j

      pub at_room : Room d st × Chained d
      at_room = left_room first a.left

      pub at_turn : {g : Store} → g ≡ store_one d st → Stands on k m w f x d₀ all g (next_of m u)
      at_turn p = record { inside = (link m u).inside; rises = (with_on on m x u n a.inside a.rises y).1; left = left_turn first p a.left }
