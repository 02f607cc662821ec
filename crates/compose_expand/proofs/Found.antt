-- What the checks 1 to 8 tell of a found state: all that a plan relies on.
use mathlib.Core.Path.{◌≡◌, sym, ◌∙◌, ap, subst}
use mathlib.Core.Bool.{Bool, true}
use mathlib.Core.List.{List}
use Prim.Native.Nat.{ℕ, ◌<◌, ◌≤◌}
use lib.ListN.{length}
use Rattle.lists.proofs.Members.{and_left}
use Rattle.words.specs.Labels.{MAX, good, and_then}
use Rattle.words.specs.Weights.{kind_of}
use Rattle.words.specs.Matches.{MatchType, inputs, outputs}
use Rattle.words.specs.Machines.{state_count, well_formed}
use Rattle.words.specs.Sides.{side_of}
use Rattle.words.specs.Settings.{Settings}
use Rattle.words.specs.Steps.{Composition, Triple, steps_at}
use Rattle.words.proofs.StepRange.{InRange}
use Rattle.calls.specs.Store.{Memory, Store, triple_at}
use Rattle.calls.specs.Checks.{store_of, entered}
use Rattle.calls.specs.Calls.{store_steps}
use Rattle.calls.proofs.ExpandKept.{Sided, sided, entered_is}
use Rattle.store_records.specs.declared.Used.{Used}
use Rattle.match_type.specs.Chosen.{side_means}
use Rattle.compose_fst_op.specs.Composing.{option_settings, lent_of, composing, composing_words}
use Rattle.compose_fst_op.proofs.Composed.{composing_none}
use Rattle.compose_fst_op.specs.declared.ComposeFstOpOptions.{ComposeFstOpOptions}
use Rattle.list_facts.specs.Facts.{TrueOf}
use Rattle.list_facts.specs.declared.ListFacts.{ListFacts}
use Rattle.stored_steps.specs.Storing.{Fits}
use Rattle.stored_steps.specs.Chains.{Chained}
use Rattle.stored_steps.proofs.Chains.{form_chained}
use Rattle.compose_bounds.specs.Serving.{weights_fit, plain_direction}
use Rattle.compose_weigh.specs.Weigh.{weigh_of}
use Rattle.compose_weigh.proofs.EnteredLaws.{weigh_entered}
use Rattle.compose_plan.specs.Serves.{no_sigma, serves_of}
use Rattle.compose_plan.specs.Planning.{Present}
use Rattle.compose_plan.specs.Storing.{Weighable}
use Rattle.compose_plan.proofs.Fitting.{good_steps, serves_fits}
use Rattle.compose_store.specs.Meaning.{session_under}

module _ (o : ComposeFstOpOptions) (m1 m2 a1 a2 ignored : List ℕ) (u : Used) (m : Memory)
    (e : entered (lent_of o m1 m2 a1 a2 ignored) (session_under o u) m ≡ good (composing o m1 m2 a1 a2 ignored)) where
  passed : Sided (option_settings o) (lent_of o m1 m2 a1 a2 ignored) (side_means o.side)
  passed =
      let h = entered_is (lent_of o m1 m2 a1 a2 ignored) (session_under o u) m (composing o m1 m2 a1 a2 ignored) e in
      sided (option_settings o) (lent_of o m1 m2 a1 a2 ignored) (side_means o.side) (h.rule ∙ ap good (sym (ap (λ (c : Composition). c.side) h.composition)))

  pub formed1 : well_formed m1 ≡ true
  formed1 = passed.formed1

  pub formed2 : well_formed m2 ≡ true
  formed2 = passed.formed2

  -- the pair of a found state is in range
  pub in_range : (n : ℕ) → n < u.states → InRange (state_count m1) (state_count m2) (triple_at m.states n)
  in_range n found = ((entered_is (lent_of o m1 m2 a1 a2 ignored) (session_under o u) m (composing o m1 m2 a1 a2 ignored) e).form.state n found).triple

  -- the chains of states stay within the used records
  pub chained : Chained (store_of (session_under o u) m)
  chained = form_chained (store_of (session_under o u) m) (entered_is (lent_of o m1 m2 a1 a2 ignored) (session_under o u) m (composing o m1 m2 a1 a2 ignored) e).form

  -- the allowed lists play no part
  rule_any : length ignored ≡ 0 → (b1 b2 : List ℕ) → side_of (composing_words o m1 m2 b1 b2).operand1 (composing_words o m1 m2 b1 b2).operand2 ≡ good (side_means o.side)
  unfolding side_of
  rule_any none b1 b2 =
      let h = entered_is (lent_of o m1 m2 a1 a2 ignored) (session_under o u) m (composing o m1 m2 a1 a2 ignored) e in
      subst (λ (c : Composition). side_of c.operand1 c.operand2 ≡ good (side_means o.side)) (sym h.composition ∙ composing_none o m1 m2 a1 a2 ignored none) passed.rule

  pub present : length ignored ≡ 0 → (n : ℕ) → n < u.states → (t : Triple) → t ≡ triple_at m.states n → (f1 f2 : ListFacts)
      → TrueOf outputs (kind_of o.kind) m1 (triple_at m.states n).s1 f1 → TrueOf inputs (kind_of o.kind) m2 (triple_at m.states n).s2 f2
      → (b1 b2 : List ℕ) → Present o m1 m2 b1 b2 t f1 f2
  present none n found t q f1 f2 t1 t2 b1 b2 =
      subst (λ (s : Triple). Present o m1 m2 b1 b2 s f1 f2) (sym q)
      (record {
        formed1 = formed1;
        formed2 = formed2;
        rule = rule_any none b1 b2;
        inside1 = (in_range n found).s1;
        inside2 = (in_range n found).s2;
        facts1 = t1;
        facts2 = t2;
      })

-- where the bounds serve, no label is sigma
pub serves_plain : (s : Settings) (on : MatchType) (d : Store) (f1 f2 : ListFacts) → serves_of s on d f1 f2 ≡ true → no_sigma s ≡ true
unfolding serves_of
serves_plain s on d f1 f2 e = and_left (no_sigma s) _ e

-- and every step fits
pub serves_fit : {o : ComposeFstOpOptions} {m1 m2 : List ℕ} {t : Triple} {f1 f2 : ListFacts} (d : Store) (on : MatchType) → ((a1 a2 : List ℕ) → Present o m1 m2 a1 a2 t f1 f2)
    → on ≡ plain_direction (side_means o.side) f1.len f2.len → serves_of (option_settings o) on d f1 f2 ≡ true → f1.most ≤ MAX → f2.most ≤ MAX
    → (a1 a2 : List ℕ) → Fits d (steps_at (composing_words o m1 m2 a1 a2) t)
serves_fit {o = o} {f1 = f1} {f2 = f2} d on p way e h1 h2 a1 a2 =
    serves_fits (p a1 a2) d (subst (λ (w : MatchType). serves_of (option_settings o) w d f1 f2 ≡ true) way e) h1 h2

-- so the steps of a found state fit where the bounds serve
pub plain_fit : (o : ComposeFstOpOptions) (m1 m2 a1 a2 ignored : List ℕ) (u : Used) (m : Memory) → entered (lent_of o m1 m2 a1 a2 ignored) (session_under o u) m ≡ good (composing o m1 m2 a1 a2 ignored)
    → length ignored ≡ 0 → (n : ℕ) → n < u.states → (t : Triple) → t ≡ triple_at m.states n → (f1 f2 : ListFacts)
    → TrueOf outputs (kind_of o.kind) m1 (triple_at m.states n).s1 f1 → TrueOf inputs (kind_of o.kind) m2 (triple_at m.states n).s2 f2 → f1.most ≤ MAX → f2.most ≤ MAX
    → (on : MatchType) → on ≡ plain_direction (side_means o.side) f1.len f2.len → serves_of (option_settings o) on (store_of (session_under o u) m) f1 f2 ≡ true
    → (b1 b2 : List ℕ) → Fits (store_of (session_under o u) m) (steps_at (composing_words o m1 m2 b1 b2) t)
plain_fit o m1 m2 a1 a2 ignored u m e none n found t q f1 f2 t1 t2 h1 h2 on way serves =
    serves_fit (store_of (session_under o u) m) on (present o m1 m2 a1 a2 ignored u m e none n found t q f1 f2 t1 t2) way serves h1 h2

-- where the largest weights fit, the steps of a found state may be weighed and stored
pub weighable : (o : ComposeFstOpOptions) (m1 m2 a1 a2 ignored : List ℕ) (u : Used) (m : Memory) → entered (lent_of o m1 m2 a1 a2 ignored) (session_under o u) m ≡ good (composing o m1 m2 a1 a2 ignored)
    → length ignored ≡ 0
    → (n : ℕ) → n < u.states → (t : Triple) → t ≡ triple_at m.states n → (f1 f2 : ListFacts)
    → TrueOf outputs (kind_of o.kind) m1 (triple_at m.states n).s1 f1 → TrueOf inputs (kind_of o.kind) m2 (triple_at m.states n).s2 f2
    → no_sigma (option_settings o) ≡ true → weights_fit (kind_of o.kind) f1.most f2.most ≡ true → f1.most ≤ MAX → f2.most ≤ MAX
    → (on : MatchType) → on ≡ plain_direction (side_means o.side) f1.len f2.len → (sure : Bool) → sure ≡ serves_of (option_settings o) on (store_of (session_under o u) m) f1 f2
    → Weighable (store_of (session_under o u) m) sure (steps_at (composing_words o m1 m2 a1 a2) t)
weighable o m1 m2 a1 a2 ignored u m e none n found t q f1 f2 t1 t2 plain fit h1 h2 on way sure serves =
    let p = present o m1 m2 a1 a2 ignored u m e none n found t q f1 f2 t1 t2 in
    let l = lent_of o m1 m2 a1 a2 ignored in
    let s = session_under o u in
    let c = composing o m1 m2 a1 a2 ignored in
    let d = store_of s m in
    record {
      good_steps = good_steps (p a1 a2) plain fit h1 h2;
      chained = chained o m1 m2 a1 a2 ignored u m e;
      fit = λ z. serves_fit d on p way (sym serves ∙ z) h1 h2 a1 a2;
      exact =
          let known = subst (λ (x : Triple). weigh_of d (steps_at c x) ≡ and_then (store_steps d (steps_at c x)) (λ y. good tt)) (sym q) (weigh_entered l s m c (entered_is l s m c e) n found) in
          subst (λ (x : Composition). weigh_of d (steps_at x t) ≡ and_then (store_steps d (steps_at x t)) (λ y. good tt)) (composing_none o m1 m2 a1 a2 ignored none) known;
    }
