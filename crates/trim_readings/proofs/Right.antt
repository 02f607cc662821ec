-- Every accepted trimming writes the useful part of the machine that the store holds, whatever memory held.
use mathlib.Core.Path.{◌≡◌, refl, sym, ◌∙◌, ap, ap₂, subst}
use mathlib.Core.Bool.{Bool, true, false}
use mathlib.Core.List.{List, map}
use Rattle.std.specs.Prelude.{Option, None, Some}
use Rattle.std.proofs.lemmas.Option.{none-some, same_Some}
use Prim.Native.Nat.{ℕ, zero, suc, ◌+◌, ◌<◌}
use native.Mathlib.Omega.{arith}
use lib.ListN.{length}
use Rattle.lists.specs.Lists.{At, put_if, keep_if, interval}
use Rattle.lists.proofs.Places.{at_interval}
use Rattle.lists.proofs.Members.{in_keep, of_keep}
use Rattle.lists.proofs.Totals.{length_interval}
use Rattle.papers.specs.Machine.{Machine}
use Rattle.papers.specs.Weight.{semiring}
use Rattle.papers.specs.Paths.{Accepting as AcceptingAt}
use Rattle.words.specs.Machines.{state_count}
use Rattle.words.specs.Steps.{Composition}
use Rattle.words.specs.AsPapers.{exact}
use Rattle.calls.specs.Store.{Store}
use Rattle.calls.specs.Forms.{form_ok}
use Rattle.calls.specs.Checks.{store_of}
use Rattle.calls.proofs.StoreForms.{of_form}
use Rattle.calls.proofs.ExpandKept.{entered_is}
use Rattle.graphs.specs.Walks.{Useful, useful, Bounded}
use Rattle.graphs.specs.StoreMachine.{first_state, store_machine}
use Rattle.graphs.proofs.Useful.{useful_is, useful_below}
use Rattle.graphs.proofs.StoreLaws.{store_bounded, store_distinct}
use Rattle.machine_words.specs.MachineWords.{before}
use Rattle.trims.specs.Trims.{number, kept_records, rows_of}
use Rattle.trims.proofs.Numbers.{Kept, number_below}
use Rattle.trims.proofs.Trimmed.{trimmed_states, trimmed_list, trimmed_final, trimmed_final_weight, trimmed_input, trimmed_output, trimmed_weight, trimmed_target, trimmed_bounded}
use Rattle.trims.proofs.Walked.{trimmed_numbered, trimmed_useful}
use Rattle.readings.specs.StorePaths.{Accepting, weight_from}
use Rattle.trim_readings.specs.TrimPaths.{start_or, to_new}
use Rattle.trim_readings.specs.TrimClaims.{new_machine, SameRecord, KeptState, NewState, TrimmedRight, ClaimOfEach}
use Rattle.trim_readings.proofs.Theorem.{started, trimmed_paths, trimmed_weights, trimmed_inputs, trimmed_outputs}
use Rattle.trim_readings.proofs.Accepted.{accepted}

-- of an interval, fewer are kept before a kept number than before a larger one
kept_before : (P : ℕ → Bool) (s a b : ℕ) → P (s + a) ≡ true → a < b → length (keep_if P (interval s a)) < length (keep_if P (interval s b))
unfolding keep_if interval
kept_before P s a zero e h = absurd (omega arith)
kept_before P s zero (suc b) e h = let z : P s ≡ true = ap P (omega arith) ∙ e in rw z (omega arith)
kept_before P s (suc a) (suc b) e h = go (P s) (kept_before P (suc s) a b (ap P (omega arith) ∙ e) (omega arith))
  where
    go : (t : Bool) → length (keep_if P (interval (suc s) a)) < length (keep_if P (interval (suc s) b))
        → length (put_if t s (keep_if P (interval (suc s) a))) < length (put_if t s (keep_if P (interval (suc s) b)))
    go true r = omega arith
    go false r = r

module _ (M : Machine) where
  -- state 0 keeps its number
  pub number_zero : number M 0 ≡ 0
  unfolding number keep_if interval
  number_zero = refl

  -- new numbers rise
  number_order : (a b : ℕ) → Kept M a → a < b → number M a < number M b
  unfolding number
  number_order a b k h = kept_before (useful M) 0 a b (ap (useful M) (omega arith) ∙ k.is_useful) h

  module _ (bound : Bounded M) where
    -- a useful state is kept
    pub kept_of : (n : ℕ) → Useful M n → Kept M n
    kept_of n u = let e = (useful_is M bound n).1 u in record { is_useful = e; is_state = useful_below M bound n e }

    -- the record at place j of a new list is the one at that place among the kept ones
    same_record : (n : ℕ) → Kept M n → (j r q : ℕ) → At (kept_records M n) j r → At ((new_machine M).list (number M n)) j q → SameRecord M r q
    same_record n k j r q at there =
        let i = at_interval (before (rows_of M) (number M n) + 1) (length (kept_records M n)) j (subst (λ (x : List ℕ). At x j q) (trimmed_list M n k) there) in
        let p : before (rows_of M) (number M n) + j + 1 ≡ q = omega (arith, i) in
        subst (SameRecord M r) p
        (record { input = trimmed_input M n k j r at; output = trimmed_output M n k j r at; weight = trimmed_weight M n k j r at; target = trimmed_target M n k j r at })

    kept_state : (n : ℕ) → Useful M n → KeptState M n
    kept_state n u =
        let k = kept_of n u in
        record {
          below = omega (arith, number_below M n k, trimmed_states M);
          order = λ b v h. number_order n b k h;
          final = trimmed_final M n k;
          final_weight_lem = trimmed_final_weight M n k;
          between = λ r. (
            λ i. let p = of_keep (λ q. useful M (M.target q)) (M.list n) i in (p.0, (useful_is M bound (M.target r)).0 p.1),
            λ p. in_keep (λ q. useful M (M.target q)) p.0 ((useful_is M bound (M.target r)).1 p.1),
          );
          count = ap length (trimmed_list M n k) ∙ length_interval (before (rows_of M) (number M n) + 1) (length (kept_records M n));
          record_of = same_record n k;
        }

    new_state : (k : ℕ) → k < (new_machine M).states → NewState M k
    new_state k h =
        let z = trimmed_numbered M k h in
        record {
          old = z.old;
          was_useful = (useful_is M bound z.old).0 z.kept.is_useful;
          is = z.is;
          only = λ n u e. z.only n (kept_of n u) e;
          is_useful = trimmed_useful M bound k h;
        }

-- a store's machine starts at state 0, if it has states
pub first_zero : (u a : ℕ) → first_state u ≡ Some a → a ≡ 0
first_zero zero a e = absurd (none-some a e)
first_zero (suc u) a e = sym (same_Some 0 a e)

module _ (c : Composition) (d : Store) (S1 S2 : ℕ) (ok : form_ok S1 S2 d ≡ true) where
  abbrev M : Machine
  M = store_machine c d

  abbrev bound : Bounded M
  bound = store_bounded c d S1 S2 ok

  -- an accepting path begins at state 0
  at_zero : (p : List ℕ) → Accepting c M p → M.start ≡ Some 0
  at_zero p h = h.1 ∙ ap Some (first_zero d.used.states h.0 h.1)

  -- and so does the new one
  new_start_lem : (new_machine M).start ≡ first_state (new_machine M).states
  new_start_lem = go (new_machine M).states refl
    where
      none_left : (o : Option ℕ) → (new_machine M).start ≡ o → (new_machine M).states ≡ 0 → o ≡ None
      none_left None e z = refl
      none_left (Some a) e z = absurd (omega (arith, (trimmed_bounded M bound).start_below a e, z))

      go : (k : ℕ) → (new_machine M).states ≡ k → (new_machine M).start ≡ first_state k
      go zero e = none_left (new_machine M).start refl e
      go (suc k) e =
          let u = trimmed_useful M bound 0 (omega (arith, e)) in
          let z = started M u.start u.starts in
          let old : z.old ≡ 0 = first_zero d.used.states z.old z.starts in
          u.starts ∙ ap Some (sym z.is ∙ ap (number M) old ∙ number_zero M)

  pub right : TrimmedRight c d
  right = record {
    paths = trimmed_paths (semiring c.kind) (exact c.kind) M bound (store_distinct c d);
    weights = λ p h.
        let st = at_zero p h in
        trimmed_weights (semiring c.kind) (exact c.kind) M bound 0 st p (from p h)
        ∙ ap₂ (λ (x a : ℕ). weight_from c (new_machine M) x (to_new M a p)) (number_zero M) (sym (ap start_or st));
    inputs = λ p h.
        let st = at_zero p h in
        trimmed_inputs (semiring c.kind) (exact c.kind) M bound 0 st p (from p h) ∙ ap (λ (a : ℕ). map (new_machine M).input (to_new M a p)) (sym (ap start_or st));
    outputs = λ p h.
        let st = at_zero p h in
        trimmed_outputs (semiring c.kind) (exact c.kind) M bound 0 st p (from p h) ∙ ap (λ (a : ℕ). map (new_machine M).output (to_new M a p)) (sym (ap start_or st));
    states = new_state M bound;
    kept = kept_state M bound;
    start = new_start_lem;
  }
    where
      from : (p : List ℕ) → Accepting c M p → AcceptingAt (semiring c.kind) (exact c.kind) M 0 p
      from p h = subst (λ (a : ℕ). AcceptingAt (semiring c.kind) (exact c.kind) M a p) (first_zero d.used.states h.0 h.1) h.2

-- the theorem about every accepted call
pub trim_right : ClaimOfEach
trim_right l s m out work k e =
    let a = accepted l s m out work k e in
    let c = a.composition in
    let f = of_form (state_count l.m1) (state_count l.m2) (store_of s m) (entered_is l s m c a.enters).form in
    (c, a.enters, a.count, a.writes, right c (store_of s m) (state_count l.m1) (state_count l.m2) f.1)
