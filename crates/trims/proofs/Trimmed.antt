-- What the trimmed machine's words hold.
use mathlib.Core.Path.{◌≡◌, refl, sym, ◌∙◌, ap, subst}
use mathlib.Core.Bool.{Bool, true, false, cond}
use mathlib.Core.List.Memᴰ
use mathlib.Core.List.{Memᴰ as In}
use Rattle.std.specs.Prelude.{Option, None, Some}
use Rattle.std.proofs.lemmas.Option.{none-some}
use Prim.Native.Nat.{ℕ, suc, ◌+◌, ◌-◌, ◌*◌, ◌<◌, ◌≤◌}
use native.Mathlib.Omega.{arith}
use lib.Dec.{eqb}
use lib.ListN.{length, get_or, length-map}
use Rattle.lists.specs.Lists.{At, interval}
use Rattle.lists.proofs.Members.{of_keep, in_interval, of_interval}
use Rattle.lists.proofs.Places.{at_in, in_at, at_length, at_place, at_map}
use Rattle.papers.specs.Machine.{Machine}
use Rattle.words.specs.Labels.{no_label}
use Rattle.words.specs.Matches.{Tr}
use Rattle.words.specs.Machines.{limit, machine_of, less_one, well_formed}
use Rattle.graphs.specs.Walks.{useful, Bounded}
use Rattle.machine_words.specs.MachineWords.{Row, final_words, trs_in, before}
use Rattle.machine_words.proofs.Words.{words_length, words_states, words_start, words_final, words_final_weight, words_input, words_output, words_weight, words_target, words_list, words_formed}
use Rattle.trims.specs.Trims.{useful_states, number, kept_records, kept_tr, row_of, rows_of, new_start, trimmed}
use Rattle.trims.proofs.Numbers.{Kept, number_at, of_number, number_below, numbered}

module _ (M : Machine) where
  -- "the length is exactly 6 + 3S + 5T"
  pub trimmed_length : length (trimmed M) ≡ 6 + 3 * length (useful_states M) + 5 * trs_in (rows_of M)
  unfolding trimmed
  trimmed_length = words_length (new_start M M.start) (rows_of M) ∙ ap (λ (n : ℕ). 6 + 3 * n + 5 * trs_in (rows_of M)) (length-map (useful_states M) (row_of M))

  -- its states are the useful ones
  pub trimmed_states : (machine_of (trimmed M)).states ≡ length (useful_states M)
  unfolding trimmed
  trimmed_states = words_states (new_start M M.start) (rows_of M) ∙ length-map (useful_states M) (row_of M)

  pub trimmed_start : (machine_of (trimmed M)).start ≡ less_one (new_start M M.start)
  unfolding trimmed
  trimmed_start = ap less_one (words_start (new_start M M.start) (rows_of M))

  module _ (n : ℕ) (k : Kept M n) where
    row_at : At (rows_of M) (number M n) (row_of M n)
    row_at = at_map (row_of M) (useful_states M) (number M n) (number_at M n k)

    -- the list of a kept state: a record for each kept record, one after another
    pub trimmed_list : (machine_of (trimmed M)).list (number M n) ≡ interval (before (rows_of M) (number M n) + 1) (length (kept_records M n))
    unfolding trimmed
    trimmed_list =
        words_list (new_start M M.start) (rows_of M) (number M n) row_at
        ∙ ap (λ (d : ℕ). interval (before (rows_of M) (number M n) + 1) d) (length-map (kept_records M n) (kept_tr M))

    pub trimmed_final : (machine_of (trimmed M)).is_final (number M n) ≡ M.is_final n
    unfolding trimmed
    trimmed_final = ap (λ (w : ℕ). eqb w 1) (words_final (new_start M M.start) (rows_of M) (number M n) row_at) ∙ go (M.is_final n)
      where
        go : (b : Bool) → eqb (get_or (final_words (cond b (Some (M.final_weight n)) None)) 0 0) 1 ≡ b
        go true = refl
        go false = refl

    pub trimmed_final_weight : M.is_final n ≡ true → (machine_of (trimmed M)).final_weight (number M n) ≡ M.final_weight n
    unfolding trimmed
    trimmed_final_weight e =
        words_final_weight (new_start M M.start) (rows_of M) (number M n) row_at
        ∙ ap (λ (b : Bool). get_or (final_words (cond b (Some (M.final_weight n)) None)) 1 0) e

    -- the kept record at place j of a kept state
    module _ (j r : ℕ) (at : At (kept_records M n) j r) where
      -- it stands in the row of its state
      tr_at_lem : At (row_of M n).list j (kept_tr M r)
      tr_at_lem = at_map (kept_tr M) (kept_records M n) j at

      pub trimmed_input : (machine_of (trimmed M)).input (before (rows_of M) (number M n) + j + 1) ≡ M.input r
      unfolding trimmed
      trimmed_input = words_input (new_start M M.start) (rows_of M) (number M n) j row_at tr_at_lem

      pub trimmed_output : (machine_of (trimmed M)).output (before (rows_of M) (number M n) + j + 1) ≡ M.output r
      unfolding trimmed
      trimmed_output = words_output (new_start M M.start) (rows_of M) (number M n) j row_at tr_at_lem

      pub trimmed_weight : (machine_of (trimmed M)).weight (before (rows_of M) (number M n) + j + 1) ≡ M.weight r
      unfolding trimmed
      trimmed_weight = words_weight (new_start M M.start) (rows_of M) (number M n) j row_at tr_at_lem

      pub trimmed_target : (machine_of (trimmed M)).target (before (rows_of M) (number M n) + j + 1) ≡ number M (M.target r)
      unfolding trimmed
      trimmed_target = words_target (new_start M M.start) (rows_of M) (number M n) j row_at tr_at_lem

  -- a kept record leads to a kept state
  pub kept_on : Bounded M → (n r : ℕ) → Kept M n → In r (kept_records M n) → Kept M (M.target r)
  kept_on b n r k i =
      let p = of_keep (λ q. useful M (M.target q)) (M.list n) i in
      record { is_useful = p.1; is_state = b.target_below n r k.is_state p.0 }

  -- a record of a new list is the new record of a kept one
  pub of_list : (n : ℕ) → Kept M n → (q : ℕ) → In q ((machine_of (trimmed M)).list (number M n)) → (j r : ℕ) × At (kept_records M n) j r × (q ≡ before (rows_of M) (number M n) + j + 1)
  of_list n k q i =
      let b = of_interval (before (rows_of M) (number M n) + 1) (length (kept_records M n)) (rw (trimmed_list n k) at i) in
      let j : ℕ = q - (before (rows_of M) (number M n) + 1) in
      let p = at_place (kept_records M n) j (omega (arith, b.0, b.1)) in
      (j, p.0, p.1, omega (arith, b.0))

  -- and each kept record has one there
  pub in_list : (n : ℕ) → Kept M n → (j r : ℕ) → At (kept_records M n) j r → In (before (rows_of M) (number M n) + j + 1) ((machine_of (trimmed M)).list (number M n))
  in_list n k j r at =
      rw (trimmed_list n k) (in_interval (before (rows_of M) (number M n) + 1) (length (kept_records M n)) (before (rows_of M) (number M n) + j + 1) (omega arith) (omega (arith, at_length (kept_records M n) j at)))

  -- start and targets of the trimmed machine are states of it
  pub trimmed_bounded : Bounded M → Bounded (machine_of (trimmed M))
  trimmed_bounded b = record {
    start_below = λ a e. go M.start refl a (sym trimmed_start ∙ e);
    target_below = λ a q h i.
        let m = numbered M a (omega (arith, h, trimmed_states)) in
        let i' : In q ((machine_of (trimmed M)).list (number M m.0)) = subst (λ (x : ℕ). In q ((machine_of (trimmed M)).list x)) m.2 i in
        let p = of_list m.0 m.1 q i' in
        let t : (machine_of (trimmed M)).target q ≡ number M (M.target p.1) = ap (machine_of (trimmed M)).target p.3 ∙ trimmed_target m.0 m.1 p.0 p.1 p.2 in
        let below = number_below M (M.target p.1) (kept_on b m.0 p.1 m.1 (at_in (kept_records M m.0) p.0 p.2)) in
        omega (arith, t, below, trimmed_states);
  }
    where
      pick : (s a : ℕ) → M.start ≡ Some s → (u : Bool) → useful M s ≡ u → less_one (cond u (suc (number M s)) 0) ≡ Some a → a < (machine_of (trimmed M)).states
      pick s a st true u e =
          let below = number_below M s (record { is_useful = u; is_state = b.start_below s st }) in
          let z : number M s ≡ a = cc in
          omega (arith, below, trimmed_states, z)
      pick s a st false u e = absurd (none-some _ e)

      go : (o : Option ℕ) → M.start ≡ o → (a : ℕ) → less_one (new_start M o) ≡ Some a → a < (machine_of (trimmed M)).states
      go None st a e = absurd (none-some _ e)
      go (Some s) st a e = pick s a st (useful M s) refl e

  -- a transition of a row is a kept record of a kept state
  pub of_row : (row : Row) (t : Tr) → In row (rows_of M) → In t row.list → (n r : ℕ) × Kept M n × In r (kept_records M n) × (t ≡ kept_tr M r)
  of_row row t i j =
      let p = Memᴰ.of_map (row_of M) (useful_states M) i in
      let place = in_at p.1 in
      let k = (of_number M place.0 p.0 place.1).0 in
      let q = Memᴰ.of_map (kept_tr M) (kept_records M p.0) (subst (λ (x : Row). In t x.list) (sym p.2) j) in
      (p.0, q.0, k, q.1, sym q.2)

  start_within : Bounded M → new_start M M.start ≤ length (useful_states M)
  start_within b = go M.start refl
    where
      pick : (s : ℕ) → M.start ≡ Some s → (u : Bool) → useful M s ≡ u → cond u (suc (number M s)) 0 ≤ length (useful_states M)
      pick s st true u = number_below M s (record { is_useful = u; is_state = b.start_below s st })
      pick s st false u = omega arith

      go : (o : Option ℕ) → M.start ≡ o → new_start M o ≤ length (useful_states M)
      go None st = omega arith
      go (Some s) st = pick s st (useful M s) refl

  -- Labels and counts that a machine in words may have: then the trimmed machine is well formed.
  pub trimmed_formed : Bounded M → length (useful_states M) ≤ limit → trs_in (rows_of M) ≤ limit
      → ((n r : ℕ) → n < M.states → In r (M.list n) → (M.input r < no_label) × (M.output r < no_label))
      → well_formed (trimmed M) ≡ true
  unfolding trimmed
  trimmed_formed b states trs labels =
      let same : length (rows_of M) ≡ length (useful_states M) = length-map (useful_states M) (row_of M) in
      words_formed (new_start M M.start) (rows_of M)
      (record {
        states_within = rw same states;
        trs_within = trs;
        start_within = rw same (start_within b);
        input_below = λ row t i j. let p = of_row row t i j in rw p.4 (labels p.0 p.1 p.2.is_state (of_keep (λ q. useful M (M.target q)) (M.list p.0) p.3).0).0;
        output_below = λ row t i j. let p = of_row row t i j in rw p.4 (labels p.0 p.1 p.2.is_state (of_keep (λ q. useful M (M.target q)) (M.list p.0) p.3).0).1;
        target_below = λ row t i j. let p = of_row row t i j in rw (p.4, same) (number_below M (M.target p.1) (kept_on b p.0 p.1 p.2 p.3));
      })
