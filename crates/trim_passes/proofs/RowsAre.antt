-- The rows that the passes read off the work words are those of the trimmed machine.
use mathlib.Core.Path.{◌≡◌, refl, sym, ◌∙◌, ap}
use mathlib.Core.Bool.{Bool, true, false, not, cond}
use mathlib.Core.List.{List, map, Memᴰ as In}
use Rattle.std.specs.Prelude.{Option, None, Some}
use Prim.Native.Nat.{ℕ, zero, suc, ◌-◌, ◌<◌}
use native.Mathlib.Omega.{arith}
use lib.Dec.{eqb}
use borrow.Author.Tests.{ne_eqb}
use Rattle.lists.specs.Lists.{keep_if, interval}
use Rattle.lists.proofs.Members.{of_keep, of_interval}
use Rattle.lists.proofs.Same.{keep_same, map_same}
use Rattle.papers.specs.Machine.{Machine}
use Rattle.words.specs.Labels.{Checked, good, refused}
use Rattle.words.specs.Matches.{Tr}
use Rattle.words.specs.Steps.{Composition, final_at}
use Rattle.calls.specs.Store.{Store, triple_at, target_at}
use Rattle.calls.specs.Forms.{form_ok}
use Rattle.graphs.specs.Walks.{useful}
use Rattle.graphs.specs.StoreMachine.{first_state, given_weight, answered, weight_in, store_machine}
use Rattle.graphs.proofs.StoreLaws.{store_bounded}
use Rattle.searches.specs.StoreLinks.{first_in}
use Rattle.searches.proofs.StoreSearch.{useful_list}
use Rattle.trims.specs.Trims.{useful_states, number, kept_records, kept_tr, row_of, rows_of, new_start}
use Rattle.trim_passes.specs.Passes.{is_alive, new_number, number_in, is_kept, kept_from, new_tr, row_in, rows_from}

-- the new numbers of states that are alive just where they are useful
pub alive_number : (M : Machine) (w : List ℕ) (count : ℕ) → ((x : ℕ) → x < count → is_alive w x ≡ useful M x) → (x : ℕ) → x < count → new_number w x ≡ cond (useful M x) (suc (number M x)) 0
unfolding new_number number
alive_number M w count h x l =
    rw (h x l, keep_same (is_alive w) (useful M) (interval 0 x) (λ a i. h a (let z = (of_interval 0 x i).1 in omega (arith, z, l)))) refl

weight_given : (r : Checked (Option ℕ)) → given_weight r ≡ cond (answered r) (Some (weight_in r)) None
weight_given (good None) = refl
weight_given (good (Some w)) = refl
weight_given (refused n) = refl

module _ (c : Composition) (d : Store) (S1 S2 : ℕ) (ok : form_ok S1 S2 d ≡ true) (work : List ℕ)
    (nums : (x : ℕ) → x < d.used.states → number_in work x ≡ cond (useful (store_machine c d) x) (suc (number (store_machine c d) x)) 0) where
  abbrev M : Machine
  M = store_machine c d

  pub kept_useful : (x : ℕ) → x < d.used.states → is_kept work x ≡ useful M x
  kept_useful x l = rw (nums x l) (by (useful M x))
    where
      by : (b : Bool) → not (eqb (cond b (suc (number M x)) 0) 0) ≡ b
      by true = rw (ne_eqb (suc (number M x)) 0 (λ e. omega (arith, e))) refl
      by false = refl

  kept_records_lem : (n : ℕ) → n < d.used.states → kept_from d work (first_in d n) ≡ kept_records M n
  unfolding kept_from
  kept_records_lem n l = ap (keep_if (λ q. is_kept work (target_at d.memory.trs (q - 1)))) (useful_list c d S1 S2 ok n l)
      ∙ keep_same _ _ (M.list n) (λ r i. kept_useful (M.target r) ((store_bounded c d S1 S2 ok).target_below n r l i))

  new_tr_lem : (n r : ℕ) → n < d.used.states → In r (kept_records M n) → new_tr d work r ≡ kept_tr M r
  unfolding new_tr
  new_tr_lem n r l i =
      let k = of_keep (λ q. useful M (M.target q)) (M.list n) i in
      let e : number_in work (M.target r) ≡ suc (number M (M.target r)) = nums (M.target r) ((store_bounded c d S1 S2 ok).target_below n r l k.0) ∙ ap (λ b. cond b (suc (number M (M.target r))) 0) k.1 in
      ap (λ t. record { input = M.input r; output = M.output r; weight = M.weight r; target = t }) (omega (arith, e))

  row_is : (n : ℕ) → n < d.used.states → row_in c d work n ≡ row_of M n
  row_is n l =
      let e : map (new_tr d work) (kept_from d work (first_in d n)) ≡ map (kept_tr M) (kept_records M n)
      = ap (map (new_tr d work)) (kept_records_lem n l) ∙ map_same (new_tr d work) (kept_tr M) (kept_records M n) (λ r i. new_tr_lem n r l i) in
      ap (λ (o : Option ℕ). record { final = o; list = map (new_tr d work) (kept_from d work (first_in d n)) }) (weight_given (final_at c (triple_at d.memory.states n)))
      ∙ ap (λ (ts : List Tr). record { final = cond (M.is_final n) (Some (M.final_weight n)) None; list = ts }) e

  pub rows_are : rows_from c d work 0 ≡ rows_of M
  unfolding rows_from
  rows_are =
      let z : d.used.states - 0 ≡ d.used.states = omega arith in
      rw z (ap (map (row_in c d work)) (keep_same (is_kept work) (useful M) (interval 0 d.used.states) (λ n i. kept_useful n (let y = (of_interval 0 d.used.states i).1 in omega (arith, y))))
      ∙ map_same (row_in c d work) (row_of M) (useful_states M) (λ n i. row_is n (let y = (of_interval 0 d.used.states (of_keep (useful M) (interval 0 d.used.states) i).0).1 in omega (arith, y))))

-- the number of state 0 is the new start plus one, if any state is used
pub start_is : (M : Machine) (u k : ℕ) → M.start ≡ first_state u → (0 < u → k ≡ cond (useful M 0) (suc (number M 0)) 0) → (u ≡ 0 → k ≡ 0) → k ≡ new_start M M.start
start_is M zero k e f g = g refl ∙ ap (new_start M) (sym e)
start_is M (suc u) k e f g = f (omega arith) ∙ ap (new_start M) (sym e)
