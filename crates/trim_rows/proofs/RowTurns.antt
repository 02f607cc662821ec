-- One row after the other: what is written, and what is still to be written, is the whole machine.
use mathlib.Core.Path.{◌≡◌, refl, sym, ◌∙◌, ap}
use mathlib.Core.Bool.{Bool, cond}
use mathlib.Core.List.{List, [], ◌∷◌, ◌++◌, map}
use mathlib.Core.Logic.{◌≢◌}
use Rattle.std.specs.Prelude.{Option, None, Some}
use Prim.Native.Nat.{ℕ, suc, ◌+◌, ◌*◌, ◌≤◌, ◌<◌}
use native.Mathlib.Omega.{arith}
use lib.Dec.{ltb}
use lib.ListN.{length, length-map, set}
use borrow.Author.Tests.{eq-eqb, ne_eqb, lt-ltb, le-ltb}
use Rattle.lists.specs.Lists.{put}
use Rattle.lists.proofs.Put.{put_none, put_put, put_swap}
use Rattle.words.specs.Labels.{Checked, good, refused, and_then}
use Rattle.words.specs.Machines.{limit}
use Rattle.words.specs.Matches.{Tr}
use Rattle.words.specs.Sides.{non_empty}
use Rattle.words.specs.Steps.{Composition, final_at}
use Rattle.words.specs.Settings.{Lent}
use Rattle.calls.specs.Store.{Memory, Store, triple_at}
use Rattle.calls.specs.Checks.{Session, entered}
use Rattle.calls.specs.Calls.{Outcome, final_weight_of, unchanged, settle}
use Rattle.graphs.specs.StoreMachine.{given_weight}
use Rattle.searches.specs.StoreLinks.{first_in, next_in, list_from}
use Rattle.machine_words.specs.MachineWords.{Row, list_words, trs_words, final_words, row_words, states_words, trs_in, machine_words}
use Rattle.machine_words.proofs.Blocks.{states_length, list_length}
use Rattle.store_records.specs.Meaning.{stored}
use Rattle.lazy_fst.proofs.CallLaws.{found_weight}
use Rattle.trim_passes.specs.Passes.{number_in, kept_from, new_tr, new_list, row_in, rows_from}
use Rattle.trim_passes.proofs.RowLaws.{rows_turn}
use Rattle.trim_rows.specs.Rows.{Counts, nothing, counted, state_place, list_place, filled, Fits}

three : (o : Option ℕ) → length (final_words o) ≡ 2
three None = refl
three (Some w) = refl

-- a row, and those that are left behind it
pub row_filled : (states : ℕ) (k : Counts) (row : Row) (rest : List Row) (out : List ℕ) → k.rows + suc (length rest) ≡ states
    → filled states (record { rows = k.rows + 1; trs = k.trs + length row.list }) rest (put (put out (list_place states k) (list_words k.trs row.list)) (state_place k) (row_words k.trs row))
    ≡ filled states k (row ∷ rest) out
unfolding filled states_words trs_words
row_filled states k row rest out h =
    let R : List ℕ = row_words k.trs row in
    let L : List ℕ = list_words k.trs row.list in
    let S : List ℕ = states_words (k.trs + length row.list) rest in
    let T : List ℕ = trs_words (k.trs + length row.list) rest in
    let a : ℕ = state_place k in
    let b : ℕ = list_place states k in
    let two = three row.final in
    let long : length R ≡ 3 = omega (arith, two) in
    let listed : length L ≡ 5 * length row.list = list_length k.trs row.list in
    let left : length S ≡ 3 * length rest = states_length (k.trs + length row.list) rest in
    let at : 6 + 3 * (k.rows + 1) ≡ a + length R = omega (arith, long) in
    let here : 6 + 3 * states + 5 * (k.trs + length row.list) ≡ b + length L = omega (arith, listed) in
    ap (λ i. put (put (put (put out b L) a R) i S) (6 + 3 * states + 5 * (k.trs + length row.list)) T) at
    ∙ ap (λ i. put (put (put (put out b L) a R) (a + length R) S) i T) here
    ∙ ap (λ (o : List ℕ). put (put o (a + length R) S) (b + length L) T) (sym (put_swap out a R b L (omega (arith, long, h))))
    ∙ ap (λ (o : List ℕ). put o (b + length L) T) (sym (put_swap (put out a R) (a + length R) S b L (omega (arith, long, left, h))))
    ∙ put_put (put (put out a R) (a + length R) S) b L T
    ∙ ap (λ (o : List ℕ). put o b (L ++ T)) (put_put out a R S)

-- nothing is left
pub none_filled : (states : ℕ) (k : Counts) (out : List ℕ) → filled states k [] out ≡ out
unfolding filled states_words trs_words
none_filled states k out = ap (λ (o : List ℕ). put o (list_place states k) []) (put_none out (state_place k)) ∙ put_none out (list_place states k)

-- the header, and all rows behind it
pub headed : (start : ℕ) (rows : List Row) (out : List ℕ) → filled (length rows) nothing rows (put out 0 (length rows ∷ trs_in rows ∷ start ∷ 0 ∷ 0 ∷ 0 ∷ [])) ≡ put out 0 (machine_words start rows)
unfolding filled machine_words
headed start rows out =
    let H : List ℕ = length rows ∷ trs_in rows ∷ start ∷ 0 ∷ 0 ∷ 0 ∷ [] in
    let S : List ℕ = states_words 0 rows in
    let T : List ℕ = trs_words 0 rows in
    let long : length S ≡ 3 * length rows = states_length 0 rows in
    ap (λ i. put (put (put out 0 H) 6 S) i T) (omega (arith, long))
    ∙ put_put (put out 0 H) 6 S T
    ∙ put_put out 0 H (S ++ T)

-- the final weight that is answered for a found state
pub final_found : (l : Lent) (s : Session) (m : Memory) (c : Composition) (n : ℕ) → entered l s m ≡ good c → n < s.used.states → (final_weight_of l s m n).answer ≡ final_at c (triple_at m.states n)
final_found l s m c n e h = ap (λ (o : Outcome (Option ℕ)). o.answer) (sym (found_weight l s m n c e h)) ∙ by (final_at c (triple_at m.states n))
  where
    by : (r : Checked (Option ℕ)) → (settle s m (and_then r (λ w. good (unchanged s m w)))).answer ≡ r
    by (good w) = refl
    by (refused k) = refl

-- whether a list is empty, by the counts before and behind it
some_listed : {A : Type 0} (n : ℕ) (l : List A) → ltb n (n + length l) ≡ non_empty l
some_listed n [] = le-ltb n (n + 0) (omega arith)
some_listed n (x ∷ l) = lt-ltb n (n + suc (length l)) (omega arith)

-- the list, then the record of its state
pub row_put : (out out₁ out₂ : List ℕ) (at here before after first : ℕ) (list : List Tr) (o : Option ℕ) → after ≡ before + length list → out₁ ≡ put out here (list_words before list)
    → first ≡ cond (ltb before after) (suc before) 0 → out₂ ≡ put (set out₁ at first) (at + 1) (final_words o)
    → out₂ ≡ put (put out here (list_words before list)) at (row_words before (record { final = o; list = list }))
unfolding put
row_put out out₁ out₂ at here before after first list o a e f g =
    let z : at + 1 ≡ suc at = omega arith in
    let h : first ≡ cond (non_empty list) (suc before) 0 = f ∙ ap (λ k. cond (ltb before k) (suc before) 0) a ∙ ap (λ (b : Bool). cond b (suc before) 0) (some_listed before list) in
    rw (g, z, h, e) refl

-- the kept records, and so the new list, are told by the transitions alone
pub kept_alike : (trs work : List ℕ) (used : ℕ) (heads heads' states states' : List ℕ) (u u' r : ℕ)
    → kept_from (stored heads states trs u used) work r ≡ kept_from (stored heads' states' trs u' used) work r
unfolding kept_from list_from next_in
kept_alike trs work used heads heads' states states' u u' r = refl

-- state n is not kept
pub row_skipped : (c : Composition) (d : Store) (work : List ℕ) (n : ℕ) → n < d.used.states → number_in work n ≡ 0 → rows_from c d work (n + 1) ≡ rows_from c d work n
row_skipped c d work n l e = sym (rows_turn c d work n l ∙ rw (eq-eqb (number_in work n) 0 e) refl)

-- it is
pub row_kept : (c : Composition) (d : Store) (work : List ℕ) (n : ℕ) → n < d.used.states → number_in work n ≢ 0 → rows_from c d work n ≡ row_in c d work n ∷ rows_from c d work (n + 1)
row_kept c d work n l e = rows_turn c d work n l ∙ rw (ne_eqb (number_in work n) 0 e) refl

-- there is room for its row
pub row_fits : (c : Composition) (d : Store) (work : List ℕ) (n states room first : ℕ) (k : Counts) → n < d.used.states → number_in work n ≢ 0 → first ≡ first_in d n → Fits states room k (rows_from c d work n)
    → (k.rows < states) × (states ≤ limit) × (k.trs + length (kept_from d work first) ≤ limit) × (6 + 3 * states + 5 * (k.trs + length (kept_from d work first)) ≤ room)
unfolding trs_in
row_fits c d work n states room first k l e f h =
    let r = row_kept c d work n l e in
    let a = h.all in
    let b = ap length r in
    let t = ap trs_in r in
    let s = length-map (kept_from d work (first_in d n)) (new_tr d work) in
    let g = ap (λ q. length (kept_from d work q)) f in
    let m = h.few in
    let w = h.within in
    let p = h.room_for_lem in
    (omega (arith, a, b), w, omega (arith, t, s, g, m), omega (arith, t, s, g, p))

-- the counts after it
pub row_counted : (c : Composition) (d : Store) (work : List ℕ) (n first : ℕ) (k k' : Counts) → k' ≡ record { rows = k.rows + 1; trs = k.trs + length (kept_from d work first) } → n < d.used.states → number_in work n ≢ 0 → first ≡ first_in d n
    → counted k' (rows_from c d work (n + 1)) ≡ counted k (rows_from c d work n)
unfolding trs_in
row_counted c d work n first k k' y l e f =
    let rest : List Row = rows_from c d work (n + 1) in
    let s = length-map (kept_from d work (first_in d n)) (new_tr d work) in
    let g = ap (λ q. length (kept_from d work q)) f in
    let a : k.rows + 1 + length rest ≡ k.rows + suc (length rest) = omega arith in
    let b : k.trs + length (kept_from d work first) + trs_in rest ≡ k.trs + (length (map (new_tr d work) (kept_from d work (first_in d n))) + trs_in rest) = omega (arith, s, g) in
    ap (λ x. counted x rest) y
    ∙ ap (λ x. record { rows = x; trs = k.trs + length (kept_from d work first) + trs_in rest }) a
    ∙ ap (λ x. record { rows = k.rows + suc (length rest); trs = x }) b
    ∙ ap (counted k) (sym (row_kept c d work n l e))

-- and its words
pub row_written : (c : Composition) (d : Store) (work : List ℕ) (n states room first : ℕ) (k k' : Counts) (out out' : List ℕ) (o : Option ℕ) → k' ≡ record { rows = k.rows + 1; trs = k.trs + length (kept_from d work first) } → n < d.used.states → number_in work n ≢ 0 → first ≡ first_in d n
    → o ≡ given_weight (final_at c (triple_at d.memory.states n)) → Fits states room k (rows_from c d work n)
    → out' ≡ put (put out (list_place states k) (list_words k.trs (new_list d work first))) (state_place k) (row_words k.trs (record { final = o; list = new_list d work first }))
    → filled states k' (rows_from c d work (n + 1)) out' ≡ filled states k (rows_from c d work n) out
row_written c d work n states room first k k' out out' o y l e f g h w =
    let r = row_kept c d work n l e in
    let rest : List Row = rows_from c d work (n + 1) in
    let a = h.all in
    let b = ap length r in
    let s = length-map (kept_from d work first) (new_tr d work) in
    let row : Row = record { final = o; list = new_list d work first } in
    let same : row ≡ row_in c d work n = ap (λ (p : Option ℕ). record { final = p; list = new_list d work first }) g ∙ ap (λ q. record { final = given_weight (final_at c (triple_at d.memory.states n)); list = new_list d work q }) f in
    ap (λ x. filled states x rest out') y
    ∙ ap (λ x. filled states (record { rows = k.rows + 1; trs = k.trs + x }) rest out') (sym s)
    ∙ ap (λ (x : List ℕ). filled states (record { rows = k.rows + 1; trs = k.trs + length row.list }) rest x) w
    ∙ row_filled states k row rest out (omega (arith, a, b))
    ∙ ap (λ (x : Row). filled states k (x ∷ rest) out) same
    ∙ ap (λ (x : List Row). filled states k x out) (sym r)

-- what is left has room as before
pub fits_on : (states room : ℕ) (k k' : Counts) (rows rows' : List Row) → Fits states room k rows → counted k' rows' ≡ counted k rows → Fits states room k' rows'
fits_on states room k k' rows rows' h e =
    let a = ap (λ x. x.rows) e in
    let b = ap (λ x. x.trs) e in
    let p = h.all in
    let q = h.few in
    let r = h.room_for_lem in
    record { all = omega (arith, a, p); within = h.within; few = omega (arith, b, q); room_for_lem = omega (arith, b, r) }

-- the same with the counts as they were handed over
pub headed_as : (start states arcs number : ℕ) (rows : List Row) (out : List ℕ) {out₁ : List ℕ} → 0 + length rows ≡ states → arcs ≡ trs_in rows → number ≡ start → out₁ ≡ put out 0 (states ∷ arcs ∷ number ∷ 0 ∷ 0 ∷ 0 ∷ [])
    → filled states nothing rows out₁ ≡ put out 0 (machine_words start rows)
headed_as start states arcs number rows out a b e f =
    let z : length rows ≡ states = omega (arith, a) in
    rw (f, e, b, ← z) (headed start rows out)
