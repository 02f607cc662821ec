-- 02, 2.7: with an empty list every answer is the earlier one, and otherwise that of the replaced words without a list. A call reads of what it is lent the side and the composition
-- of the rule and the numbers of states, and it keeps the session's settings: so two lents that agree in these are answered alike.
use mathlib.Core.Path.{◌≡◌, refl, sym, ◌∙◌, ap, ap₂, subst, fun_ext}
use mathlib.Core.Bool.{Bool, true, false, not, false≢true}
use mathlib.Core.List.{List, [], ◌∷◌, map}
use Rattle.std.specs.Prelude.{Option}
use Prim.Native.Nat.{ℕ, zero, suc}
use lib.Dec.{eqb, leb}
use Rattle.lists.specs.Lists.{interval}
use Rattle.words.specs.Labels.{Checked, good, refused, refuse_if, and_then, collect}
use Rattle.words.specs.Weights.{kind_of}
use Rattle.words.specs.Filters.{filter_of}
use Rattle.words.specs.Matches.{MatchType, inputs, outputs}
use Rattle.words.specs.Machines.{state_count, well_formed_up_to, well_formed}
use Rattle.words.specs.Sigmas.{has}
use Rattle.words.specs.Ignored.{Ignored, ignored_ok, words_replaced, words_read}
use Rattle.words.specs.Sides.{Side, side_of, non_empty}
use Rattle.words.specs.Steps.{Composition, steps_at, start_at, final_at}
use Rattle.words.specs.Settings.{Settings, settings_ok, Lent, ignored_by, operand_of, operand_under, operand1, operand2, composition_of}
use lib.ListN.{length}
use Rattle.words.proofs.ReplacedLaws.{read_none, operand_read, same_states}
use Rattle.words.proofs.WordsReplaced.{replaced_formed_upto}
use Rattle.calls.specs.Store.{Memory, Part, Layout, six, state_room_with, expanded_with}
use Rattle.calls.specs.Checks.{Session, store_of, side_for_with, session_ok_with, entered_with, entered_at_with}
use Rattle.calls.specs.Calls.{Outcome, Done, settle, opened, begun_with, open_with, store_steps_with, expansion_with, expand_by_with, expand_with, expand_of, final_weight_with, onward, run_by, run_from_with, run_after_with, run_with, records_with, records_place_with}
use Rattle.calls.specs.Sequences.{World, Call, opening, expand, final_weight, records, run, accepted, part, weight, handed, turn_of, call_with}
use Rattle.calls.specs.Owned.{stop_by, stop_from, weights_from}
use Rattle.calls.specs.Ignoring.{plain1, plain2, EmptyChangesNothing, replaced_lent, OtherwiseReplaced, OwnedAsReplaced}

-- every call but an opening keeps the session's settings
abbrev pub IsOpening : Call → Type 0
IsOpening (opening s k) = Unit {0}
IsOpening (expand n) = ⊥
IsOpening (final_weight n) = ⊥
IsOpening (records n) = ⊥
IsOpening run = ⊥

settled : {A B : Type 0} (s : Session) (m : Memory) (x : Checked B) (f : B → Checked (Done A)) → ((b : B) → (settle s m (f b)).session.settings ≡ s.settings) → (settle s m (and_then x f)).session.settings ≡ s.settings
settled s m (refused n) f h = refl
settled s m (good b) f h = h b

module _ (L : Layout) (l : Lent) where
  pub expand_settings : (s : Session) (m : Memory) (n : ℕ) → (expand_with L l s m n).session.settings ≡ s.settings
  unfolding expand_with expansion_with
  expand_settings s m n = settled s m (entered_at_with L l s m n) _ (λ c. by c (eqb (expanded_with L m.states n) 1))
    where
      by : (c : Composition) (b : Bool) → (settle s m (expand_by_with L c s m n b)).session.settings ≡ s.settings
      by c true = refl
      by c false = settled s m (store_steps_with L (store_of s m) (steps_at c (L.triple_at m.states n))) _ (λ d. refl)

  from_settings : (k n : ℕ) (s : Session) (m : Memory) → (run_from_with L l k n s m).session.settings ≡ s.settings
  unfolding run_from_with
  from_settings zero n s m = refl
  from_settings (suc k) n s m = go (leb s.used.states n) (λ t q. from_settings k (suc n) t q)
    where
      o : Outcome Part
      o = expand_with L l s m n

      on : (a : Checked Part) → ((t : Session) (q : Memory) → (run_from_with L l k (suc n) t q).session.settings ≡ t.settings)
          → (onward a o.session o.memory (run_from_with L l k (suc n))).session.settings ≡ s.settings
      on (good p) rec = rec o.session o.memory ∙ expand_settings s m n
      on (refused j) rec = expand_settings s m n

      go : (b : Bool) → ((t : Session) (q : Memory) → (run_from_with L l k (suc n) t q).session.settings ≡ t.settings)
          → (run_by b s m o (run_from_with L l k (suc n))).session.settings ≡ s.settings
      go true rec = refl
      go false rec = on o.answer rec

  run_settings : (s : Session) (m : Memory) → (run_with L l s m).session.settings ≡ s.settings
  unfolding run_with
  run_settings s m = go (entered_with L l s m)
    where
      go : (x : Checked Composition) → (run_after_with L x l s m).session.settings ≡ s.settings
      go (refused n) = refl
      go (good c) = from_settings (state_room_with L m) 0 s m

  pub call_settings : (w : World) (x : Call) → (IsOpening x → ⊥) → (call_with L l w x).world.session.settings ≡ w.session.settings
  unfolding call_with final_weight_with
  call_settings w (opening s k) h = absurd (h tt)
  call_settings w (expand n) h = expand_settings w.session w.memory n
  call_settings w (final_weight n) h =
      settled w.session w.memory (entered_at_with L l w.session w.memory n) _
      (λ c. settled w.session w.memory (final_at c (L.triple_at w.memory.states n)) _ (λ x. refl))
  call_settings w (records n) h = refl
  call_settings w run h = run_settings w.session w.memory

-- two lents that a call does not tell apart under these settings
record Alike (L : Layout) (σ : Settings) (l k : Lent) : Type 0 where
  side : side_for_with L σ l ≡ side_for_with L σ k
  composition : (side : Side) → composition_of σ l side ≡ composition_of σ k side
  states1 : state_count l.m1 ≡ state_count k.m1
  states2 : state_count l.m2 ≡ state_count k.m2

open_alike : (L : Layout) (σ : Settings) (l k : Lent) → Alike L σ l k → (got : Session) (m : Memory) → open_with L σ l got m ≡ open_with L σ k got m
unfolding open_with
open_alike L σ l k A got m =
    ap (settle got m)
    (ap₂ and_then A.side (fun_ext (λ side. ap (λ (c : Composition). and_then (begun_with L m (start_at c)) (λ d. good (opened σ side d))) (A.composition side))))

module _ (L : Layout) (l k : Lent) where
  module _ (s : Session) (m : Memory) (A : Alike L s.settings l k) where
    session_alike : (side : Side) → session_ok_with L l s m side ≡ session_ok_with L k s m side
    unfolding session_ok_with
    session_alike side = rw (A.states1, A.states2)

    entered_alike : entered_with L l s m ≡ entered_with L k s m
    unfolding entered_with
    entered_alike = ap₂ and_then A.side (fun_ext (λ side. ap₂ (λ (b : Bool) (c : Composition). refuse_if (not b) 8 (good c)) (session_alike side) (A.composition side)))

    at_alike : (n : ℕ) → entered_at_with L l s m n ≡ entered_at_with L k s m n
    unfolding entered_at_with
    at_alike n = rw entered_alike

    expand_alike : (n : ℕ) → expand_with L l s m n ≡ expand_with L k s m n
    unfolding expand_with
    expand_alike n = rw (at_alike n)

    final_alike : (n : ℕ) → final_weight_with L l s m n ≡ final_weight_with L k s m n
    unfolding final_weight_with
    final_alike n = rw (at_alike n)

    records_alike : (n : ℕ) → records_with L l s m n ≡ records_with L k s m n
    unfolding records_with
    records_alike n = rw (at_alike n)

    place_alike : (n : ℕ) → records_place_with L l s m n ≡ records_place_with L k s m n
    unfolding records_place_with
    place_alike n = rw (at_alike n)

  -- a piece of a run: the settings stay from one expansion to the next
  piece_alike : (j n : ℕ) (s : Session) (m : Memory) → Alike L s.settings l k → run_from_with L l j n s m ≡ run_from_with L k j n s m
  unfolding run_from_with
  piece_alike zero n s m A = refl
  piece_alike (suc j) n s m A =
      ap (λ (o : Outcome Part). run_by (leb s.used.states n) s m o (run_from_with L l j (suc n))) (expand_alike s m A n) ∙ go (leb s.used.states n) (λ t q B. piece_alike j (suc n) t q B)
    where
      o : Outcome Part
      o = expand_with L k s m n

      on : (a : Checked Part) → ((t : Session) (q : Memory) → Alike L t.settings l k → run_from_with L l j (suc n) t q ≡ run_from_with L k j (suc n) t q)
          → onward a o.session o.memory (run_from_with L l j (suc n)) ≡ onward a o.session o.memory (run_from_with L k j (suc n))
      on (good p) rec = rec o.session o.memory (subst (λ σ. Alike L σ l k) (sym (expand_settings L k s m n)) A)
      on (refused i) rec = refl

      go : (b : Bool) → ((t : Session) (q : Memory) → Alike L t.settings l k → run_from_with L l j (suc n) t q ≡ run_from_with L k j (suc n) t q)
          → run_by b s m o (run_from_with L l j (suc n)) ≡ run_by b s m o (run_from_with L k j (suc n))
      go true rec = refl
      go false rec = on o.answer rec

  run_alike : (s : Session) (m : Memory) → Alike L s.settings l k → run_with L l s m ≡ run_with L k s m
  unfolding run_with
  run_alike s m A = ap (λ (x : Checked Composition). run_after_with L x l s m) (entered_alike s m A) ∙ go (entered_with L k s m)
    where
      go : (x : Checked Composition) → run_after_with L x l s m ≡ run_after_with L x k s m
      go (refused n) = refl
      go (good c) = piece_alike (state_room_with L m) 0 s m A

  call_alike : (w : World) (x : Call) → Alike L w.session.settings l k → call_with L l w x ≡ call_with L k w x
  unfolding call_with
  call_alike w (opening s j) A = refl
  call_alike w (expand n) A = ap (turn_of part) (expand_alike w.session w.memory A n)
  call_alike w (final_weight n) A = ap (turn_of weight) (final_alike w.session w.memory A n)
  call_alike w (records n) A = ap (λ (x : List ℕ). record { reply = handed x; world = w }) (records_alike w.session w.memory A n)
  call_alike w run A = ap (turn_of (λ u. accepted)) (run_alike w.session w.memory A)

-- and for a caller that owns its memory
module _ (l k : Lent) where
  stop_alike : (j n : ℕ) (s : Session) (m : Memory) → Alike six s.settings l k → stop_from l j n s m ≡ stop_from k j n s m
  unfolding stop_from
  stop_alike zero n s m A = refl
  stop_alike (suc j) n s m A =
      ap (λ (o : Outcome Part). stop_by o o.answer n (stop_from l j (suc n))) (expand_alike six l k s m A n) ∙ go o.answer (λ t q B. stop_alike j (suc n) t q B)
    where
      o : Outcome Part
      o = expand_of k s m n

      go : (a : Checked Part) → ((t : Session) (q : Memory) → Alike six t.settings l k → stop_from l j (suc n) t q ≡ stop_from k j (suc n) t q)
          → stop_by o a n (stop_from l j (suc n)) ≡ stop_by o a n (stop_from k j (suc n))
      go (good p) rec = rec o.session o.memory (subst (λ σ. Alike six σ l k) (sym (expand_settings six k s m n)) A)
      go (refused i) rec = refl

  weights_alike : (s : Session) (m : Memory) (n j : ℕ) → Alike six s.settings l k → weights_from l s m n j ≡ weights_from k s m n j
  unfolding weights_from
  weights_alike s m n j A = ap (λ (f : ℕ → Checked (Option ℕ)). collect (map f (interval n j))) (fun_ext (λ i. ap (λ (o : Outcome (Option ℕ)). o.answer) (final_alike six l k s m A i)))

-- the operand of a machine whose words are read as W, under an empty list or another
read_as : (g : Ignored) (on : MatchType) (m W : List ℕ) (sigma mode : ℕ) (allowed : Option (List ℕ)) → words_read on g m ≡ W → operand_under g on m sigma mode allowed ≡ operand_of on W sigma mode allowed
read_as g on m W sigma mode allowed e = sym (operand_read g on m sigma mode allowed) ∙ ap (λ (x : List ℕ). operand_of on x sigma mode allowed) e

read_empty : (on : MatchType) (s : Settings) (l : Lent) (m : List ℕ) → l.ignored ≡ [] → words_read on (ignored_by s l) m ≡ m
read_empty on s l m e = read_none on (ignored_by s l) m (ap length e)

read_other : (on : MatchType) (s : Settings) (l : Lent) (m : List ℕ) → non_empty l.ignored ≡ true → words_read on (ignored_by s l) m ≡ words_replaced on (ignored_by s l) m
unfolding words_read
read_other on s l m e = go l.ignored e
  where
    go : (xs : List ℕ) → non_empty xs ≡ true → let g : Ignored = record { list = xs; sigma1 = s.sigma1; sigma2 = s.sigma2 } in words_read on g m ≡ words_replaced on g m
    go [] e = absurd (false≢true e)
    go (x ∷ xs) e = refl

-- an empty list holds neither 0 nor MAX
empty_ok : (xs : List ℕ) → xs ≡ [] → ignored_ok xs ≡ true
unfolding ignored_ok has
empty_ok xs e = rw e

-- with an empty list the operands are those without one
module _ (s : Settings) (l : Lent) (e : l.ignored ≡ []) where
  plain_first : operand1 s l ≡ plain1 s l
  plain_first = read_as (ignored_by s l) outputs l.m1 l.m1 s.sigma1 s.mode1 l.allowed1 (read_empty outputs s l l.m1 e)

  plain_second : operand2 s l ≡ plain2 s l
  plain_second = read_as (ignored_by s l) inputs l.m2 l.m2 s.sigma2 s.mode2 l.allowed2 (read_empty inputs s l l.m2 e)

pub empty_changes_nothing : EmptyChangesNothing
unfolding side_for_with
empty_changes_nothing L l e = record {
  side = λ s. rw (empty_ok l.ignored e) (λ i. refuse_if (not (settings_ok s)) 1
      (refuse_if (not (well_formed_up_to L.limit l.m1)) 2 (refuse_if (not (well_formed_up_to L.limit l.m2)) 3 (side_of (plain_first s l e i) (plain_second s l e i)))));
  composition = λ s side. λ i. record { kind = kind_of s.kind; filter = filter_of s.filter; side = side; operand1 = plain_first s l e i; operand2 = plain_second s l e i };
}

-- with another list they are those of the replaced words without one
module _ (L : Layout) (l : Lent) (some : non_empty l.ignored ≡ true) where
  pub replaced_first : (s : Settings) → operand1 s l ≡ operand1 s (replaced_lent s l)
  replaced_first s =
      let W = words_replaced outputs (ignored_by s l) l.m1 in
      read_as (ignored_by s l) outputs l.m1 W s.sigma1 s.mode1 l.allowed1 (read_other outputs s l l.m1 some) ∙ sym (plain_first s (replaced_lent s l) refl)

  pub replaced_second : (s : Settings) → operand2 s l ≡ operand2 s (replaced_lent s l)
  replaced_second s =
      let W = words_replaced inputs (ignored_by s l) l.m2 in
      read_as (ignored_by s l) inputs l.m2 W s.sigma2 s.mode2 l.allowed2 (read_other inputs s l l.m2 some) ∙ sym (plain_second s (replaced_lent s l) refl)

  module _ (formed1 : well_formed_up_to L.limit l.m1 ≡ true) (formed2 : well_formed_up_to L.limit l.m2 ≡ true) (ok : ignored_ok l.ignored ≡ true) where
    after1 : (s : Settings) → well_formed_up_to L.limit (replaced_lent s l).m1 ≡ true
    after1 s = replaced_formed_upto L.limit outputs (ignored_by s l) l.m1 formed1

    after2 : (s : Settings) → well_formed_up_to L.limit (replaced_lent s l).m2 ≡ true
    after2 s = replaced_formed_upto L.limit inputs (ignored_by s l) l.m2 formed2

    alike : (s : Settings) → Alike L s l (replaced_lent s l)
    unfolding side_for_with
    alike s = record {
      side = rw (formed1, formed2, ok, after1 s, after2 s, empty_ok [] refl) (λ i. refuse_if (not (settings_ok s)) 1 (side_of (replaced_first s i) (replaced_second s i)));
      composition = λ side. λ i. record { kind = kind_of s.kind; filter = filter_of s.filter; side = side; operand1 = replaced_first s i; operand2 = replaced_second s i };
      states1 = sym (same_states outputs (ignored_by s l) l.m1);
      states2 = sym (same_states inputs (ignored_by s l) l.m2);
    }

pub otherwise_replaced : OtherwiseReplaced
unfolding call_with
otherwise_replaced L l formed1 formed2 some ok =
    let A = alike L l some formed1 formed2 ok in
    record {
      formed1 = after1 L l some formed1 formed2 ok;
      formed2 = after2 L l some formed1 formed2 ok;
      side = λ s. (A s).side;
      composition = λ s. (A s).composition;
      entered = λ s m. entered_alike L l (replaced_lent s.settings l) s m (A s.settings);
      entered_at = λ s m. at_alike L l (replaced_lent s.settings l) s m (A s.settings);
      opens = λ s. open_alike L s l (replaced_lent s l) (A s);
      expand = λ s m. expand_alike L l (replaced_lent s.settings l) s m (A s.settings);
      final_weight = λ s m. final_alike L l (replaced_lent s.settings l) s m (A s.settings);
      run = λ s m. run_alike L l (replaced_lent s.settings l) s m (A s.settings);
      records = λ s m. records_alike L l (replaced_lent s.settings l) s m (A s.settings);
      place = λ s m. place_alike L l (replaced_lent s.settings l) s m (A s.settings);
      piece = λ k n s m. piece_alike L l (replaced_lent s.settings l) k n s m (A s.settings);
      call = λ w x. call_alike L l (replaced_lent w.session.settings l) w x (A w.session.settings);
      opens_among = λ k w s. ap (turn_of (λ u. accepted)) (open_alike L s l (replaced_lent s l) (A s) w.session w.memory);
    }

pub owned_as_replaced : (l : Lent) → well_formed l.m1 ≡ true → well_formed l.m2 ≡ true → non_empty l.ignored ≡ true → ignored_ok l.ignored ≡ true → OwnedAsReplaced l
owned_as_replaced l formed1 formed2 some ok =
    let A = alike six l some formed1 formed2 ok in
    record {
      stop = λ k n s m. stop_alike l (replaced_lent s.settings l) k n s m (A s.settings);
      weights = λ s m n k. weights_alike l (replaced_lent s.settings l) s m n k (A s.settings);
    }
