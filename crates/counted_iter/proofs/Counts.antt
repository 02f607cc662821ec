-- The records with a label from a place on, counted: a turn along the list, and that there are at most T. Then what a cursor has still to give.
use mathlib.Core.Path.{◌≡◌, refl, sym, ap, ◌∙◌}
use mathlib.Core.Bool.{Bool, true, false, cond}
use mathlib.Core.List.{List, [], ◌∷◌, map}
use Rattle.std.specs.Prelude.{Option, None, Some, option_map}
use Rattle.std.specs.Int.{from_bool}
use Rattle.std.proofs.lemmas.Option.{none-some}
use Prim.Native.Nat.{ℕ, ◌+◌, ◌≤◌}
use native.Mathlib.Omega.{arith}
use lib.Dec.{eqb, leb}
use lib.ListN.{length, length-append, length-map}
use Rattle.lists.specs.Lists.{put_if}
use Rattle.lists.proofs.Members.{keep_length}
use Rattle.words.specs.Labels.{Checked, good, refused, and_then}
use Rattle.words.specs.Matches.{MatchType, label_on, Match, loop, own, viaSigma}
use Rattle.words.specs.Machines.{tr_count, next_of, list_from, machine_of}
use Rattle.words.specs.Sigmas.{Operand, lookup, rewrite}
use Rattle.words.proofs.CheckedLaws.{good≢refused, good_is, refused_is}
use Rattle.words.proofs.ListLaws.{list_length}
use Rattle.fst.specs.Meaning.{on_of}
use Rattle.matchers.specs.Cursors.{records_from, with_label, looked, sigma_left, own_left, in_phase, matches_left, items_of, items_left, Asked, asked, step_means}
use Rattle.matchers.specs.Meaning.{Item, item_of, lookup_items}
use Rattle.matchers.specs.declared.Phase.TheVariants.{Own, Sigmas}
use Rattle.matchers.specs.declared.Cursor.{Cursor}
use Rattle.matchers.specs.declared.IterItemMatcher.{IterItemMatcher}
use Rattle.counted_iter.specs.Counted.{count_of}
use Rattle.matchers.proofs.Seeks.{with_turn}
use Rattle.fan_outs.specs.FanOut.{fan_out}

-- one more, if the test holds
put_one : {A : Type 0} (b : Bool) (x : A) (l : List A) → length (put_if b x l) ≡ from_bool b + length l
put_one true x l = omega arith
put_one false x l = omega arith

-- a turn: one, if the record has the label, and those from its link on
pub count_turn : (on : MatchType) (m : List ℕ) (x t : ℕ) → (t ≡ 0 → ⊥) → t ≤ tr_count m
    → length (with_label on m x t) ≡ from_bool (eqb (label_on on (machine_of m) t) x) + length (with_label on m x (next_of m t))
count_turn on m x t e h = ap length (with_turn on m x t e h) ∙ put_one (eqb (label_on on (machine_of m) t) x) t (with_label on m x (next_of m t))

pub count_few : (on : MatchType) (m : List ℕ) (x t : ℕ) → length (with_label on m x t) ≤ tr_count m
unfolding with_label records_from
count_few on m x t = let h = keep_length (λ u. eqb (label_on on (machine_of m) u) x) (records_from m t) in let k = go (leb t (tr_count m)) in omega (arith, h, k)
  where
    go : (b : Bool) → length (cond b (list_from m t) []) ≤ tr_count m
    go true = list_length m t
    go false = omega arith

-- what is left in each phase
module _ (m : List ℕ) (c : Cursor) where
  abbrev owns : ℕ
  owns = length (with_label (on_of c.on) m (looked c.label.0) c.tr)

  abbrev sigmas : ℕ → ℕ
  sigmas t = length (with_label (on_of c.on) m c.sigma.0 t)

  pub count_own : (a b : ℕ) → c.phase ≡ Own → a ≡ owns → b ≡ sigmas c.sigmas → a + b ≡ length (in_phase c.phase m c)
  unfolding own_left sigma_left
  count_own a b p x y =
      let own-trs = with_label (on_of c.on) m (looked c.label.0) c.tr in
      let sigma-trs = with_label (on_of c.on) m c.sigma.0 c.sigmas in
      rw p (omega (arith, length-append (map own own-trs) (map viaSigma sigma-trs), length-map own-trs own, length-map sigma-trs viaSigma, x, y))

  pub count_sigmas : (b : ℕ) → c.phase ≡ Sigmas → b ≡ sigmas c.tr → b ≡ length (in_phase c.phase m c)
  unfolding sigma_left
  count_sigmas b p y = rw p (y ∙ sym (length-map (with_label (on_of c.on) m c.sigma.0 c.tr) viaSigma))

  -- the loop is one match more
  pub count_loop : (n : ℕ) → n ≡ length (in_phase c.phase m c) → n + from_bool c.loops ≡ length (matches_left m c)
  unfolding matches_left
  count_loop n e = omega (arith, e, put_one c.loops loop (in_phase c.phase m c))

-- the number with the first match that an asking gives; where it gives none, there was none to give
pub count_first : (m : List ℕ) (c next : Cursor) (n : ℕ) (found : Option IterItemMatcher) → n ≡ length (matches_left m c) → step_means m (found, next) ≡ asked (items_left m c)
    → count_of (option_map (λ u. (n, u)) found, next) ≡ length (matches_left m c)
unfolding items_left
count_first m c next n (Some u) e h = e
count_first m c next n None e h = go (matches_left m c) h
  where
    go : (us : List Match) → step_means m (None, next) ≡ asked (items_of m c us) → 0 ≡ length us
    go [] h = refl
    go (u ∷ us) h = absurd (none-some _ (ap (λ (x : Asked). x.given) h))

-- what the look-up gives, counted: as many as its matches
pub items_counted : (o : Operand) (s x : ℕ) (m : List ℕ) (c : Cursor) → good (items_left m c) ≡ lookup_items o s x → good (length (matches_left m c)) ≡ fan_out o s x
unfolding lookup_items fan_out items_left
items_counted o s x m c e = go (lookup o s x) e
  where
    item : Match → Item
    item = item_of o.machine (rewrite o.sigma.rewrite_both o.on o.sigma.label x)

    left : Match → Item
    left = item_of (machine_of m) (rewrite c.both (on_of c.on) c.sigma.0 c.label.0)

    go : (found : Checked (List Match)) → good (map left (matches_left m c)) ≡ and_then found (λ ms. good (map item ms)) → good (length (matches_left m c)) ≡ and_then found (λ ms. good (length ms))
    go (good ms) h = ap good (sym (length-map (matches_left m c) left) ∙ ap length (good_is h) ∙ length-map ms item)
    go (refused k) h = absurd (good≢refused h)

-- a refusal of the look-up is one of what comes after it
pub items_refused : (o : Operand) (s x k : ℕ) → refused k ≡ lookup_items o s x → refused k ≡ fan_out o s x
unfolding lookup_items fan_out
items_refused o s x k e = go (lookup o s x) e
  where
    item : Match → Item
    item = item_of o.machine (rewrite o.sigma.rewrite_both o.on o.sigma.label x)

    go : (found : Checked (List Match)) → refused k ≡ and_then found (λ ms. good (map item ms)) → refused k ≡ and_then found (λ ms. good (length ms))
    go (good ms) h = absurd (good≢refused (sym h))
    go (refused j) h = ap refused (refused_is h)
