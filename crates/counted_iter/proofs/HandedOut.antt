-- 02, 2.6: the number that a look-up states is that of the definition's matches, and that of the matches which it then hands out, the first with its answer and the others by asking on (2.5). The premises are the
-- contracts of the public functions as the toolchain reads them off the code.
use mathlib.Core.Path.{◌≡◌, refl, sym, ap, subst, ◌∙◌}
use mathlib.Core.Bool.{Bool, cond}
use mathlib.Core.List.{List, [], ◌∷◌, map}
use Rattle.std.specs.Prelude.{None, Some, Result, Ok, Err, IfOk}
use Rattle.std.proofs.lemmas.Option.{none-some, same_Some}
use Prim.Native.Nat.{ℕ}
use contract.Lifetimes.{Lfts}
use denote.Ref.{Bor}
use lib.ListN.{length}
use Rattle.lists.proofs.Apart.{Apart}
use Rattle.lists.proofs.Places.{at_place}
use Rattle.words.specs.Labels.{Checked, good, refused, and_then}
use Rattle.words.specs.Matches.{Match}
use Rattle.words.specs.Machines.{first_of, machine_of}
use Rattle.words.specs.Sigmas.{Operand, lookup, rewrite}
use Rattle.words.proofs.CheckedLaws.{good_is, refused_is, good≢refused, past_then}
use Rattle.words.proofs.ListLaws.{list_distinct}
use Rattle.words.proofs.PapersLookup.{SameEdge, found_apart}
use Rattle.fst.specs.Meaning.{on_of, read_as}
use Rattle.fst.specs.Refusals.{number_of, checked_by}
use Rattle.fst.specs.declared.refusals.Refusal.{Refusal}
use Rattle.fst.specs.declared.Label.{Label}
use Rattle.fst.specs.declared.MatchType.{MatchType}
use Rattle.fst.specs.declared.Sigmas.{Sigmas}
use Rattle.fst.specs.declared.StateId.{StateId}
use Rattle.fan_outs.specs.FanOut.{fan_out}
use Rattle.matchers.specs.Meaning.{Item, match_means, item_of, lookup_items, allowed_of, operand_in, stands_for}
use Rattle.matchers.specs.Cursors.{Step, items_left, Asked, asked, cursor_after, first_cursor}
use Rattle.matchers.specs.Asking.{LookUp, sigma_look_up, Holds, Gives}
use Rattle.matchers.specs.declared.IterItemMatcher.{IterItemMatcher}
use Rattle.matchers.specs.declared.Cursor.{Cursor}
use Rattle.matchers.specs.declared.sigma_matcher.Sigma.{Sigma}
use Rattle.matchers.proofs.Asking.{SigmaReply, NextReply, gives, words_of_lem, sigma_asked_on, matched}
use Rattle.matchers.proofs.Held.{after_holds, first_holds, place_from}
use Rattle.counted_iter.specs.Counted.{CountedIter, count_of, first_asked}
use Rattle.counted_iter.specs.HandedOut.{HandsOut, HandedOut, CountsOrRefuses}
use Rattle.counted_iter.proofs.counted_iter.Reads as counted-iter

-- i is a reply that the contract of `counted_iter` allows, asked with the lent words w, the side, the sigma labels of both machines, the lent list g of ignored labels, the settings of sigma, the lent
-- allowed list, the state and the label
abbrev pub CountedReply : Lfts 2 → (w g allowed : Bor (List ℕ)) → MatchType → Sigmas → Sigma → StateId → Label → CountedIter → Type 0
CountedReply κs w g allowed on labels sigma s x i =
    counted-iter.Learnt κs (matched w g on labels, (sigma, (allowed, (s, (x, tt))))) i (matched w g on labels, (sigma, (allowed, (s, (x, tt)))))

-- what gives these matches hands out as many
hands : (Answers : Cursor → Step → Type 0) (m : List ℕ) (s : ℕ) (q : LookUp) (item : Match → Item) (us : List Match) (c : Cursor) → Gives Answers m s q item us c → HandsOut Answers c (length us)
hands Answers m s q item us c g = record { gives = λ k r a h. let u = at_place us k h in (item u.0, g.in_order k r a u.0 u.1); ends = g.then_none }

-- The look-up that does not count hands out as many: asked on from its first cursor, by the theorem of 2.5.
pub sigma_hands_out : (κs κt : Lfts 2) (w g allowed : Bor (List ℕ)) (on : MatchType) (labels : Sigmas) (sigma : Sigma) (s : StateId) (x : Label) (i : Result Cursor Refusal)
    → SigmaReply κs w g allowed on labels sigma s x i
    →
    let m = read_as on labels g.now w.now in
    let o = operand_in (on_of on) m sigma (allowed_of sigma.listed allowed.now) in
    (n : ℕ) → fan_out o s.0 x.0 ≡ good n → (c : Cursor) × (i ≡ Ok c) × HandsOut (NextReply κt w g) c n
unfolding fan_out
sigma_hands_out κs κt w g allowed on labels sigma s x i h n e =
    let m = read_as on labels g.now w.now in
    let o = operand_in (on_of on) m sigma (allowed_of sigma.listed allowed.now) in
    let r = past_then (lookup o s.0 x.0) (λ ms. good (length ms)) n e in
    let f = (sigma_asked_on κs κt w g allowed on labels sigma s x i h).gives r.0 r.1 in
    (f.0, f.1, subst (HandsOut (NextReply κt w g) f.0) (good_is r.2) (hands _ m s.0 _ _ r.0 f.0 f.2))

-- On any words, with any list, any settings of sigma and any allowed list, at any state, of any label.
pub count_is_handed_out : (κs κt : Lfts 2) (w g allowed : Bor (List ℕ)) (on : MatchType) (labels : Sigmas) (sigma : Sigma) (s : StateId) (x : Label) (i : CountedIter)
    → CountedReply κs w g allowed on labels sigma s x i
    →
    let m = read_as on labels g.now w.now in
    let o = operand_in (on_of on) m sigma (allowed_of sigma.listed allowed.now) in
    CountsOrRefuses (NextReply κt w g) m s.0 (sigma_look_up o labels x.0) (item_of o.machine (rewrite o.sigma.rewrite_both o.on o.sigma.label x.0)) (lookup o s.0 x.0) i
unfolding fan_out lookup_items
count_is_handed_out κs κt w g allowed on labels sigma s x i (count, (first, place)) =
    record {
      refuses = λ n e. refused_at i n (rw e at count);
      empty = λ e. none_at_lem i (rw e at first) (apart [] e) place;
      first = λ u us e. first_at_lem i u us (rw e at count) (rw e at first) (apart (u ∷ us) e) place;
      handed_out = λ n e. by_found (lookup operand s.0 x.0) refl i n e count first place;
    }
  where
    m : List ℕ
    m = read_as on labels g.now w.now

    both : Bool
    both = (operand_in (on_of on) m sigma None).sigma.rewrite_both

    stands : Bool
    stands = stands_for sigma.label.0 (allowed_of sigma.listed allowed.now) x.0

    begin : Cursor
    begin = first_cursor m on labels s x sigma.label both (cond stands (first_of m s.0) 0)

    asks : LookUp
    asks = record { on = on_of on; label = x.0; sigma = sigma.label.0; labels = labels; both = both }

    item : Match → Item
    item = item_of (machine_of m) (rewrite both (on_of on) sigma.label.0 x.0)

    operand : Operand
    operand = operand_in (on_of on) m sigma (allowed_of sigma.listed allowed.now)

    apart : (l : List Match) → lookup operand s.0 x.0 ≡ good l → Apart SameEdge l
    apart l e = found_apart operand s.0 x.0 l (list_distinct m s.0) e

    held : (c : Cursor) → c ≡ cursor_after m begin → Holds m s.0 asks c
    held c e = subst (Holds m s.0 asks) (sym e) (after_holds m s.0 asks begin (first_holds m on labels s x sigma.label both _ begin refl (place_from m s.0 stands)))

    all : (l : List Match) (c : Cursor) → items_left m c ≡ map item l → Apart SameEdge l → Holds m s.0 asks c → Gives (NextReply κt w g) m s.0 asks item l c
    all l c = subst (λ (u : List ℕ). items_left u c ≡ map item l → Apart SameEdge l → Holds u s.0 asks c → Gives (NextReply κt w g) u s.0 asks item l c) (words_of_lem w g on asks refl) (gives κt w g s.0 asks item l c)

    refused_at : (j : CountedIter) (n : ℕ) → checked_by count_of j ≡ refused n → (k : Refusal) × (number_of k ≡ n) × (j ≡ Err k)
    refused_at (Ok (Some (k, v), c)) n e = absurd (good≢refused e)
    refused_at (Ok (None, c)) n e = absurd (good≢refused e)
    refused_at (Err k) n e = (k, refused_is e, refl)

    none_at_lem : (j : CountedIter) → checked_by (first_asked m) j ≡ good (asked []) → Apart SameEdge [] → IfOk j (λ r. r.1 ≡ cursor_after m begin) → (c : Cursor) × (j ≡ Ok (None, c)) × Gives (NextReply κt w g) m s.0 asks item [] c
    none_at_lem (Ok (Some (k, v), c)) e d p = absurd (none-some _ (sym (ap (λ (y : Asked). y.given) (good_is e))))
    none_at_lem (Ok (None, c)) e d p = (c, refl, all [] c (ap (λ (y : Asked). y.left) (good_is e)) d (held c p))
    none_at_lem (Err k) e d p = absurd (good≢refused (sym e))

    first_at_lem : (j : CountedIter) (u : Match) (us : List Match) → checked_by count_of j ≡ good (length (u ∷ us)) → checked_by (first_asked m) j ≡ good (asked (map item (u ∷ us))) → Apart SameEdge (u ∷ us) → IfOk j (λ r. r.1 ≡ cursor_after m begin)
        → (v : IterItemMatcher) × (c : Cursor) × (j ≡ Ok (Some (length (u ∷ us), v), c)) × (match_means v ≡ item u) × Gives (NextReply κt w g) m s.0 asks item us c
    first_at_lem (Ok (Some (k, v), c)) u us n e d p =
        let h = good_is e in
        (v, c, ap (λ (z : ℕ). Ok (Some (z, v), c)) (good_is n), same_Some _ _ (ap (λ (y : Asked). y.given) h), all us c (ap (λ (y : Asked). y.left) h) d.1 (held c p))
    first_at_lem (Ok (None, c)) u us n e d p = absurd (none-some _ (ap (λ (y : Asked). y.given) (good_is e)))
    first_at_lem (Err k) u us n e d p = absurd (good≢refused (sym e))

    handed : (j : CountedIter) (n : ℕ) (l : List Match) → lookup operand s.0 x.0 ≡ good l → n ≡ length l → checked_by (first_asked m) j ≡ good (asked (map item l)) → checked_by count_of j ≡ good (length l)
        → IfOk j (λ r. r.1 ≡ cursor_after m begin) → HandedOut (NextReply κt w g) j n
    handed j n [] f z e a p =
        let r = none_at_lem j e (apart [] f) p in
        subst (λ (y : CountedIter). HandedOut (NextReply κt w g) y n) (sym r.1) (z, hands _ m s.0 asks item [] r.0 r.2)
    handed j n (u ∷ us) f z e a p =
        let r = first_at_lem j u us a e (apart (u ∷ us) f) p in
        subst (λ (y : CountedIter). HandedOut (NextReply κt w g) y n) (sym r.2) (length us, z, hands _ m s.0 asks item us r.1 r.4)

    by_found : (f : Checked (List Match)) → lookup operand s.0 x.0 ≡ f → (j : CountedIter) (n : ℕ) → checked_by count_of j ≡ good n → checked_by count_of j ≡ and_then (lookup operand s.0 x.0) (λ ms. good (length ms))
        → checked_by (first_asked m) j ≡ and_then (and_then (lookup operand s.0 x.0) (λ ms. good (map item ms))) (λ items. good (asked items)) → IfOk j (λ r. r.1 ≡ cursor_after m begin) → HandedOut (NextReply κt w g) j n
    by_found (refused k) f j n z a e p = absurd (good≢refused (sym z ∙ rw f at a))
    by_found (good l) f j n z a e p = handed j n l f (good_is (sym z ∙ rw f at a)) (rw f at e) (rw f at a) p
