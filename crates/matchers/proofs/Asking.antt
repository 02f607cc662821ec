-- 02, 2.5: asked on, a look-up gives the definition's matches, each once and in order, and then none ever after; what its cursors hold are settings and places. The premises are the contracts of the
-- public functions as the toolchain reads them off the code: `Learnt` of a function is what its callers learn of the reply. Each asking takes the head of what is left and leaves its tail.
use mathlib.Core.Path.{◌≡◌, refl, sym, ap, subst, ◌∙◌}
use mathlib.Core.Bool.{Bool, cond}
use mathlib.Core.List.{List, [], ◌∷◌, map}
use mathlib.Core.Logic.{◌⊎◌, inl, inr}
use Rattle.std.specs.Prelude.{None, Result, Ok, Err, IfOk, slice_get}
use Prim.Native.Nat.{ℕ, zero, suc, ◌≤◌}
use native.Mathlib.Omega.{arith}
use seplogic.Ra.Ura.{Ura}
use base.Logic.{SProp}
use prog.Memory.{Memory}
use prog.Routine.{Routine}
use types.Logic.{Logic}
use contract.Lifetimes.{Lfts}
use contract.Monad.{Fun}
use denote.Ref.{Bor}
use lib.ListN.{length}
use Rattle.lists.specs.Asking.{AskedOn}
use Rattle.lists.proofs.Apart.{Apart, apart_once}
use Rattle.lists.proofs.Asking.{asked_on_lem, kept_on}
use Rattle.lists.proofs.Places.{at_map}
use Rattle.words.specs.Labels.{good, refused}
use Rattle.words.specs.Matches.{Match, loop, own, viaSigma, sorted_matches}
use Rattle.words.specs.Machines.{first_of, machine_of}
use Rattle.words.specs.Sigmas.{Operand, lookup, rewrite}
use Rattle.words.specs.AsPapers.{edge_of}
use Rattle.words.proofs.CheckedLaws.{good_is, refused_is, good≢refused}
use Rattle.words.proofs.ListLaws.{list_distinct}
use Rattle.words.proofs.PapersLookup.{SameEdge, apart_sorted, found_apart}
use Rattle.fst.specs.Meaning.{on_of, read_as}
use Rattle.fst.specs.declared.Label.{Label}
use Rattle.fst.specs.declared.Matched.{Matched}
use Rattle.fst.specs.declared.MatchType.{MatchType}
use Rattle.fst.specs.declared.MatchType.TheVariants.{MatchInput, MatchOutput}
use Rattle.fst.specs.declared.Sigmas.{Sigmas}
use Rattle.fst.specs.declared.StateId.{StateId}
use Rattle.fst.specs.declared.refusals.Refusal.{Refusal}
use Rattle.fst.specs.Refusals.{number_of, checked_by}
use Rattle.matchers.specs.Meaning.{Item, item_of, sorted_items, lookup_items, allowed_of, operand_in, stands_for}
use Rattle.matchers.specs.Cursors.{held_words, matches_left, moved_past, cursor_after, items_left, asked, Step, given_by, cursor_of, first_cursor}
use Rattle.matchers.specs.Asking.{LookUp, side_in, sorted_look_up, sigma_look_up, Holds, onward, Gives, GivesOrRefuses}
use Rattle.matchers.specs.declared.Cursor.{Cursor}
use Rattle.matchers.specs.declared.Matcher.{Matcher}
use Rattle.matchers.specs.declared.sigma_matcher.Sigma.{Sigma}
use Rattle.matchers.proofs.Turns.{Answers}
use Rattle.matchers.proofs.Held.{after_holds, first_holds, place_from}
use Rattle.matchers.specs.contracts.next as next
use Rattle.matchers.specs.contracts.next_match as next-match-clauses
use Rattle.matchers.proofs.next_match.Reads as next-match
use Rattle.matchers.proofs.ask.Reads as ask
use Rattle.matchers.proofs.sorted_matcher.sorted_iter.Reads as sorted-iter
use Rattle.matchers.proofs.sigma_matcher.sigma_iter.Reads as sigma-iter

-- a machine in lent words, with the lent list of ignored labels, matched on a side
abbrev pub matched : (w g : Bor (List ℕ)) → MatchType → Sigmas → Matched
matched w g on labels = record { words = w; on = on; sigmas = labels; ignored = g }

-- c is a reply that the contract of `sorted_iter` allows, asked with the lent words w, the side, the sigma labels of both machines, the lent list g of ignored labels, the state
-- and the label
abbrev pub SortedReply : Lfts 1 → (w g : Bor (List ℕ)) → MatchType → Sigmas → StateId → Label → Cursor → Type 0
SortedReply κs w g on labels s x c = sorted-iter.Learnt κs (matched w g on labels, (s, (x, tt))) c (matched w g on labels, (s, (x, tt)))

-- i is one that the contract of `sigma_iter` allows, asked with the settings of sigma and the lent allowed list too
abbrev pub SigmaReply : Lfts 2 → (w g allowed : Bor (List ℕ)) → MatchType → Sigmas → Sigma → StateId → Label → Result Cursor Refusal → Type 0
SigmaReply κs w g allowed on labels sigma s x i =
    sigma-iter.Learnt κs (matched w g on labels, (sigma, (allowed, (s, (x, tt))))) i (matched w g on labels, (sigma, (allowed, (s, (x, tt)))))

-- r is a reply that the contract of `next_match`, or that of `ask`, allows, asked with the lent words w, the cursor c and the lent list g
abbrev pub NextReply : Lfts 2 → (w g : Bor (List ℕ)) → Cursor → Step → Type 0
NextReply κs w g c r = next-match.Learnt κs (w, (c, (g, tt))) r (w, (c, (g, tt))) ⊎ ask.Learnt κs (w, (c, (g, tt))) r (w, (c, (g, tt)))

-- `next` is asked with a reader, a struct that holds a reference, of which the toolchain makes no such reading. Its clauses are those of `next_match` for the reader's words and cursor, to the letter.
pub next_as_next_match : {M : Type 1} {𝓤 : Ura M} (𝓛 : Logic 𝓤) (mem : Memory → SProp 𝓤) (run : Routine → Fun 𝓤) (κs : Lfts 2) (d : Matcher) (g : Bor (List ℕ)) (r : Step)
    → (next.clauses 𝓛 mem run κs (d, (g, tt))).ensures tt r (d, (g, tt))
    ≡ (next-match-clauses.clauses 𝓛 mem run κs (d.words, (d.cursor, (g, tt)))).ensures tt r (d.words, (d.cursor, (g, tt)))
next_as_next_match 𝓛 mem run κs d g r = refl

answers : (κs : Lfts 2) (w g : Bor (List ℕ)) (c : Cursor) (r : Step) → NextReply κs w g c r → Answers (held_words c g.now w.now) c r
answers κs w g c r (inl h) = h
answers κs w g c r (inr h) = h

-- the words as a look-up reads them
abbrev pub words_of : LookUp → (w g : Bor (List ℕ)) → List ℕ
words_of q w g = read_as (side_in q.on) q.labels g.now w.now

-- every cursor of the look-up reads them so
held_words_lem : (w g : Bor (List ℕ)) (m : List ℕ) (s : ℕ) (q : LookUp) (c : Cursor) → Holds m s q c → held_words c g.now w.now ≡ words_of q w g
held_words_lem w g m s q c h = ap (λ (d : Cursor). held_words d g.now w.now) h.whole

-- and an asking changes nothing in that
pub held_after_lem : (w g m : List ℕ) (c : Cursor) → held_words (cursor_after m c) g w ≡ held_words c g w
held_after_lem w g m c = go (matches_left m c)
  where
    go : (us : List Match) → held_words (moved_past m c us) g w ≡ held_words c g w
    go [] = refl
    go (loop ∷ us) = refl
    go (own t ∷ us) = refl
    go (viaSigma t ∷ us) = refl

head_asked : (l : List Item) → (asked l).given ≡ slice_get l 0
head_asked [] = refl
head_asked (i ∷ is) = refl

tail_asked : (l : List Item) (k : ℕ) → slice_get (asked l).left k ≡ slice_get l (suc k)
tail_asked [] k = refl
tail_asked (i ∷ is) k = refl

past : (item : Match → Item) (ms : List Match) (k : ℕ) → length ms ≤ k → slice_get (map item ms) k ≡ None
past item [] k h = refl
past item (u ∷ us) zero h = absurd (omega arith)
past item (u ∷ us) (suc k) h = past item us k (omega arith)

-- a cursor that has these matches to give, and holds places, gives them
pub gives : (κs : Lfts 2) (w g : Bor (List ℕ)) (s : ℕ) (q : LookUp) (item : Match → Item) (ms : List Match) (c : Cursor)
    → items_left (words_of q w g) c ≡ map item ms → Apart SameEdge ms → Holds (words_of q w g) s q c → Gives (NextReply κs w g) (words_of q w g) s q item ms c
gives κs w g s q item ms c e d h = record { in_order = λ k r a u i. at k r a ∙ at_map item ms k i; then_none = λ k r a i. at k r a ∙ past item ms k i; once = apart_once edge_of ms d; begins = h; holds = held }
  where
    m : List ℕ
    m = words_of q w g

    -- what a cursor has to give, of the words as it reads them
    left : Cursor → List Item
    left d = items_left (held_words d g.now w.now) d

    one : (d : Cursor) (r : Step) → NextReply κs w g d r → (given_by r ≡ slice_get (left d) 0) × ((k : ℕ) → slice_get (left (cursor_of r)) k ≡ slice_get (left d) (suc k))
    one d r a =
        let x = answers κs w g d r a in
        let n = held_words d g.now w.now in
        let same = ap (λ (f : Cursor). held_words f g.now w.now) x.1 ∙ held_after_lem w.now g.now n d in
        (ap (λ y. y.given) x.0 ∙ head_asked (left d), λ k. ap (λ (v : List ℕ). slice_get (items_left v (cursor_of r)) k) same ∙ (ap (λ y. slice_get y.left k) x.0 ∙ tail_asked (left d) k))

    at : (k : ℕ) (r : Step) → AskedOn (NextReply κs w g) onward c k r → given_by r ≡ slice_get (map item ms) k
    at k r a =
        asked_on_lem (NextReply κs w g) onward given_by (λ d j. slice_get (left d) j) one c k r a
        ∙ ap (λ (l : List Item). slice_get l k) (ap (λ (v : List ℕ). items_left v c) (held_words_lem w g m s q c h) ∙ e)

    keeps : (d : Cursor) (r : Step) → NextReply κs w g d r → Holds m s q d → Holds m s q (cursor_of r)
    keeps d r a p = rw ((answers κs w g d r a).1, held_words_lem w g m s q d p) (after_holds m s q d p)

    held : (k : ℕ) (r : Step) → AskedOn (NextReply κs w g) onward c k r → Holds m s q (cursor_of r)
    held k r a = let last = kept_on (NextReply κs w g) onward (Holds m s q) keeps c k r a h in keeps last.0 r last.2 last.1

-- the code's name of the side that a name of the code stands for
pub side_in_lem : (on : MatchType) → side_in (on_of on) ≡ on
side_in_lem MatchInput = refl
side_in_lem MatchOutput = refl

-- so the words of a look-up on that side are read as asked
pub words_of_lem : (w g : Bor (List ℕ)) (on : MatchType) (q : LookUp) → q.on ≡ on_of on → words_of q w g ≡ read_as on q.labels g.now w.now
words_of_lem w g on q e = ap (λ (o : MatchType). read_as o q.labels g.now w.now) (ap side_in e ∙ side_in_lem on)

-- The sorted look-up: on any words, with any list, at any state, of any label.
pub sorted_asked_on : (κs : Lfts 1) (κt : Lfts 2) (w g : Bor (List ℕ)) (on : MatchType) (labels : Sigmas) (s : StateId) (x : Label) (c : Cursor)
    → SortedReply κs w g on labels s x c
    →
    let m = read_as on labels g.now w.now in
    Gives (NextReply κt w g) m s.0 (sorted_look_up (on_of on) labels x.0) (item_of (machine_of m) (λ t. t)) (sorted_matches (on_of on) (machine_of m) s.0 x.0) c
unfolding sorted_items
sorted_asked_on κs κt w g on labels s x c (means, place) =
    subst (λ (u : List ℕ). (i : Match → Item) (ms : List Match) → items_left u c ≡ map i ms → Apart SameEdge ms → Holds u s.0 q c → Gives (NextReply κt w g) u s.0 q i ms c)
    (words_of_lem w g on q refl) (λ i ms. gives κt w g s.0 q i ms c)
    (item_of (machine_of m) (λ t. t)) (sorted_matches (on_of on) (machine_of m) s.0 x.0) means
    (apart_sorted (on_of on) (machine_of m) s.0 x.0 (list_distinct m s.0)) (first_holds m on labels s x _ _ 0 c place (inl refl))
  where
    q : LookUp
    q = sorted_look_up (on_of on) labels x.0

    m : List ℕ
    m = read_as on labels g.now w.now

-- The sigma look-up: on any words, with any list, any settings of sigma and any allowed list, at any state, of any label.
pub sigma_asked_on : (κs κt : Lfts 2) (w g allowed : Bor (List ℕ)) (on : MatchType) (labels : Sigmas) (sigma : Sigma) (s : StateId) (x : Label) (i : Result Cursor Refusal)
    → SigmaReply κs w g allowed on labels sigma s x i
    →
    let m = read_as on labels g.now w.now in
    let o = operand_in (on_of on) m sigma (allowed_of sigma.listed allowed.now) in
    GivesOrRefuses (NextReply κt w g) m s.0 (sigma_look_up o labels x.0) (item_of o.machine (rewrite o.sigma.rewrite_both o.on o.sigma.label x.0)) (lookup o s.0 x.0) i
unfolding lookup_items
sigma_asked_on κs κt w g allowed on labels sigma s x i (means, place) = record { refuses = λ n e. refused_at i n (rw e at means); gives = λ l e. found i l (rw e at means) (apart l e) place }
  where
    m : List ℕ
    m = read_as on labels g.now w.now

    both : Bool
    both = (operand_in (on_of on) m sigma None).sigma.rewrite_both

    stands : Bool
    stands = stands_for sigma.label.0 (allowed_of sigma.listed allowed.now) x.0

    first : Cursor
    first = first_cursor m on labels s x sigma.label both (cond stands (first_of m s.0) 0)

    asks : LookUp
    asks = record { on = on_of on; label = x.0; sigma = sigma.label.0; labels = labels; both = both }

    item : Match → Item
    item = item_of (machine_of m) (rewrite both (on_of on) sigma.label.0 x.0)

    operand : Operand
    operand = operand_in (on_of on) m sigma (allowed_of sigma.listed allowed.now)

    apart : (l : List Match) → lookup operand s.0 x.0 ≡ good l → Apart SameEdge l
    apart l e = found_apart operand s.0 x.0 l (list_distinct m s.0) e

    refused_at : (j : Result Cursor Refusal) (n : ℕ) → checked_by (items_left m) j ≡ refused n → (k : Refusal) × (number_of k ≡ n) × (j ≡ Err k)
    refused_at (Ok c) n e = absurd (good≢refused e)
    refused_at (Err k) n e = (k, refused_is e, refl)

    all : (l : List Match) (c : Cursor) → items_left m c ≡ map item l → Apart SameEdge l → Holds m s.0 asks c → Gives (NextReply κt w g) m s.0 asks item l c
    all l c = subst (λ (u : List ℕ). items_left u c ≡ map item l → Apart SameEdge l → Holds u s.0 asks c → Gives (NextReply κt w g) u s.0 asks item l c) (words_of_lem w g on asks refl) (gives κt w g s.0 asks item l c)

    found : (j : Result Cursor Refusal) (l : List Match) → checked_by (items_left m) j ≡ good (map item l) → Apart SameEdge l → IfOk j (λ c. c ≡ first) → (c : Cursor) × (j ≡ Ok c) × Gives (NextReply κt w g) m s.0 asks item l c
    found (Ok c) l e d p = (c, refl, all l c (good_is e) d (first_holds m on labels s x sigma.label both _ c p (place_from m s.0 stands)))
    found (Err k) l e d p = absurd (good≢refused (sym e))
