-- What a binary search finds in a list of consecutive records: the first record with the label, as the walk along the links finds it.
use mathlib.Core.Path.{◌≡◌, refl, sym, ◌∙◌, ap, subst}
use mathlib.Core.Bool.{Bool, true, false, ◌||◌}
use mathlib.Core.List.{List, [], ◌∷◌, map, Memᴰ as In}
use mathlib.Core.Logic.{◌⊎◌, inl, inr}
use Prim.Native.Nat.{ℕ, zero, suc, ◌+◌, ◌-◌, ◌*◌, ◌/◌, ◌≤◌, ◌<◌}
use native.Mathlib.Omega.{arith}
use native.Mathlib.Decide.{dec_lt}
use lib.Dec.{eqb}
use lib.ListN.{length, get_or, length-map}
use borrow.Author.Tests.{eqb-true, ne_eqb, eq-eqb}
use Rattle.lists.specs.Lists.{put_if, keep_if, every, interval}
use Rattle.lists.proofs.Members.{and_left, and_right, or_cases, of_interval, keep_length}
use Rattle.lists.proofs.Totals.{length_interval}
use Rattle.words.specs.Matches.{MatchType, inputs, outputs, label_on}
use Rattle.words.specs.Machines.{word_on, header_words, state_words, tr_words, state_count, tr_count, next_of, list_from, machine_of, no_fall}
use Rattle.words.proofs.FormLaws.{tr_at_lem}
use Rattle.words.proofs.ListLaws.{link, list_end_lem, list_turn}
use Rattle.fst_reads.specs.Places.{record_base}
use Rattle.matchers.specs.Cursors.{records_from, with_label, head0}
use Rattle.sorted_lists.specs.Seeks.{label_at, NoFalls, Sought}
use Rattle.matchers.proofs.Seeks.{records_inside}
use Rattle.sorted_lists.specs.Runs.{rising, straight, label_place}
use Rattle.sorted_lists.proofs.Falls.{fall_places, keep_none, least_first, keep_past}

straight_by : (m : List ℕ) (n t : ℕ) → length (list_from m t) ≤ n → t ≤ tr_count m → straight m t ≡ true → list_from m t ≡ interval t (length (list_from m t))
unfolding straight interval every
straight_by m zero zero b h e = rw (list_end_lem m 0 refl)
straight_by m (suc n) zero b h e = rw (list_end_lem m 0 refl)
straight_by m zero (suc t) b h e = let l = ap length (list_turn m (suc t) (λ z. omega arith) h) in absurd (omega arith)
straight_by m (suc n) (suc t) b h e =
    let l = list_turn m (suc t) (λ z. omega arith) h in
    let k = ap length l in
    let P : ℕ → Bool = λ u. eqb (next_of m u) 0 || eqb (next_of m u) (u + 1) in
    let e' : every P (suc t ∷ list_from m (next_of m (suc t))) ≡ true = subst (λ (r : List ℕ). every P r ≡ true) l e in
    let one = and_left (P (suc t)) (every P (list_from m (next_of m (suc t)))) e' in
    let rest = and_right (P (suc t)) (every P (list_from m (next_of m (suc t)))) e' in
    rw l (ap (λ (r : List ℕ). suc t ∷ r) (go (or_cases (eqb (next_of m (suc t)) 0) (eqb (next_of m (suc t)) (suc t + 1)) one) (straight_by m n (next_of m (suc t)) (omega (arith, k)) (link m (suc t)).inside rest)))
  where
    go : (eqb (next_of m (suc t)) 0 ≡ true) ⊎ (eqb (next_of m (suc t)) (suc t + 1) ≡ true) → list_from m (next_of m (suc t)) ≡ interval (next_of m (suc t)) (length (list_from m (next_of m (suc t))))
        → list_from m (next_of m (suc t)) ≡ interval (suc (suc t)) (length (list_from m (next_of m (suc t))))
    go (inl z) rec = rw (list_end_lem m (next_of m (suc t)) (eqb-true _ _ z))
    go (inr z) rec = let q : next_of m (suc t) ≡ suc (suc t) = eqb-true _ _ z ∙ omega arith in subst (λ (a : ℕ). list_from m (next_of m (suc t)) ≡ interval a (length (list_from m (next_of m (suc t))))) q rec

-- the list's records are consecutive
straight_interval : (m : List ℕ) (t : ℕ) → t ≤ tr_count m → straight m t ≡ true → list_from m t ≡ interval t (length (list_from m t))
straight_interval m t h e = straight_by m (length (list_from m t)) t (omega arith) h e

room_by : (m : List ℕ) (n t : ℕ) → length (list_from m t) ≤ n → t ≤ tr_count m → straight m t ≡ true → t + length (list_from m t) ≤ tr_count m + 1
unfolding straight every
room_by m zero zero b h e = omega (arith, ap length (list_end_lem m 0 refl))
room_by m (suc n) zero b h e = omega (arith, ap length (list_end_lem m 0 refl))
room_by m zero (suc t) b h e = let l = ap length (list_turn m (suc t) (λ z. omega arith) h) in absurd (omega arith)
room_by m (suc n) (suc t) b h e =
    let l = list_turn m (suc t) (λ z. omega arith) h in
    let k = ap length l in
    let P : ℕ → Bool = λ u. eqb (next_of m u) 0 || eqb (next_of m u) (u + 1) in
    let e' : every P (suc t ∷ list_from m (next_of m (suc t))) ≡ true = subst (λ (r : List ℕ). every P r ≡ true) l e in
    let one = and_left (P (suc t)) (every P (list_from m (next_of m (suc t)))) e' in
    let rest = and_right (P (suc t)) (every P (list_from m (next_of m (suc t)))) e' in
    go k (or_cases (eqb (next_of m (suc t)) 0) (eqb (next_of m (suc t)) (suc t + 1)) one) (room_by m n (next_of m (suc t)) (omega (arith, k)) (link m (suc t)).inside rest)
  where
    go : length (list_from m (suc t)) ≡ suc (length (list_from m (next_of m (suc t)))) → (eqb (next_of m (suc t)) 0 ≡ true) ⊎ (eqb (next_of m (suc t)) (suc t + 1) ≡ true)
        → next_of m (suc t) + length (list_from m (next_of m (suc t))) ≤ tr_count m + 1 → suc t + length (list_from m (suc t)) ≤ tr_count m + 1
    go k (inl z) rec = let q = ap length (list_end_lem m (next_of m (suc t)) (eqb-true _ _ z)) in omega (arith, k, q, h)
    go k (inr z) rec = let q = eqb-true (next_of m (suc t)) (suc t + 1) z in omega (arith, k, q, rec)

-- they end with the machine's records
pub straight_room : (m : List ℕ) (t : ℕ) → t ≤ tr_count m → straight m t ≡ true → t + length (list_from m t) ≤ tr_count m + 1
straight_room m t h e = room_by m (length (list_from m t)) t (omega arith) h e

-- the labels of consecutive records stand as many words apart as a record has
place_label : (on : MatchType) (m : List ℕ) (a i : ℕ) → 0 < a → label_at m (label_place on m a) i ≡ label_on on (machine_of m) (a + i)
unfolding label_place
place_label inputs m a i h = let z : record_base m + tr_words * a + 0 + tr_words * i ≡ record_base m + tr_words * (a + i) + 0 = omega arith in ap (λ (k : ℕ). get_or m k 0) z ∙ sym (tr_at_lem m (a + i) 0 (omega (arith, h)))
place_label outputs m a i h = let z : record_base m + tr_words * a + 1 + tr_words * i ≡ record_base m + tr_words * (a + i) + 1 = omega arith in ap (λ (k : ℕ). get_or m k 0) z ∙ sym (tr_at_lem m (a + i) 1 (omega (arith, h)))

-- the record of a place
place_number : (on : MatchType) (m : List ℕ) (a n r : ℕ) → r ≡ label_place on m a + tr_words * n → a + n ≡ (r - (record_base m + word_on on)) / tr_words
unfolding label_place
place_number inputs m a n r e = omega (arith, e)
place_number outputs m a n r e = omega (arith, e)

interval_at : (f : ℕ → ℕ) (a n i : ℕ) → i < n → get_or (map f (interval a n)) i 0 ≡ f (a + i)
unfolding interval
interval_at f a zero i h = absurd (omega arith)
interval_at f a (suc n) zero h = ap f (omega arith)
interval_at f a (suc n) (suc i) h = interval_at f (suc a) n i (omega arith) ∙ ap f (omega arith)

interval_get : (a n i : ℕ) → i < n → get_or (interval a n) i 0 ≡ a + i
unfolding interval
interval_get a zero i h = absurd (omega arith)
interval_get a (suc n) zero h = omega arith
interval_get a (suc n) (suc i) h = interval_get (suc a) n i (omega arith) ∙ omega arith

-- consecutive records whose labels do not fall
interval_falls : (f : ℕ → ℕ) (low a n : ℕ) → no_fall low (map f (interval a n)) ≡ true → (i j : ℕ) → i ≤ j → j < n → f (a + i) ≤ f (a + j)
interval_falls f low a n e i j h l =
    let p = fall_places low (map f (interval a n)) e i j h (omega (arith, length-map (interval a n) f, length_interval a n, l)) in
    omega (arith, p, interval_at f a n i (omega arith), interval_at f a n j l)

module _ (f : ℕ → ℕ) (x a n k : ℕ) (in-n : k ≤ n) (before : (i : ℕ) → i < k → f (a + i) < x) where
  -- the search came to the end
  found_none : n ≤ k → keep_if (λ u. eqb (f u) x) (interval a n) ≡ []
  unfolding keep_if interval
  found_none h = let z : n - k ≡ 0 = omega arith in keep_past f x k a n in-n before ∙ ap (λ (j : ℕ). keep_if (λ u. eqb (f u) x) (interval (a + k) j)) z

  -- it came to a larger label
  found_other : ((i : ℕ) → k ≤ i → i < n → x < f (a + i)) → keep_if (λ u. eqb (f u) x) (interval a n) ≡ []
  found_other h = keep_past f x k a n in-n before ∙ keep_none (λ u. eqb (f u) x) (interval (a + k) (n - k)) go
    where
      go : (u : ℕ) → In u (interval (a + k) (n - k)) → eqb (f u) x ≡ false
      go u i =
          let b = of_interval (a + k) (n - k) i in
          let z : a + (u - a) ≡ u = omega (arith, b.0) in
          let p = subst (λ (v : ℕ). x < f v) z (h (u - a) (omega (arith, b.0)) (omega (arith, b.0, b.1))) in
          ne_eqb (f u) x (λ e. omega (arith, e, p))

  -- it came to the label
  found_label : k < n → f (a + k) ≡ x → head0 (keep_if (λ u. eqb (f u) x) (interval a n)) ≡ a + k
  unfolding keep_if interval
  found_label h e =
      let z : n - k ≡ suc (n - k - 1) = omega arith in
      ap head0 (keep_past f x k a n in-n before) ∙ (ap (λ (j : ℕ). head0 (keep_if (λ u. eqb (f u) x) (interval (a + k) j))) z
      ∙ ap (λ (b : Bool). head0 (put_if b (a + k) (keep_if (λ u. eqb (f u) x) (interval (suc (a + k)) (n - k - 1))))) (eq-eqb (f (a + k)) x e))

-- a list of consecutive records in which no label falls, from record t on: `len` of them, the first `eps` are epsilons
module _ (on : MatchType) (m : List ℕ) (t : ℕ) (inside : t ≤ tr_count m) (row : straight m t ≡ true) (up : rising on m 0 t ≡ true) where
  abbrev len : ℕ
  len = length (list_from m t)

  abbrev label : ℕ → ℕ
  label u = label_on on (machine_of m) u

  listed : records_from m t ≡ interval t len
  listed = records_inside m t inside ∙ straight_interval m t inside row

  falls : no_fall 0 (map label (interval t len)) ≡ true
  unfolding rising
  falls = subst (λ (r : List ℕ). no_fall 0 (map label r) ≡ true) listed up

  kept : (x : ℕ) → with_label on m x t ≡ keep_if (λ u. eqb (label u) x) (interval t len)
  unfolding with_label
  kept x = ap (keep_if (λ u. eqb (label u) x)) listed

  -- where anything is listed, record t is there
  some_record : 0 < len → 0 < t
  some_record h = go t refl
    where
      go : (n : ℕ) → t ≡ n → 0 < t
      go zero e = absurd (omega (arith, h, ap length (list_end_lem m t e)))
      go (suc n) e = omega (arith, e)

  -- what `seek` requires
  pub straight_falls : (eps : ℕ) → eps ≤ len → NoFalls m (label_place on m (t + eps)) (len - eps)
  straight_falls eps h i j a b =
      let p = interval_falls label 0 t len falls (eps + i) (eps + j) (omega arith) (omega arith) in
      let y : label (t + (eps + i)) ≡ label (t + eps + i) = ap label (omega arith) in
      let z : label (t + (eps + j)) ≡ label (t + eps + j) = ap label (omega arith) in
      let r : 0 < t + eps = omega (arith, some_record (omega (arith, b))) in
      omega (arith, p, y, z, place_label on m (t + eps) i r, place_label on m (t + eps) j r)

  -- and where the machine has as many words as its counts say, the room
  pub straight_place : (eps : ℕ) → eps ≤ len → length m ≡ header_words + state_words * state_count m + tr_words * tr_count m → label_place on m (t + eps) + tr_words * (len - eps) < length m + tr_words
  unfolding label_place
  straight_place eps h size = go on
    where
      go : (on : MatchType) → record_base m + tr_words * (t + eps) + word_on on + tr_words * (len - eps) < length m + tr_words
      go inputs = let r = straight_room m t inside row in omega (arith, r, size, h)
      go outputs = let r = straight_room m t inside row in omega (arith, r, size, h)

  -- the first records are the epsilons
  pub eps_few : length (with_label on m 0 t) ≤ len
  eps_few = omega (arith, ap length (kept 0), keep_length (λ u. eqb (label u) 0) (interval t len), ap length (straight_interval m t inside row))

  eps_first : (i : ℕ) → i < length (with_label on m 0 t) → label (t + i) ≡ 0
  eps_first i h =
      let e = ap length (kept 0) in
      let q : i < length (keep_if (λ u. eqb (label u) 0) (interval t len)) = omega (arith, e, h) in
      ap label (sym (interval_get t len i (omega (arith, eps_few, h)))) ∙ least_first label 0 (interval t len) falls i q

  -- the search over the labels after the epsilons
  module _ (x r : ℕ) (some : 0 < x) (s : Sought m (label_place on m (t + length (with_label on m 0 t))) (len - length (with_label on m 0 t)) x r) where
    abbrev eps : ℕ
    eps = length (with_label on m 0 t)

    -- the number of records before the place that was found
    abbrev past : ℕ
    past = eps + s.number

    past_few : past ≤ len
    past_few = omega (arith, s.within, eps_few)

    label_at_lem : (i : ℕ) → eps ≤ i → i < len → label_at m (label_place on m (t + eps)) (i - eps) ≡ label (t + i)
    label_at_lem i h l = place_label on m (t + eps) (i - eps) (omega (arith, some_record (omega (arith, l)))) ∙ ap label (omega (arith, h))

    past_below : (i : ℕ) → i < past → label (t + i) < x
    past_below i h = go (dec_lt i eps)
      where
        go : Dec (i < eps) → label (t + i) < x
        go (yes l) = omega (arith, eps_first i l, some)
        go (no l) = let b = s.before (i - eps) (omega (arith, h, l)) in omega (arith, b, label_at_lem i (omega (arith, l)) (omega (arith, h, past_few)))

    rest_above : (i : ℕ) → past ≤ i → i < len → x ≤ label (t + i)
    rest_above i h l = let b = s.after (i - eps) (omega (arith, h)) (omega (arith, h, l)) in omega (arith, b, label_at_lem i (omega (arith, h)) l)

    word_at : past < len → get_or m r 0 ≡ label (t + past)
    word_at l = ap (λ (k : ℕ). get_or m k 0) s.place ∙ (place_label on m (t + eps) s.number (omega (arith, some_record (omega (arith, l)))) ∙ ap label (omega arith))

    -- the three ends of the search: past the last record; at another label; at the label
    pub find_end : r ≡ label_place on m (t + eps) + tr_words * (len - eps) → head0 (with_label on m x t) ≡ 0
    find_end e = ap head0 (kept x ∙ found_none label x t len past past_few past_below (omega (arith, s.place, s.within, eps_few, e)))

    pub find_other : (r ≡ label_place on m (t + eps) + tr_words * (len - eps) → ⊥) → (get_or m r 0 ≡ x → ⊥) → head0 (with_label on m x t) ≡ 0
    find_other e d =
        let l : past < len = omega (arith, s.place, s.within, eps_few, e) in
        let b : x < label (t + past) = omega (arith, rest_above past (omega arith) l, word_at l, d) in
        ap head0 (kept x ∙ found_other label x t len past past_few past_below (λ i h k. let q = interval_falls label 0 t len falls past i h k in omega (arith, q, b)))

    pub find_label : (r ≡ label_place on m (t + eps) + tr_words * (len - eps) → ⊥) → get_or m r 0 ≡ x → head0 (with_label on m x t) ≡ (r - (record_base m + word_on on)) / tr_words
    find_label e d =
        let l : past < len = omega (arith, s.place, s.within, eps_few, e) in
        ap head0 (kept x) ∙ (found_label label x t len past past_few past_below l (sym (word_at l) ∙ d) ∙ (omega arith ∙ place_number on m (t + eps) s.number r s.place))
