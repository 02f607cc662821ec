-- Each step on words is a step of the search without words.
use mathlib.Core.Path.{◌≡◌, refl, sym, ◌∙◌, ap, subst}
use mathlib.Core.Bool.{Bool, true, false}
use mathlib.Core.List.Memᴰ
use mathlib.Core.List.Memᴰ.{head as here}
use mathlib.Core.List.Memᴰ.{tail as there}
use mathlib.Core.List.{List, [], ◌∷◌, Memᴰ as In}
use mathlib.Core.Logic.{◌⊎◌, inl, inr, ⊎_elim}
use Prim.Native.Nat.{ℕ, suc, ◌<◌}
use native.Mathlib.Omega.{arith}
use native.Mathlib.Decide.{ℕ_discrete}
use lib.ListN.{length, length-map}
use Rattle.searches.proofs.Search.{Graph, flat, states, Fenced, Base}
use Rattle.searches.specs.UsefulSearch.{status_in, Links, Place, on_white, on_dead}
use Rattle.searches.proofs.Ties.{Cols, update, graph_of, Linked, Says, white, ending, unsettled, living, gone, Drawn, Tied}
use Rattle.searches.proofs.Steps.{on_path, enter, skip, skip_dead}
use Rattle.searches.proofs.Columns.{up_suc, update_same, update_other, put_entered}
use Rattle.searches.proofs.Ranks.{whites_enter}
use Rattle.graphs.proofs.Few.{few}
use Rattle.searches.proofs.Stacks.{frames_few, below_put, depth, opened_put, bounds_put}

pub says_by : (G : Graph) (dead alive op dead' alive' op' : List ℕ) (x v : ℕ)
    → (In x dead' ⊎ (In x alive' ⊎ In x op') → In x dead ⊎ (In x alive ⊎ In x op)) → (In x dead → In x dead') → (In x alive → In x alive') → (In x op → In x op')
    → Says G dead alive op x v → Says G dead' alive' op' x v
says_by G dead alive op dead' alive' op' x v h d a o (white e f n) = white e f (λ z. n (h z))
says_by G dead alive op dead' alive' op' x v h d a o (ending e f n) = ending e f (λ z. n (h z))
says_by G dead alive op dead' alive' op' x v h d a o (unsettled e i) = unsettled e (o i)
says_by G dead alive op dead' alive' op' x v h d a o (living e i) = living e (a i)
says_by G dead alive op dead' alive' op' x v h d a o (gone e i) = gone e (d i)

pub is_white : (G : Graph) (dead alive op : List ℕ) (x v : ℕ) → v ≡ 0 → Says G dead alive op x v → (G.final x ≡ false) × (In x dead ⊎ (In x alive ⊎ In x op) → ⊥)
is_white G dead alive op x v z (white e f n) = (f, n)
is_white G dead alive op x v z (ending e f n) = absurd (omega arith)
is_white G dead alive op x v z (unsettled e i) = absurd (omega arith)
is_white G dead alive op x v z (living e i) = absurd (omega arith)
is_white G dead alive op x v z (gone e i) = absurd (omega arith)

pub is_dead : (G : Graph) (dead alive op : List ℕ) (x v : ℕ) → v ≡ 3 → Says G dead alive op x v → In x dead
is_dead G dead alive op x v z (white e f n) = absurd (omega arith)
is_dead G dead alive op x v z (ending e f n) = absurd (omega arith)
is_dead G dead alive op x v z (unsettled e i) = absurd (omega arith)
is_dead G dead alive op x v z (living e i) = absurd (omega arith)
is_dead G dead alive op x v z (gone e i) = i

pub is_open : (G : Graph) (dead alive op : List ℕ) (x v : ℕ) → v ≡ 1 → Says G dead alive op x v → In x op
is_open G dead alive op x v z (white e f n) = absurd (omega arith)
is_open G dead alive op x v z (ending e f n) = absurd (omega arith)
is_open G dead alive op x v z (unsettled e i) = i
is_open G dead alive op x v z (living e i) = absurd (omega arith)
is_open G dead alive op x v z (gone e i) = absurd (omega arith)

pub is_alive_lem : (G : Graph) (dead alive op : List ℕ) (x v : ℕ) → v ≡ 2 → Says G dead alive op x v → In x alive
is_alive_lem G dead alive op x v z (white e f n) = absurd (omega arith)
is_alive_lem G dead alive op x v z (ending e f n) = absurd (omega arith)
is_alive_lem G dead alive op x v z (unsettled e i) = absurd (omega arith)
is_alive_lem G dead alive op x v z (living e i) = i
is_alive_lem G dead alive op x v z (gone e i) = absurd (omega arith)

pub is_ending : (G : Graph) (dead alive op : List ℕ) (x v : ℕ) → v ≡ 4 → Says G dead alive op x v → (G.final x ≡ true) × (In x dead ⊎ (In x alive ⊎ In x op) → ⊥)
is_ending G dead alive op x v z (white e f n) = absurd (omega arith)
is_ending G dead alive op x v z (ending e f n) = (f, n)
is_ending G dead alive op x v z (unsettled e i) = absurd (omega arith)
is_ending G dead alive op x v z (living e i) = absurd (omega arith)
is_ending G dead alive op x v z (gone e i) = absurd (omega arith)

pub unseen : (G : Graph) (dead alive op : List ℕ) (x v : ℕ) → (In x dead ⊎ (In x alive ⊎ In x op) → ⊥) → Says G dead alive op x v → (v ≡ 0) ⊎ (v ≡ 4)
unseen G dead alive op x v u (white e f n) = inl e
unseen G dead alive op x v u (ending e f n) = inr e
unseen G dead alive op x v u (unsettled e i) = absurd (u (inr (inr i)))
unseen G dead alive op x v u (living e i) = absurd (u (inr (inl i)))
unseen G dead alive op x v u (gone e i) = absurd (u (inl i))

-- there is no other status
pub is_one : (G : Graph) (dead alive op : List ℕ) (x v : ℕ) → Says G dead alive op x v → (v ≡ 0) ⊎ ((v ≡ 4) ⊎ ((v ≡ 1) ⊎ ((v ≡ 2) ⊎ (v ≡ 3))))
is_one G dead alive op x v (white e f n) = inl e
is_one G dead alive op x v (ending e f n) = inr (inl e)
is_one G dead alive op x v (unsettled e i) = inr (inr (inl e))
is_one G dead alive op x v (living e i) = inr (inr (inr (inl e)))
is_one G dead alive op x v (gone e i) = inr (inr (inr (inr e)))

-- the record in hand is the state's own, and the path shows it
module _ (L : Links) (from : ℕ → List ℕ) (fin : ℕ → Bool) (n : ℕ) {m : ℕ} (K : Linked L from n) (w : List ℕ) (p : Place) (h : Drawn L from fin n m w p) where
  pub hand : 0 < p.r → In p.r (from (L.first p.s))
  hand pos = h.ties.own (p.s, from p.r) (here refl) p.r (subst (λ l. In p.r l) (sym (K.some p.r pos)) (here refl))

  pub shown : 0 < p.r → Base (graph_of L from fin) (record { dead = h.dead; alive = h.alive; frames = h.frames; path = (p.s, p.r ∷ from (L.next p.r)) ∷ h.below })
  shown pos = subst (λ l. Base (graph_of L from fin) (record { dead = h.dead; alive = h.alive; frames = h.frames; path = (p.s, l) ∷ h.below })) (K.some p.r pos) h.ties.base

  pub own_rest : 0 < p.r → (e : ℕ × List ℕ) → In e ((p.s, from (L.next p.r)) ∷ h.below) → (q : ℕ) → In q e.1 → In q (from (L.first e.0))
  own_rest pos e i q j = ⊎_elim
      (λ z. subst (λ y. In q (from (L.first y.0))) (sym z) (h.ties.own (p.s, from p.r) (here refl) q
      (subst (λ l. In q l) (sym (K.some p.r pos)) (there (subst (λ y. In q y.1) z j)))))
      (λ k. h.ties.own e (there k) q j)
      (Memᴰ.cases_cons i)

  pub path_seen : (x : ℕ) → In x (p.s ∷ states h.below) → In x h.dead ⊎ (In x h.alive ⊎ In x (flat h.frames))
  path_seen x i = inr (on_path h.alive (p.s ∷ states h.below) h.frames h.ties.base.along x i)

  pub deep : p.d < n
  deep =
      let a = few n (p.s ∷ states h.below) h.ties.base.once_path (λ x i. h.ties.within x (path_seen x i)) in
      let b = depth L from h.cols.cursor p.d p.s h.below h.down in
      omega (arith, a, b, length-map h.below (λ e. e.0))

-- the record in hand is done
pub skipped : (L : Links) (from : ℕ → List ℕ) (fin : ℕ → Bool) (n : ℕ) {m : ℕ} → Linked L from n → (w : List ℕ) (p : Place) → 0 < p.r → (h : Drawn L from fin n (suc m) w p)
    → In (L.target p.r) h.dead ⊎ (In (L.target p.r) h.alive ⊎ In (L.target p.r) (flat h.frames))
    → Fenced (graph_of L from fin) h.dead ((p.s, from (L.next p.r)) ∷ h.below) [] h.frames → ((x : ℕ) → In x (flat h.frames) → fin x ≡ false)
    → Tied L from fin n m w (record { d = p.d; s = p.s; r = L.next p.r; o = p.o; b = p.b })
skipped L from fin n {m} K w p pos h seen fence calm = record {
  drawn = record {
    cols = h.cols;
    dead = h.dead;
    alive = h.alive;
    frames = h.frames;
    below = h.below;
    held = h.held;
    ties = record {
      base = skip (graph_of L from fin) h.dead h.alive h.frames p.s p.r (from (L.next p.r)) h.below seen fence (shown L from fin n K w p h pos);
      within = h.ties.within;
      own = own_rest L from fin n K w p h pos;
      opened = h.ties.opened;
      count = h.ties.count;
      cuts = h.ties.cuts;
      parts = h.ties.parts;
      lit = h.ties.lit;
      marks = h.ties.marks;
    };
    rank = let z = h.rank in let y = ap length (K.some p.r pos) in omega (arith, z, y);
    down = h.down;
  };
  calm = calm;
}

-- a record to a dead state
pub dead_tied : (L : Links) (from : ℕ → List ℕ) (fin : ℕ → Bool) (n : ℕ) {m : ℕ} → Linked L from n → (w : List ℕ) (p : Place) → 0 < p.r → status_in w (L.target p.r) ≡ 3
    → Tied L from fin n (suc m) w p → Tied L from fin n m (on_dead L w p).work (on_dead L w p).at
unfolding on_dead
dead_tied L from fin n {m} K w p pos e t =
    let h : Drawn L from fin n (suc m) w p = t.drawn in
    let bound : L.target p.r < n = K.target_below p.s p.r (hand L from fin n K w p h pos) in
    let dead : In (L.target p.r) h.dead = is_dead (graph_of L from fin) h.dead h.alive (flat h.frames) _ _ (sym (h.held.statuses _ bound) ∙ e) (h.ties.marks _ bound) in
    skipped L from fin n K w p pos h (inl dead)
    (skip_dead (graph_of L from fin) h.dead h.frames p.s p.r (from (L.next p.r)) h.below dead (shown L from fin n K w p h pos).fenced) t.calm

-- entering a state not seen before
pub entered : (L : Links) (from : ℕ → List ℕ) (fin : ℕ → Bool) (n : ℕ) {m : ℕ} → Linked L from n → (w : List ℕ) (p : Place) → 0 < p.r → (h : Drawn L from fin n (suc m) w p)
    → (In (L.target p.r) h.dead ⊎ (In (L.target p.r) h.alive ⊎ In (L.target p.r) (flat h.frames)) → ⊥)
    → (g : Drawn L from fin n m (on_white L w p).work (on_white L w p).at) × (flat g.frames ≡ L.target p.r ∷ flat h.frames)
unfolding on_white
entered L from fin n {m} K w p pos h is = (
  record {
    cols = record { cursor = update a.cursor p.d p.r; opens = update a.opens p.o t; status = update a.status t 1; place = update a.place t p.o; bound = update a.bound p.b p.o };
    dead = h.dead;
    alive = h.alive;
    frames = (t ∷ []) ∷ h.frames;
    below = (p.s, from (L.next p.r)) ∷ h.below;
    held = put_entered n w a p.d p.r t p.o p.b (deep L from fin n K w p h) (K.record_below p.s p.r own_r) t_below o_below b_below K.small h.held;
    ties = record {
      base = enter (graph_of L from fin) h.dead h.alive h.frames p.s p.r (from (L.next p.r)) h.below own_r is (shown L from fin n K w p h pos);
      within = λ x i. ⊎_elim (λ z. subst (λ y. y < n) (sym z) t_below) (λ j. h.ties.within x j) (seen x i);
      own = λ y i q j. ⊎_elim (λ z. subst (λ u. In q (from (L.first u.0))) (sym z) (subst (λ u. In q u.1) z j)) (λ k. own_rest L from fin n K w p h pos y k q j) (Memᴰ.cases_cons i);
      opened = (
        update_same a.opens p.o t _ (sym h.ties.count),
        update_same a.place t p.o t refl ∙ h.ties.count,
        opened_put a.opens a.place p.o t t p.o (flat h.frames) (omega (arith, h.ties.count)) (λ i. is (inr (inr i))) h.ties.opened,
      );
      count = up_suc p.o (omega (arith, o_below, K.small)) ∙ ap suc h.ties.count;
      cuts = (update_same a.bound p.b p.o _ (sym h.ties.parts) ∙ h.ties.count, bounds_put a.bound p.b p.o h.frames (omega (arith, h.ties.parts)) h.ties.cuts);
      parts = up_suc p.b (omega (arith, b_below, K.small)) ∙ ap suc h.ties.parts;
      lit = λ x i. ⊎_elim (λ z. update_same a.status t 1 x z) (λ j. update_other a.status t 1 x (λ z. is (inr (inr (Memᴰ.cast (sym z) j)))) ∙ h.ties.lit x j) (Memᴰ.cases_cons i);
      marks = λ x l. mark x l (ℕ_discrete x t);
    };
    rank = let z = h.rank in let y = ap length (K.some p.r pos) in let u = whites_enter (λ x. length (from (L.first x))) a.status t n t_below new in omega (arith, z, y, u);
    down = (
      p.d,
      up_suc p.d (let z = deep L from fin n K w p h in omega (arith, z, K.small)),
      ap L.target (sym (update_same a.cursor p.d p.r p.d refl)),
      ap (λ z. from (L.next z)) (sym (update_same a.cursor p.d p.r p.d refl)),
      below_put L from a.cursor p.d p.s p.d p.r h.below (omega arith) h.down,
    );
  },
  refl,
)
  where
    a : Cols
    a = h.cols

    t : ℕ
    t = L.target p.r

    own_r : In p.r (from (L.first p.s))
    own_r = hand L from fin n K w p h pos

    t_below : t < n
    t_below = K.target_below p.s p.r own_r

    new : (a.status t ≡ 0) ⊎ (a.status t ≡ 4)
    new = unseen (graph_of L from fin) h.dead h.alive (flat h.frames) t (a.status t) is (h.ties.marks t t_below)

    seen : (x : ℕ) → In x h.dead ⊎ (In x h.alive ⊎ In x (t ∷ flat h.frames)) → (x ≡ t) ⊎ (In x h.dead ⊎ (In x h.alive ⊎ In x (flat h.frames)))
    seen x (inl z) = inr (inl z)
    seen x (inr (inl z)) = inr (inr (inl z))
    seen x (inr (inr z)) = ⊎_elim inl (λ j. inr (inr (inr j))) (Memᴰ.cases_cons z)

    o_below : p.o < n
    o_below =
        let z = few n (t ∷ flat h.frames) (λ j. is (inr (inr j)), h.ties.base.once)
        (λ x i. ⊎_elim (λ y. subst (λ u. u < n) (sym y) t_below) (λ j. h.ties.within x (inr (inr j))) (Memᴰ.cases_cons i)) in
        omega (arith, z, h.ties.count)

    b_below : p.b < n
    b_below = let z = frames_few h.alive (p.s ∷ states h.below) h.frames h.ties.base.along in omega (arith, z, o_below, h.ties.count, h.ties.parts)

    mark : (x : ℕ) → x < n → Dec (x ≡ t) → Says (graph_of L from fin) h.dead h.alive (t ∷ flat h.frames) x (update a.status t 1 x)
    mark x l (yes z) = unsettled (update_same a.status t 1 x z) (here z)
    mark x l (no z) = subst (λ v. Says (graph_of L from fin) h.dead h.alive (t ∷ flat h.frames) x v) (sym (update_other a.status t 1 x z))
        (says_by (graph_of L from fin) h.dead h.alive (flat h.frames) h.dead h.alive (t ∷ flat h.frames) x (a.status x)
        (λ y. ⊎_elim (λ q. absurd (z q)) (λ q. q) (seen x y)) (λ i. i) (λ i. i) there (h.ties.marks x l))

pub white_tied : (L : Links) (from : ℕ → List ℕ) (fin : ℕ → Bool) (n : ℕ) {m : ℕ} → Linked L from n → (w : List ℕ) (p : Place) → 0 < p.r → status_in w (L.target p.r) ≡ 0
    → Tied L from fin n (suc m) w p → Tied L from fin n m (on_white L w p).work (on_white L w p).at
white_tied L from fin n {m} K w p pos e k = record {
  drawn = g.0;
  calm = λ x i. ⊎_elim (λ z. subst (λ y. fin y ≡ false) (sym z) is.0) (λ j. k.calm x j) (Memᴰ.cases_cons (subst (λ l. In x l) g.1 i));
}
  where
    h : Drawn L from fin n (suc m) w p
    h = k.drawn

    t : ℕ
    t = L.target p.r

    t_below : t < n
    t_below = K.target_below p.s p.r (hand L from fin n K w p h pos)

    is : (fin t ≡ false) × (In t h.dead ⊎ (In t h.alive ⊎ In t (flat h.frames)) → ⊥)
    is = is_white (graph_of L from fin) h.dead h.alive (flat h.frames) t (h.cols.status t) (sym (h.held.statuses t t_below) ∙ e) (h.ties.marks t t_below)

    g : (g : Drawn L from fin n m (on_white L w p).work (on_white L w p).at) × (flat g.frames ≡ L.target p.r ∷ flat h.frames)
    g = entered L from fin n K w p pos h is.1
