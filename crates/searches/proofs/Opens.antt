-- A record to an open state merges frames; a record to an alive or final state enlivens all open ones.
use mathlib.Core.Path.{◌≡◌, refl, sym, ◌∙◌, ap, subst}
use mathlib.Core.Bool.{Bool, true, false}
use mathlib.Core.List.Memᴰ
use mathlib.Core.List.Memᴰ.{head as here}
use mathlib.Core.List.{List, [], ◌∷◌, ◌++◌, append_assoc, append-nil, Memᴰ as In}
use mathlib.Core.Logic.{◌⊎◌, inl, inr, ⊎_elim}
use Prim.Native.Nat.{ℕ, suc, ◌+◌, ◌≤◌, ◌<◌}
use native.Mathlib.Omega.{arith}
use native.Mathlib.Decide.{ℕ_discrete}
use lib.ListN.{length}
use borrow.Author.Tests.{le-leb, lt-leb, eq-eqb, ne_eqb}
use Rattle.searches.proofs.Search.{Graph, stay, go, Ends, flat, states, Along, Fenced}
use Rattle.searches.specs.WorkWords.{up}
use Rattle.searches.specs.UsefulSearch.{status_in, place_in, bound_in, Links, Place, on_white, on_final, on_open, on_alive, on_dead, merged_to, settled_of}
use Rattle.searches.proofs.Ties.{Cols, Held, graph_of, Linked, Opened, Says, living, Ties, Drawn, Tied, settled}
use Rattle.searches.proofs.Steps.{top_open, merge, skip_open, enliven}
use Rattle.searches.proofs.Columns.{put_settled}
use Rattle.searches.proofs.Ranks.{fresh_none, whites_less}
use Rattle.graphs.proofs.Few.{seek, few}
use Rattle.searches.proofs.Stacks.{frames_few, opened_tail, opened_at, opened_front, opened_range, settled_in, settled_out}
use Rattle.searches.proofs.Kept.{says_by, is_open, is_alive_lem, is_ending, hand, path_seen, skipped, entered}

-- one turn of the loop
merge_stop : (w : List ℕ) (q m : ℕ) → bound_in w m ≤ q → merged_to w q (suc m) ≡ suc m
unfolding merged_to
merge_stop w q m h = rw (le-leb _ _ h) refl

merge_turn : (w : List ℕ) (q m : ℕ) → q < bound_in w m → merged_to w q (suc m) ≡ merged_to w q m
unfolding merged_to
merge_turn w q m h = rw (lt-leb _ _ h) refl

-- one merge
merge_ties : (G : Graph) (n : ℕ) (a : Cols) (o : ℕ) (dead alive f g : List ℕ) (fs : List (List ℕ)) (s r : ℕ) (rest : List ℕ) (p : List (ℕ × List ℕ))
    → In r (G.list s) → In (G.target r) (g ++ flat fs)
    → Ties G n a o (suc (suc (length fs))) (record { dead = dead; alive = alive; frames = f ∷ g ∷ fs; path = (s, r ∷ rest) ∷ p })
    → Ties G n a o (suc (length fs)) (record { dead = dead; alive = alive; frames = (f ++ g) ∷ fs; path = (s, r ∷ rest) ∷ p })
merge_ties G n a o dead alive f g fs s r rest p i j h = record {
  base = merge G dead alive f g fs s r rest p i j h.base;
  within = λ x y. h.within x (subst (λ (l : List ℕ). In x dead ⊎ (In x alive ⊎ In x l)) same y);
  own = h.own;
  opened = subst (λ (l : List ℕ). Opened a.opens a.place l) (sym same) h.opened;
  count = h.count ∙ ap length (sym same);
  cuts = h.cuts.1;
  parts = refl;
  lit = λ x y. h.lit x (subst (λ (l : List ℕ). In x l) same y);
  marks = λ x l. subst (λ (l : List ℕ). Says G dead alive l x (a.status x)) (sym same) (h.marks x l);
}
  where
    same : (f ++ g) ++ flat fs ≡ f ++ (g ++ flat fs)
    same = append_assoc f g (flat fs)

-- the loop ends with the target in the newest frame
module _ (G : Graph) (n : ℕ) (w : List ℕ) (a : Cols) (k : Held n w a) (o : ℕ) (dead alive : List ℕ) (s r : ℕ) (rest : List ℕ) (p : List (ℕ × List ℕ)) (i : In r (G.list s)) where
  abbrev At : ℕ → List (List ℕ) → Type 0
  At b frames = Ties G n a o b (record { dead = dead; alive = alive; frames = frames; path = (s, r ∷ rest) ∷ p })

  abbrev Merged : List (List ℕ) → List ℕ → Type 0
  Merged fs f = (f' : List ℕ) × (fs' : List (List ℕ)) × At (merged_to w (place_in w (G.target r)) (suc (length fs))) (f' ∷ fs') × In (G.target r) f' × (f' ++ flat fs' ≡ f ++ flat fs)

  place_is : (fs : List (List ℕ)) (f : List ℕ) → At (suc (length fs)) (f ∷ fs) → In (G.target r) (f ++ flat fs) → place_in w (G.target r) ≡ a.place (G.target r)
  place_is fs f h j = k.places (G.target r) (h.within (G.target r) (inr (inr j)))

  bound_is : (fs : List (List ℕ)) (f : List ℕ) → At (suc (length fs)) (f ∷ fs) → bound_in w (length fs) ≡ length (flat fs)
  bound_is fs f h =
      let x = few n (f ++ flat fs) h.base.once (λ x j. h.within x (inr (inr j))) in
      let y = frames_few alive (s ∷ states p) (f ∷ fs) h.base.along in
      k.bounds (length fs) (omega (arith, x, y)) ∙ h.cuts.0

  stops : (fs : List (List ℕ)) (f : List ℕ) → At (suc (length fs)) (f ∷ fs) → In (G.target r) f → Merged fs f
  stops fs f h j =
      let x = opened_front a.opens a.place f (flat fs) h.opened (G.target r) j in
      let y = place_is fs f h (Memᴰ.append_left (flat fs) j) in
      let z = bound_is fs f h in
      let e : merged_to w (place_in w (G.target r)) (suc (length fs)) ≡ suc (length fs) = merge_stop w (place_in w (G.target r)) (length fs) (omega (arith, x, y, z)) in
      (f, fs, subst (λ b. At b (f ∷ fs)) (sym e) h, j, refl)

  turns : (fs : List (List ℕ)) (f g : List ℕ) → At (suc (suc (length fs))) (f ∷ g ∷ fs) → In (G.target r) (g ++ flat fs) → Merged fs (f ++ g) → Merged (g ∷ fs) f
  turns fs f g h j (f', fs', t, u, v) =
      let x = (opened_at a.opens a.place (g ++ flat fs) (opened_tail a.opens a.place f (g ++ flat fs) h.opened) (G.target r) j).1 in
      let y = place_is (g ∷ fs) f h (Memᴰ.append_right f j) in
      let z = bound_is (g ∷ fs) f h in
      let e : merged_to w (place_in w (G.target r)) (suc (suc (length fs))) ≡ merged_to w (place_in w (G.target r)) (suc (length fs)) = merge_turn w (place_in w (G.target r)) (suc (length fs)) (omega (arith, x, y, z)) in
      (f', fs', subst (λ b. At b (f' ∷ fs')) (sym e) t, u, v ∙ append_assoc f g (flat fs))

  pub merged : (fs : List (List ℕ)) (f : List ℕ) → At (suc (length fs)) (f ∷ fs) → In (G.target r) (f ++ flat fs) → Merged fs f
  merged [] f h j = ⊎_elim (λ u. stops [] f h u) (λ u. absurd (Memᴰ.not-nil u)) (Memᴰ.append_cases f j)
  merged (g ∷ fs) f h j = ⊎_elim
      (λ u. stops (g ∷ fs) f h u)
      (λ u. turns fs f g h u (merged fs (f ++ g) (merge_ties G n a o dead alive f g fs s r rest p i u h) (subst (λ (l : List ℕ). In (G.target r) l) (sym (append_assoc f g (flat fs))) j)))
      (Memᴰ.append_cases f j)

-- a record to an open state
pub open_tied : (L : Links) (from : ℕ → List ℕ) (fin : ℕ → Bool) (n : ℕ) {m : ℕ} → Linked L from n → (w : List ℕ) (p : Place) → 0 < p.r → status_in w (L.target p.r) ≡ 1
    → Tied L from fin n (suc m) w p → Tied L from fin n m (on_open L w p).work (on_open L w p).at
unfolding on_open
open_tied L from fin n {m} K w p pos e k = start h.frames h.ties k.calm
    (is_open (graph_of L from fin) h.dead h.alive (flat h.frames) t (h.cols.status t) (sym (h.held.statuses t t_below) ∙ e) (h.ties.marks t t_below))
  where
    h : Drawn L from fin n (suc m) w p
    h = k.drawn

    t : ℕ
    t = L.target p.r

    rest : List ℕ
    rest = from (L.next p.r)

    own_r : In p.r (from (L.first p.s))
    own_r = hand L from fin n K w p h pos

    t_below : t < n
    t_below = K.target_below p.s p.r own_r

    finish : (b : ℕ) (f : List ℕ) (fs : List (List ℕ)) → Ties (graph_of L from fin) n h.cols p.o b (record { dead = h.dead; alive = h.alive; frames = f ∷ fs; path = (p.s, p.r ∷ rest) ∷ h.below })
        → In t f → ((x : ℕ) → In x (f ++ flat fs) → fin x ≡ false) → Tied L from fin n m w (record { d = p.d; s = p.s; r = L.next p.r; o = p.o; b = b })
    finish b f fs u j calm = skipped L from fin n K w (record { d = p.d; s = p.s; r = p.r; o = p.o; b = b }) pos
        (record {
          cols = h.cols;
          dead = h.dead;
          alive = h.alive;
          frames = f ∷ fs;
          below = h.below;
          held = h.held;
          rank = h.rank;
          down = h.down;
          ties = subst (λ (l : List ℕ). Ties (graph_of L from fin) n h.cols p.o b (record { dead = h.dead; alive = h.alive; frames = f ∷ fs; path = (p.s, l) ∷ h.below })) (sym (K.some p.r pos)) u;
        })
        (inr (inr (Memᴰ.append_left (flat fs) j))) (skip_open (graph_of L from fin) h.dead f fs p.s p.r rest h.below j u.base.fenced) calm

    start : (fs : List (List ℕ)) → Ties (graph_of L from fin) n h.cols p.o p.b (record { dead = h.dead; alive = h.alive; frames = fs; path = (p.s, from p.r) ∷ h.below })
        → ((x : ℕ) → In x (flat fs) → fin x ≡ false) → In t (flat fs)
        → Tied L from fin n m w (record { d = p.d; s = p.s; r = L.next p.r; o = p.o; b = merged_to w (place_in w t) p.b })
    start [] u calm j = absurd (Memᴰ.not-nil j)
    start (f ∷ fs) u calm j =
        let z = merged (graph_of L from fin) n w h.cols h.held p.o h.dead h.alive p.s p.r rest h.below own_r fs f
        (subst (λ (l : List ℕ). Ties (graph_of L from fin) n h.cols p.o (suc (length fs)) (record { dead = h.dead; alive = h.alive; frames = f ∷ fs; path = (p.s, l) ∷ h.below })) (K.some p.r pos)
        (subst (λ b. Ties (graph_of L from fin) n h.cols p.o b (record { dead = h.dead; alive = h.alive; frames = f ∷ fs; path = (p.s, from p.r) ∷ h.below })) u.parts u)) j in
        subst (λ b. Tied L from fin n m w (record { d = p.d; s = p.s; r = L.next p.r; o = p.o; b = merged_to w (place_in w t) b })) (sym u.parts)
        (finish (merged_to w (place_in w t) (suc (length fs))) z.0 z.1 z.2 z.3 (λ x i. calm x (subst (λ (l : List ℕ). In x l) z.4 i)))

-- the state on top reaches an end: all open states are alive
pub enlivened : (L : Links) (from : ℕ → List ℕ) (fin : ℕ → Bool) (n : ℕ) {m : ℕ} (w : List ℕ) (p : Place) (h : Drawn L from fin n m w p) → Ends (graph_of L from fin) p.s
    → (g : Drawn L from fin n m (settled_of w 2 0 p.o) (record { d = p.d; s = p.s; r = p.r; o = 0; b = 0 })) × (g.frames ≡ []) × (g.alive ≡ flat h.frames ++ h.alive)
enlivened L from fin n w p h e = (
  record {
    cols = record { cursor = a.cursor; opens = a.opens; status = settled a.status a.opens 2 0 p.o; place = a.place; bound = a.bound };
    dead = h.dead;
    alive = f ++ h.alive;
    frames = [];
    below = h.below;
    held = put_settled n w a 2 0 p.o (omega (arith, all, h.ties.count)) (λ j x y. h.ties.within (a.opens j) (inr (inr (opened_range a.opens a.place f [] all_open j (omega arith) (omega (arith, size)))))) h.held;
    ties = record {
      base = enliven (graph_of L from fin) h.dead h.alive h.frames p.s (from p.r) h.below e h.ties.base;
      within = λ x i. h.ties.within x (again x i);
      own = h.ties.own;
      opened = tt;
      count = refl;
      cuts = tt;
      parts = refl;
      lit = λ x i. absurd (Memᴰ.not-nil i);
      marks = λ x l. mark x l (seek x f);
    };
    rank =
        let z = whites_less (λ x. length (from (L.first x))) a.status (settled a.status a.opens 2 0 p.o) n (λ x l. ⊎_elim
        (λ i. inr (fresh_none _ _ (λ y. let v = two x i in omega (arith, v, y)) (λ y. let v = two x i in omega (arith, v, y))))
        (λ u. inl (settled_out a.status a.opens a.place f [] all_open 2 0 p.o refl size x u)) (seek x f)) in
        let y = h.rank in
        omega (arith, z, y);
    down = h.down;
  },
  refl,
  refl,
)
  where
    a : Cols
    a = h.cols

    f : List ℕ
    f = flat h.frames

    all_open : Opened a.opens a.place (f ++ [])
    all_open = subst (λ (l : List ℕ). Opened a.opens a.place l) (sym (append-nil f)) h.ties.opened

    all : length f ≤ n
    all = few n f h.ties.base.once (λ x i. h.ties.within x (inr (inr i)))

    size : 0 + p.o ≡ length (f ++ [])
    size = omega (arith, h.ties.count, ap length (append-nil f))

    two : (x : ℕ) → In x f → settled a.status a.opens 2 0 p.o x ≡ 2
    two x i = settled_in a.status a.opens a.place f [] all_open 2 0 p.o refl size x i

    again : (x : ℕ) → In x h.dead ⊎ (In x (f ++ h.alive) ⊎ In x []) → In x h.dead ⊎ (In x h.alive ⊎ In x f)
    again x (inl z) = inl z
    again x (inr (inl z)) = ⊎_elim (λ y. inr (inr y)) (λ y. inr (inl y)) (Memᴰ.append_cases f z)
    again x (inr (inr z)) = absurd (Memᴰ.not-nil z)

    mark : (x : ℕ) → x < n → In x f ⊎ (In x f → ⊥) → Says (graph_of L from fin) h.dead (f ++ h.alive) [] x (settled a.status a.opens 2 0 p.o x)
    mark x l (inl i) = living (two x i) (Memᴰ.append_left h.alive i)
    mark x l (inr u) = subst (λ v. Says (graph_of L from fin) h.dead (f ++ h.alive) [] x v) (sym (settled_out a.status a.opens a.place f [] all_open 2 0 p.o refl size x u))
        (says_by (graph_of L from fin) h.dead h.alive f h.dead (f ++ h.alive) [] x (a.status x) (again x) (λ i. i) (λ i. Memᴰ.append_right f i) (λ i. absurd (u i)) (h.ties.marks x l))

-- a record to an alive state, where no state is open
alive_skipped : (L : Links) (from : ℕ → List ℕ) (fin : ℕ → Bool) (n : ℕ) {m : ℕ} → Linked L from n → (w : List ℕ) (p : Place) → 0 < p.r → (h : Drawn L from fin n (suc m) w p) → h.frames ≡ [] → In (L.target p.r) h.alive
    → Tied L from fin n m w (record { d = p.d; s = p.s; r = L.next p.r; o = p.o; b = p.b })
alive_skipped L from fin n K w p pos h e i = skipped L from fin n K w p pos h (inr (inl i))
    (subst (λ (fs : List (List ℕ)). Fenced (graph_of L from fin) h.dead ((p.s, from (L.next p.r)) ∷ h.below) [] fs) (sym e) tt)
    (λ x j. absurd (Memᴰ.not-nil (subst (λ (fs : List (List ℕ)). In x (flat fs)) e j)))

none_open : (L : Links) (from : ℕ → List ℕ) (fin : ℕ → Bool) (n : ℕ) {m : ℕ} → Linked L from n → (w : List ℕ) (p : Place) (h : Drawn L from fin n m w p) → (status_in w p.s ≡ 1 → ⊥) → h.frames ≡ []
none_open L from fin n K w p h u = go' h.frames h.ties.base.along h.ties.lit
  where
    s_below : p.s < n
    s_below = h.ties.within p.s (path_seen L from fin n K w p h p.s (here refl))

    go' : (fs : List (List ℕ)) → Along h.alive (p.s ∷ states h.below) fs → ((x : ℕ) → In x (flat fs) → h.cols.status x ≡ 1) → fs ≡ []
    go' [] a l = refl
    go' (f ∷ fs) a l = absurd (u (h.held.statuses p.s s_below ∙ l p.s (Memᴰ.append_left (flat fs) (top_open h.alive p.s (states h.below) f fs a))))

-- a record to an alive state
pub alive_tied : (L : Links) (from : ℕ → List ℕ) (fin : ℕ → Bool) (n : ℕ) {m : ℕ} → Linked L from n → (w : List ℕ) (p : Place) → 0 < p.r → status_in w (L.target p.r) ≡ 2
    → Tied L from fin n (suc m) w p → Tied L from fin n m (on_alive L w p).work (on_alive L w p).at
unfolding on_alive on_dead
alive_tied L from fin n {m} K w p pos e k = choose (ℕ_discrete (status_in w p.s) 1)
  where
    h : Drawn L from fin n (suc m) w p
    h = k.drawn

    t : ℕ
    t = L.target p.r

    own_r : In p.r (from (L.first p.s))
    own_r = hand L from fin n K w p h pos

    t_below : t < n
    t_below = K.target_below p.s p.r own_r

    is : In t h.alive
    is = is_alive_lem (graph_of L from fin) h.dead h.alive (flat h.frames) t (h.cols.status t) (sym (h.held.statuses t t_below) ∙ e) (h.ties.marks t t_below)

    ends : Ends (graph_of L from fin) p.s
    ends = let z = h.ties.base.alive_ends t is in (z.0, go p.s p.r z.0 own_r z.1, z.2)

    choose : Dec (status_in w p.s ≡ 1) → Tied L from fin n m (on_alive L w p).work (on_alive L w p).at
    choose (yes u) =
        let g = enlivened L from fin n w p h ends in
        rw (eq-eqb (status_in w p.s) 1 u)
        (alive_skipped L from fin n K (settled_of w 2 0 p.o) (record { d = p.d; s = p.s; r = p.r; o = 0; b = 0 }) pos g.0 g.1
        (subst (λ (l : List ℕ). In t l) (sym g.2) (Memᴰ.append_right (flat h.frames) is)))
    choose (no u) = rw (ne_eqb (status_in w p.s) 1 u) (alive_skipped L from fin n K w p pos h (none_open L from fin n K w p h u) is)

-- a record to a state not seen before, and final
pub final_tied : (L : Links) (from : ℕ → List ℕ) (fin : ℕ → Bool) (n : ℕ) {m : ℕ} → Linked L from n → (w : List ℕ) (p : Place) → 0 < p.r → status_in w (L.target p.r) ≡ 4
    → Tied L from fin n (suc m) w p → Tied L from fin n m (on_final L w p).work (on_final L w p).at
unfolding on_final on_white
final_tied L from fin n {m} K w p pos e k = record {
  drawn = g.0;
  calm = λ x j. absurd (Memᴰ.not-nil (subst (λ (fs : List (List ℕ)). In x (flat fs)) g.1 j));
}
  where
    h : Drawn L from fin n (suc m) w p
    h = k.drawn

    t : ℕ
    t = L.target p.r

    t_below : t < n
    t_below = K.target_below p.s p.r (hand L from fin n K w p h pos)

    is : (fin t ≡ true) × (In t h.dead ⊎ (In t h.alive ⊎ In t (flat h.frames)) → ⊥)
    is = is_ending (graph_of L from fin) h.dead h.alive (flat h.frames) t (h.cols.status t) (sym (h.held.statuses t t_below) ∙ e) (h.ties.marks t t_below)

    i : Drawn L from fin n m (on_white L w p).work (on_white L w p).at
    i = (entered L from fin n K w p pos h is.1).0

    g : (g : Drawn L from fin n m (settled_of (on_white L w p).work 2 0 (up p.o)) (record { d = up p.d; s = t; r = L.first t; o = 0; b = 0 })) × (g.frames ≡ []) × (g.alive ≡ flat i.frames ++ i.alive)
    g = enlivened L from fin n (on_white L w p).work (on_white L w p).at i (t, stay t t refl, is.0)
