-- Leaving a finished state: its frame dies, or it goes alone; then one step back.
use mathlib.Core.Path.{◌≡◌, refl, sym, ◌∙◌, ap, subst}
use mathlib.Core.Bool.{Bool, false}
use mathlib.Core.List.Memᴰ
use mathlib.Core.List.Memᴰ.{head as here}
use mathlib.Core.List.Memᴰ.{tail as there}
use mathlib.Core.List.{List, [], ◌∷◌, ◌++◌, append_assoc, Memᴰ as In}
use mathlib.Core.Logic.{◌⊎◌, inl, inr, ⊎_elim}
use Prim.Native.Nat.{ℕ, suc, ◌+◌, ◌-◌, ◌≤◌, ◌<◌}
use native.Mathlib.Omega.{arith}
use lib.ListN.{length, length-append, length-map}
use Rattle.searches.proofs.Search.{Graph, flat, states, Along, Base}
use Rattle.searches.specs.UsefulSearch.{status_in, place_in, bound_in, cursor_in, Links, Place, settled_of, back, state_at}
use Rattle.searches.proofs.Ties.{Cols, Held, graph_of, Opened, Below, Rank, Says, gone, Ties, Left, After, settled}
use Rattle.searches.proofs.Steps.{on_path, top_open, kill, leave, leave_alive, leave_inner, no_frames, distinct_apart}
use Rattle.searches.proofs.Columns.{put_settled}
use Rattle.searches.proofs.Ranks.{fresh_none, whites_less}
use Rattle.graphs.proofs.Few.{seek, few}
use Rattle.searches.proofs.Stacks.{frames_few, depth, opened_tail, opened_at, opened_range, settled_in, settled_out}
use Rattle.searches.proofs.Kept.{says_by, is_open}

-- the oldest of the newest frame
pub kill_left : (L : Links) (from : ℕ → List ℕ) (fin : ℕ → Bool) (n m : ℕ) (w : List ℕ) (p : Place) (a : Cols) (dead alive g : List ℕ) (fs : List (List ℕ)) (below : List (ℕ × List ℕ)) (q : ℕ)
    → Held n w a → Rank L from n a.status ((p.s, []) ∷ below) (suc m) → Ties (graph_of L from fin) n a p.o p.b (record { dead = dead; alive = alive; frames = (g ++ (p.s ∷ [])) ∷ fs; path = (p.s, []) ∷ below })
    → Below L from a.cursor p.d p.s below → ((x : ℕ) → In x ((g ++ (p.s ∷ [])) ++ flat fs) → fin x ≡ false) → q ≡ length (flat fs)
    → Left L from fin n m (settled_of w 3 q (p.o - q)) (record { d = p.d; s = p.s; r = p.r; o = q; b = p.b - 1 })
kill_left L from fin n m w p a dead alive g fs below q k rank h down calm e = record {
  cols = record { cursor = a.cursor; opens = a.opens; status = settled a.status a.opens 3 q (p.o - q); place = a.place; bound = a.bound };
  dead = f ++ dead;
  alive = alive;
  frames = fs;
  below = below;
  held = put_settled n w a 3 q (p.o - q) (omega (arith, all, e, h.count, length-append f (flat fs)))
      (λ j x y. h.within (a.opens j) (inr (inr (Memᴰ.append_left (flat fs) (opened_range a.opens a.place f (flat fs) h.opened j (omega arith) (omega (arith, size))))))) k;
  ties = record {
    base = kill (graph_of L from fin) dead alive g fs p.s below calm h.base;
    within = λ x i. h.within x (again x i);
    own = λ y i. h.own y (there i);
    opened = opened_tail a.opens a.place f (flat fs) h.opened;
    count = e;
    cuts = h.cuts.1;
    parts = omega (arith, h.parts);
    lit = λ x i. settled_out a.status a.opens a.place f (flat fs) h.opened 3 q (p.o - q) e size x (λ j. distinct_apart f (flat fs) x h.base.once j i) ∙ h.lit x (Memᴰ.append_right f i);
    marks = λ x l. mark x l (seek x f);
  };
  rank =
      let z = whites_less (λ x. length (from (L.first x))) a.status (settled a.status a.opens 3 q (p.o - q)) n (λ x l. ⊎_elim
      (λ i. inr (fresh_none _ _ (λ y. let v = three x i in omega (arith, v, y)) (λ y. let v = three x i in omega (arith, v, y))))
      (λ u. inl (settled_out a.status a.opens a.place f (flat fs) h.opened 3 q (p.o - q) e size x u)) (seek x f)) in
      omega (arith, z, rank);
  down = down;
  calm = λ x i. calm x (Memᴰ.append_right f i);
}
  where
    f : List ℕ
    f = g ++ (p.s ∷ [])

    all : length (f ++ flat fs) ≤ n
    all = few n (f ++ flat fs) h.base.once (λ x i. h.within x (inr (inr i)))

    size : q + (p.o - q) ≡ length (f ++ flat fs)
    size = omega (arith, e, h.count, length-append f (flat fs))

    three : (x : ℕ) → In x f → settled a.status a.opens 3 q (p.o - q) x ≡ 3
    three x i = settled_in a.status a.opens a.place f (flat fs) h.opened 3 q (p.o - q) e size x i

    again : (x : ℕ) → In x (f ++ dead) ⊎ (In x alive ⊎ In x (flat fs)) → In x dead ⊎ (In x alive ⊎ In x (f ++ flat fs))
    again x (inl z) = ⊎_elim (λ y. inr (inr (Memᴰ.append_left (flat fs) y))) inl (Memᴰ.append_cases f z)
    again x (inr (inl z)) = inr (inl z)
    again x (inr (inr z)) = inr (inr (Memᴰ.append_right f z))

    mark : (x : ℕ) → x < n → In x f ⊎ (In x f → ⊥) → Says (graph_of L from fin) (f ++ dead) alive (flat fs) x (settled a.status a.opens 3 q (p.o - q) x)
    mark x l (inl i) = gone (three x i) (Memᴰ.append_left dead i)
    mark x l (inr u) = subst (λ v. Says (graph_of L from fin) (f ++ dead) alive (flat fs) x v)
        (sym (settled_out a.status a.opens a.place f (flat fs) h.opened 3 q (p.o - q) e size x u))
        (says_by (graph_of L from fin) dead alive (f ++ flat fs) (f ++ dead) alive (flat fs) x (a.status x) (again x) (λ i. Memᴰ.append_right f i) (λ i. i)
        (λ i. ⊎_elim (λ j. absurd (u j)) (λ j. j) (Memᴰ.append_cases f i)) (h.marks x l))

-- where the oldest of the newest frame stands
oldest_place : (op pl : ℕ → ℕ) (f g xs : List ℕ) (x : ℕ) → f ≡ g ++ (x ∷ []) → Opened op pl (f ++ xs) → (op (length xs) ≡ x) × (pl x ≡ length xs)
oldest_place op pl f g xs x e a =
    let u : Opened op pl (g ++ (x ∷ xs)) = subst (λ l. Opened op pl l) (append_assoc g (x ∷ []) xs) (subst (λ l. Opened op pl (l ++ xs)) e a) in
    let z = opened_tail op pl g (x ∷ xs) u in
    (z.0, z.1)

-- a finished state leaves: all three ways
module _ (L : Links) (from : ℕ → List ℕ) (fin : ℕ → Bool) (n m : ℕ) (w : List ℕ) (p : Place) (a : Cols) (dead alive : List ℕ) (below : List (ℕ × List ℕ))
    (k : Held n w a) (rank : Rank L from n a.status ((p.s, []) ∷ below) (suc m)) (down : Below L from a.cursor p.d p.s below) where
  abbrev At : List (List ℕ) → List (ℕ × List ℕ) → Type 0
  At frames path = Ties (graph_of L from fin) n a p.o p.b (record { dead = dead; alive = alive; frames = frames; path = path })

  abbrev Calm : List (List ℕ) → Type 0
  Calm frames = (x : ℕ) → In x (flat frames) → fin x ≡ false

  -- the path shrinks, and nothing else happens
  alone : (frames : List (List ℕ)) → At frames ((p.s, []) ∷ below) → Calm frames → Along alive (states below) frames → Left L from fin n m w p
  alone frames h calm along = record {
    cols = a;
    dead = dead;
    alive = alive;
    frames = frames;
    below = below;
    held = k;
    ties = record {
      base = leave (graph_of L from fin) dead alive frames p.s below along h.base;
      within = h.within;
      own = λ y i. h.own y (there i);
      opened = h.opened;
      count = h.count;
      cuts = h.cuts;
      parts = h.parts;
      lit = h.lit;
      marks = h.marks;
    };
    rank = omega (arith, rank);
    down = down;
    calm = calm;
  }

  top_below : (frames : List (List ℕ)) → At frames ((p.s, []) ∷ below) → p.s < n
  top_below frames h = h.within p.s (inr (on_path alive (p.s ∷ states below) frames h.base.along p.s (here refl)))

  b_below : (f : List ℕ) (fs : List (List ℕ)) → At (f ∷ fs) ((p.s, []) ∷ below) → length fs < n
  b_below f fs h =
      let x = few n (f ++ flat fs) h.base.once (λ x i. h.within x (inr (inr i))) in
      let y = frames_few alive (p.s ∷ states below) (f ∷ fs) h.base.along in
      omega (arith, x, y)

  bound_is : (f : List ℕ) (fs : List (List ℕ)) → At (f ∷ fs) ((p.s, []) ∷ below) → bound_in w (p.b - 1) ≡ length (flat fs)
  bound_is f fs h = let e : p.b - 1 ≡ length fs = omega (arith, h.parts) in ap (λ z. bound_in w z) e ∙ (k.bounds (length fs) (b_below f fs h) ∙ h.cuts.0)

  pub oldest_left : (frames : List (List ℕ)) → At frames ((p.s, []) ∷ below) → Calm frames → status_in w p.s ≡ 1 → place_in w p.s ≡ bound_in w (p.b - 1)
      → Left L from fin n m (settled_of w 3 (place_in w p.s) (p.o - place_in w p.s)) (record { d = p.d; s = p.s; r = p.r; o = place_in w p.s; b = p.b - 1 })
  oldest_left [] h calm e u =
      let b = top_below [] h in
      absurd (Memᴰ.not-nil (is_open (graph_of L from fin) dead alive [] p.s (a.status p.s) (sym (k.statuses p.s b) ∙ e) (h.marks p.s b)))
  oldest_left (f ∷ fs) h calm e u = go h.base.along
    where
      q : place_in w p.s ≡ length (flat fs)
      q = u ∙ bound_is f fs h

      s_in : In p.s f
      s_in = top_open alive p.s (states below) f fs h.base.along

      go : Along alive (p.s ∷ states below) (f ∷ fs) → Left L from fin n m (settled_of w 3 (place_in w p.s) (p.o - place_in w p.s)) (record { d = p.d; s = p.s; r = p.r; o = place_in w p.s; b = p.b - 1 })
      go (qs, x, rest, g, c, d, hh, al) =
          let one = oldest_place a.opens a.place f g (flat fs) x d h.opened in
          let two = opened_at a.opens a.place (f ++ flat fs) h.opened p.s (Memᴰ.append_left (flat fs) s_in) in
          let same : p.s ≡ x = sym two.0 ∙ (ap a.opens (sym (k.places p.s (top_below (f ∷ fs) h)) ∙ q) ∙ one.0) in
          let f-is : f ≡ g ++ (p.s ∷ []) = d ∙ ap (λ (z : ℕ). g ++ (z ∷ [])) (sym same) in
          kill_left L from fin n m w p a dead alive g fs below (place_in w p.s) k rank (subst (λ (l : List ℕ). At (l ∷ fs) ((p.s, []) ∷ below)) f-is h) down
          (subst (λ (l : List ℕ). Calm (l ∷ fs)) f-is calm) q

  pub inner_left : (frames : List (List ℕ)) → At frames ((p.s, []) ∷ below) → Calm frames → (place_in w p.s ≡ bound_in w (p.b - 1) → ⊥) → Left L from fin n m w p
  inner_left [] h calm u = alone [] h calm (leave_alive alive p.s (states below) h.base.along)
  inner_left (f ∷ fs) h calm u = go h.base.along
    where
      go : Along alive (p.s ∷ states below) (f ∷ fs) → Left L from fin n m w p
      go (qs, x, rest, g, c, d, hh, al) =
          let one = oldest_place a.opens a.place f g (flat fs) x d h.opened in
          let other : p.s ≡ x → ⊥ = λ z. u (k.places p.s (top_below (f ∷ fs) h) ∙ (ap a.place z ∙ (one.1 ∙ sym (bound_is f fs h)))) in
          alone (f ∷ fs) h calm (subst (λ (l : List ℕ). Along alive (states below) (l ∷ fs)) (sym d)
          (leave_inner alive p.s (states below) g x fs other (subst (λ (l : List ℕ). Along alive (p.s ∷ states below) (l ∷ fs)) d h.base.along)))

  pub alive_left : (frames : List (List ℕ)) → At frames ((p.s, []) ∷ below) → Calm frames → (status_in w p.s ≡ 1 → ⊥) → Left L from fin n m w p
  alive_left [] h calm u = alone [] h calm (leave_alive alive p.s (states below) h.base.along)
  alive_left (f ∷ fs) h calm u =
      absurd (u (k.statuses p.s (top_below (f ∷ fs) h) ∙ h.lit p.s (Memᴰ.append_left (flat fs) (top_open alive p.s (states below) f fs h.base.along))))

-- the state at a depth
state_is : (L : Links) (from : ℕ → List ℕ) (n : ℕ) (w : List ℕ) (a : Cols) → Held n w a → (k x : ℕ) (q : List (ℕ × List ℕ)) → k < n → Below L from a.cursor k x q → x ≡ state_at L w k
unfolding state_at
state_is L from n w a h k x [] l (u, v) = v ∙ ap (λ z. state_at L w z) (sym u)
state_is L from n w a h k x (e ∷ q) l (j, u, v, m, b) = v ∙ (ap L.target (sym (h.cursors j (omega arith))) ∙ ap (λ z. state_at L w z) (sym u))

pub back_tied : (L : Links) (from : ℕ → List ℕ) (fin : ℕ → Bool) (n : ℕ) {m : ℕ} (w : List ℕ) (p : Place) → Left L from fin n m w p → After L from fin n m (back L w p p.d)
unfolding back
back_tied L from fin n {m} w p h = go h.below h.ties h.rank h.down
  where
    G : Graph
    G = graph_of L from fin

    go : (below : List (ℕ × List ℕ)) → Ties (graph_of L from fin) n h.cols p.o p.b (record { dead = h.dead; alive = h.alive; frames = h.frames; path = below })
        → Rank L from n h.cols.status below m → Below L from h.cols.cursor p.d p.s below → After L from fin n m (back L w p p.d)
    go [] t c (z, y) =
        let none : h.frames ≡ [] = no_frames h.alive h.frames t.base.along in
        subst (λ d. After L from fin n m (back L w p d)) (sym z) (inr (
          refl,
          record {
            dead = h.dead;
            alive = h.alive;
            base = subst (λ (fs : List (List ℕ)). Base (graph_of L from fin) (record { dead = h.dead; alive = h.alive; frames = fs; path = [] })) none t.base;
            marks = λ x l. subst (λ v. Says (graph_of L from fin) h.dead h.alive [] x v) (sym (h.held.statuses x l))
                (subst (λ (fs : List (List ℕ)). Says (graph_of L from fin) h.dead h.alive (flat fs) x (h.cols.status x)) none (t.marks x l));
          },
        ))
    go (e ∷ q) t c (k, u, v, l, b) =
        let few-path = few n (states (e ∷ q)) t.base.once_path (λ x i. t.within x (inr (on_path h.alive (states (e ∷ q)) h.frames t.base.along x i))) in
        let deep = depth L from h.cols.cursor k e.0 q b in
        let k-below : k < n = omega (arith, few-path, deep, length-map q (λ z. z.0)) in
        let state : e.0 ≡ state_at L w k = state_is L from n w h.cols h.held k e.0 q k-below b in
        let left : e.1 ≡ from (L.next (cursor_in w k)) = l ∙ ap (λ z. from (L.next z)) (sym (h.held.cursors k k-below)) in
        let both : e ≡ (state_at L w k, from (L.next (cursor_in w k))) = λ i. (state i, left i) in
        subst (λ d. After L from fin n m (back L w p d)) (sym u) (inl (
          refl,
          record {
            drawn = record {
              cols = h.cols;
              dead = h.dead;
              alive = h.alive;
              frames = h.frames;
              below = q;
              held = h.held;
              ties = subst (λ (y : ℕ × List ℕ). Ties (graph_of L from fin) n h.cols p.o p.b (record { dead = h.dead; alive = h.alive; frames = h.frames; path = y ∷ q })) both t;
              rank = subst (λ (y : ℕ × List ℕ). Rank L from n h.cols.status (y ∷ q) m) both c;
              down = subst (λ x. Below L from h.cols.cursor k x q) state b;
            };
            calm = h.calm;
          },
        ))
