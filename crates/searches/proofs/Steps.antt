use mathlib.Core.Path.{◌≡◌, refl, sym, ◌∙◌, ap, subst}
use mathlib.Core.Bool.{true≢false}
use mathlib.Core.List.Memᴰ
use mathlib.Core.List.Memᴰ.{head as here}
use mathlib.Core.List.Memᴰ.{tail as there}
use mathlib.Core.List.{List, [], ◌∷◌, ◌++◌, append_assoc, nil≢cons, head-eq_of_cons-eq, tail-eq_of_cons-eq, Memᴰ as In}
use mathlib.Core.Logic.{◌⊎◌, inl, inr, ⊎_elim}
use Prim.Native.Nat.{ℕ}
use Rattle.lists.specs.Lists.{Distinct}
use Rattle.searches.proofs.Search.{Graph, Reach, stay, go, Ends, flat, states, Pending, Along, Reaches, Fenced, Config, Seen, Base, NoFinal}

-- reaching goes on
reach_on : (G : Graph) (a b c : ℕ) → Reach G a b → Reach G b c → Reach G a c
reach_on G a b c (stay _ _ e) h = subst (λ x. Reach G x c) (sym e) h
reach_on G a b c (go _ r _ i d) h = go a r c i (reach_on G (G.target r) b c d h)

-- a set that the records do not leave holds all that is reached
pub closed : (G : Graph) (P : ℕ → Type 0) → ((x r : ℕ) → P x → In r (G.list x) → P (G.target r)) → (a b : ℕ) → P a → Reach G a b → P b
closed G P h a b p (stay _ _ e) = subst P e p
closed G P h a b p (go _ r _ i d) = closed G P h (G.target r) b (h a r p i) d

-- every open state reaches the newest frame
to_newest : (G : Graph) (f : List ℕ) (fs : List (List ℕ)) → Reaches G (f ∷ fs) → (u s : ℕ) → In u (f ++ flat fs) → In s f → Reach G u s
to_newest G f fs h u s i j = h.0 u s i j

-- merging the two newest frames, where the newest leads to an older one
pub merge_reaches : (G : Graph) (f g : List ℕ) (fs : List (List ℕ)) (s t : ℕ) → In s f → Reach G s t → In t (g ++ flat fs) → Reaches G (f ∷ g ∷ fs) → Reaches G ((f ++ g) ∷ fs)
merge_reaches G f g fs s t i e j h = (λ u v a b. ⊎_elim (λ c. h.0 u v (split u a) c) (λ c. older u v a c) (Memᴰ.append_cases f b), h.1.1)
  where
    split : (u : ℕ) → In u ((f ++ g) ++ flat fs) → In u (f ++ (g ++ flat fs))
    split u a = subst (λ l. In u l) (append_assoc f g (flat fs)) a

    older : (u v : ℕ) → In u ((f ++ g) ++ flat fs) → In v g → Reach G u v
    older u v a b = ⊎_elim
        (λ c. reach_on G u s v (h.0 u s (Memᴰ.append_left _ c) i) (reach_on G s t v e (h.1.0 t v j b)))
        (λ c. h.1.0 u v c b)
        (Memᴰ.append_cases f (split u a))

-- the oldest state of a frame is in it
oldest : (f g : List ℕ) (x : ℕ) → f ≡ g ++ (x ∷ []) → In x f
oldest f g x e = subst (λ l. In x l) (sym e) (Memᴰ.append_right g (here refl))

-- the state on top is in the newest frame
pub top_open : (alive : List ℕ) (s : ℕ) (ps f : List ℕ) (fs : List (List ℕ)) → Along alive (s ∷ ps) (f ∷ fs) → In s f
top_open alive s ps f fs (qs, x, rest, g, e, d, h, a) = go' qs e h
  where
    go' : (q : List ℕ) → s ∷ ps ≡ q ++ (x ∷ rest) → ((y : ℕ) → In y q → In y f) → In s f
    go' [] u h = Memᴰ.cast (head-eq_of_cons-eq u) (oldest f g x d)
    go' (y ∷ q) u h = h s (here (head-eq_of_cons-eq u))

-- path states are open or alive
pub on_path : (alive ps : List ℕ) (fs : List (List ℕ)) → Along alive ps fs → (y : ℕ) → In y ps → In y alive ⊎ In y (flat fs)
on_path alive ps [] a y i = inl (a y i)
on_path alive ps (f ∷ fs) (qs, x, rest, g, e, d, h, a) y i =
    ⊎_elim (λ j. inr (Memᴰ.append_left (flat fs) (h y j)))
    (λ j. ⊎_elim (λ u. inr (Memᴰ.append_left (flat fs) (Memᴰ.cast u (oldest f g x d))))
    (λ k. ⊎_elim (λ v. inl v) (λ v. inr (Memᴰ.append_right f v)) (on_path alive rest fs a y k)) (Memᴰ.cases_cons j))
    (Memᴰ.append_cases qs (subst (λ l. In y l) e i))

-- merging
pub merge_along : (alive ps f g : List ℕ) (fs : List (List ℕ)) → Along alive ps (f ∷ g ∷ fs) → Along alive ps ((f ++ g) ∷ fs)
merge_along alive ps f g fs (qs, x, rest, a, e, d, h, (qs2, y, rest2, b, e2, d2, h2, al)) = (
  qs ++ (x ∷ qs2),
  y,
  rest2,
  f ++ b,
  e ∙ (ap (λ (l : List ℕ). qs ++ (x ∷ l)) e2 ∙ sym (append_assoc qs (x ∷ qs2) (y ∷ rest2))),
  ap (λ (l : List ℕ). f ++ l) d2 ∙ sym (append_assoc f b (y ∷ [])),
  (λ z i. ⊎_elim (λ j. Memᴰ.append_left g (h z j)) (λ j. ⊎_elim (λ u. Memᴰ.append_left g (Memᴰ.cast u (oldest f a x d))) (λ k. Memᴰ.append_right f (h2 z k)) (Memᴰ.cases_cons j)) (Memᴰ.append_cases qs i)),
  al,
)

pub merge_fenced : (G : Graph) (dead : List ℕ) (path : List (ℕ × List ℕ)) (newer f g : List ℕ) (fs : List (List ℕ)) → Fenced G dead path newer (f ∷ g ∷ fs) → Fenced G dead path newer ((f ++ g) ∷ fs)
merge_fenced G dead path newer f g fs h = (
  λ u r i j. ⊎_elim (λ a. wider u r (h.0 u r a j)) (λ a. subst (λ l. Pending path u r ⊎ (In (G.target r) dead ⊎ In (G.target r) l)) (append_assoc newer f g) (h.1.0 u r a j)) (Memᴰ.append_cases f i),
  subst (λ l. Fenced G dead path l fs) (append_assoc newer f g) h.1.1,
)
  where
    wider : (u r : ℕ) → Pending path u r ⊎ (In (G.target r) dead ⊎ In (G.target r) (newer ++ f)) → Pending path u r ⊎ (In (G.target r) dead ⊎ In (G.target r) (newer ++ (f ++ g)))
    wider u r (inl p) = inl p
    wider u r (inr (inl d)) = inr (inl d)
    wider u r (inr (inr n)) = inr (inr (subst (λ l. In (G.target r) l) (append_assoc newer f g) (Memᴰ.append_left g n)))

-- what is seen stays seen, in other places
pub merge : (G : Graph) (dead alive f g : List ℕ) (fs : List (List ℕ)) (s r : ℕ) (rest : List ℕ) (p : List (ℕ × List ℕ))
    → In r (G.list s) → In (G.target r) (g ++ flat fs)
    → Base G (record { dead = dead; alive = alive; frames = f ∷ g ∷ fs; path = (s, r ∷ rest) ∷ p })
    → Base G (record { dead = dead; alive = alive; frames = (f ++ g) ∷ fs; path = (s, r ∷ rest) ∷ p })
merge G dead alive f g fs s r rest p i j h = record {
  zero_seen = forth 0 h.zero_seen;
  found = λ x y. h.found x (back x y);
  along = merge_along alive (states ((s, r ∷ rest) ∷ p)) f g fs h.along;
  once_path = h.once_path;
  once = subst Distinct (sym same) h.once;
  not_alive = λ x y. h.not_alive x (subst (λ l. In x l) same y);
  reaches = merge_reaches G f g fs s (G.target r) (top_open alive s (states p) f (g ∷ fs) h.along) (go s r (G.target r) i (stay _ _ refl)) j h.reaches;
  fenced = merge_fenced G dead ((s, r ∷ rest) ∷ p) [] f g fs h.fenced;
  dead_ends = h.dead_ends;
  alive_ends = h.alive_ends;
  onward = λ x q y k. ⊎_elim inl (λ z. inr (forth (G.target q) z)) (h.onward x q (back x y) k);
}
  where
    same : (f ++ g) ++ flat fs ≡ f ++ (g ++ flat fs)
    same = append_assoc f g (flat fs)

    forth : (x : ℕ) → In x dead ⊎ (In x alive ⊎ In x (f ++ (g ++ flat fs))) → In x dead ⊎ (In x alive ⊎ In x ((f ++ g) ++ flat fs))
    forth x y = subst (λ l. In x dead ⊎ (In x alive ⊎ In x l)) (sym same) y

    back : (x : ℕ) → In x dead ⊎ (In x alive ⊎ In x ((f ++ g) ++ flat fs)) → In x dead ⊎ (In x alive ⊎ In x (f ++ (g ++ flat fs)))
    back x y = subst (λ l. In x dead ⊎ (In x alive ⊎ In x l)) same y

-- every open state reaches the top
to_top : (G : Graph) (alive : List ℕ) (s : ℕ) (ps : List ℕ) (fs : List (List ℕ)) → Along alive (s ∷ ps) fs → Reaches G fs → (u : ℕ) → In u (flat fs) → Reach G u s
to_top G alive s ps [] a h u i = absurd (Memᴰ.not-nil i)
to_top G alive s ps (f ∷ fs) a h u i = h.0 u s i (top_open alive s ps f fs a)

-- a record taken off
pend : (s r : ℕ) (rest : List ℕ) (p : List (ℕ × List ℕ)) (u q : ℕ) → Pending ((s, r ∷ rest) ∷ p) u q → Pending ((s, rest) ∷ p) u q ⊎ ((u ≡ s) × (q ≡ r))
pend s r rest p u q (l, i, j) = ⊎_elim
    (λ e. ⊎_elim (λ d. inr (ap (λ z. z.0) e, d)) (λ k. inl (rest, here (ap (λ z. (z.0, rest)) e), k)) (Memᴰ.cases_cons (subst (λ m. In q m) (ap (λ z. z.1) e) j)))
    (λ k. inl (l, there k, j))
    (Memᴰ.cases_cons i)

-- an empty rest taken off
pend_off : (s : ℕ) (p : List (ℕ × List ℕ)) (u q : ℕ) → Pending ((s, []) ∷ p) u q → Pending p u q
pend_off s p u q (l, i, j) = ⊎_elim (λ e. absurd (Memᴰ.not-nil (subst (λ m. In q m) (ap (λ z. z.1) e) j))) (λ k. (l, k, j)) (Memᴰ.cases_cons i)

pub fenced_by : (G : Graph) (dead dead' : List ℕ) (path path' : List (ℕ × List ℕ)) (newer newer' : List ℕ) (fs : List (List ℕ))
    → ((u q : ℕ) → In u (flat fs) → Pending path u q → Pending path' u q ⊎ (In (G.target q) dead' ⊎ In (G.target q) newer'))
    → ((x : ℕ) → In x dead → In x dead') → ((x : ℕ) → In x newer → In x dead' ⊎ In x newer')
    → Fenced G dead path newer fs → Fenced G dead' path' newer' fs
fenced_by G dead dead' path path' newer newer' [] a b c h = tt
fenced_by G dead dead' path path' newer newer' (f ∷ fs) a b c h = (
  λ u q i j. first u q i (h.0 u q i j),
  fenced_by G dead dead' path path' (newer ++ f) (newer' ++ f) fs
      (λ u q i j. wide u q (a u q (Memᴰ.append_right f i) j)) b
      (λ x i. more x (Memᴰ.append_cases newer i)) h.1,
)
  where
    wide : (u q : ℕ) → Pending path' u q ⊎ (In (G.target q) dead' ⊎ In (G.target q) newer') → Pending path' u q ⊎ (In (G.target q) dead' ⊎ In (G.target q) (newer' ++ f))
    wide u q (inl z) = inl z
    wide u q (inr (inl z)) = inr (inl z)
    wide u q (inr (inr z)) = inr (inr (Memᴰ.append_left f z))

    more : (x : ℕ) → In x newer ⊎ In x f → In x dead' ⊎ In x (newer' ++ f)
    more x (inl z) = ⊎_elim inl (λ y. inr (Memᴰ.append_left f y)) (c x z)
    more x (inr z) = inr (Memᴰ.append_right newer' z)

    first : (u q : ℕ) → In u f → Pending path u q ⊎ (In (G.target q) dead ⊎ In (G.target q) (newer ++ f)) → Pending path' u q ⊎ (In (G.target q) dead' ⊎ In (G.target q) (newer' ++ f))
    first u q i (inl z) = wide u q (a u q (Memᴰ.append_left (flat fs) i) z)
    first u q i (inr (inl z)) = inr (inl (b (G.target q) z))
    first u q i (inr (inr z)) = inr (more (G.target q) (Memᴰ.append_cases newer z))

-- a record that leads to a seen state, where the fence stays
pub skip : (G : Graph) (dead alive : List ℕ) (fs : List (List ℕ)) (s r : ℕ) (rest : List ℕ) (p : List (ℕ × List ℕ))
    → Seen (record { dead = dead; alive = alive; frames = fs; path = p }) (G.target r) → Fenced G dead ((s, rest) ∷ p) [] fs
    → Base G (record { dead = dead; alive = alive; frames = fs; path = (s, r ∷ rest) ∷ p }) → Base G (record { dead = dead; alive = alive; frames = fs; path = (s, rest) ∷ p })
skip G dead alive fs s r rest p t e h = record {
  zero_seen = h.zero_seen;
  found = h.found;
  along = h.along;
  once_path = h.once_path;
  once = h.once;
  not_alive = h.not_alive;
  reaches = h.reaches;
  fenced = e;
  dead_ends = h.dead_ends;
  alive_ends = h.alive_ends;
  onward = λ x q y k. ⊎_elim
      (λ z. ⊎_elim inl (λ w. inr (subst (λ m. Seen (record { dead = dead; alive = alive; frames = fs; path = p }) (G.target m)) (sym w.1) t)) (pend s r rest p x q z))
      inr (h.onward x q y k);
}

-- the fence where the record leads to a dead state,
pub skip_dead : (G : Graph) (dead : List ℕ) (fs : List (List ℕ)) (s r : ℕ) (rest : List ℕ) (p : List (ℕ × List ℕ)) → In (G.target r) dead
    → Fenced G dead ((s, r ∷ rest) ∷ p) [] fs → Fenced G dead ((s, rest) ∷ p) [] fs
skip_dead G dead fs s r rest p t h = fenced_by G dead dead ((s, r ∷ rest) ∷ p) ((s, rest) ∷ p) [] [] fs
    (λ u q i z. ⊎_elim inl (λ w. inr (inl (subst (λ m. In (G.target m) dead) (sym w.1) t))) (pend s r rest p u q z)) (λ x i. i) (λ x i. inr i) h

-- or into the newest frame
pub skip_open : (G : Graph) (dead f : List ℕ) (fs : List (List ℕ)) (s r : ℕ) (rest : List ℕ) (p : List (ℕ × List ℕ)) → In (G.target r) f
    → Fenced G dead ((s, r ∷ rest) ∷ p) [] (f ∷ fs) → Fenced G dead ((s, rest) ∷ p) [] (f ∷ fs)
skip_open G dead f fs s r rest p t h = (
  λ u q i j. ⊎_elim (λ z. new u q z) inr (h.0 u q i j),
  fenced_by G dead dead ((s, r ∷ rest) ∷ p) ((s, rest) ∷ p) f f fs (λ u q i z. new u q z) (λ x i. i) (λ x i. inr i) h.1,
)
  where
    new : (u q : ℕ) → Pending ((s, r ∷ rest) ∷ p) u q → Pending ((s, rest) ∷ p) u q ⊎ (In (G.target q) dead ⊎ In (G.target q) f)
    new u q z = ⊎_elim inl (λ w. inr (inr (subst (λ m. In (G.target m) f) (sym w.1) t))) (pend s r rest p u q z)

-- a state not seen before becomes a frame of its own
pub enter : (G : Graph) (dead alive : List ℕ) (fs : List (List ℕ)) (s r : ℕ) (rest : List ℕ) (p : List (ℕ × List ℕ))
    → In r (G.list s) → (Seen (record { dead = dead; alive = alive; frames = fs; path = p }) (G.target r) → ⊥)
    → Base G (record { dead = dead; alive = alive; frames = fs; path = (s, r ∷ rest) ∷ p })
    → Base G (record { dead = dead; alive = alive; frames = (G.target r ∷ []) ∷ fs; path = (G.target r, G.list (G.target r)) ∷ (s, rest) ∷ p })
enter G dead alive fs s r rest p i n h = record {
  zero_seen = forth 0 h.zero_seen;
  found = λ x y. ⊎_elim (λ e. subst (λ z. Reach G 0 z) (sym e) (reach_on G 0 s t (h.found s s_seen) (go s r t i (stay t t refl)))) (λ z. h.found x z) (back x y);
  along = ([], t, s ∷ states p, [], refl, refl, (λ y z. absurd (Memᴰ.not-nil z)), h.along);
  once_path = (λ j. n (path_seen t j), h.once_path);
  once = (λ j. n (inr (inr j)), h.once);
  not_alive = λ x y z. ⊎_elim (λ e. n (inr (inl (Memᴰ.cast (sym e) z)))) (λ j. h.not_alive x j z) (Memᴰ.cases_cons y);
  reaches = (λ u v a b. ⊎_elim (λ e. subst (λ z. Reach G u z) (sym e) (to_t u a)) (λ z. absurd (Memᴰ.not-nil z)) (Memᴰ.cases_cons b), h.reaches);
  fenced = (
    λ u q a b. ⊎_elim (λ e. inl (G.list t, here (ap (λ z. (z, G.list t)) e), subst (λ z. In q (G.list z)) e b)) (λ z. absurd (Memᴰ.not-nil z)) (Memᴰ.cases_cons a),
    fenced_by G dead dead ((s, r ∷ rest) ∷ p) ((t, G.list t) ∷ (s, rest) ∷ p) [] (t ∷ []) fs
        (λ u q a z. ⊎_elim (λ w. inl (w.0, there w.1, w.2)) (λ w. inr (inr (here (ap G.target w.1)))) (pend s r rest p u q z)) (λ x a. a) (λ x a. absurd (Memᴰ.not-nil a)) h.fenced,
  );
  dead_ends = h.dead_ends;
  alive_ends = h.alive_ends;
  onward = λ x q y k. ⊎_elim
      (λ e. inl (G.list t, here (ap (λ z. (z, G.list t)) e), subst (λ z. In q (G.list z)) e k))
      (λ z. ⊎_elim
      (λ v. ⊎_elim (λ w. inl (w.0, there w.1, w.2)) (λ w. inr (inr (inr (here (ap G.target w.1))))) (pend s r rest p x q v))
      (λ v. inr (forth (G.target q) v)) (h.onward x q z k))
      (back x y);
}
  where
    t : ℕ
    t = G.target r

    path_seen : (x : ℕ) → In x (s ∷ states p) → Seen (record { dead = dead; alive = alive; frames = fs; path = p }) x
    path_seen x j = inr (on_path alive (s ∷ states p) fs h.along x j)

    s_seen : Seen (record { dead = dead; alive = alive; frames = fs; path = p }) s
    s_seen = path_seen s (here refl)

    forth : (x : ℕ) → In x dead ⊎ (In x alive ⊎ In x (flat fs)) → In x dead ⊎ (In x alive ⊎ In x (t ∷ flat fs))
    forth x (inl z) = inl z
    forth x (inr (inl z)) = inr (inl z)
    forth x (inr (inr z)) = inr (inr (there z))

    back : (x : ℕ) → In x dead ⊎ (In x alive ⊎ In x (t ∷ flat fs)) → (x ≡ t) ⊎ (In x dead ⊎ (In x alive ⊎ In x (flat fs)))
    back x (inl z) = inr (inl z)
    back x (inr (inl z)) = inr (inr (inl z))
    back x (inr (inr z)) = ⊎_elim inl (λ j. inr (inr (inr j))) (Memᴰ.cases_cons z)

    to_t : (u : ℕ) → In u (t ∷ flat fs) → Reach G u t
    to_t u a = ⊎_elim (λ e. stay u t e) (λ j. reach_on G u s t (to_top G alive s (states p) fs h.along h.reaches u j) (go s r t i (stay t t refl))) (Memᴰ.cases_cons a)

-- the top reaches an end: all open states are alive
pub enliven : (G : Graph) (dead alive : List ℕ) (fs : List (List ℕ)) (s : ℕ) (l : List ℕ) (p : List (ℕ × List ℕ)) → Ends G s
    → Base G (record { dead = dead; alive = alive; frames = fs; path = (s, l) ∷ p }) → Base G (record { dead = dead; alive = flat fs ++ alive; frames = []; path = (s, l) ∷ p })
enliven G dead alive fs s l p e h = record {
  zero_seen = forth 0 h.zero_seen;
  found = λ x y. h.found x (back x y);
  along = λ x i. ⊎_elim (λ z. Memᴰ.append_right (flat fs) z) (λ z. Memᴰ.append_left alive z) (on_path alive (s ∷ states p) fs h.along x i);
  once_path = h.once_path;
  once = tt;
  not_alive = λ x i j. Memᴰ.not-nil i;
  reaches = tt;
  fenced = tt;
  dead_ends = h.dead_ends;
  alive_ends = λ x i. ⊎_elim (λ z. (e.0, reach_on G x s e.0 (to_top G alive s (states p) fs h.along h.reaches x z) e.1, e.2)) (λ z. h.alive_ends x z) (Memᴰ.append_cases (flat fs) i);
  onward = λ x q y k. ⊎_elim inl (λ z. inr (forth (G.target q) z)) (h.onward x q (back x y) k);
}
  where
    forth : (x : ℕ) → In x dead ⊎ (In x alive ⊎ In x (flat fs)) → In x dead ⊎ (In x (flat fs ++ alive) ⊎ In x [])
    forth x (inl z) = inl z
    forth x (inr (inl z)) = inr (inl (Memᴰ.append_right (flat fs) z))
    forth x (inr (inr z)) = inr (inl (Memᴰ.append_left alive z))

    back : (x : ℕ) → In x dead ⊎ (In x (flat fs ++ alive) ⊎ In x []) → In x dead ⊎ (In x alive ⊎ In x (flat fs))
    back x (inl z) = inl z
    back x (inr (inl z)) = ⊎_elim (λ y. inr (inr y)) (λ y. inr (inl y)) (Memᴰ.append_cases (flat fs) z)
    back x (inr (inr z)) = absurd (Memᴰ.not-nil z)

-- the top is finished and leaves the path
pub leave : (G : Graph) (dead alive : List ℕ) (fs : List (List ℕ)) (s : ℕ) (p : List (ℕ × List ℕ)) → Along alive (states p) fs
    → Base G (record { dead = dead; alive = alive; frames = fs; path = (s, []) ∷ p }) → Base G (record { dead = dead; alive = alive; frames = fs; path = p })
leave G dead alive fs s p a h = record {
  zero_seen = h.zero_seen;
  found = h.found;
  along = a;
  once_path = h.once_path.1;
  once = h.once;
  not_alive = h.not_alive;
  reaches = h.reaches;
  fenced = fenced_by G dead dead ((s, []) ∷ p) p [] [] fs (λ u q i z. inl (pend_off s p u q z)) (λ x i. i) (λ x i. inr i) h.fenced;
  dead_ends = h.dead_ends;
  alive_ends = h.alive_ends;
  onward = λ x q y k. ⊎_elim (λ z. inl (pend_off s p x q z)) inr (h.onward x q y k);
}

-- an alive one: there is no frame
pub leave_alive : (alive : List ℕ) (s : ℕ) (ps : List ℕ) → Along alive (s ∷ ps) [] → Along alive ps []
leave_alive alive s ps a x i = a x (there i)

nil_cons : (qs ps : List ℕ) (x : ℕ) → [] ≡ qs ++ (x ∷ ps) → ⊥
nil_cons [] ps x e = nil≢cons e
nil_cons (y ∷ qs) ps x e = nil≢cons e

-- both lists end in one state
same_last : (g k : List ℕ) (x y : ℕ) → g ++ (x ∷ []) ≡ k ++ (y ∷ []) → x ≡ y
same_last [] [] x y e = head-eq_of_cons-eq e
same_last [] (z ∷ k) x y e = absurd (nil_cons k [] y (tail-eq_of_cons-eq e))
same_last (z ∷ g) [] x y e = absurd (nil_cons g [] x (sym (tail-eq_of_cons-eq e)))
same_last (z ∷ g) (w ∷ k) x y e = same_last g k x y (tail-eq_of_cons-eq e)

-- one that is not the oldest of its frame
pub leave_inner : (alive : List ℕ) (s : ℕ) (ps g : List ℕ) (y : ℕ) (fs : List (List ℕ)) → (s ≡ y → ⊥) → Along alive (s ∷ ps) ((g ++ (y ∷ [])) ∷ fs) → Along alive ps ((g ++ (y ∷ [])) ∷ fs)
leave_inner alive s ps g y fs n (qs, x, rest, k, e, d, h, a) = go' qs e h
  where
    go' : (q : List ℕ) → s ∷ ps ≡ q ++ (x ∷ rest) → ((z : ℕ) → In z q → In z (g ++ (y ∷ []))) → Along alive ps ((g ++ (y ∷ [])) ∷ fs)
    go' [] u w = absurd (n (head-eq_of_cons-eq u ∙ sym (same_last g k y x d)))
    go' (v ∷ q) u w = (q, x, rest, k, tail-eq_of_cons-eq u, d, (λ z i. w z (there i)), a)

-- the oldest: the rest of the path lies in older frames
oldest_leaves : (alive : List ℕ) (s : ℕ) (ps g : List ℕ) (fs : List (List ℕ)) → (In s ps → ⊥) → Along alive (s ∷ ps) ((g ++ (s ∷ [])) ∷ fs) → Along alive ps fs
oldest_leaves alive s ps g fs n (qs, x, rest, k, e, d, h, a) = go' qs e
  where
    go' : (q : List ℕ) → s ∷ ps ≡ q ++ (x ∷ rest) → Along alive ps fs
    go' [] u = subst (λ l. Along alive l fs) (sym (tail-eq_of_cons-eq u)) a
    go' (v ∷ q) u = absurd (n (subst (λ l. In s l) (sym (tail-eq_of_cons-eq u)) (Memᴰ.append_right q (here (same_last g k s x d)))))

distinct_right : (xs ys : List ℕ) → Distinct (xs ++ ys) → Distinct ys
distinct_right [] ys d = d
distinct_right (x ∷ xs) ys d = distinct_right xs ys d.1

pub distinct_apart : (xs ys : List ℕ) (a : ℕ) → Distinct (xs ++ ys) → In a xs → In a ys → ⊥
distinct_apart [] ys a d i j = Memᴰ.not-nil i
distinct_apart (x ∷ xs) ys a d i j = ⊎_elim (λ e. d.0 (Memᴰ.append_right xs (Memᴰ.cast (sym e) j))) (λ k. distinct_apart xs ys a d.1 k j) (Memᴰ.cases_cons i)

-- the oldest state of the newest frame is finished: the frame is dead
pub kill : (G : Graph) (dead alive g : List ℕ) (fs : List (List ℕ)) (s : ℕ) (p : List (ℕ × List ℕ))
    → NoFinal G (record { dead = dead; alive = alive; frames = (g ++ (s ∷ [])) ∷ fs; path = (s, []) ∷ p })
    → Base G (record { dead = dead; alive = alive; frames = (g ++ (s ∷ [])) ∷ fs; path = (s, []) ∷ p })
    → Base G (record { dead = (g ++ (s ∷ [])) ++ dead; alive = alive; frames = fs; path = p })
kill G dead alive g fs s p nf h = record {
  zero_seen = forth 0 h.zero_seen;
  found = λ x y. h.found x (back x y);
  along = rest_along;
  once_path = h.once_path.1;
  once = distinct_right f (flat fs) h.once;
  not_alive = λ x i. h.not_alive x (Memᴰ.append_right f i);
  reaches = h.reaches.1;
  fenced = fenced_by G dead (f ++ dead) ((s, []) ∷ p) p f [] fs (λ u q i z. inl (pend_off s p u q z)) (λ x i. Memᴰ.append_right f i) (λ x i. inl (Memᴰ.append_left dead i)) h.fenced.1;
  dead_ends = λ x i. ⊎_elim
      (λ j. (nf x (Memᴰ.append_left (flat fs) j), λ r k. ⊎_elim (λ z. absurd (finished x j r (pend_off s p x r z))) (λ z. ⊎_elim (λ y. Memᴰ.append_right f y) (λ y. Memᴰ.append_left dead y) z) (h.fenced.0 x r j k)))
      (λ j. ((h.dead_ends x j).0, λ r k. Memᴰ.append_right f ((h.dead_ends x j).1 r k)))
      (Memᴰ.append_cases f i);
  alive_ends = h.alive_ends;
  onward = λ x q y k. ⊎_elim (λ z. inl (pend_off s p x q z)) (λ z. inr (forth (G.target q) z)) (h.onward x q (back x y) k);
}
  where
    f : List ℕ
    f = g ++ (s ∷ [])

    rest_along : Along alive (states p) fs
    rest_along = oldest_leaves alive s (states p) g fs h.once_path.0 h.along

    finished : (x : ℕ) → In x f → (r : ℕ) → Pending p x r → ⊥
    finished x j r (l, i, k) = ⊎_elim (λ z. h.not_alive x (Memᴰ.append_left (flat fs) j) z) (λ z. distinct_apart f (flat fs) x h.once j z)
        (on_path alive (states p) fs rest_along x (Memᴰ.map (λ e. e.0) i))

    forth : (x : ℕ) → In x dead ⊎ (In x alive ⊎ In x (f ++ flat fs)) → In x (f ++ dead) ⊎ (In x alive ⊎ In x (flat fs))
    forth x (inl z) = inl (Memᴰ.append_right f z)
    forth x (inr (inl z)) = inr (inl z)
    forth x (inr (inr z)) = ⊎_elim (λ y. inl (Memᴰ.append_left dead y)) (λ y. inr (inr y)) (Memᴰ.append_cases f z)

    back : (x : ℕ) → In x (f ++ dead) ⊎ (In x alive ⊎ In x (flat fs)) → In x dead ⊎ (In x alive ⊎ In x (f ++ flat fs))
    back x (inl z) = ⊎_elim (λ y. inr (inr (Memᴰ.append_left (flat fs) y))) inl (Memᴰ.append_cases f z)
    back x (inr (inl z)) = inr (inl z)
    back x (inr (inr z)) = inr (inr (Memᴰ.append_right f z))

-- The end: the path is empty, so no frame is left.
pub no_frames : (alive : List ℕ) (fs : List (List ℕ)) → Along alive [] fs → fs ≡ []
no_frames alive [] a = refl
no_frames alive (f ∷ fs) (qs, x, rest, g, e, d, h, a) = absurd (nil_cons qs rest x e)

pub alive_useful : (G : Graph) (c : Config) → Base G c → (x : ℕ) → In x c.alive → Reach G 0 x × Ends G x
alive_useful G c h x i = (h.found x (inr (inl i)), h.alive_ends x i)

pub dead_useless : (G : Graph) (c : Config) → Base G c → (x : ℕ) → In x c.dead → Ends G x → ⊥
dead_useless G c h x i (e, r, t) = true≢false (sym t ∙ (h.dead_ends e (closed G (λ y. In y c.dead) (λ y q j k. (h.dead_ends y j).1 q k) x e i r)).0)

pub unseen_unreached : (G : Graph) (dead alive : List ℕ) → Base G (record { dead = dead; alive = alive; frames = []; path = [] }) → (x : ℕ)
    → Reach G 0 x → In x dead ⊎ In x alive
unseen_unreached G dead alive h x r = ⊎_elim inl (λ z. ⊎_elim inr (λ y. absurd (Memᴰ.not-nil y)) z) (closed G (Seen (record { dead = dead; alive = alive; frames = []; path = [] })) on 0 x h.zero_seen r)
  where
    on : (y q : ℕ) → Seen (record { dead = dead; alive = alive; frames = []; path = [] }) y → In q (G.list y) → Seen (record { dead = dead; alive = alive; frames = []; path = [] }) (G.target q)
    on y q j k = ⊎_elim (λ z. absurd (Memᴰ.not-nil z.1)) (λ z. z) (h.onward y q j k)
