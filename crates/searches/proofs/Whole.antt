-- One step, whatever it is, and all steps.
use mathlib.Core.Path.{◌≡◌, refl, sym, ◌∙◌, ap, subst}
use mathlib.Core.Bool.{Bool, true, false, cond}
use mathlib.Core.List.Memᴰ
use mathlib.Core.List.Memᴰ.{head as here}
use mathlib.Core.List.Memᴰ.{tail as there}
use mathlib.Core.List.{List, [], ◌∷◌, Memᴰ as In}
use mathlib.Core.Logic.{◌⊎◌, inl, inr, ⊎_elim}
use Prim.Native.Nat.{ℕ, zero, suc, ◌+◌, ◌-◌, ◌*◌, ◌≤◌, ◌<◌}
use native.Mathlib.Omega.{arith}
use native.Mathlib.Decide.{ℕ_discrete}
use lib.Dec.{eqb}
use lib.ListN.{length}
use borrow.Author.Tests.{eq-eqb, ne_eqb}
use Rattle.searches.proofs.Search.{Graph, Reach, stay, Ends, flat, Base}
use Rattle.searches.specs.UsefulSearch.{cursor_in, open_in, status_in, place_in, bound_in, Links, Place, Found, on_white, on_final, on_open, on_alive, on_dead, on_end, killed, by_status, step_of, settled_of, opened_of, start_of, resume, run_of}
use Rattle.searches.proofs.Ties.{Cols, update, Held, graph_of, Linked, Rank, whites, Says, white, ending, unsettled, living, gone, Ties, Drawn, Tied, Ended, After}
use Rattle.searches.proofs.Steps.{alive_useful, dead_useless, unseen_unreached}
use Rattle.searches.proofs.Columns.{update_same, update_other, put_opened}
use Rattle.searches.proofs.Ranks.{whites_enter, whites_most}
use Rattle.searches.proofs.Kept.{unseen, is_ending, says_by, is_one, is_alive_lem, hand, dead_tied, white_tied}
use Rattle.searches.proofs.Leaves.{oldest_left, inner_left, alive_left, back_tied}
use Rattle.searches.proofs.Opens.{enlivened, open_tied, alive_tied, final_tied}

-- the list is at its end
pub end_tied : (L : Links) (from : ℕ → List ℕ) (fin : ℕ → Bool) (n : ℕ) {m : ℕ} → Linked L from n → (w : List ℕ) (p : Place) → p.r ≡ 0 → Tied L from fin n (suc m) w p → After L from fin n m (on_end L w p)
unfolding on_end killed
end_tied L from fin n {m} K w p e k = choose (ℕ_discrete (status_in w p.s) 1) (ℕ_discrete (place_in w p.s) (bound_in w (p.b - 1)))
  where
    h : Drawn L from fin n (suc m) w p
    h = k.drawn

    t : Ties (graph_of L from fin) n h.cols p.o p.b (record { dead = h.dead; alive = h.alive; frames = h.frames; path = (p.s, []) ∷ h.below })
    t = subst (λ (l : List ℕ). Ties (graph_of L from fin) n h.cols p.o p.b (record { dead = h.dead; alive = h.alive; frames = h.frames; path = (p.s, l) ∷ h.below })) (ap from e ∙ K.none) h.ties

    c : Rank L from n h.cols.status ((p.s, []) ∷ h.below) (suc m)
    c = subst (λ (l : List ℕ). Rank L from n h.cols.status ((p.s, l) ∷ h.below) (suc m)) (ap from e ∙ K.none) h.rank

    choose : Dec (status_in w p.s ≡ 1) → Dec (place_in w p.s ≡ bound_in w (p.b - 1)) → After L from fin n m (on_end L w p)
    choose (yes u) (yes v) = rw (eq-eqb _ _ u, eq-eqb _ _ v)
        (back_tied L from fin n _ _ (oldest_left L from fin n m w p h.cols h.dead h.alive h.below h.held c h.down h.frames t k.calm u v))
    choose (yes u) (no v) = rw (eq-eqb _ _ u, ne_eqb _ _ v)
        (back_tied L from fin n w p (inner_left L from fin n m w p h.cols h.dead h.alive h.below h.held c h.down h.frames t k.calm v))
    choose (no u) v = rw (ne_eqb _ _ u)
        (back_tied L from fin n w p (alive_left L from fin n m w p h.cols h.dead h.alive h.below h.held c h.down h.frames t k.calm u))

going : (L : Links) (w : List ℕ) (p : Place) → (on_alive L w p).done ≡ false
unfolding on_alive on_dead
going L w p = by (eqb (status_in w p.s) 1)
  where
    by : (b : Bool) → (cond b (record { work = settled_of w 2 0 p.o; at = record { d = p.d; s = p.s; r = L.next p.r; o = 0; b = 0 }; done = false }) (on_dead L w p)).done ≡ false
    by true = refl
    by false = refl

-- a record is in hand
pub record_tied : (L : Links) (from : ℕ → List ℕ) (fin : ℕ → Bool) (n : ℕ) {m : ℕ} → Linked L from n → (w : List ℕ) (p : Place) → 0 < p.r → Tied L from fin n (suc m) w p
    → After L from fin n m (by_status L w p (status_in w (L.target p.r)))
unfolding by_status on_white on_final on_open on_dead
record_tied L from fin n {m} K w p pos k = choose (is_one (graph_of L from fin) h.dead h.alive (flat h.frames) t (status_in w t)
    (subst (λ v. Says (graph_of L from fin) h.dead h.alive (flat h.frames) t v) (sym (h.held.statuses t t_below)) (h.ties.marks t t_below)))
  where
    h : Drawn L from fin n (suc m) w p
    h = k.drawn

    t : ℕ
    t = L.target p.r

    t_below : t < n
    t_below = K.target_below p.s p.r (hand L from fin n K w p h pos)

    choose : (status_in w t ≡ 0) ⊎ ((status_in w t ≡ 4) ⊎ ((status_in w t ≡ 1) ⊎ ((status_in w t ≡ 2) ⊎ (status_in w t ≡ 3)))) → After L from fin n m (by_status L w p (status_in w t))
    choose (inl e) = subst (λ v. After L from fin n m (by_status L w p v)) (sym e) (inl (refl, white_tied L from fin n K w p pos e k))
    choose (inr (inl e)) = subst (λ v. After L from fin n m (by_status L w p v)) (sym e) (inl (refl, final_tied L from fin n K w p pos e k))
    choose (inr (inr (inl e))) = subst (λ v. After L from fin n m (by_status L w p v)) (sym e) (inl (refl, open_tied L from fin n K w p pos e k))
    choose (inr (inr (inr (inl e)))) = subst (λ v. After L from fin n m (by_status L w p v)) (sym e) (inl (going L w p, alive_tied L from fin n K w p pos e k))
    choose (inr (inr (inr (inr e)))) = subst (λ v. After L from fin n m (by_status L w p v)) (sym e) (inl (refl, dead_tied L from fin n K w p pos e k))

pub step_tied : (L : Links) (from : ℕ → List ℕ) (fin : ℕ → Bool) (n : ℕ) {m : ℕ} → Linked L from n → (w : List ℕ) (p : Place) → Tied L from fin n (suc m) w p → After L from fin n m (step_of L w p)
unfolding step_of
step_tied L from fin n {m} K w p k = choose (ℕ_discrete p.r 0)
  where
    choose : Dec (p.r ≡ 0) → After L from fin n m (step_of L w p)
    choose (yes e) = rw (eq-eqb p.r 0 e) (end_tied L from fin n K w p e k)
    choose (no e) = rw (ne_eqb p.r 0 e) (record_tied L from fin n K w p (omega arith) k)

-- at the end a state is marked alive just if it is useful
pub ended_alive : (L : Links) (from : ℕ → List ℕ) (fin : ℕ → Bool) (n : ℕ) (w : List ℕ) → Ended L from fin n w → (x : ℕ) → x < n → status_in w x ≡ 2 → Reach (graph_of L from fin) 0 x × Ends (graph_of L from fin) x
ended_alive L from fin n w h x l e = alive_useful (graph_of L from fin) (record { dead = h.dead; alive = h.alive; frames = []; path = [] }) h.base x (is_alive_lem (graph_of L from fin) h.dead h.alive [] x (status_in w x) e (h.marks x l))

pub ended_useful : (L : Links) (from : ℕ → List ℕ) (fin : ℕ → Bool) (n : ℕ) (w : List ℕ) → Ended L from fin n w → (x : ℕ) → x < n → Reach (graph_of L from fin) 0 x → Ends (graph_of L from fin) x → status_in w x ≡ 2
ended_useful L from fin n w h x l r u = by (h.marks x l)
  where
    seen : In x h.dead ⊎ In x h.alive
    seen = unseen_unreached (graph_of L from fin) h.dead h.alive h.base x r

    by : Says (graph_of L from fin) h.dead h.alive [] x (status_in w x) → status_in w x ≡ 2
    by (white e f m) = absurd (⊎_elim (λ i. m (inl i)) (λ i. m (inr (inl i))) seen)
    by (ending e f m) = absurd (⊎_elim (λ i. m (inl i)) (λ i. m (inr (inl i))) seen)
    by (unsettled e i) = absurd (Memᴰ.not-nil i)
    by (living e i) = e
    by (gone e i) = absurd (dead_useless (graph_of L from fin) (record { dead = h.dead; alive = h.alive; frames = []; path = [] }) h.base x i u)

-- the start: state 0 is alone in its frame
start_base : (G : Graph) → Base G (record { dead = []; alive = []; frames = (0 ∷ []) ∷ []; path = (0, G.list 0) ∷ [] })
start_base G = record {
  zero_seen = inr (inr (here refl));
  found = λ x y. stay 0 x (sym (zero_only x y));
  along = ([], 0, [], [], refl, refl, (λ y i. absurd (Memᴰ.not-nil i)), λ x i. absurd (Memᴰ.not-nil i));
  once_path = (λ i. Memᴰ.not-nil i, tt);
  once = (λ i. Memᴰ.not-nil i, tt);
  not_alive = λ x i j. Memᴰ.not-nil j;
  reaches = (λ u v i j. stay u v (one u i ∙ sym (one v j)), tt);
  fenced = (λ u q i j. inl (G.list 0, here (ap (λ z. (z, G.list 0)) (one u i)), subst (λ z. In q (G.list z)) (one u i) j), tt);
  dead_ends = λ x i. absurd (Memᴰ.not-nil i);
  alive_ends = λ x i. absurd (Memᴰ.not-nil i);
  onward = λ x q y k. inl (G.list 0, here (ap (λ z. (z, G.list 0)) (zero_only x y)), subst (λ z. In q (G.list z)) (zero_only x y) k);
}
  where
    one : (x : ℕ) → In x (0 ∷ []) → x ≡ 0
    one x i = ⊎_elim (λ e. e) (λ j. absurd (Memᴰ.not-nil j)) (Memᴰ.cases_cons i)

    zero_only : (x : ℕ) → In x [] ⊎ (In x [] ⊎ In x (0 ∷ [])) → x ≡ 0
    zero_only x (inl i) = absurd (Memᴰ.not-nil i)
    zero_only x (inr (inl i)) = absurd (Memᴰ.not-nil i)
    zero_only x (inr (inr i)) = one x i

start_drawn : (L : Links) (from : ℕ → List ℕ) (fin : ℕ → Bool) (n m : ℕ) → Linked L from n → 0 < n → (w : List ℕ) (a : Cols) → Held n w a → ((x : ℕ) → x < n → Says (graph_of L from fin) [] [] [] x (a.status x)) → whites (λ x. length (from (L.first x))) a.status n ≤ m
    → (g : Drawn L from fin n m (opened_of w 0 0 0) (record { d = 0; s = 0; r = L.first 0; o = 1; b = 1 })) × (flat g.frames ≡ 0 ∷ [])
start_drawn L from fin n m K pos w a k marks c = (
  record {
    cols = record { cursor = a.cursor; opens = update a.opens 0 0; status = update a.status 0 1; place = update a.place 0 0; bound = update a.bound 0 0 };
    dead = [];
    alive = [];
    frames = (0 ∷ []) ∷ [];
    below = [];
    held = put_opened n w a 0 0 0 pos pos pos K.small k;
    ties = record {
      base = start_base (graph_of L from fin);
      within = λ x y. ⊎_elim (λ i. absurd (Memᴰ.not-nil i)) (λ z. ⊎_elim (λ i. absurd (Memᴰ.not-nil i)) (λ i. subst (λ y. y < n) (sym (one x i)) pos) z) y;
      own = λ e i q j. ⊎_elim (λ z. subst (λ y. In q (from (L.first y.0))) (sym z) (subst (λ y. In q y.1) z j)) (λ y. absurd (Memᴰ.not-nil y)) (Memᴰ.cases_cons i);
      opened = (update_same a.opens 0 0 0 refl, update_same a.place 0 0 0 refl, tt);
      count = refl;
      cuts = (update_same a.bound 0 0 0 refl, tt);
      parts = refl;
      lit = λ x i. update_same a.status 0 1 x (one x i);
      marks = λ x l. mark x l (ℕ_discrete x 0);
    };
    rank = let z = whites_enter (λ x. length (from (L.first x))) a.status 0 n pos (unseen (graph_of L from fin) [] [] [] 0 (a.status 0) nothing (marks 0 pos)) in omega (arith, z, c);
    down = (refl, refl);
  },
  refl,
)
  where
    one : (x : ℕ) → In x (0 ∷ []) → x ≡ 0
    one x i = ⊎_elim (λ e. e) (λ j. absurd (Memᴰ.not-nil j)) (Memᴰ.cases_cons i)

    nothing : In {A = ℕ} 0 [] ⊎ (In {A = ℕ} 0 [] ⊎ In {A = ℕ} 0 []) → ⊥
    nothing (inl i) = Memᴰ.not-nil i
    nothing (inr (inl i)) = Memᴰ.not-nil i
    nothing (inr (inr i)) = Memᴰ.not-nil i

    mark : (x : ℕ) → x < n → Dec (x ≡ 0) → Says (graph_of L from fin) [] [] (0 ∷ []) x (update a.status 0 1 x)
    mark x l (yes z) = unsettled (update_same a.status 0 1 x z) (here z)
    mark x l (no z) = subst (λ v. Says (graph_of L from fin) [] [] (0 ∷ []) x v) (sym (update_other a.status 0 1 x z))
        (says_by (graph_of L from fin) [] [] [] [] [] (0 ∷ []) x (a.status x) (λ y. ⊎_elim inl (λ u. inr (⊎_elim inl (λ i. absurd (z (one x i))) u)) y) (λ i. i) (λ i. i) there (marks x l))

pub start_tied : (L : Links) (from : ℕ → List ℕ) (fin : ℕ → Bool) (n m : ℕ) → Linked L from n → 0 < n → (w : List ℕ) (a : Cols) → Held n w a → ((x : ℕ) → x < n → Says (graph_of L from fin) [] [] [] x (a.status x)) → whites (λ x. length (from (L.first x))) a.status n ≤ m
    → After L from fin n m (start_of L w)
unfolding start_of
start_tied L from fin n m K pos w a k marks c = choose (ℕ_discrete (status_in w 0) 4)
  where
    g : (g : Drawn L from fin n m (opened_of w 0 0 0) (record { d = 0; s = 0; r = L.first 0; o = 1; b = 1 })) × (flat g.frames ≡ 0 ∷ [])
    g = start_drawn L from fin n m K pos w a k marks c

    at_zero : Says (graph_of L from fin) [] [] [] 0 (status_in w 0)
    at_zero = subst (λ v. Says (graph_of L from fin) [] [] [] 0 v) (sym (k.statuses 0 pos)) (marks 0 pos)

    plain : (v : ℕ) → (v ≡ 4 → ⊥) → Says (graph_of L from fin) [] [] [] 0 v → fin 0 ≡ false
    plain v u (white e f m) = f
    plain v u (ending e f m) = absurd (u e)
    plain v u (unsettled e i) = absurd (Memᴰ.not-nil i)
    plain v u (living e i) = absurd (Memᴰ.not-nil i)
    plain v u (gone e i) = absurd (Memᴰ.not-nil i)

    choose : Dec (status_in w 0 ≡ 4) → After L from fin n m (start_of L w)
    choose (yes e) =
        let z = enlivened L from fin n (opened_of w 0 0 0) (record { d = 0; s = 0; r = L.first 0; o = 1; b = 1 }) g.0 (0, stay 0 0 refl, (is_ending (graph_of L from fin) [] [] [] 0 (status_in w 0) e at_zero).0) in
        rw (eq-eqb (status_in w 0) 4 e) (inl (refl, record { drawn = z.0; calm = λ x j. absurd (Memᴰ.not-nil (subst (λ (fs : List (List ℕ)). In x (flat fs)) z.1 j)) }))
    choose (no e) = rw (ne_eqb (status_in w 0) 4 e) (inl (
      refl,
      record {
        drawn = g.0;
        calm = λ x j. ⊎_elim (λ z. subst (λ y. fin y ≡ false) (sym z) (plain (status_in w 0) e at_zero)) (λ i. absurd (Memᴰ.not-nil i)) (Memᴰ.cases_cons (subst (λ (l : List ℕ). In x l) g.1 j));
      },
    ))

-- with fuel for what is left to do, the run ends
pub run_ended_lem : (L : Links) (from : ℕ → List ℕ) (fin : ℕ → Bool) (n : ℕ) → Linked L from n → (k m : ℕ) (f : Found) → m ≤ k → After L from fin n m f → ((run_of L k f).done ≡ true) × Ended L from fin n (run_of L k f).work
unfolding run_of resume
run_ended_lem L from fin n K zero m f l (inl (e, t)) = let z = t.drawn.rank in absurd (omega (arith, z))
run_ended_lem L from fin n K zero m f l (inr h) = h
run_ended_lem L from fin n K (suc k) zero f l (inl (e, t)) = let z = t.drawn.rank in absurd (omega (arith, z))
run_ended_lem L from fin n K (suc k) (suc m) f l (inl (e, t)) = subst (λ b. ((resume L b f (λ g. run_of L k g)).done ≡ true) × Ended L from fin n (resume L b f (λ g. run_of L k g)).work) (sym e)
    (run_ended_lem L from fin n K k m (step_of L f.work f.at) (omega arith) (step_tied L from fin n K f.work f.at t))
run_ended_lem L from fin n K (suc k) m f l (inr (e, h)) = subst (λ b. ((resume L b f (λ g. run_of L k g)).done ≡ true) × Ended L from fin n (resume L b f (λ g. run_of L k g)).work) (sym e) (e, h)

-- The search on words that say at first which states are final: it ends, and marks just the useful states.
abbrev pub Marked : Links → (ℕ → List ℕ) → (ℕ → Bool) → ℕ → Found → Type 0
Marked L from fin n f = (f.done ≡ true) × ((x : ℕ) → x < n
    → (status_in f.work x ≡ 2 → Reach (graph_of L from fin) 0 x × Ends (graph_of L from fin) x) × (Reach (graph_of L from fin) 0 x → Ends (graph_of L from fin) x → status_in f.work x ≡ 2))

pub search_marks : (L : Links) (from : ℕ → List ℕ) (fin : ℕ → Bool) (n c k : ℕ) → Linked L from n → 0 < n → ((x : ℕ) → x < n → length (from (L.first x)) ≤ c) → n * (c + 2) ≤ k
    → (w : List ℕ) → 2 * n ≤ length w → ((x : ℕ) → x < n → status_in w x ≡ cond (fin x) 4 0) → Marked L from fin n (run_of L k (start_of L w))
search_marks L from fin n c k K pos few fuel w long marks = (end.0, λ x l. (ended_alive L from fin n _ end.1 x l, ended_useful L from fin n _ end.1 x l))
  where
    cols : Cols
    cols = record { cursor = λ i. cursor_in w i; opens = λ i. open_in w i; status = λ i. status_in w i; place = λ i. place_in w i; bound = λ i. bound_in w i }

    held : Held n w cols
    held = record { long = long; cursors = λ i l. refl; openings = λ i l. refl; statuses = λ i l. refl; places = λ i l. refl; bounds = λ i l. refl }

    nothing : (x : ℕ) → In x [] ⊎ (In x [] ⊎ In x []) → ⊥
    nothing x (inl i) = Memᴰ.not-nil i
    nothing x (inr (inl i)) = Memᴰ.not-nil i
    nothing x (inr (inr i)) = Memᴰ.not-nil i

    says : (x : ℕ) (b : Bool) → fin x ≡ b → status_in w x ≡ cond b 4 0 → Says (graph_of L from fin) [] [] [] x (status_in w x)
    says x true e f = ending f e (nothing x)
    says x false e f = white f e (nothing x)

    end : ((run_of L k (start_of L w)).done ≡ true) × Ended L from fin n (run_of L k (start_of L w)).work
    end = run_ended_lem L from fin n K k (n * (c + 2)) (start_of L w) fuel
        (start_tied L from fin n (n * (c + 2)) K pos w cols held (λ x l. says x (fin x) refl (marks x l)) (whites_most (λ x. length (from (L.first x))) (λ i. status_in w i) c n few))
