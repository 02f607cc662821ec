-- After an accepted expansion the checks 1 to 8 pass again, on any memory that passed them before: so a run need check once.
use mathlib.Core.Path.{◌≡◌, refl, sym, ◌∙◌, ap, subst}
use mathlib.Core.Bool.{Bool, true, false, not, cond}
use mathlib.Core.List.{Memᴰ as In}
use mathlib.Core.Logic.{◌≢◌}
use Prim.Native.Nat.{ℕ, ◌+◌, ◌≤◌, ◌<◌}
use native.Mathlib.Omega.{arith}
use lib.Dec.{eqb, leb}
use lib.ListN.{length}
use borrow.Author.Tests.{eqb-true, eqb-false, eq-eqb, leb-false, not-false}
use Rattle.lists.proofs.Members.{and_left, and_right}
use Rattle.words.specs.Labels.{Checked, good, refused, and_then}
use Rattle.words.specs.Machines.{state_count, well_formed}
use Rattle.words.specs.Ignored.{ignored_ok}
use Rattle.words.specs.Sides.{Side, side_of}
use Rattle.words.specs.Steps.{Composition, Step, steps_at}
use Rattle.words.specs.Settings.{Settings, settings_ok, Lent, operand1, operand2, composition_of}
use Rattle.words.proofs.CheckedLaws.{good≢refused, good_is, past_check, past_then}
use Rattle.words.proofs.StepRange.{InRange, steps_in_range}
use Rattle.calls.specs.Store.{Memory, Used, Store, triple_at, expanded_at, mark, Part, mark_with}
use Rattle.calls.specs.Forms.{fits}
use Rattle.calls.specs.Checks.{Session, side_number, store_of, side_for, session_ok, entered, entered_at, entered_at_with, entered_with, session_ok_with, side_for_with}
use Rattle.calls.specs.Calls.{Done, settle, store_steps, new_part, expansion, expand_by, expand_of, expand_with, expansion_with}
use Rattle.calls.proofs.StoreForms.{Form, form_of, of_form}
use Rattle.calls.proofs.FormKept.{mark_form}
use Rattle.calls.proofs.StepsKept.{steps_kept, longer}

-- what the checks 1 to 7 and 18 leave: the machines are well formed, the ignored labels are neither 0 nor MAX
pub record Sided (s : Settings) (l : Lent) (side : Side) : Type 0 where
  pub settings : settings_ok s ≡ true
  pub formed1 : well_formed l.m1 ≡ true
  pub formed2 : well_formed l.m2 ≡ true
  pub listed : ignored_ok l.ignored ≡ true
  pub rule : side_of (operand1 s l) (operand2 s l) ≡ good side

pub sided : (s : Settings) (l : Lent) (side : Side) → side_for s l ≡ good side → Sided s l side
unfolding side_for_with
sided s l side e =
    let a = past_check (not (settings_ok s)) 1 _ side e in
    let b = past_check (not (well_formed l.m1)) 2 _ side a.1 in
    let c = past_check (not (well_formed l.m2)) 3 _ side b.1 in
    let d = past_check (not (ignored_ok l.ignored)) 18 _ side c.1 in
    record {
      settings = not-false (settings_ok s) a.0;
      formed1 = not-false (well_formed l.m1) b.0;
      formed2 = not-false (well_formed l.m2) c.0;
      listed = not-false (ignored_ok l.ignored) d.0;
      rule = d.1;
    }

-- what the checks 1 to 8 leave: the side of the rule, and form
pub record Entered (l : Lent) (s : Session) (m : Memory) (c : Composition) : Type 0 where
  pub side : Side
  pub rule : side_for s.settings l ≡ good side
  pub same : s.side ≡ side_number side
  pub composition : c ≡ composition_of s.settings l side
  pub form : Form (state_count l.m1) (state_count l.m2) (store_of s m) s.used.trs

module _ (l : Lent) where
  abbrev S1 : ℕ
  S1 = state_count l.m1

  abbrev S2 : ℕ
  S2 = state_count l.m2

  pub entered_is : (s : Session) (m : Memory) (c : Composition) → entered l s m ≡ good c → Entered l s m c
  unfolding entered_with session_ok_with
  entered_is s m c e =
      let a = past_then (side_for s.settings l) _ c e in
      let b = past_check (not (session_ok l s m a.0)) 8 _ c a.2 in
      let ok = not-false (session_ok l s m a.0) b.0 in
      let rest = and_right (eqb s.side (side_number a.0)) _ ok in
      record {
        side = a.0;
        rule = a.1;
        same = eqb-true _ _ (and_left (eqb s.side (side_number a.0)) _ ok);
        composition = sym (good_is b.1);
        form = form_of S1 S2 (store_of s m) (and_left (fits (store_of s m)) _ rest) (and_right (fits (store_of s m)) _ rest);
      }

  pub is_entered : (s : Session) (m : Memory) (c : Composition) → Entered l s m c → entered l s m ≡ good c
  unfolding entered_with session_ok_with
  is_entered s m c h =
      let f = of_form S1 S2 (store_of s m) h.form in
      rw (h.rule, eq-eqb s.side (side_number h.side) h.same, f.0, f.1) (ap good (sym h.composition))

  -- the first of the new records is used, or there is none
  first_used : (before after : Used) (count : ℕ) → after.trs ≡ before.trs + count → (new_part before after).first ≤ after.trs
  first_used before after count e = go (eqb after.trs before.trs) refl
    where
      go : (b : Bool) → eqb after.trs before.trs ≡ b → cond b 0 (before.trs + 1) ≤ after.trs
      go true p = omega arith
      go false p = let n : after.trs ≢ before.trs = eqb-false _ _ p in omega (arith, n, e)

  in_range : (s : Session) (m : Memory) (c : Composition) (n : ℕ) → Entered l s m c → n < s.used.states → (st : Step) → In (good st) (steps_at c (triple_at m.states n)) → InRange S1 S2 st.to
  in_range s m c n h found st i =
      let z = sided s.settings l h.side h.rule in
      let t = triple_at m.states n in
      steps_in_range s.settings l h.side z.formed1 z.formed2 z.rule t (h.form.state n found).triple st (subst (λ o. In (good st) (steps_at o t)) h.composition i)

  -- the targets of a found state's steps are in range
  pub steps_range : (s : Session) (m : Memory) (c : Composition) → entered l s m ≡ good c → (n : ℕ) → n < s.used.states → (st : Step) → In (good st) (steps_at c (triple_at m.states n)) → InRange S1 S2 st.to
  steps_range s m c e n found st i = in_range s m c n (entered_is s m c e) found st i

  -- the store after the steps, marked
  marked : (s : Session) (m : Memory) (c : Composition) (n : ℕ) (d : Store) → Entered l s m c → n < s.used.states → store_steps (store_of s m) (steps_at c (triple_at m.states n)) ≡ good d
      → Form S1 S2 (mark d n (new_part s.used d.used).first) d.used.trs
  marked s m c n d h found e =
      let z = sided s.settings l h.side h.rule in
      let steps = steps_at c (triple_at m.states n) in
      let more = longer (store_of s m) (s.used.trs + length steps) h.form (omega arith) in
      let k = steps_kept (store_of s m) (s.used.trs + length steps) steps d more (λ st i. in_range s m c n h found st i) (omega (arith, found)) refl e in
      mark_form d k.form n (new_part s.used d.used).first (omega (arith, found, k.states)) (first_used s.used d.used (length steps) k.trs)

  -- the expansion of an unexpanded state
  expansion_kept : (s : Session) (m : Memory) (c : Composition) (n : ℕ) (r : Done Part) → Entered l s m c → n < s.used.states → expansion c s m n ≡ good r → Entered l r.session r.memory c
  unfolding expansion_with mark_with
  expansion_kept s m c n r h found e =
      let x = past_then (store_steps (store_of s m) (steps_at c (triple_at m.states n))) _ r e in
      let p = new_part s.used x.0.used in
      subst (λ (o : Done Part). Entered l o.session o.memory c) (good_is x.2)
      (record { side = h.side; rule = h.rule; same = h.same; composition = h.composition; form = marked s m c n x.0 h found x.1 })

  by_kept : (s : Session) (m : Memory) (c : Composition) (n : ℕ) (b : Bool) (r : Done Part) → Entered l s m c → n < s.used.states → expand_by c s m n b ≡ good r → Entered l r.session r.memory c
  by_kept s m c n true r h found e = subst (λ (o : Done Part). Entered l o.session o.memory c) (good_is e) h
  by_kept s m c n false r h found e = expansion_kept s m c n r h found e

  settled : (s : Session) (m : Memory) (c : Composition) (x : Checked (Done Part)) (p : Part) → ((r : Done Part) → x ≡ good r → Entered l r.session r.memory c) → (settle s m x).answer ≡ good p
      → entered l (settle s m x).session (settle s m x).memory ≡ good c
  settled s m c (good r) p h e = is_entered r.session r.memory c (h r refl)
  settled s m c (refused k) p h e = absurd (good≢refused (sym e))

  -- an accepted expansion, of a state expanded before or not, leaves a session and memory that pass the checks 1 to 8 with the same composition
  pub expand_kept : (s : Session) (m : Memory) (n : ℕ) (c : Composition) (p : Part) → entered l s m ≡ good c → (expand_of l s m n).answer ≡ good p
      → entered l (expand_of l s m n).session (expand_of l s m n).memory ≡ good c
  unfolding expand_with entered_at_with
  expand_kept s m n c p e = settled s m c (and_then (entered_at l s m n) (λ c. expand_by c s m n (eqb (expanded_at m.states n) 1))) p done
    where
      done : (r : Done Part) → and_then (entered_at l s m n) (λ c. expand_by c s m n (eqb (expanded_at m.states n) 1)) ≡ good r → Entered l r.session r.memory c
      done r h =
          let x = past_then (entered_at l s m n) _ r h in
          let y = past_then (entered l s m) _ x.0 x.1 in
          let k = past_check (leb s.used.states n) 9 _ x.0 y.2 in
          let same : x.0 ≡ c = sym (good_is k.1) ∙ good_is (sym y.1 ∙ e) in
          by_kept s m c n (eqb (expanded_at m.states n) 1) r (entered_is s m c e) (leb-false _ _ k.0) (subst (λ o. expand_by o s m n (eqb (expanded_at m.states n) 1) ≡ good r) same x.2)
