-- A session whose checks pass has the side of the rule: it is the one that the composition below it stands for.
use mathlib.Core.Path.{◌≡◌, refl, sym, ◌∙◌, ap, subst}
use mathlib.Core.Bool.{Bool, true, false, not, ◌&&◌}
use mathlib.Core.List.{List}
use Prim.Native.Nat.{ℕ, zero, suc, ◌<◌}
use lib.Dec.{eqb, leb}
use borrow.Author.Tests.{lt-leb, leb-false}
use Rattle.words.specs.Labels.{no_label, good, and_then}
use Rattle.words.specs.Matches.{MatchType, inputs, outputs}
use Rattle.words.specs.Ignored.{Ignored, acceptor_read}
use Rattle.words.specs.Sigmas.{rewrites_both}
use Rattle.words.specs.Sides.{Side, only, both}
use Rattle.words.specs.Settings.{Lent, composition_of}
use Rattle.words.specs.Steps.{Composition, final_at}
use Rattle.words.proofs.ReplacedLaws.{read_acceptor}
use Rattle.words.proofs.CheckedLaws.{past_check, past_then}
use Rattle.calls.specs.Store.{Memory, triple_at}
use Rattle.calls.specs.Checks.{Session, side_number, entered, entered_at, Passes, entered_at_with}
use Rattle.calls.specs.Calls.{settle, unchanged, final_weight_of, final_weight_with}
use Rattle.calls.proofs.ExpandKept.{entered_is}
use Rattle.match_type.specs.Chosen.{side_means}
use Rattle.match_type.specs.declared.Side.{Side as CodeSide}
use Rattle.compose_fst_op.specs.Composing.{replacing, composing}
use Rattle.compose_fst_op.proofs.Composed.{composing_is}
use Rattle.compose_store.specs.Meaning.{session_under}
use Rattle.store_records.specs.Meaning.{used_means}
use Rattle.session_checks.specs.Meaning.{settings_means, side_numbered}
use Rattle.lazy_fst.specs.Meaning.{lent_with, session_means, sigma_mark, options_of}
use Rattle.lazy_fst.specs.declared.Session.{Session as Latest}
use Rattle.lazy_fst.specs.declared.AllowedLists.{AllowedLists}

numbered : (side : Side) → side_numbered (side_number side) ≡ side
numbered (only inputs) = refl
numbered (only outputs) = refl
numbered both = refl

module _ (l : Lent) where
  -- the checks 1 to 9 are the checks 1 to 8, and that the state is found
  pub at_entered : (s : Session) (m : Memory) (n : ℕ) (c : Composition) → entered_at l s m n ≡ good c → (entered l s m ≡ good c) × (n < s.used.states)
  unfolding entered_at_with
  at_entered s m n c e =
      let x = past_then (entered l s m) _ c e in
      let k = past_check (leb s.used.states n) 9 _ c x.2 in
      (x.1 ∙ k.1, leb-false _ _ k.0)

  -- the answer of the checks 1 to 8, where it is a side, says that they pass
  pub passes_by : (s : Latest) (m : Memory) (side : CodeSide) → good (composition_of (settings_means s.settings) l (side_means side)) ≡ entered l (session_means s) m → Passes l (session_means s) m
  passes_by s m side e = (composition_of (settings_means s.settings) l (side_means side), sym e)

  same_side : (s : Session) (m : Memory) (side : Side) → entered l s m ≡ good (composition_of s.settings l side) → s.side ≡ side_number side
  same_side s m side e =
      let h = entered_is l s m _ e in
      h.same ∙ ap side_number (sym (ap (λ (c : Composition). c.side) h.composition))

  session_is : (s : Latest) (m : Memory) (listed : AllowedLists) (side : CodeSide) → entered l (session_means s) m ≡ good (composition_of (settings_means s.settings) l (side_means side))
      → session_means s ≡ session_under (options_of s.settings listed side l.m1 l.m2 l.ignored) s.used
  session_is s m listed side e =
      ap (λ (k : ℕ). record { settings = settings_means s.settings; side = k; used = used_means s.used }) (same_side (session_means s) m (side_means side) e)

  -- The session, and the checks 1 to 8, in the words of the composition below.
  pub record Goes (s : Latest) (m : Memory) (listed : AllowedLists) (side : CodeSide) : Type 0 where
    pub same : session_means s ≡ session_under (options_of s.settings listed side l.m1 l.m2 l.ignored) s.used
    pub passes : entered l (session_under (options_of s.settings listed side l.m1 l.m2 l.ignored) s.used) m ≡ good (composition_of (settings_means s.settings) l (side_means side))

  pub goes : (s : Latest) (m : Memory) (listed : AllowedLists) (side : CodeSide) → entered l (session_means s) m ≡ good (composition_of (settings_means s.settings) l (side_means side)) → Goes s m listed side
  goes s m listed side e =
      let q = session_is s m listed side e in
      record { same = q; passes = subst (λ (t : Session). entered l t m ≡ good (composition_of (settings_means s.settings) l (side_means side))) q e }

  -- where the checks pass, the composition is that of the side with the session's number
  pub known : (s : Latest) (m : Memory) (side : CodeSide) → Passes l (session_means s) m → side_means side ≡ side_numbered s.side
      → entered l (session_means s) m ≡ good (composition_of (settings_means s.settings) l (side_means side))
  known s m side p q =
      let h = entered_is l (session_means s) m p.0 p.1 in
      let e : side_means side ≡ h.side = q ∙ ap side_numbered h.same ∙ numbered h.side in
      p.1 ∙ ap good (h.composition ∙ ap (composition_of (settings_means s.settings) l) (sym e))

  pub goes_known : (s : Latest) (m : Memory) (listed : AllowedLists) (side : CodeSide) → Passes l (session_means s) m → side_means side ≡ side_numbered s.side → Goes s m listed side
  goes_known s m listed side p q = goes s m listed side (known s m side p q)

  -- a found state, where the checks 1 to 8 pass
  pub found_weight : (s : Session) (m : Memory) (n : ℕ) (c : Composition) → entered l s m ≡ good c → n < s.used.states
      → settle s m (and_then (final_at c (triple_at m.states n)) (λ w. good (unchanged s m w))) ≡ final_weight_of l s m n
  unfolding final_weight_with entered_at_with
  found_weight s m n c e h = rw (e, lt-leb _ _ h)

-- the marks that the options hold lead to the rewriting of the definition
module _ (on : MatchType) (g : Ignored) (m : List ℕ) (sigma : ℕ) where
  by_mode : (mode : ℕ) → eqb sigma no_label ≡ false → rewrites_both mode (sigma_mark on g m sigma mode) ≡ rewrites_both mode (acceptor_read on g m)
  unfolding sigma_mark
  by_mode zero e = rw (e, read_acceptor on g m)
  by_mode (suc zero) e = refl
  by_mode (suc (suc n)) e = refl

  pub marks_rewrite : (mode : ℕ) → not (eqb sigma no_label) && rewrites_both mode (sigma_mark on g m sigma mode) ≡ not (eqb sigma no_label) && rewrites_both mode (acceptor_read on g m)
  marks_rewrite mode = go (eqb sigma no_label) refl
    where
      go : (b : Bool) → eqb sigma no_label ≡ b → not b && rewrites_both mode (sigma_mark on g m sigma mode) ≡ not b && rewrites_both mode (acceptor_read on g m)
      go true e = refl
      go false e = by_mode mode e

-- so the composition of the code is the definition's, and a call that goes on does so in the words of the composition below
module _ (m1 m2 a1 a2 ignored : List ℕ) (listed : AllowedLists) where
  abbrev lent : Lent
  lent = lent_with m1 m2 a1 a2 ignored listed

  pub goes_composing : (s : Latest) (m : Memory) (side : CodeSide) → Goes lent s m listed side
      → let o = options_of s.settings listed side m1 m2 ignored in entered lent (session_under o s.used) m ≡ good (composing o m1 m2 a1 a2 ignored)
  goes_composing s m side h =
      let o = options_of s.settings listed side m1 m2 ignored in
      let g = replacing o ignored in
      h.passes
      ∙ ap good (sym (composing_is o m1 m2 a1 a2 ignored (marks_rewrite outputs g m1 s.settings.sigma1.0 s.settings.mode1) (marks_rewrite inputs g m2 s.settings.sigma2.0 s.settings.mode2)))
