-- What follows from a correspondence: every b comes from exactly one a; correspondences can be turned round and chained, with one that is onto too; lists, sums and the least go over.
use mathlib.Core.Path.{◌≡◌, refl, sym, ◌∙◌, ap, subst}
use mathlib.Core.List.Memᴰ
use mathlib.Core.List.Memᴰ.{head as here}
use mathlib.Core.List.Memᴰ.{tail as there}
use mathlib.Core.List.{List, [], ◌∷◌, map, Memᴰ as In}
use mathlib.Core.Logic.{◌↔◌}
use Rattle.lists.specs.Lists.{Distinct, Enumerates}
use Rattle.papers.specs.Weight.{Semiring, CommutativeSemiring}
use Rattle.papers.specs.Sums.{SumIs, LeastIs}
use Rattle.papers.proofs.SumLaws.{total_equal, total_map}
use Rattle.readings.specs.Correspondence.{OneToOne, Onto}

module _ {A B : Type 0} {P : A → Type 0} {Q : B → Type 0} {to : A → B} {from : B → A} (c : OneToOne P Q to from) where
  -- each b with Q comes from an a with P, and from no other
  pub exactly_one : (b : B) → Q b → (a : A) × P a × (to a ≡ b) × ((a' : A) → P a' → to a' ≡ b → a' ≡ a)
  exactly_one b q = (from b, c.comes b q, c.to_from b q, λ a' p e. sym (c.from_to a' p) ∙ ap from e)

  pub turned : OneToOne Q P from to
  turned = record { goes = c.comes; comes = c.goes; from_to = c.to_from; to_from = c.from_to }

pub onto : {A B : Type 0} {P : A → Type 0} {Q : B → Type 0} {to : A → B} {from : B → A} → OneToOne P Q to from → Onto P Q to from
onto c = record { goes = c.goes; comes = c.comes; to_from = c.to_from }

pub chained_onto : {A B D : Type 0} {P : A → Type 0} {Q : B → Type 0} {R : D → Type 0} {to : A → B} {from : B → A} {on : B → D} {off : D → B}
    → OneToOne P Q to from → Onto Q R on off → Onto P R (λ a. on (to a)) (λ d. from (off d))
chained_onto {to = to} {on = on} {off = off} c d = record {
  goes = λ a p. d.goes (to a) (c.goes a p);
  comes = λ r q. c.comes (off r) (d.comes r q);
  to_from = λ r q. ap on (c.to_from (off r) (d.comes r q)) ∙ d.to_from r q;
}

pub chained : {A B D : Type 0} {P : A → Type 0} {Q : B → Type 0} {R : D → Type 0} {to : A → B} {from : B → A} {on : B → D} {off : D → B}
    → OneToOne P Q to from → OneToOne Q R on off → OneToOne P R (λ a. on (to a)) (λ d. from (off d))
chained {to = to} {from = from} c d =
    let o = chained_onto c (onto d) in
    record { goes = o.goes; comes = o.comes; from_to = λ a p. ap from (d.from_to (to a) (c.goes a p)) ∙ c.from_to a p; to_from = o.to_from }

-- what holds of the same b may stand for Q
pub exchanged_onto : {A B : Type 0} {P : A → Type 0} {Q R : B → Type 0} {to : A → B} {from : B → A} → ((b : B) → Q b ↔ R b) → Onto P Q to from → Onto P R to from
exchanged_onto {to = to} f c = record { goes = λ a p. (f (to a)).0 (c.goes a p); comes = λ b r. c.comes b ((f b).1 r); to_from = λ b r. c.to_from b ((f b).1 r) }

pub exchanged : {A B : Type 0} {P : A → Type 0} {Q R : B → Type 0} {to : A → B} {from : B → A} → ((b : B) → Q b ↔ R b) → OneToOne P Q to from → OneToOne P R to from
exchanged f c =
    let o = exchanged_onto f (onto c) in
    record { goes = o.goes; comes = o.comes; from_to = c.from_to; to_from = o.to_from }

-- and where their weights are equal, the same least one
pub same_least : (K : Semiring) {A B : Type 0} {P : A → Type 0} {Q : B → Type 0} {to : A → B} {from : B → A} (v : A → K.Element) (w : B → K.Element) (e : K.Element)
    → Onto P Q to from → ((a : A) → P a → v a ≡ w (to a)) → LeastIs K P v e ↔ LeastIs K Q w e
same_least K {Q = Q} {to = to} {from = from} v w e o h = (
  λ x. (to x.0, o.goes x.0 x.1, sym (h x.0 x.1) ∙ x.2, λ b q. ap (K.plus e) (sym (back b q)) ∙ x.3 (from b) (o.comes b q)),
  λ x. (from x.0, o.comes x.0 x.1, back x.0 x.1 ∙ x.2, λ a p. ap (K.plus e) (h a p) ∙ x.3 (to a) (o.goes a p)),
)
  where
    back : (b : _) → Q b → v (from b) ≡ w b
    back b q = h (from b) (o.comes b q) ∙ ap w (o.to_from b q)

-- a list of the ones, each once, gives a list of the others
distinct_image : {A B : Type 0} (g : A → B) (l : List A) → ((a b : A) → In a l → In b l → g a ≡ g b → a ≡ b) → Distinct l → Distinct (map g l)
distinct_image g [] h d = tt
distinct_image g (x ∷ l) h d = (
  λ i. let r = Memᴰ.of_map g l i in d.0 (Memᴰ.cast (h x r.0 (here refl) (there r.1) (sym r.2)) r.1),
  distinct_image g l (λ a b i j. h a b (there i) (there j)) d.1,
)

pub image : {A B : Type 0} {P : A → Type 0} {Q : B → Type 0} {to : A → B} {from : B → A} (l : List A) → OneToOne P Q to from → Enumerates l P → Enumerates (map to l) Q
image {Q = Q} {to = to} {from = from} l o e = record {
  once = distinct_image to l (λ a b i j q. sym (o.from_to a ((e.exactly a).0 i)) ∙ (ap from q ∙ o.from_to b ((e.exactly b).0 j))) e.once;
  exactly = λ b. (
    λ i. let r = Memᴰ.of_map to l i in subst Q r.2 (o.goes r.0 ((e.exactly r.0).0 r.1)),
    λ q. Memᴰ.cast (sym (o.to_from b q)) (Memᴰ.map to ((e.exactly (from b)).1 (o.comes b q))),
  );
}

-- and where their weights are equal, the same sum
module _ (K : Semiring) (L : CommutativeSemiring K) where
  summed : {A B : Type 0} {P : A → Type 0} {Q : B → Type 0} {to : A → B} {from : B → A} (v : A → K.Element) (w : B → K.Element) (e : K.Element)
      → OneToOne P Q to from → ((a : A) → P a → v a ≡ w (to a)) → SumIs K P v e → SumIs K Q w e
  summed {to = to} v w e o h s = (
    map to s.0,
    image s.0 o s.1,
    total_map K L to w s.0 ∙ (sym (total_equal K L v (λ a. w (to a)) s.0 (λ a i. h a ((s.1.exactly a).0 i))) ∙ s.2),
  )

  pub same_sum : {A B : Type 0} {P : A → Type 0} {Q : B → Type 0} {to : A → B} {from : B → A} (v : A → K.Element) (w : B → K.Element) (e : K.Element)
      → OneToOne P Q to from → ((a : A) → P a → v a ≡ w (to a)) → SumIs K P v e ↔ SumIs K Q w e
  same_sum {from = from} v w e o h = (summed v w e o h, summed w v e (turned o) (λ b q. ap w (sym (o.to_from b q)) ∙ sym (h (from b) (o.comes b q))))
