-- What a legal picture has, and what the contents of a value are.
use Rattle.std.specs.Prelude.{◌≡◌, ◌<◌, Bool, true, false, length, ◌==◌, nat_lt, refl}
use Rattle.std.proofs.Common.{ap}
use Rattle.std.proofs.Math.Bool.{Bool-set}
use mathlib.Core.HLevel.{Σ_prop_path}
use Rattle.std.proofs.lemmas.Slice.Eq.{bytes_eq-Decides}
use Rattle.std.proofs.lemmas.Bool.{and_parts, ltb-true, eqb-true, both_ways}
use Rattle.std.proofs.lemmas.Bool.Decides.{Decides-and, Decides-eqb, Decides-like}
use Rattle.state.specs.Kind.{Exact}
use Rattle.screen.specs.Runs.{all_characters}
use Rattle.screen.specs.Screen.{Picture, on_screen, legal, Contents, blank, settled_as, settled, same, screen_kind}

-- contents are equal where their pictures are
pub same_contents : (a c : Contents) → a.0 ≡ c.0 → a ≡ c
same_contents a c e = Σ_prop_path (λ p. Bool-set (legal p) true) e

settled_yes : (p : Picture) (x : Bool) (e : legal p ≡ x) → legal p ≡ true → (settled_as p x e).0 ≡ p
settled_yes p true e h = refl
settled_yes p false e h = absurd (both_ways (legal p) e h)

settled_no : (p : Picture) (x : Bool) (e : legal p ≡ x) → legal p ≡ false → (settled_as p x e).0 ≡ blank
settled_no p true e h = absurd (both_ways (legal p) h e)
settled_no p false e h = refl

pub settled_legal : (p : Picture) → legal p ≡ true → (settled p).0 ≡ p
settled_legal p h = settled_yes p (legal p) refl h

pub settled_blank : (p : Picture) → legal p ≡ false → (settled p).0 ≡ blank
settled_blank p h = settled_no p (legal p) refl h

-- what a legal picture has
pub record Bounds (p : Picture) : Type 0 where
  pub size : length p.cells ≡ 320
  pub characters : all_characters p.cells ≡ true
  pub row : p.row < 8
  pub column : p.column < 40

pub bounds : (p : Picture) → legal p ≡ true → Bounds p
bounds p h =
    let a = and_parts (length p.cells == 320) _ h in
    let c = and_parts (all_characters p.cells) (on_screen p.row p.column) a.1 in
    let d = and_parts (nat_lt p.row 8) (nat_lt p.column 40) c.1 in
    record {
      size = eqb-true _ 320 a.0;
      characters = c.0;
      row = ltb-true _ 8 d.0;
      column = ltb-true _ 40 d.1;
    }

-- pictures are equal where their parts are
pub same_pictures : (p q : Picture) → p.row ≡ q.row → p.column ≡ q.column → p.cells ≡ q.cells → p ≡ q
same_pictures p q r c e = λ i. record { cells = e i; row = r i; column = c i }

pub exact : Exact screen_kind
exact a c =
    Decides-like (same a c)
    (λ h. same_contents a c (same_pictures a.0 c.0 h.0.0 h.0.1 h.1))
    (λ e. ((ap (λ (x : Contents). x.0.row) e, ap (λ (x : Contents). x.0.column) e), ap (λ (x : Contents). x.0.cells) e))
    (Decides-and _ _ (Decides-and _ _ (Decides-eqb a.0.row c.0.row) (Decides-eqb a.0.column c.0.column)) (bytes_eq-Decides a.0.cells c.0.cells))
