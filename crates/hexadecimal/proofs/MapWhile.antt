-- What an iterator gives up to the first item for which a closure gives nothing.
use Rattle.std.proofs.Common.{◌≡◌, List, [], ◌∷◌, map, Some, None, Option, MatchOption, refl, ap, ◌∙◌, subst}
use denote.Param.Members.{Mut}
use Rattle.std.specs.Fn.{Called}
use Rattle.std.specs.Option.{some_prefix}
use Rattle.std.specs.Iterator.{AlwaysYields}
use Rattle.std.specs.Iterator.Adapters.{map_while_source, map_while_callee, map_while_steps}
use Rattle.std.specs.declared.iter.MapWhile.{MapWhile}
use Rattle.std.proofs.lemmas.Iterator.{YieldsList}

module _ {S A B C F : Type 0} (steps : S → Option A → S → Type 0) (v : A → B) (g : Mut F (A × Unit {0}) (Option C)) (h : B → Option C) (f : F)
    (k : (x : A) (r : Option C) (q : F) → Called g f (x, tt) r q → (q ≡ f) × (r ≡ h (v x))) where
  abbrev Left : List B → MapWhile S F → Type 0
  Left ys s = (map_while_callee s ≡ f) × AlwaysYields steps v (map_while_source s) ys

  abbrev Gives : List C → MapWhile S F → Type 0
  Gives cs s = AlwaysYields (map_while_steps steps g) (λ y. y) s cs

  abbrev Calls : Option A → MapWhile S F → Option C → MapWhile S F → Type 0
  Calls o s r t = MatchOption o ((r ≡ None) × (map_while_callee t ≡ map_while_callee s)) (λ x. Called g (map_while_callee s) (x, tt) r (map_while_callee t))

  -- nothing is given where no item is left
  ended : (s t : MapWhile S F) (y : C) (o : Option A) → Left [] s → steps (map_while_source s) o (map_while_source t) → Calls o s (Some y) t → ⊥
  ended s t y None l p c = cc c.0
  ended s t y (Some x) l p c = l.1 x (map_while_source t) p

  -- and what the closure gives of the first item that is left
  turn : (z : B) (zs : List B) (s t : MapWhile S F) (r : Option C) (o : Option A) → Left (z ∷ zs) s → steps (map_while_source s) o (map_while_source t) → Calls o s r t → (r ≡ h z) × Left zs t
  turn z zs s t r None l p c = absurd (l.1.0 (map_while_source t) p)
  turn z zs s t r (Some x) l p c =
      let n = l.1.1 x (map_while_source t) p in
      let m = k x r (map_while_callee t) (subst (λ w. Called g w (x, tt) r (map_while_callee t)) l.0 c) in
      (m.1 ∙ ap h n.0, (m.0, n.1))

  onward : (z : B) (zs : List B) (os : List (Option C)) (s : MapWhile S F) → Left (z ∷ zs) s → ((t : MapWhile S F) → Left zs t → Gives (some_prefix os) t) → (o : Option C) → h z ≡ o → Gives (some_prefix (o ∷ os)) s
  onward z zs os s l rest None e = λ y t p. absurd (let same : Some y ≡ None = (turn z zs s t (Some y) p.0 l p.1 p.2).0 ∙ e in cc)
  onward z zs os s l rest (Some c) e = (
    (λ t p. let same : None ≡ Some c = (turn z zs s t None p.0 l p.1 p.2).0 ∙ e in cc),
    λ y t p. let n = turn z zs s t (Some y) p.0 l p.1 p.2 in (let same : Some y ≡ Some c = n.0 ∙ e in cc, rest t n.1),
  )

  given : (ys : List B) (s : MapWhile S F) → Left ys s → Gives (some_prefix (map h ys)) s
  given [] s l = λ y t p. ended s t y p.0 l p.1 p.2
  given (z ∷ zs) s l = onward z zs (map h zs) s l (given zs) (h z) refl

pub YieldsList-from_map_while : {S A B C F : Type 0} {steps : S → Option A → S → Type 0} {v : A → B} {ys : List B} {s : MapWhile S F} (g : Mut F (A × Unit {0}) (Option C)) (h : B → Option C) {f : F}
    → YieldsList steps v (map_while_source s) ys → map_while_callee s ≡ f → ((x : A) (r : Option C) (q : F) → Called g f (x, tt) r q → (q ≡ f) × (r ≡ h (v x))) → YieldsList (map_while_steps steps g) (λ y. y) s (some_prefix (map h ys))
YieldsList-from_map_while {S} {A} {B} {C} {F} {steps} {v} {ys} {s} g h {f} e a k = record { runs = given steps v g h f k ys s (a, e.runs) }
