-- What the answers of size and diff come to, case by case.
use Rattle.std.specs.Prelude.{◌≡◌, ℕ, ◌<◌, ◌≤◌, min, true, false, List, ◌++◌, length, drop, Ok, Err}
use Rattle.std.proofs.Common.{◌∙◌}
use Rattle.std.proofs.lemmas.Bool.{cond-true, cond-false, le-leb, lt-leb}
use Rattle.state.specs.declared.fault.DiffRefusal.TheVariants.{NotFollowing, TooLong}
use Rattle.state.specs.Kind.{Kind, sized, roomy, diffed, written}

module _ (K : Kind) (b t : K.Contents) where
  pub sized_yes : K.follows b t ≡ true → sized K b t ≡ min 65535 (length (K.diff b t))
  sized_yes f = cond-true (K.follows b t) _ _ f

  pub sized_no : K.follows b t ≡ false → sized K b t ≡ 0
  sized_no f = cond-false (K.follows b t) _ _ f

  module _ (out : List ℕ) where
    pub diffed_apart : K.follows b t ≡ false → diffed K b t out ≡ Err NotFollowing
    diffed_apart f = cond-false (K.follows b t) _ _ f

    pub written_apart : K.follows b t ≡ false → written K b t out ≡ out
    written_apart f = cond-false (K.follows b t) _ _ f

    module _ (f : K.follows b t ≡ true) where
      pub diffed_long : min 65534 (length out) < length (K.diff b t) → diffed K b t out ≡ Err TooLong
      diffed_long h = cond-true (K.follows b t) _ _ f ∙ cond-false (roomy K b t out) _ _ (lt-leb _ _ h)

      pub written_long : min 65534 (length out) < length (K.diff b t) → written K b t out ≡ out
      written_long h = cond-true (K.follows b t) _ _ f ∙ cond-false (roomy K b t out) _ _ (lt-leb _ _ h)

      pub diffed_ok : length (K.diff b t) ≤ min 65534 (length out) → diffed K b t out ≡ Ok (length (K.diff b t))
      diffed_ok h = cond-true (K.follows b t) _ _ f ∙ cond-true (roomy K b t out) _ _ (le-leb _ _ h)

      pub written_ok : length (K.diff b t) ≤ min 65534 (length out) → written K b t out ≡ K.diff b t ++ drop (length (K.diff b t)) out
      written_ok h = cond-true (K.follows b t) _ _ f ∙ cond-true (roomy K b t out) _ _ (le-leb _ _ h)
