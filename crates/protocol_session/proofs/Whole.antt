-- The session law, put together from what a call keeps and what half an exchange leaves.
use Rattle.std.proofs.Common.{◌≡◌, ℕ, List, Ok, sym, subst}
use Rattle.state.specs.Kind.{Kind}
use Rattle.packet.specs.declared.datagram.Direction.{Direction}
use Rattle.protocol.specs.End.{Holding, opened}
use Rattle.protocol_session.specs.History.{opposite}
use Rattle.protocol_session.specs.Law.{Half, NoStepBack, Holds, begins, SessionLaw}
use Rattle.protocol_session.specs.Runs.{World, flipped, Step, step, run, SupposedOf, SupposedAll}
use Rattle.protocol_session.proofs.Shared.{inv_flip}
use Rattle.protocol_session.proofs.Invariant.{Inv}
use Rattle.protocol_session.proofs.Kept.{Keeps, inv_step}
use Rattle.protocol_session.proofs.Safety.{right, acknowledged, run_keeps, never_back}
use Rattle.protocol_session.proofs.Catching.{Ready, Halfway, two_exchanges}

module _ (K L : Kind) (k : Keeps K L) (k' : Keeps L K)
    (half : (w v : World K L) → Ready K L w → Half K L w v → Halfway K L w v)
    (half' : (w v : World L K) → Ready L K w → Half L K w v → Halfway L K w v) where
  keep : (w : World K L) (c : Step K L) → SupposedOf K L w c → Inv K L w → Inv K L (step K L w c)
  keep w c s i = inv_step K L k k' w c i s

  pub holds : (w₀ : World K L) → Inv K L w₀ → (calls : List (Step K L)) → SupposedAll K L w₀ calls → Holds K L w₀ calls
  holds w₀ i₀ calls s =
      let w = run K L w₀ calls in
      let i : Inv K L w = run_keeps K L (Inv K L) (λ v j. j.forth.own) (λ v j. j.back.own) keep w₀ calls s i₀ in
      record {
        first_right = right K L w.one w.past_one w.two w.past_two i.forth i.back.own;
        second_right = right L K w.two w.past_two w.one w.past_one i.back i.forth.own;
        first_held = acknowledged K L w.one w.past_one w.two w.past_two i.forth i.back.own;
        second_held = acknowledged L K w.two w.past_two w.one w.past_one i.back i.forth.own;
        no_step_back = λ before after e.
            let P : List (Step K L) → Type 0 = λ xs. NoStepBack (run K L w₀ before).one (run K L w₀ xs).one × NoStepBack (run K L w₀ before).two (run K L w₀ xs).two in
            let S : List (Step K L) → Type 0 = λ xs. SupposedAll K L w₀ xs in
            subst P (sym e) (never_back K L (Inv K L) (λ v j. j.forth.own) (λ v j. j.back.own) keep w₀ before after (subst S e s) i₀);
        first_first = two_exchanges K L half half' w i;
        second_first = two_exchanges L K half' half (flipped w) (inv_flip K L w i);
      }

  pub law :
      ((d : Direction) (t t' : ℕ) (ks : List K.Contents) (ls : List L.Contents) (ls' : List L.Contents) (ks' : List K.Contents) (x : Holding K L) (y : Holding L K)
      → opened K L d t ks ls ≡ Ok x → opened L K (opposite d) t' ls' ks' ≡ Ok y → Inv K L (begins d t t' x y))
      → SessionLaw K L
  law start d t t' ks ls ls' ks' x y o o' calls s = holds (begins d t t' x y) (start d t t' ks ls ls' ks' x y o o') calls s
