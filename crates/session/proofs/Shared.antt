-- Small facts that the proofs about runs share.
use Rattle.std.proofs.Common.{◌≡◌, ℕ, false, List, [], ◌∷◌, refl, ap, ◌∙◌, inl, inr}
use Rattle.state.specs.Kind.{Kind}
use Rattle.packet.specs.declared.datagram.Direction.{Direction}
use Rattle.packet.specs.declared.datagram.Direction.TheVariants.{TowardDepot, TowardReader}
use Rattle.packet.specs.Datagrams.{same_direction}
use Rattle.session.specs.History.{opposite}
use Rattle.session.specs.Law.{IsLook}
use Rattle.session.specs.Runs.{World, flipped, Among, change, tick, take, look, Step, first, second, step}
use Rattle.session.proofs.Invariant.{Inv}

-- being among datagrams has nothing to do with the kinds
pub among_turned : (K L : Kind) (d : List ℕ) (ds : List (List ℕ)) → Among K L d ds → Among L K d ds
among_turned K L d [] a = a
among_turned K L d (e ∷ ds) (inl p) = inl p
among_turned K L d (e ∷ ds) (inr a) = inr (among_turned K L d ds a)

-- the other direction is another
pub opposite_apart : (d : Direction) → same_direction d (opposite d) ≡ false
opposite_apart TowardDepot = refl
opposite_apart TowardReader = refl

pub opposite_other : (d e : Direction) → e ≡ opposite d → same_direction d e ≡ false
opposite_other d e q = ap (same_direction d) q ∙ opposite_apart d

-- a look leaves the world
pub look_stays : {K L : Kind} (w : World K L) (c : Step K L) → IsLook c → step K L w c ≡ w
look_stays w (first (change t)) l = absurd l
look_stays w (first (tick n time out)) l = absurd l
look_stays w (first (take n time bytes)) l = absurd l
look_stays w (first (look n)) l = refl
look_stays w (second (change t)) l = absurd l
look_stays w (second (tick n time out)) l = absurd l
look_stays w (second (take n time bytes)) l = absurd l
look_stays w (second (look n)) l = refl

-- the same of the world with the second end as the first
pub inv_flip : (K L : Kind) (w : World K L) → Inv K L w → Inv L K (flipped w)
inv_flip K L w i = record { forth = i.back; back = i.forth }
