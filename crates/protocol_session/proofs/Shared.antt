-- Small facts that the proofs about runs share.
use Rattle.std.proofs.Common.{◌≡◌, ℕ, true, false, eqb, List, [], ◌∷◌, length, replicate, Ok, Err, Result, sym, refl, ap, ◌∙◌, inl, inr}
use Rattle.std.proofs.lemmas.List.{length-replicate}
use Rattle.std.proofs.lemmas.Bool.{both_ways, eq-eqb, eqb-true}
use Rattle.state.specs.Kind.{Kind}
use Rattle.packet.specs.declared.datagram.Direction.{Direction}
use Rattle.packet.specs.declared.datagram.Direction.TheVariants.{TowardDepot, TowardReader}
use Rattle.packet.specs.Datagrams.{same_direction}
use Rattle.protocol.specs.declared.answer.Taken.{Taken}
use Rattle.protocol.specs.declared.answer.Taken.TheVariants.{Part, Shown, Filled, Again, Baseless}
use Rattle.protocol.specs.declared.fault.TakeFault.{TakeFault}
use Rattle.protocol_session.specs.History.{Past, opposite, noted_take}
use Rattle.protocol_session.specs.Law.{IsLook, at_first, at_second}
use Rattle.protocol_session.specs.Runs.{World, flipped, Among, Step, step}
use Rattle.protocol_session.proofs.Invariant.{Inv}

-- being among datagrams has nothing to do with the kinds
pub among_turned : (K L : Kind) (d : List ℕ) (ds : List (List ℕ)) → Among K L d ds → Among L K d ds
among_turned K L d [] a = a
among_turned K L d (e ∷ ds) (inl p) = inl p
among_turned K L d (e ∷ ds) (inr a) = inr (among_turned K L d ds a)

-- a direction is itself, and the other direction is another
pub same_itself : (d : Direction) → same_direction d d ≡ true
same_itself TowardDepot = refl
same_itself TowardReader = refl

pub opposite_apart : (d : Direction) → same_direction d (opposite d) ≡ false
opposite_apart TowardDepot = refl
opposite_apart TowardReader = refl

pub opposite_other : (d e : Direction) → e ≡ opposite d → same_direction d e ≡ false
opposite_other d e q = ap (same_direction d) q ∙ opposite_apart d

-- what a take leaves of a history
pub record Remains {K : Kind} (p q : Past K) : Type 0 where
  pub current : q.current ≡ p.current
  pub fixed : q.fixed ≡ p.fixed
  pub sendings : q.sendings ≡ p.sendings
  pub instruction : q.instruction ≡ p.instruction

pub take_remains : {K : Kind} (p : Past K) (time : ℕ) (bs : List ℕ) (r : Result Taken TakeFault) → Remains p (noted_take p time bs r)
take_remains p time bs (Ok (Part k)) = record { current = refl; fixed = refl; sendings = refl; instruction = refl }
take_remains p time bs (Ok (Shown n)) = record { current = refl; fixed = refl; sendings = refl; instruction = refl }
take_remains p time bs (Ok (Filled n)) = record { current = refl; fixed = refl; sendings = refl; instruction = refl }
take_remains p time bs (Ok (Again n)) = record { current = refl; fixed = refl; sendings = refl; instruction = refl }
take_remains p time bs (Ok (Baseless n)) = record { current = refl; fixed = refl; sendings = refl; instruction = refl }
take_remains p time bs (Err f) = record { current = refl; fixed = refl; sendings = refl; instruction = refl }

-- start states in another number aren't a store that a call needs
pub unlent : (K : Kind) (n : ℕ) → eqb n 16 ≡ false → eqb (length (replicate n K.start)) 16 ≡ true → ⊥
unlent K n e f = both_ways (eqb n 16) e (eq-eqb n 16 (sym (length-replicate n K.start) ∙ eqb-true (length (replicate n K.start)) 16 f))

-- a look leaves the world
pub look_stays : {K L : Kind} (w : World K L) {c : Step K L} → IsLook K L c → step K L w c ≡ w
look_stays w (at_first n) = refl
look_stays w (at_second n) = refl

-- the same of the world with the second end as the first
pub inv_flip : (K L : Kind) (w : World K L) → Inv K L w → Inv L K (flipped w)
inv_flip K L w i = record { forth = i.back; back = i.forth }
