-- What an assembler's answer to a fragment says of its fields.
use Rattle.std.specs.Prelude.{◌≡◌, ℕ, ◌≤◌, true, false, List, take, Ok, Err, Option, Result}
use Rattle.packet.specs.Pieces.{Piece}
use Rattle.packet.specs.declared.refusal.FragmentFault.{FragmentFault}
use Rattle.assembler.specs.declared.half.Collecting.{Collecting}
use Rattle.assembler.specs.declared.offer.Offer.{Offer}
use Rattle.assembler.specs.declared.offer.Offer.TheVariants.{Part, Whole, Alone}
use Rattle.assembler.specs.Contents.{collects}
use Rattle.assembler.specs.Holding.{holding}
use Rattle.assembler.specs.Offers.{offered, refused, partly, wholly}

module _ (state : Option Collecting) (buf : List ℕ) (p : Piece) (state' : Option Collecting) (buf' : List ℕ) where
  -- an answer to p from an assembler with the first fields that leaves the others: a part is held; the whole lies at the buffer's front or is the piece itself, and what is held stays
  abbrev pub Answered : Offer → Type 0
  Answered Part = offered (holding state buf) p ≡ partly (holding state' buf')
  Answered (Whole n) = (offered (holding state buf) p ≡ wholly (take n buf')) × (n ≤ 2048) × (collects (holding state buf) p.sending ≡ true) × (state' ≡ state) × (holding state' buf' ≡ holding state buf)
  Answered Alone = (offered (holding state buf) p ≡ wholly p.contents) × (collects (holding state buf) p.sending ≡ false) × (state' ≡ state) × (buf' ≡ buf)

  -- the same, or a refusal that leaves the fields as they were
  abbrev pub Taken : Result Offer FragmentFault → Type 0
  Taken (Ok o) = Answered o
  Taken (Err f) = (offered (holding state buf) p ≡ refused f) × (state' ≡ state) × (buf' ≡ buf)
