use Rattle.std.proofs.Common.{◌≡◌, ◌≤◌, Bool, true, false, cond, Result, sym, ap, subst}
use Rattle.std.proofs.lemmas.Bool.{false≢true, le-leb}
use Rattle.trace.specs.declared.line.Event.{Event}
use Rattle.trace.specs.declared.line.Event.TheVariants.{Tap}
use Rattle.trace.specs.declared.line.Line.{Line}
use Rattle.trip.specs.declared.entering.Refusal.{Refusal}
use Rattle.trip.specs.declared.entering.Trip.{Trip}
use Rattle.trip.specs.Trips.{journalled, is_own, Made, Entered}
use Rattle.trip.proofs.entering.entered.Goals as goal

pick : (b : Bool) (P Q : Type 0) → b ≡ true → P → cond b P Q
pick true P Q e p = p
pick false P Q e p = absurd (false≢true e)

-- an event of its own end in time
made : (t : Trip) (line : Line) (r : Result Trip Refusal) (event : Event) → true ≡ is_own line.end line.event → line.at ≤ 4000000000 → line.event ≡ event → Made t event r → Entered t line r
made t line r event own early is m =
    let P : Event → Type 0 = λ x. Made t x r in
    pick _ _ _ (sym own) (pick _ _ _ (le-leb _ 4000000000 early) (subst P (sym is) m))

pub returns-in_ok-with_tap-in-Tap : goal.returns-in_ok-with_tap-in-Tap
returns-in_ok-with_tap-in-Tap c =
    let trip = c.args.trip.now in
    made trip c.args.line _ (Tap c.in-Tap.card c.in-Tap.fare c.in-Tap.balance) c.if-not-belongs.ensures c.if-line-gt4000000000.false c.in-Tap.is
    (c.with_tap.result, c.with_tap.ensures, ap (journalled trip) (sym c.in_ok-with_tap-in-Tap.was))
