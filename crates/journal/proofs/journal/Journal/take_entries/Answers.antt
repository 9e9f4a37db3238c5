use Rattle.std.proofs.Common.{ℕ, Option, sym, subst, rules}
use Rattle.journal.proofs.Taking.{IsSofar, begun, done_ok, put, refused}
use Rattle.journal.proofs.journal.Journal.take_entries.Goals as goal

pub loop-rest-init : goal.loop-rest-init
loop-rest-init c = begun c.args.self.now c.args.d.now

pub loop-rest-preserved-then-is_err : goal.loop-rest-preserved-then-is_err
loop-rest-preserved-then-is_err c =
    let P : Option ℕ → Type 0 = λ o. IsSofar c.args.self.now c.args.d.now c.in_ok-entry.behind.now o c.push.new.self in
    subst P (sym c.or-full.ensures) (refused c.args.self.now c.args.d.now _ _ c.loop-rest.self c.loop-rest.invariant c.in_ok-entry.entry _ (search rules) (search rules) c.push.new.self c.push.result c.push.ensures (search rules))

pub loop-rest-preserved : goal.loop-rest-preserved
loop-rest-preserved c =
    put c.args.self.now c.args.d.now _ _ c.loop-rest.self c.loop-rest.invariant c.in_ok-entry.entry _ (search rules) (search rules) c.push.new.self c.push.result c.push.ensures (search rules)

pub returns-in-None : goal.returns-in-None
returns-in-None c =
    done_ok c.args.self.now c.args.d.now _ _ c.loop-rest.self c.loop-rest.invariant (search rules) c.in-None.is
