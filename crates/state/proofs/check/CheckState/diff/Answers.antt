use Rattle.std.proofs.Common.{sym, ◌∙◌, arith}
use Rattle.state.proofs.Sealing.{sealed_written}
use Rattle.state.proofs.check.CheckState.diff.Goals as goal

pub returns-clause-buffer : goal.returns-clause-buffer
returns-clause-buffer g c =
    c.put_sum.ensures ∙ sealed_written g.K.State.kind _ _ c.size-n.result (sym c.if-not-follows.ensures) c.size-n.ensures c.args.out.now (omega arith) (omega arith) c.diff.new.out c.diff.ensures.buffer
