use Rattle.std.proofs.Common.{◌∙◌}
use Rattle.state.proofs.Sealing.{sum_put}
use Rattle.state.proofs.check.put_sum.Goals as goal

pub returns : goal.returns
returns c =
    let s = c.split_at_mut-inner.ensures in
    sum_put c.args.n c.args.out.now _ _ _ c.internet_checksum.result c.internet_checksum.type_inv s.front s.back c.internet_checksum.ensures (c.copy_from_slice.ensures.after ∙ c.to_be_bytes.ensures)
