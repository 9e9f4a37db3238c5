use Rattle.std.proofs.Common.{◌-◌, sym, ap, ◌∙◌, rules}
use Rattle.std.proofs.lemmas.List.{drop_all}
use Rattle.state.specs.Checksum.{checksum}
use Rattle.state.proofs.Sums.{bytesum, pairs}
use Rattle.state.proofs.checksum.internet_checksum.Goals as goal

pub returns : goal.returns
unfolding checksum
returns c =
    let xs = c.args.bytes.now in
    let i = c.loop-i.i in
    let done = sym (ap (bytesum c.loop-i.sum i) (drop_all i xs c.loop-i-test.false)) ∙ c.loop-i.invariant.1 in
    ap (λ s. 65535 - s) (done ∙ pairs 0 0 xs (search rules) (search rules) (λ k. (c.type_inv.bytes k).fits))
