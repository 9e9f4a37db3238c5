use Rattle.std.proofs.Common.{◌≡◌, ℕ, ◌+◌, List, length, get_or, drop, sym, ap, ◌∙◌, arith}
use Rattle.std.proofs.lemmas.List.{drop-drop}
use Rattle.std.proofs.lemmas.Bool.{and_from, le-leb, eq-eqb}
use Rattle.packet.specs.Instructions.{fields_of}
use Rattle.packet.proofs.Numbers.{four_read}
use Rattle.packet.proofs.instruction.Instruction.fields.Goals as goal

pub returns : goal.returns
unfolding fields_of
returns c =
    let bs = c.args.bytes.now in
    let first = c.in_ok-version.ensures.cases in
    let old = c.in_ok-old.ensures.cases in
    let new = c.in_ok-new.ensures.cases in
    let ack = c.in_ok-ack.ensures.cases in
    let throwaway = c.in_ok-throwaway.ensures.cases in
    let from1 : c.in_ok-version.rest.now ≡ drop 1 bs = sym (ap (drop 1) first.0) in
    let from5 : c.in_ok-old.rest.now ≡ drop 5 bs = old.1 ∙ ap (drop 4) from1 ∙ drop-drop 4 1 bs in
    let from9 : c.in_ok-new.rest.now ≡ drop 9 bs = new.1 ∙ ap (drop 4) from5 ∙ drop-drop 4 5 bs in
    let from13 : c.in_ok-ack.rest.now ≡ drop 13 bs = ack.1 ∙ ap (drop 4) from9 ∙ drop-drop 4 9 bs in
    let from17 : c.in_ok-throwaway.diff.now ≡ drop 17 bs = throwaway.1 ∙ ap (drop 4) from13 ∙ drop-drop 4 13 bs in
    let long5 : length c.in_ok-old.rest.now + 4 ≡ length c.in_ok-version.rest.now = old.2 in
    let long9 : length c.in_ok-new.rest.now + 4 ≡ length c.in_ok-old.rest.now = new.2 in
    let long13 : length c.in_ok-ack.rest.now + 4 ≡ length c.in_ok-new.rest.now = ack.2 in
    let long17 : length c.in_ok-throwaway.diff.now + 4 ≡ length c.in_ok-ack.rest.now = throwaway.2 in
    let version : c.in_ok-version.version.now ≡ 2 = omega arith in (
      and_from _ _ (le-leb 17 (length bs) (omega (arith, first.1))) (eq-eqb (get_or bs 0 0) 2 (ap (λ (z : List ℕ). get_or z 0 0) first.0 ∙ version)),
      λ i. record {
        old = (c.from_be_bytes.ensures ∙ four_read bs _ _ 1 from1 old.0) i;
        new = (c.from_be_bytes-2.ensures ∙ four_read bs _ _ 5 from5 new.0) i;
        ack = (c.from_be_bytes-3.ensures ∙ four_read bs _ _ 9 from9 ack.0) i;
        throwaway = (c.from_be_bytes-4.ensures ∙ four_read bs _ _ 13 from13 throwaway.0) i;
        diff = from17 i;
      },
    )
