use Rattle.std.proofs.Common.{◌≡◌, ◌+◌, ◌%◌, ◌<◌, leb, length, drop, ap, ◌∙◌, arith}
use Rattle.std.proofs.lemmas.List.{drop-drop, length-drop}
use Rattle.state.specs.BigEndian.{of_two}
use Rattle.packet.specs.Fragments.{piece_in}
use Rattle.packet.proofs.Numbers.{two_read, eight_read}
use Rattle.packet.proofs.Sound.{sound_none, sound_far}
use Rattle.packet.proofs.fragment.Fragment.fields.Goals as goal

pub returns-in_err-sending : goal.returns-in_err-sending
unfolding piece_in
returns-in_err-sending c =
    let short : length c.args.bytes.now < 8 = c.in_err-sending.ensures.cases in
    rw c.from_residual.ensures (sound_none (piece_in c.args.bytes.now) (simp length-drop (omega arith)))

pub returns-in_err-field : goal.returns-in_err-field
unfolding piece_in
returns-in_err-field c =
    let head : length c.in_ok-sending.rest.now + 8 ≡ length c.args.bytes.now = c.in_ok-sending.ensures.cases.2 in
    let short : length c.in_ok-sending.rest.now < 2 = c.in_err-field.ensures.cases in
    rw c.from_residual-in_err-field.ensures (sound_none (piece_in c.args.bytes.now) (simp length-drop (omega arith)))

pub returns-in_default : goal.returns-in_default
unfolding piece_in
returns-in_default c =
    let bs = c.args.bytes.now in
    let field = c.from_be_bytes-field.ensures ∙ two_read bs _ _ 8 c.in_ok-sending.ensures.cases.1 c.in_ok-field.ensures.cases.0 in
    let far : 7 < of_two bs 8 % 32768 = omega (arith, field, c.in_default.ensures) in
    sound_far (piece_in bs) far

pub returns : goal.returns
unfolding piece_in
returns c =
    let bs = c.args.bytes.now in
    let field = c.from_be_bytes-field.ensures ∙ two_read bs _ _ 8 c.in_ok-sending.ensures.cases.1 c.in_ok-field.ensures.cases.0 in
    let contents = c.in_ok-field.ensures.cases.1 ∙ ap (drop 2) c.in_ok-sending.ensures.cases.1 ∙ drop-drop 2 8 bs in
    λ i. record { sending = (c.from_be_bytes.ensures ∙ eight_read bs _ c.in_ok-sending.ensures.cases.0) i; number = (c.in-Ok.ensures.1 ∙ ap (λ n. n % 32768) field) i; last = ap (leb 32768) field i; contents = contents i }
