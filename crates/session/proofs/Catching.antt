-- Two exchanges bring both ends up to date, from what half an exchange leaves.
use Rattle.std.proofs.Common.{◌≡◌, ℕ, ◌+◌, ◌<◌, ◌≤◌, Some, Ok, Option, Result, ap, ◌∙◌, arith}
use Rattle.state.specs.Kind.{Kind}
use Rattle.protocol.specs.declared.fault.CallRefusal.{CallRefusal}
use Rattle.endpoint.specs.End.{looked}
use Rattle.session.specs.Law.{Fits, Half, Exchange, UpToDate}
use Rattle.session.specs.Runs.{World, flipped}
use Rattle.session.proofs.Shared.{inv_flip}
use Rattle.session.proofs.Invariant.{Inv, state_of}
use Rattle.session.proofs.Safety.{looks}

-- a world in which the first end can tick
pub record Ready (K L : Kind) (w : World K L) : Type 0 where
  pub inv : Inv K L w
  pub fits : Fits K w.past_one
  pub left : w.one.end.sendings < 1000000

-- what half an exchange leaves
pub record Halfway (K L : Kind) (w v : World K L) : Type 0 where
  pub inv : Inv K L v
  -- the second end shows the first's last number; if the window wasn't full that is the current state
  pub shows : v.two.end.newest ≡ v.one.end.top
  pub fixes : w.one.end.top < w.one.end.sent.anchor + 15 → v.past_one.fixed v.one.end.top ≡ Some w.past_one.current
  -- of the first end
  pub same_current : v.past_one.current ≡ w.past_one.current
  pub same_newest : v.one.end.newest ≡ w.one.end.newest
  pub fits : Fits K v.past_one
  pub sent : v.one.end.sendings ≡ w.one.end.sendings + 1
  -- of the second
  pub other_current : v.past_two.current ≡ w.past_two.current
  pub other_fixed : v.past_two.fixed ≡ w.past_two.fixed
  pub other_top : v.two.end.top ≡ w.two.end.top
  pub other_fits : Fits L w.past_two → Fits L v.past_two
  pub other_sent : v.two.end.sendings ≡ w.two.end.sendings
  pub acknowledged : w.one.end.newest ≤ v.two.end.sent.anchor

-- an end that shows the other's last number, which is fixed as that state
up_to_date : (K L : Kind) (w : World K L) (c : K.Contents) → Inv K L w → w.two.end.newest ≡ w.one.end.top → w.past_one.fixed w.one.end.top ≡ Some c → (n : ℕ) × (looked L K w.two.end w.two.received_store ≡ Ok (n, c))
up_to_date K L w c i shown is =
    let ok : K.Contents → Result (ℕ × K.Contents) CallRefusal = λ t. Ok (w.two.end.newest, t) in
    (w.two.end.newest, looks K L w.one w.past_one w.two w.past_two i.forth i.back.own ∙ ap ok (ap (λ n. state_of K (w.past_one.fixed n)) shown ∙ ap (state_of K) is))

module _ (K L : Kind)
    (half : (w v : World K L) → Ready K L w → Half K L w v → Halfway K L w v)
    (half' : (w v : World L K) → Ready L K w → Half L K w v → Halfway L K w v) where
  pub two_exchanges : (w u v : World K L) → Inv K L w → Fits K w.past_one → Fits L w.past_two → w.one.end.sendings ≤ 999998 → w.two.end.sendings ≤ 999998
      → Exchange K L w u → Exchange K L u v → UpToDate w.past_one v.two × UpToDate w.past_two v.one
  two_exchanges w u v i f₁ f₂ s₁ s₂ e e' =
      let w₁ = e.middle in
      let w₃ = e'.middle in
      let a = half w w₁ (record { inv = i; fits = f₁; left = omega arith }) e.forth in
      let b = half' (flipped w₁) (flipped u) (record { inv = inv_flip K L w₁ a.inv; fits = a.other_fits f₂; left = omega (arith, a.other_sent) }) e.back in
      let iu : Inv K L u = record { forth = b.inv.back; back = b.inv.forth } in
      let all₁ : u.one.end.top ≤ u.one.end.sent.anchor = omega (arith, b.acknowledged, b.other_top, a.shows) in
      let c = half u w₃ (record { inv = iu; fits = b.other_fits a.fits; left = omega (arith, b.other_sent, a.sent) }) e'.forth in
      let all₂ : w₃.two.end.top ≤ w₃.two.end.sent.anchor = omega (arith, c.acknowledged, c.other_top, b.shows) in
      let d = half' (flipped w₃) (flipped v) (record { inv = inv_flip K L w₃ c.inv; fits = c.other_fits b.fits; left = omega (arith, c.other_sent, b.sent, a.other_sent) }) e'.back in
      let iv : Inv K L v = record { forth = d.inv.back; back = d.inv.forth } in
      let some : K.Contents → Option K.Contents = λ t. Some t in
      let some' : L.Contents → Option L.Contents = λ t. Some t in
      let shown₁ : v.two.end.newest ≡ v.one.end.top = omega (arith, d.same_newest, c.shows, d.other_top) in
      let fixed₁ : v.past_one.fixed v.one.end.top ≡ Some w.past_one.current =
      ap (λ (f : ℕ → Option K.Contents). f v.one.end.top) d.other_fixed
      ∙ ap w₃.past_one.fixed d.other_top
      ∙ c.fixes (omega (arith, all₁))
      ∙ ap some (b.other_current ∙ a.same_current) in
      let fixed₂ : v.past_two.fixed v.two.end.top ≡ Some w.past_two.current =
      d.fixes (omega (arith, all₂)) ∙ ap some' (c.other_current ∙ b.same_current ∙ a.other_current) in
      (up_to_date K L v w.past_one.current iv shown₁ fixed₁, up_to_date L K (flipped v) w.past_two.current d.inv d.shows fixed₂)
