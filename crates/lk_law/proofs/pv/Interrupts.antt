-- An interrupt as a whole: a halt ends, if there is one, and a frame comes.
use Rattle.std.proofs.Common.{◌≡◌, ◌≢◌, Some, None, [], ◌∷◌, ◌++◌, arith, ap, ◌+◌, ◌∙◌}
use Rattle.lk_law.proofs.Names.{Event, Int, Waiter, after_halt, stands_halting, Frame, ShowsKicks}
use Rattle.lk_law.proofs.Names.{IsNewest, roused, IsSoundSpinWorld, put_frame, told_on, World}
use Rattle.lk_law.proofs.{common.Begins.spin_end_keeps, common.Puts.{if_cases, put_moves, not-true}}
use Rattle.lk_law.proofs.pv.HaltsEnd.{spin_int_keeps, roused_is_awake, top_is_awake}
use Rattle.lk_law.proofs.pv.HaltsShown.{int_shows, int_awake_shows, end_shows}
use Rattle.lk_law.specs.{Kicked.InterruptShows, Premises.above, SpinLaws.SpinInterruptKeeps}

higher : (w : Waiter) → above w ≢ w
higher w e = let z = ap (λ (v : Waiter). v.ctx) e in omega (arith, z)

pub nobody_above : {m : World} {w : Waiter} → IsNewest m w → m.frame (above w) ≡ None
nobody_above {w = w} newest = newest.above (w.ctx + 1) (omega arith)

-- nor is there one after the halt's end
pub nobody_roused : {m : World} {w : Waiter} {f : Frame} → IsNewest m w → m.frame w ≡ Some f
    → (roused m w f).frame (above w) ≡ None
nobody_roused {m = m} {w = w} {f = f} newest live =
    let moves =
    put_moves m.frame w (Some f) (Some (record f { place = after_halt f.place })) live in
    moves.others (above w) (higher w) ∙ nobody_above newest

pub spin_interrupt_keeps : SpinInterruptKeeps
spin_interrupt_keeps m hs rules w f g ok newest live none may =
    let e : Event = record { by = above w; what = Int } in
    let P : World → Type 0 =
    λ n. IsSoundSpinWorld (put_frame n (above w) (Some g)) (told_on hs (Some e)) in (
      if_cases P (m.halted w.cpu) (roused m w f) m
          (λ h. spin_end_keeps (roused m w f) (told_on hs (Some e)) (above w) None (Some g)
          (spin_int_keeps m hs rules w f ok newest live h).1 (nobody_roused newest live) tt none
          (λ q. roused_is_awake m hs w f ok newest live))
          (λ h. spin_end_keeps m hs (above w) None (Some g) ok (nobody_above newest) tt none
          (λ q. (top_is_awake m hs w f ok newest live
          (not-true (stands_halting f.place) (λ s. let z = may s in grind (arith, z, h)))).0)),
      (λ k q. cc q),
    )

pub interrupt_shows : InterruptShows
interrupt_shows m hs w f g es ok newest live none shows =
    let e : Event = record { by = above w; what = Int } in
    let P : World → Type 0 = λ n. ShowsKicks (put_frame n (above w) (Some g)) (es ++ e ∷ []) in
    if_cases P (m.halted w.cpu) (roused m w f) m
    (λ h. end_shows (roused m w f) (above w) None (Some g) (es ++ e ∷ [])
    (nobody_roused newest live) tt none (int_shows m hs w f es ok newest live h shows))
    (λ h.
    end_shows m (above w) None (Some g) (es ++ e ∷ []) (nobody_above newest) tt none
    (int_awake_shows m (above w) es h shows))
