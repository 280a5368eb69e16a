-- What the end of a halt makes of a machine.
use Rattle.std.proofs.Common.{◌≡◌, ◌⊎◌, inl, inr, ℕ, ◌<◌, Some, true, false, refl, sym, ap, ◌∙◌}
use Rattle.std.proofs.Common.{subst, arith, length, ◌==◌}
use Rattle.lk_progress.proofs.Names.{eqb-true, LockHistory, same_waiter, LockName, Waiter}
use Rattle.lk_progress.proofs.Names.{after_halt, kicked_awake, stands_halting, woken, Machine}
use Rattle.lk_progress.proofs.Names.{halted_at, kicked_at, set_kicked, top_frame, top_of, Frame, Pc}
use Rattle.lk_progress.proofs.Names.{E12, W6, is_set, if-false, if-true, not-true, same_waiter-else}
use Rattle.lk_progress.proofs.Names.{same_waiter-self, ShowsAll, world, put_halted, World}
use Rattle.lk_progress.proofs.Names.{above_top, top_live, KeepsFrames, same_set_top, same_then}
use Rattle.lk_progress.proofs.Names.{seated, world-set_top}
use Rattle.lk_rows.specs.Machine.{frame_at, set_top}
use Rattle.lk_law.proofs.pv.HaltsEnd.{halted_sleeps, sleeping_row}
use Rattle.lk_law.specs.{Premises.IsNewest, Steps.put_kicked}
use Rattle.lk_waits.proofs.Changed.{Roused}
use Rattle.lk_core.proofs.{Same.same_set_halted, Worlds.{world-set_halted, world-set_kicked}}
use Rattle.lk_progress.proofs.Ranked.{shallow}

-- the top frame of a processor is its newest
pub top_newest : (m : Machine) (hs : LockName → LockHistory) → ShowsAll m hs → (p : ℕ) → p < length m.cpus
    → IsNewest (world m) (top_of m p)
top_newest m hs shows p range =
    let top = shows.whole.tops p range in
    record {
      above = λ d lt. above_top m p d lt;
      low = omega (arith, top.few, top.some);
      shallow = λ q. shallow m hs shows q;
    }

-- no frame comes or goes
pub woken_keeps : (m : Machine) (p : ℕ) → KeepsFrames m (woken m p)
woken_keeps m p =
    let behind : Frame = record (top_frame m p) { place = after_halt (top_frame m p).place } in
    same_then m (set_top m p behind) (woken m p) (same_set_top m p behind) (same_set_halted (set_top m p behind) p false)

module _ (m : Machine) (hs : LockName → LockHistory) (shows : ShowsAll m hs) (p : ℕ) (range : p < length m.cpus)
    (halted : halted_at m p ≡ true) where
  abbrev v : Waiter
  v = top_of m p

  abbrev e : Frame
  e = top_frame m p

  abbrev behind : Frame
  behind = record e { place = after_halt e.place }

  pub on_top : frame_at m v ≡ Some e
  on_top = top_live m p hs shows range

  -- the processor has halted at one of two rows
  pub sleeps : (e.place ≡ Some W6) ⊎ (e.place ≡ Some E12)
  sleeps = sleeping_row e.place e (halted_sleeps shows.world.spins (top_newest m hs shows p range) on_top halted)

  pub sleeping_place : (c : Pc) × (e.place ≡ Some c) × (stands_halting (Some c) ≡ true)
  sleeping_place = elim sleeps [ inl at ↦ (W6, at, refl) | inr at ↦ (E12, at, refl) ]

  pub woken_is : world (woken m p) ≡ put_halted (seated m v (Some behind)) p false
  woken_is =
      world-set_halted (set_top m p behind) p false (subst (λ (i : ℕ). p < i) (sym (same_set_top m p behind).keeps.cpus) range)
      ∙ ap (λ (y : World). put_halted y p false) (world-set_top m p behind (shows.whole.tops p range))

  pub roused_is : Roused (world m) (world (woken m p)) v e
  roused_is = record {
    words = λ l. ap (λ (y : World). y.word l) woken_is;
    kicked = λ q ne. ap (λ (y : World). y.kicked q) woken_is;
    flags = λ x h. ap (λ (y : World). is_set (y.node x).flag) (sym woken_is) ∙ h;
    others = λ u ne. ap (λ (y : World). y.frame u) woken_is
        ∙ if-false (same_waiter u v) (Some behind) (frame_at m u) (same_waiter-else u v ne);
    here = ap (λ (y : World). y.frame v) woken_is ∙ if-true (same_waiter v v) (Some behind) (frame_at m v) (same_waiter-self v);
  }

  pub kick_is : world (set_kicked (woken m p) p false) ≡ put_kicked (world (woken m p)) p false
  kick_is = world-set_kicked (woken m p) p false (subst (λ (i : ℕ). p < i) (sym (woken_keeps m p).keeps.cpus) range)

  -- by a kick, which is remembered no more
  pub kicked_is : Roused (world m) (world (set_kicked (woken m p) p false)) v e
  kicked_is = record {
    words = λ l. ap (λ (y : World). y.word l) kick_is ∙ roused_is.words l;
    kicked = λ q ne. ap (λ (y : World). y.kicked q) kick_is
        ∙ if-false (q == p) false (kicked_at (woken m p) q) (not-true (q == p) (λ h. ne (eqb-true q p h))) ∙ roused_is.kicked q ne;
    flags = λ x h. roused_is.flags x (ap (λ (y : World). is_set (y.node x).flag) (sym kick_is) ∙ h);
    others = λ u ne. ap (λ (y : World). y.frame u) kick_is ∙ roused_is.others u ne;
    here = ap (λ (y : World). y.frame v) kick_is ∙ roused_is.here;
  }

  pub kicked_runs : halted_at (kicked_awake m p).0 p ≡ false
  kicked_runs =
      ap (λ (y : World). y.halted p) kick_is ∙ ap (λ (y : World). y.halted p) woken_is
      ∙ if-true (p == p) false (halted_at m p) (grind arith)
