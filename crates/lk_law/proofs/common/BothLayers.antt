-- Each row of a spinlock or a wait lock keeps worlds with reader-writer locks.
use Rattle.std.proofs.Common.{◌≡◌, ◌≢◌, inl, inr, ℕ, Option, Some, None, Bool, true, false, arith}
use Rattle.std.proofs.Common.{ap, refl, sym, ◌∙◌, subst}
use Rattle.lk_law.proofs.Names.{LockHistory, changed, lock_of, no_history, told, Rules, Event}
use Rattle.lk_law.proofs.Names.{Manner, Kind, Rw, LockName, Waiter, rw_name, Lead, Nothing, Passes}
use Rattle.lk_law.proofs.Names.{Says, Tell, Frame, Pc, MayFollowIfAny, is_rw_row, IsSoundWorld}
use Rattle.lk_law.proofs.Names.{RwFits, is_rw_name, part_of, spin_part, SpinRowKeeps}
use Rattle.lk_law.proofs.Names.{IsSoundSpinWorld, lead_on, led, row_in, told_event, told_on}
use Rattle.lk_law.proofs.Names.{way_led, World, RowKeeps}
use Rattle.lk_names.specs.History.{is_on}
use Rattle.lk_law.proofs.common.Cases.{waiter_cases}
use Rattle.lk_law.proofs.common.Puts.{if-true, if-false, same_lock-else}
use Rattle.lk_law.proofs.rw.Else.{beside_rest, IsOfLock, Put, put_held_frame, SpinLead, TellsOf}
use Rattle.lk_law.proofs.rw.Else.{SpinMade, led_keeps, led_onward}
use Rattle.lk_law.proofs.rw.Phases.{spin_apart, spin_rws, spin_fits}
use Rattle.lk_law.specs.Allowed.{MayFollowOn}

-- what is told is told of the lock, if of any
abbrev pub IsOf : LockName → Option Event → Type 0
IsOf l None = Unit {0}
IsOf l (Some e) = IsOfLock l (lock_of e.what)

tells_event : (w : Waiter) (l : LockName) (to : Waiter) (t : Tell) → TellsOf l t
    → IsOf l (told_event w l to t)
tells_event w l to Nothing p = tt
tells_event w l to (Says what) p = p
tells_event w l to (Passes n k) p = refl

on_none_else : (k l : LockName) (o : Option LockName) → IsOfLock l o → k ≢ l → is_on k o ≡ false
on_none_else k l None of ne = refl
on_none_else k l (Some j) of ne = same_lock-else j k (λ q. ne (sym q ∙ of))

told_apart : (k l : LockName) (h : LockHistory) (e : Event) → IsOf l (Some e) → k ≢ l
    → told k h e ≡ h
told_apart k l h e of ne =
    if-false (is_on k (lock_of e.what)) (changed h e.by e.what) h
    (on_none_else k l (lock_of e.what) of ne)

-- histories of other locks than the one that an event is of
pub told_on-else : (hs : LockName → LockHistory) (l k : LockName) (e : Option Event) → IsOf l e
    → k ≢ l → told_on hs e k ≡ hs k
told_on-else hs l k None p ne = refl
told_on-else hs l k (Some e) p ne = told_apart k l (hs k) e p ne

-- What an event of a spinlock or a wait lock tells on is told on in the part of spinlocks.
pub spin_told : (kind : ℕ → Kind) (hs : LockName → LockHistory) (l : LockName) (e : Option Event)
    → IsOf l e → is_rw_name kind l ≡ false
    → told_on (spin_part kind hs) e ≡ spin_part kind (told_on hs e)
spin_told kind hs l e of spin = (λ i k. each e of k i)
  where
    each : (e : Option Event) → IsOf l e → (k : LockName)
        → told_on (spin_part kind hs) e k ≡ spin_part kind (told_on hs e) k
    each None of k = refl
    each (Some e) of k = by_kind (is_rw_name kind k) refl
      where
        by_kind : (b : Bool) → is_rw_name kind k ≡ b
            → told_on (spin_part kind hs) (Some e) k ≡ spin_part kind (told_on hs (Some e)) k
        by_kind true q =
            let ne : k ≢ l =
            (λ s. absurd (let z = ap (is_rw_name kind) s in grind (arith, z, q, spin))) in
            told_apart k l (spin_part kind hs k) e of ne
            ∙ if-true (is_rw_name kind k) no_history (hs k) q
            ∙ sym (if-true (is_rw_name kind k) no_history (told_on hs (Some e) k) q)
        by_kind false q =
            ap (λ h. told k h e) (if-false (is_rw_name kind k) no_history (hs k) q)
            ∙ sym (if-false (is_rw_name kind k) no_history (told_on hs (Some e) k) q)

-- and where it is allowed there it is allowed
pub spin_allowed : (rules : Rules) (kind : ℕ → Kind) (hs : LockName → LockHistory) (l : LockName)
    (e : Option Event)
    → IsOf l e → is_rw_name kind l ≡ false → MayFollowIfAny rules (spin_part kind hs) e
    → MayFollowIfAny rules hs e
spin_allowed rules kind hs l None of spin a = tt
spin_allowed rules kind hs l (Some e) of spin a =
    (λ k p. subst (λ (h : LockHistory). MayFollowOn rules h e)
    (if-false (is_rw_name kind k) no_history (hs k)
    (let same : k ≡ l = subst (IsOfLock l) p of in ap (is_rw_name kind) same ∙ spin)) (a k p))

-- the frames fit after one has moved
pub fits_after : {kind : ℕ → Kind} {m m' : World} {w : Waiter} {f g : Frame} {l : LockName}
    {way : Option Manner}
    → Put m m' w f g l way → ((u : Waiter) (d : Frame) → m.frame u ≡ Some d → RwFits kind d)
    → RwFits kind g → (u : Waiter) (d : Frame) → m'.frame u ≡ Some d → RwFits kind d
fits_after {kind = kind} {m' = m'} {w = w} {g = g} put fits fit u d p =
    elim (waiter_cases u w) [
      | inl q ↦ is d (sym put.frames.now ∙ ap m'.frame (sym q) ∙ p)
      | inr ne ↦ fits u d (sym (put.frames.others u ne) ∙ p)
    ]
  where
    is : (d : Frame) → Some g ≡ Some d → RwFits kind d
    is d e = let same : g ≡ d = grind arith in subst (RwFits kind) same fit

-- The name on which a frame acts at a row of a spinlock is no reader-writer lock's.
spin_name : {kind : ℕ → Kind} {f : Frame} (c : Pc) → is_rw_row c ≡ false → f.place ≡ Some c
    → RwFits kind f → is_rw_name kind f.lock ≡ false
spin_name {kind = kind} {f = f} c spin place fits = by_wait f.lock.wait refl
  where
    by_wait : (b : Bool) → f.lock.wait ≡ b → is_rw_name kind f.lock ≡ false
    by_wait true q = grind (arith, q)
    by_wait false q = let k = fits.spin c place spin q in grind (arith, q, k)

-- A frame has gone on from a row of a spinlock, and its spinlocks are sound: then the world is
-- sound, and what is allowed there is allowed.
pub spin_done : (c : Pc) → is_rw_row c ≡ false
    → {m m' : World} {hs : LockName → LockHistory} (rules : Rules) {w : Waiter} {f : Frame}
    (lead : Lead)
    → SpinLead (part_of c) lead → IsSoundWorld m hs → m.frame w ≡ Some f → f.place ≡ Some c
    → Put m m' w f (led f lead) f.lock (way_led lead (m.held w f.lock)) → m'.rw ≡ m.rw
    → m'.kind ≡ m.kind → (e : Option Event) → IsOf f.lock e
    → IsSoundSpinWorld m' (told_on (spin_part m.kind hs) e)
    → MayFollowIfAny rules (spin_part m.kind hs) e
    → IsSoundWorld m' (told_on hs e) × MayFollowIfAny rules hs e
spin_done c spin {m = m} {m' = m'} {hs = hs} rules {w = w} {f = f} lead leads sound live place put
    rws kinds e of spins allowed =
    let keeps_lock = led_keeps f (part_of c) lead leads in
    let on = led_onward f (part_of c) lead leads in
    let away = spin_name c spin place (sound.fits w f live) in (
      record {
        spins = subst (λ (kind : ℕ → Kind). IsSoundSpinWorld m' (spin_part kind (told_on hs e)))
            (sym kinds) (subst (IsSoundSpinWorld m') (spin_told m.kind hs f.lock e of away) spins);
        rws = λ i k.
            let k' : m.kind i ≡ Rw = ap (λ (h : ℕ → Kind). h i) (sym kinds) ∙ k in
            let r = spin_rws sound live place spin put keeps_lock.0 keeps_lock.1 on i k' in
            rw (
              rws,
              told_on-else hs f.lock (rw_name i) e of
                  (spin_apart sound live place spin put keeps_lock.0 keeps_lock.1 on i k'),
            ) r;
        fits = λ u d p.
            subst (λ (kind : ℕ → Kind). RwFits kind d) (sym kinds)
            (fits_after put sound.fits
            (spin_fits sound live place spin put keeps_lock.0 keeps_lock.1 on) u d p);
      },
      spin_allowed rules m.kind hs f.lock e of away allowed,
    )

-- Where a row of a spinlock makes this of a world, and keeps its spinlocks sound, it keeps the
-- world sound.
pub keeps_both_layers : (c : Pc) → is_rw_row c ≡ false
    → ((m : World) (w : Waiter) (f : Frame) → SpinMade m w f c (row_in m w f c)) → SpinRowKeeps c
    → RowKeeps c
keeps_both_layers c spin made keeps m hs rules w to f sound follows newest live place goes =
    let x = made m w f in
    let kept =
    keeps m (spin_part m.kind hs) rules w to f sound.spins follows newest live place
    (sound.fits w f live).after goes in
    let e = told_event w f.lock to (row_in m w f c).1 in
    let of = tells_event w f.lock to (row_in m w f c).1 x.tells in
    let b = beside_rest m x.stored w x.lead x.beside in
    let g = led f x.lead in
    let m' = lead_on x.stored w f x.lead in
    let held_is : x.stored.held w f.lock ≡ m.held w f.lock =
    ap (λ (h : Waiter → LockName → Option Manner). h w f.lock) x.beside.helds in
    let put : Put m m' w f g f.lock (way_led x.lead (m.held w f.lock)) =
    subst (λ (way : Option Manner). Put m m' w f g f.lock (way_led x.lead way)) held_is
    (put_held_frame m _ w f g f.lock (way_led x.lead (x.stored.held w f.lock)) live b.frames
    b.helds) in
    let done : IsSoundWorld m' (told_on hs e) × MayFollowIfAny rules hs e =
    spin_done c spin rules x.lead x.onward sound live place put b.rws b.kinds e of
    (subst (λ (n : World). IsSoundSpinWorld n (told_on (spin_part m.kind hs) e)) x.is kept.0)
    kept.1 in
    (subst (λ (n : World). IsSoundWorld n (told_on hs e)) (sym x.is) done.0, done.1)
