-- What every row keeps of those that wait, in whichever family.
use Rattle.std.proofs.Common.{◌≡◌, ◌≢◌, inl, inr, ℕ, zero, suc, ◌≤◌, Option, Some, None, Bool, true}
use Rattle.std.proofs.Common.{false, refl, sym, ap, ◌∙◌, subst, arith, is_some}
use Rattle.std.proofs.lemmas.Bool.{cases_eq}
use Rattle.lk_waits.proofs.Names.{cases_Bool, cases_lt, NodeName, LockHistory, same_waiter}
use Rattle.lk_waits.proofs.Names.{LockName, Mode, Waiter, target, Frame, Pc, G1, N1, N2, is_set}
use Rattle.lk_waits.proofs.Names.{after_entry, own_node, waiter_cases, if-false, if-true, not-true}
use Rattle.lk_waits.proofs.Names.{same_waiter-else, same_waiter-self, row_is_done, halts}
use Rattle.lk_waits.proofs.Names.{moves_aside, may_halt, IsNewest, IsThen, HasNoneAbove}
use Rattle.lk_waits.proofs.Names.{IsSoundSpinWorld, row_in, World}
use Rattle.lk_law.proofs.common.Before.{before_top}
use Rattle.lk_law.specs.{Families.is_slow, Places.slow_in, Premises.roused, Snapshot.before}
use Rattle.lk_law.specs.Steps.{put_kicked}
use Rattle.lk_waits.proofs.{AsideFollowed.row_keeps_led_aside, Followed.row_keeps_led}
use Rattle.lk_waits.proofs.{HaltEnds.ends_keep_served, HeadServed.row_keeps_served}
use Rattle.lk_waits.proofs.Quiet.{IsQuietRow, IsQuietFrame, ChangesQuietly, heads_stay_led}
use Rattle.lk_waits.proofs.Quiet.{aside_stay, heads_stay_served, bare_was, rests_led}
use Rattle.lk_waits.proofs.{Quiet.{rests_aside_by, rests_served}, Tails.next_frame}
use Rattle.lk_waits.specs.Attended.{is_bare, IsDeep, IsAttended, RowKeepsAttended}
use Rattle.lk_waits.proofs.Noded as nodeless

-- no more waiters are in the slow path below a context than there are contexts
few_before : (slow : Waiter → Bool) (p c : ℕ) → before slow p c ≤ c
few_before slow p zero = omega arith
few_before slow p (suc c) =
    let low = few_before slow p c in
    grind (arith, low, cases_Bool (slow (record { cpu = p; ctx = c })))

bare_tells : (k : Pc) → is_bare k ≡ true → nodeless.tells (Some k) ≡ true
bare_tells N1 h = refl
bare_tells N2 h = refl
bare_tells _ h = cc h

mute_not : (o : Option Pc) (k : Pc) → nodeless.Mute o → o ≡ Some k → is_bare k ≡ true → ⊥
mute_not o k h e t = let z = ap nodeless.tells e in let y = bare_tells k t in cc (z, h, y)

-- a frame gets a node where there is one
entry_noded : (mode : Mode) (me : Option NodeName) (k : Pc) → halts mode ≡ false → Some (after_entry mode me) ≡ Some k
    → is_bare k ≡ true → is_some me ≡ false
entry_noded mode None k a e h = refl
entry_noded mode (Some n) k a e h =
    absurd (mute_not (Some (after_entry mode (Some n))) k (nodeless.mute_entry mode (Some n) refl) e h)

module _ (m : World) (hs : LockName → LockHistory) (w : Waiter) (f : Frame) (ok : IsSoundSpinWorld m hs)
    (newest : HasNoneAbove m w) (awake : halts m.mode ≡ false) (live : m.frame w ≡ Some f)
    (inner : f.lock.wait ≡ true → IsThen f.then) (deep : IsDeep m) where
  abbrev slow : Waiter → Bool
  slow u = slow_in (m.frame u)

  -- where the newest frame enters the slow path, its processor's count is no more than its context
  counted : f.place ≡ Some G1 → m.queued w.cpu ≤ w.ctx
  counted at = elim (cases_lt w.ctx 7) [
    | inr ge ↦ let q = ok.agrees.nodes.counted w.cpu in let z = few_before slow w.cpu 6 in omega (arith, q, z, ge)
    | inl lt ↦
        let top : before slow w.cpu 6 ≡ before slow w.cpu w.ctx = before_top slow w.cpu w.ctx 6 quick (omega (arith, lt)) in
        let z = few_before slow w.cpu w.ctx in
        let q = ok.agrees.nodes.counted w.cpu in
        omega (arith, q, top, z)
  ]
    where
      own : slow w ≡ false
      own = ap slow_in live ∙ ap is_slow at

      quick : (e : ℕ) → w.ctx ≤ e → slow (record { cpu = w.cpu; ctx = e }) ≡ false
      quick e le = elim (cases_eq e w.ctx) [
        | inl same ↦ ap (λ (i : ℕ). slow (record { cpu = w.cpu; ctx = i })) same ∙ own
        | inr ne ↦ ap slow_in (newest e (omega (arith, le, ne)))
      ]

  unhalting : (c : Pc) → f.place ≡ Some c → may_halt c ≡ false
  unhalting c at =
      not-true (may_halt c) (λ e. let z = (ok.registers w f live).choice.halting c at e in cc (z, awake))

  own_deep : (c : Pc) → f.place ≡ Some c → (k : Pc) → (next_frame m w f c).place ≡ Some k → is_bare k ≡ true → 4 ≤ w.ctx
  own_deep N1 at k e h = deep w f N1 live at refl
  own_deep N2 at k e h = deep w f N2 live at refl
  own_deep G1 at k e h = elim (cases_lt (m.queued w.cpu) 4) [
    | inl lt ↦ absurd (let z = entry_noded m.mode (own_node w.cpu (m.queued w.cpu)) k awake e h in
        let y : is_some (own_node w.cpu (m.queued w.cpu)) ≡ true = grind (arith, lt) in cc (z, y))
    | inr ge ↦ let z = counted at in omega (arith, z, ge)
  ]
  own_deep c at k e h =
      absurd (mute_not (next_frame m w f c).place k (nodeless.mute m w f inner c (unhalting c at) refl) e h)

  deep_kept : (c : Pc) → f.place ≡ Some c → IsDeep (row_in m w f c).0
  deep_kept c at u d k lu pk h = elim (waiter_cases u w) [
    | inl e ↦
        let now : (row_in m w f c).0.frame w ≡ Some (next_frame m w f c) = (row_is_done m w f c (target c f)).frame w
        ∙ if-true (same_waiter w w) (Some (next_frame m w f c)) (m.frame w) (same_waiter-self w) in
        let q : Some d ≡ Some (next_frame m w f c) = sym lu ∙ ap (row_in m w f c).0.frame e ∙ now in
        let is : next_frame m w f c ≡ d = cc q in
        subst (λ (x : Waiter). 4 ≤ x.ctx) (sym e) (own_deep c at k (ap (λ (y : Frame). y.place) is ∙ pk) h)
    | inr ne ↦ deep u d k (sym (there u ne) ∙ lu) pk h
  ]
    where
      there : (u : Waiter) → u ≢ w → (row_in m w f c).0.frame u ≡ m.frame u
      there u ne = (row_is_done m w f c (target c f)).frame u
          ∙ if-false (same_waiter u w) (Some (next_frame m w f c)) (m.frame u) (same_waiter-else u w ne)

pub row_keeps_attended : (c : Pc) → RowKeepsAttended c
row_keeps_attended c m hs w f ok newest live at inner inv =
    let mode : (row_in m w f c).0.mode ≡ m.mode = (row_is_done m w f c (target c f)).mode in
    record {
      led = λ a p.
          let awake = ap halts (sym mode) ∙ a in
          let plain = ap moves_aside (sym mode) ∙ p in
          row_keeps_led c m hs w f ok awake plain live at inner (inv.led awake plain);
      aside = λ a p.
          let awake = ap halts (sym mode) ∙ a in
          let aside = ap moves_aside (sym mode) ∙ p in
          row_keeps_led_aside c m hs w f ok awake aside live at inner (inv.aside awake aside);
      deep = λ a.
          let awake = ap halts (sym mode) ∙ a in
          deep_kept m hs w f ok newest awake live inner (inv.deep awake) c at;
      served = λ a.
          let on = ap halts (sym mode) ∙ a in
          row_keeps_served c m hs w f ok on live at inner (inv.served on);
    }

-- a world that is changed quietly, in which no flag is set and no kick made
pub attended_stays : (a b : World) (w : Waiter) → ChangesQuietly a b w → b.mode ≡ a.mode
    → ((n : NodeName) → is_set (b.node n).flag ≡ true → is_set (a.node n).flag ≡ true)
    → ((p : ℕ) → b.kicked p ≡ a.kicked p) → IsAttended a → IsAttended b
attended_stays a b w quietly mode flags kicked inv =
    record {
      led = λ h p. heads_stay_led a b w quietly (inv.led (ap halts (sym mode) ∙ h) (ap moves_aside (sym mode) ∙ p));
      aside = λ h p. aside_stay a b w quietly true (inv.aside (ap halts (sym mode) ∙ h) (ap moves_aside (sym mode) ∙ p));
      deep = λ h u d c lu pc on. inv.deep (ap halts (sym mode) ∙ h) u d c (bare_was a b w quietly u d c lu pc on) pc on;
      served = λ h. heads_stay_served a b w quietly flags kicked (inv.served (ap halts (sym mode) ∙ h));
    }

-- a world in which no frame shows anything
pub attended_at_rest : (m : World) → ((u : Waiter) (f : Frame) → m.frame u ≡ Some f → IsQuietFrame f) → IsAttended m
attended_at_rest m quiet =
    record {
      led = λ a p. rests_led m quiet;
      aside = λ a p. rests_aside_by m quiet true;
      deep = λ a w f c live at on. absurd (loud c (quiet w f live c at) on);
      served = λ a. rests_served m quiet;
    }
  where
    loud : (c : Pc) → IsQuietRow c → is_bare c ≡ true → ⊥
    loud N1 q h = q.noded.0 refl
    loud N2 q h = q.noded.1 refl
    loud _ q h = cc h

-- the end of a halt by a kick
pub wake_attended : (m : World) (hs : LockName → LockHistory) (w : Waiter) (f : Frame) → IsSoundSpinWorld m hs → IsNewest m w
    → m.frame w ≡ Some f → m.halted w.cpu ≡ true → halts m.mode ≡ true → IsAttended m
    → IsAttended (put_kicked (roused m w f) w.cpu false)
wake_attended m hs w f ok newest live asleep on inv =
    record {
      led = λ a p. absurd (let z : true ≡ false = sym on ∙ a in cc z);
      aside = λ a p. absurd (let z : true ≡ false = sym on ∙ a in cc z);
      deep = λ a. absurd (let z : true ≡ false = sym on ∙ a in cc z);
      served = λ a. (ends_keep_served m hs w f ok newest live asleep (inv.served on)).1;
    }
