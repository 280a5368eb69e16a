-- Each event of a run from rest is one that its line tells an auditor.
use Rattle.std.proofs.Common.{true, ◌≡◌, ◌≤◌, ◌<◌, ◌+◌, ◌++◌, ◌^◌, ℕ, zero, suc, List, [], ◌∷◌, Option, Some, None, Ok, length, nat_lt, nat_le, slice_get, refl, sym, ap, subst, ◌∙◌, arith, append_assoc, append-nil}
use Rattle.std.proofs.lemmas.Bool.Decides.{nat_tests}
use Rattle.std.proofs.lemmas.List.{length-append}
use Rattle.std.specs.Prelude.{⊤}
use Rattle.lk_names.specs.History.{lock_of, history_of}
use Rattle.lk_names.specs.Lawful.{Rules, IsLawful}
use Rattle.lk_names.specs.declared.names.Waiter.{Waiter}
use Rattle.lk_names.specs.declared.names.LockName.{LockName}
use Rattle.lk_names.specs.declared.events.Act.{Act}
use Rattle.lk_names.specs.declared.events.Event.{Event}
use Rattle.lk_names.specs.declared.events.What.{What}
use Rattle.lk_names.specs.declared.events.What.TheVariants as what
use Rattle.lk_abs.proofs.OneMore.{lawful-front, allowed_from_lawful}
use Rattle.lk_rows.specs.declared.setup.Setup.{Setup}
use Rattle.lk_rows.specs.Programs.{IsLawfulSetup}
use Rattle.lk_rows.specs.Machine.{Machine}
use Rattle.lk_rows.specs.Acts.{next, processor_of}
use Rattle.lk_rows.specs.Run.{Occurrence, occurs, history_from, events_of}
use Rattle.lk_rows.specs.Rules.{rules_of}
use Rattle.lk_law.specs.Kicked.{with_event}
use Rattle.lk_law.specs.MachineLaws.{ShowsLawful, ActKeeps, AreInRange}
use Rattle.lk_forms.specs.Grammar.{cpus_of}
use Rattle.lk_forms.specs.declared.limits.TheConstants.{MAX_ACTS}
use Rattle.lk_audit_forms.specs.Exact.{IsShortLock, IsShortWaiter, IsTellable, IsTold}
use Rattle.lk_audit_forms.specs.Ranges.{is_waiter_of, names_of, is_lock_of, checked}
use Rattle.lk_audit_forms.proofs.Events.{printed_is_read}
use Rattle.lk_audit_law.specs.Read.{AreRead}
use Rattle.lk_audit_law.proofs.Facts.{IsOf, IsNamed, IsWritten}
use Rattle.lk_audit_law.proofs.Acts.{act_of}
use Rattle.lk_audit_law.proofs.Queues.{AllBy, by-push, history_queues, all_at}

-- what each line tells is in range
abbrev pub AreTold : Setup → ℕ → List Occurrence → Type 0
AreTold s last [] = ⊤
AreTold s last (o ∷ os) =
    IsTold o.act o.event × (checked s last (Some (o.act, o.event)) ≡ Ok (o.act, o.event)) × AreTold s o.act os

-- each act comes after the one before, and is not too late; and its event is of the setup
abbrev pub Follows : Setup → ℕ → List Occurrence → Type 0
Follows s last [] = ⊤
Follows s last (o ∷ os) = (last < o.act) × (o.act ≤ MAX_ACTS) × IsOf s o.event × Follows s o.act os

event_follows : (s : Setup) (n last : ℕ) (rest : List Occurrence) (o : Option Event) → last < n → n ≤ MAX_ACTS
    → ((x : Event) → o ≡ Some x → IsOf s x) → ((l : ℕ) → l < suc n → Follows s l rest)
    → Follows s last (occurs n o ++ rest)
event_follows s n last rest None less late of later = later last (omega (arith, less))
event_follows s n last rest (Some x) less late of later = (less, late, of x refl, later n (omega arith))

module _ (keeps : ActKeeps) (same : (m : Machine) (a : Act) → (next m a).0.setup ≡ m.setup) where
  pub run_follows : (acts : List Act) (n last : ℕ) (m : Machine) (es : List Event) → AreInRange (cpus_of m.setup) acts
      → ShowsLawful m es → n + length acts ≤ MAX_ACTS + 1 → last < n → Follows m.setup last (history_from n m acts)
  run_follows [] n last m es range shows few less = tt
  run_follows (a ∷ acts) n last m es range shows few less =
      let here : processor_of a < length m.cpus =
      subst (λ x. processor_of a < x) (sym shows.shows.whole.cpus) range.0 in
      let more = subst (λ (s : Setup). AreInRange (cpus_of s) acts) (sym (same m a)) range.1 in
      let after = keeps m es a here shows in
      event_follows m.setup n last (history_from (suc n) (next m a).0 acts) (next m a).1 less (omega (arith, few))
      (λ x e. act_of m _ shows.shows a here x e)
      (λ l lt. subst (λ s. Follows s l (history_from (suc n) (next m a).0 acts)) (same m a)
      (run_follows acts (suc n) l (next m a).0 (with_event es (next m a).1) more after (omega (arith, few)) lt))

-- what a lawful history begins with is lawful
begins : (rules : Rules) (fs es : List Event) → IsLawful rules (es ++ fs) → IsLawful rules es
begins rules [] es ok = subst (IsLawful rules) (append-nil es) ok
begins rules (f ∷ fs) es ok =
    lawful-front rules es f (begins rules fs (es ++ f ∷ []) (subst (IsLawful rules) (sym (append_assoc es (f ∷ []) fs)) ok))

abbrev IsWaiterOf : Setup → Waiter → Type 0
IsWaiterOf s w = is_waiter_of (cpus_of s) w ≡ true

waiter_of : (s : Setup) (e : Event) → IsOf s e → IsWaiterOf s e.by
waiter_of s e of = (let cpu = of.cpu in let ctx = of.ctx in grind (arith, nat_tests, cpu, ctx))

get_within : {A : Type 0} (xs : List A) (i : ℕ) (x : A) → slice_get xs i ≡ Some x → i < length xs
get_within [] i x is = cc
get_within (y ∷ xs) zero x is = omega arith
get_within (y ∷ xs) (suc i) x is = (let below = get_within xs i x is in omega (arith, below))

-- a lawful handover goes to a waiter of the setup, and moves no more than have arrived
pass_names : (s : Setup) (before : List Event) (by to : Waiter) (l : LockName) (k : ℕ) → AllBy (IsWaiterOf s) before
    → length before ≤ MAX_ACTS → IsLawful (rules_of s) (before ++ record { by = by; what = what.Pass l to k } ∷ [])
    → IsWaiterOf s to × (k < 2 ^ 32)
pass_names s before by to l k all few ok =
    let allowed = allowed_from_lawful (rules_of s) before (record { by = by; what = what.Pass l to k }) ok l refl in
    let queues = history_queues (IsWaiterOf s) l before all in
    let next = allowed.ordered.3 in
    let within = get_within (history_of l before).main (suc k) to next in
    let most = queues.few in (
      all_at (IsWaiterOf s) (suc k) (history_of l before).main to queues.main next,
      omega (arith, within, most, few),
    )

-- the names beside its own

names_ok : (s : Setup) (w : What) → IsNamed (cpus_of s) w
    → ((l : LockName) (to : Waiter) (k : ℕ) → w ≡ what.Pass l to k → IsWaiterOf s to) → names_of (cpus_of s) w ≡ true
names_ok s (what.Take l h) named pass = refl
names_ok s (what.Miss l) named pass = refl
names_ok s (what.Release l None) named pass = refl
names_ok s (what.Release l (Some p)) named pass = grind (arith, nat_tests, named)
names_ok s (what.Kick p) named pass = grind (arith, nat_tests, named)
names_ok s (what.Arrive l) named pass = refl
names_ok s (what.Pass l to k) named pass = pass l to k refl
names_ok s (what.Flush l) named pass = refl
names_ok s (what.Promote l) named pass = refl
names_ok s (what.Leave l) named pass = refl
names_ok s (what.Halt l) named pass = refl
names_ok s (what.Wake l) named pass = refl
names_ok s what.Int named pass = refl
names_ok s what.Nudge named pass = refl
names_ok s (what.RTake l h) named pass = refl
names_ok s (what.RRelease l) named pass = refl
names_ok s (what.WTake l h) named pass = refl
names_ok s (what.WRelease l) named pass = refl

-- small numbers

module _ (s : Setup) (lawful : IsLawfulSetup s) where
  short_lock : (l : LockName) → is_lock_of (length s.locks.items) (Some l) ≡ true → IsShortLock l
  short_lock l is =
      let few = lawful.locks in
      let below : l.index < length s.locks.items = grind (arith, nat_tests, is) in
      omega (arith, below, few)

  short_waiter : (w : Waiter) → IsWaiterOf s w → IsShortWaiter w
  short_waiter w is =
      let few = lawful.few in
      let cpu : w.cpu < cpus_of s = grind (arith, nat_tests, is) in
      let ctx : w.ctx < 6 = grind (arith, nat_tests, is) in
      (omega (arith, cpu, few), omega (arith, ctx))

  short_cpu : (p : ℕ) → p < cpus_of s → p < 2 ^ 32
  short_cpu p h = (let few = lawful.few in omega (arith, h, few))

  tellable : (w : What) → IsNamed (cpus_of s) w → is_lock_of (length s.locks.items) (lock_of w) ≡ true → IsWritten w
      → ((l : LockName) (to : Waiter) (k : ℕ) → w ≡ what.Pass l to k → IsWaiterOf s to × (k < 2 ^ 32)) → IsTellable w
  tellable (what.Take l h) named lock written pass = short_lock l lock
  tellable (what.Miss l) named lock written pass = short_lock l lock
  tellable (what.Release l None) named lock written pass = (short_lock l lock, tt)
  tellable (what.Release l (Some p)) named lock written pass = (short_lock l lock, short_cpu p named)
  tellable (what.Kick p) named lock written pass = short_cpu p named
  tellable (what.Arrive l) named lock written pass = short_lock l lock
  tellable (what.Pass l to k) named lock written pass =
      (short_lock l lock, short_waiter to (pass l to k refl).0, (pass l to k refl).1)
  tellable (what.Flush l) named lock written pass = short_lock l lock
  tellable (what.Promote l) named lock written pass = short_lock l lock
  tellable (what.Leave l) named lock written pass = short_lock l lock
  tellable (what.Halt l) named lock written pass = short_lock l lock
  tellable (what.Wake l) named lock written pass = short_lock l lock
  tellable what.Int named lock written pass = tt
  tellable what.Nudge named lock written pass = tt
  tellable (what.RTake l h) named lock written pass = short_lock l lock
  tellable (what.RRelease l) named lock written pass = short_lock l lock
  tellable (what.WTake l h) named lock written pass = (short_lock l lock, written)
  tellable (what.WRelease l) named lock written pass = short_lock l lock

  -- one event of a lawful history
  pub is_read : (last act : ℕ) (e : Event) (before : List Event) → last < act → act ≤ MAX_ACTS → IsOf s e
      → AllBy (IsWaiterOf s) before → length before ≤ MAX_ACTS → IsLawful (rules_of s) (before ++ e ∷ [])
      → IsTold act e × (checked s last (Some (act, e)) ≡ Ok (act, e))
  is_read last act e before less late of all few ok =
      let pass = λ (l : LockName) (to : Waiter) (k : ℕ) (is : e.what ≡ what.Pass l to k).
      pass_names s before e.by to l k all few (subst (λ w. IsLawful (rules_of s) (before ++ record { by = e.by; what = w } ∷ [])) is ok) in
      let named : names_of (cpus_of s) e.what ≡ true = names_ok s e.what of.named (λ l to k is. (pass l to k is).0) in
      let by = waiter_of s e of in
      let first : nat_lt last act ≡ true = grind (arith, nat_tests, less) in
      let most : nat_le act MAX_ACTS ≡ true = grind (arith, nat_tests, late) in (
        (omega (arith, late), short_waiter e.by by, tellable e.what of.named of.lock of.written pass),
        rw (first, most, by, named, of.lock, of.fits) refl,
      )

  -- and all events
  pub are_told : (os : List Occurrence) (last : ℕ) (before : List Event) → Follows s last os → AllBy (IsWaiterOf s) before
      → length before ≤ last → IsLawful (rules_of s) (before ++ events_of os) → AreTold s last os
  are_told [] last before follows all few ok = tt
  are_told (o ∷ os) last before follows all few ok =
      let whole : IsLawful (rules_of s) ((before ++ o.event ∷ []) ++ events_of os) =
      subst (IsLawful (rules_of s)) (sym (append_assoc before (o.event ∷ []) (events_of os))) ok in
      let less = follows.0 in
      let late = follows.1 in
      let one = is_read last o.act o.event before less late follows.2 all (omega (arith, few, less, late)) (begins (rules_of s) (events_of os) (before ++ o.event ∷ []) whole) in (
        one.0,
        one.1,
        are_told os o.act (before ++ o.event ∷ []) follows.3 (by-push (IsWaiterOf s) before o.event all (waiter_of s o.event follows.2))
            (omega (arith, few, less, length-append before (o.event ∷ []))) whole,
      )

pub are_read : (s : Setup) (os : List Occurrence) (last : ℕ) → AreTold s last os → AreRead s last os
are_read s [] last told = tt
are_read s (o ∷ os) last told =
    (λ line is. ap (checked s last) (printed_is_read line o.act o.event told.0 is) ∙ told.1, are_read s os o.act told.2)
