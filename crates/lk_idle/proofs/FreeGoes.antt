-- Machines that differ in nodes alone that nobody has go on alike.
use Rattle.std.proofs.Common.{◌≡◌, ℕ, ◌+◌, Option, Some, None, Bool, true, false, ap, refl, sym}
use Rattle.std.proofs.Common.{◌∙◌, subst, if◌then◌else◌, ◌||◌, ◌&&◌, ◌==◌, not, nat_le, is_some}
use Rattle.std.specs.Prelude.{unwrap_or}
use Rattle.lk_idle.proofs.Names.{NodeName, after_halt, Machine, rest_frame, top_frame, is_node}
use Rattle.lk_idle.proofs.Names.{node_of, settled, Answer, Frame, Pc, C1, C2, C3, C7, E14, G6, G10}
use Rattle.lk_idle.proofs.Names.{W1, W4, freed, is_owned, owns}
use Rattle.lk_names.specs.{declared.events.Act.Act, declared.names.Waiter.Waiter}
use Rattle.lk_rows.specs.Acts.{idle, woken, kicked_awake, step_halted, step, is_shut}
use Rattle.lk_rows.specs.Acts.{stands_halting, handler_frame, awake, interrupted, nudged, next}
use Rattle.lk_rows.specs.Machine.{cpu_at, top_of, frame_at, preempted_at, halted_at, kicked_at}
use Rattle.lk_rows.specs.Machine.{set_top, set_halted, set_kicked, set_preempted, push}
use Rattle.lk_rows.specs.Programs.{handlers_of}
use Rattle.lk_law.proofs.{cna.Knows.choice_is_used, common.Users.{node_is_ones, is_node-own}}
use Rattle.lk_law.specs.{Known.IsOwnNode, Phase.has_node, Places.{phase_at, phase_if, phase_of}}
use Rattle.lk_law.specs.{Premises.Uses, Sound.{IsSound, world}}
use Rattle.lk_idle.proofs.FreeLeading.{AreFreedAlike, same_top, settled-freed, pair}
use Rattle.lk_idle.proofs.{FreeNodes.owned_by, FreeRows.{ReadsOwned, reads_own, row-freed}}
use Rattle.lk_idle.proofs.FreeWrites.{IsOwned, top-freed, depth-freed, preempted-freed}
use Rattle.lk_idle.proofs.FreeWrites.{halted-freed, kicked-freed, handlers-freed, set_halted-freed}
use Rattle.lk_idle.proofs.FreeWrites.{set_kicked-freed, set_preempted-freed, push-freed}
use Rattle.lk_idle.proofs.FreeWrites.{freed_twice}
use Rattle.lk_names.specs.declared.events.Act.TheVariants as act
use Rattle.lk_names.specs.declared.events.What.TheVariants as what

-- one of two answers
either : (s t : Bool) (a b c d : Answer) → s ≡ t → AreFreedAlike a c → AreFreedAlike b d
    → AreFreedAlike (if s then a else b) (if t then c else d)
either s t a b c d same x y =
    subst (λ (u : Bool). AreFreedAlike (if u then a else b) (if t then c else d)) (sym same) (by t)
  where
    by : (u : Bool) → AreFreedAlike (if u then a else b) (if u then c else d)
    by true = x
    by false = y

-- the nodes that the row of a processor's newest frame reads have owners
abbrev pub RowReadsOwned : Machine → ℕ → Type 0
RowReadsOwned m p = (c : Pc) → (top_frame m p).place ≡ Some c → ReadsOwned m (top_frame m p) c

still : (m : Machine) → AreFreedAlike (idle (freed m)) (idle m)
still m = record { state = freed_twice m; event = refl }

module _ (m : Machine) (p : ℕ) where
  woken-freed : freed (woken (freed m) p) ≡ freed (woken m p)
  woken-freed =
      let g : Frame = record (top_frame m p) { place = after_halt (top_frame m p).place } in
      ap (λ (f : Frame). freed (set_halted (set_top (freed m) p (record f { place = after_halt f.place })) p false))
      (top-freed m p)
      ∙ sym (set_halted-freed (set_top (freed m) p g) p false)
      ∙ ap (λ k. set_halted k p false) (same_top p m g (λ j own. own))
      ∙ set_halted-freed (set_top m p g) p false

  kicked_awake-freed : AreFreedAlike (kicked_awake (freed m) p) (kicked_awake m p)
  kicked_awake-freed = record {
    state =
        sym (set_kicked-freed (woken (freed m) p) p false)
        ∙ ap (λ k. set_kicked k p false) woken-freed
        ∙ set_kicked-freed (woken m p) p false;
    event =
        ap (λ (f : Frame). Some (record { by = record { cpu = p; ctx = f.ctx }; what = what.Wake f.lock }))
        (top-freed m p);
  }

  step_halted-freed : AreFreedAlike (step_halted (freed m) p) (step_halted m p)
  step_halted-freed =
      either (kicked_at (freed m) p) (kicked_at m p) (kicked_awake (freed m) p) (idle (freed m))
      (kicked_awake m p) (idle m) (kicked-freed m p) kicked_awake-freed (still m)

  step-freed : RowReadsOwned m p → AreFreedAlike (step (freed m) p) (step m p)
  step-freed has =
      either (preempted_at (freed m) p) (preempted_at m p) _ _ _ _ (preempted-freed m p) (still m)
      (either (halted_at (freed m) p) (halted_at m p) _ _ _ _ (halted-freed m p) step_halted-freed
      (row-freed m p has))

  awake-freed : freed (awake (freed m) p) ≡ freed (awake m p)
  awake-freed =
      ap (λ b. freed (if b then woken (freed m) p else freed m)) (halted-freed m p) ∙ by (halted_at m p)
    where
      by : (b : Bool) → freed (if b then woken (freed m) p else freed m) ≡ freed (if b then woken m p else m)
      by true = woken-freed
      by false = freed_twice m

  handler-freed : handler_frame (freed m) p ≡ handler_frame m p
  handler-freed = (λ i. record rest_frame { ctx = depth-freed m p i; program = handlers-freed m p i + 1 })

  interrupted-freed : AreFreedAlike (interrupted (freed m) p) (interrupted m p)
  interrupted-freed =
      let h = handler_frame m p in
      record {
        state =
            ap (λ f. freed (settled (push (awake (freed m) p) p f) p f)) handler-freed
            ∙ pair p (λ k. settled k p h) (λ k. settled-freed p k h (λ j own. absurd (no_own own)))
            (push (awake (freed m) p) p h) (push (awake m p) p h)
            (pair p (λ k. push k p h) (λ k. push-freed k p h refl) (awake (freed m) p) (awake m p) awake-freed);
        event =
            ap (λ n. Some (record { by = record { cpu = p; ctx = n }; what = what.Int })) (depth-freed m p);
      }
    where
      no_own : false ≡ true → ⊥
      no_own e = cc

  nudged-freed : AreFreedAlike (nudged (freed m) p) (nudged m p)
  nudged-freed = record {
    state = woken-freed;
    event =
        ap (λ (f : Frame). Some (record { by = record { cpu = p; ctx = f.ctx }; what = what.Nudge }))
        (top-freed m p);
  }

  shut-freed : is_shut (freed m) p ≡ is_shut m p
  shut-freed = (λ i. preempted-freed m p i || nat_le 6 (depth-freed m p i)
      || nat_le (handlers_of m.setup p) (handlers-freed m p i)
      || (stands_halting (top-freed m p i).place && not (halted-freed m p i)))

  preempted-alike : (b : Bool) → AreFreedAlike (set_preempted (freed m) p b, None) (set_preempted m p b, None)
  preempted-alike b = record {
    state = ap (λ k. freed k) (set_preempted-freed m p b) ∙ freed_twice (set_preempted m p b);
    event = refl;
  }

pub next-freed : (m : Machine) (a : Act) → ((p : ℕ) → RowReadsOwned m p) → AreFreedAlike (next (freed m) a) (next m a)
next-freed m (act.Step p) has = step-freed m p (has p)
next-freed m (act.Interrupt p) has =
    either (is_shut (freed m) p) (is_shut m p) _ _ _ _ (shut-freed m p) (still m) (interrupted-freed m p)
next-freed m (act.Preempt p) has =
    either (preempted_at (freed m) p) (preempted_at m p) _ _ _ _ (preempted-freed m p) (still m)
    (preempted-alike m p true)
next-freed m (act.Resume p) has =
    either (preempted_at (freed m) p) (preempted_at m p) _ _ _ _ (preempted-freed m p)
    (preempted-alike m p false) (still m)
next-freed m (act.Nudge p) has =
    either (preempted_at (freed m) p || not (halted_at (freed m) p)) (preempted_at m p || not (halted_at m p))
    _ _ _ _ (λ i. preempted-freed m p i || not (halted-freed m p i)) (still m) (nudged-freed m p)

-- the rows that read their own nodes have one
noded : (c : Pc) → reads_own c ≡ true → (b : Bool) (prev y : NodeName) → has_node (phase_at c b prev y) ≡ true
noded G6 on b prev y = refl
noded G10 on b prev y = refl
noded C1 on b prev y = refl
noded C2 on b prev y = refl
noded C7 on b prev y = refl
noded W1 on b prev y = refl
noded W4 on b prev y = refl
noded E14 on b prev y = refl
noded c on b prev y = cc

owns_node : (o : Option NodeName) (n : NodeName) → is_node o n ≡ true → owns o n.index ≡ true
owns_node None n is = cc
owns_node (Some k) n is = right (k.cpu == n.cpu) (k.index == n.index) is
  where
    right : (a b : Bool) → (a && b) ≡ true → b ≡ true
    right true b e = e
    right false b e = cc

-- a node that a waiter of its processor uses has an owner
used_owned : (m : Machine) (u : Waiter) (n : NodeName) → Uses (world m) u n → IsOwnNode u n → IsOwned m n
unfolding frame_at
used_owned m u n uses own =
    subst (λ (q : ℕ). is_owned (cpu_at m q).frames n.index ≡ true) (sym own.cpu)
    (owned_by (cpu_at m u.cpu).frames u.ctx uses.0 n.index uses.1 (owns_node uses.0.me n uses.2))

-- in a sound machine the nodes that rows read have owners
module _ (m : Machine) (sound : IsSound m) (w : Waiter) (f : Frame) (live : frame_at m w ≡ Some f) (c : Pc)
    (place : f.place ≡ Some c) where
  own_owned : reads_own c ≡ true → IsOwned m (node_of f.me)
  own_owned on =
      let ok = sound.1.world.spins in
      let phase : has_node (phase_of f) ≡ true =
      ap (λ (o : Option Pc). has_node (phase_if o (is_some f.me) (node_of f.prev) (node_of f.y))) place
      ∙ noded c on (is_some f.me) (node_of f.prev) (node_of f.y) in
      let some = (ok.registers w f live).me phase in
      let uses : Uses (world m) w (node_of f.me) = (f, live, is_node-own f.me some) in
      used_owned m w (node_of f.me) uses (node_is_ones (world m) _ w w (node_of f.me) ok uses uses).1

  last_owned : c ≡ C2 → IsOwned m (node_of f.b)
  last_owned e =
      let used = choice_is_used (world m) _ w f C2 sound.1.world.spins live (place ∙ ap Some e) refl in
      used_owned m used.0 (node_of f.b) used.1 used.2

  first_owned : c ≡ C3 → IsOwned m (node_of f.second)
  first_owned e =
      let used = choice_is_used (world m) _ w f C3 sound.1.world.spins live (place ∙ ap Some e) refl in
      used_owned m used.0 (node_of f.second) used.1 used.2

pub sound_owned : (m : Machine) → IsSound m → (p : ℕ) → RowReadsOwned m p
sound_owned m sound p = by (frame_at m (top_of m p)) refl
  where
    by : (o : Option Frame) → frame_at m (top_of m p) ≡ o → (c : Pc)
        → (unwrap_or o rest_frame).place ≡ Some c → ReadsOwned m (unwrap_or o rest_frame) c
    by None here c at = absurd (nowhere c at)
      where
        nowhere : (c : Pc) → None ≡ Some c → ⊥
        nowhere c e = cc
    by (Some f) here c at = record {
      own = own_owned m sound (top_of m p) f here c at;
      last = last_owned m sound (top_of m p) f here c at;
      first = first_owned m sound (top_of m p) f here c at;
    }
