-- Machines that are alike go on alike.
use Rattle.std.proofs.Common.{List, [], ◌∷◌, map, suc, ◌≡◌, ℕ, ◌+◌, Option, Some, None, Bool, true}
use Rattle.std.proofs.Common.{false, ap, refl, sym, ◌∙◌, subst, if◌then◌else◌, ◌||◌, ◌&&◌, not}
use Rattle.std.proofs.Common.{nat_le}
use Rattle.std.specs.Prelude.{unwrap_or}
use Rattle.lk_idle.proofs.Names.{after_halt, CpuState, Machine, rest_frame, top_frame, settled}
use Rattle.lk_idle.proofs.Names.{Answer, Frame, Node, Pc, Why, cut, rested, rested_cpu}
use Rattle.lk_idle.proofs.Names.{rested_frame, freed, freed_node, is_owned, owns, lives_at}
use Rattle.lk_idle.proofs.Names.{none_lives}
use Rattle.lk_names.specs.declared.events.Act.{Act}
use Rattle.lk_rows.specs.Acts.{idle, woken, kicked_awake, step_halted, step, is_shut}
use Rattle.lk_rows.specs.Acts.{stands_halting, handler_frame, awake, interrupted, nudged, next}
use Rattle.lk_rows.specs.Machine.{cpu_at, top_of, frame_at, preempted_at, halted_at, kicked_at}
use Rattle.lk_rows.specs.Machine.{set_top, set_halted, set_kicked, set_preempted, push}
use Rattle.lk_rows.specs.{Programs.handlers_of, declared.setup.Verb.Verb}
use Rattle.lk_rows.specs.declared.setup.Verb.TheVariants.{Read, Write}
use Rattle.lk_law.specs.Sound.{IsSound, after_wait}
use Rattle.lk_idle.proofs.{Frames.halt_lives, FreeGoes.{next-freed, sound_owned}}
use Rattle.lk_idle.proofs.FreeWrites.{cpu-freed, top-freed}
use Rattle.lk_idle.proofs.{Leading.{Alike, KnowsWay, settled-alike}, Rows.row-alike}
use Rattle.lk_idle.proofs.Writes.{top-rested, depth-rested, preempted-rested, halted-rested}
use Rattle.lk_idle.proofs.Writes.{kicked-rested, handlers-rested, set_top-rested, set_halted-rested}
use Rattle.lk_idle.proofs.Writes.{set_kicked-rested, set_preempted-rested, push-rested}
use Rattle.lk_idle.proofs.Writes.{machine_twice, cpu-rested}
use Rattle.lk_idle.specs.{Alike.{bared, bared_cpu, AlikeGoesOn}, Free.{freed_cpu, freed_nodes}}
use Rattle.lk_names.specs.declared.events.Act.TheVariants as act
use Rattle.lk_names.specs.declared.events.What.TheVariants as what

-- one of two answers
either : (s t : Bool) (a b c d : Answer) → s ≡ t → Alike a c → Alike b d
    → Alike (if s then a else b) (if t then c else d)
either s t a b c d same x y =
    subst (λ (u : Bool). Alike (if u then a else b) (if t then c else d)) (sym same) (by t)
  where
    by : (u : Bool) → Alike (if u then a else b) (if u then c else d)
    by true = x
    by false = y

-- the newest frame of a processor, if it stands at a row, knows where to go on
abbrev KnowsRow : Machine → ℕ → Type 0
KnowsRow m p = (c : Pc) → (top_frame m p).place ≡ Some c → KnowsWay (top_frame m p)

still : (m : Machine) → Alike (idle (rested m)) (idle m)
still m = record { state = machine_twice m; event = refl }

module _ (m : Machine) (p : ℕ) where
  abbrev t : Frame
  t = top_frame m p

  woken-rested : woken (rested m) p ≡ rested (woken m p)
  woken-rested =
      ap (λ (f : Frame). set_halted (set_top (rested m) p (record f { place = after_halt f.place })) p false)
      (top-rested m p)
      ∙ ap (λ l. set_halted (set_top (rested m) p (record (cut l t) { place = after_halt t.place })) p false)
      (sym (halt_lives t.place t.why))
      ∙ ap (λ k. set_halted k p false) (set_top-rested m p (record t { place = after_halt t.place }))
      ∙ set_halted-rested (set_top m p (record t { place = after_halt t.place })) p false

  kicked_awake-alike : Alike (kicked_awake (rested m) p) (kicked_awake m p)
  kicked_awake-alike = record {
    state =
        ap (λ k. rested (set_kicked k p false)) woken-rested
        ∙ ap (λ k. rested k) (set_kicked-rested (woken m p) p false)
        ∙ machine_twice (set_kicked (woken m p) p false);
    event =
        ap (λ (f : Frame). Some (record { by = record { cpu = p; ctx = f.ctx }; what = what.Wake f.lock }))
        (top-rested m p);
  }

  step_halted-alike : Alike (step_halted (rested m) p) (step_halted m p)
  step_halted-alike =
      either (kicked_at (rested m) p) (kicked_at m p) (kicked_awake (rested m) p) (idle (rested m))
      (kicked_awake m p) (idle m) (kicked-rested m p) kicked_awake-alike (still m)

  step-alike : KnowsRow m p → Alike (step (rested m) p) (step m p)
  step-alike knows =
      either (preempted_at (rested m) p) (preempted_at m p) _ _ _ _ (preempted-rested m p) (still m)
      (either (halted_at (rested m) p) (halted_at m p) _ _ _ _ (halted-rested m p) step_halted-alike
      (row-alike m p knows))

  awake-rested : awake (rested m) p ≡ rested (awake m p)
  awake-rested =
      ap (λ b. if b then woken (rested m) p else rested m) (halted-rested m p) ∙ by (halted_at m p)
    where
      by : (b : Bool) → (if b then woken (rested m) p else rested m) ≡ rested (if b then woken m p else m)
      by true = woken-rested
      by false = refl

  handler-rested : handler_frame (rested m) p ≡ handler_frame m p
  handler-rested = (λ i. record rest_frame { ctx = depth-rested m p i; program = handlers-rested m p i + 1 })

  interrupted-alike : Alike (interrupted (rested m) p) (interrupted m p)
  interrupted-alike = record {
    state =
        ap (λ f. rested (settled (push (awake (rested m) p) p f) p f)) handler-rested
        ∙ ap (λ k. rested (settled (push k p (handler_frame m p)) p (handler_frame m p))) awake-rested
        ∙ ap (λ k. rested (settled k p (handler_frame m p))) (push-rested (awake m p) p (handler_frame m p))
        ∙ settled-alike p (push (awake m p) p (handler_frame m p)) none_lives (handler_frame m p);
    event =
        ap (λ n. Some (record { by = record { cpu = p; ctx = n }; what = what.Int })) (depth-rested m p);
  }

  nudged-alike : Alike (nudged (rested m) p) (nudged m p)
  nudged-alike = record {
    state = ap (λ k. rested k) woken-rested ∙ machine_twice (woken m p);
    event =
        ap (λ (f : Frame). Some (record { by = record { cpu = p; ctx = f.ctx }; what = what.Nudge }))
        (top-rested m p);
  }

  shut-rested : is_shut (rested m) p ≡ is_shut m p
  shut-rested = (λ i. preempted-rested m p i || nat_le 6 (depth-rested m p i)
      || nat_le (handlers_of m.setup p) (handlers-rested m p i)
      || (stands_halting (top-rested m p i).place && not (halted-rested m p i)))

  preempted-alike : (b : Bool) → Alike (set_preempted (rested m) p b, None) (set_preempted m p b, None)
  preempted-alike b = record {
    state = ap (λ k. rested k) (set_preempted-rested m p b) ∙ machine_twice (set_preempted m p b);
    event = refl;
  }

next-alike : (m : Machine) (a : Act) → ((p : ℕ) → KnowsRow m p) → Alike (next (rested m) a) (next m a)
next-alike m (act.Step p) knows = step-alike m p (knows p)
next-alike m (act.Interrupt p) knows =
    either (is_shut (rested m) p) (is_shut m p) _ _ _ _ (shut-rested m p) (still m) (interrupted-alike m p)
next-alike m (act.Preempt p) knows =
    either (preempted_at (rested m) p) (preempted_at m p) _ _ _ _ (preempted-rested m p) (still m)
    (preempted-alike m p true)
next-alike m (act.Resume p) knows =
    either (preempted_at (rested m) p) (preempted_at m p) _ _ _ _ (preempted-rested m p)
    (preempted-alike m p false) (still m)
next-alike m (act.Nudge p) knows =
    either (preempted_at (rested m) p || not (halted_at (rested m) p)) (preempted_at m p || not (halted_at m p))
    _ _ _ _ (λ i. preempted-rested m p i || not (halted-rested m p i)) (still m) (nudged-alike m p)

-- once it has the wait lock, a frame goes on where no register lives
wait_lives : (v : Verb) (w : Why) → lives_at (after_wait v) w ≡ none_lives
wait_lives Read w = refl
wait_lives Write w = refl
wait_lives v w = refl

-- so do the frames of a sound machine
module _ (m : Machine) (sound : IsSound m) (p : ℕ) where
  frame_knows : (o : Option Frame) → frame_at m (top_of m p) ≡ o → (c : Pc)
      → (unwrap_or o rest_frame).place ≡ Some c → KnowsWay (unwrap_or o rest_frame)
  frame_knows None here c at = λ waits w. refl
  frame_knows (Some f) here c at = λ waits w.
      let works = (sound.1.fits (top_of m p) f here).working c at in
      subst (λ (d : Option Pc). lives_at d w ≡ none_lives) (sym (works.after waits)) (wait_lives works.op.verb w)

  sound_knows : KnowsRow m p
  sound_knows = frame_knows (frame_at m (top_of m p)) refl

-- the owners of nodes are the same whatever is in registers
owned_rested : (fs : List Frame) (j : ℕ) → is_owned (map (λ f. rested_frame f) fs) j ≡ is_owned fs j
owned_rested [] j = refl
owned_rested (f ∷ fs) j = ap (λ b. owns f.me j || b) (owned_rested fs j)

pub nodes_rested : (fs : List Frame) (i : ℕ) (xs : List Node)
    → freed_nodes (map (λ f. rested_frame f) fs) i xs ≡ freed_nodes fs i xs
nodes_rested fs i [] = refl
nodes_rested fs i (x ∷ xs) =
    (λ k. freed_node (owned_rested fs i k) x ∷ nodes_rested fs (suc i) xs k)

cpu_both : (c : CpuState) → freed_cpu (rested_cpu c) ≡ rested_cpu (freed_cpu c)
cpu_both c = (λ i. record (rested_cpu c) { nodes = nodes_rested c.frames 0 c.nodes i })

cpus_both : (cs : List CpuState)
    → map (λ c. freed_cpu c) (map (λ c. rested_cpu c) cs) ≡ map (λ c. rested_cpu c) (map (λ c. freed_cpu c) cs)
cpus_both [] = refl
cpus_both (c ∷ cs) = (λ i. cpu_both c i ∷ cpus_both cs i)

pub both : (m : Machine) → freed (rested m) ≡ rested (freed m)
both m = (λ i. record m { cpus = cpus_both m.cpus i })

-- an act on the machine without what nobody reads
next-bared : (m : Machine) (a : Act) → IsSound m
    → (bared (next (bared m) a).0 ≡ bared (next m a).0) × ((next (bared m) a).1 ≡ (next m a).1)
next-bared m a sound =
    let one = next-freed m a (λ p. sound_owned m sound p) in
    let other = next-alike (freed m) a (λ p c at.
    subst (λ (f : Frame). KnowsWay f) (sym (top-freed m p))
    (sound_knows m sound p c (ap (λ (f : Frame). f.place) (sym (top-freed m p)) ∙ at))) in (
      sym (both (next (bared m) a).0) ∙ ap (λ k. freed k) other.state ∙ both (next (freed m) a).0
          ∙ ap (λ k. rested k) one.state,
      other.event ∙ one.event,
    )

pub alike_goes_on : AlikeGoesOn
alike_goes_on m n a sound others alike =
    let one = next-bared m a sound in
    let other = next-bared n a others in
    record {
      alike = sym one.0 ∙ ap (λ k. bared (next k a).0) alike ∙ other.0;
      tells = sym one.1 ∙ ap (λ k. (next k a).1) alike ∙ other.1;
    }

-- what is read of a machine without what nobody reads

pub cpu-bared : (m : Machine) (p : ℕ) → cpu_at (bared m) p ≡ bared_cpu (cpu_at m p)
cpu-bared m p = cpu-rested (freed m) p ∙ ap (λ c. rested_cpu c) (cpu-freed m p)

pub top-bared : (m : Machine) (p : ℕ) → top_frame (bared m) p ≡ rested_frame (top_frame m p)
top-bared m p = top-rested (freed m) p ∙ ap (λ f. rested_frame f) (top-freed m p)
