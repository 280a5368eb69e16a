-- The rows of the paravirtual lock: a waiter and a head that halt their processors after a while,
-- a head that enters its lock into the hash so that the releaser finds whom to kick, the holder
-- that does so for the next, and the release with its kick.
use Rattle.std.specs.Prelude.{◌==◌, ◌-◌, ◌&&◌, not, is_some, ℕ, Option, Some, None, Bool, true}
use Rattle.std.specs.Prelude.{false, [], ◌∷◌, if◌then◌else◌}
use Rattle.lk_names.specs.declared.events.What.TheVariants as what
use Rattle.lk_names.specs.declared.events.How.TheVariants as how
use Rattle.lk_word.specs.declared.spin_word.NodeName.{NodeName}
use Rattle.lk_word.specs.declared.spin_word.Locked.{Locked}
use Rattle.lk_word.specs.declared.spin_word.Locked.TheVariants.{Free, Held, Slow}
use Rattle.lk_word.specs.declared.spin_word.Fields.{Fields}
use Rattle.lk_rows.specs.declared.parts.Flag.{Flag}
use Rattle.lk_rows.specs.declared.parts.Flag.TheVariants as flag
use Rattle.lk_rows.specs.declared.parts.State.{State}
use Rattle.lk_rows.specs.declared.parts.State.TheVariants.{Running, Halted, Hashed}
use Rattle.lk_rows.specs.declared.parts.Frame.{Frame}
use Rattle.lk_rows.specs.declared.parts.Pc.{Pc}
use Rattle.lk_rows.specs.declared.parts.Pc.TheVariants.{G4, H1, H2, W1, W2, W3, W4, W5, W6, W7}
use Rattle.lk_rows.specs.declared.parts.Pc.TheVariants.{E1, E2, E3, E4, E5, E6, E7, E8, E9, E10}
use Rattle.lk_rows.specs.declared.parts.Pc.TheVariants.{E11, E12, E13, E14, E15, K1, K2, K3, U2}
use Rattle.lk_rows.specs.declared.parts.Pc.TheVariants.{U3, U4, U5}
use Rattle.lk_rows.specs.Moves.{node_of}
use Rattle.lk_rows.specs.Row.{Effect, Goes, Leaves, Freed, Yields, Nothing, Says, Passes}
use Rattle.lk_rows.specs.Row.{PvLockStealing, PvWaitNode, PvWaitHead, PvKickUnlock, LockSlowpath}
use Rattle.lk_rows.specs.Row.{Left, Tailed, HashedIs, TargetIs, looks, learns, looks_for_next}
use Rattle.lk_rows.specs.Row.{writes}
use Rattle.lk_rows.specs.rows.Spin.{is_unlocked}
use Rattle.lk_rows.specs.rows.Cna.{is_held, is_last}

-- a waiter that may not steal joins the queue, or without a node looks again
abbrev pub after_given_up : Option NodeName → Pc
after_given_up None = H1
after_given_up (Some n) = G4

-- the byte is slow
abbrev pub is_slow_byte : Locked → Bool
is_slow_byte Slow = true
is_slow_byte _ = false

-- where a waiter goes that looked whether it may steal
abbrev pub after_glance : Option NodeName → Fields → Pc
after_glance me x = if is_unlocked x.locked && not x.pending then H2
    else (if is_some x.tail && not x.pending then H1 else after_given_up me)

-- the word with this byte
abbrev pub with_byte : Fields → Locked → Fields
with_byte x b = record x { locked = b }

-- the head's turns are over, or not yet
abbrev pub try_again : Frame → Effect Fields
try_again f = if f.left - 1 == 0 then learns E5 (Left 0) else learns E4 (Left (f.left - 1))

-- the rows on the word
abbrev pub pv_row : ℕ → Pc → Frame → Fields → Effect Fields
pv_row spins H1 f x = learns (after_glance f.me x) (Tailed (is_some x.tail))
pv_row spins H2 f x =
    if is_unlocked x.locked
    then record {
      stores = Some (with_byte x Held);
      leads = Leaves;
      tells = Says (what.Take f.lock how.Steal);
      counts = PvLockStealing ∷ [];
    }
    else looks (if f.tailed then H1 else after_given_up f.me)
pv_row spins E3 f x =
    record {
      stores = Some (record x { pending = true });
      leads = Goes E4 (Left spins ∷ []);
      tells = Nothing;
      counts = [];
    }
pv_row spins E4 f x =
    if is_unlocked x.locked && x.pending
    then record {
      stores = Some (record x { locked = Held; pending = false });
      leads = Goes E13 [];
      tells = Says (what.Take f.lock how.Head);
      counts = [];
    }
    else try_again f
pv_row spins E5 f x = writes (record x { pending = false }) (if f.hashed then E10 else E6)
pv_row spins E7 f x =
    if is_unlocked x.locked
    then record {
      stores = Some (with_byte x Slow);
      leads = Goes E8 [];
      tells = Says (what.Take f.lock how.Head);
      counts = [];
    }
    else record {
      stores = Some (with_byte x Slow);
      leads = Goes E10 (HashedIs true ∷ []);
      tells = Nothing;
      counts = [];
    }
pv_row spins E8 f x = writes (with_byte x Held) E9
pv_row spins E11 f x = looks (if is_slow_byte x.locked then E12 else E2)
pv_row spins E13 f x =
    if is_last f x
    then record {
      stores = Some (record x { tail = None });
      leads = Leaves;
      tells = Says (what.Leave f.lock);
      counts = [];
    }
    else looks E14
pv_row spins K2 f x = writes (with_byte x Slow) K3
pv_row spins U2 f x =
    if is_held x.locked
    then record {
      stores = Some (with_byte x Free);
      leads = Freed;
      tells = Says (what.Release f.lock None);
      counts = [];
    }
    else looks U3
pv_row spins U4 f x =
    record {
      stores = Some (with_byte x Free);
      leads = Yields U5 [];
      tells = Says (what.Release f.lock (Some (node_of f.target).cpu));
      counts = [];
    }
pv_row spins c f x = looks c

-- whether the flag is set
abbrev pub is_set : Flag → Bool
is_set flag.Unset = false
is_set _ = true

-- the rows on a flag: that of the own node, and that of the next
abbrev pub pv_flag_row : Pc → Frame → Flag → Effect Flag
pv_flag_row W1 f x = looks (if is_set x then E1 else W2)
pv_flag_row W4 f x = if is_set x then looks W7
    else record { stores = None; leads = Goes W5 []; tells = Nothing; counts = PvWaitNode ∷ [] }
pv_flag_row E15 f x =
    record {
      stores = Some flag.Go;
      leads = Goes K1 [];
      tells = Passes (node_of f.y) 0;
      counts = [];
    }
pv_flag_row c f x = looks c

-- where a look at the own link leads: the next is there, or not yet
abbrev pub pv_after_next : Option NodeName → Effect (Option NodeName)
pv_after_next x = looks_for_next E14 E15 x

-- the row on the own link
abbrev pub pv_next_row : Pc → Frame → Option NodeName → Effect (Option NodeName)
pv_next_row E14 f x = pv_after_next x
pv_next_row c f x = looks c

-- the state is running
abbrev pub is_running : State → Bool
is_running Running = true
is_running _ = false

-- the state is halted
abbrev pub is_halted : State → Bool
is_halted Halted = true
is_halted _ = false

-- the state is hashed
abbrev pub is_hashed : State → Bool
is_hashed Hashed = true
is_hashed _ = false

-- a waiter whose neighbour runs looks again, for so many turns
abbrev pub peer_again : Frame → Effect State
peer_again f = if f.left - 1 == 0 then learns W3 (Left 0) else learns W1 (Left (f.left - 1))

-- the rows on a state: of the node before, of the own, and of the next
abbrev pub state_row : ℕ → Pc → Frame → State → Effect State
state_row spins W2 f x = if is_running x then peer_again f else looks W3
state_row spins W3 f x = writes Halted W4
state_row spins W5 f x = looks (if is_halted x then W6 else W7)
state_row spins W7 f x =
    if is_halted x
    then record {
      stores = Some Running;
      leads = Goes W1 (Left spins ∷ []);
      tells = Nothing;
      counts = [];
    }
    else learns W1 (Left spins)
state_row spins E1 f x =
    record {
      stores = None;
      leads = Goes E2 (HashedIs (is_hashed x) ∷ []);
      tells = Nothing;
      counts = LockSlowpath ∷ [];
    }
state_row spins E2 f x = writes Running E3
state_row spins E10 f x =
    record { stores = Some Hashed; leads = Goes E11 []; tells = Nothing; counts = PvWaitHead ∷ [] }
state_row spins K1 f x =
    if is_halted x
    then writes Hashed K2
    else record { stores = None; leads = Leaves; tells = Nothing; counts = [] }
state_row spins c f x = looks c

-- the rows on the entry of the lock in the hash
abbrev pub hash_row : Pc → Frame → Option NodeName → Effect (Option NodeName)
hash_row E6 f x = writes f.me E7
hash_row E9 f x = writes None E13
hash_row K3 f x = record { stores = Some f.y; leads = Leaves; tells = Nothing; counts = [] }
hash_row U3 f x =
    record { stores = Some None; leads = Goes U4 (TargetIs x ∷ []); tells = Nothing; counts = [] }
hash_row c f x = looks c

-- the rows in which the processor halts; where a halt ends the frame goes on behind them
abbrev pub halt_row : Pc → Frame → Bool → Effect Bool
halt_row W6 f x =
    record { stores = Some true; leads = Goes W6 []; tells = Says (what.Halt f.lock); counts = [] }
halt_row E12 f x =
    record { stores = Some true; leads = Goes E12 []; tells = Says (what.Halt f.lock); counts = [] }
halt_row c f x = looks c

-- the row in which a kick of the processor is remembered
abbrev pub kick_row : Pc → Frame → Bool → Effect Bool
kick_row U5 f x =
    record {
      stores = Some true;
      leads = Freed;
      tells = Says (what.Kick (node_of f.target).cpu);
      counts = PvKickUnlock ∷ [];
    }
kick_row c f x = looks c
