-- When the calls of a processor are in order, by a rank for each lock.
use Rattle.std.specs.Prelude.{◌≡◌, ◌<◌, ◌≤◌, ◌&&◌, not, ℕ, List, Option, Some, None, Bool, true, false}
use mathlib.Core.Option.{some}
use lib.ListN.{get_elem?}
use Rattle.atomic_table.specs.Table.{State}
use Rattle.lk_names.specs.declared.holder.Manner.{Manner}
use Rattle.lk_rows.specs.declared.parts.Frame.{Frame}
use Rattle.lk_rows.specs.declared.parts.Pc.{Pc}
use Rattle.lk_rows.specs.declared.parts.Pc.TheVariants.{T1, T2, Y1, Y2, Y3, Y4, Y5}
use Rattle.lk_domain.specs.Calls.{Calls, Running, Hold, frame_in, held_in, is_seeking, lock_name}
use Rattle.lk_domain.specs.declared.view.View.{View}

-- the row is one of a try, which never waits; of a wait lock there is none
abbrev pub is_trying : Frame → Pc → Bool
is_trying f T1 = not f.lock.wait
is_trying f T2 = not f.lock.wait
is_trying f Y1 = true
is_trying f Y2 = true
is_trying f Y3 = true
is_trying f Y4 = true
is_trying f Y5 = true
is_trying f c = false

-- The call with this frame, at this place, waits for its lock or may come to wait: it does not have it yet,
-- and is no try.
abbrev pub may_wait_at : Frame → Option Pc → Bool
may_wait_at f None = false
may_wait_at f (Some c) = is_seeking (Some c) && not (is_trying f c)

abbrev pub may_wait : Frame → Bool
may_wait f = may_wait_at f f.place

-- the calls in contexts below d are at work on locks that rank below the lock l
abbrev pub AreCallsBelow : (ℕ → ℕ) → ℕ → ℕ → List Running → Type 0
AreCallsBelow rank l d rs = (e : ℕ) (g : Frame) → e < d → frame_in rs e ≡ Some g → rank g.lock.index < rank l

-- the locks that contexts up to d hold rank below the lock l
abbrev pub AreHoldsBelow : (ℕ → ℕ) → ℕ → ℕ → List Hold → Type 0
AreHoldsBelow rank l d hs = (e k : ℕ) (way : Manner) → e ≤ d → held_in hs e (lock_name k) ≡ Some way
    → rank k < rank l

-- Each call that may wait is for a lock that ranks above each lock which its context or one below holds, and
-- above each on which a call below is at work. What contexts above it hold is held by an interrupt, and may
-- rank as it likes. A wait lock needs no rank: who holds one, or is at it, is at work on its lock.
abbrev pub IsInOrder : (ℕ → ℕ) → Calls → Type 0
IsInOrder rank c = (d : ℕ) (f : Frame) → frame_in c.frames d ≡ Some f → may_wait f ≡ true
    → AreCallsBelow rank f.lock.index d c.frames × AreHoldsBelow rank f.lock.index d c.holds

-- so are the calls of each seat of a table
abbrev pub AreInOrder : {S : Type 0} → (ℕ → ℕ) → State S View → Type 0
AreInOrder rank s = (id : ℕ) (v : View) → get_elem? s.views id ≡ some v → IsInOrder rank v.calls
