-- The law: a domain whose calls are in order goes on.
use Rattle.std.specs.Prelude.{◌≡◌, ◌≤◌, ◌⊎◌, ℕ, List, [], ◌∷◌, length, Some, true}
use mathlib.Core.Option.{some}
use lib.ListN.{get_elem?}
use Rattle.atomic_table.specs.Table.{State}
use Rattle.lk_names.specs.declared.holder.Manner.{Manner}
use Rattle.lk_names.specs.declared.names.LockName.{LockName}
use Rattle.lk_names.specs.declared.names.Mode.{Mode}
use Rattle.lk_names.specs.declared.names.Mode.TheVariants.{Virt, Native, Cna, Pv}
use Rattle.lk_names.specs.declared.names.Waiter.{Waiter}
use Rattle.lk_rows.specs.declared.parts.Frame.{Frame}
use Rattle.lk_rows.specs.declared.parts.Pc.{Pc}
use Rattle.lk_law.specs.World.{World}
use Rattle.lk_waits.specs.Attended.{is_bare}
use Rattle.lk_waits.specs.Halting.{LeadsNowhere}
use Rattle.lk_waits.specs.Waits.{IsBarred, StandsStill}
use Rattle.lk_domain.specs.Calls.{Running, frame_in, held_in}
use Rattle.lk_domain.specs.Keeps.{Slot}
use Rattle.lk_domain.specs.Runs.{waiter}
use Rattle.lk_domain.specs.Stand.{Stand}
use Rattle.lk_domain.specs.declared.plan.Plan.{Plan}
use Rattle.lk_domain.specs.declared.view.View.{View}
use Rattle.lk_domain_law.specs.InOrder.{AreInOrder}

-- The next row of a newest call leads it nowhere. In `cna` so does that of a queue head which turns on the
-- spot; in `pv` that of one which goes around, and that of a processor which has halted, where no kick of it is
-- remembered.
abbrev pub GoesNowhere : Mode → World → Waiter → Frame → Pc → Type 0
GoesNowhere Virt m w f c = StandsStill m w f c
GoesNowhere Native m w f c = StandsStill m w f c
GoesNowhere Cna m w f c = StandsStill m w f c ⊎ IsBarred m f c
GoesNowhere Pv m w f c = LeadsNowhere m w f c

-- the next row of a processor's newest call leads it on
pub record SomebodyLeadsOn (mode : Mode) (s : State Slot View) (m : World) : Type 0 where
  pub seat : ℕ
  pub view_is : View
  pub at : get_elem? s.views seat ≡ some view_is
  pub number : ℕ
  pub is : view_is.who.number ≡ Some number
  pub call : Running
  pub rest : List Running
  pub newest : view_is.calls.frames ≡ call ∷ rest
  pub row : Pc
  pub place : call.frame.place ≡ Some row
  pub leads : GoesNowhere mode m (waiter number call.frame.ctx) call.frame row → ⊥

-- no processor is in a call
abbrev pub NobodyCalls : State Slot View → Type 0
NobodyCalls s = (id : ℕ) (v : View) → get_elem? s.views id ≡ some v → v.calls.frames ≡ []

-- A processor holds a lock by a context above all its calls: what runs there is no call. That is its critical
-- section. The rule of the table does not say that the lock is no wait lock of a spinlock's number, which
-- nothing takes.
pub record SomebodyWorks (s : State Slot View) : Type 0 where
  pub seat : ℕ
  pub view_is : View
  pub at : get_elem? s.views seat ≡ some view_is
  pub ctx : ℕ
  pub lock : LockName
  pub way : Manner
  pub holds : held_in view_is.calls.holds ctx lock ≡ Some way
  pub above : length view_is.calls.frames ≤ ctx

-- A call of a processor, in its fifth context or above, has found no node left, and polls without one.
pub record SomebodyIsBare (s : State Slot View) : Type 0 where
  pub seat : ℕ
  pub view_is : View
  pub at : get_elem? s.views seat ≡ some view_is
  pub ctx : ℕ
  pub frame : Frame
  pub row : Pc
  pub live : frame_in view_is.calls.frames ctx ≡ Some frame
  pub place : frame.place ≡ Some row
  pub bare : is_bare row ≡ true
  pub deep : 4 ≤ ctx

-- Whenever the table of a domain stands, and its calls are in order: some processor's next row leads on, or
-- nobody is in a call, or somebody is in its critical section, or polls without a node.
abbrev pub SomebodyGoesOn : Type 0
SomebodyGoesOn = (rank : ℕ → ℕ) (k : Plan) (s : State Slot View) (st : Stand k s) → AreInOrder rank s
    → SomebodyLeadsOn k.mode s st.runs.world ⊎ NobodyCalls s ⊎ SomebodyWorks s ⊎ SomebodyIsBare s

-- no processor is in more than four calls
abbrev pub HasFewCalls : State Slot View → Type 0
HasFewCalls s = (id : ℕ) (v : View) → get_elem? s.views id ≡ some v → length v.calls.frames ≤ 4

-- Then it is one of the first three.
abbrev pub FewCallsGoOn : Type 0
FewCallsGoOn = (rank : ℕ → ℕ) (k : Plan) (s : State Slot View) (st : Stand k s) → AreInOrder rank s → HasFewCalls s
    → SomebodyLeadsOn k.mode s st.runs.world ⊎ NobodyCalls s ⊎ SomebodyWorks s
