-- Machines that are alike: without what nobody reads before it is written they are the same.
use Rattle.std.specs.Prelude.{◌≡◌, None, false, map}
use Rattle.std.specs.Prelude.{if◌then◌else◌}
use Rattle.lk_names.specs.declared.events.Act.{Act}
use Rattle.lk_rows.specs.declared.parts.Frame.{Frame}
use Rattle.lk_rows.specs.declared.parts.Why.TheVariants as why
use Rattle.lk_rows.specs.Machine.{Machine, CpuState}
use Rattle.lk_rows.specs.Acts.{next}
use Rattle.lk_law.specs.Sound.{IsSound}
use Rattle.lk_idle.specs.declared.lives.Lives.{Lives}
use Rattle.lk_idle.specs.Free.{freed, freed_cpu}
use Rattle.lk_idle.specs.Lives.{lives_at}

-- the frame with all registers at rest but those that live
abbrev pub cut : Lives → Frame → Frame
cut l f = record f {
  prev = if l.prev then f.prev else None;
  second = if l.second then f.second else None;
  y = if l.y then f.y else None;
  a = if l.a then f.a else None;
  b = if l.b then f.b else None;
  k = if l.k then f.k else 0;
  t = if l.t then f.t else None;
  why = if l.why then f.why else why.Append;
  tailed = if l.tailed then f.tailed else false;
  left = if l.left then f.left else 0;
  hashed = if l.hashed then f.hashed else false;
  target = if l.target then f.target else None;
}

-- the frame with its dead registers at rest
abbrev pub rested_frame : Frame → Frame
rested_frame f = cut (lives_at f.place f.why) f

-- a processor of which each frame is so
abbrev pub rested_cpu : CpuState → CpuState
rested_cpu c = record c { frames = map (λ f. rested_frame f) c.frames }

-- the machine with all dead registers at rest
abbrev pub rested : Machine → Machine
rested m = record m { cpus = map (λ c. rested_cpu c) m.cpus }

-- the processor without what nobody reads: its dead registers, and its nodes that no frame has
abbrev pub bared_cpu : CpuState → CpuState
bared_cpu c = rested_cpu (freed_cpu c)

-- the machine without what nobody reads before it is written
abbrev pub bared : Machine → Machine
bared m = rested (freed m)

-- they differ in that alone
abbrev pub AreAlike : Machine → Machine → Type 0
AreAlike m n = bared m ≡ bared n

-- an act on two machines that are alike leaves two that are alike, and tells the same
pub record GoesOnAlike (m n : Machine) (a : Act) : Type 0 where
  pub alike : AreAlike (next m a).0 (next n a).0
  pub tells : (next m a).1 ≡ (next n a).1

-- so it is with each act on sound machines that are alike
abbrev pub AlikeGoesOn : Type 0
AlikeGoesOn = (m n : Machine) (a : Act) → IsSound m → IsSound n → AreAlike m n → GoesOnAlike m n a
