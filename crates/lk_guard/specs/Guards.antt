-- How a ledger is guarded by lock 0.
use Rattle.std.specs.Prelude.{◌≡◌, ℕ, List, [], None, false}
use Rattle.lk_names.specs.declared.holder.Manner.{Manner}
use Rattle.lk_names.specs.declared.holder.Manner.TheVariants.{Spins, Reads, Writes}
use Rattle.lk_names.specs.declared.names.Kind.{Kind}
use Rattle.lk_names.specs.declared.names.Kind.TheVariants.{Spin, Rw}
use Rattle.lk_rows.specs.declared.setup.Verb.{Verb}
use Rattle.lk_rows.specs.declared.setup.Verb.TheVariants.{Lock, Read, Write}
use Rattle.lk_law.specs.Sound.{takes_wait}
use Rattle.lk_domain.specs.Calls.{Terms, Takes, begun, terms_of}
use Rattle.lk_domain.specs.Ledgers.{Look}
use Rattle.lk_domain.specs.Paths.{PathTo, Path}
use Rattle.lk_domain.specs.Plans.{kind_at}
use Rattle.lk_domain.specs.declared.plan.Plan.{Plan}

-- by which operation a lock of this kind is taken for a read and for a write, and in which manner it
-- is held then

abbrev pub reads_by : Kind → Verb
reads_by Spin = Lock
reads_by Rw = Read

abbrev pub reads_as : Kind → Manner
reads_as Spin = Spins
reads_as Rw = Reads

abbrev pub writes_by : Kind → Verb
writes_by Spin = Lock
writes_by Rw = Write

abbrev pub writes_as : Kind → Manner
writes_as Spin = Spins
writes_as Rw = Writes

-- a ledger with these opening balances, under a lock of this kind, whose rows read these terms
pub record Guard : Type 0 where
  pub terms : Terms
  pub kind : Kind
  pub opening : List ℕ

-- the guard of a domain with this plan
abbrev pub guard_in : Plan → Guard
guard_in k = record { terms = terms_of k; kind = kind_at k 0; opening = k.balances.items }

-- A look in a hold of lock 0 by the processor p, which took it by this operation in this manner: its
-- trail is a path of rows from the first one of the operation to one that takes.
pub record IsTaken (h : Guard) (p : ℕ) (v : Verb) (m : Manner) (look : Look) : Type 0 where
  pub manner : look.manner ≡ m
  pub path : PathTo h.terms p (begun h.terms.mode 0 v 0) look.trail (Takes m)
  -- that of a spinlock ends the call
  pub ends : takes_wait v ≡ false → Path h.terms p (begun h.terms.mode 0 v 0) look.trail (Takes m)

-- the hold was taken for a read, or for a write

abbrev pub IsToRead : Guard → ℕ → Look → Type 0
IsToRead h p look = IsTaken h p (reads_by h.kind) (reads_as h.kind) look

abbrev pub IsToWrite : Guard → ℕ → Look → Type 0
IsToWrite h p look = IsTaken h p (writes_by h.kind) (writes_as h.kind) look

-- a look that loaded nothing
pub record IsBare (look : Look) : Type 0 where
  pub version : look.version ≡ None
  pub loads : look.loads ≡ []
