-- Lists of rows that the laws need, said by the family of each row.
use Rattle.std.specs.Prelude.{◌&&◌, ◌||◌, not, Option, Some, None, Bool, true, false}
use Rattle.lk_rows.specs.declared.family.Family.{Family}
use Rattle.lk_rows.specs.declared.family.Family.TheVariants.{Spin, Queue, Cna, Pv, Rw}
use Rattle.lk_rows.specs.Family.{family_of}
use Rattle.lk_rows.specs.declared.parts.Pc.{Pc}
use Rattle.lk_rows.specs.declared.parts.Pc.TheVariants.{F1, T1, T2, U1, P0, P1, P2, P3, P4, G1}
use Rattle.lk_rows.specs.declared.parts.Pc.TheVariants.{G4, G5, U2, U3, U4, U5, Z1, Z2}

-- the family of the queue, of the choice, of the paravirtual lock, of readers and writers

-- the family is that of the queue
abbrev pub is_queue : Family → Bool
is_queue Queue = true
is_queue _ = false

-- the family is that of the choice of the next
abbrev pub is_cna : Family → Bool
is_cna Cna = true
is_cna _ = false

-- the family is that of the paravirtual lock
abbrev pub is_pv : Family → Bool
is_pv Pv = true
is_pv _ = false

-- the family is that of readers and writers
abbrev pub is_shared : Family → Bool
is_shared Rw = true
is_shared _ = false

-- the family halts no processor
abbrev pub is_awake : Family → Bool
is_awake Spin = true
is_awake Queue = true
is_awake Cna = true
is_awake _ = false

-- the row is one of the choice of the next
abbrev pub chooses : Pc → Bool
chooses c = is_cna (family_of c)

-- the row is one of the lock that halts processors
abbrev pub may_halt : Pc → Bool
may_halt c = is_pv (family_of c)

-- the row is one of a reader or a writer
abbrev pub is_rw_row : Pc → Bool
is_rw_row c = is_shared (family_of c)

-- the row is one of a release of a spinlock
abbrev pub is_release_row : Pc → Bool
is_release_row U1 = true
is_release_row U2 = true
is_release_row U3 = true
is_release_row U4 = true
is_release_row U5 = true
is_release_row _ = false

-- the row is one of a release, of a spinlock or of a reader-writer lock
abbrev pub is_ending_row : Pc → Bool
is_ending_row Z1 = true
is_ending_row Z2 = true
is_ending_row c = is_release_row c

-- the row is one that a lock makes in every mode but `virt`
abbrev pub all_share : Pc → Bool
all_share F1 = true
all_share T1 = true
all_share T2 = true
all_share G1 = true
all_share G4 = true
all_share G5 = true
all_share _ = false

-- The row is one of a lock that halts no processor: those that all families share, and those that
-- halt processors, are not.
abbrev pub stays_awake : Pc → Bool
stays_awake c = is_awake (family_of c) && not (all_share c)

-- a row of this family is one of the slow path: behind its entry, and before a release
abbrev pub is_slow_row : Family → Pc → Bool
is_slow_row Queue G1 = false
is_slow_row Queue c = true
is_slow_row Cna c = true
is_slow_row Pv c = not (is_release_row c)
is_slow_row Spin c = false
is_slow_row Rw c = false

-- the place is a row of the slow path
abbrev pub is_slow : Option Pc → Bool
is_slow None = false
is_slow (Some c) = is_slow_row (family_of c) c

-- the row is one of the fast path or of the pending path
abbrev pub is_first_row : Pc → Bool
is_first_row F1 = true
is_first_row P0 = true
is_first_row P1 = true
is_first_row P2 = true
is_first_row P3 = true
is_first_row P4 = true
is_first_row _ = false

-- the rows of `lock` in mode `native`
abbrev pub is_queued_row : Pc → Bool
is_queued_row c = is_queue (family_of c) || is_first_row c

-- the row is one that a `lock` of the paravirtual lock shares with other families
abbrev pub pv_shares : Pc → Bool
pv_shares F1 = true
pv_shares G1 = true
pv_shares G4 = true
pv_shares G5 = true
pv_shares _ = false

-- the rows of `lock` in mode `pv`
abbrev pub is_halting_row : Pc → Bool
is_halting_row c = (is_pv (family_of c) && not (is_release_row c)) || pv_shares c
