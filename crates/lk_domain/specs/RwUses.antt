-- Which rows use the word of a reader-writer lock in which way.
use Rattle.std.specs.Prelude.{Bool, true, false}
use Rattle.lk_rows.specs.declared.parts.Pc.{Pc}
use Rattle.lk_rows.specs.declared.setup.Verb.{Verb}
use Rattle.lk_rows.specs.declared.setup.Verb.TheVariants.{RUnlock}
use Rattle.lk_domain.specs.RwRows.{watches_by, joins_by, quits_by, seizes_by, awaits_by, follows_by, leaves_by}
use Rattle.lk_domain.specs.declared.locks.rw_moves.RwUse.{RwUse}
use Rattle.lk_domain.specs.declared.locks.rw_moves.RwUse.TheVariants.{Watches, Joins, Quits, Seizes, Awaits, Follows, Leaves}

abbrev pub rw_uses_by : RwUse → Verb → Pc → Bool
rw_uses_by Watches = watches_by
rw_uses_by Joins = joins_by
rw_uses_by Quits = quits_by
rw_uses_by Seizes = seizes_by
rw_uses_by Awaits = awaits_by
rw_uses_by Follows = follows_by
rw_uses_by Leaves = leaves_by

-- a call of this operation that does so frees the lock
abbrev pub frees_by_use : RwUse → Verb → Bool
frees_by_use Leaves v = true
frees_by_use Quits RUnlock = true
frees_by_use u v = false
