-- Which rows of readers and writers a step call makes, by the operation of its call.
use Rattle.std.specs.Prelude.{ℕ, ◌%◌, ◌==◌, not, Bool, true, false}
use Rattle.lk_rows.specs.declared.parts.Pc.{Pc}
use Rattle.lk_rows.specs.declared.parts.Pc.TheVariants.{R1, R2, R3, R4, R5, Wr1, Wr2, Wr3, Wr4}
use Rattle.lk_rows.specs.declared.parts.Pc.TheVariants.{Wr5, Wr6, Y1, Y2, Y3, Y4, Y5, Z1, Z2}
use Rattle.lk_rows.specs.declared.setup.Verb.{Verb}
use Rattle.lk_rows.specs.declared.setup.Verb.TheVariants.{Read, TryRead, RUnlock, Write, TryWrite}
use Rattle.lk_rows.specs.declared.setup.Verb.TheVariants.{WUnlock}

-- looks at the word
abbrev pub watches_by : Verb → Pc → Bool
watches_by Read R2 = true
watches_by Read R5 = true
watches_by Write Wr2 = true
watches_by Write Wr5 = true
watches_by TryRead Y1 = true
watches_by TryWrite Y4 = true
watches_by _ _ = false

-- adds a reader
abbrev pub joins_by : Verb → Pc → Bool
joins_by Read R1 = true
joins_by Read R4 = true
joins_by TryRead Y2 = true
joins_by _ _ = false

-- takes away a reader
abbrev pub quits_by : Verb → Pc → Bool
quits_by Read R3 = true
quits_by TryRead Y3 = true
quits_by RUnlock Z1 = true
quits_by _ _ = false

-- exchanges the empty word for that of a writer
abbrev pub seizes_by : Verb → Pc → Bool
seizes_by Write Wr1 = true
seizes_by Write Wr3 = true
seizes_by TryWrite Y5 = true
seizes_by _ _ = false

-- sets waiting
abbrev pub awaits_by : Verb → Pc → Bool
awaits_by Write Wr4 = true
awaits_by _ _ = false

-- exchanges the word in which a writer alone waits for that of a writer
abbrev pub follows_by : Verb → Pc → Bool
follows_by Write Wr6 = true
follows_by _ _ = false

-- takes the writer away
abbrev pub leaves_by : Verb → Pc → Bool
leaves_by WUnlock Z2 = true
leaves_by _ _ = false

-- a call of this operation that does not act on the wait lock acts on a reader-writer lock itself
abbrev pub on_shared : Verb → Bool → Bool
on_shared Read wait = not wait
on_shared TryRead wait = not wait
on_shared Write wait = not wait
on_shared TryWrite wait = not wait
on_shared v wait = false

-- by what the processor notes of its calls, where one row and another go on alike

-- of a reader that looks: whether it is the only call that waits, so that it has the wait lock
abbrev pub watches_at : Bool → Verb → Pc → Bool
watches_at true Read R5 = true
watches_at false Read R2 = true
watches_at b Write Wr2 = true
watches_at b Write Wr5 = true
watches_at b TryRead Y1 = true
watches_at b TryWrite Y4 = true
watches_at b _ _ = false

-- whether the call waits already
abbrev pub joins_at : Bool → Verb → Pc → Bool
joins_at false Read R1 = true
joins_at true Read R4 = true
joins_at b TryRead Y2 = true
joins_at b _ _ = false

-- the same of a writer
abbrev pub seizes_at : Bool → Verb → Pc → Bool
seizes_at false Write Wr1 = true
seizes_at true Write Wr3 = true
seizes_at b TryWrite Y5 = true
seizes_at b _ _ = false

-- what a number tells

-- no writer holds the lock
abbrev pub has_no_writer : ℕ → Bool
has_no_writer n = n % 256 == 0

-- and none waits
abbrev pub lets_in : ℕ → Bool
lets_in n = n % 512 == 0

-- whether the call goes on after a step, and whether it has the lock

abbrev pub watches_on : Bool → Verb → ℕ → Bool
watches_on true Read n = true
watches_on false Read n = not (has_no_writer n)
watches_on b Write n = true
watches_on b TryRead n = lets_in n
watches_on b TryWrite n = n == 0
watches_on b _ n = false

abbrev pub watch_takes : Verb → ℕ → Bool
watch_takes Read n = has_no_writer n
watch_takes _ n = false

abbrev pub joins_on : Bool → Verb → ℕ → Bool
joins_on true Read n = true
joins_on b _ n = not (lets_in n)

abbrev pub join_takes : Bool → Verb → ℕ → Bool
join_takes true Read n = false
join_takes b _ n = lets_in n

abbrev pub quits_on : Verb → Bool
quits_on Read = true
quits_on _ = false

abbrev pub seizes_on : Bool → Verb → ℕ → Bool
seizes_on true Write n = true
seizes_on false Write n = not (n == 0)
seizes_on b _ n = false
