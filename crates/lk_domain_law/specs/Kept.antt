-- The order of calls is kept, if each call that waits begins above all that its processor holds or waits for.
use Rattle.std.specs.Prelude.{◌≡◌, ◌<◌, ℕ, Bool, true, false}
use Rattle.lk_names.specs.declared.names.Mode.{Mode}
use Rattle.lk_rows.specs.declared.setup.Verb.{Verb}
use Rattle.lk_rows.specs.declared.setup.Verb.TheVariants.{Lock, Read, Write}
use Rattle.lk_law.specs.Leads.{Met}
use Rattle.lk_domain.specs.Calls.{Calls, Terms, Stacked, AreFresh, begin, row_of, holds_in, waits_in}
use Rattle.lk_domain.specs.Values.{marked_out}
use Rattle.lk_pvdomain.specs.PvPlays.{stirred}
use Rattle.lk_ranks.specs.Above.{IsAbove}
use Rattle.lk_domain_law.specs.InOrder.{IsInOrder}

-- a call of this verb waits for its lock
abbrev pub waits_for : Verb → Bool
waits_for Lock = true
waits_for Read = true
waits_for Write = true
waits_for _ = false

-- the lock ranks above each that the processor holds, and above each on which a call of it is at work
abbrev pub RanksAbove : (ℕ → ℕ) → ℕ → Calls → Type 0
RanksAbove rank l c = ((k : ℕ) → holds_in c.holds k ≡ true → rank k < rank l)
    × ((k : ℕ) → waits_in c.frames k ≡ true → rank k < rank l)

-- Calls in order are so when one more begins: a call that waits, for a lock that ranks above all; a try or a
-- release, for any.
abbrev pub BeginsKeepOrder : Type 0
BeginsKeepOrder = (rank : ℕ → ℕ) (mode : Mode) (c : Calls) (v : Verb) (l : ℕ) → Stacked c.frames
    → (waits_for v ≡ true → RanksAbove rank l c) → IsInOrder rank c → IsInOrder rank (begin mode c v l)

-- And after each row of the newest call, whatever it meets, and whether it ends the call or not. What is
-- supposed of the calls is part of the rule of a domain's table.
abbrev pub RowsKeepOrder : Type 0
RowsKeepOrder = (rank : ℕ → ℕ) (t : Terms) (p : ℕ) (c : Calls) (x : Met) → Stacked c.frames
    → AreFresh (row_of t p c x).frames (row_of t p c x).holds
    → IsInOrder rank c → IsInOrder rank (row_of t p c x)

-- The other steps that change frames or holds keep it, too: a value goes out with the hold of its lock, or comes
-- home; and a halt ends, where processors halt.
abbrev pub ValuesKeepOrder : Type 0
ValuesKeepOrder = (rank : ℕ → ℕ) (c : Calls) (l : ℕ) (out : Bool) → IsInOrder rank c
    → IsInOrder rank (record c { holds = marked_out l out c.holds })

abbrev pub HaltsKeepOrder : Type 0
HaltsKeepOrder = (rank : ℕ → ℕ) (c : Calls) → IsInOrder rank c → IsInOrder rank (record c { frames = stirred c.frames })

-- What a call of `lk_ranks` asks that waits is just that, with the number of each lock as its rank.
abbrev pub RanksAreAsked : Type 0
RanksAreAsked = (l : ℕ) (c : Calls) → IsAbove l c → RanksAbove (λ (n : ℕ). n) l c
