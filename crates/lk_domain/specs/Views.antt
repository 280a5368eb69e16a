-- What a seat knows: who it is, its processor's locks, and the ledger.
use Rattle.std.specs.Prelude.{◌≡◌, ℕ, ◌+◌, ◌==◌, List, [], ◌∷◌, ◌++◌, map, Option, Some, None}
use Rattle.std.specs.Prelude.{nat_lt, if◌then◌else◌}
use Rattle.lk_names.specs.declared.names.Format.TheVariants.{One}
use Rattle.lk_names.specs.declared.names.Mode.TheVariants.{Virt}
use Rattle.lk_domain.specs.Calls.{Calls}
use Rattle.lk_domain.specs.Ledgers.{Ledger, Past}
use Rattle.lk_domain.specs.Who.{Who}
use Rattle.lk_domain.specs.declared.plan.Plan.{Plan}
use Rattle.lk_domain.specs.declared.view.View.{View}

abbrev pub view : Who → Calls → Ledger → View
view w c g = record { who = w; calls = c; ledger = g }

-- the seat that deals the numbers, n next; it with a number that it has drawn; and the seat of that
-- number
abbrev pub dealer : Plan → ℕ → Who
dealer k n = record { plan = k; number = None; ended = []; dealt = Some n; outs = [] }

abbrev pub drawer : Plan → ℕ → Who
drawer k n = record { plan = k; number = Some n; ended = []; dealt = Some (n + 1); outs = [] }

abbrev pub newcomer : Plan → ℕ → Who
newcomer k n = record { plan = k; number = Some n; ended = []; dealt = None; outs = [] }

-- a plan of nothing
abbrev pub no_plan : Plan
no_plan =
    record {
      format = One;
      mode = Virt;
      topology = record { sockets = record { items = []; room = 0 } };
      threshold = 0;
      locks = record { items = []; room = 0 };
      balances = record { items = []; room = 0 };
      shares = record { items = []; room = 0 };
      cells = None;
    }

-- what is left of a seat that was joined to another: it has no number, and knows nothing
abbrev pub nobody : Who
nobody = record { plan = no_plan; number = None; ended = []; dealt = None; outs = [] }

-- the sum over a list
abbrev pub total : {A : Type 0} → (A → ℕ) → List A → ℕ
total f [] = 0
total f (x ∷ xs) = f x + total f xs

-- how often a number stands in a list
abbrev pub times : ℕ → List ℕ → ℕ
times p [] = 0
times p (q ∷ qs) = (if q == p then 1 else 0) + times p qs

abbrev pub listed : Option ℕ → List ℕ
listed None = []
listed (Some p) = p ∷ []

abbrev pub number_of : Past → ℕ
number_of x = x.number

-- the numbers of a seat: its own, and those that it took over
abbrev pub numbers : View → List ℕ
numbers v = listed v.who.number ++ map number_of v.who.ended

-- what is kept of its own number
abbrev pub past_of : Option ℕ → Ledger → List Past
past_of None g = []
past_of (Some p) g = record { number = p; own = g.own; looks = g.looks; seen = g.seen } ∷ []

-- and of all its numbers
abbrev pub all_past : View → List Past
all_past v = past_of v.who.number v.ledger ++ v.who.ended

-- a number below the roll word is one seat's, and no other is any seat's
abbrev pub once_below : ℕ → ℕ → ℕ
once_below p roll = if nat_lt p roll then 1 else 0

-- the number of a seat, where it has one
abbrev pub own_number : Option ℕ → ℕ
own_number None = 0
own_number (Some n) = n

abbrev pub IsNumbered : View → Type 0
IsNumbered v = (p : ℕ) × (v.who.number ≡ Some p)

-- a seat takes over the numbers of another that ends, and its share
abbrev pub joined : Who → View → Who
joined w u = record w { ended = w.ended ++ all_past u }

abbrev pub with_more : Ledger → ℕ → Ledger
with_more g n = record g { share = g.share + n }
