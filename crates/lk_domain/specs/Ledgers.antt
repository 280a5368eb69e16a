-- What a seat knows of the ledger: its share, its own entries, and its looks.
use Rattle.std.specs.Prelude.{ℕ, ◌+◌, ◌-◌, ◌==◌, ◌&&◌, not, List, [], ◌∷◌, ◌++◌, length, Option}
use Rattle.std.specs.Prelude.{Some, None, Bool, slice_set, if◌then◌else◌}
use Rattle.lk_names.specs.declared.holder.Manner.{Manner}
use Rattle.lk_names.specs.declared.holder.Manner.TheVariants.{Spins}
use Rattle.lk_names.specs.declared.ledger.Entry.{Entry}
use Rattle.lk_names.specs.declared.names.LockName.{LockName}
use Rattle.lk_domain.specs.Calls.{Mark, Grip, Unchanged, Takes, Frees}
use Rattle.lk_domain.specs.Places.{places_from}

-- a hold of lock 0: its manner, the trail up to the row that took it, and the version and the
-- balances that were loaded in it, the newest first
pub record Look : Type 0 where
  pub manner : Manner
  pub trail : List Mark
  pub version : Option ℕ
  pub loads : List (ℕ × ℕ)

-- the journal as it was taken out, with its room, what the balance words are since then, and manner
-- and trail of the hold
pub record Out : Type 0 where
  pub list : List Entry
  pub room : ℕ
  pub words : List ℕ
  pub manner : Manner
  pub trail : List Mark

-- what a seat knows of the ledger
pub record Ledger : Type 0 where
  -- how many entries it may still write
  pub share : ℕ
  -- the length of the journal that it has seen, and its own entries with their places
  pub seen : ℕ
  pub own : List (ℕ × Entry)
  -- the journal, where it is out with this processor
  pub out : Option Out
  -- the look that is open, and those that have ended
  pub look : Option Look
  pub looks : List Look

-- what is kept of a number that ended: its entries with their places, its looks, and the length
-- that it had seen
pub record Past : Type 0 where
  pub number : ℕ
  pub own : List (ℕ × Entry)
  pub looks : List Look
  pub seen : ℕ

-- of a processor with this share that has done nothing
abbrev pub with_share : ℕ → Ledger
with_share n = record { share = n; seen = 0; own = []; out = None; look = None; looks = [] }

abbrev pub no_ledger : Ledger
no_ledger = with_share 0

-- a look begins
abbrev pub new_look : Manner → List Mark → Look
new_look m t = record { manner = m; trail = t; version = None; loads = [] }

abbrev pub opened : Ledger → Manner → List Mark → Ledger
opened g m t = record g { look = Some (new_look m t) }

-- a look ends
abbrev pub listed_look : Option Look → List Look
listed_look None = []
listed_look (Some k) = k ∷ []

abbrev pub closed : Ledger → Ledger
closed g = record g { look = None; looks = g.looks ++ listed_look g.look }

-- the name is that of lock 0
abbrev pub is_first : LockName → Bool
is_first l = (l.index == 0) && not l.wait

-- a look begins where lock 0 is taken, and ends where it is freed
abbrev pub turned : Ledger → LockName → Grip → List Mark → Ledger
turned g l Unchanged t = g
turned g l (Takes m) t = if is_first l then opened g m t else g
turned g l Frees t = if is_first l then closed g else g

-- manner and trail of a look
abbrev pub manner_of : Option Look → Manner
manner_of None = Spins
manner_of (Some k) = k.manner

abbrev pub trail_of : Option Look → List Mark
trail_of None = []
trail_of (Some k) = k.trail

-- a balance is loaded
abbrev pub look_loads : Option Look → ℕ → ℕ → Option Look
look_loads None a x = None
look_loads (Some k) a x = Some (record k { loads = (a, x) ∷ k.loads })

abbrev pub loaded : Ledger → ℕ → ℕ → Ledger
loaded g a x = record g { look = look_loads g.look a x }

-- the version is loaded
abbrev pub look_sees : Option Look → ℕ → Option Look
look_sees None n = None
look_sees (Some k) n = Some (record k { version = Some n })

abbrev pub sighted : Ledger → ℕ → Ledger
sighted g n = record g { seen = n; look = look_sees g.look n }

-- the journal is taken out, which ends a look
abbrev pub taken_out : Ledger → List Entry → ℕ → List ℕ → Ledger
taken_out g js room ws =
    record (closed g) {
      out = Some (record {
        list = js;
        room = room;
        words = ws;
        manner = manner_of g.look;
        trail = trail_of g.look;
      });
    }

-- a balance is stored
abbrev pub stored : Ledger → Out → ℕ → ℕ → Ledger
stored g o a x = record g { out = Some (record o { words = slice_set o.words a x }) }

-- the journal is brought home with more entries, which begins a look
abbrev pub brought : Ledger → ℕ → Out → List Entry → Ledger
brought g p o es =
    record g {
      share = g.share - length es;
      seen = length o.list + length es;
      own = g.own ++ places_from (length o.list) p es;
      out = None;
      look = Some (new_look o.manner o.trail);
    }
