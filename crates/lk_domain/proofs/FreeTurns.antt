-- A turn at a free lock, by a processor in no call: what its operations ask, and what they leave.
use Rattle.std.proofs.Common.{◌≡◌, inr, ℕ, ◌<◌, ◌≤◌, List, [], ◌∷◌, length, Bool, true, false, Some}
use Rattle.std.proofs.Common.{refl, sym, ap, ◌∙◌, subst, arith, not}
use Rattle.lk_domain.proofs.Names.{Me, Manner, Reads, Spins, Writes, first_place, kind_of, Pc, Verb}
use Rattle.lk_domain.proofs.Names.{Lock, RUnlock, Read, Unlock, WUnlock, Write, Met, Shared, Word}
use Rattle.lk_domain.proofs.Names.{Calls, Hold, Running, acting, are_calls, free_of, hold_in}
use Rattle.lk_domain.proofs.Names.{holds_in, lock_name, moved_to, slow_in, slows, waits_in, way_in}
use Rattle.lk_domain.proofs.Names.{Slot, IsNoted, Marks, Steps, kind_at, locks_of, Acts, ActsIn}
use Rattle.lk_domain.proofs.Names.{carried_of, is_take, takes_by, ActsFor, joins_at, joins_by}
use Rattle.lk_domain.proofs.Names.{leaves_by, quits_by, seizes_at, seizes_by, IsHomeAt, out_in}
use Rattle.lk_domain.proofs.Names.{own_number, Who, Cpu, Domain, Notes, Plan, View}
use Rattle.lk_domain.proofs.Holds.{dropped, found, held, mine, out_home, way}
use Rattle.lk_domain.proofs.{Seating.{apart_of, noted_of}, Turned.is_taking}
use Rattle.lk_domain.proofs.Ways.{IsSeat, Took, F1_takes, R1_takes, Wr1_takes, acts_first}
use Rattle.lk_domain.proofs.{Ways.{acts_release, frees}, rows.Fresh.turned_purse}
use Rattle.lk_domain.proofs.{rw.Released.{reader, writer}, seats.Homes.{alone_at, copy_held}}
use Rattle.lk_domain.proofs.seats.Places.{carried_same}
use Rattle.lk_domain.specs.{Marked.AreOrdered, Plays.made as after_row, Seats.{IsOf, calls_of}}
use Rattle.lk_domain.specs.Turns.{FreesIn, HasFreedIn, MayFreeIn, MayTakeIn, TakesIn, home_in}
use Rattle.lk_domain.specs.Turns.{is_let, verb_in}
use Rattle.lk_domain.proofs.rw.Released as released
use Rattle.lk_domain.proofs.rw.Stepped as shared
use Rattle.lk_domain.proofs.turns.Stepped as stepped

-- what a row of a lock leaves of a seat
pub record Kept (m n : Me Slot View) : Type 0 where
  pub who : n.0.who ≡ m.0.who
  pub home : n.0.ledger.out ≡ m.0.ledger.out
  pub slots : n.1 ≡ m.1

row_keeps : (v : Verb) (l : ℕ) (x : Met) (m n : Me Slot View) → n ≡ (after_row m.0 v l x, m.1) → Kept m n
row_keeps v l x m n is =
    record {
      who = ap (λ (y : Me Slot View). y.0.who) is;
      home = ap (λ (y : Me Slot View). y.0.ledger.out) is
          ∙ (turned_purse m.0.who.plan (own_number m.0.who.number) (acting m.0.who.plan.mode m.0.calls v l) x m.0.ledger).out;
      slots = ap (λ (y : Me Slot View). y.1) is;
    }

pub take_keeps : (w : Manner) (l met : ℕ) (m n : Me Slot View) → TakesIn w l m met n → Kept m n
take_keeps Spins l met m n made = row_keeps Lock l (Word made.found) m n made.seat
take_keeps Reads l met m n made = row_keeps Read l (Shared made.found) m n made.seat
take_keeps Writes l met m n made = row_keeps Write l (Shared made.found) m n made.seat

pub free_keeps : (w : Manner) (l met : ℕ) (m n : Me Slot View) → FreesIn w l m met n → Kept m n
free_keeps Spins l met m n made = row_keeps Unlock l (Word made.found) m n made.seat
free_keeps Reads l met m n made = row_keeps RUnlock l (Shared made.found) m n made.seat
free_keeps Writes l met m n made = row_keeps WUnlock l (Shared made.found) m n made.seat

module _ (m n : Me Slot View) (kept : Kept m n) where
  pub numbered : {p : ℕ} → m.0.who.number ≡ Some p → n.0.who.number ≡ Some p
  numbered h = ap (λ (x : Who). x.number) kept.who ∙ h

  pub noted : {notes : Notes} → IsNoted notes (locks_of m.0.who.plan) n.0.calls → IsNoted notes (locks_of n.0.who.plan) n.0.calls
  noted {notes} h = subst (λ (x : Who). IsNoted notes (locks_of x.plan) n.0.calls) (sym kept.who) h

  pub carried : m.1 ≡ carried_of m.0 → n.1 ≡ carried_of n.0
  carried h = kept.slots ∙ (h ∙ carried_same m.0 n.0 kept.who kept.home)

-- A processor that has freed the lock that it took: n is what it knew while it held it, u before that, and v
-- what it knows now.
pub record AsBefore (w : Manner) (l : ℕ) (u n v : View) : Type 0 where
  pub freed : HasFreedIn w l n.calls v.calls
  pub frames : v.calls.frames ≡ u.calls.frames
  pub holds : v.calls.holds ≡ u.calls.holds
  pub home : v.ledger.out ≡ u.ledger.out
  pub who : v.who ≡ u.who

-- so its notes are right as they are
pub noted_again : (notes : Notes) (w : Manner) (l : ℕ) (u n v : View) → AsBefore w l u n v
    → IsNoted notes (locks_of u.who.plan) u.calls → IsNoted notes (locks_of v.who.plan) v.calls
noted_again notes w l u n v same is =
    subst (λ (x : Who). IsNoted notes (locks_of x.plan) v.calls) (sym same.who)
    (record {
      deep = is.deep ∙ ap (λ (rs : List Running). length rs) (sym same.frames);
      few = subst (λ (rs : List Running). length rs ≤ 6) (sym same.frames) is.few;
      counted = is.counted ∙ ap slows (sym same.frames);
      orders = is.orders;
      paths = is.paths;
      ordered = subst (AreOrdered notes.order notes.slow (locks_of u.who.plan)) (sym same.frames) is.ordered;
      all = is.all;
      marked = subst (λ (hs : List Hold). Marks notes.near notes.far.items (locks_of u.who.plan) (holds_in hs)) (sym same.holds) is.marked;
    })

-- who holds the lock reaches the value on which it works
pub within_reach : (w : Manner) (k : Plan) (l p : ℕ) (v : View) → l < locks_of k → v.who.number ≡ Some p
    → hold_in v.calls.holds l ≡ Some (w, false) → IsHomeAt k (home_in w k l p) v.who.number v.calls.holds
within_reach Spins k l p v low is has = alone_at k l v low (record { manner = Spins; held = has; sole = refl })
within_reach Reads k l p v low is has = copy_held k l p v low (record { manner = Reads; held = has; may = inr is })
within_reach Writes k l p v low is has = alone_at k l v low (record { manner = Writes; held = has; sole = refl })

-- what freed the lock left

pub freed_frames : (w : Manner) (l : ℕ) (a b : Calls) → HasFreedIn w l a b → b.frames ≡ a.frames
freed_frames Spins l a b has = has.frames
freed_frames Reads l a b has = has.frames
freed_frames Writes l a b has = has.frames

freed_holds : (w : Manner) (l : ℕ) (a b : Calls) → HasFreedIn w l a b
    → b.holds ≡ free_of (length a.frames) (lock_name l) (moved_to (length a.frames) (lock_name l) a.holds)
freed_holds Spins l a b has = has.holds
freed_holds Reads l a b has = has.holds
freed_holds Writes l a b has = has.holds

module _ (d : Domain) (cpu : Cpu) (of : IsOf cpu d) (l : ℕ) (rests : (calls_of cpu).frames ≡ [])
    (free : holds_in (calls_of cpu).holds l ≡ false) where
  abbrev old : Calls
  old = calls_of cpu

  seat : IsSeat d.plan cpu.number cpu.seat.me.0
  seat = record { plan = of.plan; number = cpu.numbered; awake = of.awake }

  pub fresh : waits_in old.frames l ≡ false
  fresh = ap (λ (rs : List Running). waits_in rs l) rests

  few : (rs : List Running) → rs ≡ [] → length rs < 6
  few rs is = let e = ap (λ (xs : List Running). length xs) is in omega (arith, e)

  -- a call that takes the lock begins
  first : (kind : Pc → Bool) (v : Verb) → is_taking v ≡ true → kind_at d.plan l ≡ kind_of v
      → kind (first_place d.plan.mode v) ≡ true → Acts kind cpu.seat.me.0 v l
  first kind v takes fits is =
      acts_first kind d.plan cpu.number v l cpu.seat.me.0 seat takes fresh free (few old.frames rests) fits is

  pub may_take : (w : Manner) → kind_at d.plan l ≡ kind_of (verb_in w) → MayTakeIn w cpu.seat.me.0 l
  may_take Spins fits = first is_take Lock refl fits refl
  may_take Reads fits = record { inside = false; acts = first (joins_by Read) Read refl fits refl }
  may_take Writes fits = record { inside = false; acts = first (seizes_by Write) Write refl fits refl }

  -- the lock is not free

  spin_acts : kind_at d.plan l ≡ kind_of Lock → ActsIn (takes_by Lock) cpu.seat.me.0 Lock (lock_name l)
  spin_acts fits =
      record {
        acts = first (takes_by Lock) Lock refl fits refl;
        inside = refl;
        after = λ e. absurd (let z : false ≡ true = e in cc z);
      }

  read_acts : kind_at d.plan l ≡ kind_of Read → ActsFor (joins_at false Read) cpu.seat.me.0 Read l
  read_acts fits = record { inside = false; acts = first (joins_at false Read) Read refl fits refl }

  write_acts : kind_at d.plan l ≡ kind_of Write → ActsFor (seizes_at false Write) cpu.seat.me.0 Write l
  write_acts fits = record { inside = false; acts = first (seizes_at false Write) Write refl fits refl }

  pub waits_on : (w : Manner) → kind_at d.plan l ≡ kind_of (verb_in w) → (met : ℕ) (n : Me Slot View)
      → TakesIn w l cpu.seat.me met n → is_let w met ≡ false → Steps old n.0.calls l true false false
  waits_on Spins fits met n made none =
      stepped.takes_noted Lock (lock_name l) met cpu.seat.me n made (apart_of cpu d of) (noted_of cpu d of).few (spin_acts fits)
      true false false (ap not (sym none)) (sym none) (sym (ap (λ (rs : List Running). slow_in rs l) rests))
  waits_on Reads fits met n made none =
      shared.join_noted Read l met cpu.seat.me n made (apart_of cpu d of) (noted_of cpu d of).few false false refl (read_acts fits)
      true false (ap not (sym none)) (sym none)
  waits_on Writes fits met n made none =
      subst (λ (b : Bool). Steps old n.0.calls l true false b) none
      (shared.seize_noted Write l met cpu.seat.me n made (apart_of cpu d of) (noted_of cpu d of).few false false refl (write_acts fits)
      true (ap not (sym none)))

  pub waits_apart : (w : Manner) → kind_at d.plan l ≡ kind_of (verb_in w) → (met : ℕ) (n : Me Slot View)
      → TakesIn w l cpu.seat.me met n → are_calls n.0.calls.frames ≡ true
  waits_apart Spins fits met n made =
      (stepped.takes Lock (lock_name l) met cpu.seat.me n made (apart_of cpu d of) (noted_of cpu d of).few (spin_acts fits)).apart
  waits_apart Reads fits met n made =
      (shared.join Read l met cpu.seat.me n made (apart_of cpu d of) (noted_of cpu d of).few false (read_acts fits)).apart
  waits_apart Writes fits met n made =
      (shared.seize Write l met cpu.seat.me n made (apart_of cpu d of) (noted_of cpu d of).few false (write_acts fits)).apart

  -- the lock is taken

  pub took : (w : Manner) (met : ℕ) (n : Me Slot View) → TakesIn w l cpu.seat.me met n → is_let w met ≡ true
      → Took d.plan cpu.number (verb_in w) l w old cpu.seat.me.0 n.0
  took Spins met n made is = F1_takes d.plan cpu.number l cpu.seat.me n met seat fresh made is
  took Reads met n made is = R1_takes d.plan cpu.number l cpu.seat.me n met seat fresh made is
  took Writes met n made is = Wr1_takes d.plan cpu.number l cpu.seat.me n met seat fresh made is

  module _ (w : Manner) (met : ℕ) (n : Me Slot View) (made : TakesIn w l cpu.seat.me met n) (is : is_let w met ≡ true) where
    abbrev kept : Kept cpu.seat.me n
    kept = take_keeps w l met cpu.seat.me n made

    holds : n.0.calls.holds ≡ mine l n.0.calls.taken w false ∷ old.holds
    holds = (took w met n made is).taken.holds
        ∙ ap (λ (rs : List Running). record (mine l n.0.calls.taken w false) { ctx = length rs } ∷ old.holds) rests

    running : n.0.calls.frames ≡ []
    running = (took w met n made is).taken.frames ∙ rests

    pub at_home : l < locks_of d.plan → IsHomeAt d.plan (home_in w d.plan l cpu.number) n.0.who.number n.0.calls.holds
    at_home low =
        within_reach w d.plan l cpu.number n.0 low (numbered cpu.seat.me n kept cpu.numbered)
        (ap (λ (hs : List Hold). hold_in hs l) holds ∙ found l n.0.calls.taken w false old.holds)

    -- it was worked under
    module _ (o : Me Slot View) (still : o.0 ≡ n.0) where
      view : (P : View → Type 0) → P n.0 → P o.0
      view P = subst P (sym still)

      worked : IsSeat d.plan cpu.number o.0
      worked =
          view (IsSeat d.plan cpu.number)
          (record {
            plan = ap (λ (x : Who). x.plan) kept.who ∙ of.plan;
            number = numbered cpu.seat.me n kept cpu.numbered;
            awake = of.awake;
          })

      calm : are_calls o.0.calls.frames ≡ true
      calm = view (λ (v : View). are_calls v.calls.frames ≡ true) (ap are_calls running)

      low_calls : length o.0.calls.frames < 6
      low_calls = view (λ (v : View). length v.calls.frames < 6) (few n.0.calls.frames running)

      its_way : way_in o.0.calls.holds l ≡ Some w
      its_way =
          view (λ (v : View). way_in v.calls.holds l ≡ Some w)
          (ap (λ (hs : List Hold). way_in hs l) holds ∙ way l n.0.calls.taken w false old.holds)

      is_held : holds_in o.0.calls.holds l ≡ true
      is_held =
          view (λ (v : View). holds_in v.calls.holds l ≡ true)
          (ap (λ (hs : List Hold). holds_in hs l) holds ∙ held l n.0.calls.taken w false old.holds)

      pub may_free : kind_at d.plan l ≡ kind_of (verb_in w) → MayFreeIn w o.0 l
      may_free fits = by w fits its_way
        where
          by : (w : Manner) → kind_at d.plan l ≡ kind_of (verb_in w) → way_in o.0.calls.holds l ≡ Some w → MayFreeIn w o.0 l
          by Spins fits has = acts_release d.plan cpu.number l o.0 worked of.awake calm low_calls fits is_held
          by Reads fits has =
              released.acts_leaving d.plan cpu.number l o.0 worked calm low_calls fits reader (quits_by RUnlock) refl has
          by Writes fits has =
              released.acts_leaving d.plan cpu.number l o.0 worked calm low_calls fits writer (leaves_by WUnlock) refl has

      pub none_out : out_in o.0.calls.holds l ≡ false
      none_out =
          view (λ (v : View). out_in v.calls.holds l ≡ false)
          (ap (λ (hs : List Hold). out_in hs l) holds ∙ out_home l n.0.calls.taken w old.holds free)

      -- it is freed
      module _ (met' : ℕ) (p : Me Slot View) (made' : FreesIn w l o met' p) where
        its : HasFreedIn w l n.0.calls p.0.calls
        its = subst (λ (v : View). HasFreedIn w l v.calls p.0.calls) still (by w made')
          where
            by : (w : Manner) → FreesIn w l o met' p → HasFreedIn w l o.0.calls p.0.calls
            by Spins made = (frees d.plan cpu.number l o p met' worked of.awake calm made).freed
            by Reads made = released.left reader l met' o p made calm
            by Writes made = released.left writer l met' o p made calm

        last : Kept o p
        last = free_keeps w l met' o p made'

        pub freed : AsBefore w l cpu.seat.me.0 n.0 p.0
        freed =
            record {
              freed = its;
              frames = freed_frames w l n.0.calls p.0.calls its ∙ (took w met n made is).taken.frames;
              holds = freed_holds w l n.0.calls p.0.calls its
                  ∙ (ap (λ (hs : List Hold). free_of (length n.0.calls.frames) (lock_name l) (moved_to (length n.0.calls.frames) (lock_name l) hs)) holds
                  ∙ dropped (length n.0.calls.frames) l n.0.calls.taken w old.holds free);
              home = last.home ∙ (ap (λ (v : View). v.ledger.out) still ∙ kept.home);
              who = last.who ∙ (ap (λ (v : View). v.who) still ∙ kept.who);
            }
