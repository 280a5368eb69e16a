-- How a processor stands once it has taken a lock, and once it has freed it; and in between, with the
-- value of the lock out, and home again.
use Rattle.std.proofs.Common.{◌≡◌, ℕ, ◌+◌, ◌-◌, ◌<◌, List, [], ◌∷◌, ◌++◌, length, true, false, refl}
use Rattle.std.proofs.Common.{sym, ap, ◌∙◌, subst, Some, arith, length-append}
use Rattle.lk_lock.proofs.Names.{Manner, Spins, Verb, halts, Hold, Mark, holds_in, lock_name}
use Rattle.lk_lock.proofs.Names.{IsSame, IsStill, calls_of, Cpu, Domain, View, IsAsBefore}
use Rattle.lk_lock.proofs.Names.{IsHolding, IsReady, holds_of, HasLocked}
use Rattle.lk_names.specs.Names.{same_lock}
use Rattle.lk_rows.specs.declared.parts.Pc.{Pc}
use Rattle.lk_law.proofs.{common.Puts.if-true, common.Sames.same_lock-self}
use Rattle.lk_domain.proofs.Holds.{found, held, marked, out_home}
use Rattle.lk_domain.specs.{Calls.{Terms, Running, hold, Calls, hold_in, way_in}, Plans.cpus_of}
use Rattle.lk_domain.specs.Seats.{BringsValueOf, IsIn, TakesValueOf, ledger_of, view_of}
use Rattle.lk_domain.specs.Turns.{HasLeft}
use Rattle.lk_domain.specs.Values.{IsClear, IsHomeWith, bringing, is_sole, marked_out, older}
use Rattle.lk_domain.specs.{Values.{out_in, taking}, Who.Who}
use Rattle.lk_pvdomain.specs.PvCalls.{IsResting}
use Rattle.lk_run.specs.Entering.{HasEntered}
use Rattle.lk_lock.specs.Standing.{HasBeenIn, HasComeIn, IsInside, home_calls}

module _ (d : Domain) (old new : Cpu) (was : IsReady d old) where
  -- it is one of the domain
  one_of : new.seat.table_id ≡ old.seat.table_id → new.number ≡ old.number → (view_of new).who.plan ≡ (view_of old).who.plan
      → IsIn new d
  one_of table number plan =
      record {
        table = table ∙ was.domain_is.table;
        plan = plan ∙ was.domain_is.plan;
        low = subst (λ (n : ℕ). n < cpus_of d.plan) (sym number) was.domain_is.low;
      }

  -- after a call
  pub after_call : IsSame old new → (calls_of new).frames ≡ []
      → (halts d.plan.mode ≡ true → IsResting (calls_of new)) → (ledger_of new).out ≡ (ledger_of old).out
      → IsReady d new
  after_call same frames rests home =
      record {
        domain_is = one_of same.table same.number (ap (λ (w : Who). w.plan) same.who);
        frames = frames;
        rests = rests;
        home = home ∙ was.home;
      }

  -- where it knows the same of all but its holds and the values that are out
  viewed : new.seat.table_id ≡ old.seat.table_id → new.number ≡ old.number
      → (w : View) → view_of new ≡ w → w.who.plan ≡ (view_of old).who.plan
      → w.calls.frames ≡ (calls_of old).frames → w.calls.halted ≡ (calls_of old).halted
      → w.calls.looked ≡ (calls_of old).looked → w.ledger ≡ ledger_of old → IsReady d new
  viewed table number w is plan frames halted looked ledger =
      let running : (calls_of new).frames ≡ (calls_of old).frames = ap (λ (v : View). v.calls.frames) is ∙ frames in
      record {
        domain_is = one_of table number (ap (λ (v : View). v.who.plan) is ∙ plan);
        frames = running ∙ was.frames;
        rests = λ on.
            let r = was.rests on in
            record {
              frames = running ∙ r.frames;
              awake = ap (λ (v : View). v.calls.halted) is ∙ (halted ∙ r.awake);
              fresh = ap (λ (v : View). v.calls.looked) is ∙ (looked ∙ r.fresh);
            };
        home = ap (λ (v : View). v.ledger.out) is ∙ (ap (λ g. g.out) ledger ∙ was.home);
      }

  -- its value goes out, comes home, or is worked on

  pub gone_out : (l : ℕ) → TakesValueOf l old new → IsReady d new
  gone_out l out = viewed out.table out.number (taking l l (view_of old)) out.view refl refl refl refl refl

-- what was as before is so still
pub still_once_more : (first old new : Cpu) → IsStill first old → IsStill old new → IsStill first new
still_once_more first old new was is =
    record {
      table = is.table ∙ was.table;
      id = is.id ∙ was.id;
      number = is.number ∙ was.number;
      view = is.view ∙ was.view;
    }

-- the newest hold, of a call that no other is below
pub newest : (l n : ℕ) (m : Manner) (old : Calls) (hs : List Hold) → old.frames ≡ []
    → hs ≡ hold (length old.frames) (lock_name l) m n ∷ old.holds → hs ≡ hold 0 (lock_name l) m n ∷ old.holds
newest l n m old hs none is =
    is ∙ ap (λ (rs : List Running). hold (length rs) (lock_name l) m n ∷ old.holds) none

-- it has taken the lock last
pub holding : (l n : ℕ) (m : Manner) (old mid : Cpu) → IsSame old mid
    → holds_of mid ≡ hold 0 (lock_name l) m n ∷ holds_of old → holds_in (holds_of old) l ≡ false
    → IsHolding l m old mid
holding l n m old mid same is free = record { same = same; nth = n; holds = is; fresh = free }

-- a spinlock
pub locked_last : (t : Terms) (p : ℕ) (v : Verb) (l : ℕ) (old mid : Cpu) → IsSame old mid
    → HasLocked t p v l (calls_of old) (calls_of mid) → holds_in (holds_of old) l ≡ false → IsHolding l Spins old mid
locked_last t p v l old mid same taken free = holding l (calls_of mid).taken Spins old mid same taken.holds free

module _ (l : ℕ) (m : Manner) (before now : Cpu) (has : IsHolding l m before now) where
  -- its value is home
  pub found_home : hold_in (holds_of now) l ≡ Some (m, false)
  found_home = ap (λ (xs : List Hold). hold_in xs l) has.holds ∙ found l has.nth m false (holds_of before)

  pub at_home : is_sole m ≡ true → IsHomeWith l (holds_of now)
  at_home sole = record { manner = m; held = found_home; sole = sole }

  pub none_out : out_in (holds_of now) l ≡ false
  none_out = ap (λ (xs : List Hold). out_in xs l) has.holds ∙ out_home l has.nth m (holds_of before) has.fresh

  -- it is held
  pub is_held : holds_in (holds_of now) l ≡ true
  is_held = ap (λ (xs : List Hold). holds_in xs l) has.holds ∙ held l has.nth m false (holds_of before)

  pub way_held : way_in (holds_of now) l ≡ Some m
  way_held =
      ap (λ (xs : List Hold). way_in xs l) has.holds
      ∙ if-true (same_lock (lock_name l) (lock_name l)) (Some m) (way_in (holds_of before) l) (same_lock-self (lock_name l))

  -- and stays so while the processor works on a value
  pub still_holding : (new : Cpu) → IsStill now new → IsHolding l m before new
  still_holding new is =
      record {
        same = record {
          table = is.table ∙ has.same.table;
          id = is.id ∙ has.same.id;
          number = is.number ∙ has.same.number;
          who = ap (λ (v : View). v.who) is.view ∙ has.same.who;
        };
        nth = has.nth;
        holds = ap (λ (v : View). v.calls.holds) is.view ∙ has.holds;
        fresh = has.fresh;
      }

  -- once it is freed the processor is as it was
  pub as_before : (new : Cpu) (left : List Hold → List Hold) → IsSame now new → holds_of new ≡ left (holds_of now)
      → left (hold 0 (lock_name l) m has.nth ∷ holds_of before) ≡ holds_of before → IsAsBefore before new
  as_before new left same is dropped =
      record {
        same = record {
          table = same.table ∙ has.same.table;
          id = same.id ∙ has.same.id;
          number = same.number ∙ has.same.number;
          who = same.who ∙ has.same.who;
        };
        holds = is ∙ (ap left has.holds ∙ dropped);
      }

  -- its value goes out
  pub inside : (new : Cpu) → TakesValueOf l now new → IsInside l m before new
  inside new out =
      record {
        table = out.table ∙ has.same.table;
        id = out.id ∙ has.same.id;
        number = out.number ∙ has.same.number;
        who = ap (λ (v : View). v.who) out.view
            ∙ ap (λ (w : Who). let r : Who = record w { outs = l ∷ w.outs } in r) has.same.who;
        nth = has.nth;
        holds = ap (λ (v : View). v.calls.holds) out.view
            ∙ (ap (λ (xs : List Hold). marked_out l true xs) has.holds ∙ marked l has.nth m false true (holds_of before));
        fresh = has.fresh;
        apart = subst (λ (w : Who). IsClear w.plan l w.outs) has.same.who out.apart;
      }

  -- and the calls are what they were as soon as it is home again
  pub home_again : (new : Cpu) → TakesValueOf l now new → home_calls l new ≡ calls_of now
  home_again new out =
      ap (λ (v : View). (bringing l v).calls) out.view
      ∙ ap (λ (xs : List Hold). let c : Calls = record (calls_of now) { holds = xs } in c)
      (ap (λ (xs : List Hold). marked_out l false (marked_out l true xs)) has.holds
      ∙ (ap (λ (xs : List Hold). marked_out l false xs) (marked l has.nth m false true (holds_of before))
      ∙ (marked l has.nth m true false (holds_of before) ∙ sym has.holds)))

module _ (l : ℕ) (m : Manner) (before old : Cpu) (in_it : IsInside l m before old) where
  -- and once it is home the lock is held as before
  pub came_home : (mid : Cpu) → BringsValueOf l old mid → IsHolding l m before mid
  came_home mid home =
      record {
        same = record {
          table = home.table ∙ in_it.table;
          id = home.id ∙ in_it.id;
          number = home.number ∙ in_it.number;
          who = ap (λ (v : View). v.who) home.view
              ∙ ap (λ (w : Who). let r : Who = record w { outs = older w.outs } in r) in_it.who;
        };
        nth = in_it.nth;
        holds = ap (λ (v : View). v.calls.holds) home.view
            ∙ (ap (λ (xs : List Hold). marked_out l false xs) in_it.holds
            ∙ marked l in_it.nth m true false (holds_of before));
        fresh = in_it.fresh;
      }

  -- what is inside stays so, while other locks are taken and freed
  pub still_inside : (new : Cpu) → IsAsBefore old new → IsInside l m before new
  still_inside new kept =
      record {
        table = kept.same.table ∙ in_it.table;
        id = kept.same.id ∙ in_it.id;
        number = kept.same.number ∙ in_it.number;
        who = kept.same.who ∙ in_it.who;
        nth = in_it.nth;
        holds = kept.holds ∙ in_it.holds;
        fresh = in_it.fresh;
        apart = in_it.apart;
      }

-- How many rows are behind the first of a trail.
pub rows_behind : (upto behind last : List Mark) → last ≡ upto ++ behind → length last - length upto ≡ length behind
rows_behind upto behind last is =
    let long : length last ≡ length upto + length behind = ap (λ (ks : List Mark). length ks) is ∙ length-append upto behind in
    omega (arith, long)

-- What was done by who took a lock by a path of its rows, worked on its value, and freed it.

pub gone_in : (t : Terms) (p : ℕ) (v : Verb) (l : ℕ) (old mid : Calls) (new : Cpu) → home_calls l new ≡ mid
    → HasLocked t p v l old mid → HasLocked t p v l old (home_calls l new)
gone_in t p v l old mid new is taken = subst (λ (x : Calls). HasLocked t p v l old x) (sym is) taken

pub come_in : (t : Terms) (p q : ℕ) (v : Verb) (l : ℕ) (m : Manner) (upto : List Mark) (old new : Calls) → q ≡ p
    → HasEntered t q v l m upto old new → new.taken ≡ old.taken + (1 + (length new.last - length upto))
    → HasComeIn t p v l m old new
come_in t p q v l m upto old new same has once =
    subst (λ (n : ℕ). HasComeIn t n v l m old new) same
    (record {
      upto = upto;
      entered = has;
      once = once ∙ ap (λ (n : ℕ). old.taken + (1 + n)) (rows_behind upto has.behind new.last has.last);
    })

pub been_in : (t : Terms) (p : ℕ) (v : Verb) (l : ℕ) (m : Manner) (a : Pc) (old : Calls) (mid now : Cpu) (new : Calls)
    → IsStill mid now → HasComeIn t p v l m old (calls_of mid) → HasLeft a l (calls_of now) new
    → HasBeenIn t p v l m a old new
been_in t p v l m a old mid now new is entered left =
    record {
      inside = calls_of mid;
      entered = entered;
      left = subst (λ (w : View). HasLeft a l w.calls new) is.view left;
    }
