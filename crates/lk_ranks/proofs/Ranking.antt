-- What ranks above all that a processor holds or waits for, before a call and after it.
use Rattle.std.proofs.Common.{◌≡◌, ℕ, ◌<◌, ◌≤◌, List, [], ◌∷◌, Bool, true, false, sym, ap, ◌∙◌, subst, inl, inr, arith, eqb, ne_eqb}
use Rattle.std.proofs.lemmas.Bool.{cases_Bool, cases_eq, ltb-false, ltb-true}
use Rattle.std.proofs.Math.Dec.{ltb}
use Rattle.std.specs.Prelude.{◌||◌}
use Rattle.lk_names.specs.Names.{same_lock}
use Rattle.lk_names.specs.declared.holder.Manner.{Manner}
use Rattle.lk_names.specs.declared.names.LockName.{LockName}
use Rattle.lk_law.proofs.common.Puts.{if-false}
use Rattle.lk_law.proofs.common.Sames.{same_lock-true}
use Rattle.lk_law.specs.Agree.{halts}
use Rattle.lk_domain.specs.Calls.{Calls, Hold, Running, holds_in, waits_in, lock_name}
use Rattle.lk_domain.specs.Marked.{AreOrdered}
use Rattle.lk_domain.specs.Plans.{locks_of}
use Rattle.lk_domain.specs.declared.cpu.Cpu.{Cpu}
use Rattle.lk_domain.proofs.turns.Noted.{newest_among, ordered_rest}
use Rattle.lk_domain.specs.Seats.{calls_of}
use Rattle.lk_lock.specs.Standing.{holds_of, IsInside, IsReady, Rests, out_with}
use Rattle.lk_domain.specs.declared.domain.Domain.{Domain}
use Rattle.lk_ranks.specs.Above.{IsAbove}

-- the lock of the rank is not held
pub not_held : (rank : ℕ) (c : Calls) → IsAbove rank c → holds_in c.holds rank ≡ false
not_held rank c above = elim (cases_Bool (holds_in c.holds rank)) [
  | inl e ↦ absurd (let low = above.holds rank e in omega (arith, low))
  | inr e ↦ e
]

-- whoever holds nothing and waits for nothing may take any lock
pub above_none : (rank : ℕ) (c : Calls) → c.frames ≡ [] → c.holds ≡ [] → IsAbove rank c
above_none rank c none bare =
    record {
      holds = λ l is. absurd (let z : true ≡ false = sym is ∙ ap (λ (hs : List Hold). holds_in hs l) bare in cc z);
      waits = λ l is. absurd (let z : true ≡ false = sym is ∙ ap (λ (rs : List Running). waits_in rs l) none in cc z);
    }

-- what stands as it did
pub above_same : (rank : ℕ) (old new : Calls) → new.frames ≡ old.frames → new.holds ≡ old.holds → IsAbove rank old
    → IsAbove rank new
above_same rank old new frames holds above =
    record {
      holds = λ l is. above.holds l (sym (ap (λ (hs : List Hold). holds_in hs l) holds) ∙ is);
      waits = λ l is. above.waits l (sym (ap (λ (rs : List Running). waits_in rs l) frames) ∙ is);
    }

-- one more lock is held
held_more : (l k n : ℕ) (m : Manner) (hs : List Hold) (rank : ℕ) → l < rank
    → (holds_in hs k ≡ true → k < rank) → holds_in (out_with l m n ∷ hs) k ≡ true → k < rank
held_more l k n m hs rank low old is = elim (cases_Bool (same_lock (lock_name l) (lock_name k))) [
  | inl e ↦
      let same : l ≡ k = ap (λ (x : LockName). x.index) (same_lock-true (lock_name l) (lock_name k) e) in
      subst (λ (x : ℕ). x < rank) same low
  | inr e ↦ old (sym (if-false (same_lock (lock_name l) (lock_name k)) true (holds_in hs k) e) ∙ is)
]

-- With the lock l taken, what ranks above it, and above all from before, ranks above all.
pub above_inside : (d : Domain) (l rank : ℕ) (m : Manner) (before now : Cpu) → IsReady d now → IsInside l m before now
    → IsAbove rank (calls_of before) → l < rank → IsAbove rank (calls_of now)
above_inside d l rank m before now ready in_it above low =
    record {
      holds = λ k is.
          held_more l k in_it.nth m (holds_of before) rank low (above.holds k)
          (sym (ap (λ (hs : List Hold). holds_in hs k) in_it.holds) ∙ is);
      waits = λ k is. absurd (let z : true ≡ false = sym is ∙ ap (λ (rs : List Running). waits_in rs k) ready.frames in cc z);
    }

-- what ranks above one rank ranks above all that it ranks above
pub above_more : (low high : ℕ) (c : Calls) → low < high → IsAbove low c → IsAbove high c
above_more low high c up above =
    record {
      holds = λ l is. let a = above.holds l is in omega (arith, a, up);
      waits = λ l is. let a = above.waits l is in omega (arith, a, up);
    }

-- a processor that rests may take any lock
pub above_rest : (d : Domain) (i rank : ℕ) (cpu : Cpu) → Rests d i cpu → IsAbove rank (calls_of cpu)
above_rest d i rank cpu rests = above_none rank (calls_of cpu) rests.ready.frames rests.holds

-- a call waits for one of so many locks
waits_low : (ls : List ℕ) (ss : List Bool) (many : ℕ) (rs : List Running) (l : ℕ) → AreOrdered ls ss many rs
    → waits_in rs l ≡ true → l < many
waits_low ls ss many [] l are on = cc on
waits_low ls ss many (r ∷ rs) l are on = elim (cases_eq r.frame.lock.index l) [
  | inl e ↦ let low = newest_among ls ss many r rs are in omega (arith, e, low)
  | inr ne ↦ waits_low ls ss many rs l (ordered_rest ls ss many r rs are)
      (sym (if-false (eqb r.frame.lock.index l) true (waits_in rs l) (ne_eqb r.frame.lock.index l ne)) ∙ on)
]

-- and holds one of them
holds_low : (many : ℕ) (f : ℕ → Bool) (l : ℕ) → ((n : ℕ) → many ≤ n → f n ≡ false) → f l ≡ true → l < many
holds_low many f l none on = elim (cases_Bool (ltb l many)) [
  | inl low ↦ ltb-true l many low
  | inr high ↦ absurd (let z : true ≡ false = sym on ∙ none l (ltb-false l many high) in cc z)
]

-- a number that is marked is below the rank from which on none of so many is
below : (rank many : ℕ) (f : ℕ → Bool) → ((l : ℕ) → f l ≡ true → l < many)
    → ((n : ℕ) → rank ≤ n → n < many → f n ≡ false) → (l : ℕ) → f l ≡ true → l < rank
below rank many f low none l on = elim (cases_Bool (ltb l rank)) [
  | inl under ↦ ltb-true l rank under
  | inr up ↦ absurd (let z : true ≡ false = sym on ∙ none l (ltb-false l rank up) (low l on) in cc z)
]

-- a rank from which on no lock is held, and for none a call waits
pub above_all : (rank many : ℕ) (cpu : Cpu) → halts cpu.seat.me.0.who.plan.mode ≡ false → many ≡ locks_of cpu.seat.me.0.who.plan
    → ((n : ℕ) → rank ≤ n → n < many → holds_in (calls_of cpu).holds n ≡ false)
    → ((n : ℕ) → rank ≤ n → n < many → waits_in (calls_of cpu).frames n ≡ false) → IsAbove rank (calls_of cpu)
above_all rank many cpu awake is unheld unwaited =
    record {
      holds = below rank many (holds_in (calls_of cpu).holds)
          (λ l on. let low = holds_low (locks_of cpu.seat.me.0.who.plan) (holds_in (calls_of cpu).holds) l (cpu.noted awake).marked.none on in
          omega (arith, low, is)) unheld;
      waits = below rank many (waits_in (calls_of cpu).frames)
          (λ l on. let low = waits_low cpu.notes.order cpu.notes.slow (locks_of cpu.seat.me.0.who.plan) (calls_of cpu).frames l (cpu.noted awake).ordered on in
          omega (arith, low, is)) unwaited;
    }

-- a rank that is not above a lock is not above all
pub not_above : (rank n : ℕ) (c : Calls) → rank ≤ n → (holds_in c.holds n || waits_in c.frames n) ≡ true → IsAbove rank c → ⊥
not_above rank n c high on above = elim (cases_Bool (holds_in c.holds n)) [
  | inl e ↦ let low = above.holds n e in omega (arith, low, high)
  | inr e ↦
      let waits : waits_in c.frames n ≡ true = sym (ap (λ (b : Bool). b || waits_in c.frames n) e) ∙ on in
      let low = above.waits n waits in omega (arith, low, high)
]
