-- What the rows of the paravirtual lock leave as it was, and numbers of heads and of waiters, by flags and bytes.
use Rattle.std.proofs.Common.{◌≡◌, ◌≢◌, ◌⊎◌, ◌<◌, ◌≤◌, ◌+◌, ℕ, arith, inl, inr, Option, Some, None}
use Rattle.std.proofs.Common.{Bool, true, false, refl, sym, ap, if◌then◌else◌, ◌==◌}
use Rattle.lk_progress.proofs.Names.{Locked, Free, Held, Slow, NodeName, same_lock, LockName, Frame}
use Rattle.lk_progress.proofs.Names.{State, IsThen, put_halted, stores_state, stores_word, World}
use Rattle.lk_progress.proofs.Names.{KeepsTurns, halting_left, halting_left_at, head_turn}
use Rattle.lk_law.proofs.common.Puts.{kept_true, same_lock-else, same_node-true}
use Rattle.lk_law.proofs.common.Sames.{same_lock-true}
use Rattle.lk_law.specs.Snapshot.{same_node}
use Rattle.lk_progress.specs.HaltingMeasure.{halting_rows_if, unlike}

-- what is behind a wait lock on the way to it
abbrev pub behind : Frame → ℕ
behind f = if f.lock.wait then halting_rows_if f.then else 0

pub none_left : (b : Bool) → ◌≡◌ {A = ℕ} (if b then 0 else 0) 0
none_left true = refl
none_left false = refl

-- the lock is had
pub had_lt : (f : Frame) (n : ℕ) (me : Option NodeName) → (f.lock.wait ≡ true → IsThen f.then) → 0 < n
    → halting_left (record f { place = if f.lock.wait then f.then else None; me = me }) < n + behind f
had_lt f n me inner some = by f.lock.wait refl
  where
    by : (b : Bool) → f.lock.wait ≡ b
        → halting_left_at (if b then f.then else None) (record f { place = if f.lock.wait then f.then else None; me = me })
        < n + (if b then halting_rows_if f.then else 0)
    by false e = omega (arith, some)
    by true e = elim (inner e) [
      | inl q ↦ rw q (let z = none_left f.lock.wait in omega (arith, some, z))
      | inr q ↦ rw q (let z = none_left f.lock.wait in omega (arith, some, z))
    ]

-- a head has come nearer, or goes around
pub head_less : (h : Bool) (b : Locked) (a k c n : ℕ) → a < c → k < n
    → ((h ≡ true) × (b ≡ Held) × (head_turn h b a k ≡ head_turn h b c n)) ⊎ (head_turn h b a k < head_turn h b c n)
head_less true Held a k c n lt less = inl (refl, refl, refl)
head_less true Free a k c n lt less = inr lt
head_less true Slow a k c n lt less = inr less
head_less false Held a k c n lt less = inr less
head_less false Free a k c n lt less = inr less
head_less false Slow a k c n lt less = inr less

pub flag_less : (b : Bool) (a k c n : ℕ) → a < c → k < n → ◌<◌ (if b then a else k) (if b then c else n)
flag_less true a k c n lt less = lt
flag_less false a k c n lt less = less

-- how far a look is from the end of its turn, by what was learned of the tail

pub unlike_self : (a : Bool) → unlike a a ≡ 0
unlike_self true = refl
unlike_self false = refl

pub unlike_or : (a b : Bool) → (b ≡ a) ⊎ (unlike a b ≡ 1)
unlike_or true true = inl refl
unlike_or false false = inl refl
unlike_or true false = inr refl
unlike_or false true = inr refl

pub unlike_few : (a b : Bool) → unlike a b ≤ 1
unlike_few true true = omega arith
unlike_few false false = omega arith
unlike_few true false = omega arith
unlike_few false true = omega arith

pub four_most : (b : Bool) → ◌≤◌ (if b then 0 else 4) 4
four_most true = omega arith
four_most false = omega arith

pub two_less : (t : Bool) → ◌<◌ 2 (if t then 3 else 4)
two_less true = omega arith
two_less false = omega arith

pub off_hash : (b : Locked) (a k : ℕ) → head_turn false b a k ≡ k
off_hash Free a k = refl
off_hash Held a k = refl
off_hash Slow a k = refl

-- s is m after a store by which a head goes around: no other turn depends on it, and it leaves halts, links, and which
-- other locks are pending
pub record Calm (m s : World) (l : LockName) : Type 0 where
  pub keeps : KeepsTurns m s
  pub halted : (p : ℕ) → s.halted p ≡ m.halted p
  pub pending : (k : LockName) → k ≢ l → (s.word k).pending ≡ (m.word k).pending
  pub links : (n : NodeName) → (s.node n).next ≡ (m.node n).next

module _ (m : World) where
  pub keeps_self : KeepsTurns m m
  keeps_self = record { turns = refl; byte = λ l. refl; tail = λ l. refl; rw = λ i. refl; flag = λ k. refl; halted = λ p h. h; kicked = λ p. refl }

  pub calm_self : (l : LockName) → Calm m m l
  calm_self l = record { keeps = keeps_self; halted = λ p. refl; pending = λ k ne. refl; links = λ n. refl }

  pub calm_state : (n : NodeName) (q : State) (l : LockName) → Calm m (stores_state m n (Some q)) l
  calm_state n q l = record {
    keeps = record {
      turns = refl;
      byte = λ l. refl;
      tail = λ l. refl;
      rw = λ i. refl;
      flag = λ k. flag k (same_node k n) refl;
      halted = λ p h. h;
      kicked = λ p. refl;
    };
    halted = λ p. refl;
    pending = λ k ne. refl;
    links = λ k. next k (same_node k n) refl;
  }
    where
      flag : (k : NodeName) (b : Bool) → same_node k n ≡ b → (if b then record (m.node n) { state = q } else m.node k).flag ≡ (m.node k).flag
      flag k true e = ap (λ (i : NodeName). (m.node i).flag) (sym (same_node-true k n e))
      flag k false e = refl

      next : (k : NodeName) (b : Bool) → same_node k n ≡ b → (if b then record (m.node n) { state = q } else m.node k).next ≡ (m.node k).next
      next k true e = ap (λ (i : NodeName). (m.node i).next) (sym (same_node-true k n e))
      next k false e = refl

  pub calm_pending : (l : LockName) (b : Bool) → Calm m (stores_word m l (Some (record (m.word l) { pending = b }))) l
  calm_pending l b = record {
    keeps = record {
      turns = refl;
      byte = λ k. byte k (same_lock k l) refl;
      tail = λ k. tail k (same_lock k l) refl;
      rw = λ i. refl;
      flag = λ k. refl;
      halted = λ p h. h;
      kicked = λ p. refl;
    };
    halted = λ p. refl;
    pending = λ k ne. ap (λ (t : Bool). (if t then record (m.word l) { pending = b } else m.word k).pending) (same_lock-else k l ne);
    links = λ n. refl;
  }
    where
      byte : (k : LockName) (t : Bool) → same_lock k l ≡ t → (if t then record (m.word l) { pending = b } else m.word k).locked ≡ (m.word k).locked
      byte k true e = ap (λ (i : LockName). (m.word i).locked) (sym (same_lock-true k l e))
      byte k false e = refl

      tail : (k : LockName) (t : Bool) → same_lock k l ≡ t → (if t then record (m.word l) { pending = b } else m.word k).tail ≡ (m.word k).tail
      tail k true e = ap (λ (i : LockName). (m.word i).tail) (sym (same_lock-true k l e))
      tail k false e = refl

  pub keeps_halted : (q : ℕ) → KeepsTurns m (put_halted m q true)
  keeps_halted q = record {
    turns = refl;
    byte = λ l. refl;
    tail = λ l. refl;
    rw = λ i. refl;
    flag = λ k. refl;
    halted = λ p h. kept_true (p == q) (m.halted p) h;
    kicked = λ p. refl;
  }
