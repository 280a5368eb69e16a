-- On what the turn of a frame depends where processors halt, and how long it is at most.
use Rattle.std.proofs.Common.{◌≡◌, ◌⊎◌, ℕ, ◌≤◌, ◌+◌, ◌*◌, inl, inr, Option, Some, None, Bool, true}
use Rattle.std.proofs.Common.{false, refl, sym, ap, ◌∙◌, subst, arith, length, if◌then◌else◌}
use Rattle.std.proofs.Common.{is_some}
use Rattle.lk_progress.proofs.Names.{RwFields, Locked, Free, Held, Slow, NodeName, LockName, Waiter}
use Rattle.lk_progress.proofs.Names.{stands_halting, Machine, kicked_at, node_of, Flag, Frame, Pc}
use Rattle.lk_progress.proofs.Names.{E2, E3, E4, E5, E10, E11, E12, H1, H2, W1, W2, W3, W4, W5, W6}
use Rattle.lk_progress.proofs.Names.{W7, Wr5, Wr6, is_set, is_cleared, is_unlocked, world, World}
use Rattle.lk_progress.proofs.Names.{KeepsTurns, halting_turn_at, halting_turn_if, halting_turn_of}
use Rattle.lk_progress.proofs.Names.{head_turn, SpinsAreFew, halting_debt, halting_turns}
use Rattle.lk_progress.proofs.Names.{kick_turns}
use Rattle.lk_rows.specs.Machine.{frame_at}
use Rattle.lk_progress.proofs.Sums.{six_most, sum_most}
use Rattle.lk_progress.specs.HaltingMeasure.{unlike, is_flagged, longest_turn}
use Rattle.lk_progress.specs.HaltingPrice.{six_turns, halting_cpu_turns}

-- one store after another
pub keeps_then : (a b c : World) → KeepsTurns a b → KeepsTurns b c → KeepsTurns a c
keeps_then a b c s t = record {
  turns = t.turns ∙ s.turns;
  byte = λ l. t.byte l ∙ s.byte l;
  tail = λ l. t.tail l ∙ s.tail l;
  rw = λ i. t.rw i ∙ s.rw i;
  flag = λ k. t.flag k ∙ s.flag k;
  halted = λ p h. t.halted p (s.halted p h);
  kicked = λ p. t.kicked p ∙ s.kicked p;
}

-- which rows halt
halting_or : (c : Pc) → (stands_halting (Some c) ≡ false) ⊎ (c ≡ W6) ⊎ (c ≡ E12)
halting_or W6 = inr (inl refl)
halting_or E12 = inr (inr refl)
halting_or _ = inl refl

-- the turn of a frame depends on the spin bound, bytes, tails, flags and reader-writer locks, and on whether its own
-- processor has halted
module _ (a b : World) (turns : b.turns ≡ a.turns) (byte : (l : LockName) → (b.word l).locked ≡ (a.word l).locked)
    (tail : (l : LockName) → (b.word l).tail ≡ (a.word l).tail) (rws : (i : ℕ) → b.rw i ≡ a.rw i)
    (flag : (k : NodeName) → (b.node k).flag ≡ (a.node k).flag) (u : Waiter) where
  -- but for one that halts
  pub same_awake : (f : Frame) (c : Pc) → stands_halting (Some c) ≡ false → halting_turn_at b u f c ≡ halting_turn_at a u f c
  same_awake f H1 h = ap (λ (t : Option NodeName). 1 + unlike f.tailed (is_some t)) (tail f.lock)
  same_awake f H2 h = ap (λ (t : Locked). if is_unlocked t then 0 else 3) (byte f.lock)
  same_awake f W1 h = ap (λ (t : Flag). if is_set t then 1 else 2 * f.left + 8) (flag (node_of f.me))
  same_awake f W2 h = ap (λ (t : Flag). if is_set t then 5 else 2 * f.left + 7) (flag (node_of f.me))
  same_awake f W3 h = ap (λ (t : Flag). if is_set t then 4 else 6) (flag (node_of f.me))
  same_awake f W4 h = ap (λ (t : Flag). if is_set t then 3 else 5) (flag (node_of f.me))
  same_awake f W5 h = ap (λ (t : Flag). if is_set t then 3 else 4) (flag (node_of f.me))
  same_awake f W6 h = cc h
  same_awake f W7 h =
      ap (λ (t : Flag). if is_set t then 2 else 2 * b.turns + 9) (flag (node_of f.me))
      ∙ ap (λ (t : ℕ). if is_flagged a f then 2 else 2 * t + 9) turns
  same_awake f E2 h =
      ap (λ (t : Locked). head_turn f.hashed t 3 (b.turns + 6)) (byte f.lock)
      ∙ ap (λ (t : ℕ). head_turn f.hashed (a.word f.lock).locked 3 (t + 6)) turns
  same_awake f E3 h =
      ap (λ (t : Locked). head_turn f.hashed t 2 (b.turns + 5)) (byte f.lock)
      ∙ ap (λ (t : ℕ). head_turn f.hashed (a.word f.lock).locked 2 (t + 5)) turns
  same_awake f E4 h = ap (λ (t : Locked). head_turn f.hashed t 1 (f.left + 4)) (byte f.lock)
  same_awake f E5 h = ap (λ (t : Locked). head_turn f.hashed t 6 4) (byte f.lock)
  same_awake f E10 h = ap (λ (t : Locked). head_turn f.hashed t 5 3) (byte f.lock)
  same_awake f E11 h = ap (λ (t : Locked). head_turn f.hashed t 4 2) (byte f.lock)
  same_awake f E12 h = cc h
  same_awake f Wr6 h = ap (λ (t : RwFields). if is_cleared t then 0 else 2) (rws f.lock.index)
  same_awake f _ h = refl

  -- where the processor has halted as it had, the turn is as long as it was
  pub turn_alike : b.halted u.cpu ≡ a.halted u.cpu → (o : Option Frame) → halting_turn_of b u o ≡ halting_turn_of a u o
  turn_alike halted None = refl
  turn_alike halted (Some f) = by f.place
    where
      at : (c : Pc) → (stands_halting (Some c) ≡ false) ⊎ (c ≡ W6) ⊎ (c ≡ E12) → halting_turn_at b u f c ≡ halting_turn_at a u f c
      at c (inl h) = same_awake f c h
      at c (inr (inl e)) =
          subst (λ (d : Pc). halting_turn_at b u f d ≡ halting_turn_at a u f d) (sym e) (ap (λ (t : Bool). if t then 0 else 2) halted)
      at c (inr (inr e)) =
          subst (λ (d : Pc). halting_turn_at b u f d ≡ halting_turn_at a u f d) (sym e) (ap (λ (t : Bool). if t then 0 else 1) halted)

      by : (o : Option Pc) → halting_turn_if b u f o ≡ halting_turn_if a u f o
      by None = refl
      by (Some c) = at c (halting_or c)

module _ (a b : World) (keeps : KeepsTurns a b) (u : Waiter) where
  halted_less : (n : ℕ) → (if b.halted u.cpu then 0 else n) ≤ (if a.halted u.cpu then 0 else n)
  halted_less n = by (a.halted u.cpu) (b.halted u.cpu) (keeps.halted u.cpu)
    where
      by : (x y : Bool) → (x ≡ true → y ≡ true) → ◌≤◌ (if y then 0 else n) (if x then 0 else n)
      by true true h = omega arith
      by true false h = absurd (let z = h refl in cc z)
      by false true h = omega arith
      by false false h = omega arith

  awake_most : (f : Frame) (c : Pc) → stands_halting (Some c) ≡ false → halting_turn_at b u f c ≤ halting_turn_at a u f c
  awake_most f c h =
      let e = same_awake a b keeps.turns keeps.byte keeps.tail keeps.rw keeps.flag u f c h in
      same_most (halting_turn_at b u f c) (halting_turn_at a u f c) e
    where
      same_most : (x y : ℕ) → x ≡ y → x ≤ y
      same_most x y e = omega (arith, e)

  most_at : (f : Frame) (c : Pc) → (stands_halting (Some c) ≡ false) ⊎ (c ≡ W6) ⊎ (c ≡ E12)
      → halting_turn_at b u f c ≤ halting_turn_at a u f c
  most_at f c (inl h) = awake_most f c h
  most_at f c (inr (inl e)) = subst (λ (d : Pc). halting_turn_at b u f d ≤ halting_turn_at a u f d) (sym e) (halted_less 2)
  most_at f c (inr (inr e)) = subst (λ (d : Pc). halting_turn_at b u f d ≤ halting_turn_at a u f d) (sym e) (halted_less 1)

  -- no turn is longer than it was
  pub turn_most : (o : Option Frame) → halting_turn_of b u o ≤ halting_turn_of a u o
  turn_most None = omega arith
  turn_most (Some f) = by f.place
    where
      by : (o : Option Pc) → halting_turn_if b u f o ≤ halting_turn_if a u f o
      by None = omega arith
      by (Some c) = most_at f c (halting_or c)

  -- where as many processors have halted, each is as long as it was
  pub turn_kept : ((p : ℕ) → b.halted p ≡ a.halted p) → (o : Option Frame) → halting_turn_of b u o ≡ halting_turn_of a u o
  turn_kept halted o = turn_alike a b keeps.turns keeps.byte keeps.tail keeps.rw keeps.flag u (halted u.cpu) o

if_most : (b : Bool) (x y n : ℕ) → x ≤ n → y ≤ n → (if b then x else y) ≤ n
if_most true x y n h k = h
if_most false x y n h k = k

head_most : (h : Bool) (b : Locked) (x y n : ℕ) → x ≤ n → y ≤ n → head_turn h b x y ≤ n
head_most true Held x y n p q = omega arith
head_most true Free x y n p q = p
head_most true Slow x y n p q = q
head_most false Held x y n p q = q
head_most false Free x y n p q = q
head_most false Slow x y n p q = q

unlike_most : (a b : Bool) → 1 + unlike a b ≤ 2
unlike_most true true = omega arith
unlike_most false false = omega arith
unlike_most true false = omega arith
unlike_most false true = omega arith

-- no turn is longer than the longest
turn_few : (m : World) (u : Waiter) (f : Frame) → f.left ≤ m.turns → (c : Pc) → halting_turn_at m u f c ≤ longest_turn m.turns
turn_few m u f few H1 = let z = unlike_most f.tailed (is_some (m.word f.lock).tail) in omega (arith, z)
turn_few m u f few H2 = if_most (is_unlocked (m.word f.lock).locked) 0 3 (2 * m.turns + 9) (omega arith) (omega arith)
turn_few m u f few W1 = if_most (is_flagged m f) 1 (2 * f.left + 8) (2 * m.turns + 9) (omega arith) (omega (arith, few))
turn_few m u f few W2 = if_most (is_flagged m f) 5 (2 * f.left + 7) (2 * m.turns + 9) (omega arith) (omega (arith, few))
turn_few m u f few W3 = if_most (is_flagged m f) 4 6 (2 * m.turns + 9) (omega arith) (omega arith)
turn_few m u f few W4 = if_most (is_flagged m f) 3 5 (2 * m.turns + 9) (omega arith) (omega arith)
turn_few m u f few W5 = if_most (is_flagged m f) 3 4 (2 * m.turns + 9) (omega arith) (omega arith)
turn_few m u f few W6 = if_most (m.halted u.cpu) 0 2 (2 * m.turns + 9) (omega arith) (omega arith)
turn_few m u f few W7 = if_most (is_flagged m f) 2 (2 * m.turns + 9) (2 * m.turns + 9) (omega arith) (omega arith)
turn_few m u f few E2 = head_most f.hashed (m.word f.lock).locked 3 (m.turns + 6) (2 * m.turns + 9) (omega arith) (omega arith)
turn_few m u f few E3 = head_most f.hashed (m.word f.lock).locked 2 (m.turns + 5) (2 * m.turns + 9) (omega arith) (omega arith)
turn_few m u f few E4 = head_most f.hashed (m.word f.lock).locked 1 (f.left + 4) (2 * m.turns + 9) (omega arith) (omega (arith, few))
turn_few m u f few E5 = head_most f.hashed (m.word f.lock).locked 6 4 (2 * m.turns + 9) (omega arith) (omega arith)
turn_few m u f few E10 = head_most f.hashed (m.word f.lock).locked 5 3 (2 * m.turns + 9) (omega arith) (omega arith)
turn_few m u f few E11 = head_most f.hashed (m.word f.lock).locked 4 2 (2 * m.turns + 9) (omega arith) (omega arith)
turn_few m u f few E12 = if_most (m.halted u.cpu) 0 1 (2 * m.turns + 9) (omega arith) (omega arith)
turn_few m u f few Wr5 = omega arith
turn_few m u f few Wr6 = if_most (is_cleared (m.rw f.lock.index)) 0 2 (2 * m.turns + 9) (omega arith) (omega arith)
turn_few m u f few _ = omega arith

module _ (m : Machine) (few : SpinsAreFew m) where
  few_of : (u : Waiter) (o : Option Frame) → frame_at m u ≡ o → halting_turn_of (world m) u o ≤ longest_turn m.setup.spins
  few_of u None e = omega arith
  few_of u (Some f) e = by f.place
    where
      by : (o : Option Pc) → halting_turn_if (world m) u f o ≤ longest_turn m.setup.spins
      by None = omega arith
      by (Some c) = turn_few (world m) u f (few u f e) c

  -- the turns of a processor
  pub cpu_turns_few : (p : ℕ) → halting_cpu_turns m p ≤ six_turns m.setup.spins
  cpu_turns_few p =
      six_most (longest_turn m.setup.spins)
      (λ c. halting_turn_of (world m) (record { cpu = p; ctx = c }) (frame_at m (record { cpu = p; ctx = c })))
      (λ c. few_of (record { cpu = p; ctx = c }) (frame_at m (record { cpu = p; ctx = c })) refl)

  kick_few : (b : Bool) → kick_turns m.setup.spins b ≤ six_turns m.setup.spins + 1
  kick_few true = omega arith
  kick_few false = omega arith

  -- all turns, and those that kicks will renew
  pub halting_turns_few : halting_turns m ≤ length m.cpus * (2 * six_turns m.setup.spins + 1)
  halting_turns_few =
      sum_most (length m.cpus) (2 * six_turns m.setup.spins + 1) (λ p. halting_debt m p)
      (λ p. let a = cpu_turns_few p in let b = kick_few (kicked_at m p) in omega (arith, a, b))
