-- How far all frames are from the ends of their turns: at most two rows each, and at rest none.
use Rattle.std.proofs.Common.{◌≡◌, ℕ, zero, suc, ◌+◌, ◌≤◌, ◌*◌, Option, Some, None, Bool, true}
use Rattle.std.proofs.Common.{false, refl, sym, ap, ◌∙◌, arith, length, slice_get, if◌then◌else◌}
use Rattle.std.proofs.Common.{is_some, ◌-◌}
use Rattle.lk_progress.proofs.Names.{RwFields, Fields, NodeName, LockHistory, LockName, Mode, Cna}
use Rattle.lk_progress.proofs.Names.{Native, Pv, Virt, Waiter, Machine, first_place, node_of}
use Rattle.lk_progress.proofs.Names.{IsLawfulSetup, program_at, at_rest, first_frame, Frame, Node}
use Rattle.lk_progress.proofs.Names.{Pc, C1, C2, C3, C10, N1, N2, V1, V2, Wr5, Wr6, Why, Op, Setup}
use Rattle.lk_progress.proofs.Names.{Verb, Lock, RUnlock, Read, Try, TryRead, TryWrite, Unlock}
use Rattle.lk_progress.proofs.Names.{WUnlock, Write, is_last, is_cleared, is_free, not-true}
use Rattle.lk_progress.proofs.Names.{moves_aside, chooses, ShowsAll, world, World, frames, turn_at}
use Rattle.lk_progress.proofs.Names.{turn_of, cpu_turns, turns}
use Rattle.lk_rows.specs.Machine.{frame_at}
use Rattle.lk_progress.proofs.Sums.{six_most, sum_most, total, total_same}
use Rattle.lk_progress.specs.Measure.{turn_if, look_at, seek_at, swing_at, promotion_at, contexts}
use Rattle.lk_progress.specs.{Measure.is_linked, Potential.most_turns}
use Rattle.lk_rows.specs.declared.parts.Why.TheVariants as why

-- a swap is at most two rows from the end of its turn, and a head that looks for its successor three
swap_few : (b : Bool) → ◌≤◌ (if b then 0 else 2) 2
swap_few true = omega arith
swap_few false = omega arith

look_few : (a b c : Bool) → look_at a b c ≤ 3
look_few true b c = omega arith
look_few false true true = omega arith
look_few false true false = omega arith
look_few false false c = omega arith

seek_few : (a b : Bool) → seek_at a b ≤ 3
seek_few true b = omega arith
seek_few false true = omega arith
seek_few false false = omega arith

swing_few : (a b : Bool) → swing_at a b ≤ 3
swing_few true b = omega arith
swing_few false true = omega arith
swing_few false false = omega arith

promotion_few : (y : Why) (n : ℕ) → n ≤ 3 → promotion_at y n ≤ 3
promotion_few why.Append n le = omega arith
promotion_few why.Flush n le = omega arith
promotion_few why.Promotion n le = le

few_choosing : (m : World) (f : Frame) (c : Pc) → turn_at m f c ≤ contexts m + 3
few_choosing m f V2 = let z = swap_few (is_free (m.word f.lock)) in omega (arith, z)
few_choosing m f N2 = let z = swap_few (is_free (m.word f.lock)) in omega (arith, z)
few_choosing m f Wr6 = let z = swap_few (is_cleared (m.rw f.lock.index)) in omega (arith, z)
few_choosing m f C1 = let z = look_few (is_linked m f) (is_last f (m.word f.lock)) (is_some f.second) in omega (arith, z)
few_choosing m f C2 = omega arith
few_choosing m f C3 =
    let z = promotion_few f.why (seek_at (is_linked m f) (is_last f (m.word f.lock)))
    (seek_few (is_linked m f) (is_last f (m.word f.lock))) in
    omega (arith, z)
few_choosing m f C10 = let z = swing_few (is_linked m f) (is_last f (m.word f.lock)) in omega (arith, z)
few_choosing m f _ = omega arith

few_plain : (m : World) (f : Frame) (c : Pc) → chooses c ≡ false → turn_at m f c ≤ 2
few_plain m f V1 b = omega arith
few_plain m f V2 b = swap_few (is_free (m.word f.lock))
few_plain m f N1 b = omega arith
few_plain m f N2 b = swap_few (is_free (m.word f.lock))
few_plain m f Wr5 b = omega arith
few_plain m f Wr6 b = swap_few (is_cleared (m.rw f.lock.index))
few_plain m f C1 b = cc b
few_plain m f C2 b = cc b
few_plain m f C3 b = cc b
few_plain m f C10 b = cc b
few_plain m f _ b = omega arith

module _ (m : Machine) (hs : LockName → LockHistory) (shows : ShowsAll m hs) where
  few_at : (b : Bool) → moves_aside m.setup.mode ≡ b → (u : Waiter) (f : Frame) (c : Pc) → frame_at m u ≡ Some f → f.place ≡ Some c
      → turn_at (world m) f c ≤ (if b then 6 * length m.cpus + 3 else 2)
  few_at true e u f c live at =
      let z = few_choosing (world m) f c in
      let n = shows.whole.cpus in
      omega (arith, z, n)
  few_at false e u f c live at =
      few_plain (world m) f c (not-true (chooses c)
      (λ q. let z = (shows.world.spins.registers u f live).choice.choice c at q in cc (z, e)))

  few_of : (u : Waiter) (o : Option Frame) → frame_at m u ≡ o → turn_of (world m) o ≤ most_turns m.setup.mode (length m.cpus)
  few_of u None e = omega arith
  few_of u (Some f) e = by f.place refl
    where
      by : (o : Option Pc) → f.place ≡ o → turn_if (world m) f o ≤ most_turns m.setup.mode (length m.cpus)
      by None q = omega arith
      by (Some c) q = few_at (moves_aside m.setup.mode) refl u f c e q

  pub turns_few : turns m ≤ length m.cpus * (6 * most_turns m.setup.mode (length m.cpus))
  turns_few =
      sum_most (length m.cpus) (6 * most_turns m.setup.mode (length m.cpus)) (λ p. cpu_turns m p)
      (λ p. six_most (most_turns m.setup.mode (length m.cpus)) (λ c. turn_of (world m) (frame_at m (record { cpu = p; ctx = c })))
      (λ c. few_of (record { cpu = p; ctx = c }) (frame_at m (record { cpu = p; ctx = c })) refl))

-- a turn depends on the words, the nodes, and the number of processors
module _ (a b : World) (words : (l : LockName) → a.word l ≡ b.word l) (rws : (i : ℕ) → a.rw i ≡ b.rw i)
    (nodes : (n : NodeName) → a.node n ≡ b.node n) (sockets : length a.sockets ≡ length b.sockets) where
  linked_same : (f : Frame) → is_linked a f ≡ is_linked b f
  linked_same f = ap (λ (n : Node). is_some n.next) (nodes (node_of f.me))

  last_same : (f : Frame) → is_last f (a.word f.lock) ≡ is_last f (b.word f.lock)
  last_same f = ap (is_last f) (words f.lock)

  same_at : (f : Frame) (c : Pc) → turn_at a f c ≡ turn_at b f c
  same_at f V2 = ap (λ (x : Fields). if is_free x then 0 else 2) (words f.lock)
  same_at f N2 = ap (λ (x : Fields). if is_free x then 0 else 2) (words f.lock)
  same_at f Wr6 = ap (λ (x : RwFields). if is_cleared x then 0 else 2) (rws f.lock.index)
  same_at f C1 =
      ap (λ (t : Bool). look_at t (is_last f (a.word f.lock)) (is_some f.second)) (linked_same f)
      ∙ ap (λ (t : Bool). look_at (is_linked b f) t (is_some f.second)) (last_same f)
  same_at f C2 = ap (λ (n : ℕ). 6 * n - f.k) sockets
  same_at f C3 =
      ap (λ (t : Bool). promotion_at f.why (seek_at t (is_last f (a.word f.lock)))) (linked_same f)
      ∙ ap (λ (t : Bool). promotion_at f.why (seek_at (is_linked b f) t)) (last_same f)
  same_at f C10 =
      ap (λ (t : Bool). swing_at t (is_last f (a.word f.lock))) (linked_same f)
      ∙ ap (λ (t : Bool). swing_at (is_linked b f) t) (last_same f)
  same_at f _ = refl

  pub turn_same : (o : Option Frame) → turn_of a o ≡ turn_of b o
  turn_same None = refl
  turn_same (Some f) = by f.place
    where
      by : (o : Option Pc) → turn_if a f o ≡ turn_if b f o
      by None = refl
      by (Some c) = same_at f c

-- no operation begins in a turn
begins_at : (m : World) (f : Frame) (mode : Mode) (v : Verb) → turn_at m f (first_place mode v) ≡ 0
begins_at m f mode Lock = refl
begins_at m f mode Try = refl
begins_at m f Virt Unlock = refl
begins_at m f Native Unlock = refl
begins_at m f Cna Unlock = refl
begins_at m f Pv Unlock = refl
begins_at m f mode Read = refl
begins_at m f mode Write = refl
begins_at m f mode TryRead = refl
begins_at m f mode TryWrite = refl
begins_at m f mode RUnlock = refl
begins_at m f mode WUnlock = refl

-- at rest nobody is in a turn
rest_none : (n : ℕ) → total n (λ u. 0) ≡ 0
rest_none zero = refl
rest_none (suc n) = let h = rest_none n in omega (arith, h)

module _ (setup : Setup) (ok : IsLawfulSetup setup) where
  abbrev m : Machine
  m = at_rest setup

  first_none : (o : Option Op) → turn_of (world m) (Some (first_frame setup.mode o)) ≡ 0
  first_none None = refl
  first_none (Some v) = begins_at (world m) (first_frame setup.mode (Some v)) setup.mode v.verb

  none_of : (u : Waiter) (o : Option Frame) → frame_at m u ≡ o → turn_of (world m) o ≡ 0
  none_of u None e = refl
  none_of u (Some f) e =
      ap (λ (g : Frame). turn_of (world m) (Some g)) (sym (frames setup ok u f e).1)
      ∙ first_none (slice_get (program_at setup u.cpu 0) 0)

  pub rest_turns : turns (at_rest setup) ≡ 0
  rest_turns =
      total_same (length m.cpus) (λ u. 0) (λ u. turn_of (world m) (frame_at m u)) (λ u. none_of u (frame_at m u) refl)
      ∙ rest_none (length m.cpus)
