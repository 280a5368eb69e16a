-- Who holds the lock, where one waiter goes to another phase.
use Rattle.std.proofs.Common.{◌≡◌, ◌≢◌, Option, Some, None, Bool, true, false, arith}
use Rattle.lk_law.proofs.Names.{Locked, Free, Held, Waiter, Phase, has_lock, seeks, Idle, Releases}
use Rattle.lk_law.proofs.Names.{HolderAgrees, Moves}
use Rattle.lk_law.proofs.common.Cases.{waiter_cases}

module _ {locked : Locked} {phase phase' : Waiter → Phase} {held held' : Waiter → Bool}
    {holder : Option Waiter} {w : Waiter} {r r' : Phase} {h h' : Bool}
    (ok : HolderAgrees locked phase held holder) (moves : Moves phase phase' w r r')
    (holds : Moves held held' w h h') where
  -- the acting waiter has the lock as before
  pub hold_keep : has_lock r' h' ≡ has_lock r h → (seeks r' ≡ true → h' ≡ false)
      → (r' ≡ Releases → h' ≡ true) → HolderAgrees locked phase' held' holder
  hold_keep same out in_hand =
      record {
        free = ok.free;
        taken = ok.taken;
        has = λ u p. grind (arith, waiter_cases u w, ok.has u, moves.others u, holds.others u);
        had = λ u p. grind (arith, waiter_cases u w, ok.had u, moves.others u, holds.others u);
        without =
            λ u p. grind (arith, waiter_cases u w, ok.without u, moves.others u, holds.others u);
        releases =
            λ u p. grind (arith, waiter_cases u w, ok.releases u, moves.others u, holds.others u);
      }

  -- it seeks the free lock
  pub hold_take : locked ≡ Free → has_lock r' h' ≡ true → (seeks r' ≡ true → h' ≡ false)
      → (r' ≡ Releases → h' ≡ true) → HolderAgrees Held phase' held' (Some w)
  hold_take zero gets out in_hand =
      let none = ok.free zero in
      record {
        free = λ p. grind arith;
        taken = λ p. grind arith;
        has = λ u p. grind (arith, waiter_cases u w, ok.has u, moves.others u, holds.others u);
        had = λ u p. grind (arith, waiter_cases u w, ok.had u, moves.others u, holds.others u);
        without =
            λ u p. grind (arith, waiter_cases u w, ok.without u, moves.others u, holds.others u);
        releases =
            λ u p. grind (arith, waiter_cases u w, ok.releases u, moves.others u, holds.others u);
      }

  -- it releases the lock
  pub hold_drop : has_lock r h ≡ true → r' ≡ Idle → h' ≡ false → HolderAgrees Free phase' held' None
  hold_drop had idle none =
      let mine = ok.has w in
      record {
        free = λ p. grind arith;
        taken = λ p. grind arith;
        has = λ u p. grind (arith, waiter_cases u w, ok.has u, moves.others u, holds.others u);
        had = λ u p. grind arith;
        without =
            λ u p. grind (arith, waiter_cases u w, ok.without u, moves.others u, holds.others u);
        releases =
            λ u p. grind (arith, waiter_cases u w, ok.releases u, moves.others u, holds.others u);
      }

  -- it seeks the free lock, and leaves another byte than 0 or 1
  pub hold_take_as : (locked' : Locked) → locked' ≢ Free → locked ≡ Free → has_lock r' h' ≡ true
      → (seeks r' ≡ true → h' ≡ false) → (r' ≡ Releases → h' ≡ true)
      → HolderAgrees locked' phase' held' (Some w)
  hold_take_as locked' full zero gets out in_hand =
      let none = ok.free zero in
      record {
        free = λ p. absurd (full p);
        taken = λ p. grind arith;
        has = λ u p. grind (arith, waiter_cases u w, ok.has u, moves.others u, holds.others u);
        had = λ u p. grind (arith, waiter_cases u w, ok.had u, moves.others u, holds.others u);
        without =
            λ u p. grind (arith, waiter_cases u w, ok.without u, moves.others u, holds.others u);
        releases =
            λ u p. grind (arith, waiter_cases u w, ok.releases u, moves.others u, holds.others u);
      }

  -- the byte changes while somebody has the lock
  pub hold_turn : (locked' : Locked) → locked ≢ Free → locked' ≢ Free
      → has_lock r' h' ≡ has_lock r h → (seeks r' ≡ true → h' ≡ false) → (r' ≡ Releases → h' ≡ true)
      → HolderAgrees locked' phase' held' holder
  hold_turn locked' full full' same out in_hand =
      record {
        free = λ p. absurd (full' p);
        taken = λ p. absurd (full (ok.taken p));
        has = λ u p. grind (arith, waiter_cases u w, ok.has u, moves.others u, holds.others u);
        had = λ u p. grind (arith, waiter_cases u w, ok.had u, moves.others u, holds.others u);
        without =
            λ u p. grind (arith, waiter_cases u w, ok.without u, moves.others u, holds.others u);
        releases =
            λ u p. grind (arith, waiter_cases u w, ok.releases u, moves.others u, holds.others u);
      }

  -- it releases the lock, and has more to do
  pub hold_drop_as : has_lock r h ≡ true → has_lock r' false ≡ false → r' ≢ Releases → h' ≡ false
      → HolderAgrees Free phase' held' None
  hold_drop_as had low not_frees none =
      let mine = ok.has w in
      record {
        free = λ p. grind arith;
        taken = λ p. grind arith;
        has = λ u p. grind (arith, waiter_cases u w, ok.has u, moves.others u, holds.others u);
        had = λ u p. grind arith;
        without =
            λ u p. grind (arith, waiter_cases u w, ok.without u, moves.others u, holds.others u);
        releases =
            λ u p. grind (arith, waiter_cases u w, ok.releases u, moves.others u, holds.others u);
      }
