-- Who has set the pending bit and who may take the free lock, where one waiter goes to another
-- phase.
use Rattle.std.proofs.Common.{◌≡◌, ◌≢◌, Bool, true, false, arith}
use Rattle.lk_law.proofs.Names.{Locked, Free, Waiter, Phase, claims, pends, stakes, watches, Moves}
use Rattle.lk_law.proofs.Names.{PendingAgrees}
use Rattle.lk_law.proofs.common.Cases.{waiter_cases}

module _ {locked : Locked} {pending : Bool} {phase phase' : Waiter
    → Phase} {w : Waiter} {r r' : Phase}
    (ok : PendingAgrees locked pending phase) (moves : Moves phase phase' w r r') where
  -- the bit stays, and who set it; the lock's byte changes only where nobody claims it
  pub pend_keep : (locked' : Locked) → pends r' ≡ pends r → (claims r' ≡ true → locked' ≡ Free)
      → (watches r' ≡ watches r) → (stakes r' ≡ true → stakes r ≡ true)
      → ((u : Waiter) → u ≢ w → claims (phase u) ≡ true → locked' ≡ Free)
      → PendingAgrees locked' pending phase'
  pend_keep locked' same free far near safe =
      record {
        set = λ u p. grind (arith, waiter_cases u w, ok.set u, moves.others u);
        one = λ u v p q.
            grind
            (arith, waiter_cases u w, waiter_cases v w, ok.one u v, moves.others u, moves.others v);
        someone = λ p.
            let s = ok.someone p in (s.0, grind (arith, waiter_cases s.0 w, s.1, moves.others s.0));
        free = λ u p. grind (arith, waiter_cases u w, safe u, moves.others u);
        apart = λ u v p q.
            grind (
              arith,
              waiter_cases u w,
              waiter_cases v w,
              ok.apart u v,
              moves.others u,
              moves.others v,
            );
      }

  -- the bit and the byte stay, and the waiter does not claim the lock
  pub pend_still : pends r' ≡ pends r → watches r' ≡ watches r → claims r' ≡ false
      → PendingAgrees locked pending phase'
  pend_still same far low =
      pend_keep locked same (λ p. absurd (grind arith)) far
      (λ p. let z = stakes_claims r' p in absurd (grind arith)) (λ u n p. ok.free u p)
    where
      stakes_claims : (r : Phase) → stakes r ≡ true → claims r ≡ true
      stakes_claims r p = grind arith

  -- it sets the bit
  pub pend_set : pending ≡ false → pends r' ≡ true → (claims r' ≡ true → locked ≡ Free)
      → stakes r' ≡ false → (watches r' ≡ true → (v : Waiter) → stakes (phase v) ≡ true → ⊥)
      → PendingAgrees locked true phase'
  pend_set clear sets free low far =
      record {
        set = λ u p. grind arith;
        one = λ u v p q.
            grind (
              arith,
              waiter_cases u w,
              waiter_cases v w,
              ok.set u,
              ok.set v,
              moves.others u,
              moves.others v,
            );
        someone = λ p. (w, grind (arith, moves.now));
        free = λ u p. grind (arith, waiter_cases u w, ok.free u, moves.others u);
        apart = λ u v p q.
            grind (
              arith,
              waiter_cases u w,
              waiter_cases v w,
              ok.apart u v,
              far,
              moves.others u,
              moves.others v,
              moves.now,
            );
      }

  -- it clears the bit
  pub pend_clear : (locked' : Locked) → pends r ≡ true → pends r' ≡ false → claims r' ≡ false
      → stakes r' ≡ false → ((u : Waiter) → u ≢ w → claims (phase u) ≡ true → locked' ≡ Free)
      → PendingAgrees locked' false phase'
  pend_clear locked' mine gone low far safe =
      record {
        set = λ u p. grind (arith, waiter_cases u w, ok.one u w, moves.others u);
        one = λ u v p q.
            grind
            (arith, waiter_cases u w, waiter_cases v w, ok.one u v, moves.others u, moves.others v);
        someone = λ p. grind arith;
        free = λ u p. grind (arith, waiter_cases u w, safe u, moves.others u);
        apart = λ u v p q.
            grind (
              arith,
              waiter_cases u w,
              waiter_cases v w,
              ok.apart u v,
              moves.others u,
              moves.others v,
            );
      }

  -- the head sees the lock free, with nobody pending
  pub pend_stake : pending ≡ false → locked ≡ Free → pends r ≡ false → pends r' ≡ false
      → PendingAgrees locked pending phase'
  pend_stake clear zero low low' =
      record {
        set = λ u p. grind (arith, waiter_cases u w, ok.set u, moves.others u);
        one = λ u v p q.
            grind
            (arith, waiter_cases u w, waiter_cases v w, ok.one u v, moves.others u, moves.others v);
        someone = λ p. absurd (grind arith);
        free = λ u p. zero;
        apart = λ u v p q. let m : pends (phase' u) ≡ true = watch (phase' u) p in
            grind (arith, waiter_cases u w, ok.set u, moves.others u, m);
      }
    where
      watch : (r : Phase) → watches r ≡ true → pends r ≡ true
      watch r p = grind arith
