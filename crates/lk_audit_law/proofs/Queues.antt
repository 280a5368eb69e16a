-- Who stands in a queue has arrived, and there are no more of them than events.
use Rattle.std.proofs.Common.{Bool, true, false, ◌≡◌, ◌≤◌, ◌+◌, ◌++◌, ℕ, zero, suc, List, [], ◌∷◌, Some, length, take, drop, refl, sym, ap, subst, arith, slice_get, length-append, length-drop, if◌then◌else◌}
use Rattle.std.proofs.lemmas.List.{length-take}
use Rattle.std.specs.Prelude.{⊤}
use Rattle.lk_names.specs.History.{LockHistory, no_history, changed, taken, told, told_all, history_of, lock_of, is_on, passed, rejoined}
use Rattle.lk_names.specs.declared.names.Waiter.{Waiter}
use Rattle.lk_names.specs.declared.names.LockName.{LockName}
use Rattle.lk_names.specs.declared.events.Event.{Event}
use Rattle.lk_names.specs.declared.events.How.{How}
use Rattle.lk_names.specs.declared.events.How.TheVariants as how
use Rattle.lk_names.specs.declared.events.What.{What}
use Rattle.lk_names.specs.declared.events.What.TheVariants as what

module _ (P : Waiter → Type 0) where
  abbrev pub AllOf : List Waiter → Type 0
  AllOf [] = ⊤
  AllOf (w ∷ ws) = P w × AllOf ws

  all_append : (us ws : List Waiter) → AllOf us → AllOf ws → AllOf (us ++ ws)
  all_append [] ws a b = b
  all_append (u ∷ us) ws a b = (a.0, all_append us ws a.1 b)

  all_drop : (n : ℕ) (ws : List Waiter) → AllOf ws → AllOf (drop n ws)
  all_drop zero ws a = a
  all_drop (suc n) [] a = tt
  all_drop (suc n) (w ∷ ws) a = all_drop n ws a.1

  all_take : (n : ℕ) (ws : List Waiter) → AllOf ws → AllOf (take n ws)
  all_take zero ws a = tt
  all_take (suc n) [] a = tt
  all_take (suc n) (w ∷ ws) a = (a.0, all_take n ws a.1)

  pub all_at : (n : ℕ) (ws : List Waiter) (w : Waiter) → AllOf ws → slice_get ws n ≡ Some w → P w
  all_at n [] w a is = cc
  all_at zero (u ∷ ws) w a is = (let same : u ≡ w = cc in subst P same a.0)
  all_at (suc n) (u ∷ ws) w a is = all_at n ws w a.1 is

  -- those in the queues have it, and there are at most so many
  pub record Queues (h : LockHistory) (n : ℕ) : Type 0 where
    pub main : AllOf h.main
    pub second : AllOf h.second
    pub few : length h.main + length h.second ≤ n

  same_queues : (h k : LockHistory) (n : ℕ) → k.main ≡ h.main → k.second ≡ h.second → Queues h n → Queues k (n + 1)
  same_queues h k n main second q =
      let few = q.few in
      record {
        main = subst AllOf (sym main) q.main;
        second = subst AllOf (sym second) q.second;
        few = omega (arith, few, ap length main, ap length second);
      }

  front_leaves : (h k : LockHistory) (n : ℕ) → k.main ≡ drop 1 h.main → k.second ≡ h.second → Queues h n → Queues k (n + 1)
  front_leaves h k n main second q =
      let few = q.few in
      record {
        main = subst AllOf (sym main) (all_drop 1 h.main q.main);
        second = subst AllOf (sym second) q.second;
        few = omega (arith, few, ap length main, ap length second, length-drop 1 h.main);
      }

  rejoin : (h : LockHistory) (n : ℕ) → Queues h n → Queues (rejoined h) (n + 1)
  rejoin h n q =
      let few = q.few in
      record {
        main = all_append (take 1 h.main) (h.second ++ drop 1 h.main) (all_take 1 h.main q.main)
            (all_append h.second (drop 1 h.main) q.second (all_drop 1 h.main q.main));
        second = tt;
        few = omega (arith, few, length-append (take 1 h.main) (h.second ++ drop 1 h.main), length-append h.second (drop 1 h.main), length-take 1 h.main, length-drop 1 h.main);
      }

  pass : (h : LockHistory) (n k : ℕ) → Queues h n → Queues (passed h k) (n + 1)
  pass h n k q =
      let few = q.few in
      record {
        main = all_drop (suc k) h.main q.main;
        second = all_append h.second (take k (drop 1 h.main)) q.second (all_take k (drop 1 h.main) (all_drop 1 h.main q.main));
        few = omega (arith, few, length-drop (suc k) h.main, length-append h.second (take k (drop 1 h.main)), length-take k (drop 1 h.main), length-drop 1 h.main);
      }

  take_queues : (h : LockHistory) (w : Waiter) (l : LockName) (t : How) (n : ℕ) → Queues h n → Queues (changed h w (what.Take l t)) (n + 1)
  take_queues h w l how.Sole n q = front_leaves h (taken h w how.Sole) n refl refl q
  take_queues h w l how.Fast n q = same_queues h (taken h w how.Fast) n refl refl q
  take_queues h w l how.Try n q = same_queues h (taken h w how.Try) n refl refl q
  take_queues h w l how.Pending n q = same_queues h (taken h w how.Pending) n refl refl q
  take_queues h w l how.Virt n q = same_queues h (taken h w how.Virt) n refl refl q
  take_queues h w l how.Retry n q = same_queues h (taken h w how.Retry) n refl refl q
  take_queues h w l how.NoNode n q = same_queues h (taken h w how.NoNode) n refl refl q
  take_queues h w l how.Steal n q = same_queues h (taken h w how.Steal) n refl refl q
  take_queues h w l how.Head n q = same_queues h (taken h w how.Head) n refl refl q

  changed_queues : (h : LockHistory) (w : Waiter) (x : What) (n : ℕ) → P w → Queues h n → Queues (changed h w x) (n + 1)
  changed_queues h w (what.Take l t) n p q = take_queues h w l t n q
  changed_queues h w (what.Arrive l) n p q =
      let few = q.few in
      record {
        main = all_append h.main (w ∷ []) q.main (p, tt);
        second = q.second;
        few = omega (arith, few, length-append h.main (w ∷ []));
      }
  changed_queues h w (what.Pass l to k) n p q = pass h n k q
  changed_queues h w (what.Flush l) n p q = rejoin h n q
  changed_queues h w (what.Promote l) n p q = rejoin h n q
  changed_queues h w (what.Leave l) n p q = front_leaves h (changed h w (what.Leave l)) n refl refl q
  changed_queues h w (what.Miss l) n p q = same_queues h h n refl refl q
  changed_queues h w (what.Release l owing) n p q = same_queues h (changed h w (what.Release l owing)) n refl refl q
  changed_queues h w (what.Kick c) n p q = same_queues h h n refl refl q
  changed_queues h w (what.Halt l) n p q = same_queues h h n refl refl q
  changed_queues h w (what.Wake l) n p q = same_queues h h n refl refl q
  changed_queues h w what.Int n p q = same_queues h h n refl refl q
  changed_queues h w what.Nudge n p q = same_queues h h n refl refl q
  changed_queues h w (what.RTake l t) n p q = same_queues h (changed h w (what.RTake l t)) n refl refl q
  changed_queues h w (what.RRelease l) n p q = same_queues h (changed h w (what.RRelease l)) n refl refl q
  changed_queues h w (what.WTake l t) n p q = same_queues h (changed h w (what.WTake l t)) n refl refl q
  changed_queues h w (what.WRelease l) n p q = same_queues h (changed h w (what.WRelease l)) n refl refl q

  told_queues : (l : LockName) (h : LockHistory) (e : Event) (n : ℕ) → P e.by → Queues h n → Queues (told l h e) (n + 1)
  told_queues l h e n p q = by_lock (is_on l (lock_of e.what))
    where
      by_lock : (b : Bool) → Queues (if b then changed h e.by e.what else h) (n + 1)
      by_lock true = changed_queues h e.by e.what n p q
      by_lock false = same_queues h h n refl refl q

  -- each event is by one that has it
  abbrev pub AllBy : List Event → Type 0
  AllBy [] = ⊤
  AllBy (e ∷ es) = P e.by × AllBy es

  pub by-push : (es : List Event) (e : Event) → AllBy es → P e.by → AllBy (es ++ e ∷ [])
  by-push [] e a p = (p, tt)
  by-push (x ∷ es) e a p = (a.0, by-push es e a.1 p)

  told_all_queues : (l : LockName) (es : List Event) (h : LockHistory) (n : ℕ) → AllBy es → Queues h n
      → Queues (told_all l h es) (n + length es)
  told_all_queues l [] h n a q = subst (Queues h) (omega arith) q
  told_all_queues l (e ∷ es) h n a q =
      subst (Queues (told_all l (told l h e) es)) (omega arith)
      (told_all_queues l es (told l h e) (n + 1) a.1 (told_queues l h e n a.0 q))

  pub history_queues : (l : LockName) (es : List Event) → AllBy es → Queues (history_of l es) (length es)
  history_queues l es a =
      subst (Queues (history_of l es)) (omega arith)
      (told_all_queues l es no_history 0 a (record { main = tt; second = tt; few = omega arith }))
