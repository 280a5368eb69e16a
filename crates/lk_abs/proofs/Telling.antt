-- What an event that breaks no clause leaves of the record of a lock, where nobody stands aside.
use Rattle.std.proofs.Common.{◌≡◌, ◌<◌, ◌≤◌, ℕ, get_or, arith, suc, List, [], ◌∷◌, ◌++◌, false, Some, None, drop, length, refl, sym, ap, ◌∙◌}
use Rattle.std.specs.List.{slice_get, All}
use Rattle.std.proofs.lemmas.Bool.{or_parts, false_from_ne_true}
use Rattle.std.proofs.lemmas.Option.{slice_get_within}
use Rattle.lk_names.specs.ListOf.{ListOf}
use Rattle.lk_names.specs.History.{LockHistory, taken, with_holder, passed, changed}
use Rattle.lk_names.specs.declared.holder.Manner.TheVariants.{Spins}
use Rattle.lk_names.specs.Lawful.{Rules, Holds}
use Rattle.lk_abs.specs.Breaches.{first_breach, holds, is_queued, not_front, wrong_head}
use Rattle.lk_names.specs.Lists.{history_of_lists, lists_passed}
use Rattle.lk_abs.specs.Judge.{KeptLock}
use Rattle.lk_names.specs.declared.holder.Holder.{Holder}
use Rattle.lk_names.specs.declared.names.Waiter.{Waiter}
use Rattle.lk_names.specs.declared.names.LockName.{LockName}
use Rattle.lk_names.specs.declared.events.How.{How}
use Rattle.lk_names.specs.declared.events.RwHow.{RwHow}
use Rattle.lk_names.specs.declared.events.How.TheVariants.{Sole}
use Rattle.lk_names.specs.declared.events.Lists.{Lists}
use Rattle.lk_names.specs.declared.events.What.{What}
use Rattle.lk_names.specs.declared.events.What.TheVariants.{Take, Arrive, Pass, Leave, RTake, WTake}
use Rattle.lk_abs.proofs.Clauses.{none-false, clear_from_none, none-over, counts-passed}
use Rattle.lk_abs.proofs.Table.{true-if, owned_if_clear, front_if_clear}
use Rattle.lk_abs.proofs.Sameness.{holds-true, is_waiter-true}

-- who does not hold the lock, by its test
apart_from_own : (h : LockHistory) (w : Waiter) → (¬ Holds h w) → holds h w ≡ false
apart_from_own h w apart = false_from_ne_true _ (λ e. apart (holds-true h w e))

pub same_kept : (g h : LockHistory) (m n : ℕ) → g ≡ h → m ≡ n → ◌≡◌ {A = KeptLock} (record { history = g; room = m }) (record { history = h; room = n })
same_kept g h m n p q = λ i. record { history = p i; room = q i }

front_within : (h : LockHistory) (w : Waiter) → slice_get h.main 0 ≡ Some w → 0 < length h.main
front_within h w front = slice_get_within h.main 0 w front

module _ (rules : Rules) (holders : List Holder) (lists : Lists) (w : Waiter) (l : LockName) where
  pub sole-front : first_breach rules (history_of_lists holders lists) w (Take l Sole) ≡ None → 0 < length lists.main.items
  sole-front none =
      let h = history_of_lists holders lists in
      front_within h w (front_if_clear h w l (clear_from_none rules h w (Take l Sole) none).head)

  pub pass-front : (to : Waiter) (k : ℕ) → first_breach rules (history_of_lists holders lists) w (Pass l to k) ≡ None → 0 < length lists.main.items
  pass-front to k none =
      let h = history_of_lists holders lists in
      front_within h w (front_if_clear h w l (clear_from_none rules h w (Pass l to k) none).head)

  pub leave-front : first_breach rules (history_of_lists holders lists) w (Leave l) ≡ None → 0 < length lists.main.items
  leave-front none =
      let h = history_of_lists holders lists in
      front_within h w (front_if_clear h w l (clear_from_none rules h w (Leave l) none).head)

  pub new_from_take : (how : How) → first_breach rules (history_of_lists holders lists) w (Take l how) ≡ None → holds (history_of_lists holders lists) w ≡ false
  new_from_take how none =
      let h = history_of_lists holders lists in
      apart_from_own h w (owned_if_clear h w (Take l how) (clear_from_none rules h w (Take l how) none).beside (clear_from_none rules h w (Take l how) none).holder)

  pub new_from_rtake : (how : RwHow) → first_breach rules (history_of_lists holders lists) w (RTake l how) ≡ None → holds (history_of_lists holders lists) w ≡ false
  new_from_rtake how none =
      let h = history_of_lists holders lists in
      apart_from_own h w (owned_if_clear h w (RTake l how) (clear_from_none rules h w (RTake l how) none).beside (clear_from_none rules h w (RTake l how) none).holder)

  pub new_from_wtake : (how : RwHow) → first_breach rules (history_of_lists holders lists) w (WTake l how) ≡ None → holds (history_of_lists holders lists) w ≡ false
  new_from_wtake how none =
      let h = history_of_lists holders lists in
      apart_from_own h w (owned_if_clear h w (WTake l how) (clear_from_none rules h w (WTake l how) none).beside (clear_from_none rules h w (WTake l how) none).holder)

  pub new_from_arrive : first_breach rules (history_of_lists holders lists) w (Arrive l) ≡ None → is_queued (history_of_lists holders lists) w ≡ false
  new_from_arrive none =
      (or_parts _ _ (none-false _ _ (clear_from_none rules (history_of_lists holders lists) w (Arrive l) none).once)).1

taken-apart : (h : LockHistory) (w : Waiter) (how : How) → (how ≡ Sole → ⊥) → taken h w how ≡ with_holder h w Spins
taken-apart h w Sole apart = absurd (apart refl)
taken-apart h w _ apart = refl

module _ (rules : Rules) (holders : List Holder) (lists : Lists) (w : Waiter) (l : LockName) where
  -- the queue after its front left
  popped : (rest : ListOf Waiter) (front : Waiter) → lists.main.items ≡ front ∷ rest.items → rest.items ≡ drop 1 lists.main.items
  popped rest front items = ap (drop 1) (sym items)

  pub told-sole : (rest : ListOf Waiter) (front : Waiter) → lists.main.items ≡ front ∷ rest.items → history_of_lists (holders ++ record { waiter = w; manner = Spins } ∷ []) (record lists { main = rest }) ≡ changed (history_of_lists holders lists) w (Take l Sole)
  told-sole rest front items =
      λ i. record { holders = holders ++ record { waiter = w; manner = Spins } ∷ []; main = popped rest front items i; second = lists.second.items; passes = lists.passes.items }

  pub told-take : (how : How) → (how ≡ Sole → ⊥) → history_of_lists (holders ++ record { waiter = w; manner = Spins } ∷ []) lists ≡ changed (history_of_lists holders lists) w (Take l how)
  told-take how apart = sym (taken-apart (history_of_lists holders lists) w how apart)

  pub told-leave : (rest : ListOf Waiter) (front : Waiter) → lists.main.items ≡ front ∷ rest.items → history_of_lists holders (record lists { main = rest }) ≡ changed (history_of_lists holders lists) w (Leave l)
  told-leave rest front items =
      λ i. record { holders = holders; main = popped rest front items i; second = lists.second.items; passes = lists.passes.items }

  pub next_from_pass : (to : Waiter) (k : ℕ) → first_breach rules (history_of_lists holders lists) w (Pass l to k) ≡ None → slice_get lists.main.items (suc k) ≡ Some to
  next_from_pass to k none =
      let h = history_of_lists holders lists in
      is_waiter-true (slice_get lists.main.items (suc k)) to (true-if _ _ (clear_from_none rules h w (Pass l to k) none).next)

  pub few_from_pass : (to : Waiter) (k : ℕ) → rules.threshold ≤ 65535 → length lists.second.items ≡ length lists.passes.items → first_breach rules (history_of_lists holders lists) w (Pass l to k) ≡ None → All (λ n. n ≤ 65535) (lists_passed lists k).passes.items
  few_from_pass to k small fit none =
      let h = history_of_lists holders lists in
      let all : All (λ n. n ≤ rules.threshold) (passed h k).passes = none-over l rules.threshold (passed h k).second (passed h k).passes (counts-passed h k to fit (next_from_pass to k none)) (clear_from_none rules h w (Pass l to k) none).bounded in
      λ i d less. (let few : get_or (passed h k).passes i d ≤ rules.threshold = all i d less in omega (arith, small, few))

  pub rejoin-front : (what : What) → first_breach rules (history_of_lists holders lists) w what ≡ None → not_front (history_of_lists holders lists) l w ≡ wrong_head (history_of_lists holders lists) w what → 0 < length lists.main.items
  rejoin-front what none is =
      let h = history_of_lists holders lists in
      front_within h w (front_if_clear h w l (is ∙ (clear_from_none rules h w what none).head))
