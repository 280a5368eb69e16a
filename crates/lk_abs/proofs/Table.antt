-- Each clause of the table of breaches against the law that it tests: an event breaks no clause exactly where it is allowed.
use Rattle.std.proofs.Common.{◌≡◌, ◌≤◌, ℕ, suc, List, [], ◌∷◌, Bool, true, false, not, None, length, refl, sym, ap, subst, ◌∙◌, inl, inr, arith}
use Rattle.std.specs.Prelude.{if◌then◌else◌}
use Rattle.std.specs.List.{list_any, slice_get, All}
use Rattle.std.proofs.lemmas.Bool.{cases_Bool, or_parts, or_from, not-false, not_from_true, ltb-false, le-ltb, true≢false, false_from_ne_true}
use Rattle.std.proofs.lemmas.List.Elements.{All-nil}
use Rattle.std.proofs.lemmas.Option.{none-some}
use Rattle.lk_names.specs.History.{LockHistory, passed, changed}
use Rattle.lk_names.specs.declared.holder.Manner.TheVariants.{Spins, Reads, Writes}
use Rattle.lk_names.specs.declared.holder.Holder.{Holder}
use Rattle.lk_names.specs.Lawful.{Rules, IsShared, Holds, OwnsUp, IsFront, TakesInOrder, InOrder, lawful_moves, writes}
use Rattle.lk_abs.specs.Allowed.{IsAllowed}
use Rattle.lk_abs.specs.Breaches.{breach_if, holds, is_queued, beside_first, beside, not_holder, twice, not_front, wrong_head, wrong_move, wrong_next, over_threshold, first_breach}
use Rattle.lk_names.specs.declared.names.Waiter.{Waiter}
use Rattle.lk_names.specs.declared.names.LockName.{LockName}
use Rattle.lk_names.specs.declared.events.How.{How}
use Rattle.lk_names.specs.declared.events.How.TheVariants.{Head, Sole}
use Rattle.lk_names.specs.declared.events.What.{What}
use Rattle.lk_names.specs.declared.events.What.TheVariants.{Take, Release, Arrive, Pass, Flush, Promote, Leave, RTake, RRelease, WTake, WRelease}
use Rattle.lk_names.specs.declared.events.Breach.{Breach}
use Rattle.lk_abs.proofs.Sameness.{holds-true, holds-from, holds_so-true, holds_so-from, is_queued-false, is_queued-from, is_waiter-true, is_waiter-from}
use Rattle.lk_abs.proofs.Sharing.{free_from_shared, shared_from_free, readers_from_shared, shared_from_readers, shared-without}
use Rattle.lk_abs.proofs.Clauses.{none-false, false-none, IsClear, clear_from_none, none_from_clear, holders-taken, passes-taken, counts-passed, over-none, none-over}

pub first-none : (l : LockName) (xs : List Holder) (w : Waiter) → beside_first l xs w ≡ None → xs ≡ []
first-none l [] w e = refl
first-none l (x ∷ xs) w e = absurd (none-some _ (sym e))

none-first : (l : LockName) (xs : List Holder) (w : Waiter) → xs ≡ [] → beside_first l xs w ≡ None
none-first l xs w e = ap (λ ys. beside_first l ys w) e

nobody_holds : (h : LockHistory) (w : Waiter) → h.holders ≡ [] → ¬ Holds h w
nobody_holds h w e has = absurd (omega (arith, has.1.1, ap length e))

pub true-if : (b : Bool) (x : Breach) → breach_if (not b) x ≡ None → b ≡ true
true-if b x e = not-false b (none-false (not b) x e)

if-true : (b : Bool) (x : Breach) → b ≡ true → breach_if (not b) x ≡ None
if-true b x e = false-none (not b) x (not_from_true b e)

-- ---- from the table to the laws

module _ (h : LockHistory) (w : Waiter) where
  -- who takes to read takes beside no writer, and does not hold the lock
  apart_from_none : (l : LockName) (x : Breach) → (if list_any writes h.holders then beside_first l h.holders w else breach_if (holds h w) x) ≡ None → (list_any writes h.holders ≡ false) × (¬ Holds h w)
  apart_from_none l x e =
      elim (cases_Bool (list_any writes h.holders)) [
        | inl written ↦
            (let none : h.holders ≡ [] = first-none l h.holders w (rw written at e) in
            absurd (true≢false (sym written ∙ ap (list_any writes) none)))
        | inr read ↦
            (read, λ has. true≢false (sym (holds-from h w has) ∙ none-false (holds h w) x (rw read at e)))
      ]

  shared_if_clear : (what : What) → IsShared h.holders → beside h w what ≡ None → IsShared (changed h w what).holders
  shared_if_clear (Take l how) s e = subst (λ (xs : List Holder). IsShared xs) (sym (holders-taken h w how)) (shared_from_free h.holders _ (first-none l h.holders w e))
  shared_if_clear (RTake l how) s e = shared_from_readers h.holders _ refl (apart_from_none l _ e).0
  shared_if_clear (WTake l how) s e = shared_from_free h.holders _ (first-none l h.holders w e)
  shared_if_clear (Release l owing) s e = shared-without w Spins h.holders s
  shared_if_clear (RRelease l) s e = shared-without w Reads h.holders s
  shared_if_clear (WRelease l) s e = shared-without w Writes h.holders s
  shared_if_clear _ s e = s

  pub owned_if_clear : (what : What) → beside h w what ≡ None → not_holder h w what ≡ None → OwnsUp h w what
  owned_if_clear (Take l how) e f = nobody_holds h w (first-none l h.holders w e)
  owned_if_clear (RTake l how) e f = (apart_from_none l _ e).1
  owned_if_clear (WTake l how) e f = nobody_holds h w (first-none l h.holders w e)
  owned_if_clear (Release l owing) e f = holds_so-true h w Spins (true-if _ _ f)
  owned_if_clear (RRelease l) e f = holds_so-true h w Reads (true-if _ _ f)
  owned_if_clear (WRelease l) e f = holds_so-true h w Writes (true-if _ _ f)
  owned_if_clear _ e f = tt

  pub front_if_clear : (l : LockName) → not_front h l w ≡ None → IsFront h w
  front_if_clear l e = is_waiter-true (slice_get h.main 0) w (true-if _ _ e)

  takes_if_clear : (l : LockName) (how : How) → twice h w (Take l how) ≡ None → wrong_head h w (Take l how) ≡ None → TakesInOrder h w how
  takes_if_clear l Head e f = front_if_clear l f
  takes_if_clear l Sole e f = front_if_clear l f
  takes_if_clear l _ e f = is_queued-false h w (none-false _ _ e)

  order_if_clear : (rules : Rules) (what : What) → IsClear rules h w what → InOrder rules h w what
  order_if_clear rules (Take l how) c = takes_if_clear l how c.once c.head
  order_if_clear rules (Release l owing) c = is_queued-false h w (none-false _ _ c.once)
  order_if_clear rules (Arrive l) c =
      let apart : (holds h w ≡ false) × (is_queued h w ≡ false) = or_parts _ _ (none-false _ _ c.once) in
      (is_queued-false h w apart.1, λ has. true≢false (sym (holds-from h w has) ∙ apart.0))
  order_if_clear rules (Pass l to k) c = (
    front_if_clear l c.head,
    holds-true h w (true-if _ _ c.holder),
    ltb-false (lawful_moves rules h.main) k (none-false _ _ c.moved),
    is_waiter-true (slice_get h.main (suc k)) to (true-if _ _ c.next),
  )
  order_if_clear rules (Flush l) c = (front_if_clear l c.head, holds-true h w (true-if _ _ c.holder))
  order_if_clear rules (Promote l) c = (front_if_clear l c.head, holds-true h w (true-if _ _ c.holder))
  order_if_clear rules (Leave l) c = (front_if_clear l c.head, holds-true h w (true-if _ _ c.holder))
  order_if_clear rules _ c = tt

  bounded_if_clear : (rules : Rules) (what : What) → All (λ n. n ≤ rules.threshold) h.passes → length h.second ≡ length h.passes → IsClear rules h w what → All (λ n. n ≤ rules.threshold) (changed h w what).passes
  bounded_if_clear rules (Take l how) few fit c = subst (λ (ns : List ℕ). All (λ n. n ≤ rules.threshold) ns) (sym (passes-taken h w how)) few
  bounded_if_clear rules (Pass l to k) few fit c =
      none-over l rules.threshold (passed h k).second (passed h k).passes (counts-passed h k to fit (is_waiter-true (slice_get h.main (suc k)) to (true-if _ _ c.next))) c.bounded
  bounded_if_clear rules (Flush l) few fit c = All-nil (λ n. n ≤ rules.threshold)
  bounded_if_clear rules (Promote l) few fit c = All-nil (λ n. n ≤ rules.threshold)
  bounded_if_clear rules _ few fit c = few

-- ---- from the laws to the table

module _ (h : LockHistory) (w : Waiter) where
  none_from_apart : (l : LockName) (x : Breach) → list_any writes h.holders ≡ false → (¬ Holds h w) → (if list_any writes h.holders then beside_first l h.holders w else breach_if (holds h w) x) ≡ None
  none_from_apart l x read apart = rw read (false-none (holds h w) x (false_from_ne_true _ (λ e. apart (holds-true h w e))))

  beside_if_allowed : (what : What) → IsShared (changed h w what).holders → OwnsUp h w what → beside h w what ≡ None
  beside_if_allowed (Take l how) s own = none-first l h.holders w (free_from_shared h.holders _ refl (subst (λ (xs : List Holder). IsShared xs) (holders-taken h w how) s))
  beside_if_allowed (RTake l how) s own = none_from_apart l _ (readers_from_shared h.holders _ s) own
  beside_if_allowed (WTake l how) s own = none-first l h.holders w (free_from_shared h.holders _ refl s)
  beside_if_allowed _ s own = refl

  holder_if_allowed : (rules : Rules) (what : What) → OwnsUp h w what → InOrder rules h w what → not_holder h w what ≡ None
  holder_if_allowed rules (Release l owing) own order = if-true _ _ (holds_so-from h w Spins own)
  holder_if_allowed rules (RRelease l) own order = if-true _ _ (holds_so-from h w Reads own)
  holder_if_allowed rules (WRelease l) own order = if-true _ _ (holds_so-from h w Writes own)
  holder_if_allowed rules (Pass l to k) own order = if-true _ _ (holds-from h w order.1)
  holder_if_allowed rules (Flush l) own order = if-true _ _ (holds-from h w order.1)
  holder_if_allowed rules (Promote l) own order = if-true _ _ (holds-from h w order.1)
  holder_if_allowed rules (Leave l) own order = if-true _ _ (holds-from h w order.1)
  holder_if_allowed rules _ own order = refl

  once_if_taken : (l : LockName) (how : How) → TakesInOrder h w how → twice h w (Take l how) ≡ None
  once_if_taken l Head order = refl
  once_if_taken l Sole order = refl
  once_if_taken l _ order = false-none _ _ (is_queued-from h w order)

  once_if_allowed : (rules : Rules) (what : What) → InOrder rules h w what → twice h w what ≡ None
  once_if_allowed rules (Take l how) order = once_if_taken l how order
  once_if_allowed rules (Release l owing) order = false-none _ _ (is_queued-from h w order)
  once_if_allowed rules (Arrive l) order = false-none _ _ (or_from _ _ (false_from_ne_true _ (λ e. order.1 (holds-true h w e))) (is_queued-from h w order.0))
  once_if_allowed rules _ order = refl

  none_from_front : (l : LockName) → IsFront h w → not_front h l w ≡ None
  none_from_front l front = if-true _ _ (is_waiter-from (slice_get h.main 0) w front)

  head_if_taken : (l : LockName) (how : How) → TakesInOrder h w how → wrong_head h w (Take l how) ≡ None
  head_if_taken l Head order = none_from_front l order
  head_if_taken l Sole order = none_from_front l order
  head_if_taken l _ order = refl

  head_if_allowed : (rules : Rules) (what : What) → InOrder rules h w what → wrong_head h w what ≡ None
  head_if_allowed rules (Take l how) order = head_if_taken l how order
  head_if_allowed rules (Pass l to k) order = none_from_front l order.0
  head_if_allowed rules (Flush l) order = none_from_front l order.0
  head_if_allowed rules (Promote l) order = none_from_front l order.0
  head_if_allowed rules (Leave l) order = none_from_front l order.0
  head_if_allowed rules _ order = refl

  moved_if_allowed : (rules : Rules) (what : What) → InOrder rules h w what → wrong_move rules h what ≡ None
  moved_if_allowed rules (Pass l to k) order = false-none _ _ (le-ltb (lawful_moves rules h.main) k order.2)
  moved_if_allowed rules _ order = refl

  next_if_allowed : (rules : Rules) (what : What) → InOrder rules h w what → wrong_next h what ≡ None
  next_if_allowed rules (Pass l to k) order = if-true _ _ (is_waiter-from (slice_get h.main (suc k)) to order.3)
  next_if_allowed rules _ order = refl

  bounded_if_allowed : (rules : Rules) (what : What) → All (λ n. n ≤ rules.threshold) (changed h w what).passes → over_threshold rules h w what ≡ None
  bounded_if_allowed rules (Pass l to k) few = over-none l rules.threshold (passed h k).second (passed h k).passes few
  bounded_if_allowed rules _ few = refl

-- ---- both ways

module _ (rules : Rules) (h : LockHistory) (w : Waiter) (what : What) where
  pub allowed_from_none : IsShared h.holders → All (λ n. n ≤ rules.threshold) h.passes → length h.second ≡ length h.passes → first_breach rules h w what ≡ None → IsAllowed rules h w what
  allowed_from_none s few fit e =
      let c = clear_from_none rules h w what e in
      record {
        shared = shared_if_clear h w what s c.beside;
        owned = owned_if_clear h w what c.beside c.holder;
        ordered = order_if_clear h w rules what c;
        bounded = bounded_if_clear h w rules what few fit c;
      }

  pub none_from_allowed : IsAllowed rules h w what → first_breach rules h w what ≡ None
  none_from_allowed a =
      none_from_clear rules h w what
      (record {
        beside = beside_if_allowed h w what a.shared a.owned;
        holder = holder_if_allowed h w rules what a.owned a.ordered;
        once = once_if_allowed h w rules what a.ordered;
        head = head_if_allowed h w rules what a.ordered;
        moved = moved_if_allowed h w rules what a.ordered;
        next = next_if_allowed h w rules what a.ordered;
        bounded = bounded_if_allowed h w rules what a.bounded;
      })
