-- A lawful history with one event more: it is lawful exactly where the event is allowed, and in the paravirtual lock every front
-- that sleeps by a free lock is owed a kick.
use Rattle.std.proofs.Common.{◌≡◌, ◌≤◌, ◌↔◌, ℕ, List, [], ◌∷◌, ◌++◌, false, Some, None, length, refl, sym, ap, subst, ◌∙◌, inl, inr}
use Rattle.std.specs.List.{All}
use Rattle.std.proofs.lemmas.Bool.{cases_Bool}
use Rattle.std.proofs.lemmas.List.Elements.{All-nil}
use Rattle.std.proofs.lemmas.Option.{none-some, same_Some}
use Rattle.lk_names.specs.History.{LockHistory, lock_of, is_on, changed, history_of}
use Rattle.lk_names.specs.Lawful.{Rules, IsShared, OwnsUp, InOrder, IsOrdered, FrontIsOwed, IsLawful}
use Rattle.lk_abs.specs.Allowed.{IsAllowed}
use Rattle.lk_abs.specs.Breaches.{first_breach}
use Rattle.lk_names.specs.declared.names.Mode.TheVariants.{Pv}
use Rattle.lk_names.specs.declared.names.Waiter.{Waiter}
use Rattle.lk_names.specs.declared.names.LockName.{LockName}
use Rattle.lk_names.specs.declared.events.Event.{Event}
use Rattle.lk_names.specs.declared.events.What.{What}
use Rattle.lk_names.specs.declared.events.What.TheVariants.{Take, Pass, Flush, Promote}
use Rattle.lk_names.proofs.Moments.{AtEachMoment-nil, AtEachMoment-push, AtEachMoment-front, AtEachMoment-now, OfEachEvent-nil, OfEachEvent-push, OfEachEvent-front, OfEachEvent-now, history_of-push, by_events}
use Rattle.lk_abs.proofs.Sameness.{is_on-true, is_on-from}
use Rattle.lk_abs.proofs.Clauses.{passes-taken, second-taken, counts-passed}
use Rattle.lk_abs.proofs.Table.{allowed_from_none, none_from_allowed}

module _ (l : LockName) (es : List Event) (e : Event) where
  -- an event changes the history of its own lock
  pub told_here : lock_of e.what ≡ Some l → history_of l (es ++ e ∷ []) ≡ changed (history_of l es) e.by e.what
  told_here on = history_of-push l es e ∙ rw (is_on-from l (lock_of e.what) on) refl

  -- and of no other
  pub told_elsewhere : is_on l (lock_of e.what) ≡ false → history_of l (es ++ e ∷ []) ≡ history_of l es
  told_elsewhere off = history_of-push l es e ∙ rw off refl

  -- what holds of every lock's history before the event and of its own lock's after it, holds of every lock's after it
  pub told-keeps : (P : LockHistory → Type 0) → P (history_of l es) → (lock_of e.what ≡ Some l → P (changed (history_of l es) e.by e.what)) → P (history_of l (es ++ e ∷ []))
  told-keeps P before here =
      elim (cases_Bool (is_on l (lock_of e.what))) [
        | inl on ↦
            (let named : lock_of e.what ≡ Some l = is_on-true l (lock_of e.what) on in
            subst P (sym (told_here named)) (here named))
        | inr off ↦ subst P (sym (told_elsewhere off)) before
      ]

-- the facts of the laws at one moment, or of one event
Shared : List Event → Type 0
Shared before = (l : LockName) → IsShared (history_of l before).holders

Owned : List Event → Event → Type 0
Owned before e = (l : LockName) → lock_of e.what ≡ Some l → OwnsUp (history_of l before) e.by e.what

unfoldable pub Ordered : Rules → List Event → Event → Type 0
Ordered rules before e = (l : LockName) → lock_of e.what ≡ Some l → InOrder rules (history_of l before) e.by e.what

Few : ℕ → List Event → Type 0
Few threshold before = (l : LockName) → All (λ n. n ≤ threshold) (history_of l before).passes

FrontsOwed : List Event → Type 0
FrontsOwed before = (l : LockName) → FrontIsOwed before l

module _ (rules : Rules) where
  pub lawful-nil : IsLawful rules []
  unfolding Shared Owned Ordered Few FrontsOwed
  lawful-nil =
      record {
        exclusive = record { shared = AtEachMoment-nil Shared (λ l. inl refl); owned = OfEachEvent-nil Owned };
        ordered = OfEachEvent-nil (Ordered rules);
        bounded = AtEachMoment-nil (Few rules.threshold) (λ l. All-nil (λ n. n ≤ rules.threshold));
        kicked = λ pv. AtEachMoment-nil FrontsOwed (λ l w front free asleep. absurd (none-some w front));
      }

  module _ (es : List Event) (e : Event) where
    pub lawful-push : IsLawful rules es → ((l : LockName) → lock_of e.what ≡ Some l → IsAllowed rules (history_of l es) e.by e.what) → (rules.mode ≡ Pv → (l : LockName) → FrontIsOwed (es ++ e ∷ []) l) → IsLawful rules (es ++ e ∷ [])
    unfolding Shared Owned Ordered Few FrontsOwed
    lawful-push ok allowed owed =
        record {
          exclusive = record {
            shared = AtEachMoment-push Shared es e ok.exclusive.shared (λ l. told-keeps l es e (λ h. IsShared h.holders) (AtEachMoment-now Shared es ok.exclusive.shared l) (λ on. (allowed l on).shared));
            owned = OfEachEvent-push Owned es e ok.exclusive.owned (λ l on. (allowed l on).owned);
          };
          ordered = OfEachEvent-push (Ordered rules) es e ok.ordered (λ l on. (allowed l on).ordered);
          bounded = AtEachMoment-push (Few rules.threshold) es e ok.bounded (λ l. told-keeps l es e (λ h. All (λ n. n ≤ rules.threshold) h.passes) (AtEachMoment-now (Few rules.threshold) es ok.bounded l) (λ on. (allowed l on).bounded));
          kicked = λ pv. AtEachMoment-push FrontsOwed es e (ok.kicked pv) (owed pv);
        }

    pub lawful-front : IsLawful rules (es ++ e ∷ []) → IsLawful rules es
    unfolding Shared Owned Ordered Few FrontsOwed
    lawful-front ok =
        record {
          exclusive = record { shared = AtEachMoment-front Shared es e ok.exclusive.shared; owned = OfEachEvent-front Owned es e ok.exclusive.owned };
          ordered = OfEachEvent-front (Ordered rules) es e ok.ordered;
          bounded = AtEachMoment-front (Few rules.threshold) es e ok.bounded;
          kicked = λ pv. AtEachMoment-front FrontsOwed es e (ok.kicked pv);
        }

    pub allowed_from_lawful : IsLawful rules (es ++ e ∷ []) → (l : LockName) → lock_of e.what ≡ Some l → IsAllowed rules (history_of l es) e.by e.what
    unfolding Shared Owned Ordered Few FrontsOwed
    allowed_from_lawful ok l on =
        let here = told_here l es e on in
        record {
          shared = subst (λ (h : LockHistory). IsShared h.holders) here (AtEachMoment-now Shared (es ++ e ∷ []) ok.exclusive.shared l);
          owned = OfEachEvent-now Owned es e ok.exclusive.owned l on;
          ordered = OfEachEvent-now (Ordered rules) es e ok.ordered l on;
          bounded = subst (λ (h : LockHistory). All (λ n. n ≤ rules.threshold) h.passes) here (AtEachMoment-now (Few rules.threshold) (es ++ e ∷ []) ok.bounded l);
        }

-- ---- one count for each waiter that stands aside

CountsFit : LockHistory → Type 0
CountsFit h = length h.second ≡ length h.passes

fits-changed : (rules : Rules) (h : LockHistory) (w : Waiter) (what : What) → InOrder rules h w what → CountsFit h → CountsFit (changed h w what)
unfolding CountsFit
fits-changed rules h w (Take l how) order fit = ap length (second-taken h w how) ∙ fit ∙ ap length (sym (passes-taken h w how))
fits-changed rules h w (Pass l to k) order fit = counts-passed h k to fit order.3
fits-changed rules h w (Flush l) order fit = refl
fits-changed rules h w (Promote l) order fit = refl
fits-changed rules h w _ order fit = fit

-- in a history in order each waiter that stands aside has its count of handovers
pub counts_fit : (rules : Rules) (es : List Event) → IsOrdered rules es → (l : LockName) → length (history_of l es).second ≡ length (history_of l es).passes
unfolding CountsFit Ordered
counts_fit rules es ordered l =
    by_events (λ ts. IsOrdered rules ts → CountsFit (history_of l ts)) (λ none. refl)
    (λ ts e before more. told-keeps l ts e CountsFit (before (OfEachEvent-front (Ordered rules) ts e more)) (λ on. fits-changed rules (history_of l ts) e.by e.what (OfEachEvent-now (Ordered rules) ts e more l on) (before (OfEachEvent-front (Ordered rules) ts e more))))
    es ordered

-- ---- the table is exact

module _ (rules : Rules) (es : List Event) (e : Event) (ok : IsLawful rules es) where
  pub allowed_if_clear : (l : LockName) → first_breach rules (history_of l es) e.by e.what ≡ None → IsAllowed rules (history_of l es) e.by e.what
  unfolding Shared Few
  allowed_if_clear l clear =
      allowed_from_none rules (history_of l es) e.by e.what (AtEachMoment-now Shared es ok.exclusive.shared l) (AtEachMoment-now (Few rules.threshold) es ok.bounded l) (counts_fit rules es ok.ordered l) clear

  -- an event on a lock keeps a history lawful exactly where it breaks no clause of the table and leaves no front asleep
  pub exact : (l : LockName) → lock_of e.what ≡ Some l → IsLawful rules (es ++ e ∷ []) ↔ ((first_breach rules (history_of l es) e.by e.what ≡ None) × (rules.mode ≡ Pv → (k : LockName) → FrontIsOwed (es ++ e ∷ []) k))
  unfolding FrontsOwed
  exact l on = (
    λ more. (none_from_allowed rules (history_of l es) e.by e.what (allowed_from_lawful rules es e more l on), λ pv. AtEachMoment-now FrontsOwed (es ++ e ∷ []) (more.kicked pv)),
    λ clear. lawful-push rules es e ok (λ k at. subst (λ (j : LockName). IsAllowed rules (history_of j es) e.by e.what) (same_Some l k (sym on ∙ at)) (allowed_if_clear l clear.0)) clear.1,
  )

  -- and an event on no lock exactly where it leaves no front asleep
  pub exact_none : lock_of e.what ≡ None → IsLawful rules (es ++ e ∷ []) ↔ (rules.mode ≡ Pv → (k : LockName) → FrontIsOwed (es ++ e ∷ []) k)
  unfolding FrontsOwed
  exact_none off = (
    λ more pv. AtEachMoment-now FrontsOwed (es ++ e ∷ []) (more.kicked pv),
    λ owed. lawful-push rules es e ok (λ l on. absurd (none-some l (sym off ∙ on))) owed,
  )
