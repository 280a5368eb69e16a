-- A history with one event more: what holds at each moment, or of each event, needs one fact more, and what is said of a lock is
-- told on by that event.
use Rattle.std.proofs.Common.{◌≡◌, ◌⊎◌, List, [], ◌∷◌, ◌++◌, refl, sym, ap, subst, ◌∙◌, inl, inr, append_assoc}
use Rattle.std.proofs.lemmas.List.{same_from_push, append-nil}
use Rattle.lk_names.specs.History.{LockHistory, no_history, told, told_all, history_of}
use Rattle.lk_names.specs.Lawful.{AtEachMoment, OfEachEvent}
use Rattle.lk_names.specs.declared.names.LockName.{LockName}
use Rattle.lk_names.specs.declared.events.Event.{Event}

-- the list has a last item
pub record HasLast {X : Type 0} (xs : List X) : Type 0 where
  pub front : List X
  pub last : X
  pub is : xs ≡ front ++ last ∷ []

pub ends : {X : Type 0} (xs : List X) → (xs ≡ []) ⊎ HasLast xs
ends [] = inl refl
ends {X} (x ∷ xs) =
    inr
    (elim (ends xs) [
      | inl e ↦ record { front = []; last = x; is = ap (λ ys. x ∷ ys) e }
      | inr w ↦ record { front = x ∷ w.front; last = w.last; is = ap (λ ys. x ∷ ys) w.is }
    ])

-- no list with a last item is empty
pub push_not-nil : {X : Type 0} (xs ys : List X) (y : X) → [] ≡ xs ++ y ∷ ys → ⊥
push_not-nil [] ys y e = cc
push_not-nil (x ∷ xs) ys y e = cc

-- a front of a list with one item more is the whole of it, or a front of the list
front_cases : (es before after : List Event) (e : Event) → es ++ e ∷ [] ≡ before ++ after → (es ++ e ∷ [] ≡ before) ⊎ ((rest : List Event) × (es ≡ before ++ rest))
front_cases es before after e q =
    elim (ends after) [
      | inl none ↦ inl (q ∙ ap (λ ts. before ++ ts) none ∙ append-nil before)
      | inr w ↦ inr (w.front, (same_from_push es (before ++ w.front) e w.last (q ∙ ap (λ ts. before ++ ts) w.is ∙ sym (append_assoc before w.front (w.last ∷ [])))).0)
    ]

module _ (P : List Event → Type 0) where
  pub AtEachMoment-nil : P [] → AtEachMoment P []
  AtEachMoment-nil p [] after q = p
  AtEachMoment-nil p (x ∷ before) after q = absurd (push_not-nil [] (before ++ after) x q)

  pub AtEachMoment-push : (es : List Event) (e : Event) → AtEachMoment P es → P (es ++ e ∷ []) → AtEachMoment P (es ++ e ∷ [])
  AtEachMoment-push es e each now before after q =
      elim (front_cases es before after e q) [ inl whole ↦ subst P whole now | inr part ↦ each before part.0 part.1 ]

  pub AtEachMoment-front : (es : List Event) (e : Event) → AtEachMoment P (es ++ e ∷ []) → AtEachMoment P es
  AtEachMoment-front es e each before after q =
      each before (after ++ e ∷ []) (ap (λ ts. ts ++ e ∷ []) q ∙ append_assoc before after (e ∷ []))

  pub AtEachMoment-now : (es : List Event) → AtEachMoment P es → P es
  AtEachMoment-now es each = each es [] (sym (append-nil es))

module _ (P : List Event → Event → Type 0) where
  pub OfEachEvent-nil : OfEachEvent P []
  OfEachEvent-nil before after e q = absurd (push_not-nil before after e q)

  pub OfEachEvent-push : (es : List Event) (e : Event) → OfEachEvent P es → P es e → OfEachEvent P (es ++ e ∷ [])
  OfEachEvent-push es e each now before after x q =
      elim (ends after) [
        | inl none ↦
            (let same : (es ≡ before) × (e ≡ x) = same_from_push es before e x (q ∙ ap (λ ts. before ++ x ∷ ts) none) in
            subst (λ (d : Event). P before d) same.1 (subst (λ (b : List Event). P b e) same.0 now))
        | inr w ↦
            each before w.front x (same_from_push es (before ++ x ∷ w.front) e w.last (q ∙ ap (λ ts. before ++ x ∷ ts) w.is ∙ sym (append_assoc before (x ∷ w.front) (w.last ∷ [])))).0
      ]

  pub OfEachEvent-front : (es : List Event) (e : Event) → OfEachEvent P (es ++ e ∷ []) → OfEachEvent P es
  OfEachEvent-front es e each before after x q =
      each before (after ++ e ∷ []) x (ap (λ ts. ts ++ e ∷ []) q ∙ append_assoc before (x ∷ after) (e ∷ []))

  pub OfEachEvent-now : (es : List Event) (e : Event) → OfEachEvent P (es ++ e ∷ []) → P es e
  OfEachEvent-now es e each = each es [] e refl

pub told_all-append : (l : LockName) (h : LockHistory) (es fs : List Event) → told_all l h (es ++ fs) ≡ told_all l (told_all l h es) fs
told_all-append l h [] fs = refl
told_all-append l h (e ∷ es) fs = told_all-append l (told l h e) es fs

pub told_all-push : (l : LockName) (h : LockHistory) (es : List Event) (e : Event) → told_all l h (es ++ e ∷ []) ≡ told l (told_all l h es) e
told_all-push l h es e = told_all-append l h es (e ∷ [])

pub history_of-push : (l : LockName) (es : List Event) (e : Event) → history_of l (es ++ e ∷ []) ≡ told l (history_of l es) e
history_of-push l es e = told_all-push l no_history es e

-- what holds before any event, and after one event more, holds of every history
module _ (P : List Event → Type 0) where
  grown : ((es : List Event) (e : Event) → P es → P (es ++ e ∷ [])) → (before after : List Event) → P before → P (before ++ after)
  grown step before [] p = subst P (sym (append-nil before)) p
  grown step before (e ∷ after) p =
      subst P (append_assoc before (e ∷ []) after) (grown step (before ++ e ∷ []) after (step before e p))

  pub by_events : P [] → ((es : List Event) (e : Event) → P es → P (es ++ e ∷ [])) → (es : List Event) → P es
  by_events none step es = grown step [] es none
