-- Findings of the table of breaches, and what an event leaves of the parts of a history.
use Rattle.std.proofs.Common.{◌≡◌, ◌≤◌, ◌<◌, ℕ, suc, List, [], ◌∷◌, ◌++◌, Bool, true, false, Option, Some, None, length, take, drop, replicate, refl, sym, ◌∙◌, inl, inr, arith, length-append}
use Rattle.std.specs.List.{slice_get, All}
use Rattle.std.specs.Option.{option_or}
use Rattle.std.specs.Prelude.{nat_lt}
use Rattle.std.proofs.lemmas.Bool.{cases_Bool, ltb-false, le-ltb}
use Rattle.std.proofs.lemmas.List.{length-map, length-take, length-drop, length-replicate}
use Rattle.std.proofs.lemmas.List.Elements.{All-nil, All-cons, All-head, All-tail}
use Rattle.std.proofs.lemmas.Option.{none-some, slice_get_within}
use Rattle.lk_names.specs.History.{LockHistory, taken, passed}
use Rattle.lk_names.specs.declared.holder.Manner.TheVariants.{Spins}
use Rattle.lk_names.specs.Lawful.{Rules}
use Rattle.lk_abs.specs.Breaches.{breach_if, beside, not_holder, twice, wrong_head, wrong_move, wrong_next, first_over, over_threshold, first_breach}
use Rattle.lk_names.specs.declared.names.Waiter.{Waiter}
use Rattle.lk_names.specs.declared.names.LockName.{LockName}
use Rattle.lk_names.specs.declared.events.How.{How}
use Rattle.lk_names.specs.declared.events.How.TheVariants.{Sole}
use Rattle.lk_names.specs.declared.events.What.{What}
use Rattle.lk_names.specs.declared.events.Breach.{Breach}

-- ---- findings

pub none-false : (b : Bool) (x : Breach) → breach_if b x ≡ None → b ≡ false
none-false true x e = absurd (none-some x (sym e))
none-false false x e = refl

pub false-none : (b : Bool) (x : Breach) → b ≡ false → breach_if b x ≡ None
false-none b x e = rw e refl

pub or-none : (a b : Option Breach) → option_or a b ≡ None → (a ≡ None) × (b ≡ None)
or-none None b e = (refl, e)
or-none (Some x) b e = absurd (none-some x (sym e))

pub none-or : (a b : Option Breach) → a ≡ None → b ≡ None → option_or a b ≡ None
none-or a b p q = rw p q

-- no clause of the table is broken
pub record IsClear (rules : Rules) (h : LockHistory) (w : Waiter) (what : What) : Type 0 where
  pub beside : beside h w what ≡ None
  pub holder : not_holder h w what ≡ None
  pub once : twice h w what ≡ None
  pub head : wrong_head h w what ≡ None
  pub moved : wrong_move rules h what ≡ None
  pub next : wrong_next h what ≡ None
  pub bounded : over_threshold rules h w what ≡ None

module _ (rules : Rules) (h : LockHistory) (w : Waiter) (what : What) where
  pub clear_from_none : first_breach rules h w what ≡ None → IsClear rules h w what
  clear_from_none e =
      let s1 = or-none (beside h w what) _ e in
      let s2 = or-none (not_holder h w what) _ s1.1 in
      let s3 = or-none (twice h w what) _ s2.1 in
      let s4 = or-none (wrong_head h w what) _ s3.1 in
      let s5 = or-none (wrong_move rules h what) _ s4.1 in
      let s6 = or-none (wrong_next h what) _ s5.1 in
      record { beside = s1.0; holder = s2.0; once = s3.0; head = s4.0; moved = s5.0; next = s6.0; bounded = s6.1 }

  pub none_from_clear : IsClear rules h w what → first_breach rules h w what ≡ None
  none_from_clear c =
      none-or _ _ c.beside
      (none-or _ _ c.holder (none-or _ _ c.once (none-or _ _ c.head (none-or _ _ c.moved (none-or _ _ c.next c.bounded)))))

-- ---- parts of a history that an event leaves

pub holders-taken : (h : LockHistory) (w : Waiter) (how : How) → (taken h w how).holders ≡ h.holders ++ record { waiter = w; manner = Spins } ∷ []
holders-taken h w Sole = refl
holders-taken h w _ = refl

pub passes-taken : (h : LockHistory) (w : Waiter) (how : How) → (taken h w how).passes ≡ h.passes
passes-taken h w Sole = refl
passes-taken h w _ = refl

pub second-taken : (h : LockHistory) (w : Waiter) (how : How) → (taken h w how).second ≡ h.second
second-taken h w Sole = refl
second-taken h w _ = refl

-- a handover that names a waiter behind those that it moves keeps one count for each waiter that stands aside
pub counts-passed : (h : LockHistory) (k : ℕ) (to : Waiter) → length h.second ≡ length h.passes → slice_get h.main (suc k) ≡ Some to → length (passed h k).second ≡ length (passed h k).passes
counts-passed h k to fit next =
    let far : suc k < length h.main = slice_get_within h.main (suc k) to next in
    length-append h.second (take k (drop 1 h.main)) ∙ omega (arith, length-take k (drop 1 h.main), length-drop 1 h.main, length-append h.passes (replicate k 0), length-replicate {A = ℕ} k 0, length-map (h.passes ++ replicate k 0) (λ n. suc n)) ∙ sym (length-map (h.passes ++ replicate k 0) (λ n. suc n))

-- ---- counts of handovers

pub over-none : (l : LockName) (t : ℕ) (us : List Waiter) (ns : List ℕ) → All (λ n. n ≤ t) ns → first_over l t us ns ≡ None
over-none l t [] ns all = refl
over-none l t (u ∷ us) [] all = refl
over-none l t (u ∷ us) (n ∷ ns) all =
    let few : n ≤ t = All-head (λ n. n ≤ t) n ns all in
    rw (le-ltb t n few) (over-none l t us ns (All-tail (λ n. n ≤ t) n ns all))

pub none-over : (l : LockName) (t : ℕ) (us : List Waiter) (ns : List ℕ) → length us ≡ length ns → first_over l t us ns ≡ None → All (λ n. n ≤ t) ns
none-over l t us [] fit e = All-nil (λ n. n ≤ t)
none-over l t [] (n ∷ ns) fit e = absurd (omega arith)
none-over l t (u ∷ us) (n ∷ ns) fit e =
    elim (cases_Bool (nat_lt t n)) [
      | inl over ↦ absurd (none-some _ (sym (rw over at e)))
      | inr few ↦ All-cons (λ n. n ≤ t) n ns (ltb-false t n few) (none-over l t us ns (omega arith) (rw few at e))
    ]

-- the first finding of seven, asked one after another
pub or_chain : (a b c d e f g : Option Breach) → option_or (option_or (option_or (option_or (option_or (option_or a b) c) d) e) f) g ≡ option_or a (option_or b (option_or c (option_or d (option_or e (option_or f g)))))
or_chain (Some x) b c d e f g = refl
or_chain None (Some x) c d e f g = refl
or_chain None None (Some x) d e f g = refl
or_chain None None None (Some x) e f g = refl
or_chain None None None None (Some x) f g = refl
or_chain None None None None None (Some x) g = refl
or_chain None None None None None None g = refl
