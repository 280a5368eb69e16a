-- Some processor is in its critical section, or none is.
use Rattle.std.proofs.Common.{◌≡◌, ◌⊎◌, inl, inr, ℕ, zero, suc, ◌<◌, ◌≤◌, List, [], ◌∷◌, length, Some, Bool}
use Rattle.std.proofs.Common.{false, eqb, eq-eqb, eqb-true, ne_eqb, refl, sym, ap, ◌∙◌, subst, arith}
use Rattle.std.proofs.lemmas.Bool.{cases_Bool, cases_lt}
use Rattle.std.specs.Prelude.{◌&&◌}
use mathlib.Core.Option.{some, some-injective, some-ne-none}
use lib.ListN.{get_elem?}
use Rattle.atomic_table.specs.Table.{State}
use Rattle.lk_names.specs.Names.{same_lock}
use Rattle.lk_names.specs.declared.holder.Manner.{Manner}
use Rattle.lk_names.specs.declared.names.LockName.{LockName}
use Rattle.lk_law.proofs.common.Puts.{if-true, if-false}
use Rattle.lk_law.proofs.common.Sames.{same_lock-self}
use Rattle.lk_domain.specs.Calls.{Hold, held_in}
use Rattle.lk_domain.specs.Keeps.{Slot}
use Rattle.lk_domain.specs.Runs.{Runs, waiter}
use Rattle.lk_domain.specs.declared.plan.Plan.{Plan}
use Rattle.lk_domain.specs.declared.view.View.{View}
use Rattle.lk_domain.proofs.Stacks.{and_parts, and_true}
use Rattle.lk_domain.proofs.seats.Owners.{framed}
use Rattle.lk_domain_law.specs.GoingOn.{SomebodyWorks}
use Rattle.lk_domain_law.proofs.Newest.{none_some, frame_below, fits}
use Rattle.lk_domain_law.proofs.Ranks.{IsCalm}

-- one of a list has a property, or all have another

pub record One (vs : List View) (Q : ℕ → View → Type 0) : Type 0 where
  pub id : ℕ
  pub view_is : View
  pub at : get_elem? vs id ≡ some view_is
  pub is : Q id view_is

abbrev pub Each : List View → (ℕ → View → Type 0) → Type 0
Each vs P = (id : ℕ) (v : View) → get_elem? vs id ≡ some v → P id v

pub each_or : (vs : List View) (P Q : ℕ → View → Type 0) → ((id : ℕ) (v : View) → get_elem? vs id ≡ some v → P id v ⊎ Q id v)
    → Each vs P ⊎ One vs Q
each_or [] P Q h = inl (λ id v at. absurd (some-ne-none v (sym at)))
each_or (x ∷ xs) P Q h = elim (h 0 x refl) [
  | inr q ↦ inr (record { id = 0; view_is = x; at = refl; is = q })
  | inl p ↦ elim (each_or xs (λ id. P (suc id)) (λ id. Q (suc id)) (λ id v at. h (suc id) v at)) [
    | inr o ↦ inr (record { id = suc o.id; view_is = o.view_is; at = o.at; is = o.is })
    | inl all ↦ inl (both p all)
  ]
]
  where
    both : P 0 x → Each xs (λ id. P (suc id)) → Each (x ∷ xs) P
    both p all zero v at = subst (P 0) (some-injective x v at) p
    both p all (suc id) v at = all id v at

-- a lock that a context from n on holds
record Above (n : ℕ) (hs : List Hold) : Type 0 where
  ctx : ℕ
  lock : LockName
  way : Manner
  holds : held_in hs ctx lock ≡ Some way
  high : n ≤ ctx

-- none holds one
abbrev NoneAbove : ℕ → List Hold → Type 0
NoneAbove n hs = (d : ℕ) (l : LockName) (way : Manner) → held_in hs d l ≡ Some way → d < n

above_or : (n : ℕ) (hs : List Hold) → NoneAbove n hs ⊎ Above n hs
above_or n [] = inl (λ d l way is. absurd (none_some is))
above_or n (h ∷ hs) = elim (cases_lt h.ctx n) [
  | inr ge ↦ inr (record {
    ctx = h.ctx;
    lock = h.lock;
    way = h.manner;
    holds = if-true ((eqb h.ctx h.ctx) && same_lock h.lock h.lock) (Some h.manner) (held_in hs h.ctx h.lock)
        (and_true (eqb h.ctx h.ctx) (same_lock h.lock h.lock) (eq-eqb h.ctx h.ctx refl) (same_lock-self h.lock));
    high = ge;
  })
  | inl lt ↦ elim (above_or n hs) [
    | inr a ↦ inr (record {
      ctx = a.ctx;
      lock = a.lock;
      way = a.way;
      holds = if-false ((eqb a.ctx h.ctx) && same_lock a.lock h.lock) (Some h.manner) (held_in hs a.ctx a.lock)
          (off (same_lock a.lock h.lock) (ne_eqb a.ctx h.ctx (λ e. let z = a.high in omega (arith, z, lt, e)))) ∙ a.holds;
      high = a.high;
    })
    | inl none ↦ inl (λ d l way is. elim (cases_Bool ((eqb d h.ctx) && same_lock l h.lock)) [
      | inl e ↦ let at = eqb-true d h.ctx (and_parts (eqb d h.ctx) (same_lock l h.lock) e).0 in omega (arith, at, lt)
      | inr e ↦
          none d l way (sym (if-false ((eqb d h.ctx) && same_lock l h.lock) (Some h.manner) (held_in hs d l) e) ∙ is)
    ])
  ]
]
  where
    off : {a : Bool} (b : Bool) → a ≡ false → (a && b) ≡ false
    off b e = ap (λ (x : Bool). x && b) e

module _ (k : Plan) (s : State Slot View) (st : Runs k s) where
  -- the contexts of each seat that hold locks are those of its calls
  abbrev Idle : ℕ → View → Type 0
  Idle id v = NoneAbove (length v.calls.frames) v.calls.holds

  calm_by : Each s.views Idle → IsCalm st.world
  calm_by idle w u f c l way top cpu has =
      let t = (framed k s st w f top.live).seat in
      let fit = fits k s st w.cpu t in
      let here : held_in t.view_is.calls.holds u.ctx l ≡ Some way =
      sym (fit.mirrors.holds u.ctx l) ∙ subst (λ (p : ℕ). st.world.held (waiter p u.ctx) l ≡ Some way) cpu has in
      elim (cases_lt w.ctx u.ctx) [
        | inr le ↦ le
        | inl lt ↦
            let r = frame_below t.view_is.calls.frames u.ctx fit.stacked (idle t.id t.view_is t.at u.ctx l way here) in
            absurd (none_some (sym (top.above u.ctx lt) ∙ (fit.mirrors.frames u.ctx ∙ r.1)))
      ]

  pub calm_or_works : IsCalm st.world ⊎ SomebodyWorks s
  calm_or_works = elim (each_or s.views Idle (λ id v. Above (length v.calls.frames) v.calls.holds)
      (λ id v at. above_or (length v.calls.frames) v.calls.holds)) [
        | inl idle ↦ inl (calm_by idle)
        | inr o ↦ inr (record {
          seat = o.id;
          view_is = o.view_is;
          at = o.at;
          ctx = o.is.ctx;
          lock = o.is.lock;
          way = o.is.way;
          holds = o.is.holds;
          above = o.is.high;
        })
      ]
