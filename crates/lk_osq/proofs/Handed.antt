-- In a lawful history each handover is taken.
use Rattle.std.proofs.Common.{◌≡◌, ◌≢◌, ◌⊎◌, ℕ, Some, None, List, [], ◌∷◌, inl, inr, arith, refl}
use Rattle.std.proofs.Common.{ap, subst}
use Rattle.lk_osq.specs.declared.events.OsqWhat.{OsqWhat}
use Rattle.lk_osq.specs.declared.events.OsqWhat.TheVariants.{TakeFree, Arrive, TakeHanded, Quit}
use Rattle.lk_osq.specs.declared.events.OsqWhat.TheVariants.{Release}
use Rattle.lk_osq.specs.declared.events.OsqEvent.{OsqEvent}
use Rattle.lk_osq.specs.History.{Told, told, Stands, IsLawful, IsLawfulAfter}
use Rattle.lk_osq.specs.Handed.{IsNoTake, TakesNext, WasReleasedTo, AreHanded}

-- who was handed the lock takes it, or another does something that is no take
one_more : (t : Told) (p : ℕ) (what : OsqWhat) (q : ℕ) → IsLawful t p what → t.handed ≡ Some q
    → ((p ≡ q) × (what ≡ TakeHanded)) ⊎ (p ≢ q) × IsNoTake what × ((told p what t).handed ≡ Some q)
one_more t p TakeFree q l h = absurd (grind (arith, l, h))
one_more t p Arrive q l h = inr ((λ e. l.0 (grind (arith, h, e))), tt, h)
one_more t p TakeHanded q l h = inl (grind (arith, l, h), refl)
one_more t p Quit q l h = inr ((λ e. l.0 (grind (arith, h, e))), tt, h)
one_more t p (Release None) q l h = absurd (grind (arith, l, h))
one_more t p (Release (Some y)) q l h = absurd (grind (arith, l, h))

takes_next : (es : List OsqEvent) (t : Told) (q : ℕ) → IsLawfulAfter es t → t.handed ≡ Some q
    → TakesNext q es
takes_next [] t q l h = tt
takes_next (e ∷ es) t q l h = elim (one_more t e.cpu e.what q l.1 h) [
  | inl a ↦ inl a
  | inr b ↦ inr (b.0, b.1, takes_next es (told e.cpu e.what t) q l.2 b.2)
]

-- where the lock is handed to q, it was handed by this event, or before it
before_it : (t : Told) (p : ℕ) (what : OsqWhat) (q : ℕ) → IsLawful t p what
    → (told p what t).handed ≡ Some q
    → (what ≡ Release (Some q)) ⊎ (p ≢ q) × IsNoTake what × (t.handed ≡ Some q)
before_it t p TakeFree q l h = absurd (grind (arith, l, h))
before_it t p Arrive q l h = inr ((λ e. l.0 (grind (arith, h, e))), tt, h)
before_it t p TakeHanded q l h = cc
before_it t p Quit q l h = inr ((λ e. l.0 (grind (arith, h, e))), tt, h)
before_it t p (Release None) q l h = absurd (grind (arith, l, h))
before_it t p (Release (Some y)) q l h = inl (ap Release h)

was_released : (past : List OsqEvent) (t : Told) (e : OsqEvent) → IsLawful t e.cpu e.what
    → ((q : ℕ) → t.handed ≡ Some q → WasReleasedTo q past)
    → (q : ℕ) → (told e.cpu e.what t).handed ≡ Some q → WasReleasedTo q (e ∷ past)
was_released past t e l was q h = elim (before_it t e.cpu e.what q l h) [
  | inl a ↦ inl a
  | inr b ↦ inr (b.0, b.1, was q b.2)
]

released : (t : Told) (p : ℕ) (what : OsqWhat) (q : ℕ) → IsLawful t p what → what ≡ Release (Some q)
    → Stands t.waiting q × ((told p what t).handed ≡ Some q)
released t p TakeFree q l e = cc
released t p Arrive q l e = cc
released t p TakeHanded q l e = cc
released t p Quit q l e = cc
released t p (Release None) q l e = cc
released t p (Release (Some y)) q l e = let s : y ≡ q =
    grind arith in (subst (Stands t.waiting) s l.2, ap Some s)

taken : (t : Told) (p : ℕ) (what : OsqWhat) → IsLawful t p what → what ≡ TakeHanded
    → t.handed ≡ Some p
taken t p TakeFree l e = cc
taken t p Arrive l e = cc
taken t p TakeHanded l e = l.1
taken t p Quit l e = cc
taken t p (Release x) l e = cc

pub are_handed : (past es : List OsqEvent) (t : Told) → IsLawfulAfter es t
    → ((q : ℕ) → t.handed ≡ Some q → WasReleasedTo q past) → AreHanded past es t
are_handed past [] t l was = tt
are_handed past (e ∷ es) t l was = (
  (λ q r. let k =
      released t e.cpu e.what q l.1 r in (k.0, takes_next es (told e.cpu e.what t) q l.2 k.1)),
  (λ r. was e.cpu (taken t e.cpu e.what l.1 r)),
  are_handed (e ∷ past) es (told e.cpu e.what t) l.2 (was_released past t e l.1 was),
)
