-- A call that goes on.
use Rattle.std.proofs.Common.{◌≡◌, inl, inr, List, [], ◌∷◌, eq-eqb, arith, Option, Some, None, Bool}
use Rattle.std.proofs.Common.{true, false, refl, sym, ap, ◌∙◌, if◌then◌else◌, ◌&&◌}
use Rattle.lk_domain.proofs.Names.{cases_Bool, LockName, Mode, Cna, Native, Pv, Virt, first_place}
use Rattle.lk_domain.proofs.Names.{Pc, F1, R1, T1, U1, U2, Wr1, Y1, Y4, Z1, Z2, Verb, Lock, RUnlock}
use Rattle.lk_domain.proofs.Names.{Read, Try, TryRead, TryWrite, Unlock, WUnlock, Write, if-false}
use Rattle.lk_domain.proofs.Names.{if-true, Begins, Calls, Running, StandsOn, acting, begin, is_on}
use Rattle.lk_domain.proofs.Names.{is_verb, Plan}

-- an operation is itself
verb_same : (v : Verb) → is_verb v v ≡ true
verb_same Lock = refl
verb_same Try = refl
verb_same Unlock = refl
verb_same Read = refl
verb_same TryRead = refl
verb_same RUnlock = refl
verb_same Write = refl
verb_same TryWrite = refl
verb_same WUnlock = refl

-- the newest call goes on
module _ (c : Calls) (v : Verb) (n : LockName) (pc : Pc) (at : StandsOn c v n pc) where
  on_it : is_on c.frames v n.index ≡ true
  on_it =
      ap (λ (xs : List Running). is_on xs v n.index) at.is
      ∙ (λ i. verb_same v i && eq-eqb at.frame.lock.index n.index (ap (λ (z : LockName). z.index) at.lock) i)

  pub acting_is : (mode : Mode) → acting mode c v n.index ≡ c
  acting_is mode = ap (λ b. if b then c else begin mode c v n.index) on_it

  abbrev pub acts_on : (mode : Mode) → StandsOn (acting mode c v n.index) v n pc
  acts_on mode =
      record {
        frame = at.frame;
        trail = at.trail;
        rest = at.rest;
        is = ap (λ (x : Calls). x.frames) (acting_is mode) ∙ at.is;
        place = at.place;
        lock = at.lock;
      }

  pub begins_on : (k : Plan) → Begins k c v n.index
  begins_on k off = absurd (let t : true ≡ false = sym on_it ∙ off in let z : ⊥ = cc in z)

-- the row is the first of a call of the operation
abbrev pub is_first_of : Pc → Verb → Bool
is_first_of F1 Lock = true
is_first_of T1 Try = true
is_first_of U1 Unlock = true
is_first_of U2 Unlock = true
is_first_of R1 Read = true
is_first_of Y1 TryRead = true
is_first_of Z1 RUnlock = true
is_first_of Wr1 Write = true
is_first_of Y4 TryWrite = true
is_first_of Z2 WUnlock = true
is_first_of _ _ = false

first_is : (mode : Mode) (v : Verb) → is_first_of (first_place mode v) v ≡ true
first_is mode Lock = refl
first_is mode Try = refl
first_is Virt Unlock = refl
first_is Native Unlock = refl
first_is Cna Unlock = refl
first_is Pv Unlock = refl
first_is mode Read = refl
first_is mode TryRead = refl
first_is mode RUnlock = refl
first_is mode Write = refl
first_is mode TryWrite = refl
first_is mode WUnlock = refl

abbrev top_place : List Running → Option Pc
top_place [] = None
top_place (r ∷ rs) = r.frame.place

some_is : {a b : Pc} → Some a ≡ Some b → a ≡ b
some_is e = grind (arith, e)

-- a call that makes another row than its first is the newest already
module _ (mode : Mode) (c : Calls) (v : Verb) (n : LockName) (pc : Pc)
    (at : StandsOn (acting mode c v n.index) v n pc) (later : is_first_of pc v ≡ false) where
  on_now : is_on c.frames v n.index ≡ true
  on_now = elim (cases_Bool (is_on c.frames v n.index)) [
    | inl on ↦ on
    | inr off ↦ absurd (
        let is : Some pc ≡ Some (first_place mode v) =
        sym at.place
        ∙ ap top_place (sym at.is ∙ ap (λ (z : Calls). z.frames) (if-false (is_on c.frames v n.index) c (begin mode c v n.index) off)) in
        let e : true ≡ false = sym (first_is mode v) ∙ (ap (λ (z : Pc). is_first_of z v) (sym (some_is is)) ∙ later) in
        let z : ⊥ = cc in z)
  ]

  pub acting_now : acting mode c v n.index ≡ c
  acting_now = if-true (is_on c.frames v n.index) c (begin mode c v n.index) on_now
