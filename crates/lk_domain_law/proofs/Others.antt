-- The order of calls is kept where a value goes out or comes home, and where a halt ends.
use Rattle.std.proofs.Common.{◌≡◌, inl, inr, ℕ, ◌<◌, List, [], ◌∷◌, Option, Some, None, Bool, true, false, eqb, refl, sym, ap}
use Rattle.std.proofs.Common.{◌∙◌, subst}
use Rattle.std.proofs.lemmas.Bool.{cases_Bool}
use Rattle.std.specs.Prelude.{if◌then◌else◌, ◌&&◌}
use Rattle.lk_names.specs.Names.{same_lock}
use Rattle.lk_names.specs.declared.holder.Manner.{Manner}
use Rattle.lk_names.specs.declared.names.LockName.{LockName}
use Rattle.lk_rows.specs.Acts.{after_halt}
use Rattle.lk_rows.specs.declared.parts.Frame.{Frame}
use Rattle.lk_rows.specs.declared.parts.Pc.{Pc}
use Rattle.lk_rows.specs.declared.parts.Pc.TheVariants.{E12, W6}
use Rattle.lk_law.proofs.common.Puts.{if-true, if-false}
use Rattle.lk_domain.specs.Calls.{Hold, Running, frame_in, held_in, lock_name}
use Rattle.lk_domain.specs.Values.{marked_out}
use Rattle.lk_pvdomain.specs.PvPlays.{stirred}
use Rattle.lk_domain_law.specs.InOrder.{may_wait, may_wait_at}
use Rattle.lk_domain_law.specs.Kept.{HaltsKeepOrder, ValuesKeepOrder}
use Rattle.lk_domain_law.proofs.Newest.{none_some, some_is}

-- who holds what is as before
marked_less : (l : ℕ) (b : Bool) (hs : List Hold) (e : ℕ) (k : LockName) (way : Manner)
    → held_in (marked_out l b hs) e k ≡ Some way → held_in hs e k ≡ Some way
marked_less l b [] e k way is = is
marked_less l b (h ∷ hs) e k way is = by (same_lock h.lock (lock_name l)) is (λ z. marked_less l b hs e k way z)
  where
    behind : (a : Bool) → (held_in (marked_out l b hs) e k ≡ Some way → held_in hs e k ≡ Some way)
        → (if a then Some h.manner else held_in (marked_out l b hs) e k) ≡ Some way
        → (if a then Some h.manner else held_in hs e k) ≡ Some way
    behind true rest z = z
    behind false rest z = rest z

    by : (a : Bool) → held_in (if a then record h { out = b } ∷ hs else h ∷ marked_out l b hs) e k ≡ Some way
        → (held_in (marked_out l b hs) e k ≡ Some way → held_in hs e k ≡ Some way)
        → held_in (h ∷ hs) e k ≡ Some way
    by true z rest = z
    by false z rest = behind ((eqb e h.ctx) && same_lock k h.lock) rest z

pub values_keep_order : ValuesKeepOrder
values_keep_order rank c l out order d f at wait =
    let b = order d f at wait in (
      b.0,
      λ e k way le has. b.1 e k way le (marked_less l out c.holds e (lock_name k) way has),
    )

-- who waits behind a halt waited in it
waits_before : (f : Frame) (o : Option Pc) → may_wait_at (record f { place = after_halt o }) (after_halt o) ≡ true
    → may_wait_at f o ≡ true
waits_before f None h = h
waits_before f (Some W6) h = refl
waits_before f (Some E12) h = refl
waits_before f (Some c) h = h

-- the frame of a context before the halt ended
record Was (rs : List Running) (d : ℕ) (f : Frame) : Type 0 where
  frame : Frame
  is : frame_in rs d ≡ Some frame
  index : frame.lock.index ≡ f.lock.index
  waits : may_wait f ≡ true → may_wait frame ≡ true

was : (rs : List Running) (d : ℕ) (f : Frame) → frame_in (stirred rs) d ≡ Some f → Was rs d f
was [] d f is = absurd (none_some is)
was (r ∷ rs) d f is = elim (cases_Bool (eqb d r.frame.ctx)) [
  | inl e ↦
      let q : record r.frame { place = after_halt r.frame.place } ≡ f = some_is
      (sym (if-true (eqb d r.frame.ctx) (Some (record r.frame { place = after_halt r.frame.place })) (frame_in rs d) e) ∙ is) in
      record {
        frame = r.frame;
        is = if-true (eqb d r.frame.ctx) (Some r.frame) (frame_in rs d) e;
        index = ap (λ (y : Frame). y.lock.index) q;
        waits = λ h. waits_before r.frame r.frame.place (subst (λ (y : Frame). may_wait y ≡ true) (sym q) h);
      }
  | inr e ↦
      let below : frame_in rs d ≡ Some f =
      sym (if-false (eqb d r.frame.ctx) (Some (record r.frame { place = after_halt r.frame.place })) (frame_in rs d) e) ∙ is in
      record {
        frame = f;
        is = if-false (eqb d r.frame.ctx) (Some r.frame) (frame_in rs d) e ∙ below;
        index = refl;
        waits = λ h. h;
      }
]

pub halts_keep_order : HaltsKeepOrder
halts_keep_order rank c order d f at wait =
    let z = was c.frames d f at in
    let b = order d z.frame z.is (z.waits wait) in (
      λ e g lt at'.
          let y = was c.frames e g at' in
          subst (λ (n : ℕ). rank n < rank f.lock.index) y.index
          (subst (λ (n : ℕ). rank y.frame.lock.index < rank n) z.index (b.0 e y.frame lt y.is)),
      λ e k way le has. subst (λ (n : ℕ). rank k < rank n) z.index (b.1 e k way le has),
    )
