-- A call that waits for nothing, a try or a release, comes to no row at which it waits.
use Rattle.std.proofs.Common.{◌≡◌, Some, None, Bool, true, false, refl, ap}
use Rattle.std.specs.Prelude.{if◌then◌else◌, not}
use Rattle.lk_rows.specs.declared.parts.Frame.{Frame}
use Rattle.lk_rows.specs.declared.parts.Pc.{Pc}
use Rattle.lk_rows.specs.declared.parts.Pc.TheVariants.{T1, T2, U1, U2, U3, U4, U5, Y1, Y2, Y3, Y4, Y5, Z1, Z2}
use Rattle.lk_rows.specs.Row.{Effect}
use Rattle.lk_rows.specs.TopRow.{target}
use Rattle.lk_rows.specs.rows.Cna.{is_held}
use Rattle.lk_rows.specs.rows.Rw.{is_empty, is_open}
use Rattle.lk_rows.specs.rows.Spin.{is_free}
use Rattle.lk_law.specs.Leads.{Met, Word, Shared, Named, Marked, Setting, course_at}
use Rattle.lk_law.specs.Steps.{led}
use Rattle.lk_domain_law.specs.InOrder.{may_wait, may_wait_at}

either : {A : Type 0} (f : Frame) (b : Bool) (x y : Effect A) → may_wait (led f x.leads) ≡ false
    → may_wait (led f y.leads) ≡ false → may_wait (led f (if b then x else y).leads) ≡ false
either f true x y h k = h
either f false x y h k = k

not_twice : (b : Bool) → not (not b) ≡ false → b ≡ false
not_twice true h = h
not_twice false h = h

-- a try that has its lock is over
tried : (f : Frame) → f.lock.wait ≡ false → may_wait (record f { place = if f.lock.wait then f.then else None }) ≡ false
tried f e = ap (λ (b : Bool). may_wait (record f { place = if b then f.then else None })) e

pub quiet : (s : Setting) (f : Frame) (c : Pc) (y : Met) → may_wait_at f (Some c) ≡ false
    → may_wait (led f (course_at s c f (target c f) y).leads) ≡ false
quiet s f T1 (Word x) h = either f (is_free x) _ _ h refl
quiet s f T1 _ h = h
quiet s f T2 (Word x) h = either f (is_free x) _ _ (tried f (not_twice f.lock.wait h)) refl
quiet s f T2 _ h = h
quiet s f U1 (Word x) h = refl
quiet s f U1 _ h = refl
quiet s f U2 (Word x) h = either f (is_held x.locked) _ _ refl refl
quiet s f U2 _ h = refl
quiet s f U3 (Named x) h = refl
quiet s f U3 _ h = refl
quiet s f U4 (Word x) h = refl
quiet s f U4 _ h = refl
quiet s f U5 (Marked b) h = refl
quiet s f U5 _ h = refl
quiet s f Y1 (Shared x) h = either f (is_open x) _ _ refl refl
quiet s f Y1 _ h = refl
quiet s f Y2 (Shared x) h = either f (is_open x) _ _ refl refl
quiet s f Y2 _ h = refl
quiet s f Y3 (Shared x) h = refl
quiet s f Y3 _ h = refl
quiet s f Y4 (Shared x) h = either f (is_empty x) _ _ refl refl
quiet s f Y4 _ h = refl
quiet s f Y5 (Shared x) h = either f (is_empty x) _ _ refl refl
quiet s f Y5 _ h = refl
quiet s f Z1 (Shared x) h = refl
quiet s f Z1 _ h = refl
quiet s f Z2 (Shared x) h = refl
quiet s f Z2 _ h = refl
quiet s f _ y h = cc h
