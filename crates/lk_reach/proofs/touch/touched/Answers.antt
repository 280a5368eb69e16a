use Rattle.std.proofs.Common.{arith, ◌≡◌, ◌-◌, ℕ, List, [], ◌∷◌, zero, suc, ap, length, refl}
use Rattle.std.proofs.Common.{slice_get}
use Rattle.std.specs.Prelude.{unwrap_or}
use Rattle.lk_reach.proofs.Names.{Machine, rest_frame, top_frame, Frame, Touches}
use Rattle.lk_rows.specs.Machine.{cpu_at, depth_at, frame_at}
use Rattle.lk_touch.specs.Touching.{other_at}
use Rattle.lk_reach.proofs.touch.touched.Goals as goal

-- where there are no frames the newest one is at rest
no_frame : (fs : List Frame) (n : ℕ) → length fs ≡ 0 → unwrap_or (slice_get fs n) rest_frame ≡ rest_frame
no_frame [] zero none = refl
no_frame [] (suc n) none = refl
no_frame (f ∷ fs) n none = absurd (omega (arith, none))

at_rest : (m : Machine) (p : ℕ) → depth_at m p ≡ 0 → top_frame m p ≡ rest_frame
unfolding frame_at depth_at
at_rest m p none = no_frame (cpu_at m p).frames (length (cpu_at m p).frames - 1) none

-- so its step touches nobody else
touches_none : (m : Machine) (p : ℕ) → depth_at m p ≡ 0 → Touches m p p
touches_none m p none = ap (λ (f : Frame). other_at f.place f p) (at_rest m p none)

pub returns-then-depth-eq0 : goal.returns-then-depth-eq0
returns-then-depth-eq0 c =
    let is = c.depth-depth.ensures in
    let none = c.if-depth-eq0.true in
    touches_none c.args.machine.now c.args.cpu (omega (arith, is, none))
