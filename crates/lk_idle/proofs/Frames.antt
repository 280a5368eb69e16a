-- Frames whose dead registers are at rest.
use Rattle.std.proofs.Common.{◌≡◌, Option, Some, None, Bool, true, false, ap, refl, sym, ◌∙◌}
use Rattle.std.proofs.Common.{if◌then◌else◌}
use Rattle.lk_idle.proofs.Names.{after_halt, Frame, Pc, C3, E12, W6, Why, cut, rested_frame}
use Rattle.lk_idle.proofs.Names.{lives_at, none_lives, Lives}
use Rattle.lk_rows.specs.declared.parts.Why.TheVariants as why

-- the reason lives where it is read
why_lives : (c : Option Pc) (w : Why)
    → lives_at c (if (lives_at c w).why then w else why.Append) ≡ lives_at c w
why_lives (Some C3) w = refl
why_lives c w = refl

-- at rest twice is at rest
once : {A : Type 0} (b : Bool) (x d : A) → (if b then (if b then x else d) else d) ≡ (if b then x else d)
once true x d = refl
once false x d = refl

cut_twice : (l : Lives) (f : Frame) → cut l (cut l f) ≡ cut l f
cut_twice l f = (λ i. record f {
  prev = once l.prev f.prev None i;
  second = once l.second f.second None i;
  y = once l.y f.y None i;
  a = once l.a f.a None i;
  b = once l.b f.b None i;
  k = once l.k f.k 0 i;
  t = once l.t f.t None i;
  why = once l.why f.why why.Append i;
  tailed = once l.tailed f.tailed false i;
  left = once l.left f.left 0 i;
  hashed = once l.hashed f.hashed false i;
  target = once l.target f.target None i;
})

pub rested_twice : (f : Frame) → rested_frame (rested_frame f) ≡ rested_frame f
rested_twice f =
    ap (λ l. cut l (rested_frame f)) (why_lives f.place f.why) ∙ cut_twice (lives_at f.place f.why) f

-- where no register lives, it does not matter which ones lived before
pub none_left : (f g : Frame) → cut none_lives g ≡ cut none_lives f
    → ((w : Why) → lives_at g.place w ≡ none_lives) → ((w : Why) → lives_at f.place w ≡ none_lives)
    → rested_frame g ≡ rested_frame f
none_left f g same new old =
    ap (λ k. cut k g) (new g.why) ∙ same ∙ sym (ap (λ k. cut k f) (old f.why))

-- the end of a halt leaves the same ones alive
pub halt_lives : (c : Option Pc) (w : Why) → lives_at (after_halt c) w ≡ lives_at c w
halt_lives (Some W6) w = refl
halt_lives (Some E12) w = refl
halt_lives c w = refl
