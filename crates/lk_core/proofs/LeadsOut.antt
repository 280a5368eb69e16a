-- The leads that end an operation: it is done, it has missed, or its frame has left the slow path.
use Rattle.std.proofs.Common.{◌≡◌, ℕ, Option, Some, None, Bool, true, false, ap, ◌<◌, ◌+◌, ◌-◌}
use Rattle.std.proofs.Common.{refl, sym, ◌∙◌, subst, length, if◌then◌else◌}
use Rattle.lk_core.proofs.Names.{same_Some, same_waiter, LockName, Mode, Waiter, HasTop, Machine}
use Rattle.lk_core.proofs.Names.{top_of, leave, settled, skipped, Frame, Pc, Verb, same_waiter-self}
use Rattle.lk_core.proofs.Names.{Fits, Footing, Freeing, Owing, RwBelongs, Sharing, Spinning}
use Rattle.lk_core.proofs.Names.{Waiting, held_at, world, put_frame, put_queued, World}
use Rattle.lk_rows.specs.{Machine.{frame_at, queued_at, set_top, set_queued}, Moves.{done, missed}}
use Rattle.lk_core.proofs.{Access.top_frame-is, Moved.{Ready, works_kept, holding_same}}
use Rattle.lk_core.proofs.Same.{KeepsFrames, same_then, top_same, same_set_top, same_set_queued}
use Rattle.lk_core.proofs.{Same.{whole_same, fits_kept}, Seated.{alike, seated, world-set_top}}
use Rattle.lk_core.proofs.{Settle.fits_all, Worlds.world-set_queued}

-- a stage depends on the lock alone
pub same_stage : (mode : Mode) (v : Verb) (f g : Frame) (c : Pc) → g.lock ≡ f.lock
    → Footing mode v f c → Footing mode v g c
same_stage mode v f g c lock (Spinning a b d) =
    Spinning (ap (λ (l : LockName). l.wait) lock ∙ a) b d
same_stage mode v f g c lock (Sharing b d) =
    Sharing b (subst (λ (l : LockName). RwBelongs v l.wait c) (sym lock) d)
same_stage mode v f g c lock (Waiting a b e t d) =
    Waiting (ap (λ (l : LockName). l.wait) lock ∙ a) b e t d
same_stage mode v f g c lock (Freeing a b e t d) =
    Freeing (ap (λ (l : LockName). l.wait) lock ∙ a) b e t d
same_stage mode v f g c lock (Owing m is plain waits) =
    let wait = ap (λ (l : LockName). l.wait) (sym lock) in
    Owing m is (λ e. plain (wait ∙ e)) (λ e. waits (wait ∙ e))

-- the top frame leaves the slow path
abbrev pub left : Machine → ℕ → Frame → Machine
left n p f = set_queued (set_top n p (record f { me = None })) p (queued_at n p - 1)

module _ (n : Machine) (p : ℕ) (f : Frame) (c : Pc) (r : Ready n p f c) where
  abbrev w : Waiter
  w = top_of n p

  abbrev e : Frame
  e = record f { me = None }

  top : HasTop n p
  top = r.whole.tops p r.range

  pub left_same : KeepsFrames n (left n p f)
  left_same =
      same_then n (set_top n p e) (left n p f) (same_set_top n p e)
      (same_set_queued (set_top n p e) p (queued_at n p - 1))

  pub left_world : world (left n p f)
      ≡ put_queued (put_frame (world n) w (Some e)) p (queued_at n p - 1)
  left_world =
      let in_top : p < length (set_top n p e).cpus = rw (same_set_top n p e).keeps.cpus r.range in
      let seat : seated n w (Some e) ≡ put_frame (world n) w (Some e) =
      holding_same (world n) w (Some e) (λ l. held_at n w l (Some e))
      (λ l. sym (ap (held_at n w l) r.live)) in
      world-set_queued (set_top n p e) p (queued_at n p - 1) in_top
      ∙ ap (λ (x : World). put_queued x p (queued_at n p - 1)) (world-set_top n p e top ∙ seat)

  pub left_frames : (u : Waiter)
      → frame_at (left n p f) u ≡ (if same_waiter u w then Some e else frame_at n u)
  left_frames u = ap (λ (x : World). x.frame u) left_world

  pub left_fit : Fits n w e
  left_fit =
      let o = r.fits w f r.live in
      record {
        ctx = o.ctx;
        program = o.program;
        within = o.within;
        finished = o.finished;
        working = λ d q. let x = o.working d q in
            record {
              op = x.op;
              is = x.is;
              lock = x.lock;
              stage = same_stage n.setup.mode x.op.verb f e d refl x.stage;
              after = x.after;
            };
        prev = o.prev;
        target = o.target;
      }

  abbrev pub left_ready : Ready (left n p f) p e c
  left_ready =
      record {
        whole = whole_same n (left n p f) r.whole left_same;
        range = rw left_same.keeps.cpus r.range;
        fits = fits_all n (left n p f) w (Some e) left_same.keeps left_frames
            (λ x q. subst (λ (y : Frame). Fits (left n p f) w y) (same_Some e x q)
            (fits_kept n (left n p f) w e left_same.keeps left_fit)) (λ u x ne q. r.fits u x q);
        live = ap (frame_at (left n p f)) (top_same n (left n p f) p left_same) ∙ left_frames w
            ∙ ap (λ (b : Bool). if b then Some e else frame_at n w) (same_waiter-self w);
        works = works_kept n.setup (left n p f).setup p e c left_same.keeps.setup
            (record {
              op = r.works.op;
              is = r.works.is;
              lock = r.works.lock;
              stage = same_stage n.setup.mode r.works.op.verb f e c refl r.works.stage;
              after = r.works.after;
            });
      }

  pub leave_is : leave n p ≡ left n p f
  leave_is =
      ap (λ (x : Frame). set_queued (set_top n p (record x { me = None })) p (queued_at n p - 1))
      (top_frame-is n p f r.live)

pub done_is : (n : Machine) (p : ℕ) (f : Frame) → frame_at n (top_of n p) ≡ Some f
    → done n p ≡ settled n p (record f { «at» = f.«at» + 1 })
done_is n p f live =
    ap (λ (x : Frame). settled n p (record x { «at» = x.«at» + 1 })) (top_frame-is n p f live)

pub missed_is : (n : Machine) (p : ℕ) (f : Frame) → frame_at n (top_of n p) ≡ Some f
    → missed n p ≡ settled n p (record f { «at» = f.«at» + skipped n p f })
missed_is n p f live =
    ap (λ (x : Frame). settled n p (record x { «at» = x.«at» + skipped n p x }))
    (top_frame-is n p f live)

-- a second write of a frame hides the first
pub rewritten : (x : World) (v : Waiter) (a b : Option Frame) (p i : ℕ)
    → put_frame (put_queued (put_frame x v a) p i) v b ≡ put_frame (put_queued x p i) v b
rewritten x v a b p i =
    alike (put_frame (put_queued (put_frame x v a) p i) v b) (put_frame (put_queued x p i) v b)
    (record {
      mode = refl;
      turns = refl;
      threshold = refl;
      format = refl;
      sockets = refl;
      word = λ l. refl;
      node = λ k. refl;
      frame = λ u. by (same_waiter u v) (x.frame u);
      held = λ u l. refl;
      queued = λ q. refl;
      rw = λ i. refl;
      kind = λ i. refl;
      entry = λ k. refl;
      halted = λ q. refl;
      kicked = λ q. refl;
    })
  where
    by : (t : Bool) (z : Option Frame)
        → (if t then b else (if t then a else z)) ≡ (if t then b else z)
    by true z = refl
    by false z = refl
