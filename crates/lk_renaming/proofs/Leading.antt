-- Where a row leads, renamed.
use Rattle.std.proofs.Common.{◌≡◌, ℕ, ◌+◌, ◌-◌, Option, Some, None, List, [], ◌∷◌, map, ap, refl}
use Rattle.std.proofs.Common.{◌∙◌, slice_get, if◌then◌else◌, ◌==◌, drop, suc}
use Rattle.lk_renaming.proofs.Names.{Machine, rest_node, top_frame, settled, A, B, Change, Done}
use Rattle.lk_renaming.proofs.Names.{Effect, Enters, Freed, Goes, Granted, Lead, Leaves, Missed}
use Rattle.lk_renaming.proofs.Names.{Nothing, Passes, Prev, Says, Second, T, Tailed, TakesWait}
use Rattle.lk_renaming.proofs.Names.{TargetIs, Y, Yields, applied, counted, entered, gone, Frame}
use Rattle.lk_renaming.proofs.Names.{Pc, Op, renamed, renamed_answer, renamed_frame, IsAmongAlike}
use Rattle.lk_renaming.proofs.Names.{Renaming}
use Rattle.lk_names.specs.declared.events.What.TheVariants.{Pass}
use Rattle.lk_rows.specs.Machine.{cpu_at, set_cpu, set_top, set_node, set_queued, set_counts}
use Rattle.lk_rows.specs.Machine.{queued_at}
use Rattle.lk_rows.specs.Moves.{program_of, started, settled_at, done, granted, missed, skipped}
use Rattle.lk_rows.specs.{Moves.{leave, waiting}, Programs.to_release}
use Rattle.lk_rows.specs.Row.{Counter, Tell, Left, K, Reason, HashedIs, moved, changed_all}
use Rattle.lk_rows.specs.Row.{with_change, event_of}
use Rattle.lk_renaming.proofs.Effects.{renamed_change, renamed_lead, renamed_tell, renamed_effect}
use Rattle.lk_renaming.proofs.Effects.{choose}
use Rattle.lk_renaming.proofs.Writes.{Renames, top-renamed, queued-renamed, waiter-renamed}
use Rattle.lk_renaming.proofs.Writes.{set_top-renamed, set_node-renamed, set_queued-renamed}
use Rattle.lk_renaming.proofs.Writes.{pop-renamed, top_kept, node_kept, queued_kept}
use Rattle.lk_renaming.specs.Renamed.{renamed_told}

-- registers that change

change-renamed : (r : Renaming) (f : Frame) (c : Change)
    → with_change (renamed_frame r f) (renamed_change r c) ≡ renamed_frame r (with_change f c)
change-renamed r f (Prev n) = refl
change-renamed r f (Second n) = refl
change-renamed r f (Y n) = refl
change-renamed r f (Left n) = refl
change-renamed r f (A n) = refl
change-renamed r f (B n) = refl
change-renamed r f (K n) = refl
change-renamed r f (T n) = refl
change-renamed r f (Reason n) = refl
change-renamed r f (Tailed b) = refl
change-renamed r f (HashedIs b) = refl
change-renamed r f (TargetIs n) = refl

changes-renamed : (r : Renaming) (f : Frame) (cs : List Change)
    → changed_all (renamed_frame r f) (map (λ c. renamed_change r c) cs) ≡ renamed_frame r (changed_all f cs)
changes-renamed r f [] = refl
changes-renamed r f (c ∷ cs) =
    ap (λ g. changed_all g (map (λ d. renamed_change r d) cs)) (change-renamed r f c)
    ∙ changes-renamed r (with_change f c) cs

-- machines with this setup, whose processors are renamed
module _ (r : Renaming) (p : ℕ) where
  module _ (m : Machine) (is : Renames r m) (alike : IsAmongAlike m.setup r) where
    settled_at-renamed : (f : Frame) (o : Option Op)
        → settled_at (renamed r m) (r.to p) (renamed_frame r f) o ≡ renamed r (settled_at m p f o)
    settled_at-renamed f None =
        choose (λ k. renamed r k) (f.ctx == 0) (f.ctx == 0) _ _ _ _ refl
        (set_top-renamed r m is p (record f { place = None })) (pop-renamed r m is p)
    settled_at-renamed f (Some o) = set_top-renamed r m is p (started m.setup.mode f o)

    pub settled-renamed : (f : Frame)
        → settled (renamed r m) (r.to p) (renamed_frame r f) ≡ renamed r (settled m p f)
    settled-renamed f =
        ap (λ ops. settled_at (renamed r m) (r.to p) (renamed_frame r f) (slice_get ops f.«at»))
        (alike.programs p f.program)
        ∙ settled_at-renamed f (slice_get (program_of m p f) f.«at»)

    pub done-renamed : done (renamed r m) (r.to p) ≡ renamed r (done m p)
    done-renamed =
        ap (λ (f : Frame). settled (renamed r m) (r.to p) (record f { «at» = f.«at» + 1 })) (top-renamed r m is p)
        ∙ settled-renamed (record (top_frame m p) { «at» = (top_frame m p).«at» + 1 })

    skipped-renamed : (f : Frame) → skipped (renamed r m) (r.to p) (renamed_frame r f) ≡ skipped m p f
    skipped-renamed f =
        ap (λ ops. suc (to_release (drop (f.«at» + 1) ops) f.lock.index)) (alike.programs p f.program)

    missed-renamed : missed (renamed r m) (r.to p) ≡ renamed r (missed m p)
    missed-renamed =
        let t = top_frame m p in
        ap (λ (f : Frame). settled (renamed r m) (r.to p)
        (record f { «at» = f.«at» + skipped (renamed r m) (r.to p) f })) (top-renamed r m is p)
        ∙ ap (λ k. settled (renamed r m) (r.to p) (record (renamed_frame r t) { «at» = t.«at» + k }))
        (skipped-renamed t)
        ∙ settled-renamed (record t { «at» = t.«at» + skipped m p t })

    pub granted-renamed : granted (renamed r m) (r.to p) ≡ renamed r (granted m p)
    granted-renamed =
        let t = top_frame m p in
        ap (λ (f : Frame). if f.lock.wait then set_top (renamed r m) (r.to p) (record f { place = f.then })
        else settled (renamed r m) (r.to p) (record f { «at» = f.«at» + 1 })) (top-renamed r m is p)
        ∙ choose (λ k. renamed r k) t.lock.wait t.lock.wait _ _ _ _ refl
        (set_top-renamed r m is p (record t { place = t.then }))
        (settled-renamed (record t { «at» = t.«at» + 1 }))

    leave-renamed : leave (renamed r m) (r.to p) ≡ renamed r (leave m p)
    leave-renamed =
        let t : Frame = record (top_frame m p) { me = None } in
        ap (λ n. set_queued (set_top (renamed r m) (r.to p) (record (top_frame (renamed r m) (r.to p)) { me = None }))
        (r.to p) (n - 1)) (queued-renamed r m is p)
        ∙ ap (λ (f : Frame). set_queued (set_top (renamed r m) (r.to p) (record f { me = None })) (r.to p)
        (queued_at m p - 1)) (top-renamed r m is p)
        ∙ ap (λ k. set_queued k (r.to p) (queued_at m p - 1)) (set_top-renamed r m is p t)
        ∙ set_queued-renamed r (set_top m p t) (top_kept r m is p t) p (queued_at m p - 1)

    leave_kept : Renames r (leave m p)
    leave_kept =
        let t : Frame = record (top_frame m p) { me = None } in
        queued_kept r (set_top m p t) (top_kept r m is p t) p (queued_at m p - 1)

  leave_setup : (m : Machine) → IsAmongAlike m.setup r → IsAmongAlike (leave m p).setup r
  unfolding set_queued set_top set_cpu
  leave_setup m alike = alike

  module _ (m : Machine) (is : Renames r m) (alike : IsAmongAlike m.setup r) where
    gone-renamed : (f : Frame) (c : Pc) (cs : List Change)
        → gone (renamed_frame r f) c (map (λ d. renamed_change r d) cs) ≡ renamed_frame r (gone f c cs)
    gone-renamed f c cs = ap (λ (g : Frame). record g { place = Some c }) (changes-renamed r f cs)

    goes : (f : Frame) (c : Pc) (cs : List Change)
        → set_top (renamed r m) (r.to p) (gone (renamed_frame r f) c (map (λ d. renamed_change r d) cs))
        ≡ renamed r (set_top m p (gone f c cs))
    goes f c cs =
        ap (λ g. set_top (renamed r m) (r.to p) g) (gone-renamed f c cs) ∙ set_top-renamed r m is p (gone f c cs)

    moved-renamed : (f : Frame) (lead : Lead)
        → moved (renamed r m) (r.to p) (renamed_frame r f) (renamed_lead r lead) ≡ renamed r (moved m p f lead)
    moved-renamed f (Goes c cs) = goes f c cs
    moved-renamed f (Enters None c) = set_top-renamed r m is p (entered f None c)
    moved-renamed f (Enters (Some n) c) =
        ap (λ k. set_top k (r.to p) (renamed_frame r (entered f (Some n) c))) (set_node-renamed r m is n rest_node)
        ∙ set_top-renamed r (set_node m n rest_node) (node_kept r m is n rest_node) p (entered f (Some n) c)
    moved-renamed f Granted = granted-renamed m is alike
    moved-renamed f Freed = done-renamed m is alike
    moved-renamed f Missed = missed-renamed m is alike
    moved-renamed f Done = done-renamed m is alike
    moved-renamed f (TakesWait c) = set_top-renamed r m is p (waiting f c)
    moved-renamed f Leaves =
        ap (λ k. granted k (r.to p)) (leave-renamed m is alike)
        ∙ granted-renamed (leave m p) (leave_kept m is alike) (leave_setup m alike)
    moved-renamed f (Yields c cs) = goes f c cs

  -- the counts stay
  counted-renamed : (m : Machine) (cs : List Counter) → counted (renamed r m) cs ≡ renamed r (counted m cs)
  unfolding set_counts cpu_at
  counted-renamed m [] = refl
  counted-renamed m (c ∷ cs) = refl

  counted_kept : (m : Machine) → Renames r m → (cs : List Counter) → Renames r (counted m cs)
  unfolding set_counts
  counted_kept m is [] = is
  counted_kept m is (c ∷ cs) = is

  counted_setup : (m : Machine) → IsAmongAlike m.setup r → (cs : List Counter) → IsAmongAlike (counted m cs).setup r
  unfolding set_counts
  counted_setup m alike [] = alike
  counted_setup m alike (c ∷ cs) = alike

  event-renamed : (m : Machine) → Renames r m → (f : Frame) (t : Tell)
      → event_of (renamed r m) (r.to p) (renamed_frame r f) (renamed_tell r t) ≡ renamed_told r (event_of m p f t)
  event-renamed m is f Nothing = refl
  event-renamed m is f (Says what) = refl
  event-renamed m is f (Passes n k) =
      ap (λ u. Some (record { by = record { cpu = r.to p; ctx = f.ctx }; what = Pass f.lock u k }))
      (waiter-renamed r m is n)

  -- What a row does, on m and on the same after its store, n.
  pub applied-renamed : {A : Type 0} (h : A → A) (m n : Machine) → Renames r m → Renames r n
      → IsAmongAlike n.setup r → (f : Frame) (o : Effect A)
      → applied (renamed r m) (renamed r n) (r.to p) (renamed_frame r f) (renamed_effect r h o)
      ≡ renamed_answer r (applied m n p f o)
  applied-renamed h m n is at alike f o =
      let all =
      ap (λ k. moved k (r.to p) (renamed_frame r f) (renamed_lead r o.leads)) (counted-renamed n o.counts)
      ∙ moved-renamed (counted n o.counts) (counted_kept n at o.counts) (counted_setup n alike o.counts) f o.leads in
      (λ i. (all i, event-renamed m is f o.tells i))
