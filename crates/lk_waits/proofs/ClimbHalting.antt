-- The same where processors halt.
use Rattle.std.proofs.Common.{◌≡◌, ◌≢◌, ◌⊎◌, inl, inr, ℕ, zero, suc, ◌≤◌, ◌+◌, Option, Some, None}
use Rattle.std.proofs.Common.{Bool, true, false, refl, sym, ap, ◌∙◌, subst, arith, List, [], ◌∷◌}
use Rattle.std.proofs.Common.{slice_get, is_some, ◌&&◌, not}
use Rattle.lk_waits.proofs.Names.{Held, NodeName, get_cases, LockHistory, Spins, LockName, Waiter}
use Rattle.lk_waits.proofs.Names.{is_node, node_of, rw_name, Flag, Frame, Pc, E2, E3, E4, E5, E10}
use Rattle.lk_waits.proofs.Names.{E11, E12, E14, H1, R2, R5, U5, W6, Wr5, is_unlocked, is_node-own}
use Rattle.lk_waits.proofs.Names.{phase_on-here, follows_cases, rw_row_knows, LockAgrees, halts}
use Rattle.lk_waits.proofs.Names.{is_rw_row, Phase, leads, pends, queues, Holds, Idle, Links}
use Rattle.lk_waits.proofs.Names.{own_in, phase_at, phase_if, phase_on, snapshot, Snapshot, spins}
use Rattle.lk_waits.proofs.Names.{IsSoundWorld, spin_part, IsSoundSpinWorld, World, IsAwaited}
use Rattle.lk_waits.proofs.Names.{IsHeadServed, halts_as_head, looks_after, HoldsOutside, IsRanked}
use Rattle.lk_waits.proofs.Names.{IsTidy, IsTop, lock_at, polls}
use Rattle.lk_rows.specs.Acts.{stands_halting}
use Rattle.lk_law.proofs.{pv.Laws.halts_flat, queue.Lead.lead_first}
use Rattle.lk_law.specs.Cna.{FlatAgrees}
use Rattle.lk_waits.proofs.HaltingStands.{Stood, Sleeping, Turning, Looking, looks_on, stood}
use Rattle.lk_waits.proofs.{HaltingStands.{stood_polls, still_H1, still_E14}, Owning.owns}
use Rattle.lk_waits.proofs.Polling.{has_cases, owns_busy, pends_busy, leads_busy, links_busy}
use Rattle.lk_waits.proofs.Polling.{plain_lock, spins_is, locked_not, uncleared}
use Rattle.lk_waits.proofs.{Stands.{still_R2, still_R5, still_Wr5}, Tops.IsAt}
use Rattle.lk_waits.proofs.Under.{Next, written, read, over, under, under_phase}
use Rattle.lk_waits.specs.Halting.{IsAtRest, AtRestWaitForOutside}
use Rattle.lk_rows.specs.declared.parts.Flag.TheVariants as flag

-- which rows a frame may have, by its phase, where its next step leads it nowhere

owns_stood : (m : World) (u : Waiter) (g : Frame) (d : Pc) (b : Bool) (x y : NodeName) → Stood m u g d
    → owns (phase_at d b x y) ≡ true → d ≡ E14
owns_stood m u g E14 b x y s o = refl
owns_stood m u g d b x y (Sleeping h k) o = grind (arith, h, o)
owns_stood m u g d b x y (Turning h k) o = grind (arith, h, o)
owns_stood m u g d b x y (Looking h k) o = grind (arith, h, o)

pends_stood : (m : World) (u : Waiter) (g : Frame) (d : Pc) (b : Bool) (x y : NodeName) → Stood m u g d
    → pends (phase_at d b x y) ≡ true → (m.word g.lock).locked ≡ Held
pends_stood m u g d b x y (Turning h k) o = k
pends_stood m u g d b x y (Sleeping h k) o = absurd (grind (arith, h, o))
pends_stood m u g d b x y (Looking h k) o = absurd (grind (arith, h, o))

links_stood : (m : World) (u : Waiter) (g : Frame) (d : Pc) (b : Bool) (x y n : NodeName) → Stood m u g d
    → phase_at d b x y ≡ Links n → ⊥
links_stood m u g d b x y n (Sleeping h k) o = grind (arith, h, o)
links_stood m u g d b x y n (Turning h k) o = grind (arith, h, o)
links_stood m u g d b x y n (Looking h k) o = grind (arith, h, o)

looks_stood : (m : World) (u : Waiter) (g : Frame) (c d : Pc) → Stood m u g d → looks_after c d ≡ true → ⊥
looks_stood m u g c d (Sleeping h k) o = grind (arith, h, o)
looks_stood m u g c d (Turning h k) o = grind (arith, h, o)
looks_stood m u g c d (Looking h k) o = grind (arith, h, o)

owes_stood : (m : World) (u : Waiter) (g : Frame) → Stood m u g U5 → ⊥
owes_stood m u g (Sleeping h k) = cc h
owes_stood m u g (Turning h k) = cc h
owes_stood m u g (Looking h k) = cc h

looks_plain : (c d : Pc) → looks_after c d ≡ true → is_rw_row d ≡ false
looks_plain c d h = grind (arith, h)

-- a sleeper that leads is a head that halts
sleeping_head : (d : Pc) (b : Bool) (p y : NodeName) (x : Flag) → stands_halting (Some d) ≡ true
    → leads (phase_at d b p y) x ≡ true → halts_as_head d x ≡ true
sleeping_head E12 b p y x h o = refl
sleeping_head W6 b p y flag.Unset h o = cc o
sleeping_head W6 b p y flag.Go h o = refl
sleeping_head W6 b p y (flag.Second n) h o = refl
sleeping_head d b p y x h o = cc h

leads_looks : (d : Pc) (b : Bool) (p y : NodeName) (x : Flag) → looks_on d ≡ true → leads (phase_at d b p y) x ≡ true → d ≡ E14
leads_looks E14 b p y x h o = refl
leads_looks H1 true p y x h o = cc o
leads_looks H1 false p y x h o = cc o
leads_looks R2 b p y x h o = cc o
leads_looks R5 b p y x h o = cc o
leads_looks Wr5 b p y x h o = cc o
leads_looks d b p y x h o = cc h

module _ (level : LockName → ℕ) (bound : ℕ) (m : World) (hs : LockName → LockHistory)
    (ok : IsSoundWorld m hs) (on : halts m.mode ≡ true)
    (tidy : IsTidy m) (ranked : IsRanked level bound m) (served : IsHeadServed m) (rest : IsAtRest m) where
  abbrev spin : IsSoundSpinWorld m (spin_part m.kind hs)
  spin = ok.spins

  abbrev s : Snapshot
  s = snapshot m

  agrees : (l : LockName) → LockAgrees s (spin_part m.kind hs l) l
  agrees l = spin.agrees.locks l

  flat : (l : LockName) → FlatAgrees (m.word l).tail (s.phase l) s.own s.node (spin_part m.kind hs l).main
      (spin_part m.kind hs l).second (spin_part m.kind hs l).passes
  flat l = (agrees l).lists.flat (halts_flat m.mode on)

  stands : (u : Waiter) (g : Frame) (d : Pc) → IsTop m u g d → Stood m u g d
  stands u g d top = stood m (spin_part m.kind hs) u g d spin on tidy.shallow (ok.fits u g top.live).after top (rest u g d top)

  top_polls : (u : Waiter) (g : Frame) (d : Pc) → IsTop m u g d → polls d ≡ true
  top_polls u g d top = stood_polls m u g d (stands u g d top)

  meets_writer : (u : Waiter) (g : Frame) (d : Pc) → IsTop m u g d → (d ≡ R2) ⊎ (d ≡ R5) → (m.rw g.lock.index).writer ≡ true
  meets_writer u g d top (inl e) = by (subst (IsTop m u g) e top)
    where
      by : IsTop m u g R2 → (m.rw g.lock.index).writer ≡ true
      by t = at (stands u g R2 t)
        where
          at : Stood m u g R2 → (m.rw g.lock.index).writer ≡ true
          at (Sleeping h k) = cc h
          at (Turning h k) = cc h
          at (Looking h k) = still_R2 m u g (ok.fits u g t.live).after t.place k
  meets_writer u g d top (inr e) = by (subst (IsTop m u g) e top)
    where
      by : IsTop m u g R5 → (m.rw g.lock.index).writer ≡ true
      by t = at (stands u g R5 t)
        where
          at : Stood m u g R5 → (m.rw g.lock.index).writer ≡ true
          at (Sleeping h k) = cc h
          at (Turning h k) = cc h
          at (Looking h k) = still_R5 m u g (ok.fits u g t.live).after t.place k

  abbrev On : LockName → Type 0
  On l = Next level m (level l)

  works_on : (u : Waiter) (g : Frame) (d : Pc) (l : LockName) → m.frame u ≡ Some g → g.place ≡ Some d
      → lock_at d g ≡ l → (IsTop m u g d → On l) → On l
  works_on = under level bound m hs ok tidy ranked top_polls meets_writer

  works_in : (u : Waiter) (l : LockName) → s.phase l u ≢ Idle → ((a : IsAt m l u) → IsTop m u a.frame a.place → On l) → On l
  works_in = under_phase level bound m hs ok tidy ranked top_polls meets_writer

  own_is : (u : Waiter) (g : Frame) → m.frame u ≡ Some g → s.own u ≡ node_of g.me
  own_is u g live = ap own_in live

  -- a head that looks for the next has one that is about to link
  heads : (l : LockName) (u : Waiter) (g : Frame) → IsTop m u g E14 → g.lock ≡ l → s.phase l u ≡ Holds → On l
  heads l u g top lock holds =
      let q = (flat l).queue in
      let lead : leads (s.phase l u) ((m.node (s.own u)).flag) ≡ true = rw holds refl in
      let first = lead_first q u lead in
      let own = own_is u g top.live in
      let bare : (m.node (s.own u)).next ≡ None = ap (λ (n : NodeName). (m.node n).next) own ∙ unlinked (stands u g E14 top) in
      elim (get_cases (spin_part m.kind hs l).main 1) [
        | inl none ↦
            let tail : (m.word l).tail ≡ Some (s.own u) = q.ends.tail_is 0 u first none in
            let last : is_node (m.word g.lock).tail (node_of g.me) ≡ true =
            subst (λ (k : LockName). is_node (m.word k).tail (node_of g.me) ≡ true) (sym lock)
            (ap (λ (t : Option NodeName). is_node t (node_of g.me)) (tail ∙ ap Some own) ∙ is_node-own (Some (node_of g.me)) refl) in
            absurd (let z = served.followed u g top.live top.place in cc (z, last))
        | inr v ↦ elim (follows_cases (s.phase l v.0) (q.ends.behind 0 v.0 v.1).0) [
          | inl n ↦ works_in v.0 l (links_busy (s.phase l v.0) n.0 n.1)
              (λ a t. absurd (links_stood m v.0 a.frame a.place (is_some a.frame.me) (node_of a.frame.prev) (node_of a.frame.y) n.0
              (stands v.0 a.frame a.place t) (sym a.shows ∙ n.1)))
          | inr w ↦ absurd (let z = q.links.linked 0 u v.0 first v.1 w in cc (z, bare))
        ]
      ]
    where
      unlinked : Stood m u g E14 → (m.node (node_of g.me)).next ≡ None
      unlinked (Sleeping h k) = cc h
      unlinked (Turning h k) = cc h
      unlinked (Looking h k) = still_E14 m u g (ok.fits u g top.live).after top.place k

  -- who has the lock by its phase
  owning : (l : LockName) (u : Waiter) → owns (s.phase l u) ≡ true → On l
  owning l u o =
      works_in u l (owns_busy (s.phase l u) o)
      (λ a t.
      let d = owns_stood m u a.frame a.place (is_some a.frame.me) (node_of a.frame.prev) (node_of a.frame.y)
      (stands u a.frame a.place t) (ap owns (sym a.shows) ∙ o) in
      heads l u a.frame (subst (IsTop m u a.frame) d t) a.lock
      (a.shows ∙ ap (λ (c : Pc). phase_at c (is_some a.frame.me) (node_of a.frame.prev) (node_of a.frame.y)) d))

  -- a byte that is taken
  taken : (l : LockName) → is_unlocked (m.word l).locked ≡ false → On l
  taken l h = by (agrees l).holder refl
    where
      by : (o : Option Waiter) → (agrees l).holder ≡ o → On l
      by None e = absurd (locked_not (m.word l).locked h ((agrees l).hold.taken e))
      by (Some u) e = elim (has_cases (s.phase l u) (spins (m.held u l)) ((agrees l).hold.had u e)) [
        | inl o ↦ owning l u o
        | inr has ↦ over level bound m hs ok tidy ranked top_polls meets_writer u l Spins (spins_is (m.held u l) has)
      ]

  held : (l : LockName) (g : Frame) → g.lock ≡ l → (m.word g.lock).locked ≡ Held → On l
  held l g lock e = taken l (ap (λ (k : LockName). is_unlocked (m.word k).locked) (sym lock) ∙ ap is_unlocked e)

  -- pending that is set: its head goes around, since another holds the lock
  pending : (l : LockName) → (m.word l).pending ≡ true → On l
  pending l h =
      let u = (agrees l).pend.someone h in
      works_in u.0 l (pends_busy (s.phase l u.0) u.1)
      (λ a t. held l a.frame a.lock
      (pends_stood m u.0 a.frame a.place (is_some a.frame.me) (node_of a.frame.prev) (node_of a.frame.y)
      (stands u.0 a.frame a.place t) (ap pends (sym a.shows) ∙ u.1)))

  closed : (l : LockName) → is_unlocked (m.word l).locked && not (m.word l).pending ≡ false → On l
  closed l h = by (is_unlocked (m.word l).locked) refl (m.word l).pending refl
    where
      by : (a : Bool) → is_unlocked (m.word l).locked ≡ a → (p : Bool) → (m.word l).pending ≡ p → On l
      by false e p q = taken l e
      by true e true q = pending l q
      by true e false q =
          absurd (let z : is_unlocked (m.word l).locked && not (m.word l).pending ≡ true = rw (e, q) refl in cc (z, h))

  -- a head that has halted is awaited
  sleeping : (u : Waiter) (g : Frame) (d : Pc) (l : LockName) → g.lock ≡ l → IsAwaited m g.lock d u.cpu
      → m.kicked u.cpu ≡ false → On l
  sleeping u g d l lock (inl e) k =
      taken l (ap (λ (n : LockName). is_unlocked (m.word n).locked) (sym lock) ∙ ap is_unlocked e)
  sleeping u g d l lock (inr (inl z)) k =
      works_on z.by z.frame z.place l z.live z.at (plain_lock z.place z.frame (looks_plain d z.place z.looks) ∙ z.lock ∙ lock)
      (λ t. absurd (looks_stood m z.by z.frame d z.place (stands z.by z.frame z.place t) z.looks))
  sleeping u g d l lock (inr (inr (inl e))) k = absurd (cc (e, k))
  sleeping u g d l lock (inr (inr (inr z))) k =
      works_on z.by z.frame U5 l z.live z.at (z.lock ∙ lock) (λ t. absurd (owes_stood m z.by z.frame (stands z.by z.frame U5 t)))

  -- the first of the queue
  front : (l : LockName) (u : Waiter) → slice_get (spin_part m.kind hs l).main 0 ≡ Some u → On l
  front l u at_front =
      let lead = (flat l).queue.ends.first u at_front in
      works_in u l (leads_busy (s.phase l u) ((m.node (s.own u)).flag) lead)
      (λ a t. by a t (stands u a.frame a.place t)
      (ap (λ (n : NodeName). leads (phase_at a.place (is_some a.frame.me) (node_of a.frame.prev) (node_of a.frame.y)) (m.node n).flag)
      (sym (own_is u a.frame a.live))
      ∙ ap (λ (r : Phase). leads r ((m.node (s.own u)).flag)) (sym a.shows) ∙ lead))
    where
      by : (a : IsAt m l u) → IsTop m u a.frame a.place → Stood m u a.frame a.place
          → leads (phase_at a.place (is_some a.frame.me) (node_of a.frame.prev) (node_of a.frame.y)) (m.node (node_of a.frame.me)).flag ≡ true
          → On l
      by a t (Sleeping h k) lead =
          sleeping u a.frame a.place l a.lock
          (served.awaited u a.frame a.place a.live a.at
          (sleeping_head a.place (is_some a.frame.me) (node_of a.frame.prev) (node_of a.frame.y) (m.node (node_of a.frame.me)).flag h lead)) k
      by a t (Turning h k) lead = held l a.frame a.lock k
      by a t (Looking h k) lead =
          let d = leads_looks a.place (is_some a.frame.me) (node_of a.frame.prev) (node_of a.frame.y) (m.node (node_of a.frame.me)).flag h lead in
          heads l u a.frame (subst (IsTop m u a.frame) d t) a.lock
          (a.shows ∙ ap (λ (c : Pc). phase_at c (is_some a.frame.me) (node_of a.frame.prev) (node_of a.frame.y)) d)

  -- somebody stands in the queue
  queued : (l : LockName) (w : Waiter) → queues (s.phase l w) ≡ true → On l
  queued l w h = elim (get_cases (spin_part m.kind hs l).main 0) [
    | inl none ↦ absurd (let p = (flat l).queue.members.place w h in
        let z = empty (spin_part m.kind hs l).main none p.0 in (let y : None ≡ Some w = sym z ∙ p.1 in cc y))
    | inr u ↦ front l u.0 u.1
  ]
    where
      empty : (us : List Waiter) → slice_get us 0 ≡ None → (i : ℕ) → slice_get us i ≡ None
      empty [] h i = refl
      empty (u ∷ us) h i = cc h

  shown : (w : Waiter) (f : Frame) (c : Pc) → IsTop m w f c
      → s.phase f.lock w ≡ phase_at c (is_some f.me) (node_of f.prev) (node_of f.y)
  shown w f c top = ap (phase_on f.lock) top.live ∙ phase_on-here f.lock f refl
      ∙ ap (λ (d : Option Pc). phase_if d (is_some f.me) (node_of f.prev) (node_of f.y)) top.place

  writes : (i : ℕ) → m.kind i ≡ Rattle.lk_names.specs.declared.names.Kind.TheVariants.Rw → (m.rw i).writer ≡ true → On (rw_name i)
  writes = written level bound m hs ok tidy ranked top_polls meets_writer

  -- whoever stands, waits for one at a higher level
  climb : (w : Waiter) (f : Frame) (c : Pc) → IsTop m w f c → Stood m w f c → On (lock_at c f)
  climb w f W6 top z = queued f.lock w (ap queues (shown w f W6 top))
  climb w f E12 top z = queued f.lock w (ap queues (shown w f E12 top))
  climb w f E2 top (Turning h k) = held f.lock f refl k
  climb w f E3 top (Turning h k) = held f.lock f refl k
  climb w f E4 top (Turning h k) = held f.lock f refl k
  climb w f E5 top (Turning h k) = held f.lock f refl k
  climb w f E10 top (Turning h k) = held f.lock f refl k
  climb w f E11 top (Turning h k) = held f.lock f refl k
  climb w f H1 top (Looking h k) = closed f.lock (still_H1 m w f (ok.fits w f top.live).after top.place k)
  climb w f E14 top (Looking h k) = owning f.lock w (ap owns (shown w f E14 top))
  climb w f R2 top z = writes f.lock.index ((ok.fits w f top.live).rw R2 top.place refl) (meets_writer w f R2 top (inl refl))
  climb w f R5 top z = writes f.lock.index ((ok.fits w f top.live).rw R5 top.place refl) (meets_writer w f R5 top (inr refl))
  climb w f Wr5 top (Looking h k) =
      let is = (ok.fits w f top.live).rw Wr5 top.place refl in
      let known = (rw_row_knows Wr5 m hs w f ok top.live top.place refl).1 in
      elim (uncleared (m.rw f.lock.index) (still_Wr5 m w f (ok.fits w f top.live).after top.place k) known) [
        | inl e ↦ read level bound m hs ok tidy ranked top_polls meets_writer f.lock.index is e
        | inr e ↦ writes f.lock.index is e
      ]
  climb w f c top (Sleeping h k) = cc h
  climb w f c top (Turning h k) = cc h
  climb w f c top (Looking h k) = cc h

  -- so nobody stands, unless a lock is held outside
  ends : (n : ℕ) (w : Waiter) (f : Frame) (c : Pc) → IsTop m w f c → bound ≤ level (lock_at c f) + n → HoldsOutside m
  ends zero w f c top le = absurd (let b = ranked.below (lock_at c f) in omega (arith, b, le))
  ends (suc n) w f c top le = go (climb w f c top (stands w f c top)) (λ k g d at more. ends n k g d at more)
    where
      go : On (lock_at c f)
          → ((k : Waiter) (g : Frame) (d : Pc) → IsTop m k g d → bound ≤ level (lock_at d g) + n → HoldsOutside m)
          → HoldsOutside m
      go (inr out) next = out
      go (inl h) next = let more = h.more in next h.by h.frame h.place h.top (omega (arith, more, le))

pub at_rest_wait_for_outside : AtRestWaitForOutside
at_rest_wait_for_outside level bound m hs ok on tidy ranked served rest w f c top =
    ends level bound m hs ok on tidy ranked served rest bound w f c top (omega arith)
