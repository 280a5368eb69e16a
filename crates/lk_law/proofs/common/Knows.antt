-- What a sound world says of the word and the nodes that a row meets.
use Rattle.std.proofs.Common.{◌≡◌, ◌≢◌, Option, Some, None, false, true, slice_get, arith, ap, refl}
use Rattle.std.proofs.Common.{sym, ◌∙◌, subst, is_some}
use Rattle.lk_law.proofs.Names.{Locked, Free, Held, Slow, NodeName, LockHistory, LockName, Waiter}
use Rattle.lk_law.proofs.Names.{rest_node, node_of, Unset, Frame, Pc, C1, C2, C3, C4, C5, C6, C7}
use Rattle.lk_law.proofs.Names.{C8, C9, C10, E6, E8, E9, E13, E14, E15, G2, G3, G4, G5, G6, G7, G8}
use Rattle.lk_law.proofs.Names.{G9, G10, G11, K1, K2, K3, P2, P3, P4, U1, U2, U3, U4, LockAgrees}
use Rattle.lk_law.proofs.Names.{Owed, halts, node_state, moves_aside, may_halt, IsOwnNode, Phase}
use Rattle.lk_law.proofs.Names.{claims, has_lock, has_node, pends, queues, Hands, Links, Prepared}
use Rattle.lk_law.proofs.Names.{Releases, own_in, phase_at, phase_if, phase_on, post_at, post_if}
use Rattle.lk_law.proofs.Names.{post_on, snapshot, Uses, Post, PostsAgree, bare, fronts, names}
use Rattle.lk_law.proofs.Names.{one_at, post_full, post_holds, raw, slow_at, Finds, Signs, Snapshot}
use Rattle.lk_law.proofs.Names.{spins, IsSoundSpinWorld, World}
use Rattle.lk_law.proofs.common.Families.{lists_main, lists_none, lists_rest, lists_met, lists_last}
use Rattle.lk_law.proofs.{common.Puts.not-true, common.Users.{user_of, own_node}}
use Rattle.lk_law.proofs.common.Worlds.{phase_on-here, post_on-here, sleeper_halts}
use Rattle.lk_law.proofs.pv.Find.{finds_some}
use Rattle.lk_law.proofs.pv.Laws.{para, para_queue, para_taken, para_leads, halts_flat}
use Rattle.lk_law.specs.Known.{RowKnows, TailIsUsed, NextIsUsed, HaltingNextIsUsed}
use Rattle.lk_law.specs.Known.{NamedFrontIsUsed, EntryIsUsed, NobodyHalts, names_front, front_named}

held_byte : (b : Locked) → b ≢ Free → b ≢ Slow → b ≡ Held
held_byte Free post_full quick = absurd (post_full refl)
held_byte Held post_full quick = refl
held_byte Slow post_full quick = absurd (quick refl)

tail_some : (tail : Option NodeName) → (tail ≡ None → ⊥) → is_some tail ≡ true
tail_some None h = absurd (h refl)
tail_some (Some n) h = refl

module _ {m : World} {hs : LockName → LockHistory} {w : Waiter} {f : Frame} {c : Pc}
    (ok : IsSoundSpinWorld m hs) (live : m.frame w ≡ Some f) (place : f.place ≡ Some c) where
  abbrev r : Phase
  r = phase_at c (is_some f.me) (node_of f.prev) (node_of f.y)

  shown : (snapshot m).phase f.lock w ≡ r
  shown = ap (phase_on f.lock) live ∙ phase_on-here f.lock f refl
      ∙ ap (λ (d : Option Pc). phase_if d (is_some f.me) (node_of f.prev) (node_of f.y)) place

  agrees : LockAgrees (snapshot m) (hs f.lock) f.lock
  agrees = ok.agrees.locks f.lock

  own_is : (snapshot m).own w ≡ node_of f.me
  own_is = ap own_in live

  taken : halts m.mode ≡ false → has_lock r (spins (m.held w f.lock)) ≡ true
      → (m.word f.lock).locked ≡ Held
  taken awake h =
      let mine =
      agrees.hold.has w (ap (λ (p : Phase). has_lock p (spins (m.held w f.lock))) shown ∙ h) in
      held_byte (m.word f.lock).locked (λ e.
      let none = agrees.hold.free e in grind arith) (ok.plain.byte awake f.lock)

  released : halts m.mode ≡ false → r ≡ Releases → (m.word f.lock).locked ≡ Held
  released awake e = let h = agrees.hold.releases w (shown ∙ e) in taken awake (grind (arith, e, h))

  pending : pends r ≡ true → (m.word f.lock).pending ≡ true
  pending h = agrees.pend.set w (ap pends shown ∙ h)

  free : claims r ≡ true → (m.word f.lock).locked ≡ Free
  free h = agrees.pend.free w (ap claims shown ∙ h)

  queued : queues r ≡ true → is_some (m.word f.lock).tail ≡ true
  queued h = tail_some (m.word f.lock).tail (λ e. lists_none agrees.lists e w (ap queues shown ∙ h))

  rests : r ≡ Prepared → m.node (node_of f.me) ≡ rest_node
  rests e =
      subst (λ (n : NodeName). m.node n ≡ rest_node) own_is (lists_rest agrees.lists w (shown ∙ e))

  unlinked : (p : NodeName) → r ≡ Links p → (m.node p).next ≡ None
  unlinked p e = (lists_met agrees.lists w p (shown ∙ e)).next

  unflagged : (n : NodeName) → moves_aside m.mode ≡ false → r ≡ Hands n → (m.node n).flag ≡ Unset
  unflagged n plain e =
      let q = (agrees.lists.flat plain).queue in
      let v = q.links.hand w n (shown ∙ e) in
      ap (λ (k : NodeName). (m.node k).flag) (sym v.3) ∙ (q.ends.behind 0 v.0 v.1).1

-- where processors halt, by its post
module _ {m : World} {hs : LockName → LockHistory} {w : Waiter} {f : Frame} {c : Pc}
    (ok : IsSoundSpinWorld m hs) (live : m.frame w ≡ Some f) (place : f.place ≡ Some c) where
  abbrev s : Snapshot
  s = snapshot m

  abbrev l : LockName
  l = f.lock

  halting_at : may_halt c ≡ true → halts m.mode ≡ true
  halting_at h = (ok.registers w f live).choice.halting c place h

  flat_of : may_halt c ≡ true → moves_aside m.mode ≡ false
  flat_of h = halts_flat m.mode ((ok.registers w f live).choice.halting c place h)

  posted : s.post l w ≡ post_at c f
  posted = ap (post_on l) live ∙ post_on-here l f refl ∙ ap (λ (o : Option Pc). post_if o f) place

  freed_not : phase_at c (is_some f.me) (node_of f.prev) (node_of f.y) ≡ Releases
      → (m.word l).locked ≢ Free
  freed_not e free =
      let o = ok.agrees.locks l in
      let was : s.phase l w ≡ Releases = shown ok live place ∙ e in
      let mine = o.hold.has w (let h = o.hold.releases w was in grind (arith, was, h)) in
      let none = o.hold.free free in
      grind (arith, mine, none)

  module _ (on : halts m.mode ≡ true) where
    posts : PostsAgree (m.word l).locked (m.entry l) (slice_get (hs l).main 0) (s.post l)
        (node_state s) s.own (λ u. Owed s u.cpu)
    posts = (para ok.agrees on l).posts

    byte_slow : slow_at (post_at c f) ≡ true → (m.word l).locked ≡ Slow
    byte_slow h = posts.slow w (ap slow_at posted ∙ h)

    byte_one : one_at (post_at c f) ≡ true → (m.word l).locked ≡ Held
    byte_one h = posts.one w (ap one_at posted ∙ h)

    byte_full : post_full (post_at c f) ≡ true → post_holds (post_at c f) ≡ true
        → (m.word l).locked ≡ Held
    byte_full h k =
        held_byte (m.word l).locked (para_taken ok.agrees on l w (ap post_holds posted ∙ k))
        (posts.full_slow w (ap post_full posted ∙ h))

    own_entry : post_full (post_at c f) ≡ true → m.entry l ≡ Some (node_of f.me)
    own_entry h = posts.full_entry w (ap post_full posted ∙ h) ∙ ap Some (own_is ok live place)

    bare_slow : bare (post_at c f) ≡ true → (m.word l).locked ≡ Slow
    bare_slow h = posts.bare_slow w (ap bare posted ∙ h)

    bare_entry : bare (post_at c f) ≡ true → m.entry l ≡ None
    bare_entry h = posts.bare_entry w (ap bare posted ∙ h)

    -- who finds the byte slow finds an entry
    some_entry : post_at c f ≡ Finds → is_some (m.entry l) ≡ true
    some_entry e = finds_some ok.agrees on l w (posted ∙ e)

    unentered : post_at c f ≡ Signs → m.entry l ≡ None
    unentered e =
        no_entry (m.entry l) (λ n q.
        let at = para_leads ok.agrees on l w (ap fronts (posted ∙ e)) in
        let quick = posts.raw_slow w at (ap (λ (p : Post). raw p (node_state s w)) (posted ∙ e)) in
        let u = posts.full_some n q quick in
        let first = para_leads ok.agrees on l u.0 (full_fronts (s.post l u.0) u.1) in
        let same : u.0 ≡ w = grind (arith, first, at) in
        let z : post_full (s.post l w) ≡ true =
        ap (λ (v : Waiter). post_full (s.post l v)) (sym same) ∙ u.1 in
        let k = ap post_full (posted ∙ e) in
        grind (arith, z, k))
      where
        full_fronts : (p : Post) → post_full p ≡ true → fronts p ≡ true
        full_fronts p h = grind arith

        no_entry : (o : Option NodeName) → ((n : NodeName) → o ≡ Some n → ⊥) → o ≡ None
        no_entry None h = refl
        no_entry (Some n) h = absurd (h n refl)

-- in each row by its phase
pub row_knows : (c : Pc) → RowKnows c
row_knows U1 m hs w f ok live place = ((λ awake. released ok live place awake refl), tt, (λ on. tt))
row_knows P2 m hs w f ok live place = ((λ awake. pending ok live place refl), tt, (λ on. tt))
row_knows P3 m hs w f ok live place = ((λ awake. pending ok live place refl), tt, (λ on. tt))
row_knows P4 m hs w f ok live place =
    ((λ awake. (free ok live place refl, pending ok live place refl)), tt, (λ on. tt))
row_knows G2 m hs w f ok live place =
    ((λ awake. ok.plain.byte awake f.lock), rests ok live place refl, (λ on. tt))
row_knows G3 m hs w f ok live place =
    ((λ awake. ok.plain.byte awake f.lock), rests ok live place refl, (λ on. tt))
row_knows G4 m hs w f ok live place =
    ((λ awake. ok.plain.byte awake f.lock), rests ok live place refl, (λ on. tt))
row_knows G5 m hs w f ok live place =
    ((λ awake. queued ok live place refl), unlinked ok live place (node_of f.prev) refl, (λ on. tt))
row_knows G6 m hs w f ok live place = ((λ awake. queued ok live place refl), tt, (λ on. tt))
row_knows G7 m hs w f ok live place = ((λ awake. queued ok live place refl), tt, (λ on. tt))
row_knows G8 m hs w f ok live place =
    ((λ awake. (free ok live place refl, queued ok live place refl)), tt, (λ on. tt))
row_knows G9 m hs w f ok live place =
    ((λ awake. (free ok live place refl, queued ok live place refl)), tt, (λ on. tt))
row_knows G10 m hs w f ok live place =
    ((λ awake. (taken ok live place awake refl, queued ok live place refl)), tt, (λ on. tt))
row_knows G11 m hs w f ok live place = (
  (λ awake. (taken ok live place awake refl, queued ok live place refl)),
  unflagged ok live place (node_of f.y) ((ok.registers w f live).choice.plainly G11 place refl)
      refl,
  (λ on. tt),
)
row_knows C1 m hs w f ok live place =
    ((λ awake. (taken ok live place awake refl, queued ok live place refl)), tt, (λ on. tt))
row_knows C2 m hs w f ok live place =
    ((λ awake. (taken ok live place awake refl, queued ok live place refl)), tt, (λ on. tt))
row_knows C3 m hs w f ok live place =
    ((λ awake. (taken ok live place awake refl, queued ok live place refl)), tt, (λ on. tt))
row_knows C4 m hs w f ok live place =
    ((λ awake. (taken ok live place awake refl, queued ok live place refl)), tt, (λ on. tt))
row_knows C5 m hs w f ok live place =
    ((λ awake. (taken ok live place awake refl, queued ok live place refl)), tt, (λ on. tt))
row_knows C6 m hs w f ok live place =
    ((λ awake. (taken ok live place awake refl, queued ok live place refl)), tt, (λ on. tt))
row_knows C7 m hs w f ok live place =
    ((λ awake. (taken ok live place awake refl, queued ok live place refl)), tt, (λ on. tt))
row_knows C8 m hs w f ok live place =
    ((λ awake. (taken ok live place awake refl, queued ok live place refl)), tt, (λ on. tt))
row_knows C9 m hs w f ok live place =
    ((λ awake. (taken ok live place awake refl, queued ok live place refl)), tt, (λ on. tt))
row_knows C10 m hs w f ok live place =
    ((λ awake. (taken ok live place awake refl, queued ok live place refl)), tt, (λ on. tt))
row_knows E6 m hs w f ok live place =
    ((λ awake. ok.plain.byte awake f.lock), tt, (λ on. unentered ok live place on refl))
row_knows E8 m hs w f ok live place =
    ((λ awake. ok.plain.byte awake f.lock), tt, (λ on. byte_slow ok live place on refl))
row_knows E9 m hs w f ok live place = (
  (λ awake. ok.plain.byte awake f.lock),
  tt,
  (λ on. (byte_full ok live place on refl refl, own_entry ok live place on refl)),
)
row_knows E13 m hs w f ok live place = (
  (λ awake. ok.plain.byte awake f.lock),
  tt,
  (λ on. (byte_one ok live place on refl, queued ok live place refl)),
)
row_knows E14 m hs w f ok live place = (
  (λ awake. ok.plain.byte awake f.lock),
  tt,
  (λ on. (byte_one ok live place on refl, queued ok live place refl)),
)
row_knows E15 m hs w f ok live place = (
  (λ awake. ok.plain.byte awake f.lock),
  unflagged ok live place (node_of f.y) (flat_of ok live place refl) refl,
  (λ on. (byte_one ok live place on refl, queued ok live place refl)),
)
row_knows K2 m hs w f ok live place =
    ((λ awake. ok.plain.byte awake f.lock), tt, (λ on. byte_one ok live place on refl))
row_knows K3 m hs w f ok live place = (
  (λ awake. ok.plain.byte awake f.lock),
  tt,
  (λ on. (bare_slow ok live place on refl, bare_entry ok live place on refl)),
)
row_knows U2 m hs w f ok live place =
    ((λ awake. ok.plain.byte awake f.lock), tt, (λ on. freed_not ok live place refl))
row_knows U3 m hs w f ok live place = (
  (λ awake. ok.plain.byte awake f.lock),
  tt,
  (λ on. (byte_slow ok live place on refl, some_entry ok live place on refl)),
)
row_knows U4 m hs w f ok live place = (
  (λ awake. ok.plain.byte awake f.lock),
  tt,
  (λ on. (bare_slow ok live place on refl, bare_entry ok live place on refl)),
)
row_knows _ m hs w f ok live place = ((λ awake. ok.plain.byte awake f.lock), tt, (λ on. tt))

pub tail_is_used : TailIsUsed
tail_is_used m hs l n ok tail =
    let u = lists_last (ok.agrees.locks l).lists n tail in (
      u.by,
      subst (Uses m u.by) u.owned (user_of ok l u.by u.noded),
      subst (IsOwnNode u.by) u.owned (own_node ok l u.by u.noded),
    )

pub next_is_used : NextIsUsed
next_is_used m hs w f ok live place =
    let v = ((ok.agrees.locks f.lock).lists.flat
    ((ok.registers w f live).choice.plainly G11 place refl)).queue.links.hand w (node_of f.y)
    (shown ok live place) in
    let noded : has_node ((snapshot m).phase f.lock v.0) ≡ true = ap has_node v.2 in (
      v.0,
      subst (Uses m v.0) v.3 (user_of ok f.lock v.0 noded),
      subst (IsOwnNode v.0) v.3 (own_node ok f.lock v.0 noded),
      v.1,
    )

pub halting_next_is_used : HaltingNextIsUsed
halting_next_is_used m hs w f ok live place =
    let v =
    (para_queue ok.agrees (halting_at ok live place refl) f.lock).links.hand w (node_of f.y)
    (shown ok live place) in
    let noded : has_node ((snapshot m).phase f.lock v.0) ≡ true = ap has_node v.2 in (
      v.0,
      subst (Uses m v.0) v.3 (user_of ok f.lock v.0 noded),
      subst (IsOwnNode v.0) v.3 (own_node ok f.lock v.0 noded),
      v.1,
    )

front_used : {m : World} {hs : LockName → LockHistory} (ok : IsSoundSpinWorld m hs) (l : LockName)
    (n : NodeName)
    → (u : Waiter) × (slice_get (hs l).main 0 ≡ Some u) × ((snapshot m).own u ≡ n)
    → (u : Waiter) × Uses m u n × IsOwnNode u n × (slice_get (hs l).main 0 ≡ Some u)
front_used {m = m} ok l n u =
    let noded : has_node ((snapshot m).phase l u.0) ≡ true =
    queues_node ((snapshot m).phase l u.0) (lists_main (ok.agrees.locks l).lists 0 u.0 u.1) in (
      u.0,
      subst (Uses m u.0) u.2 (user_of ok l u.0 noded),
      subst (IsOwnNode u.0) u.2 (own_node ok l u.0 noded),
      u.1,
    )
  where
    queues_node : (r : Phase) → queues r ≡ true → has_node r ≡ true
    queues_node r h = grind arith

pub named_front_is_used : NamedFrontIsUsed
named_front_is_used m hs w f c ok live place named =
    front_used ok f.lock (node_of (front_named c f))
    ((posts ok live place (halting_at ok live place (names_halts c named))).named w
    (node_of (front_named c f)) (ap names (posted ok live place) ∙ named_post c f named))
  where
    names_halts : (c : Pc) → names_front c ≡ true → may_halt c ≡ true
    names_halts c h = grind arith

    named_post : (c : Pc) (f : Frame) → names_front c ≡ true
        → names (post_at c f) ≡ Some (node_of (front_named c f))
    named_post K1 f h = refl
    named_post K2 f h = refl
    named_post K3 f h = refl
    named_post U4 f h = refl
    named_post _ f h = cc h

pub entry_is_used : EntryIsUsed
entry_is_used m hs l n ok on e = front_used ok l n ((para ok.agrees on l).posts.entered n e)

pub nobody_halts : NobodyHalts
nobody_halts m hs ok off p =
    not-true (m.halted p) (λ h. let s = ok.resting p h in
    let on = sleeper_halts ok s.0 s.1 s.3 s.4 in grind (arith, on, off))
