-- Every row keeps it that each head which waits for a successor has one, or one is coming.
use Rattle.std.proofs.Common.{◌≡◌, ◌≢◌, ◌⊎◌, ◌<◌, inl, inr, Option, Some, None, Bool, true, false}
use Rattle.std.proofs.Common.{refl, sym, ap, ◌∙◌, subst, arith, if◌then◌else◌, is_some, ◌&&◌, not}
use Rattle.lk_waits.proofs.Names.{cases_Bool, Fields, Free, Held, NodeName, LockHistory, same_lock}
use Rattle.lk_waits.proofs.Names.{same_waiter, LockName, Mode, Cna, Native, Pv, Virt, Waiter}
use Rattle.lk_waits.proofs.Names.{is_node, node_of, Effect, target, Flag, Frame, Pc, E1, G1, G4, G5}
use Rattle.lk_waits.proofs.Names.{G6, G7, G8, G9, G10, G11, N1, N2, P2, P3, P4, after_arrival}
use Rattle.lk_waits.proofs.Names.{after_flag, after_head, after_next, is_sole, own_node}
use Rattle.lk_waits.proofs.Names.{is_unlocked, waiter_cases, if-false, if-true, same_waiter-else}
use Rattle.lk_waits.proofs.Names.{same_lock-self, same_waiter-self, phase_on-here, row_is_done}
use Rattle.lk_waits.proofs.Names.{halts, moves_aside, may_halt, stored_in, Phase, pends, Idle}
use Rattle.lk_waits.proofs.Names.{phase_at, phase_if, phase_on, snapshot, IsThen, IsSoundSpinWorld}
use Rattle.lk_waits.proofs.Names.{led, row_in, stores_next, stores_word, World, IsFollowedBy}
use Rattle.lk_waits.proofs.Names.{SomebodyComesBy, comes_by, is_led_on}
use Rattle.lk_rows.specs.rows.Queue.{after_look}
use Rattle.lk_law.specs.Phase.{watches, stakes, claims}
use Rattle.lk_waits.proofs.Beside.{unhalting, unchoosing, still_comes, apart, other_keeps}
use Rattle.lk_waits.proofs.{Mute.{tells, Mute, mute, after}, Tails.next_frame, Tops.busy_at}
use Rattle.lk_waits.specs.Followed.{IsHeadFollowed, IsUnaware, RowKeepsFollowed, RowKeepsLed}
use Rattle.lk_rows.specs.declared.parts.Flag.TheVariants as flag
use Rattle.lk_waits.proofs.Noded as nodeless

mute_not : (o : Option Pc) (d : Pc) → Mute o → o ≡ Some d → tells (Some d) ≡ true → ⊥
mute_not o d h e t = let z = ap tells e in cc (z, h, t)

led_on_tells : (d : Pc) → is_led_on d ≡ true → tells (Some d) ≡ true
led_on_tells d h = grind (arith, h)

-- who has set pending: it will clear it, or take the lock by it, or is of a family that halts
pends_rows : (d : Pc) (b : Bool) (x y : NodeName) → pends (phase_at d b x y) ≡ true
    → (d ≡ P2) ⊎ (Rattle.lk_law.specs.Phase.watches (phase_at d b x y) ≡ true) ⊎ (may_halt d ≡ true)
pends_rows P2 b x y h = inl refl
pends_rows P3 b x y h = inr (inl refl)
pends_rows P4 b x y h = inr (inl refl)
pends_rows d b x y h = grind (arith, h, cases_Bool (may_halt d))

pends_busy : (r : Phase) → pends r ≡ true → r ≢ Idle
pends_busy r h e = grind (arith, h, e)

unsole : (f : Frame) (x : Fields) → is_sole f x ≡ false → is_unlocked x.locked ≡ true
    → is_node x.tail (node_of f.me) ≡ true → x.pending ≡ true
unsole f x h a t = by x.pending refl
  where
    by : (b : Bool) → x.pending ≡ b → x.pending ≡ true
    by true e = e
    by false e = absurd (let z : is_sole f x ≡ true = rw (a, e, t) refl in cc (z, h))

arrival_off : (mode : Mode) (f : Frame) (t : Option NodeName) (k : Pc)
    → (led f (after_arrival mode t).leads).place ≡ Some k → is_led_on k ≡ true → ⊥
arrival_off Virt f None k e h = let q : G7 ≡ k = cc e in let z = ap is_led_on q in cc (z, h)
arrival_off Native f None k e h = let q : G7 ≡ k = cc e in let z = ap is_led_on q in cc (z, h)
arrival_off Cna f None k e h = let q : G7 ≡ k = cc e in let z = ap is_led_on q in cc (z, h)
arrival_off Pv f None k e h = let q : E1 ≡ k = cc e in let z = ap is_led_on q in cc (z, h)
arrival_off Virt f (Some n) k e h = let q : G5 ≡ k = cc e in let z = ap is_led_on q in cc (z, h)
arrival_off Native f (Some n) k e h = let q : G5 ≡ k = cc e in let z = ap is_led_on q in cc (z, h)
arrival_off Cna f (Some n) k e h = let q : G5 ≡ k = cc e in let z = ap is_led_on q in cc (z, h)
arrival_off Pv f (Some n) k e h = let q : G5 ≡ k = cc e in let z = ap is_led_on q in cc (z, h)

flag_off : (f : Frame) (x : Flag) (k : Pc) → (led f (after_flag x).leads).place ≡ Some k → is_led_on k ≡ true → ⊥
flag_off f flag.Unset k e h = let q : G6 ≡ k = cc e in let z = ap is_led_on q in cc (z, h)
flag_off f flag.Go k e h = let q : G7 ≡ k = cc e in let z = ap is_led_on q in cc (z, h)
flag_off f (flag.Second n) k e h = let q : G7 ≡ k = cc e in let z = ap is_led_on q in cc (z, h)

-- a look that leads on finds another behind the head
look_off : (f : Frame) (x : Fields) (k : Pc) → f.second ≡ None → Some (after_look f x) ≡ Some k → is_led_on k ≡ true
    → is_node x.tail (node_of f.me) ≡ true → ⊥
look_off f x k second e h t = by (is_unlocked x.locked && not x.pending) e
  where
    by : (b : Bool) → Some (if b then (if is_node x.tail (node_of f.me) && not (is_some f.second) then G8 else G9) else G7) ≡ Some k → ⊥
    by false e = let q : G7 ≡ k = cc e in let z = ap is_led_on q in cc (z, h)
    by true e =
        let both : is_node x.tail (node_of f.me) && not (is_some f.second) ≡ true = rw (t, second) refl in
        let z : Some G8 ≡ Some k = ap (λ (b : Bool). Some (if b then G8 else G9)) (sym both) ∙ e in
        let q : G8 ≡ k = cc z in let y = ap is_led_on q in cc (y, h)

next_off : (f : Frame) (x : Option NodeName) (k : Pc) → (led f (after_next x).leads).place ≡ Some k → is_led_on k ≡ true
    → (k ≡ G10) × (x ≡ None)
next_off f None k e h = let q : G10 ≡ k = cc e in (sym q, refl)
next_off f (Some n) k e h = let q : G11 ≡ k = cc e in absurd (let z = ap is_led_on q in cc (z, h))

module _ (m : World) (hs : LockName → LockHistory) (w : Waiter) (f : Frame) (ok : IsSoundSpinWorld m hs)
    (awake : halts m.mode ≡ false) (plain : moves_aside m.mode ≡ false) (live : m.frame w ≡ Some f)
    (inner : f.lock.wait ≡ true → IsThen f.then) (bare : Bool) (heads : IsFollowedBy bare m)
    (unheard : IsUnaware m) where
  abbrev x : Fields
  x = m.word f.lock

  abbrev made : Pc → World
  made c = (row_in m w f c).0

  abbrev g : Pc → Frame
  g c = next_frame m w f c

  shown : (c : Pc) → f.place ≡ Some c → (snapshot m).phase f.lock w ≡ phase_at c (is_some f.me) (node_of f.prev) (node_of f.y)
  shown c at = ap (phase_on f.lock) live ∙ phase_on-here f.lock f refl
      ∙ ap (λ (d : Option Pc). phase_if d (is_some f.me) (node_of f.prev) (node_of f.y)) at

  -- the tail that the word has after its row, as the row stores it
  abbrev LastAt : Pc → Type 0
  LastAt c = is_node ((made c).word (g c).lock).tail (node_of (g c).me) ≡ true

  stored : (c : Pc) → LastAt c → is_node ((stored_in m w f c (target c f)).word (g c).lock).tail (node_of (g c).me) ≡ true
  stored c last = ap (λ (v : LockName → Fields). is_node (v (g c).lock).tail (node_of (g c).me)) (sym (row_is_done m w f c (target c f)).word) ∙ last

  coming_beside : (c : Pc) (at : f.place ≡ Some c) (room : bare ≡ false → c ≡ G1 → m.queued w.cpu < 4) → comes_by bare c ≡ false
      → SomebodyComesBy bare m f.lock → SomebodyComesBy bare (made c) f.lock
  coming_beside c at room off s =
      still_comes m hs w f ok awake plain live inner bare heads c at room f.lock s
      (apart m hs w f ok awake plain live inner bare heads c at room f.lock s off)

  abbrev sole_effect : Bool → Effect Fields
  sole_effect b = if b then Rattle.lk_rows.specs.rows.Queue.takes_out f Rattle.lk_names.specs.declared.events.How.TheVariants.Sole else Rattle.lk_rows.specs.Row.looks G9

  own_keeps : (c : Pc) (at : f.place ≡ Some c) (room : bare ≡ false → c ≡ G1 → m.queued w.cpu < 4) (k : Pc)
      → (g c).place ≡ Some k → is_led_on k ≡ true → LastAt c → SomebodyComesBy bare (made c) (g c).lock
  own_keeps G4 at room k e h last = absurd (arrival_off m.mode f x.tail k e h)
  own_keeps G6 at room k e h last = absurd (flag_off f (m.node (node_of f.me)).flag k e h)
  own_keeps G7 at room k e h last = absurd (look_off f x k (unheard w f live at) e h (stored G7 last))
  own_keeps G8 at room k e h last = by (is_sole f x) refl e (stored G8 last)
    where
      by : (b : Bool) → is_sole f x ≡ b → (led f (sole_effect b).leads).place ≡ Some k
          → is_node ((stores_word m f.lock (sole_effect b).stores).word (led f (sole_effect b).leads).lock).tail (node_of (led f (sole_effect b).leads).me) ≡ true
          → SomebodyComesBy bare (made G8) (led f (sole_effect b).leads).lock
      by true q e t = absurd (mute_not (if f.lock.wait then f.then else None) k (after f inner) e (led_on_tells k h))
      by false q e t =
          let locks = ok.agrees.locks f.lock in
          let free : (m.word f.lock).locked ≡ Free = locks.pend.free w (ap claims (shown G8 at)) in
          let u = locks.pend.someone (unsole f x q (ap is_unlocked free) t) in
          let a = busy_at m f.lock u.0 (pends_busy ((snapshot m).phase f.lock u.0) u.1) in
          elim (pends_rows a.place (is_some a.frame.me) (node_of a.frame.prev) (node_of a.frame.y) (ap pends (sym a.shows) ∙ u.1)) [
            | inl p2 ↦
                coming_beside G8 at room refl (record {
                  by = u.0;
                  frame = a.frame;
                  place = a.place;
                  live = a.live;
                  at = a.at;
                  lock = a.lock;
                  comes = ap (comes_by bare) p2;
                })
            | inr r ↦ elim r [
              | inl wa ↦ absurd (locks.pend.apart u.0 w (ap watches a.shows ∙ wa) (ap stakes (shown G8 at)))
              | inr ha ↦ absurd (let z = (ok.registers u.0 a.frame a.live).choice.halting a.place a.at ha in cc (z, awake))
            ]
          ]
  own_keeps G9 at room k e h last =
      coming_beside G9 at room refl (heads w f G9 live at refl (stored_G9 (stored G9 last)))
    where
      stored_G9 : is_node ((stored_in m w f G9 (target G9 f)).word f.lock).tail (node_of f.me) ≡ true → is_node x.tail (node_of f.me) ≡ true
      stored_G9 z =
          ap (λ (y : Fields). is_node y.tail (node_of f.me))
          (sym (if-true (same_lock f.lock f.lock) (record x { locked = Held }) (m.word f.lock) (same_lock-self f.lock))) ∙ z
  own_keeps G10 at room k e h last =
      by (m.node (node_of f.me)).next (next_off f (m.node (node_of f.me)).next k e h).1 (stored G10 last)
    where
      by : (o : Option NodeName) → o ≡ None
          → is_node ((stores_next m (node_of f.me) (after_next o).stores).word (led f (after_next o).leads).lock).tail (node_of (led f (after_next o).leads).me) ≡ true
          → SomebodyComesBy bare (made G10) (led f (after_next o).leads).lock
      by None q t = coming_beside G10 at room refl (heads w f G10 live at refl t)
      by (Some n) q t = cc q
  own_keeps c at room k e h last =
      absurd (mute_not (g c).place k
      (mute m w f inner c (unhalting m hs w f ok awake plain live inner bare heads c at)
      (unchoosing m hs w f ok awake plain live inner bare heads c at) refl) e (led_on_tells k h))

  -- a head that looks at the word has not heard of a secondary queue
  own_unaware : (c : Pc) → f.place ≡ Some c → (g c).place ≡ Some G7 → (g c).second ≡ None
  own_unaware G4 at e = by m.mode x.tail e
    where
      by : (mode : Mode) (t : Option NodeName) → (led f (after_arrival mode t).leads).place ≡ Some G7
          → (led f (after_arrival mode t).leads).second ≡ None
      by Virt None e = (ok.registers w f live).choice.unaware G4 at refl
      by Native None e = (ok.registers w f live).choice.unaware G4 at refl
      by Cna None e = (ok.registers w f live).choice.unaware G4 at refl
      by Pv None e = cc e
      by Virt (Some n) e = cc e
      by Native (Some n) e = cc e
      by Cna (Some n) e = cc e
      by Pv (Some n) e = cc e
  own_unaware G6 at e = by (m.node (node_of f.me)).flag refl e
    where
      by : (y : Flag) → (m.node (node_of f.me)).flag ≡ y → (led f (after_flag y).leads).place ≡ Some G7
          → (led f (after_flag y).leads).second ≡ None
      by flag.Unset q e = cc e
      by flag.Go q e = (ok.registers w f live).choice.unaware G6 at refl
      by (flag.Second n) q e = absurd (ok.plain.flag plain (node_of f.me) n q)
  own_unaware G7 at e = unheard w f live at
  own_unaware G8 at e = by (is_sole f x) e
    where
      by : (b : Bool) → (led f (sole_effect b).leads).place ≡ Some G7 → (led f (sole_effect b).leads).second ≡ None
      by true e = absurd (mute_not (if f.lock.wait then f.then else None) G7 (after f inner) e refl)
      by false e = cc e
  own_unaware G9 at e = by m.mode e
    where
      by : (mode : Mode) → Some (after_head mode) ≡ Some G7 → (g G9).second ≡ None
      by Virt e = cc e
      by Native e = cc e
      by Cna e = cc e
      by Pv e = cc e
  own_unaware G10 at e = by (m.node (node_of f.me)).next e
    where
      by : (o : Option NodeName) → (led f (after_next o).leads).place ≡ Some G7 → (led f (after_next o).leads).second ≡ None
      by None e = cc e
      by (Some n) e = cc e
  own_unaware c at e =
      absurd (mute_not (g c).place G7
      (mute m w f inner c (unhalting m hs w f ok awake plain live inner bare heads c at)
      (unchoosing m hs w f ok awake plain live inner bare heads c at) refl) e refl)

-- a place at which nobody waits without a node
not_bare : (o : Option Pc) → nodeless.tells o ≡ false → (o ≢ Some N1) × (o ≢ Some N2)
not_bare o e = (
  λ q. (let z = ap nodeless.tells q in cc (z, e)),
  λ q. (let z = ap nodeless.tells q in cc (z, e)),
)

own_noded : (m : World) (hs : LockName → LockHistory) (w : Waiter) (f : Frame) → IsSoundSpinWorld m hs
    → halts m.mode ≡ false → moves_aside m.mode ≡ false → m.frame w ≡ Some f → (f.lock.wait ≡ true → IsThen f.then)
    → IsHeadFollowed m → (c : Pc) → f.place ≡ Some c → (c ≡ G1 → m.queued w.cpu < 4)
    → nodeless.tells (next_frame m w f c).place ≡ false
own_noded m hs w f ok awake plain live inner inv G1 at room =
    nodeless.mute_entry m.mode (own_node w.cpu (m.queued w.cpu)) (let z = room refl in grind (arith, z))
own_noded m hs w f ok awake plain live inner inv N1 at room = absurd ((inv.noded w f live).0 at)
own_noded m hs w f ok awake plain live inner inv N2 at room = absurd ((inv.noded w f live).1 at)
own_noded m hs w f ok awake plain live inner inv c at room =
    nodeless.mute m w f inner c (unhalting m hs w f ok awake plain live inner false inv.followed c at) refl

-- the row of a frame
module _ (m : World) (hs : LockName → LockHistory) (w : Waiter) (f : Frame) (ok : IsSoundSpinWorld m hs)
    (awake : halts m.mode ≡ false) (plain : moves_aside m.mode ≡ false) (live : m.frame w ≡ Some f)
    (c : Pc) (at : f.place ≡ Some c) (inner : f.lock.wait ≡ true → IsThen f.then) where
  here : (row_in m w f c).0.frame w ≡ Some (next_frame m w f c)
  here = (row_is_done m w f c (target c f)).frame w
      ∙ if-true (same_waiter w w) (Some (next_frame m w f c)) (m.frame w) (same_waiter-self w)

  there : (u : Waiter) → u ≢ w → (row_in m w f c).0.frame u ≡ m.frame u
  there u ne = (row_is_done m w f c (target c f)).frame u
      ∙ if-false (same_waiter u w) (Some (next_frame m w f c)) (m.frame u) (same_waiter-else u w ne)

  -- the frame of the waiter is the one after the row
  own_frame : (d : Frame) → (row_in m w f c).0.frame w ≡ Some d → next_frame m w f c ≡ d
  own_frame d lu = let q : Some d ≡ Some (next_frame m w f c) = sym lu ∙ here in cc q

  heads_kept : (bare : Bool) → (bare ≡ false → c ≡ G1 → m.queued w.cpu < 4) → IsFollowedBy bare m → IsUnaware m
      → IsFollowedBy bare (row_in m w f c).0
  heads_kept bare room heads unheard u d k lu pk lk last = elim (waiter_cases u w) [
    | inl e ↦
        let is : next_frame m w f c ≡ d = own_frame d (ap (row_in m w f c).0.frame (sym e) ∙ lu) in
        subst (λ (y : Frame). SomebodyComesBy bare (row_in m w f c).0 y.lock) is
        (own_keeps m hs w f ok awake plain live inner bare heads unheard c at room k (ap (λ (y : Frame). y.place) is ∙ pk) lk
        (ap (λ (y : Frame). is_node ((row_in m w f c).0.word y.lock).tail (node_of y.me)) is ∙ last))
    | inr ne ↦ other_keeps m hs w f ok awake plain live inner bare heads c at room u d k ne (sym (there u ne) ∙ lu) pk lk last
  ]

  unaware_kept : (bare : Bool) → IsFollowedBy bare m → IsUnaware m → IsUnaware (row_in m w f c).0
  unaware_kept bare heads unheard u d lu pk = elim (waiter_cases u w) [
    | inl e ↦
        let is : next_frame m w f c ≡ d = own_frame d (ap (row_in m w f c).0.frame (sym e) ∙ lu) in
        ap (λ (y : Frame). y.second) (sym is)
        ∙ own_unaware m hs w f ok awake plain live inner bare heads unheard c at (ap (λ (y : Frame). y.place) is ∙ pk)
    | inr ne ↦ unheard u d (sym (there u ne) ∙ lu) pk
  ]

pub row_keeps_followed : (c : Pc) → RowKeepsFollowed c
row_keeps_followed c m hs w f ok awake plain live at inner room inv =
    record {
      followed = heads_kept m hs w f ok awake plain live c at inner false (λ e. room) inv.followed inv.unaware;
      unaware = unaware_kept m hs w f ok awake plain live c at inner false inv.followed inv.unaware;
      noded = λ u d lu. elim (waiter_cases u w) [
        | inl e ↦
            let is : next_frame m w f c ≡ d = own_frame m hs w f ok awake plain live c at inner d (ap (row_in m w f c).0.frame (sym e) ∙ lu) in
            not_bare d.place (ap (λ (y : Frame). nodeless.tells y.place) (sym is)
            ∙ own_noded m hs w f ok awake plain live inner inv c at room)
        | inr ne ↦ inv.noded u d (sym (there m hs w f ok awake plain live c at inner u ne) ∙ lu)
      ];
    }

-- and so it is, without a premise on nodes, where who polls beside the queue counts as coming
pub row_keeps_led : (c : Pc) → RowKeepsLed c
row_keeps_led c m hs w f ok awake plain live at inner inv =
    record {
      followed = heads_kept m hs w f ok awake plain live c at inner true (λ e. absurd (let z : true ≡ false = e in cc z)) inv.followed inv.unaware;
      unaware = unaware_kept m hs w f ok awake plain live c at inner true inv.followed inv.unaware;
    }
