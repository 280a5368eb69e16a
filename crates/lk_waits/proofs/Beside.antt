-- A row keeps it for the heads of other waiters.
use Rattle.std.proofs.Common.{◌≡◌, ◌≢◌, ◌⊎◌, ◌<◌, inl, inr, Option, Some, None, Bool, true, false}
use Rattle.std.proofs.Common.{refl, sym, ap, ◌∙◌, arith, is_some}
use Rattle.lk_waits.proofs.Names.{Fields, NodeName, LockHistory, same_waiter, LockName, Waiter}
use Rattle.lk_waits.proofs.Names.{is_node, node_of, target, Frame, Pc, G1, G4, lock_cases}
use Rattle.lk_waits.proofs.Names.{waiter_cases, if-false, if-true, not-true, same_waiter-else}
use Rattle.lk_waits.proofs.Names.{same_waiter-self, is_node-own, node_is_ones, row_is_done, halts}
use Rattle.lk_waits.proofs.Names.{moves_aside, chooses, may_halt, stored_in, phase_at}
use Rattle.lk_waits.proofs.Names.{phase_if, IsThen, Uses, IsSoundSpinWorld, row_in, World}
use Rattle.lk_waits.proofs.Names.{IsFollowedBy, SomebodyComesBy, comes_by, is_led_on}
use Rattle.lk_waits.proofs.Tails.{tails, arrived, elsewhere, next_frame, comes_on}

module _ (m : World) (hs : LockName → LockHistory) (w : Waiter) (f : Frame) (ok : IsSoundSpinWorld m hs)
    (awake : halts m.mode ≡ false) (plain : moves_aside m.mode ≡ false) (live : m.frame w ≡ Some f)
    (inner : f.lock.wait ≡ true → IsThen f.then) (bare : Bool) (inv : IsFollowedBy bare m) where
  pub unhalting : (c : Pc) → f.place ≡ Some c → may_halt c ≡ false
  unhalting c at =
      not-true (may_halt c) (λ e. let z = (ok.registers w f live).choice.halting c at e in cc (z, awake))

  pub unchoosing : (c : Pc) → f.place ≡ Some c → chooses c ≡ false
  unchoosing c at =
      not-true (chooses c) (λ e. let z = (ok.registers w f live).choice.choice c at e in cc (z, plain))

  module _ (c : Pc) (at : f.place ≡ Some c) (room : bare ≡ false → c ≡ G1 → m.queued w.cpu < 4) where
    abbrev n : World
    n = (row_in m w f c).0

    abbrev g : Frame
    g = next_frame m w f c

    here : n.frame w ≡ Some g
    here = (row_is_done m w f c (target c f)).frame w
        ∙ if-true (same_waiter w w) (Some g) (m.frame w) (same_waiter-self w)

    there : (u : Waiter) → u ≢ w → n.frame u ≡ m.frame u
    there u ne = (row_is_done m w f c (target c f)).frame u
        ∙ if-false (same_waiter u w) (Some g) (m.frame u) (same_waiter-else u w ne)

    words : n.word ≡ (stored_in m w f c (target c f)).word
    words = (row_is_done m w f c (target c f)).word

    -- who comes beside the acting frame comes still
    pub still_comes : (l : LockName) → (s : SomebodyComesBy bare m l) → s.by ≢ w → SomebodyComesBy bare n l
    still_comes l s ne =
        record {
          by = s.by;
          frame = s.frame;
          place = s.place;
          live = there s.by ne ∙ s.live;
          at = s.at;
          lock = s.lock;
          comes = s.comes;
        }

    -- the acting frame is not one that comes, where its row is another
    pub apart : (l : LockName) → (s : SomebodyComesBy bare m l) → comes_by bare c ≡ false → s.by ≢ w
    apart l s off e =
        let same : Some s.frame ≡ Some f = sym s.live ∙ ap m.frame e ∙ live in
        let q : s.frame ≡ f = cc same in
        let p : Some s.place ≡ Some c = sym s.at ∙ ap (λ (h : Frame). h.place) q ∙ at in
        let r : s.place ≡ c = cc p in
        let z = ap (comes_by bare) r in let y = s.comes in cc (z, y, off)

    -- two waiters have not one node
    nodes_apart : (u : Waiter) (d : Frame) (k : Pc) → m.frame u ≡ Some d → d.place ≡ Some k → is_led_on k ≡ true
        → is_node f.me (node_of d.me) ≡ true → u ≢ w → ⊥
    nodes_apart u d k lu pk lk mine ne =
        let some : is_some d.me ≡ true = (ok.registers u d lu).me (noded d k pk lk) in
        let mine_u : Uses m u (node_of d.me) = (d, lu, is_node-own d.me some) in
        let mine_w : Uses m w (node_of d.me) = (f, live, mine) in
        ne (node_is_ones m hs u w (node_of d.me) ok mine_u mine_w).0
      where
        noded : (d : Frame) (k : Pc) → d.place ≡ Some k → is_led_on k ≡ true
            → Rattle.lk_law.specs.Phase.has_node (Rattle.lk_law.specs.Places.phase_of d) ≡ true
        noded d k p h =
            ap (λ (o : Option Pc). Rattle.lk_law.specs.Phase.has_node (phase_if o (is_some d.me) (node_of d.prev) (node_of d.y))) p
            ∙ by k h (is_some d.me) (node_of d.prev) (node_of d.y)
          where
            by : (k : Pc) → is_led_on k ≡ true → (b : Bool) (x y : NodeName)
                → Rattle.lk_law.specs.Phase.has_node (phase_at k b x y) ≡ true
            by k h b x y = grind (arith, h)

    -- of another waiter
    module _ (u : Waiter) (d : Frame) (k : Pc) (ne : u ≢ w) (lu : m.frame u ≡ Some d) (pk : d.place ≡ Some k)
        (lk : is_led_on k ≡ true) (last : is_node (n.word d.lock).tail (node_of d.me) ≡ true) where
      -- where the tail is what it was
      same_tail : (n.word d.lock).tail ≡ (m.word d.lock).tail → c ≢ G4 → SomebodyComesBy bare n d.lock
      same_tail same off =
          let s = inv u d k lu pk lk (ap (λ (t : Option NodeName). is_node t (node_of d.me)) (sym same) ∙ last) in
          elim (waiter_cases s.by w) [
            | inl e ↦
                let ff : Some s.frame ≡ Some f = sym s.live ∙ ap m.frame e ∙ live in
                let q : s.frame ≡ f = cc ff in
                let p : Some s.place ≡ Some c = sym s.at ∙ ap (λ (h : Frame). h.place) q ∙ at in
                let r : s.place ≡ c = cc p in
                let lock : f.lock ≡ d.lock = ap (λ (h : Frame). h.lock) (sym q) ∙ s.lock in
                let comes : comes_by bare c ≡ true = ap (comes_by bare) (sym r) ∙ s.comes in
                let on = comes_on m w f bare c comes off awake room
                (λ none. some_tail (ap (λ (l : LockName). (m.word l).tail) (sym lock) ∙ none) (sym same)) in
                record {
                  by = w;
                  frame = g;
                  place = on.place;
                  live = here;
                  at = on.at;
                  lock = on.lock ∙ lock;
                  comes = on.comes;
                }
            | inr other ↦ still_comes d.lock s other
          ]
        where
          some_tail : (m.word d.lock).tail ≡ None → (m.word d.lock).tail ≡ (n.word d.lock).tail → ⊥
          some_tail none same =
              let z : (n.word d.lock).tail ≡ None = sym same ∙ none in
              let y = ap (λ (t : Option NodeName). is_node t (node_of d.me)) z in cc (y, last)

      pub other_keeps : SomebodyComesBy bare n d.lock
      other_keeps = elim (arrival c) [
        | inl is ↦ elim (lock_cases d.lock f.lock) [
          | inl same ↦
              let t : (n.word d.lock).tail ≡ f.me =
              ap (λ (v : LockName → Fields). (v d.lock).tail) words
              ∙ ap (λ (x : Pc). ((stored_in m w f x (target x f)).word d.lock).tail) is
              ∙ ap (λ (l : LockName). ((stored_in m w f G4 (target G4 f)).word l).tail) same
              ∙ arrived m w f in
              absurd (nodes_apart u d k lu pk lk (ap (λ (o : Option NodeName). is_node o (node_of d.me)) (sym t) ∙ last) ne)
          | inr off ↦
              let t : (n.word d.lock).tail ≡ (m.word d.lock).tail =
              ap (λ (v : LockName → Fields). (v d.lock).tail) words
              ∙ ap (λ (x : Pc). ((stored_in m w f x (target x f)).word d.lock).tail) is
              ∙ elsewhere m w f d.lock off in
              let s = inv u d k lu pk lk (ap (λ (t : Option NodeName). is_node t (node_of d.me)) (sym t) ∙ last) in
              elim (waiter_cases s.by w) [
                | inl e ↦
                    let ff : Some s.frame ≡ Some f = sym s.live ∙ ap m.frame e ∙ live in
                    let q : s.frame ≡ f = cc ff in
                    absurd (off (sym s.lock ∙ ap (λ (h : Frame). h.lock) q))
                | inr other ↦ still_comes d.lock s other
              ]
        ]
        | inr off ↦
            elim (tails m w f c (unhalting c at) (unchoosing c at) off d.lock) [
              | inl same ↦ same_tail (ap (λ (v : LockName → Fields). (v d.lock).tail) words ∙ same) off
              | inr none ↦
                  let z : (n.word d.lock).tail ≡ None = ap (λ (v : LockName → Fields). (v d.lock).tail) words ∙ none in
                  absurd (let y = ap (λ (t : Option NodeName). is_node t (node_of d.me)) z in cc (y, last))
            ]
      ]
        where
          arrival : (c : Pc) → (c ≡ G4) ⊎ (c ≢ G4)
          arrival G4 = inl refl
          arrival _ = inr (λ e. cc e)
