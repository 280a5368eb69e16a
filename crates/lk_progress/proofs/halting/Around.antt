-- The row of a head that goes around leads it around, and leaves all numbers as they were.
use Rattle.std.proofs.Common.{◌≡◌, ◌<◌, ◌+◌, ◌-◌, ℕ, arith, Option, Some, Bool, true, false, refl}
use Rattle.std.proofs.Common.{sym, ap, ◌∙◌, [], ◌∷◌, if◌then◌else◌, ◌&&◌, ◌==◌}
use Rattle.lk_progress.proofs.Names.{Fields, Locked, Held, NodeName, LockHistory, LockName, Waiter}
use Rattle.lk_progress.proofs.Names.{node_of, Effect, Goes, Lead, target, Frame, Pc, E2, E3, E4, E5}
use Rattle.lk_progress.proofs.Names.{E6, E10, E11, E12, is_slow_byte, is_unlocked, course_in}
use Rattle.lk_progress.proofs.Names.{stored_in, IsSoundSpinWorld, led, stores_word, World, IsRobbed}
use Rattle.lk_progress.proofs.Names.{goes_around, HaltingTurnStays, halting_left, halting_left_at}
use Rattle.lk_progress.proofs.Names.{halting_turn_at, halting_turn_if, halting_turn_of, head_turn}
use Rattle.lk_progress.proofs.Names.{goes}
use Rattle.lk_rows.specs.Row.{Left, learns}
use Rattle.lk_progress.proofs.halting.Parts.{behind, Calm, calm_self, calm_state, calm_pending}
use Rattle.lk_rows.specs.declared.parts.State.TheVariants as state

-- how many steps a head is from a row at which it is not pending
abbrev pub unrest : Pc → Frame → ℕ
unrest E4 f = f.left + 2
unrest E5 f = 1
unrest _ f = 0

-- the head goes around still, on the same lock; and where it is pending, it is nearer to a row at which it is not
pub record RoundOn (f g : Frame) (c : Pc) : Type 0 where
  pub place : Pc
  pub here : g.place ≡ Some place
  pub around : goes_around place ≡ true
  pub hashed : g.hashed ≡ true
  pub lock : g.lock ≡ f.lock
  pub nearer : 0 < unrest c f → unrest place g < unrest c f

module _ (m : World) (hs : LockName → LockHistory) (ok : IsSoundSpinWorld m hs) (w : Waiter) (f : Frame) (live : m.frame w ≡ Some f) where
  abbrev x : Fields
  x = m.word f.lock

  abbrev own : NodeName
  own = node_of f.me

  abbrev Round : Pc → Lead → World → Type 0
  Round c lead s = Calm m s f.lock × (goes lead ≡ true) × (halting_left (led f lead) ≡ halting_left_at (Some c) f)
      × (halting_turn_of s w (Some (led f lead)) ≡ halting_turn_at m w f c) × RoundOn f (led f lead) c

  else_of : {A : Type 0} (c : Pc) (st : Option A → World) (b : Bool) (X Y : Effect A) → b ≡ false → Round c Y.leads (st Y.stores)
      → Round c (if b then X else Y).leads (st (if b then X else Y).stores)
  else_of c st true X Y e h = cc e
  else_of c st false X Y e h = h

  if_of : (c : Pc) (s : World) (b t : Bool) (d e : Pc) → b ≡ t → Round c (Goes (if t then d else e) []) s
      → Round c (Goes (if b then d else e) []) s
  if_of c s true true d e q h = h
  if_of c s false false d e q h = h
  if_of c s true false d e q h = cc q
  if_of c s false true d e q h = cc q

  module _ (h : f.hashed ≡ true) (held : x.locked ≡ Held) where
    zero : (a k : ℕ) → head_turn f.hashed x.locked a k ≡ 0
    zero a k = ap (λ (t : Bool). head_turn t x.locked a k) h ∙ ap (λ (t : Locked). head_turn true t a k) held

    zero_in : (s : World) → Calm m s f.lock → (a k : ℕ) → head_turn f.hashed (s.word f.lock).locked a k ≡ 0
    zero_in s calm a k = ap (λ (t : Locked). head_turn f.hashed t a k) (calm.keeps.byte f.lock) ∙ zero a k

    on : (c d : Pc) (g : Frame) → g.place ≡ Some d → goes_around d ≡ true → g.hashed ≡ f.hashed → g.lock ≡ f.lock
        → (0 < unrest c f → unrest d g < unrest c f) → RoundOn f g c
    on c d g at round same lock nearer =
        record { place = d; here = at; around = round; hashed = same ∙ h; lock = lock; nearer = nearer }

    hashed_left : 7 + 0 + behind f ≡ 7 + (if f.hashed then 0 else 4) + behind f
    hashed_left = let z : ◌≡◌ {A = ℕ} (if f.hashed then 0 else 4) 0 = ap (λ (t : Bool). if t then 0 else 4) h in omega (arith, z)

    fails : 0 < f.left → (t : Bool)
        → Round E4 (if t then learns {A = Fields} E5 (Left 0) else learns {A = Fields} E4 (Left (f.left - 1))).leads m
    fails turns true = (
      calm_self m f.lock,
      refl,
      refl,
      zero 6 4 ∙ sym (zero 1 (f.left + 4)),
      on E4 E5 (led f (Goes E5 (Left 0 ∷ []))) refl refl refl refl (λ z. omega arith),
    )
    fails turns false = (
      calm_self m f.lock,
      refl,
      refl,
      zero 1 (f.left - 1 + 4) ∙ sym (zero 1 (f.left + 4)),
      on E4 E4 (led f (Goes E4 (Left (f.left - 1) ∷ []))) refl refl refl refl (λ z. omega (arith, turns)),
    )

    again : 0 < f.left → (t : Bool)
        → Round E4 (if t then learns {A = Fields} E5 (Left 0) else learns {A = Fields} E4 (Left (f.left - 1))).leads
        (stores_word m f.lock (if t then learns {A = Fields} E5 (Left 0) else learns {A = Fields} E4 (Left (f.left - 1))).stores)
    again turns true = fails turns true
    again turns false = fails turns false

    round : (c : Pc) → f.place ≡ Some c → goes_around c ≡ true
        → Round c (course_in m w f c (target c f)).leads (stored_in m w f c (target c f))
    round E2 at r = (
      calm_state m own state.Running f.lock,
      refl,
      refl,
      zero 2 (m.turns + 5) ∙ sym (zero 3 (m.turns + 6)),
      on E2 E3 (led f (Goes E3 [])) refl refl refl refl (λ z. absurd (omega (arith, z))),
    )
    round E3 at r =
        let calm = calm_pending m f.lock true in (
          calm,
          refl,
          refl,
          zero_in (stores_word m f.lock (Some (record x { pending = true }))) calm 1 (m.turns + 4) ∙ sym (zero 2 (m.turns + 5)),
          on E3 E4 (led f (Goes E4 (Left m.turns ∷ []))) refl refl refl refl (λ z. absurd (omega (arith, z))),
        )
    round E4 at r =
        let turns = (ok.registers w f live).choice.turns E4 at refl in
        let shut : is_unlocked x.locked && x.pending ≡ false = ap (λ (b : Locked). is_unlocked b && x.pending) held in
        else_of E4 (stores_word m f.lock) (is_unlocked x.locked && x.pending) _ _ shut (again turns (f.left - 1 == 0))
    round E5 at r =
        let calm = calm_pending m f.lock false in
        let s = stores_word m f.lock (Some (record x { pending = false })) in
        if_of E5 s f.hashed true E10 E6 h (
          calm,
          refl,
          hashed_left,
          zero_in s calm 5 3 ∙ sym (zero 6 4),
          on E5 E10 (led f (Goes E10 [])) refl refl refl refl (λ z. omega arith),
        )
    round E10 at r = (
      calm_state m own state.Hashed f.lock,
      refl,
      refl,
      zero 4 2 ∙ sym (zero 5 3),
      on E10 E11 (led f (Goes E11 [])) refl refl refl refl (λ z. absurd (omega (arith, z))),
    )
    round E11 at r =
        if_of E11 m (is_slow_byte x.locked) false E12 E2 (ap is_slow_byte held) (
          calm_self m f.lock,
          refl,
          sym hashed_left,
          zero 3 (m.turns + 6) ∙ sym (zero 4 2),
          on E11 E2 (led f (Goes E2 [])) refl refl refl refl (λ z. absurd (omega (arith, z))),
        )
    round c at r = cc r

  pub robbed_stays : (c : Pc) → f.place ≡ Some c → IsRobbed m f c → HaltingTurnStays m w f c
  robbed_stays c at robbed =
      let z = round robbed.1 robbed.2 c at robbed.0 in
      record {
        robbed = robbed;
        keeps = z.0.keeps;
        halted = z.0.halted;
        pending = z.0.pending;
        links = z.0.links;
        away = z.1;
        left = z.2 ∙ sym (ap (λ (o : Option Pc). halting_left_at o f) at);
        same = z.3 ∙ sym (ap (λ (o : Option Pc). halting_turn_if m w f o) at);
      }

  pub robbed_on : (c : Pc) → f.place ≡ Some c → IsRobbed m f c → RoundOn f (led f (course_in m w f c (target c f)).leads) c
  robbed_on c at robbed = (round robbed.1 robbed.2 c at robbed.0).4
