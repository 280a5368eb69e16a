-- What a frame knows of its choice and of its turns after a row.
use Rattle.std.proofs.Common.{◌≡◌, ◌≢◌, inl, Option, Some, None, Bool, true, false, arith, ap, refl}
use Rattle.std.proofs.Common.{sym, ◌∙◌, inr, subst, ◌<◌, is_some}
use Rattle.lk_law.proofs.Names.{NodeName, Mode, Cna, Native, Pv, Virt, node_of, Frame, Pc, C1, C2}
use Rattle.lk_law.proofs.Names.{C3, C4, C5, C6, C9, C10, E10, E11, E12, E15, G5, G11, K1, K2, K3}
use Rattle.lk_law.proofs.Names.{R4, Wr2, Why, halts, moves_aside, chooses, is_slow, may_halt}
use Rattle.lk_law.proofs.Names.{stays_awake, has_node, Idle, phase_at, phase_of, IsThen, ChoiceFits}
use Rattle.lk_law.proofs.Names.{IsQuiet, RegistersFit, counts_turns, hands_plainly, is_unaware}
use Rattle.lk_law.proofs.Names.{names_next, needs_hash, sees_peer}
use Rattle.lk_law.specs.Registers.{is_quiet_row, needs_second, returns, knows_first, knows_last}
use Rattle.lk_law.specs.Registers.{knows_tail}

-- a frame's registers after a row

-- a row that chooses nobody

needs_chooses : (c : Pc) → needs_second c ≡ true → chooses c ≡ true
needs_chooses C3 h = refl
needs_chooses C4 h = refl
needs_chooses C5 h = refl
needs_chooses C6 h = refl
needs_chooses C9 h = refl
needs_chooses C10 h = refl
needs_chooses _ h = cc

returns_chooses : (c : Pc) (y : Why) → returns c y ≡ true → chooses c ≡ true
returns_chooses C3 y h = refl
returns_chooses C9 y h = refl
returns_chooses C10 y h = refl
returns_chooses _ y h = cc

first_chooses : (c : Pc) (y : Why) → knows_first c y ≡ true → chooses c ≡ true
first_chooses C2 y h = refl
first_chooses C3 y h = refl
first_chooses C4 y h = refl
first_chooses C9 y h = refl
first_chooses _ y h = cc

last_chooses : (c : Pc) (y : Why) → knows_last c y ≡ true → chooses c ≡ true
last_chooses C2 y h = refl
last_chooses C3 y h = refl
last_chooses C4 y h = refl
last_chooses C5 y h = refl
last_chooses C6 y h = refl
last_chooses _ y h = cc

tail_chooses : (c : Pc) → knows_tail c ≡ true → chooses c ≡ true
tail_chooses C10 h = refl
tail_chooses _ h = cc

hash_halts : (c : Pc) → needs_hash c ≡ true → may_halt c ≡ true
hash_halts E10 h = refl
hash_halts E11 h = refl
hash_halts E12 h = refl
hash_halts _ h = cc

next_halts : (c : Pc) → names_next c ≡ true → may_halt c ≡ true
next_halts E15 h = refl
next_halts K1 h = refl
next_halts K2 h = refl
next_halts K3 h = refl
next_halts _ h = cc

peer_halts : (c : Pc) → sees_peer c ≡ true → may_halt c ≡ true
peer_halts c h = grind arith

turns_halt : (c : Pc) → counts_turns c ≡ true → may_halt c ≡ true
turns_halt c h = grind arith

-- a row of any family that chooses nobody
pub unchosen : {mode : Mode} (g : Frame) (d : Pc) → g.place ≡ Some d → chooses d ≡ false
    → (may_halt d ≡ true → halts mode ≡ true) → (stays_awake d ≡ true → halts mode ≡ false)
    → (needs_hash d ≡ true → g.hashed ≡ true) → (names_next d ≡ true → is_some g.y ≡ true)
    → (sees_peer d ≡ true → is_some g.prev ≡ true) → (counts_turns d ≡ true → 0 < g.left)
    → (is_unaware d ≡ true → g.second ≡ None) → (hands_plainly d ≡ true → moves_aside mode ≡ false)
    → ChoiceFits mode g
unchosen g d place fixed halting waking hashed named peer turns unaware plainly =
    record {
      choice = λ c e h. absurd (let s = same c e in grind (arith, ap chooses s, h, fixed));
      plainly = λ c e h. plainly (ap hands_plainly (same c e) ∙ h);
      halting = λ c e h. halting (ap may_halt (same c e) ∙ h);
      waking = λ c e h. waking (ap stays_awake (same c e) ∙ h);
      hashed = λ c e h. hashed (ap needs_hash (same c e) ∙ h);
      named = λ c e h. named (ap names_next (same c e) ∙ h);
      peer = λ c e h. peer (ap sees_peer (same c e) ∙ h);
      turns = λ c e h. turns (ap counts_turns (same c e) ∙ h);
      unaware = λ c e h. unaware (ap is_unaware (same c e) ∙ h);
      second = λ c e h.
          absurd (let n = needs_chooses c h in grind (arith, ap chooses (same c e), n, fixed));
      nobody = λ c e h.
          absurd (let n = returns_chooses c g.why h in
          grind (arith, ap chooses (same c e), n, fixed));
      first = λ c e h.
          absurd (let n = first_chooses c g.why h in
          grind (arith, ap chooses (same c e), n, fixed));
      last = λ c e h.
          absurd (let n = last_chooses c g.why h in grind (arith, ap chooses (same c e), n, fixed));
      tail = λ c e h.
          absurd (let n = tail_chooses c h in grind (arith, ap chooses (same c e), n, fixed));
    }
  where
    same : (c : Pc) → g.place ≡ Some c → d ≡ c
    same c e = let q : Some d ≡ Some c = sym place ∙ e in grind (arith, q)

-- the same, of a row at which no processor halts
pub fixed_choice : {mode : Mode} (g : Frame) (d : Pc) → g.place ≡ Some d → chooses d ≡ false
    → may_halt d ≡ false → (stays_awake d ≡ true → halts mode ≡ false)
    → (is_unaware d ≡ true → g.second ≡ None) → (hands_plainly d ≡ true → moves_aside mode ≡ false)
    → ChoiceFits mode g
fixed_choice g d place fixed awake waking unaware plainly =
    unchosen g d place fixed (λ h. absurd (grind (arith, h, awake))) waking
    (λ h. absurd (let n = hash_halts d h in grind (arith, n, awake)))
    (λ h. absurd (let n = next_halts d h in grind (arith, n, awake)))
    (λ h. absurd (let n = peer_halts d h in grind (arith, n, awake)))
    (λ h. absurd (let n = turns_halt d h in grind (arith, n, awake))) unaware plainly

-- a family that moves waiters aside halts nobody
pub aside_awake : (mode : Mode) → moves_aside mode ≡ true → halts mode ≡ false
aside_awake Cna e = refl
aside_awake Virt e = cc e
aside_awake Native e = cc e
aside_awake Pv e = cc e

-- a front that begins to choose
pub first_choice : {mode : Mode} (g : Frame) → g.place ≡ Some C1 → moves_aside mode ≡ true
    → ChoiceFits mode g
first_choice {mode = mode} g place aside =
    record {
      choice = λ c e h. aside;
      plainly = λ c e h. absurd (grind (arith, ap hands_plainly (same c e), h));
      halting = λ c e h. absurd (grind (arith, ap may_halt (same c e), h));
      waking = λ c e h. aside_awake mode aside;
      hashed = λ c e h. absurd (grind (arith, ap needs_hash (same c e), h));
      named = λ c e h. absurd (grind (arith, ap names_next (same c e), h));
      peer = λ c e h. absurd (grind (arith, ap sees_peer (same c e), h));
      turns = λ c e h. absurd (grind (arith, ap counts_turns (same c e), h));
      unaware = λ c e h. absurd (grind (arith, ap is_unaware (same c e), h));
      second = λ c e h. absurd (grind (arith, ap needs_second (same c e), h));
      nobody = λ c e h. absurd (grind (arith, ap (λ (d : Pc). returns d g.why) (same c e), h));
      first = λ c e h. absurd (grind (arith, ap (λ (d : Pc). knows_first d g.why) (same c e), h));
      last = λ c e h. absurd (grind (arith, ap (λ (d : Pc). knows_last d g.why) (same c e), h));
      tail = λ c e h. absurd (grind (arith, ap knows_tail (same c e), h));
    }
  where
    same : (c : Pc) → g.place ≡ Some c → C1 ≡ c
    same c e = let q : Some C1 ≡ Some c = sym place ∙ e in grind (arith, q)

chooses_aware : (c : Pc) → chooses c ≡ true → is_unaware c ≡ false
chooses_aware c h = grind arith

chooses_wakes : (c : Pc) → chooses c ≡ true → may_halt c ≡ false
chooses_wakes c h = grind arith

chooses_late : (c : Pc) → chooses c ≡ true → hands_plainly c ≡ false
chooses_late c h = grind arith

-- a front that goes on with its choice
pub choosing : {mode : Mode} (g : Frame) (d : Pc) → g.place ≡ Some d → chooses d ≡ true
    → moves_aside mode ≡ true → (needs_second d ≡ true → is_some g.second ≡ true)
    → (returns d g.why ≡ true → g.k ≡ 0) → (knows_first d g.why ≡ true → is_some g.a ≡ true)
    → (knows_last d g.why ≡ true → is_some g.b ≡ true) → (knows_tail d ≡ true → is_some g.t ≡ true)
    → ChoiceFits mode g
choosing {mode = mode} g d place on aside second nobody first last tail =
    record {
      choice = λ c e h. aside;
      plainly = λ c e h.
          absurd (let n = chooses_late d on in grind (arith, ap hands_plainly (same c e), n, h));
      halting = λ c e h.
          absurd (let n = chooses_wakes d on in grind (arith, ap may_halt (same c e), n, h));
      waking = λ c e h. aside_awake mode aside;
      hashed = λ c e h.
          absurd (let n = chooses_wakes d on in let q = hash_halts c h in
          grind (arith, ap may_halt (same c e), n, q));
      named = λ c e h.
          absurd (let n = chooses_wakes d on in let q = next_halts c h in
          grind (arith, ap may_halt (same c e), n, q));
      peer = λ c e h.
          absurd (let n = chooses_wakes d on in let q = peer_halts c h in
          grind (arith, ap may_halt (same c e), n, q));
      turns = λ c e h.
          absurd (let n = chooses_wakes d on in let q = turns_halt c h in
          grind (arith, ap may_halt (same c e), n, q));
      unaware = λ c e h.
          absurd (let n = chooses_aware d on in grind (arith, ap is_unaware (same c e), n, h));
      second = λ c e h. second (ap needs_second (same c e) ∙ h);
      nobody = λ c e h. nobody (ap (λ (q : Pc). returns q g.why) (same c e) ∙ h);
      first = λ c e h. first (ap (λ (q : Pc). knows_first q g.why) (same c e) ∙ h);
      last = λ c e h. last (ap (λ (q : Pc). knows_last q g.why) (same c e) ∙ h);
      tail = λ c e h. tail (ap knows_tail (same c e) ∙ h);
    }
  where
    same : (c : Pc) → g.place ≡ Some c → d ≡ c
    same c e = let q : Some d ≡ Some c = sym place ∙ e in grind (arith, q)

-- a frame at a place where nothing is done for a spinlock
pub quiet_choice : {mode : Mode} (g : Frame) → ((d : Pc) → g.place ≡ Some d → is_quiet_row d ≡ true)
    → ChoiceFits mode g
quiet_choice g row =
    record {
      choice = λ c e h. absurd (let q = row c e in grind (arith, q, h));
      plainly = λ c e h. absurd (let q = row c e in grind (arith, q, h));
      halting = λ c e h. absurd (let q = row c e in grind (arith, q, h));
      waking = λ c e h. absurd (let q = row c e in grind (arith, q, h));
      hashed = λ c e h. absurd (let q = row c e in let n = hash_halts c h in grind (arith, q, n));
      named = λ c e h. absurd (let q = row c e in let n = next_halts c h in grind (arith, q, n));
      peer = λ c e h. absurd (let q = row c e in let n = peer_halts c h in grind (arith, q, n));
      turns = λ c e h. absurd (let q = row c e in let n = turns_halt c h in grind (arith, q, n));
      unaware = λ c e h. absurd (let q = row c e in grind (arith, q, h));
      second =
          λ c e h. absurd (let q = row c e in let n = needs_chooses c h in grind (arith, q, n));
      nobody = λ c e h.
          absurd (let q = row c e in let n = returns_chooses c g.why h in grind (arith, q, n));
      first = λ c e h.
          absurd (let q = row c e in let n = first_chooses c g.why h in grind (arith, q, n));
      last = λ c e h.
          absurd (let q = row c e in let n = last_chooses c g.why h in grind (arith, q, n));
      tail = λ c e h. absurd (let q = row c e in let n = tail_chooses c h in grind (arith, q, n));
    }

pub quiet_some : (c : Pc) → is_quiet_row c ≡ true
    → ((b : Bool) (p y : NodeName) → phase_at c b p y ≡ Idle) → is_slow (Some c) ≡ false
    → Some c ≢ Some G5 → Some c ≢ Some G11 → IsQuiet (Some c)
quiet_some c q phase fast unlinked unhanded =
    record {
      phase = phase;
      fast = fast;
      unlinked = unlinked;
      unhanded = unhanded;
      row = λ d e. (let same : c ≡ d = grind (arith, e) in sym (ap is_quiet_row same) ∙ q);
    }

pub fit_goes : {mode : Mode} (f g : Frame) → RegistersFit mode f → g.me ≡ f.me
    → has_node (phase_of g) ≡ has_node (phase_of f) → (g.place ≡ Some G5 → is_some g.prev ≡ true)
    → (g.place ≡ Some G11 → is_some g.y ≡ true) → ChoiceFits mode g → RegistersFit mode g
fit_goes f g fit me noded met next choice =
    record {
      me = λ e. ap is_some me ∙ fit.me (sym noded ∙ e);
      bare = λ e. me ∙ fit.bare (sym noded ∙ e);
      met = met;
      next = next;
      choice = choice;
    }

-- a frame that does nothing for a spinlock, and has no node
pub fit_quiet : {mode : Mode} (g : Frame) → IsQuiet g.place → g.me ≡ None → RegistersFit mode g
fit_quiet g place me =
    record {
      me = λ e.
          absurd (let phase = place.phase (is_some g.me) (node_of g.prev) (node_of g.y) in
          grind (arith, phase, e));
      bare = λ e. me;
      met = λ e. absurd (place.unlinked e);
      next = λ e. absurd (place.unhanded e);
      choice = quiet_choice g place.row;
    }

pub quiet_none : (c : Option Pc) → c ≡ None → IsQuiet c
quiet_none c e =
    subst IsQuiet (sym e)
    (record {
      phase = λ b p y. refl;
      fast = refl;
      unlinked = λ q. grind arith;
      unhanded = λ q. grind arith;
      row = λ d q. absurd (grind arith);
    })

pub quiet_then : (c : Option Pc) → IsThen c → IsQuiet c
quiet_then c (inl e) =
    subst IsQuiet (sym e) (quiet_some R4 refl (λ b p y. refl) refl (λ q. grind arith)
    (λ q. grind arith))
quiet_then c (inr e) =
    subst IsQuiet (sym e) (quiet_some Wr2 refl (λ b p y. refl) refl (λ q. grind arith)
    (λ q. grind arith))

-- a frame that stands at no row, and has no node
pub fit_placeless : {mode : Mode} (g : Frame) → g.place ≡ None → g.me ≡ None → RegistersFit mode g
fit_placeless g place me = fit_quiet g (quiet_none g.place place) me
