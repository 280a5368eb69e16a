-- The rows of a release, where processors halt.
use Rattle.std.proofs.Common.{inl, inr, ◌≡◌, ◌≢◌, ℕ, ◌<◌, ◌-◌, ◌/◌, ◌%◌, Some, None, Bool, true}
use Rattle.std.proofs.Common.{false, refl, ap, subst, ◌∙◌, arith, [], ◌∷◌, ◌++◌, List, Option}
use Rattle.std.proofs.Common.{append-nil, eqb, eq-eqb, sym, ◌&&◌, if◌then◌else◌}
use Rattle.lk_pvdomain.proofs.Names.{cases_Bool, TableId, Me, Seat, Fields, NodeName, same_lock}
use Rattle.lk_pvdomain.proofs.Names.{LockName, Mode, Cna, Native, Pv, Virt, node_of, Frame, U3, U5}
use Rattle.lk_pvdomain.proofs.Names.{Verb, Try, Unlock, is_held, if-false, halts, Named, Word}
use Rattle.lk_pvdomain.proofs.Names.{Frees, Hold, Mark, Outlook, Takes, Terms, Unchanged, lock_name}
use Rattle.lk_pvdomain.proofs.Names.{terms_of, AllHome, Slot, Ledger, is_first, turned, Any}
use Rattle.lk_pvdomain.proofs.Names.{locks_of, MadeBy, WentBy, went, pair_number, Domain}
use Rattle.lk_pvdomain.proofs.Names.{MOST_LOCKS, View, AtOn, Ended, EndedOn, Start, Took, first_of}
use Rattle.lk_pvdomain.proofs.Names.{EmptiesAt, tries_release}
use Rattle.lk_rows.specs.{Moves.first_place, declared.parts.Pc.TheVariants.{U2, U4}}
use Rattle.lk_law.proofs.common.Puts.{if_cases, if-true}
use Rattle.lk_law.specs.Leads.{Marked as MarkedMet}
use Rattle.lk_domain.proofs.Freed.{released}
use Rattle.lk_domain.specs.Calls.{sight_of, mark, Grip, holds_in, free_of, moved_to}
use Rattle.lk_domain.specs.Ledgers.{Look, closed, opened, listed_look}
use Rattle.lk_pvdomain.proofs.Fails.{release_again, release_failed}
use Rattle.lk_pvdomain.proofs.ways.Arrives.{met, first, first_step, first_trail}
use Rattle.lk_pvdomain.proofs.ways.Leads.{un_off, un_on}
use Rattle.lk_pvdomain.proofs.ways.Ways.{Goes, Ends, goes, goes_trail, ends, last_is, yields}
use Rattle.lk_pvdomain.proofs.ways.Ways.{yields_trail, stands}
use Rattle.lk_pvdomain.specs.{PvCalls.without, PvPaths.{starting, RestsOn, Kicks, freed}}
use Rattle.lk_pvdomain.specs.{PvPlays.AtKick, PvReleases.{found_at, kicked_from, kicked_in}}

pub first_is : (m : Mode) → halts m ≡ true → first_place m Unlock ≡ U2
first_is Pv h = refl
first_is Virt h = cc h
first_is Native h = cc h
first_is Cna h = cc h

pub first_tries : (m : Mode) → halts m ≡ true → tries_release (first_place m Unlock) ≡ true
first_tries m h = ap tries_release (first_is m h)

module _ {t : Terms} {p : ℕ} {z : Outlook} (f : Frame) where
  U2_frees : (x : Fields) → is_held x.locked ≡ true → Ends t p z U2 f (Word x) Frees
  U2_frees x e = record { place = rw e refl; grips = rw e refl; own = refl; wakes = refl }

  U2_seeks : (x : Fields) → is_held x.locked ≡ false → Goes t p z U2 f (Word x) U3 Any
  U2_seeks x e = record { place = rw e refl; grip = rw e refl; lock = rw e refl; wakes = refl; has = tt }

  U3_finds : (n : NodeName) → Goes t p z U3 f (Named (Some n)) U4 (Kicks n)
  U3_finds n = record { place = refl; grip = refl; lock = refl; wakes = refl; has = refl }

-- a row more of a trail
kicked_more : (o : Option ℕ) (ks : List Mark) (k : Mark) → kicked_from o (ks ++ k ∷ []) ≡ found_at k.row k.met (kicked_from o ks)
kicked_more o [] k = refl
kicked_more o (x ∷ ks) k = kicked_more (found_at x.row x.met o) ks k

module _ {d : Domain} {l : ℕ} {own : NodeName} {ta : TableId} {a : Me Slot View} (r : RestsOn d own ta a) (ia : ℕ) (low : l < locks_of d.plan) where
  begun_at : AtOn d Unlock l own (starting Unlock l ta ia a) U2 Any ta ia (met r Unlock l ia low)
  begun_at = subst (λ c. AtOn d Unlock l own (starting Unlock l ta ia a) c Any ta ia (met r Unlock l ia low)) (first_is d.plan.mode r.of.halting)
      (first r Unlock l ia low refl)

  -- where it has no row yet
  begun_trail : begun_at.trail ≡ []
  unfolding begun_at
  begun_trail =
      sym (λ j. (coe 0 j (i. AtOn d Unlock l own (starting Unlock l ta ia a) (first_is d.plan.mode r.of.halting i) Any ta ia (met r Unlock l ia low))
      (first r Unlock l ia low refl)).trail) ∙ first_trail r Unlock l ia low refl

module _ {d : Domain} {l : ℕ} {own : NodeName} {ta tb : TableId} {ia ib : ℕ} {a b : Me Slot View} (same : (tb ≡ ta) × (ib ≡ ia))
    (r : RestsOn d own ta a) (low : l < locks_of d.plan) where
  pub u2_frees : {n : ℕ} (k : MadeBy Unlock l a n b) → n % 256 ≡ 1 → EndedOn d Unlock l own (starting Unlock l ta ia a) Frees tb ib b
  u2_frees k e =
      ends (begun_at r ia low) same (Word k.found) (first_step r Unlock l ia low (Word k.found) k.seat) Frees
      (U2_frees (begun_at r ia low).frame k.found (un_off (is_held k.found.locked) (release_again _ k.found _ k.word e)))

  -- it kicks nobody
  pub u2_kicks : {n : ℕ} (k : MadeBy Unlock l a n b) → n % 256 ≡ 1 → kicked_in b.0.calls.last ≡ None
  u2_kicks k e =
      let w = begun_at r ia low in
      let z : Outlook = sight_of (terms_of d.plan) own.cpu (met r Unlock l ia low).0.calls.runs in
      let frees : Ends (terms_of d.plan) own.cpu z U2 w.frame (Word k.found) Frees = U2_frees w.frame k.found (un_off (is_held k.found.locked) (release_again _ k.found _ k.word e)) in
      ap kicked_in (last_is w same (Word k.found) (first_step r Unlock l ia low (Word k.found) k.seat) frees.place)
      ∙ (kicked_more None w.trail _ ∙ ap kicked_in (begun_trail r ia low))

  pub u2_seeks : {n : ℕ} (k : MadeBy Unlock l a n b) → n % 256 ≢ 1 → AtOn d Unlock l own (starting Unlock l ta ia a) U3 Any tb ib b
  u2_seeks k ne =
      goes (begun_at r ia low) same (Word k.found) (first_step r Unlock l ia low (Word k.found) k.seat) U3 Any
      (U2_seeks (begun_at r ia low).frame k.found (un_on (is_held k.found.locked) (release_failed _ k.found _ k.word ne)))

module _ {d : Domain} {l : ℕ} {own : NodeName} {s : Start} {ta tb : TableId} {ia ib : ℕ} {a b : Me Slot View}
    (same : (tb ≡ ta) × (ib ≡ ia)) where
  pub u3_finds : {n : ℕ} → AtOn d Unlock l own s U3 Any ta ia a → (k : EmptiesAt l a n b) → AtOn d Unlock l own s U4 (Kicks k.node) tb ib b
  u3_finds w k = goes w same (Named (Some k.node)) k.seat U4 (Kicks k.node) (U3_finds w.frame k.node)

  pub u4_frees : {n : ℕ} {node : NodeName} → AtOn d Unlock l own s U4 (Kicks node) ta ia a → WentBy a n b
      → (t : List Mark) × AtOn d Unlock l own (freed s l t) U5 (Kicks node) tb ib b
  u4_frees {node} w k = (w.trail ++ mark U4 (Word k.found) 0 ∷ [], yields w same (Word k.found) k.seat U5 (Kicks node) refl refl refl refl refl w.has)

  pub u5_kicks : {node : NodeName} (found : Bool) → AtOn d Unlock l own s U5 (Kicks node) ta ia a → b ≡ (went a.0 (MarkedMet found), a.1)
      → EndedOn d Unlock l own s Frees tb ib b
  u5_kicks found w step = ends w same (MarkedMet found) step Frees (record { place = refl; grips = refl; own = refl; wakes = refl })

-- the processor that is kicked by the rows U3 to U5
module _ {d : Domain} {l : ℕ} {own : NodeName} {s : Start} {t0 t1 t2 t3 : TableId} {i0 i1 i2 i3 : ℕ} {m0 m1 m2 m3 : Me Slot View}
    (same1 : (t1 ≡ t0) × (i1 ≡ i0)) (same2 : (t2 ≡ t1) × (i2 ≡ i1)) (same3 : (t3 ≡ t2) × (i3 ≡ i2))
    (v : AtOn d Unlock l own s U3 Any t0 i0 m0) {n : ℕ} (finds : EmptiesAt l m0 n m1) {n' : ℕ} (frees : WentBy m1 n' m2)
    (found : Bool) (kicks : m3 ≡ (went m2.0 (MarkedMet found), m2.1)) where
  pub kicked : kicked_in m3.0.calls.last ≡ Some finds.node.cpu
  unfolding u3_finds u4_frees
  kicked =
      let w = u3_finds same1 v finds in
      let x = u4_frees same2 w frees in
      ap kicked_in (last_is x.1 same3 (MarkedMet found) kicks refl)
      ∙ (kicked_more None x.1.trail _
      ∙ (ap kicked_in (yields_trail w same2 (Word frees.found) frees.seat U5 (Kicks finds.node) refl refl refl refl refl w.has)
      ∙ (kicked_more None w.trail _
      ∙ (ap kicked_in (goes_trail v same1 (Named (Some finds.node)) finds.seat U4 (Kicks finds.node) (U3_finds v.frame finds.node))
      ∙ kicked_more None v.trail _))))

-- what a kick asks
module _ {d : Domain} {l : ℕ} {own node : NodeName} {s : Start} {ta : TableId} {ia : ℕ} {a : Me Slot View}
    (w : AtOn d Unlock l own s U5 (Kicks node) ta ia a) where
  pub kick_asks : (cpu : ℕ) → node.cpu ≡ cpu → AllHome (lock_name l) a.0 → AtKick cpu a.0
  kick_asks cpu e home =
      record { verb = Unlock; lock = lock_name l; stands = stands w; home = home; target = ap (λ o. (node_of o).cpu) w.has ∙ e }

-- a row that takes or frees a lock leaves the journal where it is
pub out_kept : (grip : Grip) (g : Ledger) (l : ℕ) (t : List Mark) → (turned g (lock_name l) grip t).out ≡ g.out
out_kept Unchanged g l t = refl
out_kept (Takes m) g l t = by (is_first (lock_name l))
  where
    by : (b : Bool) → (if b then opened g m t else g).out ≡ g.out
    by true = refl
    by false = refl
out_kept Frees g l t = by (is_first (lock_name l))
  where
    by : (b : Bool) → (if b then closed g else g).out ≡ g.out
    by true = refl
    by false = refl

-- whom a pair names
pub pair_cpu : (l : ℕ) (n : NodeName) (m : ℕ) → l < MOST_LOCKS → n.index < 4 → m ≡ pair_number l n → (m - 1) / 16384 ≡ n.cpu
pair_cpu l n m low index e = omega (arith, low, index, e)

-- to free again what is free changes nothing
free_twice : (c : ℕ) (l : LockName) (hs : List Hold) → free_of c l (free_of c l hs) ≡ free_of c l hs
free_twice c l [] = refl
free_twice c l (h ∷ hs) =
    if_cases (λ (gs : List Hold). free_of c l gs ≡ gs) ((eqb h.ctx c) && same_lock h.lock l) (free_of c l hs) (h ∷ free_of c l hs)
    (λ e. free_twice c l hs)
    (λ e. if-false ((eqb h.ctx c) && same_lock h.lock l) (free_of c l (free_of c l hs)) (h ∷ free_of c l (free_of c l hs)) e
    ∙ ap (λ (gs : List Hold). h ∷ gs) (free_twice c l hs))

closed_twice : (g : Ledger) → closed (closed g) ≡ closed g
closed_twice g = ap (λ (xs : List Look). record g { look = None; looks = xs }) (append-nil (g.looks ++ listed_look g.look))

turned_twice : (g : Ledger) (l : LockName) (t u : List Mark) → turned (turned g l Frees t) l Frees u ≡ turned g l Frees t
turned_twice g l t u = by (is_first l)
  where
    by : (b : Bool) → (if b then closed (if b then closed g else g) else (if b then closed g else g)) ≡ (if b then closed g else g)
    by true = closed_twice g
    by false = refl

-- so a release that has freed the lock by U4 is over as one that has freed it once
pub freed_once : {d : Domain} {l : ℕ} {own : NodeName} {s : Start} {tb : TableId} {ib : ℕ} {b : Me Slot View} (t : List Mark)
    → EndedOn d Unlock l own (freed s l t) Frees tb ib b → EndedOn d Unlock l own s Frees tb ib b
freed_once {l} {s} {b} t e =
    record {
      still = record {
        of = e.still.of;
        table_was = e.still.table_was;
        id_was = e.still.id_was;
        who = e.still.who;
        slots = e.still.slots;
        awake = e.still.awake;
        fresh = e.still.fresh;
      };
      frames = e.frames;
      path = e.path;
      holds = e.holds ∙ free_twice 0 (lock_name l) s.holds;
      taken = e.taken;
      ledger = e.ledger ∙ turned_twice s.ledger (lock_name l) t b.0.calls.last;
    }

-- what a release leaves of the holds
let_go : (c : ℕ) (l : LockName) (hs : List Hold) → free_of c l (moved_to c l hs) ≡ without l hs
let_go c l [] = refl
let_go c l (h ∷ hs) = elim (cases_Bool (same_lock h.lock l)) [
  | inl e ↦
      ap (λ (m : Hold). free_of c l (m ∷ moved_to c l hs)) (if-true (same_lock h.lock l) (record h { ctx = c }) h e)
      ∙ (if-true ((eqb c c) && same_lock h.lock l) (free_of c l (moved_to c l hs)) (record h { ctx = c } ∷ free_of c l (moved_to c l hs))
      (λ i. eq-eqb c c refl i && e i)
      ∙ (let_go c l hs ∙ sym (if-true (same_lock h.lock l) (without l hs) (h ∷ without l hs) e)))
  | inr e ↦
      ap (λ (m : Hold). free_of c l (m ∷ moved_to c l hs)) (if-false (same_lock h.lock l) (record h { ctx = c }) h e)
      ∙ (if-false ((eqb h.ctx c) && same_lock h.lock l) (free_of c l (moved_to c l hs)) (h ∷ free_of c l (moved_to c l hs))
      (ap (λ b. (eqb h.ctx c) && b) e ∙ no (eqb h.ctx c))
      ∙ (ap (λ (gs : List Hold). h ∷ gs) (let_go c l hs) ∙ sym (if-false (same_lock h.lock l) (without l hs) (h ∷ without l hs) e)))
]
  where
    no : (b : Bool) → (b && false) ≡ false
    no true = refl
    no false = refl

-- what a call that is over leaves as it was
pub record IsLet (old new : Seat Slot View) : Type 0 where
  pub table_was : new.table_id ≡ old.table_id
  pub id_was : new.id ≡ old.id
  pub who : new.me.0.who ≡ old.me.0.who
  pub slots : new.me.1 ≡ old.me.1
  pub out : new.me.0.ledger.out ≡ old.me.0.ledger.out
  pub frames : new.me.0.calls.frames ≡ []
  pub awake : new.me.0.calls.halted ≡ false
  pub fresh : new.me.0.calls.looked ≡ 0

pub is_let : {d : Domain} {v : Verb} {l : ℕ} {own : NodeName} {grip : Grip} (old new : Seat Slot View)
    → Ended d v l own (first_of v l old) grip new → IsLet old new
is_let {l} {grip} old new e =
    record {
      table_was = e.still.table_was;
      id_was = e.still.id_was;
      who = e.still.who;
      slots = e.still.slots;
      out = ap (λ (y : Ledger). y.out) e.ledger ∙ out_kept grip old.me.0.ledger l new.me.0.calls.last;
      frames = e.frames;
      awake = e.still.awake;
      fresh = e.still.fresh;
    }

-- and one that has taken the lock, or missed it
pub is_tried : {d : Domain} {l : ℕ} {own : NodeName} (old new : Seat Slot View) (b : Bool)
    → (b ≡ true → Took d Try l own (first_of Try l old) new) → (b ≡ false → Ended d Try l own (first_of Try l old) Unchanged new)
    → IsLet old new
is_tried old new true took missed = is_let old new (took refl)
is_tried old new false took missed = is_let old new (missed refl)

-- nothing of the lock is held then, and all other holds stand
module _ (d : Domain) (l : ℕ) (own : NodeName) (old new : Seat Slot View)
    (e : Ended d Unlock l own (first_of Unlock l old) Frees new) where
  pub freed_none : holds_in new.me.0.calls.holds l ≡ false
  freed_none = ap (λ (hs : List Hold). holds_in hs l) e.holds ∙ released 0 l old.me.0.calls.holds

  pub freed_others : new.me.0.calls.holds ≡ without (lock_name l) old.me.0.calls.holds
  freed_others = e.holds ∙ let_go 0 (lock_name l) old.me.0.calls.holds
