-- The rows by which a call begins, steals the lock, or comes to the queue, where processors halt.
use Rattle.std.proofs.Common.{◌≡◌, ◌≢◌, ℕ, ◌<◌, ◌+◌, eq-eqb, ne_eqb, Some, None, Bool, true, false}
use Rattle.std.proofs.Common.{refl, sym, ap, subst, ◌∙◌, arith, [], ◌∷◌, length, List, ◌&&◌, not}
use Rattle.std.proofs.Common.{is_some, if◌then◌else◌, ◌%◌}
use Rattle.lk_pvdomain.proofs.Names.{TableId, Me, Fields, Layout, NodeName, Spins, Mode, Cna}
use Rattle.lk_pvdomain.proofs.Names.{Native, Pv, Virt, Frame, Pc, E1, G1, H2, W1, Verb, Lock, Try}
use Rattle.lk_pvdomain.proofs.Names.{halts, Met, Named, Word, Calls, Mark, Outlook, Running, Takes}
use Rattle.lk_pvdomain.proofs.Names.{Terms, Unchanged, acting, lock_name, running, Slot, AtEntry}
use Rattle.lk_pvdomain.proofs.Names.{InCall, Any, locks_of, turns_by, turns_of, Acts, MadeBy}
use Rattle.lk_pvdomain.proofs.Names.{WentBy, made, went, Domain, Plan, View, AtOn, EndedOn}
use Rattle.lk_pvdomain.proofs.Names.{HaltedOn, Owns, Start, woken}
use Rattle.lk_word.specs.SpinWord.{packed}
use Rattle.lk_names.specs.declared.names.Kind.TheVariants.{Spin}
use Rattle.lk_rows.specs.{Moves.first_place, Programs.kind_of}
use Rattle.lk_rows.specs.declared.parts.Pc.TheVariants.{F1, T1, T2, G4, G5, H1}
use Rattle.lk_rows.specs.{rows.Pv.after_glance, rows.Spin.{is_free, is_unlocked}}
use Rattle.lk_law.specs.{Families.is_slow, Leads.Number, Sound.takes_wait}
use Rattle.lk_domain.specs.Calls.{begun, begin, is_on, slows, is_inner, MayBegin, holds_begun}
use Rattle.lk_domain.specs.{NodePlays.{Arrives, AtRow, AtPrev, readied_by}, Paths.still}
use Rattle.lk_domain.specs.{Plans.kind_at, Plays.rowed, Rows.arrives_by, declared.part.Part.Part}
use Rattle.lk_pvdomain.proofs.{Fails.{steal_again, steal_failed}, ways.Hands.plain}
use Rattle.lk_pvdomain.proofs.ways.Leads.{un_off, un_on, acts, went_on}
use Rattle.lk_pvdomain.proofs.ways.Ways.{Goes, Ends, moved_seat, moved_still, still_of, stays_at}
use Rattle.lk_pvdomain.proofs.ways.Ways.{stood, goes, ends, stands}
use Rattle.lk_pvdomain.specs.PvPaths.{starting, RestsOn, TookOn, Follows, Spares, Steals}
use Rattle.lk_domain.proofs.Ways as seat

free_by : (layout : Layout) (n : ℕ) (y : Fields) → n ≡ packed layout y → n ≡ 0 → is_free y ≡ true
free_by layout n y is h = seat.is_zero layout n y is (eq-eqb n 0 h)

held_by : (layout : Layout) (n : ℕ) (y : Fields) → n ≡ packed layout y → n ≢ 0 → is_free y ≡ false
held_by layout n y is h = seat.not_zero layout n y is (ne_eqb n 0 h)

-- a call begins
module _ {d : Domain} {own : NodeName} {ta : TableId} {a : Me Slot View} (r : RestsOn d own ta a) (v : Verb) (l : ℕ) (ia : ℕ) (low : l < locks_of d.plan) where
  abbrev pub met : Me Slot View
  met = (record a.0 { calls = begin d.plan.mode a.0.calls v l }, a.1)

  begins_is : (mode : Mode) → acting mode a.0.calls v l ≡ begin mode a.0.calls v l
  begins_is mode = ap (λ (xs : List Running). if is_on xs v l then a.0.calls else begin mode a.0.calls v l) r.frames

  mode_is : a.0.who.plan.mode ≡ d.plan.mode
  mode_is = ap (λ (k : Plan). k.mode) r.of.plan

  pub first : takes_wait v ≡ false → AtOn d v l own (starting v l ta ia a) (first_place d.plan.mode v) Any ta ia met
  first off =
      record {
        of = moved_seat r.of refl refl;
        low = low;
        plain = off;
        table_was = refl;
        id_was = refl;
        who = refl;
        holds = ap (λ (xs : List Running). holds_begun v (length xs) l a.0.calls.holds) r.frames;
        taken = refl;
        ledger = refl;
        slots = refl;
        awake = r.awake;
        fresh = r.fresh;
        frame = begun d.plan.mode 0 v l;
        trail = [];
        walk = still;
        frames = ap (λ (xs : List Running). running v (begun d.plan.mode (length xs) v l) [] ∷ xs) r.frames;
        place = refl;
        lock = refl;
        ctx = refl;
        has = tt;
      }

  pub first_trail : (off : takes_wait v ≡ false) → (first off).trail ≡ []
  unfolding first
  first_trail off = refl

  pub first_step : {b : Me Slot View} (x : Met) → b ≡ (made a.0 v l x, a.1) → b ≡ (went met.0 x, met.1)
  first_step x e = e ∙ ap (λ (k : Calls). (rowed a.0 k x, a.1)) (begins_is a.0.who.plan.mode ∙ ap (λ (m : Mode). begin m a.0.calls v l) mode_is)

  pub first_acts : (kind : Pc → Bool) → kind (first_place a.0.who.plan.mode v) ≡ true → MayBegin a.0.calls v l → (kind_at a.0.who.plan l ≡ kind_of v)
      → Acts kind a.0 v l
  first_acts kind is may kinds =
      record {
        row = first_place a.0.who.plan.mode v;
        is = is;
        stands = record {
          frame = begun a.0.who.plan.mode (length a.0.calls.frames) v l;
          trail = [];
          rest = a.0.calls.frames;
          is = ap (λ (k : Calls). k.frames) (begins_is a.0.who.plan.mode);
          place = refl;
          lock = refl;
        };
        begins = λ off. (few (ap (λ (xs : List Running). length xs) r.frames), may, kinds, λ h. r.frames);
      }
    where
      few : length a.0.calls.frames ≡ 0 → length a.0.calls.frames < 6
      few e = omega (arith, e)

  pub is_spin : kind_at a.0.who.plan l ≡ Spin
  is_spin = subst (λ (k : Plan). kind_at k l ≡ Spin) (sym r.of.plan) (d.lawful.spins r.of.halting l)

-- where each leads
module _ {t : Terms} {p : ℕ} {z : Outlook} (f : Frame) where
  F1_takes : (x : Fields) → f.lock.wait ≡ false → is_free x ≡ true → Ends t p z F1 f (Word x) (Takes Spins)
  F1_takes x plain e = record { place = rw e (rw plain refl); grips = rw e refl; own = refl; wakes = refl }

  F1_goes : (x : Fields) → halts t.mode ≡ true → is_free x ≡ false → Goes t p z F1 f (Word x) G1 Any
  F1_goes x h e = by t.mode h
    where
      by : (m : Mode) → halts m ≡ true → Goes (record t { mode = m }) p z F1 f (Word x) G1 Any
      by Pv h = record { place = rw e refl; grip = rw e refl; lock = rw e refl; wakes = refl; has = tt }
      by Virt h = cc h
      by Native h = cc h
      by Cna h = cc h

  T1_sees : (x : Fields) → is_free x ≡ true → Goes t p z T1 f (Word x) T2 Any
  T1_sees x e = record { place = rw e refl; grip = rw e refl; lock = rw e refl; wakes = refl; has = tt }

  T1_misses : (x : Fields) → is_free x ≡ false → Ends t p z T1 f (Word x) Unchanged
  T1_misses x e = record { place = rw e refl; grips = rw e refl; own = refl; wakes = refl }

  T2_takes : (x : Fields) → f.lock.wait ≡ false → is_free x ≡ true → Ends t p z T2 f (Word x) (Takes Spins)
  T2_takes x plain e = record { place = rw e (rw plain refl); grips = rw e refl; own = refl; wakes = refl }

  T2_misses : (x : Fields) → is_free x ≡ false → Ends t p z T2 f (Word x) Unchanged
  T2_misses x e = record { place = rw e refl; grips = rw e refl; own = refl; wakes = refl }

  H2_takes : (x : Fields) → f.lock.wait ≡ false → is_unlocked x.locked ≡ true → Ends t p z H2 f (Word x) (Takes Spins)
  H2_takes x plain e = record { place = rw e (rw plain refl); grips = rw e refl; own = refl; wakes = refl }

module _ {t : Terms} {p : ℕ} {z : Outlook} {own : NodeName} (f : Frame) where
  G1_enters : (n : ℕ) → halts t.mode ≡ true → n ≡ 0 → own.cpu ≡ p → own.index ≡ 0 → Goes t p z G1 f (Number n) H1 (Owns own)
  G1_enters n h e cpu index =
      subst (λ i. Goes t p z G1 f (Number i) H1 (Owns own)) (sym e) (by t.mode h)
    where
      by : (m : Mode) → halts m ≡ true → Goes (record t { mode = m }) p z G1 f (Number 0) H1 (Owns own)
      by Pv h = record { place = refl; grip = refl; lock = refl; wakes = refl; has = λ i. Some (record { cpu = (sym cpu) i; index = (sym index) i }) }
      by Virt h = cc h
      by Native h = cc h
      by Cna h = cc h

  H1_looks : (x : Fields) → f.me ≡ Some own → Goes t p z H1 f (Word x) (after_glance (Some own) x) (Steals own (is_some x.tail))
  H1_looks x me = record { place = ap (λ o. Some (after_glance o x)) me; grip = refl; lock = refl; wakes = refl; has = record { me = me; tailed_is = refl } }

  H2_again : (x : Fields) → is_unlocked x.locked ≡ false → Steals own true f → Goes t p z H2 f (Word x) H1 (Owns own)
  H2_again x e i = let b = i.tailed_is in record { place = rw e (rw b refl); grip = rw e refl; lock = rw e refl; wakes = refl; has = rw e i.me }

  H2_joins : (x : Fields) → is_unlocked x.locked ≡ false → Steals own false f → Goes t p z H2 f (Word x) G4 (Owns own)
  H2_joins x e i = let b = i.tailed_is in let m = i.me in record { place = rw e (rw b (rw m refl)); grip = rw e refl; lock = rw e refl; wakes = refl; has = rw e i.me }

  G4_first : (x : Fields) → halts t.mode ≡ true → x.tail ≡ None → f.me ≡ Some own → Goes t p z G4 f (Word x) E1 (Owns own)
  G4_first x h e me = by t.mode h
    where
      by : (m : Mode) → halts m ≡ true → Goes (record t { mode = m }) p z G4 f (Word x) E1 (Owns own)
      by Pv h = record { place = rw e refl; grip = rw e refl; lock = rw e refl; wakes = refl; has = rw e me }
      by Virt h = cc h
      by Native h = cc h
      by Cna h = cc h

  G4_behind : (x : Fields) (prev : NodeName) → halts t.mode ≡ true → x.tail ≡ Some prev → f.me ≡ Some own → Goes t p z G4 f (Word x) G5 (Follows own prev)
  G4_behind x prev h e me = by t.mode h
    where
      by : (m : Mode) → halts m ≡ true → Goes (record t { mode = m }) p z G4 f (Word x) G5 (Follows own prev)
      by Pv h = record { place = rw e refl; grip = rw e refl; lock = rw e refl; wakes = refl; has = record { me = rw e me; prev = rw e refl } }
      by Virt h = cc h
      by Native h = cc h
      by Cna h = cc h

  G5_links : (prev : NodeName) → halts t.mode ≡ true → Follows own prev f
      → Goes t p z G5 f (Named None) W1 (Spares own prev (turns_by t.mode z.threshold))
  G5_links prev h i = by t.mode h
    where
      by : (m : Mode) → halts m ≡ true → Goes (record t { mode = m }) p z G5 f (Named None) W1 (Spares own prev (turns_by m z.threshold))
      by Pv h = record { place = refl; grip = refl; lock = refl; wakes = refl; has = record { me = i.me; prev = i.prev; left = refl } }
      by Virt h = cc h
      by Native h = cc h
      by Cna h = cc h

-- what each asks
module _ {d : Domain} {l : ℕ} {own : NodeName} {s : Start} {c : Pc} {P : Frame → Type 0} {ta : TableId} {ia : ℕ}
    {a : Me Slot View} (w : AtOn d Lock l own s c P ta ia a) where
  abbrev pub row_of_it : AtRow c Lock (lock_name l) a.0
  row_of_it = record { stands = stands w; patient = refl; inside = refl; after = λ e. absurd (cc e) }

  pub tail_asks : arrives_by Lock c ≡ true → w.frame.me ≡ Some own → InCall (Arrives (lock_name l) own) a.0
  tail_asks is me = (Lock, record { acts = record { acts = acts w (arrives_by Lock) is; inside = refl; after = λ e. absurd (cc e) }; me = me })

module _ {d : Domain} {l : ℕ} {own prev : NodeName} {s : Start} {ta : TableId} {ia : ℕ} {a : Me Slot View}
    (w : AtOn d Lock l own s G5 (Follows own prev) ta ia a) where
  pub link_asks : InCall (AtPrev prev own false) a.0
  link_asks = (Lock, record { lock = lock_name l; at = row_of_it w; prev = w.has.prev; me = w.has.me; marks = ap is_inner (sym w.ctx) })

-- no frame of the slow path yet
none_slow : (v : Verb) (f : Frame) (t : List Mark) (fs : List Running) → fs ≡ running v f t ∷ [] → f.place ≡ Some G1 → slows fs ≡ 0
none_slow v f t fs e p = ap slows e ∙ ap (λ o. (if is_slow o then 1 else 0) + 0) p

module _ {d : Domain} {l : ℕ} {own : NodeName} {s : Start} {P : Frame → Type 0} {ta : TableId} {ia : ℕ}
    {a : Me Slot View} (w : AtOn d Lock l own s G1 P ta ia a) where
  pub entry_asks : InCall (AtEntry own) a.0
  entry_asks = (
    Lock,
    record {
      lock = lock_name l;
      at = row_of_it w;
      cpu = w.of.number;
      index = w.of.index ∙ sym (none_slow Lock w.frame w.trail a.0.calls.frames w.frames w.place);
      low = w.of.near.index;
    },
  )

-- what each does
module _ {d : Domain} {v : Verb} {l : ℕ} {own : NodeName} {s : Start} {ta tb : TableId} {ia ib : ℕ} {a b : Me Slot View}
    (same : (tb ≡ ta) × (ib ≡ ia)) where
  -- a step that changed nothing of the call
  pub kept : {c : Pc} {P : Frame → Type 0} → AtOn d v l own s c P ta ia a → b ≡ a → AtOn d v l own s c P tb ib b
  kept {c} {P} w e = subst (λ (m : Me Slot View). AtOn d v l own s c P tb ib m) (sym e)
      (subst (λ (i : ℕ). AtOn d v l own s c P tb i a) (sym same.1) (subst (λ (t : TableId). AtOn d v l own s c P t ia a) (sym same.0) w))

  -- a halt ends, or goes on
  pub woke : {c e : Pc} {P : Frame → Type 0} → HaltedOn d v l own s c e P ta ia a → b ≡ (woken a.0, a.1) → AtOn d v l own s e P tb ib b
  woke {c} {e} {P} w is = subst (λ (m : Me Slot View). AtOn d v l own s e P tb ib m) (sym is)
      (subst (λ (i : ℕ). AtOn d v l own s e P tb i (woken a.0, a.1)) (sym same.1)
      (subst (λ (t : TableId). AtOn d v l own s e P t ia (woken a.0, a.1)) (sym same.0) w.wakes))

  pub sleeps_on : {c e : Pc} {P : Frame → Type 0} → HaltedOn d v l own s c e P ta ia a → b ≡ a → HaltedOn d v l own s c e P tb ib b
  sleeps_on {c} {e} {P} w is = subst (λ (m : Me Slot View). HaltedOn d v l own s c e P tb ib m) (sym is)
      (subst (λ (i : ℕ). HaltedOn d v l own s c e P tb i a) (sym same.1) (subst (λ (t : TableId). HaltedOn d v l own s c e P t ia a) (sym same.0) w))

  pub readied : {c : Pc} {P : Frame → Type 0} (q : Part) → AtOn d v l own s c P ta ia a → b ≡ (readied_by q a.0, a.1) → AtOn d v l own s c P tb ib b
  readied {c} {P} q w e =
      subst (λ (m : Me Slot View). AtOn d v l own s c P tb ib m) (sym e)
      (stood (moved_still (still_of w) same refl refl w.awake w.fresh) w.low w.plain w.ledger (stays_at w P w.has refl refl refl))

  pub g1_enters : {P : Frame → Type 0} → AtOn d v l own s G1 P ta ia a → b ≡ (went a.0 (Number (slows a.0.calls.frames)), a.1) → AtOn d v l own s H1 (Owns own) tb ib b
  g1_enters w step = goes w same (Number (slows a.0.calls.frames)) step H1 (Owns own)
      (G1_enters w.frame (slows a.0.calls.frames) w.of.halting (none_slow v w.frame w.trail a.0.calls.frames w.frames w.place) refl w.of.index)

  pub h1_looks : {met : ℕ} → AtOn d v l own s H1 (Owns own) ta ia a → (k : WentBy a met b)
      → AtOn d v l own s (after_glance (Some own) k.found) (Steals own (is_some k.found.tail)) tb ib b
  h1_looks w k = goes w same (Word k.found) k.seat (after_glance (Some own) k.found) (Steals own (is_some k.found.tail)) (H1_looks w.frame k.found w.has)

  pub h2_takes : {tailed : Bool} {met : ℕ} → AtOn d v l own s H2 (Steals own tailed) ta ia a → MadeBy v l a met b → met % 256 ≡ 0 → TookOn d v l own s tb ib b
  h2_takes w k e = ends w same (Word k.found) (went_on w (Word k.found) k.seat) (Takes Spins)
      (H2_takes w.frame k.found (plain w.frame w.lock) (un_off (is_unlocked k.found.locked) (steal_again _ k.found _ k.word e)))

  pub h2_again : {met : ℕ} → AtOn d v l own s H2 (Steals own true) ta ia a → MadeBy v l a met b → met % 256 ≢ 0 → AtOn d v l own s H1 (Owns own) tb ib b
  h2_again w k ne = goes w same (Word k.found) (went_on w (Word k.found) k.seat) H1 (Owns own)
      (H2_again w.frame k.found (un_on (is_unlocked k.found.locked) (steal_failed _ k.found _ k.word ne)) w.has)

  pub h2_joins : {met : ℕ} → AtOn d v l own s H2 (Steals own false) ta ia a → MadeBy v l a met b → met % 256 ≢ 0 → AtOn d v l own s G4 (Owns own) tb ib b
  h2_joins w k ne = goes w same (Word k.found) (went_on w (Word k.found) k.seat) G4 (Owns own)
      (H2_joins w.frame k.found (un_on (is_unlocked k.found.locked) (steal_failed _ k.found _ k.word ne)) w.has)

  pub g4_first : {met : ℕ} → AtOn d v l own s G4 (Owns own) ta ia a → (k : WentBy a met b) → k.found.tail ≡ None → AtOn d v l own s E1 (Owns own) tb ib b
  g4_first w k e = goes w same (Word k.found) k.seat E1 (Owns own) (G4_first w.frame k.found w.of.halting e w.has)

  pub g4_behind : {met : ℕ} {prev : NodeName} → AtOn d v l own s G4 (Owns own) ta ia a → (k : WentBy a met b) → k.found.tail ≡ Some prev
      → AtOn d v l own s G5 (Follows own prev) tb ib b
  g4_behind {prev} w k e = goes w same (Word k.found) k.seat G5 (Follows own prev) (G4_behind w.frame k.found prev w.of.halting e w.has)

  pub g5_links : {prev : NodeName} → AtOn d v l own s G5 (Follows own prev) ta ia a → b ≡ (went a.0 (Named None), a.1)
      → AtOn d v l own s W1 (Spares own prev (turns_of d.plan)) tb ib b
  g5_links {prev} w step = goes w same (Named None) step W1 (Spares own prev (turns_of d.plan)) (G5_links w.frame prev w.of.halting w.has)

-- the first row
module _ {d : Domain} {l : ℕ} {own : NodeName} {ta tb : TableId} {ia ib : ℕ} {a b : Me Slot View}
    (same : (tb ≡ ta) × (ib ≡ ia)) where
  pub f1_takes : {met' : ℕ} (r : RestsOn d own ta a) (low : l < locks_of d.plan) (k : MadeBy Lock l a met' b) → met' ≡ 0
      → TookOn d Lock l own (starting Lock l ta ia a) tb ib b
  unfolding first
  f1_takes r low k e =
      ends (first r Lock l ia low refl) same (Word k.found) (first_step r Lock l ia low (Word k.found) k.seat) (Takes Spins)
      (F1_takes (begun d.plan.mode 0 Lock l) k.found refl (free_by _ _ k.found k.word e))

  pub f1_goes : {met' : ℕ} (r : RestsOn d own ta a) (low : l < locks_of d.plan) (k : MadeBy Lock l a met' b) → met' ≢ 0
      → AtOn d Lock l own (starting Lock l ta ia a) G1 Any tb ib b
  unfolding first
  f1_goes r low k ne =
      goes (first r Lock l ia low refl) same (Word k.found) (first_step r Lock l ia low (Word k.found) k.seat) G1 Any
      (F1_goes (begun d.plan.mode 0 Lock l) k.found r.of.halting (held_by _ _ k.found k.word ne))

-- the rows of a try
module _ {d : Domain} {l : ℕ} {own : NodeName} {ta tb : TableId} {ia ib : ℕ} {a b : Me Slot View}
    (same : (tb ≡ ta) × (ib ≡ ia)) where
  pub t1_sees : {n : ℕ} (r : RestsOn d own ta a) (low : l < locks_of d.plan) (k : MadeBy Try l a n b) → n ≡ 0
      → AtOn d Try l own (starting Try l ta ia a) T2 Any tb ib b
  unfolding first
  t1_sees r low k e =
      goes (first r Try l ia low refl) same (Word k.found) (first_step r Try l ia low (Word k.found) k.seat) T2 Any
      (T1_sees (begun d.plan.mode 0 Try l) k.found (free_by _ _ k.found k.word e))

  pub t1_misses : {n : ℕ} (r : RestsOn d own ta a) (low : l < locks_of d.plan) (k : MadeBy Try l a n b) → n ≢ 0
      → EndedOn d Try l own (starting Try l ta ia a) Unchanged tb ib b
  unfolding first
  t1_misses r low k ne =
      ends (first r Try l ia low refl) same (Word k.found) (first_step r Try l ia low (Word k.found) k.seat) Unchanged
      (T1_misses (begun d.plan.mode 0 Try l) k.found (held_by _ _ k.found k.word ne))

  pub t2_takes : {s : Start} {n : ℕ} → AtOn d Try l own s T2 Any ta ia a → (k : MadeBy Try l a n b) → n ≡ 0 → TookOn d Try l own s tb ib b
  t2_takes w k e = ends w same (Word k.found) (went_on w (Word k.found) k.seat) (Takes Spins)
      (T2_takes w.frame k.found (plain w.frame w.lock) (free_by _ _ k.found k.word e))

  pub t2_misses : {s : Start} {n : ℕ} → AtOn d Try l own s T2 Any ta ia a → (k : MadeBy Try l a n b) → n ≢ 0 → EndedOn d Try l own s Unchanged tb ib b
  t2_misses w k ne = ends w same (Word k.found) (went_on w (Word k.found) k.seat) Unchanged
      (T2_misses w.frame k.found (held_by _ _ k.found k.word ne))

-- how a thief goes on

owns : {d : Domain} {v : Verb} {l : ℕ} {own : NodeName} {s : Start} {c : Pc} {tailed : Bool} {ta : TableId} {ia : ℕ} {a : Me Slot View}
    → AtOn d v l own s c (Steals own tailed) ta ia a → AtOn d v l own s c (Owns own) ta ia a
owns {own} w = stood (still_of w) w.low w.plain w.ledger (stays_at w (Owns own) w.has.me refl refl refl)

glance_steals : (own : NodeName) (x : Fields) → (is_unlocked x.locked && not x.pending) ≡ true → after_glance (Some own) x ≡ H2
glance_steals own x e = rw e refl

glance_again : (own : NodeName) (x : Fields) → (is_unlocked x.locked && not x.pending) ≡ false → (is_some x.tail && not x.pending) ≡ true
    → after_glance (Some own) x ≡ H1
glance_again own x e f = rw e (rw f refl)

glance_joins : (own : NodeName) (x : Fields) → (is_unlocked x.locked && not x.pending) ≡ false → (is_some x.tail && not x.pending) ≡ false
    → after_glance (Some own) x ≡ G4
glance_joins own x e f = rw e (rw f refl)

module _ {d : Domain} {v : Verb} {l : ℕ} {own : NodeName} {s : Start} {ta : TableId} {ia : ℕ} {a : Me Slot View} (x : Fields)
    (w : AtOn d v l own s (after_glance (Some own) x) (Steals own (is_some x.tail)) ta ia a) where
  pub steals : (is_unlocked x.locked && not x.pending) ≡ true → AtOn d v l own s H2 (Steals own (is_some x.tail)) ta ia a
  steals e = subst (λ c. AtOn d v l own s c (Steals own (is_some x.tail)) ta ia a) (glance_steals own x e) w

  pub looks_again : (is_unlocked x.locked && not x.pending) ≡ false → (is_some x.tail && not x.pending) ≡ true → AtOn d v l own s H1 (Owns own) ta ia a
  looks_again e f = owns (subst (λ c. AtOn d v l own s c (Steals own (is_some x.tail)) ta ia a) (glance_again own x e f) w)

  pub joins : (is_unlocked x.locked && not x.pending) ≡ false → (is_some x.tail && not x.pending) ≡ false → AtOn d v l own s G4 (Owns own) ta ia a
  joins e f = owns (subst (λ c. AtOn d v l own s c (Steals own (is_some x.tail)) ta ia a) (glance_joins own x e f) w)
