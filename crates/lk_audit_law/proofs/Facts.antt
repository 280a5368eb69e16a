-- What an act of a machine that shows a history tells is of the machine's setup.
use Rattle.std.proofs.Common.{◌≡◌, ◌<◌, ◌-◌, ◌⊎◌, ℕ, zero, suc, List, [], ◌∷◌, Option, Some, None, Bool, true, false, length, inl, inr, refl, sym, ap, subst, ◌∙◌, arith, slice_get, nat_lt, unwrap_or}
use Rattle.std.specs.Prelude.{⊤}
use Rattle.std.proofs.lemmas.Bool.{cases_Bool}
use Rattle.std.proofs.lemmas.Bool.Decides.{nat_tests}
use Rattle.lk_names.specs.History.{LockHistory, lock_of}
use Rattle.lk_names.specs.declared.names.Kind.{Kind}
use Rattle.lk_names.specs.declared.names.Kind.TheVariants.{Spin, Rw}
use Rattle.lk_names.specs.declared.names.Mode.{Mode}
use Rattle.lk_names.specs.declared.names.Waiter.{Waiter}
use Rattle.lk_names.specs.declared.names.LockName.{LockName}
use Rattle.lk_names.specs.declared.events.Event.{Event}
use Rattle.lk_names.specs.declared.events.What.{What}
use Rattle.lk_names.specs.declared.events.What.TheVariants as what
use Rattle.lk_word.specs.declared.spin_word.NodeName.{NodeName}
use Rattle.lk_rows.specs.declared.setup.Setup.{Setup}
use Rattle.lk_rows.specs.declared.setup.Verb.{Verb}
use Rattle.lk_rows.specs.declared.setup.Verb.TheVariants as verb
use Rattle.lk_rows.specs.declared.parts.Frame.{Frame}
use Rattle.lk_rows.specs.declared.parts.Pc.{Pc}
use Rattle.lk_rows.specs.declared.parts.Pc.TheVariants.{W6, E12, R1, R2, R3, R4, R5, Wr1, Wr2, Wr3, Wr4, Wr5, Wr6, Y1, Y2, Y3, Y4, Y5, Z1, Z2}
use Rattle.lk_rows.specs.Machine.{Machine, cpu_at, frame_at, depth_at, top_of, top_frame, HasTop, rest_frame}
use Rattle.lk_rows.specs.Moves.{node_of}
use Rattle.lk_rows.specs.Programs.{kind_of}
use Rattle.lk_rows.specs.Row.{Tell, event_of}
use Rattle.lk_rows.specs.TopRow.{Target, SpinWord}
use Rattle.lk_rows.specs.TopRow.{RwWord, target, row_on}
use Rattle.lk_law.specs.Families.{is_rw_row}
use Rattle.lk_law.specs.Places.{post_if}
use Rattle.lk_law.specs.Pv.{at_halt}
use Rattle.lk_law.specs.Sound.{BelongsTo, RwBelongs, takes_wait, Footing, Spinning, Sharing, Waiting, Freeing, Owing, Fits, ShowsAll}
use Rattle.lk_forms.specs.Grammar.{cpus_of}
use Rattle.lk_audit_forms.specs.Exact.{IsWriters}
use Rattle.lk_audit_forms.specs.Ranges.{is_lock_of, is_spinning, is_shared, is_either, of_kind, fits_lock}
use Rattle.lk_audit_law.proofs.Tells.{IsSpinTold, IsRwTold, SpinTells, TellsOf, tell_on}

-- the processors that an event names beside its own are there; of a handover nothing is said
abbrev pub IsNamed : ℕ → What → Type 0
IsNamed n (what.Release l (Some p)) = p < n
IsNamed n (what.Kick p) = p < n
IsNamed n _ = ⊤

abbrev pub IsWritten : What → Type 0
IsWritten (what.WTake l h) = IsWriters h
IsWritten _ = ⊤

-- all that holds of an event but for whom a handover goes to, and how many it moves
pub record IsOf (s : Setup) (e : Event) : Type 0 where
  pub cpu : e.by.cpu < cpus_of s
  pub ctx : e.by.ctx < 6
  pub named : IsNamed (cpus_of s) e.what
  pub lock : is_lock_of (length s.locks.items) (lock_of e.what) ≡ true
  pub fits : fits_lock s e.what ≡ true
  pub written : IsWritten e.what

-- lists

pub get_below : {A : Type 0} (xs : List A) (i : ℕ) (x : A) → slice_get xs i ≡ Some x → i < length xs
get_below [] i x is = cc
get_below (y ∷ xs) zero x is = omega arith
get_below (y ∷ xs) (suc i) x is = (let below = get_below xs i x is in omega (arith, below))

get_some : {A : Type 0} (xs : List A) (i : ℕ) (d : A) → i < length xs → slice_get xs i ≡ Some (unwrap_or (slice_get xs i) d)
get_some [] i d below = absurd (omega (arith, below))
get_some (y ∷ xs) zero d below = refl
get_some (y ∷ xs) (suc i) d below = get_some xs i d (omega (arith, below))

below_test : (a b : ℕ) → a < b → nat_lt a b ≡ true
below_test a b h = grind (arith, nat_tests, h)

-- the lock of a told event

either_spins : (k : Kind) (b : Bool) → is_spinning (Some k) b ≡ true → is_either (Some k) b ≡ true
either_spins Spin b h = h
either_spins Rw b h = refl

module _ (s : Setup) (l : LockName) (k : Kind) (kind : slice_get s.locks.items l.index ≡ Some k) where
  test_same : (test : Option Kind → Bool → Bool) (j : LockName) → j ≡ l → test (Some k) l.wait ≡ true
      → of_kind test s j ≡ true
  test_same test j is ok = subst (λ (x : LockName). of_kind test s x ≡ true) (sym is) (rw kind ok)

  there : (j : LockName) → j ≡ l → nat_lt j.index (length s.locks.items) ≡ true
  there j is =
      subst (λ (x : LockName). nat_lt x.index (length s.locks.items) ≡ true) (sym is)
      (below_test l.index (length s.locks.items) (get_below s.locks.items l.index k kind))

  pub spin_of : (n : ℕ) (u : Waiter) (w : What) → n ≡ cpus_of s → u.cpu < cpus_of s → u.ctx < 6
      → is_spinning (Some k) l.wait ≡ true → IsSpinTold n l w → IsOf s (record { by = u; what = w })
  spin_of n u (what.Take j h) same cpu ctx ok is = record { cpu = cpu; ctx = ctx; named = tt; lock = there j is; fits = test_same is_spinning j is ok; written = tt }
  spin_of n u (what.Miss j) same cpu ctx ok is = record { cpu = cpu; ctx = ctx; named = tt; lock = there j is; fits = test_same is_either j is (either_spins k l.wait ok); written = tt }
  spin_of n u (what.Release j None) same cpu ctx ok is = record { cpu = cpu; ctx = ctx; named = tt; lock = there j is; fits = test_same is_spinning j is ok; written = tt }
  spin_of n u (what.Release j (Some p)) same cpu ctx ok is = record { cpu = cpu; ctx = ctx; named = subst (λ x. p < x) same is.1; lock = there j is.0; fits = test_same is_spinning j is.0 ok; written = tt }
  spin_of n u (what.Kick p) same cpu ctx ok is = record { cpu = cpu; ctx = ctx; named = subst (λ x. p < x) same is; lock = refl; fits = refl; written = tt }
  spin_of n u (what.Arrive j) same cpu ctx ok is = record { cpu = cpu; ctx = ctx; named = tt; lock = there j is; fits = test_same is_spinning j is ok; written = tt }
  spin_of n u (what.Pass j to m) same cpu ctx ok is = absurd is
  spin_of n u (what.Flush j) same cpu ctx ok is = record { cpu = cpu; ctx = ctx; named = tt; lock = there j is; fits = test_same is_spinning j is ok; written = tt }
  spin_of n u (what.Promote j) same cpu ctx ok is = record { cpu = cpu; ctx = ctx; named = tt; lock = there j is; fits = test_same is_spinning j is ok; written = tt }
  spin_of n u (what.Leave j) same cpu ctx ok is = record { cpu = cpu; ctx = ctx; named = tt; lock = there j is; fits = test_same is_spinning j is ok; written = tt }
  spin_of n u (what.Halt j) same cpu ctx ok is = record { cpu = cpu; ctx = ctx; named = tt; lock = there j is; fits = test_same is_spinning j is ok; written = tt }
  spin_of n u (what.Wake j) same cpu ctx ok is = record { cpu = cpu; ctx = ctx; named = tt; lock = there j is; fits = test_same is_spinning j is ok; written = tt }
  spin_of n u what.Int same cpu ctx ok is = absurd is
  spin_of n u what.Nudge same cpu ctx ok is = absurd is
  spin_of n u (what.RTake j h) same cpu ctx ok is = absurd is
  spin_of n u (what.RRelease j) same cpu ctx ok is = absurd is
  spin_of n u (what.WTake j h) same cpu ctx ok is = absurd is
  spin_of n u (what.WRelease j) same cpu ctx ok is = absurd is

  pub rw_of : (u : Waiter) (w : What) → u.cpu < cpus_of s → u.ctx < 6 → is_shared (Some k) l.wait ≡ true
      → is_either (Some k) l.wait ≡ true → IsRwTold l w → IsOf s (record { by = u; what = w })
  rw_of u (what.Miss j) cpu ctx ok any is = record { cpu = cpu; ctx = ctx; named = tt; lock = there j is; fits = test_same is_either j is any; written = tt }
  rw_of u (what.RTake j h) cpu ctx ok any is = record { cpu = cpu; ctx = ctx; named = tt; lock = there j is; fits = test_same is_shared j is ok; written = tt }
  rw_of u (what.RRelease j) cpu ctx ok any is = record { cpu = cpu; ctx = ctx; named = tt; lock = there j is; fits = test_same is_shared j is ok; written = tt }
  rw_of u (what.WTake j h) cpu ctx ok any is = record { cpu = cpu; ctx = ctx; named = tt; lock = there j is.0; fits = test_same is_shared j is.0 ok; written = is.1 }
  rw_of u (what.WRelease j) cpu ctx ok any is = record { cpu = cpu; ctx = ctx; named = tt; lock = there j is; fits = test_same is_shared j is ok; written = tt }
  rw_of u (what.Take j h) cpu ctx ok any is = absurd is
  rw_of u (what.Release j owing) cpu ctx ok any is = absurd is
  rw_of u (what.Kick p) cpu ctx ok any is = absurd is
  rw_of u (what.Arrive j) cpu ctx ok any is = absurd is
  rw_of u (what.Pass j to m) cpu ctx ok any is = absurd is
  rw_of u (what.Flush j) cpu ctx ok any is = absurd is
  rw_of u (what.Promote j) cpu ctx ok any is = absurd is
  rw_of u (what.Leave j) cpu ctx ok any is = absurd is
  rw_of u (what.Halt j) cpu ctx ok any is = absurd is
  rw_of u (what.Wake j) cpu ctx ok any is = absurd is
  rw_of u what.Int cpu ctx ok any is = absurd is
  rw_of u what.Nudge cpu ctx ok any is = absurd is

  pub pass_of : (u to : Waiter) (m : ℕ) → u.cpu < cpus_of s → u.ctx < 6 → is_spinning (Some k) l.wait ≡ true
      → IsOf s (record { by = u; what = what.Pass l to m })
  pass_of u to m cpu ctx ok = record { cpu = cpu; ctx = ctx; named = tt; lock = there l refl; fits = test_same is_spinning l refl ok; written = tt }

-- the kind of lock on which a frame acts

takes_shared : (v : Verb) → takes_wait v ≡ true → kind_of v ≡ Rw
takes_shared verb.Read h = refl
takes_shared verb.Write h = refl
takes_shared verb.Lock h = cc
takes_shared verb.Try h = cc
takes_shared verb.Unlock h = cc
takes_shared verb.TryRead h = cc
takes_shared verb.TryWrite h = cc
takes_shared verb.RUnlock h = cc
takes_shared verb.WUnlock h = cc

spins_there : (mode : Mode) (v : Verb) (c : Pc) (b : Bool) → b ≡ false → BelongsTo mode v c → is_spinning (Some (kind_of v)) b ≡ true
spins_there mode verb.Lock c b plain belongs = rw plain refl
spins_there mode verb.Try c b plain belongs = rw plain refl
spins_there mode verb.Unlock c b plain belongs = rw plain refl
spins_there mode verb.Read c b plain belongs = absurd belongs
spins_there mode verb.Write c b plain belongs = absurd belongs
spins_there mode verb.TryRead c b plain belongs = absurd belongs
spins_there mode verb.TryWrite c b plain belongs = absurd belongs
spins_there mode verb.RUnlock c b plain belongs = absurd belongs
spins_there mode verb.WUnlock c b plain belongs = absurd belongs

waits_there : (v : Verb) (b : Bool) → b ≡ true → takes_wait v ≡ true → is_spinning (Some (kind_of v)) b ≡ true
waits_there v b wait takes = rw (takes_shared v takes) wait

pub stage_spins : (mode : Mode) (v : Verb) (f : Frame) (c : Pc) → Footing mode v f c → is_rw_row c ≡ false
    → is_spinning (Some (kind_of v)) f.lock.wait ≡ true
stage_spins mode v f c (Spinning plain row belongs) other = spins_there mode v c f.lock.wait plain belongs
stage_spins mode v f c (Sharing row belongs) other = cc
stage_spins mode v f c (Waiting wait row release takes belongs) other = waits_there v f.lock.wait wait takes
stage_spins mode v f c (Freeing wait row release takes belongs) other = waits_there v f.lock.wait wait takes
stage_spins mode v f c (Owing pv here plain waits) other = by_mark (cases_Bool f.lock.wait)
  where
    by_mark : (f.lock.wait ≡ true) ⊎ (f.lock.wait ≡ false) → is_spinning (Some (kind_of v)) f.lock.wait ≡ true
    by_mark (inl e) = waits_there v f.lock.wait e (waits e)
    by_mark (inr e) = rw (plain e, e) refl

shares_there : (v : Verb) (b : Bool) (c : Pc) → RwBelongs v b c → kind_of v ≡ Rw
shares_there verb.Read b c belongs = refl
shares_there verb.Write b c belongs = refl
shares_there verb.TryRead b c belongs = refl
shares_there verb.TryWrite b c belongs = refl
shares_there verb.RUnlock b c belongs = refl
shares_there verb.WUnlock b c belongs = refl
shares_there verb.Lock true c belongs = absurd belongs
shares_there verb.Lock false c belongs = absurd belongs
shares_there verb.Try true c belongs = absurd belongs
shares_there verb.Try false c belongs = absurd belongs
shares_there verb.Unlock true c belongs = absurd belongs
shares_there verb.Unlock false c belongs = absurd belongs

-- a row of a reader or a writer has an operation of one
pub stage_shares : (mode : Mode) (v : Verb) (f : Frame) (c : Pc) → Footing mode v f c → is_rw_row c ≡ true → kind_of v ≡ Rw
stage_shares mode v f c (Sharing row belongs) h = shares_there v f.lock.wait c belongs
stage_shares mode v f c (Spinning plain row belongs) h = cc
stage_shares mode v f c (Waiting wait row release takes belongs) h = takes_shared v takes
stage_shares mode v f c (Freeing wait row release takes belongs) h = takes_shared v takes
stage_shares mode v f c (Owing pv here plain waits) h = (let other : is_rw_row c ≡ false = rw here refl in cc)

-- the rows of readers and writers are those on the word of their lock
pub rw_target : (c : Pc) (f : Frame) → is_rw_row c ≡ true → target c f ≡ RwWord
rw_target R1 f h = refl
rw_target R2 f h = refl
rw_target R3 f h = refl
rw_target R4 f h = refl
rw_target R5 f h = refl
rw_target Wr1 f h = refl
rw_target Wr2 f h = refl
rw_target Wr3 f h = refl
rw_target Wr4 f h = refl
rw_target Wr5 f h = refl
rw_target Wr6 f h = refl
rw_target Y1 f h = refl
rw_target Y2 f h = refl
rw_target Y3 f h = refl
rw_target Y4 f h = refl
rw_target Y5 f h = refl
rw_target Z1 f h = refl
rw_target Z2 f h = refl
rw_target _ f h = cc

abbrev is_word_of_rw : Target → Bool
is_word_of_rw RwWord = true
is_word_of_rw _ = false

pub other_target : (c : Pc) (f : Frame) → is_rw_row c ≡ false → is_word_of_rw (target c f) ≡ false
other_target R1 f h = cc
other_target R2 f h = cc
other_target R3 f h = cc
other_target R4 f h = cc
other_target R5 f h = cc
other_target Wr1 f h = cc
other_target Wr2 f h = cc
other_target Wr3 f h = cc
other_target Wr4 f h = cc
other_target Wr5 f h = cc
other_target Wr6 f h = cc
other_target Y1 f h = cc
other_target Y2 f h = cc
other_target Y3 f h = cc
other_target Y4 f h = cc
other_target Y5 f h = cc
other_target Z1 f h = cc
other_target Z2 f h = cc
other_target _ f h = refl

pub spin_told : (n : ℕ) (f : Frame) (t : Target) (x : Tell) → is_word_of_rw t ≡ false → TellsOf n f t x → SpinTells n f.lock x
spin_told n f RwWord x other told = cc
spin_told n f SpinWord x other told = told
spin_told n f _ x other told = told

pub row_event : (m : Machine) (p : ℕ) (f : Frame) (c : Pc) (t : Target) → (row_on m p f c t).1 ≡ event_of m p f (tell_on m p f c t)
row_event m p f c SpinWord = refl
row_event m p f c _ = refl

-- a frame that at_halt stands at a row of the paravirtual lock
pub sleeps_at : (f : Frame) (o : Option Pc) → at_halt (post_if o f) ≡ true → (c : Pc) × (o ≡ Some c) × (is_rw_row c ≡ false)
sleeps_at f None h = cc
sleeps_at f (Some W6) h = (W6, refl, refl)
sleeps_at f (Some E12) h = (E12, refl, refl)
sleeps_at f (Some _) h = cc

-- where the machine shows a history

module _ (m : Machine) (hs : LockName → LockHistory) (shows : ShowsAll m hs) (p : ℕ) (here : p < length m.cpus) where
  pub top : HasTop m p
  top = shows.whole.tops p here

  pub cpus_are : length m.cpus ≡ cpus_of m.setup
  cpus_are = shows.whole.cpus

  pub live : frame_at m (top_of m p) ≡ Some (top_frame m p)
  unfolding frame_at depth_at cpu_at
  live = (let some = top.some in get_some (cpu_at m p).frames (length (cpu_at m p).frames - 1) rest_frame (omega (arith, some)))

  pub fit : Fits m (top_of m p) (top_frame m p)
  fit = shows.fits (top_of m p) (top_frame m p) live

  pub cpu_below : p < cpus_of m.setup
  cpu_below = subst (λ n. p < n) cpus_are here

  pub ctx_below : (top_frame m p).ctx < 6
  ctx_below = (let some = top.some in let few = top.few in let ctx = fit.ctx in omega (arith, some, few, ctx))

  pub kind_at : (c : Pc) (at : (top_frame m p).place ≡ Some c)
      → slice_get m.setup.locks.items (top_frame m p).lock.index ≡ Some (kind_of (fit.working c at).op.verb)
  kind_at c at =
      let works = fit.working c at in
      let declared = (shows.whole.setup.lawful p (top_frame m p).program).declared (top_frame m p).«at» works.op works.is in
      ap (slice_get m.setup.locks.items) works.lock ∙ declared

  pub target_below : (node_of (top_frame m p).target).cpu < cpus_of m.setup
  target_below = by_target (top_frame m p).target refl
    where
      by_target : (o : Option NodeName) → (top_frame m p).target ≡ o → (node_of o).cpu < cpus_of m.setup
      by_target None e = shows.whole.setup.some
      by_target (Some n) e = subst (λ x. n.cpu < x) cpus_are (fit.target n e).cpu
