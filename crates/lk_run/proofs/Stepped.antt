-- What a step call of a processor does to its call that waits.
use Rattle.std.proofs.Common.{◌≡◌, ℕ, zero, suc, [], ◌∷◌, ◌++◌, length, Option, Bool, true, false}
use Rattle.std.proofs.Common.{eqb, refl, sym, ap, ◌∙◌, subst, arith, ◌||◌, ◌&&◌, None, Some}
use Rattle.lk_run.proofs.Names.{same_lock, LockName, Mode, first_place, wait_name, Frame, Pc, Verb}
use Rattle.lk_run.proofs.Names.{if-false, is_rw_row, Met, Shared, Word, takes_wait, is_taking}
use Rattle.lk_run.proofs.Names.{Calls, begin, held_in, holds_in, lock_name, mark, sight_of}
use Rattle.lk_run.proofs.Names.{terms_of, told, waits_in, counting, Any, Passes, is_busy}
use Rattle.lk_run.proofs.Names.{next_frame, ActsIn, MadeBy, rowed, is_swap, is_watch, looks_by}
use Rattle.lk_run.proofs.Names.{takes_by, SharedBy, IsOf, KeepsRest, calls_of, ledger_of, view_of}
use Rattle.lk_run.proofs.Names.{Inside, IsOn, Outside, Stage, Cpu, Domain, Plan, View, HasPolled}
use Rattle.lk_run.proofs.Names.{OwesPoll, StandsAs, Start, Waits, newest, starting, waiter}
use Rattle.lk_run.proofs.Names.{Acquires, GivesWay, HasStayed, RisesBy}
use Rattle.lk_domain.proofs.{Acting.{acting_is, acts_on, begins_on}, rows.Users.told_on}
use Rattle.lk_domain.specs.{Calls.{told_by, acting, StandsOn}, NodePlays.AtRow, Plays.made}
use Rattle.lk_run.proofs.{Polls.{falls_none, acquired, recount}, Steps.passes_none}
use Rattle.lk_run.proofs.Ways.{Leads, Ends, queues_patient, queues_inside, queues_looks}
use Rattle.lk_run.proofs.Ways.{queues_swaps, then_is}
use Rattle.lk_run.specs.Phases.{Won, Queues}
use Rattle.lk_domain.proofs.Standing as path
use Rattle.lk_run.proofs.Ways as way

-- a step of a processor of the domain
module _ (d : Domain) (v : Verb) (n : LockName) (a b : Cpu) (rest : KeepsRest a b) (of : IsOf a d) where
  is_mode : (view_of a).who.plan.mode ≡ d.plan.mode
  is_mode = ap (λ (k : Plan). k.mode) of.plan

  -- the call goes on
  module _ (x : Met) (step : view_of b ≡ rowed (view_of a) (calls_of a) x) (c : Pc) (P : Frame → Type 0) (stage : Stage)
      (s : Start) (told : Option ℕ) (w : HasPolled (waiter stage d v n) c P s a told) where
    pub here : IsOn (terms_of d.plan) b.number v n c P stage s.calls (calls_of a)
    here = subst (λ (m : ℕ). IsOn (terms_of d.plan) m v n c P stage s.calls (calls_of a)) (sym rest.same.number) w.looked.at

    pub on_looks_as : (Q : Frame → Type 0) → ((f : Frame) → P f → Leads d.plan.mode b.number (way.sees d a b) c f x c Q)
        → OwesPoll (waiter stage d v n) c Q s b told
    on_looks_as Q leads =
        way.looks d v n a b rest of (calls_of a) x step c P stage s here told w.looked.passes w.looked.falls w.rises w.looked.once Q
        (leads here.frame here.has)

    pub on_looks : ((f : Frame) → P f → Leads d.plan.mode b.number (way.sees d a b) c f x c P) → OwesPoll (waiter stage d v n) c P s b told
    on_looks leads = on_looks_as P leads

    pub on_goes : (e : Pc) (Q : Frame → Type 0) → (e ≡ c → ⊥) → ((f : Frame) → P f → Leads d.plan.mode b.number (way.sees d a b) c f x e Q)
        → HasPolled (waiter stage d v n) e Q s b told
    on_goes e Q other leads =
        way.goes d v n a b rest of (calls_of a) x step c P stage s here told w.looked.passes w.looked.falls w.rises w.looked.once e Q other
        (leads here.frame here.has)

  module _ (x : Met) (step : view_of b ≡ rowed (view_of a) (calls_of a) x) (c : Pc) (P : Frame → Type 0)
      (s : Start) (told : Option ℕ) (w : Waits d v n c P s a told) where
    pub on_takes : Queues v n → is_rw_row c ≡ false → ((f : Frame) → P f → Ends d.plan.mode b.number (way.sees d a b) c f x)
        → Won n.wait d v n.index s b told
    on_takes queues spin ends =
        let at = here x step c P Outside s told w in
        way.wins d v n a b rest of (calls_of a) x step c P s at told w.looked.passes w.looked.falls w.rises w.looked.once
        (ends at.frame at.has) queues spin

  -- what the newest call was told, after its row
  module _ (x : Met) (step : view_of b ≡ rowed (view_of a) (calls_of a) x) (c : Pc) (P : Frame → Type 0) (stage : Stage)
      (w : StandsAs stage d v n c P a) where
    stood : IsOn (terms_of d.plan) b.number v n c P stage w.0 (calls_of a)
    stood = subst (λ (m : ℕ). IsOn (terms_of d.plan) m v n c P stage w.0 (calls_of a)) (sym rest.same.number) w.1

    pub told_on_row : (e : Pc) → ((f : Frame) → P f → (next_frame d.plan.mode b.number (way.sees d a b) c f x).place ≡ Some e)
        → told (newest (calls_of b).frames) ≡ told_by (told (newest (calls_of a).frames)) c x
    told_on_row e place =
        ap told (way.grows d v n a b rest of (calls_of a) x step c P stage w.0 stood e (place stood.frame stood.has))
        ∙ (told_on stood.trail (way.marked d b (calls_of a) c x)
        ∙ ap (λ t. told_by (told t) c x) (sym (way.before d v n a b rest of (calls_of a) x step c P stage w.0 stood)))

  -- a step on a word of the lock is one of the call that goes on, or begins
  module _ (x : Met) (seat : b.seat.me ≡ (made a.seat.me.0 v n.index x, a.seat.me.1)) where
    acted : {c : Calls} → acting d.plan.mode (calls_of a) v n.index ≡ c → view_of b ≡ rowed (view_of a) c x
    acted is = (λ i. (seat i).0)
        ∙ ap (λ z. rowed (view_of a) z x) (ap (λ (m : Mode). acting m (calls_of a) v n.index) is_mode ∙ is)

    on_it : {c : Pc} {P : Frame → Type 0} {stage : Stage} {m : ℕ} {old : Calls}
        → IsOn (terms_of d.plan) m v n c P stage old (calls_of a) → view_of b ≡ rowed (view_of a) (calls_of a) x
    on_it {c} at = acted (acting_is (calls_of a) v n c (path.stands at) d.plan.mode)

    first_of_it : waits_in (calls_of a).frames n.index ≡ false
        → view_of b ≡ rowed (view_of a) (begin d.plan.mode (calls_of a) v n.index) x
    first_of_it none = acted (path.acts_begin d.plan.mode (calls_of a) v n.index none)

  -- on that of a spinlock or a wait lock
  module _ {met : ℕ} (made : MadeBy v n.index a.seat.me met b.seat.me) where
    pub on_word : {c : Pc} {P : Frame → Type 0} {stage : Stage} {m : ℕ} {old : Calls}
        → IsOn (terms_of d.plan) m v n c P stage old (calls_of a) → view_of b ≡ rowed (view_of a) (calls_of a) (Word made.found)
    on_word at = on_it (Word made.found) made.seat at

    pub first_word : waits_in (calls_of a).frames n.index ≡ false
        → view_of b ≡ rowed (view_of a) (begin d.plan.mode (calls_of a) v n.index) (Word made.found)
    first_word none = first_of_it (Word made.found) made.seat none

  -- on that of a reader-writer lock
  module _ {met : ℕ} (made : SharedBy v n.index a.seat.me met b.seat.me) where
    pub on_shared : {c : Pc} {P : Frame → Type 0} {stage : Stage} {m : ℕ} {old : Calls}
        → IsOn (terms_of d.plan) m v n c P stage old (calls_of a) → view_of b ≡ rowed (view_of a) (calls_of a) (Shared made.found)
    on_shared at = on_it (Shared made.found) made.seat at

    pub first_shared : waits_in (calls_of a).frames n.index ≡ false
        → view_of b ≡ rowed (view_of a) (begin d.plan.mode (calls_of a) v n.index) (Shared made.found)
    first_shared none = first_of_it (Shared made.found) made.seat none

-- the call begins
module _ (d : Domain) (v : Verb) (l : ℕ) (a b : Cpu) (rest : KeepsRest a b) (of : IsOf a d) (takes : is_taking v ≡ true)
    (free : takes_wait v ≡ true → held_in (calls_of a).holds (length (calls_of a).frames) (wait_name l) ≡ None)
    (x : Met) (step : view_of b ≡ rowed (view_of a) (begin d.plan.mode (calls_of a) v l) x) (nests : Bool) (told : Option ℕ) where
  abbrev row : Pc
  row = first_place d.plan.mode v

  pub first : IsOn (terms_of d.plan) b.number v (lock_name l) row Any Outside (calls_of a) (begin d.plan.mode (calls_of a) v l)
  first = (path.starts (terms_of d.plan) b.number v l (calls_of a) takes free).on

  pub none_yet : (y : Met) (r k : ℕ) → HasStayed k ([] ++ mark row y r ∷ []) → RisesBy k told told
  none_yet y r zero h = falls_none told
  none_yet y r (suc k) h = absurd h

  pub none_taken : Acquires nests 0 (calls_of a) (begin d.plan.mode (calls_of a) v l) told told
  none_taken = acquired nests 0 (calls_of a) (begin d.plan.mode (calls_of a) v l) told told (way.none_more (calls_of a).taken)

  pub first_goes : (e : Pc) → (e ≡ row → ⊥)
      → ((f : Frame) → Leads d.plan.mode b.number (sight_of (terms_of d.plan) b.number None) row f x e Any) → Waits d v (lock_name l) e Any (starting a nests told) b told
  first_goes e other leads =
      way.goes d v (lock_name l) a b rest of (begin d.plan.mode (calls_of a) v l) x step row Any Outside (starting a nests told) first told
      (passes_none _ (ledger_of a) (ledger_of a) refl) (falls_none told) none_yet none_taken e Any other (leads first.frame)

  pub first_takes : Queues v (lock_name l) → is_rw_row row ≡ false → ((f : Frame) → Ends d.plan.mode b.number (sight_of (terms_of d.plan) b.number None) row f x)
      → Won false d v l (starting a nests told) b told
  first_takes queues spin ends =
      way.wins d v (lock_name l) a b rest of (begin d.plan.mode (calls_of a) v l) x step row Any (starting a nests told) first told
      (passes_none _ (ledger_of a) (ledger_of a) refl) (falls_none told) none_yet none_taken (ends first.frame) queues spin

-- a step that changed nothing
module _ (d : Domain) (v : Verb) (n : LockName) (a b : Cpu) (rest : KeepsRest a b) (same : view_of b ≡ view_of a) (c : Pc)
    (P : Frame → Type 0) where
  same_at : (stage : Stage) (old : Calls) → IsOn (terms_of d.plan) a.number v n c P stage old (calls_of a)
      → IsOn (terms_of d.plan) b.number v n c P stage old (calls_of b)
  same_at stage old at =
      subst (λ (w : View). IsOn (terms_of d.plan) b.number v n c P stage old w.calls) (sym same)
      (subst (λ (m : ℕ). IsOn (terms_of d.plan) m v n c P stage old (calls_of a)) (sym rest.same.number) at)

  pub same_waits : (s : Start) (told : Option ℕ) → Waits d v n c P s a told → Waits d v n c P s b told
  same_waits s told w =
      record {
        looked = record {
          at = same_at Outside s.calls w.looked.at;
          passes = subst (Passes ((eqb n.index 0) || is_busy s.calls) s.ledger) (ap (λ (v : View). v.ledger) (sym same)) w.looked.passes;
          falls = w.looked.falls;
          stays = λ i h. w.looked.stays i (subst (λ (v : View). HasStayed i (newest v.calls.frames)) same h);
          once = subst (λ (v : View). Acquires s.nests 0 s.calls v.calls s.told told) (sym same) w.looked.once;
        };
        rises = λ x r i h. w.rises x r i (subst (λ (v : View). HasStayed i (newest v.calls.frames ++ mark c x r ∷ [])) same h);
      }

-- the count was read: the call stands where it stood
module _ (d : Domain) (v : Verb) (n : LockName) (a b : Cpu) (rest : KeepsRest a b) (k : ℕ) (same : view_of b ≡ counting k (view_of a))
    (c : Pc) (P : Frame → Type 0) where
  counted_at : (old : Calls) → IsOn (terms_of d.plan) a.number v n c P Outside old (calls_of a)
      → IsOn (terms_of d.plan) b.number v n c P Outside old (calls_of b)
  counted_at old at =
      path.kept (subst (λ (m : ℕ). IsOn (terms_of d.plan) m v n c P Outside old (calls_of a)) (sym rest.same.number) at) refl
      (record {
        frames = ap (λ (v : View). v.calls.frames) same;
        holds = ap (λ (v : View). v.calls.holds) same;
        taken = let e = ap (λ (v : View). v.calls.taken) same in omega (arith, e);
      })

  pub counted_waits : (s : Start) (told : Option ℕ) → Waits d v n c P s a told → Waits d v n c P s b told
  counted_waits s told w =
      record {
        looked = record {
          at = counted_at s.calls w.looked.at;
          passes = subst (Passes ((eqb n.index 0) || is_busy s.calls) s.ledger) (ap (λ (v : View). v.ledger) (sym same)) w.looked.passes;
          falls = w.looked.falls;
          stays = λ i h. w.looked.stays i (subst (λ (v : View). HasStayed i (newest v.calls.frames)) same h);
          once = recount s.nests 0 0 s.calls (calls_of a) (calls_of b) s.told told w.looked.once (λ e. ap (λ (v : View). v.calls.taken) same ∙ e);
        };
        rises = λ x r i h. w.rises x r i (subst (λ (v : View). HasStayed i (newest v.calls.frames ++ mark c x r ∷ [])) same h);
      }

-- what the step calls ask of a call that goes on
module _ (d : Domain) (v : Verb) (n : LockName) (c : Pc) (P : Frame → Type 0) (a : Cpu) (queues : Queues v n)
    (w : StandsAs Outside d v n c P a) where
  abbrev standing : StandsOn (calls_of a) v n c
  standing = path.stands w.1

  abbrev pub at_row : AtRow c v n (view_of a)
  at_row =
      record {
        stands = standing;
        patient = queues_patient v n queues;
        inside = queues_inside v n queues;
        after = then_is v n w.1.frame.then queues w.1.after;
      }

  abbrev pub acts_in : (kind : Pc → Bool) → kind c ≡ true → ActsIn kind (view_of a) v n
  acts_in kind is =
      record {
        acts = record {
          row = c;
          is = is;
          stands = acts_on (calls_of a) v n c standing (view_of a).who.plan.mode;
          begins = begins_on (calls_of a) v n c standing (view_of a).who.plan;
        };
        inside = queues_inside v n queues;
        after = then_is v n w.1.frame.then queues w.1.after;
      }

  abbrev pub looks_in : is_watch c ≡ true → ActsIn (looks_by v) (view_of a) v n
  looks_in is = acts_in (looks_by v) (queues_looks v n queues c is)

  abbrev pub takes_in : is_swap c ≡ true → ActsIn (takes_by v) (view_of a) v n
  takes_in is = acts_in (takes_by v) (queues_swaps v n queues c is)

-- nested calls leave a call where it is that has no lock yet, and it has polled
pub polled : (d : Domain) (v : Verb) (n : LockName) (c : Pc) (P : Frame → Type 0) (s : Start) (a b : Cpu) (nests : Bool)
    (before after : Option ℕ) → OwesPoll (waiter Outside d v n) c P s a before → GivesWay nests a before b after → s.nests ≡ nests
    → Waits d v n c P s b after
polled d v n c P s a b nests before after looked gave is =
    way.polled_at d v n c P Outside s a b nests before after looked refl (ap (λ hs. holds_in hs 0) looked.at.holds) gave is

-- nor one that has the wait lock
pub polled_in : (d : Domain) (v : Verb) (l : ℕ) (c : Pc) (P : Frame → Type 0) (s : Start) (a b : Cpu) (nests : Bool)
    (before after : Option ℕ) → OwesPoll (waiter Inside d v (wait_name l)) c P s a before → GivesWay nests a before b after → s.nests ≡ nests
    → HasPolled (waiter Inside d v (wait_name l)) c P s b after
polled_in d v l c P s a b nests before after looked gave is =
    way.polled_at d v (wait_name l) c P Inside s a b nests before after looked refl
    (ap (λ hs. holds_in hs 0) looked.at.holds.1
    ∙ if-false (same_lock (wait_name l) (lock_name 0)) true (holds_in s.calls.holds 0) (other (eqb l 0))) gave is
  where
    other : (b : Bool) → (b && false) ≡ false
    other true = refl
    other false = refl
