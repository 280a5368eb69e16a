-- What a step of a processor does to a try of a reader or a writer, and to a release of one.
use Rattle.std.proofs.Common.{◌≡◌, ℕ, ◌+◌, [], ◌∷◌, ◌++◌, None, Bool, true, false, refl, sym, ap}
use Rattle.std.proofs.Common.{◌∙◌, subst}
use Rattle.lk_run.proofs.Names.{RwFields, Manner, LockName, first_place, target, Frame, Pc, Y2, Y5}
use Rattle.lk_run.proofs.Names.{Verb, TryRead, TryWrite, Met, Shared, held_lock, takes_wait}
use Rattle.lk_run.proofs.Names.{apart_of, is_taking, Calls, Frees, Takes, Terms, begin, lock_name}
use Rattle.lk_run.proofs.Names.{row_of, sight_of, terms_of, waits_in, Ledger, turned, Any, row_grip}
use Rattle.lk_run.proofs.Names.{rowed, ActsFor, SharedBy, joins_at, seizes_at, IsOf, KeepsRest}
use Rattle.lk_run.proofs.Names.{calls_of, ledger_of, view_of, Outside, Cpu, Domain}
use Rattle.lk_domain.proofs.rw.Released.{Lets, reader, writer}
use Rattle.lk_domain.specs.{Plays.turned_of, Standing.IsAt, Views.own_number}
use Rattle.lk_domain.specs.Waits.{WaitsAt, Moves, Gains, Misses}
use Rattle.lk_run.proofs.{RwRows.{TakesBy, Fails}, Ways.Leads}
use Rattle.lk_run.specs.Entering.{Leaves}
use Rattle.lk_domain.proofs.Standing as path
use Rattle.lk_domain.proofs.rw.Released as released
use Rattle.lk_run.proofs.RwSteps as rw
use Rattle.lk_run.proofs.Stepped as step
use Rattle.lk_run.proofs.Ways as way

module _ (d : Domain) (v : Verb) (l : ℕ) (a b : Cpu) (rest : KeepsRest a b) (of : IsOf a d) (was : Calls) (x : Met)
    (is : view_of b ≡ rowed (view_of a) was x) (c : Pc) (old : Calls)
    (at : IsAt (terms_of d.plan) b.number v l c Any old was) where
  turns : ledger_of b ≡ turned (ledger_of a) (held_lock (target c at.on.frame) at.on.frame) (row_grip d.plan.mode b.number (sight_of (terms_of d.plan) b.number was.runs) c at.on.frame x) (at.on.trail ++ way.marked d b was c x ∷ [])
  turns = way.turns d v (lock_name l) a b rest of was x is c Any Outside old at.on

  calls : calls_of b ≡ row_of (terms_of d.plan) b.number was x
  calls = way.calls d v (lock_name l) a b rest of was x is c Any Outside old at.on

  moves_at : (e : Pc) → Leads d.plan.mode b.number (sight_of (terms_of d.plan) b.number was.runs) c at.on.frame x e Any → Moves d v l e old a b
  moves_at e leads =
      record {
        waits = path.moves at x calls e Any leads.place leads.grip leads.lock leads.has;
        ledger = turns ∙ ap (λ y. turned (ledger_of a) (held_lock (target c at.on.frame) at.on.frame) y (at.on.trail ++ way.marked d b was c x ∷ [])) leads.grip;
      }

  gains_at : (m : Manner) → TakesBy d.plan.mode b.number (sight_of (terms_of d.plan) b.number was.runs) c at.on.frame x m None → Gains d v l m old a b
  gains_at m takes =
      let own = takes.own ∙ ap (λ (z : LockName). lock_name z.index) at.on.lock in
      let last = way.last_is d v (lock_name l) a b rest of was x is c Any Outside old at.on takes.place in
      record {
        taken = path.takes at.on x calls m takes.place takes.grip own;
        once = path.count_after at.on x calls (Takes m) takes.grip ∙ ap (λ (n : ℕ). n + 1) at.taken;
        ledger = turns ∙ ((λ i. turned (ledger_of a) (own i) (takes.grip i) (at.on.trail ++ way.marked d b was c x ∷ []))
            ∙ ap (λ ms. turned (ledger_of a) (lock_name l) (Takes m) ms) (sym last));
      }

  misses_at : Fails d.plan.mode b.number (sight_of (terms_of d.plan) b.number was.runs) c at.on.frame x → Misses d v l old a b
  misses_at fails =
      record {
        missed = path.misses at.on x calls at.taken fails.place fails.grip;
        ledger = turns ∙ ap (λ y. turned (ledger_of a) (held_lock (target c at.on.frame) at.on.frame) y (at.on.trail ++ way.marked d b was c x ∷ [])) fails.grip;
      }

-- a try that begins
module _ (d : Domain) (v : Verb) (l : ℕ) (a b : Cpu) (rest : KeepsRest a b) (of : IsOf a d) (takes : is_taking v ≡ true)
    (no : takes_wait v ≡ false) {met : ℕ} (made : SharedBy v l a.seat.me met b.seat.me) (none : waits_in (calls_of a).frames l ≡ false) where
  abbrev row : Pc
  row = first_place d.plan.mode v

  first_is : view_of b ≡ rowed (view_of a) (begin d.plan.mode (calls_of a) v l) (Shared made.found)
  first_is = step.first_shared d v (lock_name l) a b rest of made none

  first_at : IsAt (terms_of d.plan) b.number v l row Any (calls_of a) (begin d.plan.mode (calls_of a) v l)
  first_at = path.starts (terms_of d.plan) b.number v l (calls_of a) takes (path.never_waits v no)

  pub first_moves : (e : Pc) → ((f : Frame) → Leads d.plan.mode b.number (sight_of (terms_of d.plan) b.number None) row f (Shared made.found) e Any) → Moves d v l e (calls_of a) a b
  first_moves e leads =
      moves_at d v l a b rest of (begin d.plan.mode (calls_of a) v l) (Shared made.found) first_is row (calls_of a) first_at e (leads first_at.on.frame)

  pub first_misses : ((f : Frame) → Fails d.plan.mode b.number (sight_of (terms_of d.plan) b.number None) row f (Shared made.found)) → Misses d v l (calls_of a) a b
  first_misses fails =
      misses_at d v l a b rest of (begin d.plan.mode (calls_of a) v l) (Shared made.found) first_is row (calls_of a) first_at (fails first_at.on.frame)

-- one that goes on
module _ (d : Domain) (v : Verb) (l : ℕ) (a b : Cpu) (rest : KeepsRest a b) (of : IsOf a d) {met : ℕ} (made : SharedBy v l a.seat.me met b.seat.me) (c : Pc) (old : Calls)
    (at : WaitsAt d v l c old a) where
  on_at : IsAt (terms_of d.plan) b.number v l c Any old (calls_of a)
  on_at = subst (λ (m : ℕ). IsAt (terms_of d.plan) m v l c Any old (calls_of a)) (sym rest.same.number) at

  on_is : view_of b ≡ rowed (view_of a) (calls_of a) (Shared made.found)
  on_is = step.on_shared d v (lock_name l) a b rest of made on_at.on

  pub on_moves : (e : Pc) → ((f : Frame) → Leads d.plan.mode b.number (way.sees d a b) c f (Shared made.found) e Any) → Moves d v l e old a b
  on_moves e leads = moves_at d v l a b rest of (calls_of a) (Shared made.found) on_is c old on_at e (leads on_at.on.frame)

  pub on_gains : (m : Manner) → ((f : Frame) → TakesBy d.plan.mode b.number (way.sees d a b) c f (Shared made.found) m None) → Gains d v l m old a b
  on_gains m takes = gains_at d v l a b rest of (calls_of a) (Shared made.found) on_is c old on_at m (takes on_at.on.frame)

  pub on_misses : ((f : Frame) → Fails d.plan.mode b.number (way.sees d a b) c f (Shared made.found)) → Misses d v l old a b
  on_misses fails = misses_at d v l a b rest of (calls_of a) (Shared made.found) on_is c old on_at (fails on_at.on.frame)

-- a release, which begins and ends in one step

closes : {v : Verb} {c : Pc} {m : Manner} → Lets v c m → (terms : Terms) (p : ℕ) (old : Calls) (l : ℕ) (y : RwFields) (g : Ledger)
    → turned_of terms p (begin terms.mode old v l) (Shared y) g
    ≡ turned g (lock_name l) Frees (row_of terms p (begin terms.mode old v l) (Shared y)).last
closes reader terms p old l y g = refl
closes writer terms p old l y g = refl

pub leaves : {v : Verb} {c : Pc} {m : Manner} → Lets v c m → (d : Domain) (l : ℕ) (a b : Cpu) {met : ℕ}
    → IsOf a d → SharedBy v l a.seat.me met b.seat.me → Leaves c l a b
leaves lets d l a b {met} of made =
    let terms = terms_of (view_of a).who.plan in
    let p = own_number (view_of a).who.number in
    let calm = apart_of a d of in
    record {
      left = released.left lets l met a.seat.me b.seat.me made calm;
      ledger = (λ i. (made.seat i).0.ledger)
          ∙ (ap (λ (z : Calls). turned_of terms p z (Shared made.found) (ledger_of a))
          (released.acts lets l met a.seat.me b.seat.me made calm)
          ∙ (closes lets terms p (calls_of a) l made.found (ledger_of a)
          ∙ ap (λ (z : Calls). turned (ledger_of a) (lock_name l) Frees z.last)
          (sym (released.rowed lets l met a.seat.me b.seat.me made calm))));
    }

-- what is asked of a try that goes on
pub acts_try : (d : Domain) (v : Verb) (l : ℕ) (c : Pc) (a : Cpu) (old : Calls) → WaitsAt d v l c old a
    → (kind : Pc → Bool) → kind c ≡ true → ActsFor kind (view_of a) v l
acts_try d v l c a old at kind is =
    rw.acts_for d v (lock_name l) c Any Outside a (old, at.on) kind is

-- it does not depend on what waits

pub joins_Y2 : (b : Bool) → joins_at b TryRead Y2 ≡ true
joins_Y2 true = refl
joins_Y2 false = refl

pub seizes_Y5 : (b : Bool) → seizes_at b TryWrite Y5 ≡ true
seizes_Y5 true = refl
seizes_Y5 false = refl
