-- The laws over machines: acts, the machine at rest, and runs.
use Rattle.std.proofs.Common.{slice_get, ◌≡◌, ◌≤◌, ℕ, suc, Option, Some, None, List, [], ◌∷◌, ◌++◌}
use Rattle.std.proofs.Common.{ap, refl, sym, ◌∙◌, subst, length, append_assoc, arith, Bool, true}
use Rattle.std.proofs.Common.{false, get_or, All}
use Rattle.std.proofs.lemmas.List.{append-nil}
use Rattle.lk_core.proofs.Names.{cases_Bool, slice_get-get_or, LockHistory, Act, Event, Kind, Spin}
use Rattle.lk_core.proofs.Names.{LockName, Pv, next, Machine, rw_name, rules_of, Setup, if-false}
use Rattle.lk_core.proofs.Names.{halts, MayFollowIfAny, ShowsKicks, with_event, ShowsAll, world}
use Rattle.lk_core.proofs.Names.{IsSoundWorld, spin_part, told_on, World}
use Rattle.lk_names.proofs.Moments.{history_of-push}
use Rattle.lk_names.specs.{History.{no_history, history_of}, Lawful.{IsLawful, Rules, FrontIsOwed}}
use Rattle.lk_names.specs.declared.names.Kind.TheVariants.{Rw}
use Rattle.lk_abs.proofs.OneMore.{lawful-nil, lawful-push, told_here}
use Rattle.lk_rows.specs.Run.{at_rest, history_from, occurs, machine_after, events_of, Occurrence}
use Rattle.lk_law.proofs.{cna.Knows.passes_are_bounded, pv.HaltLayers.fronts_are_owed}
use Rattle.lk_law.specs.MachineLaws.{ShowsLawful, ActKeeps, AreInRange, RestShows, RunKeeps}
use Rattle.lk_law.specs.{Sound.Shows, SoundWorld.{is_rw, is_rw_name}}
use Rattle.lk_core.proofs.{ActKept.act_kept, Rest.{rest_shows_all, rest_shows_kicks}}
use Rattle.lk_core.proofs.Setups.{setup_kept}

few_pass : (threshold : ℕ) (ns : List ℕ) → ((i n : ℕ) → slice_get ns i ≡ Some n → n ≤ threshold)
    → All (λ n. n ≤ threshold) ns
few_pass threshold ns few k d low = few k (get_or ns k d) (slice_get-get_or ns k d low)

-- a lawful history stays lawful with one allowed event more, while nobody that stands aside is
-- passed by more handovers than the threshold and, in the paravirtual lock, every front that sleeps
-- while nobody holds its lock is owed a kick
lawful_then : (rules : Rules) (es : List Event) (o : Option Event) → IsLawful rules es
    → MayFollowIfAny rules (λ l. history_of l es) o
    → ((l : LockName) (i n : ℕ) → slice_get (history_of l (with_event es o)).passes i ≡ Some n
    → n ≤ rules.threshold)
    → (rules.mode ≡ Pv → (l : LockName) → FrontIsOwed (with_event es o) l)
    → IsLawful rules (with_event es o)
lawful_then rules es None lawful allowed few owed = lawful
lawful_then rules es (Some e) lawful allowed few owed =
    lawful-push rules es e lawful (λ l on. let a = allowed l on in record {
      shared = a.shared;
      owned = a.owned;
      ordered = a.ordered;
      bounded = subst (λ (h : LockHistory). All (λ n. n ≤ rules.threshold) h.passes)
          (told_here l es e on)
          (few_pass rules.threshold (history_of l (with_event es (Some e))).passes (few l));
    }) owed

-- the histories of a list of events, told on, are those of the list with the event
told_then : (es : List Event) (o : Option Event)
    → told_on (λ l. history_of l es) o ≡ (λ l. history_of l (with_event es o))
told_then es None = refl
told_then es (Some e) = (λ i l. sym (history_of-push l es e) i)

pub rest_shows : RestShows
rest_shows setup ok =
    record {
      shows = rest_shows_all setup ok;
      kicks = rest_shows_kicks setup ok;
      lawful = lawful-nil (rules_of setup);
    }

-- no act changes how many processors there are
cpus_kept : (m n : Machine) (hs ks : LockName → LockHistory) → ShowsAll m hs → ShowsAll n ks
    → n.setup ≡ m.setup → length n.cpus ≡ length m.cpus
cpus_kept m n hs ks a b e =
    b.whole.cpus ∙ ap (λ (s : Setup). length s.topology.sockets.items) e ∙ sym a.whole.cpus

-- what happens in an act, and then in others
events_then : (es : List Event) (o : Option Event) (n : ℕ) (os : List Occurrence)
    → with_event es o ++ events_of os ≡ es ++ events_of (occurs n o ++ os)
events_then es None n os = refl
events_then es (Some e) n os = append_assoc es (e ∷ []) (events_of os)

is_rw_true : (k : Kind) → is_rw k ≡ true → k ≡ Rw
is_rw_true Rw e = refl
is_rw_true Spin e = cc

-- in a sound world nobody that stands aside, for whatever lock, was passed by more handovers than
-- the threshold
every_pass_bounded : (m : World) (hs : LockName → LockHistory) → IsSoundWorld m hs
    → (l : LockName) (i n : ℕ) → slice_get (hs l).passes i ≡ Some n → n ≤ m.threshold
every_pass_bounded m hs whole l i n h = by (is_rw_name m.kind l) refl
  where
    by : (b : Bool) → is_rw_name m.kind l ≡ b → n ≤ m.threshold
    by false e =
        passes_are_bounded m (spin_part m.kind hs) l whole.spins i n
        (ap (λ (x : LockHistory). slice_get x.passes i)
        (if-false (is_rw_name m.kind l) no_history (hs l) e) ∙ h)
    by true e =
        let p : (l.wait ≡ false) × (is_rw (m.kind l.index) ≡ true) =
        grind (arith, e, cases_Bool l.wait) in
        let name : l ≡ rw_name l.index = (λ i. record { index = l.index; wait = p.0 i }) in
        let none : (hs l).passes ≡ [] = ap (λ (k : LockName). (hs k).passes) name
        ∙ (whole.rws l.index (is_rw_true (m.kind l.index) p.1)).passes in
        absurd (let z = ap (λ (ns : List ℕ). slice_get ns i) none in grind (arith, z, h))

pub acts_keep : ActKeeps
acts_keep m es a range now =
    let kept = act_kept m (λ l. history_of l es) now.shows a range in
    let o = (next m a).1 in
    let shown : Shows (next m a).0 (with_event es o) =
    subst (λ (hs : LockName → LockHistory). ShowsAll (next m a).0 hs) (told_then es o)
    kept.shows in
    let kicked : ShowsKicks (world (next m a).0) (with_event es o) = kept.kicks es now.kicks in
    let lawful : IsLawful (rules_of m.setup) (with_event es o) =
    lawful_then (rules_of m.setup) es o now.lawful kept.allowed
    (λ l i n h. subst (λ (s : Setup). n ≤ s.threshold) (setup_kept m a)
    (every_pass_bounded (world (next m a).0) (λ k. history_of k (with_event es o)) shown.world l i n
    h))
    (λ pv. fronts_are_owed (world (next m a).0) (with_event es o)
    (ap halts (ap (λ (s : Setup). s.mode) (setup_kept m a) ∙ pv)) shown.world kicked) in
    record {
      shows = shown;
      kicks = kicked;
      lawful = subst (λ (s : Setup). IsLawful (rules_of s) (with_event es o)) (sym (setup_kept m a))
          lawful;
    }

-- from any machine that shows a lawful history
pub run_from : (acts : List Act) (n : ℕ) (m : Machine) (es : List Event)
    → AreInRange (length m.cpus) acts → ShowsLawful m es
    → ShowsLawful (machine_after m acts) (es ++ events_of (history_from n m acts))
run_from [] n m es range now =
    subst (λ (xs : List Event). ShowsLawful m xs) (sym (append-nil es)) now
run_from (a ∷ acts) n m es range now =
    let o = (next m a).1 in
    let k = (next m a).0 in
    let then : ShowsLawful k (with_event es o) = acts_keep m es a range.0 now in
    let cpus =
    cpus_kept m k (λ l. history_of l es) (λ l. history_of l (with_event es o)) now.shows then.shows
    (setup_kept m a) in
    let inside : AreInRange (length k.cpus) acts =
    subst (λ (i : ℕ). AreInRange i acts) (sym cpus) range.1 in
    subst (λ (xs : List Event). ShowsLawful (machine_after k acts) xs)
    (events_then es o n (history_from (suc n) k acts))
    (run_from acts (suc n) k (with_event es o) inside then)

pub runs_keep : RunKeeps
runs_keep setup acts ok range =
    let rest = rest_shows setup ok in
    run_from acts 1 (at_rest setup) []
    (subst (λ (i : ℕ). AreInRange i acts) (sym rest.shows.whole.cpus) range) rest
