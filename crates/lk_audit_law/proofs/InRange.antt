-- The acts of a trace are in range.
use Rattle.std.proofs.Common.{Bool, true, false, ◌≡◌, ◌≤◌, ◌<◌, ◌+◌, ◌++◌, map, ℕ, zero, suc, List, [], ◌∷◌, Result, Ok, Err, length, replicate, refl, sym, ap, subst, ◌∙◌, arith, if◌then◌else◌}
use Rattle.std.proofs.lemmas.List.{length-append, length-replicate}
use Rattle.lk_names.specs.declared.events.Act.{Act}
use Rattle.lk_rows.specs.Acts.{processor_of}
use Rattle.lk_rows.specs.declared.setup.Setup.{Setup}
use Rattle.lk_law.specs.MachineLaws.{AreInRange}
use Rattle.lk_forms.specs.Grammar.{Reading, cpus_of, reading_of, scheduled, has_go, has_end, ending}
use Rattle.lk_forms.specs.Grammar.{read as read_trace}
use Rattle.lk_forms.specs.Trace.{Good, Refused, reading_after, setup_of, acts_of, trace_from}
use Rattle.lk_text.specs.Feeds.{line_of}
use Rattle.lk_forms.specs.Schedule.{schedule_of, SaysNext, IsWithin}
use Rattle.lk_forms.specs.declared.limits.TheConstants.{MAX_ACTS}
use Rattle.lk_forms.specs.declared.answers.LineRefusal.{LineRefusal}
use Rattle.lk_forms.specs.declared.answers.LineRefusal.TheVariants.{Bad}
use Rattle.lk_forms.specs.declared.answers.Sched.{Sched}
use Rattle.lk_forms.specs.declared.answers.Sched.TheVariants as sched
use Rattle.lk_forms.proofs.ScheduleLemmas.{schedule-reads, schedule-within}
use Rattle.lk_audit_law.proofs.Header.{good_step, reading_next, step_gone}

-- the acts are those of processors of the setup, and not too many
pub record IsFine (setup : Setup) (acts : List Act) : Type 0 where
  pub range : AreInRange (cpus_of setup) acts
  pub few : length acts ≤ MAX_ACTS

range-append : (n : ℕ) (xs ys : List Act) → AreInRange n xs → AreInRange n ys → AreInRange n (xs ++ ys)
range-append n [] ys p q = q
range-append n (x ∷ xs) ys p q = (p.0, range-append n xs ys p.1 q)

range-replicate : (n k : ℕ) (a : Act) → processor_of a < n → AreInRange n (replicate k a)
range-replicate n zero a h = tt
range-replicate n (suc k) a h = (h, range-replicate n k a h)

fine_more : (r : Reading) (said : Sched) → IsFine r.setup r.acts → IsWithin (cpus_of r.setup) (length r.acts) said
    → IsFine (scheduled r said).setup (scheduled r said).acts
fine_more r sched.Blank fine within = fine
fine_more r sched.End fine within = fine
fine_more r (sched.Run what times) fine within =
    record {
      range = range-append (cpus_of r.setup) r.acts (replicate times what) fine.range (range-replicate (cpus_of r.setup) times what within.0);
      few = (let most = within.2 in omega (arith, most, length-append r.acts (replicate times what), length-replicate times what));
    }

-- a line behind `go` keeps that
fine_step : (before : List (List ℕ)) (line : List ℕ) (r' : Reading) → has_go (reading_of before) ≡ true
    → IsFine (reading_of before).setup (reading_of before).acts → read_trace (reading_of before) line ≡ Ok r' → IsFine r'.setup r'.acts
fine_step before line r' gone fine is =
    by_said (schedule_of (cpus_of r.setup) (length r.acts) (has_end r) line) refl
    (schedule-reads before (cpus_of r.setup) (length r.acts) (has_end r) line
    (record { go = gone; cpus = refl; acts = refl; ended = refl }))
  where
    r : Reading
    r = reading_of before

    by_said : (x : Result Sched LineRefusal)
        → schedule_of (cpus_of (reading_of before).setup) (length (reading_of before).acts) (has_end (reading_of before)) line ≡ x
        → SaysNext (reading_of before) line x → IsFine r'.setup r'.acts
    by_said (Ok said) says next =
        let same : scheduled (reading_of before) said ≡ r' = cc in
        subst (λ (x : Reading). IsFine x.setup x.acts) same
        (fine_more (reading_of before) said fine (schedule-within (cpus_of (reading_of before).setup) (length (reading_of before).acts) (has_end (reading_of before)) line said says))
    by_said (Err why) says next = cc

pub acts_fine : (rest before : List (List ℕ)) (s : Setup) (a : List Act) → has_go (reading_after before) ≡ true
    → IsFine (setup_of before) (acts_of before) → trace_from before rest ≡ Good s a → IsFine s a
acts_fine [] before s a gone fine is = by_end (has_end (reading_after before)) is
  where
    by_end : (b : Bool)
        → (if b then Good (setup_of before) (acts_of before)
        else Refused (length before + 1) (Bad (ending (reading_after before))) (setup_of before) (acts_of before)) ≡ Good s a
        → IsFine s a
    by_end true h = (let one : setup_of before ≡ s = cc in let two : acts_of before ≡ a = cc in
        subst (λ x. IsFine x a) one (subst (λ x. IsFine (setup_of before) x) two fine))
    by_end false h = cc
acts_fine (piece ∷ rest) before s a gone fine is =
    let step = good_step before piece rest s a is in
    let more = step_gone (map line_of before) (line_of piece) step.0.next gone step.0.accepted in
    let next = reading_next before piece step.0 in
    acts_fine rest (before ++ piece ∷ []) s a (ap has_go next ∙ more.0)
    (subst (λ (x : Reading). IsFine x.setup x.acts) (sym next)
    (fine_step (map line_of before) (line_of piece) step.0.next gone fine step.0.accepted)) step.1

pub none_fine : (s : Setup) (acts : List Act) → acts ≡ [] → IsFine s acts
none_fine s acts none = subst (IsFine s) (sym none) (record { range = tt; few = omega arith })
