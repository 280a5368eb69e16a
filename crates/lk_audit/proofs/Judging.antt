-- What a judge answers of an event, by the events that it has taken.
use Rattle.std.proofs.Common.{Bool, true, false, ◌≡◌, ◌<◌, ◌+◌, ◌*◌, ◌^◌, ◌&&◌, ℕ, List, [], ◌∷◌, Option, None, Some, length, nat_lt, refl, sym, ap, subst, ◌∙◌, arith, if◌then◌else◌}
use Rattle.std.proofs.lemmas.Bool.Decides.{nat_tests}
use Rattle.std.specs.Option.{option_or}
use Rattle.lk_names.specs.Names.{place_of, locks_from}
use Rattle.lk_names.specs.History.{LockHistory, history_of, told, lock_of}
use Rattle.lk_names.specs.Kicks.{KickState, kicks_of, kicks_told}
use Rattle.lk_names.specs.Lawful.{Rules}
use Rattle.lk_abs.specs.Breaches.{first_breach}
use Rattle.lk_abs.specs.NoKick.{left_asleep, no_kick, unkicked}
use Rattle.lk_abs.specs.Remembered.{state_of, IsNamed, IsNamedBy}
use Rattle.lk_abs.specs.Judge.{JudgeState, IsInRange, IsDeclared, history_at, taken_by, breach_of, HasTaken}
use Rattle.lk_abs.specs.Judge.{breach_on as judge_breach_on}
use Rattle.lk_names.specs.declared.names.Mode.{Mode}
use Rattle.lk_names.specs.declared.names.Mode.TheVariants.{Virt, Native, Cna, Pv}
use Rattle.lk_names.specs.declared.names.LockName.{LockName}
use Rattle.lk_names.specs.declared.events.Event.{Event}
use Rattle.lk_names.specs.declared.events.What.{What}
use Rattle.lk_names.specs.declared.events.What.TheVariants as what
use Rattle.lk_rows.specs.declared.setup.Setup.{Setup}
use Rattle.lk_text.proofs.NumberLemmas.{and_split}
use Rattle.lk_forms.specs.Grammar.{cpus_of}
use Rattle.lk_audit_forms.specs.Ranges.{is_waiter_of, names_of, is_lock_of, is_in_setup}
use Rattle.lk_audit.specs.Lawful.{breach_on, breach_behind}
use Rattle.lk_rows.specs.Rules.{rules_of}

-- the same histories leave the same front asleep
no_kick_same : (s : KickState) (f g : LockName → LockHistory) (ls : List LockName)
    → ((l : LockName) → f l ≡ g l) → no_kick s f ls ≡ no_kick s g ls
no_kick_same s f g [] same = refl
no_kick_same s f g (l ∷ ls) same =
    ap (λ h. option_or (left_asleep s l h) (no_kick s f ls)) (same l)
    ∙ ap (λ o. option_or (left_asleep s l (g l)) o) (no_kick_same s f g ls same)

unkicked_same : (m : Mode) (s : KickState) (f g : LockName → LockHistory) (count : ℕ)
    → ((l : LockName) → f l ≡ g l) → unkicked m s f count ≡ unkicked m s g count
unkicked_same Pv s f g count same = no_kick_same s f g (locks_from 0 count) same
unkicked_same Virt s f g count same = refl
unkicked_same Native s f g count same = refl
unkicked_same Cna s f g count same = refl

on_same : (j : JudgeState) (rules : Rules) (es : List Event) (o : Option LockName) (e : Event)
    → j.rules ≡ rules → ((l : LockName) → history_at j l ≡ history_of l es)
    → judge_breach_on j o e ≡ breach_on rules es o e
on_same j rules es None e is shows = refl
on_same j rules es (Some l) e is shows =
    ap (λ r. first_breach r (history_at j l) e.by e.what) is
    ∙ ap (λ h. first_breach rules h e.by e.what) (shows l)

pub named_as : (j : JudgeState) (s : Setup) (es : List Event) (e : Event) → j.rules ≡ rules_of s
    → length j.locks ≡ length s.locks.items * 2 → HasTaken j es
    → breach_of j e ≡ breach_behind s es e
named_as j s es e rules locks taken =
    ap (λ o. option_or o (unkicked j.rules.mode (kicks_told (state_of j.kicks) e)
    (λ l. told l (history_at j l) e) (length j.locks)))
    (on_same j (rules_of s) es (lock_of e.what) e rules taken.shows)
    ∙ ap (λ o. option_or (breach_on (rules_of s) es (lock_of e.what) e) o)
    (ap (λ (r : Rules). unkicked r.mode (kicks_told (state_of j.kicks) e)
    (λ l. told l (history_at j l) e) (length j.locks)) rules
    ∙ ap (λ k. unkicked s.mode (kicks_told k e) (λ l. told l (history_at j l) e) (length j.locks)) taken.kicks
    ∙ ap (λ n. unkicked s.mode (kicks_told (kicks_of es) e) (λ l. told l (history_at j l) e) n) locks
    ∙ unkicked_same s.mode (kicks_told (kicks_of es) e) (λ l. told l (history_at j l) e)
    (λ l. told l (history_of l es) e) (length s.locks.items * 2)
    (λ l. ap (λ h. told l h e) (taken.shows l)))

-- an event of a setup is one that the judge of the setup can be asked about

below : (a b : ℕ) → nat_lt a b ≡ true → a < b
below a b h = grind (arith, nat_tests, h)

named_by : (count : ℕ) (w : What) → names_of count w ≡ true → IsNamedBy count w
named_by count (what.Take l h) t = tt
named_by count (what.Miss l) t = tt
named_by count (what.Release l None) t = tt
named_by count (what.Release l (Some p)) t = below p count t
named_by count (what.Kick p) t = below p count t
named_by count (what.Arrive l) t = tt
named_by count (what.Pass l to k) t = tt
named_by count (what.Flush l) t = tt
named_by count (what.Promote l) t = tt
named_by count (what.Leave l) t = tt
named_by count (what.Halt l) t = tt
named_by count (what.Wake l) t = tt
named_by count what.Int t = tt
named_by count what.Nudge t = tt
named_by count (what.RTake l h) t = tt
named_by count (what.RRelease l) t = tt
named_by count (what.WTake l h) t = tt
named_by count (what.WRelease l) t = tt

placed : (l : LockName) (n : ℕ) → l.index < n → place_of l < n * 2
placed l n h = by_mark l.wait
  where
    by_mark : (b : Bool) → l.index * 2 + (if b then 1 else 0) < n * 2
    by_mark true = omega (arith, h)
    by_mark false = omega (arith, h)

declared : (j : JudgeState) (n : ℕ) (o : Option LockName) → length j.locks ≡ n * 2 → is_lock_of n o ≡ true
    → (l : LockName) → o ≡ Some l → IsDeclared j l
declared j n None locks t l on = cc
declared j n (Some k) locks t l on =
    let same : k ≡ l = cc in
    subst (λ x. place_of l < x) (sym locks)
    (subst (λ (x : LockName). place_of x < n * 2) same (placed k n (below k.index n t)))

pub in_range : (j : JudgeState) (s : Setup) (e : Event) → j.rules ≡ rules_of s
    → length j.locks ≡ length s.locks.items * 2 → taken_by j < 2 ^ 63 → is_in_setup s e ≡ true
    → IsInRange j e
in_range j s e rules locks few t =
    let outer = and_split (is_waiter_of (cpus_of s) e.by && names_of (cpus_of s) e.what)
    (is_lock_of (length s.locks.items) (lock_of e.what)) t in
    let inner = and_split (is_waiter_of (cpus_of s) e.by) (names_of (cpus_of s) e.what) outer.0 in
    let by = and_split (nat_lt e.by.cpu (cpus_of s)) (nat_lt e.by.ctx 6) inner.0 in
    let sockets : cpus_of s ≡ length j.rules.sockets = ap (λ (r : Rules). length r.sockets) (sym rules) in
    record {
      named = subst (λ n. IsNamed n e) sockets (record {
        cpu = below e.by.cpu (cpus_of s) by.0;
        ctx = below e.by.ctx 6 by.1;
        other = named_by (cpus_of s) e.what inner.1;
      });
      lock = λ l on. declared j (length s.locks.items) (lock_of e.what) locks outer.1 l on;
      few = few;
    }
