-- Runs in parts.
use Rattle.std.proofs.Common.{◌≡◌, ◌+◌, ℕ, suc, Option, Some, None, List, [], ◌∷◌, ◌++◌, length}
use Rattle.std.proofs.Common.{map, arith, ap, refl, sym, ◌∙◌, append_assoc}
use Rattle.lk_osq.specs.declared.events.OsqEvent.{OsqEvent}
use Rattle.lk_osq.specs.Machine.{Machine}
use Rattle.lk_osq.specs.Rows.{next}
use Rattle.lk_osq.specs.Run.{Act, machine_after, events_of, history, Occurrence, occurs}
use Rattle.lk_osq.specs.Run.{history_from}
use Rattle.lk_osq.specs.RunLaws.{RunsInParts}

machine_parts : (m : Machine) (made more : List Act)
    → machine_after m (made ++ more) ≡ machine_after (machine_after m made) more
machine_parts m [] more = refl
machine_parts m (a ∷ made) more = machine_parts (next m a.give a.cpu).0 made more

history_parts : (n : ℕ) (m : Machine) (made more : List Act)
    → history_from n m (made ++ more) ≡ history_from n m made ++ history_from (n + length made)
    (machine_after m made) more
history_parts n m [] more = let e : n ≡ n + 0 = omega arith in ap (λ i. history_from i m more) e
history_parts n m (a ∷ made) more =
    let k = (next m a.give a.cpu).0 in
    let o = occurs n (next m a.give a.cpu).1 in
    let e : suc n + length made ≡ n + suc (length made) = omega arith in
    ap (λ os. o ++ os)
    (history_parts (suc n) k made more ∙ ap
    (λ i. history_from (suc n) k made ++ history_from i (machine_after k made) more) e)
    ∙ sym (append_assoc o (history_from (suc n) k made)
    (history_from (n + suc (length made)) (machine_after k made) more))

event_parts : (n : ℕ) (o : Option OsqEvent) (os : List Occurrence) (es : List OsqEvent)
    → map (λ q. q.event) os ≡ es
    → map (λ q. q.event) (occurs n o ++ os) ≡ events_of o ++ es
event_parts n None os es h = h
event_parts n (Some e) os es h = ap (λ xs. e ∷ xs) h

numbers_apart : (n : ℕ) (m : Machine) (acts : List Act)
    → map (λ o. o.event) (history_from n m acts) ≡ history m acts
numbers_apart n m [] = refl
numbers_apart n m (a ∷ acts) =
    let k = (next m a.give a.cpu).0 in
    event_parts n (next m a.give a.cpu).1 (history_from (suc n) k acts) (history k acts)
    (numbers_apart (suc n) k acts)

pub runs_in_parts : RunsInParts
runs_in_parts =
    record { machine = machine_parts; occurrences = history_parts; events = numbers_apart }
