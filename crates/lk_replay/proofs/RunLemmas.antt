-- Runs, one after another.
use Rattle.std.proofs.Common.{◌≡◌, ◌+◌, ◌++◌, ◌≤◌, ◌<◌, ◌-◌, ℕ, suc, List, [], ◌∷◌, Option, Some, None, length, sym, ap, refl, subst, ◌∙◌, append_assoc, append-nil, arith, replicate, is_some, add-zero}
use Rattle.std.specs.Int.{from_bool}
use Rattle.std.proofs.lemmas.List.{replicate-append-replicate, length-append}
use Rattle.std.proofs.lemmas.List.Concat.{flat_map-append}
use Rattle.lk_names.specs.declared.events.Act.{Act}
use Rattle.lk_names.specs.declared.events.Event.{Event}
use Rattle.lk_text.specs.Bytes.{AppendsFront, Conveys}
use Rattle.lk_text.proofs.Conveyed.{Conveys-trans, front_of_conveyed, front_of_more}
use Rattle.lk_forms.specs.Texts.{lines}
use Rattle.lk_rows.specs.Machine.{Machine}
use Rattle.lk_rows.specs.Acts.{next}
use Rattle.lk_rows.specs.Run.{Occurrence, occurs, history_from, machine_after, events_of}
use Rattle.lk_rows.specs.declared.parts.Counts.{Counts}
use Rattle.lk_law.specs.Sound.{IsSound}
use Rattle.lk_law.specs.MachineLaws.{ShowsLawful}
use Rattle.lk_law.specs.Kicked.{with_event}
use Rattle.lk_machine.specs.Ready.{CountsWithin}
use Rattle.lk_replay.specs.Run.{Makes, CanGoOn, occurrences_in}
use Rattle.lk_replay.specs.declared.run.Run.{Run}

-- ---- acts, one list after another

pub machine_after-append : (m : Machine) (xs ys : List Act) → machine_after m (xs ++ ys) ≡ machine_after (machine_after m xs) ys
machine_after-append m [] ys = refl
machine_after-append m (x ∷ xs) ys = machine_after-append (next m x).0 xs ys

pub history_from-append : (n : ℕ) (m : Machine) (xs ys : List Act)
    → history_from n m (xs ++ ys) ≡ history_from n m xs ++ history_from (n + length xs) (machine_after m xs) ys
history_from-append n m [] ys = ap (λ k. history_from k m ys) (sym (add-zero n))
history_from-append n m (x ∷ xs) ys =
    ap (λ l. occurs n (next m x).1 ++ l) (history_from-append (suc n) (next m x).0 xs ys ∙ ap (λ k. history_from (suc n) (next m x).0 xs ++ history_from k (machine_after (next m x).0 xs) ys) (omega arith))
    ∙ sym (append_assoc (occurs n (next m x).1) _ _)

pub lines-append : (xs ys : List Occurrence) → lines (xs ++ ys) ≡ lines xs ++ lines ys
lines-append xs ys = flat_map-append _ xs ys

pub events_of-append : (xs ys : List Occurrence) → events_of (xs ++ ys) ≡ events_of xs ++ events_of ys
events_of-append [] ys = refl
events_of-append (x ∷ xs) ys = ap (λ l. x.event ∷ l) (events_of-append xs ys)

-- ---- what acts make of a run

pub Makes-nil : (r : Run) → Makes r r []
Makes-nil r = record {
  machine = refl;
  setup = refl;
  acts = sym (add-zero r.acts);
  events = sym (add-zero r.events);
  lawful = λ es shows. subst (ShowsLawful r.machine) (sym (append-nil es)) shows;
}

module _ (a b : Run) (xs ys : List Act) (first : Makes a b xs) where
  -- what happens in acts that are made after others
  pub occurrences_in-append : occurrences_in a (xs ++ ys) ≡ occurrences_in a xs ++ occurrences_in b ys
  occurrences_in-append =
      let made = first.acts in
      history_from-append (a.acts + 1) a.machine xs ys
      ∙ ap (λ k. occurrences_in a xs ++ history_from k (machine_after a.machine xs) ys) (omega arith)
      ∙ ap (λ m. occurrences_in a xs ++ history_from (b.acts + 1) m ys) (sym first.machine)

  pub lines_in-append : lines (occurrences_in a (xs ++ ys)) ≡ lines (occurrences_in a xs) ++ lines (occurrences_in b ys)
  lines_in-append = ap lines occurrences_in-append ∙ lines-append (occurrences_in a xs) (occurrences_in b ys)

  pub Makes-append : (c : Run) → Makes b c ys → Makes a c (xs ++ ys)
  Makes-append c second = record {
    machine = second.machine ∙ ap (λ m. machine_after m ys) first.machine ∙ sym (machine_after-append a.machine xs ys);
    setup = second.setup ∙ first.setup;
    acts = (let made = first.acts in let more = second.acts in omega (arith, length-append xs ys));
    events = (let made = first.events in let more = second.events in omega (arith, ap length occurrences_in-append, length-append (occurrences_in a xs) (occurrences_in b ys)));
    lawful = λ es shows. subst (ShowsLawful c.machine) (append_assoc es (events_of (occurrences_in a xs)) (events_of (occurrences_in b ys)) ∙ ap (λ l. es ++ l) (sym (ap events_of occurrences_in-append ∙ events_of-append (occurrences_in a xs) (occurrences_in b ys)))) (second.lawful (es ++ events_of (occurrences_in a xs)) (first.lawful es shows));
  }

-- ---- one act

pub and_then_occurs : (n : ℕ) (es : List Event) (e : Option Event) → with_event es e ≡ es ++ events_of (occurs n e)
and_then_occurs n es None = sym (append-nil es)
and_then_occurs n es (Some e) = refl

pub CountsWithin-more : (m n : ℕ) (c : Counts) → m ≤ n → CountsWithin m c → CountsWithin n c
CountsWithin-more m n c le w = record {
  lock_pending = (let h = w.lock_pending in omega arith);
  lock_slowpath = (let h = w.lock_slowpath in omega arith);
  lock_use_node2 = (let h = w.lock_use_node2 in omega arith);
  lock_use_node3 = (let h = w.lock_use_node3 in omega arith);
  lock_use_node4 = (let h = w.lock_use_node4 in omega arith);
  lock_no_node = (let h = w.lock_no_node in omega arith);
  pv_lock_stealing = (let h = w.pv_lock_stealing in omega arith);
  pv_wait_node = (let h = w.pv_wait_node in omega arith);
  pv_wait_head = (let h = w.pv_wait_head in omega arith);
  pv_kick_unlock = (let h = w.pv_kick_unlock in omega arith);
}

pub ready_after : (old new : Run) → CanGoOn old → old.acts < 100000000 → IsSound new.machine → ((n : ℕ) → CountsWithin n old.machine.counts → CountsWithin (n + 1) new.machine.counts)
    → new.acts ≡ old.acts + 1 → CanGoOn new
ready_after old new ready few sound counted one = record {
  sound = sound;
  few = omega (arith, one);
  counts = CountsWithin-more (old.acts + 1) new.acts new.machine.counts (omega (arith, one)) (counted old.acts ready.counts);
}

length-occurs : (n : ℕ) (e : Option Event) → length (occurs n e) ≡ from_bool (is_some e)
length-occurs n None = refl
length-occurs n (Some e) = refl

-- what happens in one act
pub occurrences_in-one : (run : Run) (a : Act) → occurrences_in run (a ∷ []) ≡ occurs (run.acts + 1) (next run.machine a).1
occurrences_in-one run a = append-nil _

pub made_one : (old new : Run) (a : Act) (e : Option Event) → new.machine ≡ (next old.machine a).0 → e ≡ (next old.machine a).1 → new.machine.setup ≡ old.machine.setup
    → new.acts ≡ old.acts + 1 → new.events ≡ old.events + from_bool (is_some e) → ((es : List Event) → ShowsLawful old.machine es → ShowsLawful new.machine (with_event es e))
    → Makes old new (a ∷ [])
made_one old new a e machine told setup acts events lawful =
    let one : occurrences_in old (a ∷ []) ≡ occurs (old.acts + 1) e = occurrences_in-one old a ∙ ap (occurs (old.acts + 1)) (sym told) in record {
      machine = machine;
      setup = setup;
      acts = acts;
      events = events ∙ ap (λ k. old.events + k) (sym (ap length one ∙ length-occurs (old.acts + 1) e));
      lawful = λ es shows. subst (ShowsLawful new.machine) (and_then_occurs (old.acts + 1) es e ∙ ap (λ l. es ++ events_of l) (sym one)) (lawful es shows);
    }

-- a machine has as many processors as its setup
pub cpus_kept : (m m' : Machine) → IsSound m → IsSound m' → m'.setup ≡ m.setup → length m'.cpus ≡ length m.cpus
cpus_kept m m' sound sound' same = sound'.1.whole.cpus ∙ ap (λ s. length s.topology.sockets.items) same ∙ sym sound.1.whole.cpus

-- ---- one act, made again and again

module _ (a b : Run) (act : Act) (made : ℕ) (first : Makes a b (replicate made act)) where
  -- the act was made more times
  pub made_on : (c : Run) (k : ℕ) → Makes b c (replicate k act) → Makes a c (replicate (made + k) act)
  made_on c k next =
      subst (Makes a c) (replicate-append-replicate made k act)
      (Makes-append a b (replicate made act) (replicate k act) first c next)

  -- what happens in all of them
  pub occurrences_on : (k : ℕ) → occurrences_in a (replicate (made + k) act)
      ≡ occurrences_in a (replicate made act) ++ occurrences_in b (replicate k act)
  occurrences_on k =
      ap (λ l. occurrences_in a l) (sym (replicate-append-replicate made k act))
      ∙ occurrences_in-append a b (replicate made act) (replicate k act) first

  pub conveyed_on : (h h' h'' : Option (List ℕ)) (w x y : List ℕ) (k : ℕ)
      → Conveys h h' w (lines (occurrences_in a (replicate made act))) x
      → Conveys h' h'' x (lines (occurrences_in b (replicate k act))) y
      → Conveys h h'' w (lines (occurrences_in a (replicate (made + k) act))) y
  conveyed_on h h' h'' w x y k done more =
      subst (λ l. Conveys h h'' w l y)
      (sym (lines_in-append a b (replicate made act) (replicate k act) first)
      ∙ ap (λ l. lines (occurrences_in a l)) (replicate-append-replicate made k act))
      (Conveys-trans h h' h'' w x y _ _ done more)

  -- a text that was cut short while some of the acts were made
  pub front_of_acts : (h h' h'' : Option (List ℕ)) (w x : List ℕ) (times : ℕ) → made ≤ times → Conveys h h' w (lines (occurrences_in a (replicate made act))) x
      → AppendsFront h' h'' x → AppendsFront h h'' (w ++ lines (occurrences_in a (replicate times act)))
  front_of_acts h h' h'' w x times le done cut =
      let left = replicate (times - made) act in
      let all : replicate made act ++ left ≡ replicate times act = replicate-append-replicate made (times - made) act ∙ ap (λ n. replicate n act) (omega arith) in
      let text = lines (occurrences_in a (replicate made act)) in
      let whole : lines (occurrences_in a (replicate times act)) ≡ text ++ lines (occurrences_in b left) = ap (λ l. lines (occurrences_in a l)) (sym all) ∙ lines_in-append a b (replicate made act) left first in
      rw (whole, ← append_assoc w text (lines (occurrences_in b left))) (front_of_more h h'' (w ++ text) (lines (occurrences_in b left)) (front_of_conveyed h h' h'' w x text done cut))

-- there is a processor
pub some_cpus : (m : Machine) → IsSound m → 1 ≤ length m.cpus
some_cpus m sound = let some = sound.1.whole.setup.some in let same = sound.1.whole.cpus in omega arith

-- ---- acts that are counted later

-- the run as it is where so many acts were made on its machine that told nothing, once they are counted
abbrev pub gone_on : Run → Machine → ℕ → Run
gone_on from m made = record { machine = m; acts = from.acts + made; events = from.events; some = (let some = from.some in omega arith) }

pub made_nothing : (from : Run) → Makes from (gone_on from from.machine 0) []
made_nothing from = record {
  machine = refl;
  setup = refl;
  acts = refl;
  events = sym (add-zero from.events);
  lawful = λ es shows. subst (ShowsLawful from.machine) (sym (append-nil es)) shows;
}

pub ready_still : (from : Run) → CanGoOn from → CanGoOn (gone_on from from.machine 0)
ready_still from ready = record {
  sound = ready.sound;
  few = (let few = ready.few in omega arith);
  counts = CountsWithin-more from.acts (from.acts + 0) from.machine.counts (omega arith) ready.counts;
}

-- the acts are counted
pub ready_counted : (from new : Run) (m : Machine) (made : ℕ) → new.machine ≡ m → new.acts ≡ from.acts + made
    → CanGoOn (gone_on from m made) → CanGoOn new
ready_counted from new m made machine acts ready = record {
  sound = subst IsSound (sym machine) ready.sound;
  few = (let few = ready.few in omega (arith, acts));
  counts = subst (λ (k : Machine). CountsWithin new.acts k.counts) (sym machine)
      (CountsWithin-more (from.acts + made) new.acts m.counts (omega (arith, acts)) ready.counts);
}

pub made_counted : (from new : Run) (m : Machine) (made : ℕ) (xs : List Act) → new.machine ≡ m → new.acts ≡ from.acts + made → new.events ≡ from.events
    → Makes from (gone_on from m made) xs → Makes from new xs
made_counted from new m made xs machine acts events whole = record {
  machine = machine ∙ whole.machine;
  setup = ap (λ (k : Machine). k.setup) machine ∙ whole.setup;
  acts = acts ∙ whole.acts;
  events = events ∙ whole.events;
  lawful = λ es shows. subst (λ (k : Machine). ShowsLawful k (es ++ events_of (occurrences_in from xs))) (sym machine) (whole.lawful es shows);
}

module _ (from : Run) (m : Machine) (made : ℕ) (a : Act) where
  -- one more act that told nothing
  pub made_quietly : (m' : Machine) → m' ≡ (next m a).0 → None ≡ (next m a).1 → m'.setup ≡ m.setup
      → ((es : List Event) → ShowsLawful m es → ShowsLawful m' (with_event es None))
      → Makes (gone_on from m made) (gone_on from m' (made + 1)) (a ∷ [])
  made_quietly m' machine told setup lawful =
      made_one (gone_on from m made) (gone_on from m' (made + 1)) a None machine told setup (omega arith) (sym (add-zero from.events)) lawful

  -- one more act that told an event, with which all are counted
  pub made_telling : (new : Run) (e : Event) → new.machine ≡ (next m a).0 → Some e ≡ (next m a).1 → new.machine.setup ≡ m.setup
      → new.acts ≡ from.acts + (made + 1) → new.events ≡ from.events + 1
      → ((es : List Event) → ShowsLawful m es → ShowsLawful new.machine (with_event es (Some e)))
      → Makes (gone_on from m made) new (a ∷ [])
  made_telling new e machine told setup acts events lawful =
      made_one (gone_on from m made) new a (Some e) machine told setup (omega (arith, acts)) events lawful

  -- what happens in one more act, where nothing happened in those before it
  pub occurrences_more : (e : Option Event) → e ≡ (next m a).1 → Makes from (gone_on from m made) (replicate made a)
      → occurrences_in from (replicate made a) ≡ [] → occurrences_in from (replicate (made + 1) a) ≡ occurs (from.acts + made + 1) e
  occurrences_more e told first none =
      occurrences_on from (gone_on from m made) a made first 1
      ∙ ap (λ l. l ++ occurrences_in (gone_on from m made) (a ∷ [])) none
      ∙ occurrences_in-one (gone_on from m made) a
      ∙ ap (occurs (from.acts + made + 1)) (sym told)
