-- Runs, one after another.
use Rattle.std.proofs.Common.{◌≡◌, ◌+◌, ◌++◌, ◌≤◌, ◌<◌, ◌-◌, Bool, ℕ, zero, suc, List, [], ◌∷◌, Option, Result, Ok, Err, OnErr, length, map, sym, ap, refl, subst, ◌∙◌, append_assoc, append-nil, arith, replicate, add-zero}
use Rattle.std.proofs.lemmas.List.{replicate_more, replicate-append-replicate, length-append}
use Rattle.std.proofs.lemmas.List.Concat.{flat_map-append}
use Rattle.lk_text.specs.Bytes.{AppendsFront, Conveys}
use Rattle.lk_text.proofs.Conveyed.{Conveys-trans, front_of_conveyed, front_of_more}
use Rattle.lk_osq.specs.Machine.{Machine}
use Rattle.lk_osq.specs.Rows.{next}
use Rattle.lk_osq.specs.Run.{Act, Occurrence, occurs, history_from, machine_after, at_rest, rest_cpu, AreInRange}
use Rattle.lk_osq.proofs.Joined.{runs_in_parts}
use Rattle.lk_osq.proofs.Runs.{cpus_next}
use Rattle.lk_osq_forms.specs.Grammar.{act_of}
use Rattle.lk_osq_forms.specs.Texts.{lines}
use Rattle.lk_osq_forms.specs.Trace.{history_of_run, lines_of_run}
use Rattle.lk_osq_replay.specs.Run.{occurrences_in, Makes, RanTo}
use Rattle.lk_osq_replay.specs.declared.run.Run.{Run}

pub lines-append : (xs ys : List Occurrence) → lines (xs ++ ys) ≡ lines xs ++ lines ys
lines-append xs ys = flat_map-append _ xs ys

-- ---- how many processors there are

cpus_after : (m : Machine) (acts : List Act) → length (machine_after m acts).cpus ≡ length m.cpus
cpus_after m [] = refl
cpus_after m (a ∷ acts) = cpus_after (next m a.give a.cpu).0 acts ∙ cpus_next m a.give a.cpu

length-map_rest : (rounds : List ℕ) → length (map rest_cpu rounds) ≡ length rounds
length-map_rest [] = refl
length-map_rest (r ∷ rounds) = ap suc (length-map_rest rounds)

pub cpus_ran : (run : Run) (rounds : List ℕ) (acts : List Act) → RanTo run rounds acts
    → length run.machine.cpus ≡ length rounds
cpus_ran run rounds acts ran =
    ap (λ m. length m.cpus) ran.machine ∙ cpus_after (at_rest rounds) acts ∙ length-map_rest rounds

pub cpus_kept : (a b : Run) (made : List Act) → Makes a b made
    → length b.machine.cpus ≡ length a.machine.cpus
cpus_kept a b made is = ap (λ m. length m.cpus) is.machine ∙ cpus_after a.machine made

-- ---- what acts make of a run

pub Makes-nil : (r : Run) → Makes r r []
Makes-nil r = record { machine = refl; acts = sym (add-zero r.acts); ended = refl }

module _ (a b : Run) (xs ys : List Act) (first : Makes a b xs) where
  -- what happens in acts that are made after others
  pub occurrences_in-append : occurrences_in a
      (xs ++ ys) ≡ occurrences_in a xs ++ occurrences_in b ys
  occurrences_in-append =
      let made = first.acts in
      let place : a.acts + 1 + length xs ≡ b.acts + 1 = omega (arith, made) in
      runs_in_parts.occurrences (a.acts + 1) a.machine xs ys
      ∙ ap (λ k. occurrences_in a xs ++ history_from k (machine_after a.machine xs) ys) place
      ∙ ap (λ m. occurrences_in a xs ++ history_from (b.acts + 1) m ys) (sym first.machine)

  pub lines_in-append : lines (occurrences_in a (xs ++ ys)) ≡ lines (occurrences_in a xs) ++ lines
      (occurrences_in b ys)
  lines_in-append =
      ap lines occurrences_in-append ∙ lines-append (occurrences_in a xs) (occurrences_in b ys)

  pub Makes-append : (c : Run) → Makes b c ys → Makes a c (xs ++ ys)
  Makes-append c second = record {
    machine =
        second.machine ∙ ap (λ m. machine_after m ys) first.machine ∙ sym
        (runs_in_parts.machine a.machine xs ys);
    acts = (let made = first.acts in let more =
        second.acts in omega (arith, made, more, length-append xs ys));
    ended = second.ended ∙ first.ended;
  }

-- ---- one act, made again and again

module _ (a b : Run) (act : Act) (made : ℕ) (first : Makes a b (replicate made act)) where
  pub made_more : (c : Run) → Makes b c (act ∷ []) → Makes a c (replicate (made + 1) act)
  made_more c then_one =
      subst (Makes a c) (replicate_more made act)
      (Makes-append a b (replicate made act) (act ∷ []) first c then_one)

  pub conveyed_more : (h h' h'' : Option (List ℕ)) (w x y : List ℕ)
      → Conveys h h' w (lines (occurrences_in a (replicate made act))) x
      → Conveys h' h'' x (lines (occurrences_in b (act ∷ []))) y
      → Conveys h h'' w (lines (occurrences_in a (replicate (made + 1) act))) y
  conveyed_more h h' h'' w x y done more =
      subst (λ l. Conveys h h'' w l y)
      (sym (lines_in-append a b (replicate made act) (act ∷ []) first) ∙ ap
      (λ l. lines (occurrences_in a l)) (replicate_more made act))
      (Conveys-trans h h' h'' w x y _ _ done more)

  -- a text that was cut short while some of the acts were made
  pub front_of_acts : (h h' h'' : Option (List ℕ)) (w x : List ℕ) (times : ℕ) → made ≤ times
      → Conveys h h' w (lines (occurrences_in a (replicate made act))) x
      → AppendsFront h' h'' x
      → AppendsFront h h'' (w ++ lines (occurrences_in a (replicate times act)))
  front_of_acts h h' h'' w x times le done cut =
      let left = replicate (times - made) act in
      let all : replicate made act ++ left ≡ replicate times act =
      replicate-append-replicate made (times - made) act ∙ ap (λ n. replicate n act)
      (omega arith) in
      let text = lines (occurrences_in a (replicate made act)) in
      let whole : lines (occurrences_in a (replicate times act)) ≡ text ++ lines
      (occurrences_in b left) =
      ap (λ l. lines (occurrences_in a l)) (sym all) ∙ lines_in-append a b
      (replicate made act) left first in
      rw (whole, ← append_assoc w text (lines (occurrences_in b left)))
      (front_of_more h h'' (w ++ text) (lines (occurrences_in b left))
      (front_of_conveyed h h' h'' w x text done cut))

-- what happens in one act
pub occurrences_in-one : (run : Run) (a : Act)
    → occurrences_in run (a ∷ []) ≡ occurs (run.acts + 1) (next run.machine a.give a.cpu).1
occurrences_in-one run a = append-nil _

-- ---- runs from rest

-- acts of processors that exist
AreInRange-append : (n : ℕ) (xs ys : List Act) → AreInRange n xs → AreInRange n ys
    → AreInRange n (xs ++ ys)
AreInRange-append n [] ys p q = q
AreInRange-append n (x ∷ xs) ys p q = (p.0, AreInRange-append n xs ys p.1 q)

pub AreInRange-replicate : (n times : ℕ) (give : Bool) (p : ℕ) → p < n
    → AreInRange n (replicate times (act_of give p))
AreInRange-replicate n zero give p below = tt
AreInRange-replicate n (suc times) give p below = (below, AreInRange-replicate n times give p below)

module _ (run : Run) (rounds : List ℕ) (acts more : List Act) (ran : RanTo run rounds acts) where
  -- the lines of more acts are those of what happens in them next
  pub lines_on : lines_of_run rounds (acts ++ more) ≡ lines_of_run rounds acts ++ lines
      (occurrences_in run more)
  lines_on =
      let made = ran.acts_made in
      let place : 1 + length acts ≡ run.acts + 1 = omega (arith, made) in
      ap lines (runs_in_parts.occurrences 1 (at_rest rounds) acts more
      ∙ ap (λ k. history_of_run rounds acts ++ history_from k
      (machine_after (at_rest rounds) acts) more) place
      ∙ ap (λ m. history_of_run rounds acts ++ history_from (run.acts + 1) m more)
      (sym ran.machine))
      ∙ lines-append (history_of_run rounds acts) (occurrences_in run more)

  pub ran_on : (run' : Run) → Makes run run' more → AreInRange (length rounds) more
      → RanTo run' rounds (acts ++ more)
  ran_on run' made range = record {
    machine =
        made.machine ∙ ap (λ m. machine_after m more) ran.machine ∙ sym
        (runs_in_parts.machine (at_rest rounds) acts more);
    acts_made =
        (let before = ran.acts_made in let now =
        made.acts in omega (arith, before, now, length-append acts more));
    range = AreInRange-append (length rounds) acts more ran.range range;
  }

-- ---- the end

-- a text was cut short while what stands behind another was put
pub cut_behind : {T E : Type 0} (a b c : Option (List ℕ)) (w t x : List ℕ) (put : Result T E)
    → Conveys a b w t x → OnErr put (AppendsFront b c x)
    → OnErr put (AppendsFront a c (w ++ t))
cut_behind a b c w t x (Ok u) first cut = tt
cut_behind a b c w t x (Err e) first cut = front_of_conveyed a b c w x t first cut
