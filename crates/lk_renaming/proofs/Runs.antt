-- The renamed schedule reaches the renamed machine, and its history is the renamed history.
use Rattle.std.proofs.Common.{◌≡◌, ℕ, ◌+◌, ◌<◌, Option, Some, None, List, [], ◌∷◌, ◌++◌, map}
use Rattle.std.proofs.Common.{replicate, length, get_or, slice_get, ap, refl, sym, ◌∙◌, subst}
use Rattle.std.proofs.Common.{arith, zero, suc}
use Rattle.lk_renaming.proofs.Names.{Mode, Machine, no_cpu, Answer, Op, Setup, renamed}
use Rattle.lk_renaming.proofs.Names.{renamed_answer, renamed_cpu, renamed_cpus, renamed_frame}
use Rattle.lk_renaming.proofs.Names.{renamed_lock, IsAmongAlike, IsRenaming, Renaming}
use Rattle.lk_names.specs.{declared.events.Act.Act, declared.events.Event.Event}
use Rattle.lk_rows.specs.{Acts.{next, processor_of}, Machine.{cpu_at, rest_lock}}
use Rattle.lk_rows.specs.Programs.{IsLawfulSetup, program_at}
use Rattle.lk_rows.specs.Run.{at_rest, rest_cpu, rest_cpus, first_frame, machine_after}
use Rattle.lk_rows.specs.Run.{history_from, occurs, Occurrence}
use Rattle.lk_law.specs.{Kicked.with_event, MachineLaws.{ShowsLawful, AreInRange}, Sound.IsSound}
use Rattle.lk_core.proofs.{Runs.{acts_keep, rest_shows}, Setups.setup_kept}
use Rattle.lk_renaming.proofs.{Cpus.comes_low, Goes.renamed_goes_on}
use Rattle.lk_renaming.proofs.Later.{AllNamed, CpusNamed, FrameNamed, first_quiet, rest_named}
use Rattle.lk_renaming.proofs.LaterActs.{sound_names, next-named}
use Rattle.lk_renaming.specs.Law.{SchedulesRunRenamed, SchedulesHaveNames}
use Rattle.lk_renaming.specs.Renamed.{renamed_act, renamed_acts, renamed_told, renamed_history}

-- a machine of this setup that a schedule has reached from rest
record OnTheWay (setup : Setup) (m : Machine) : Type 0 where
  events : List Event
  shows : ShowsLawful m events
  same : m.setup ≡ setup
  named : AllNamed m

-- the machine at rest

rest_all : (setup : Setup) (q n : ℕ) → CpusNamed (rest_cpus setup q n)
rest_all setup q zero = tt
rest_all setup q (suc n) = ((by (slice_get (program_at setup q 0) 0), tt), rest_all setup (suc q) n)
  where
    by : (o : Option Op) → FrameNamed (first_frame setup.mode o)
    by None = rest_named
    by (Some o) = record { now = first_quiet setup.mode o.verb _; inner = λ g. tt }

rest_long : (setup : Setup) (q n : ℕ) → length (rest_cpus setup q n) ≡ n
rest_long setup q zero = refl
rest_long setup q (suc n) = ap suc (rest_long setup (suc q) n)

rest_at : (setup : Setup) (q n i : ℕ) → i < n → get_or (rest_cpus setup q n) i no_cpu ≡ rest_cpu setup (q + i)
rest_at setup q zero i low = absurd (omega arith)
rest_at setup q (suc n) zero low = let e : q ≡ q + 0 = omega arith in ap (λ k. rest_cpu setup k) e
rest_at setup q (suc n) (suc i) low =
    let e : suc q + i ≡ q + suc i = omega arith in
    rest_at setup (suc q) n i (omega arith) ∙ ap (λ k. rest_cpu setup k) e

rest_locks : (r : Renaming) (n : ℕ) → map (λ l. renamed_lock r l) (replicate n rest_lock) ≡ replicate n rest_lock
rest_locks r zero = refl
rest_locks r (suc n) = ap (λ ls. rest_lock ∷ ls) (rest_locks r n)

module _ (r : Renaming) (setup : Setup) (alike : IsAmongAlike setup r) where
  abbrev count : ℕ
  count = length setup.topology.sockets.items

  module _ (is : IsRenaming count r) where
    first-renamed : (mode : Mode) (o : Option Op) → renamed_frame r (first_frame mode o) ≡ first_frame mode o
    first-renamed mode None = refl
    first-renamed mode (Some o) = refl

    -- at rest each processor is as the one whose number it gets
    rest_cpu-renamed : (q : ℕ) → renamed_cpu r (rest_cpu setup (r.back q)) ≡ rest_cpu setup q
    rest_cpu-renamed q =
        (λ i. record (rest_cpu setup (r.back q)) {
          frames = first-renamed setup.mode (slice_get (program_at setup (r.back q) 0) 0) i ∷ [];
        })
        ∙ ap (λ ops. record (rest_cpu setup q) { frames = first_frame setup.mode (slice_get ops 0) ∷ [] })
        (sym (alike.programs (r.back q) 0) ∙ ap (λ k. program_at setup k 0) (is.redone q))

    came_at : (q : ℕ) → q < count → cpu_at (at_rest setup) (r.back q) ≡ rest_cpu setup (r.back q)
    unfolding cpu_at
    came_at q low =
        let there : r.back q < count = comes_low r count is (r.back q) (subst (λ (k : ℕ). k < count) (sym (is.redone q)) low) in
        let e : 0 + r.back q ≡ r.back q = omega arith in
        rest_at setup 0 count (r.back q) there ∙ ap (λ k. rest_cpu setup k) e

    rest_cpus-renamed : (q n : ℕ) → q + n ≡ count → renamed_cpus r (at_rest setup) q n ≡ rest_cpus setup q n
    rest_cpus-renamed q zero e = refl
    rest_cpus-renamed q (suc n) e =
        let low : q < count = omega (arith, e) in
        let one : renamed_cpu r (cpu_at (at_rest setup) (r.back q)) ≡ rest_cpu setup q =
        ap (λ c. renamed_cpu r c) (came_at q low) ∙ rest_cpu-renamed q in
        let more = rest_cpus-renamed (suc q) n (omega (arith, e)) in
        (λ i. one i ∷ more i)

    rest-renamed : renamed r (at_rest setup) ≡ at_rest setup
    rest-renamed =
        let cpus =
        ap (λ k. renamed_cpus r (at_rest setup) 0 k) (rest_long setup 0 count) ∙ rest_cpus-renamed 0 count (omega arith) in
        (λ i. record (at_rest setup) { locks = rest_locks r (length setup.locks.items) i; cpus = cpus i })

    module _ (m : Machine) (way : OnTheWay setup m) where
      sound : IsSound m
      sound = (_, way.shows.shows)

      many : length m.cpus ≡ count
      many = sound.1.whole.cpus ∙ ap (λ (s : Setup). length s.topology.sockets.items) way.same

      one_act : (a : Act) → next (renamed r m) (renamed_act r a) ≡ renamed_answer r (next m a)
      one_act a =
          renamed_goes_on r m a (subst (λ (k : ℕ). IsRenaming k r) (sym many) is)
          (subst (λ (s : Setup). IsAmongAlike s r) (sym way.same) alike)
          (sound_names m sound way.named (processor_of a))

      further : (a : Act) → processor_of a < count → OnTheWay setup (next m a).0
      further a low = record {
        events = with_event way.events (next m a).1;
        shows = acts_keep m way.events a (subst (λ (k : ℕ). processor_of a < k) (sym many) low) way.shows;
        same = setup_kept m a ∙ way.same;
        named = next-named m sound way.named a;
      }

    on_way : (acts : List Act) (m : Machine) → OnTheWay setup m → AreInRange count acts
        → OnTheWay setup (machine_after m acts)
    on_way [] m way low = way
    on_way (a ∷ acts) m way low = on_way acts (next m a).0 (further m way a low.0) low.1

    runs : (acts : List Act) (m : Machine) → OnTheWay setup m → AreInRange count acts
        → machine_after (renamed r m) (renamed_acts r acts) ≡ renamed r (machine_after m acts)
    runs [] m way low = refl
    runs (a ∷ acts) m way low =
        ap (λ (x : Answer). machine_after x.0 (renamed_acts r acts)) (one_act m way a)
        ∙ runs acts (next m a).0 (further m way a low.0) low.1

    told : (n : ℕ) (o : Option Event) (os ps : List Occurrence) → os ≡ renamed_history r ps
        → occurs n (renamed_told r o) ++ os ≡ renamed_history r (occurs n o ++ ps)
    told n None os ps e = e
    told n (Some x) os ps e = ap (λ (zs : List Occurrence). occurs n (renamed_told r (Some x)) ++ zs) e

    tells : (acts : List Act) (n : ℕ) (m : Machine) → OnTheWay setup m → AreInRange count acts
        → history_from n (renamed r m) (renamed_acts r acts) ≡ renamed_history r (history_from n m acts)
    tells [] n m way low = refl
    tells (a ∷ acts) n m way low =
        ap (λ (x : Answer). occurs n x.1 ++ history_from (suc n) x.0 (renamed_acts r acts)) (one_act m way a)
        ∙ told n (next m a).1 _ _ (tells acts (suc n) (next m a).0 (further m way a low.0) low.1)

at_first : (setup : Setup) → IsLawfulSetup setup → OnTheWay setup (at_rest setup)
at_first setup ok = record {
  events = [];
  shows = rest_shows setup ok;
  same = refl;
  named = rest_all setup 0 (length setup.topology.sockets.items);
}

pub schedules_run_renamed : SchedulesRunRenamed
schedules_run_renamed r setup acts ok low is alike =
    let way = at_first setup ok in
    let rest = sym (rest-renamed r setup alike is) in
    record {
      state = ap (λ m. machine_after m (renamed_acts r acts)) rest ∙ runs r setup alike is acts (at_rest setup) way low;
      tells = ap (λ m. history_from 1 m (renamed_acts r acts)) rest ∙ tells r setup alike is acts 1 (at_rest setup) way low;
    }

-- nobody gets a new number
same_numbers : Renaming
same_numbers = record { to = λ p. p; back = λ p. p }

pub schedules_have_names : SchedulesHaveNames
unfolding same_numbers
schedules_have_names setup acts p ok low =
    let alike : IsAmongAlike setup same_numbers =
    record { programs = λ q h. refl; handlers = λ q. refl; sockets = λ q. refl } in
    let is : IsRenaming (length setup.topology.sockets.items) same_numbers =
    record { undone = λ q. refl; redone = λ q. refl; others = λ q high. refl } in
    let way = on_way same_numbers setup alike is acts (at_rest setup) (at_first setup ok) low in
    sound_names (machine_after (at_rest setup) acts) (_, way.shows.shows) way.named p
