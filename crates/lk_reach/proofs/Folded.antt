-- States that stand for others.
use Rattle.std.proofs.Common.{◌≡◌, ◌<◌, ◌-◌, ℕ, Bool, true, false, zero, suc, Option, Some, None}
use Rattle.std.proofs.Common.{List, [], ◌∷◌, ◌++◌, map, length, ap, refl, sym, ◌∙◌, subst}
use Rattle.std.proofs.Common.{slice_get, ◌==◌, ◌&&◌, ◌||◌, not, is_some, if◌then◌else◌}
use Rattle.std.specs.Prelude.{unwrap_or}
use Rattle.lk_reach.proofs.Names.{length-map, Act, Event, next, processor_of, CpuState, Machine}
use Rattle.lk_reach.proofs.Names.{rest_frame, top_frame, Answer, at_rest, machine_after, Frame, Pc}
use Rattle.lk_reach.proofs.Names.{Setup, is_over, row_of, AreInRange, AreAlike, bared, renamed}
use Rattle.lk_reach.proofs.Names.{renamed_act, Renaming, IsSought, Fits, StandsFor, kind_value}
use Rattle.lk_reach.proofs.Names.{AreMoves, AreOver, IsBegun, IsMove, IsReached, MakesRow, after}
use Rattle.lk_reach.proofs.Names.{bare, cpus_of, run, start_of, Sought, Extras, Plan}
use Rattle.lk_names.specs.declared.events.What.{What}
use Rattle.lk_rows.specs.Machine.{cpu_at, frame_at, depth_at}
use Rattle.lk_machine.specs.Parts.{place_of}
use Rattle.lk_core.proofs.{Runs.runs_keep, Setups.setup_kept}
use Rattle.lk_renaming.proofs.{Bared.alike_stays, Composed.{compose, twice, back}}
use Rattle.lk_renaming.proofs.Cpus.{comes_low, cpu-back, cpu-renamed, cpus-renamed}
use Rattle.lk_renaming.proofs.{Goes.renamed_goes_on, Lists.slice_get_mapped}
use Rattle.lk_renaming.proofs.{Runs.schedules_have_names, Writes.top-renamed}
use Rattle.lk_renaming.specs.Named.{HasNames}
use Rattle.lk_renaming.specs.Renamed.{renamed_frame, renamed_cpu, renamed_what, renamed_event}
use Rattle.lk_renaming.specs.Renamed.{renamed_told, renamed_answer}
use Rattle.lk_renaming.specs.Renaming.{IsRenaming, IsAmongAlike, composed, reversed}
use Rattle.lk_reach.proofs.Closed.{Laws, after_append, move_in_range, reached_alike, reached_start}
use Rattle.lk_reach.proofs.Closed.{reached_such, reached_then, run_bare}
use Rattle.lk_reach.proofs.Likeness.{after_alike, makes_alike, over_alike, sought_alike}
use Rattle.lk_reach.specs.{Deeds.{Does, count_value, row_by}, declared.deeds.Deed.Deed}
use Rattle.lk_names.specs.declared.events.Act.TheVariants as act
use Rattle.lk_names.specs.declared.events.What.TheVariants as what
use Rattle.lk_reach.specs.declared.deeds.Deed.TheVariants as deed

in_range : (extras : Extras) (setup : Setup) (acts : List Act) → AreMoves extras setup acts
    → AreInRange (cpus_of setup) acts
in_range extras setup [] moves = tt
in_range extras setup (a ∷ acts) moves =
    (move_in_range extras setup a moves.0, in_range extras setup acts moves.1)

range_append : (n : ℕ) (xs ys : List Act) → AreInRange n xs → AreInRange n ys → AreInRange n (xs ++ ys)
range_append n [] ys a b = b
range_append n (x ∷ xs) ys a b = (a.0, range_append n xs ys a.1 b)

bare_names : (m : Machine) (p : ℕ) → HasNames m p → HasNames (bare m) p
unfolding frame_at depth_at cpu_at
bare_names m p names = names

bare_renamed : (r : Renaming) (m : Machine) → bare (renamed r m) ≡ renamed r (bare m)
unfolding cpu_at
bare_renamed r m = refl

pub laws : Laws
laws = record { runs = runs_keep; setup = setup_kept }

-- the act on the way back, and again
pub act_back : (r : Renaming) (n : ℕ) → IsRenaming n r → (a : Act) → renamed_act r (renamed_act (reversed r) a) ≡ a
act_back r n is (act.Step p) = ap (λ k. act.Step k) (is.redone p)
act_back r n is (act.Interrupt p) = ap (λ k. act.Interrupt k) (is.redone p)
act_back r n is (act.Preempt p) = ap (λ k. act.Preempt k) (is.redone p)
act_back r n is (act.Resume p) = ap (λ k. act.Resume k) (is.redone p)
act_back r n is (act.Nudge p) = ap (λ k. act.Nudge k) (is.redone p)

processor_renamed : (r : Renaming) (a : Act) → processor_of (renamed_act r a) ≡ r.to (processor_of a)
processor_renamed r (act.Step p) = refl
processor_renamed r (act.Interrupt p) = refl
processor_renamed r (act.Preempt p) = refl
processor_renamed r (act.Resume p) = refl
processor_renamed r (act.Nudge p) = refl

-- parts under new numbers

place_renamed : (r : Renaming) (c : CpuState) → place_of (renamed_cpu r c) ≡ place_of c
place_renamed r c =
    ap (λ n. (unwrap_or (slice_get (map (λ f. renamed_frame r f) c.frames) (n - 1)) rest_frame).place)
    (length-map c.frames (λ f. renamed_frame r f))
    ∙ ap (λ (f : Frame). f.place) (slice_get_mapped (λ f. renamed_frame r f) c.frames (length c.frames - 1) rest_frame)

row_renamed : (r : Renaming) (c : CpuState) → row_of (renamed_cpu r c) ≡ row_of c
row_renamed r c = ap (λ o. if c.preempted || c.halted then None else o) (place_renamed r c)

over_renamed : (r : Renaming) (c : CpuState) → is_over (renamed_cpu r c) ≡ is_over c
over_renamed r c =
    ap (λ n. (n == 1) && not (is_some (place_of (renamed_cpu r c)))) (length-map c.frames (λ f. renamed_frame r f))
    ∙ ap (λ o. (length c.frames == 1) && not (is_some o)) (place_renamed r c)

pub kind_renamed : (r : Renaming) (w : What) → kind_value (renamed_what r w) ≡ kind_value w
kind_renamed r (what.Release l None) = refl
kind_renamed r (what.Release l (Some p)) = refl
kind_renamed r (what.Pass l u zero) = refl
kind_renamed r (what.Pass l u (suc k)) = refl
kind_renamed r w = refl

-- a machine and the renamed one
module _ (r : Renaming) (t : Machine) (is : IsRenaming (length t.cpus) r) (back_is : IsRenaming (length t.cpus) (reversed r)) where
  low_there : (p : ℕ) → p < length t.cpus → r.to p < length (renamed r t).cpus
  low_there p low =
      subst (λ (n : ℕ). r.to p < n) (sym (cpus-renamed r t is))
      (comes_low (reversed r) (length t.cpus) back_is (r.to p) (subst (λ (k : ℕ). k < length t.cpus) (sym (is.undone p)) low))

  low_back : (q : ℕ) → q < length (renamed r t).cpus → r.back q < length t.cpus
  low_back q low =
      comes_low r (length t.cpus) is (r.back q)
      (subst (λ (k : ℕ). k < length t.cpus) (sym (is.redone q)) (subst (λ (n : ℕ). q < n) (cpus-renamed r t is) low))

  pub makes_there : (row : Pc) → MakesRow t row → MakesRow (renamed r t) row
  makes_there row x =
      (r.to x.0, low_there x.0 x.1, ap (λ c. row_of c) (cpu-renamed r t is x.0) ∙ row_renamed r (cpu_at t x.0) ∙ x.2)

  pub makes_back : (row : Pc) → MakesRow (renamed r t) row → MakesRow t row
  makes_back row x = (
    r.back x.0,
    low_back x.0 x.1,
    sym (row_renamed r (cpu_at t (r.back x.0))) ∙ sym (ap (λ c. row_of c) (cpu-back r t is x.0)) ∙ x.2,
  )

  pub over_there : AreOver t → AreOver (renamed r t)
  over_there over q low =
      ap (λ c. is_over c) (cpu-back r t is q) ∙ over_renamed r (cpu_at t (r.back q)) ∙ over (r.back q) (low_back q low)

  pub over_back : AreOver (renamed r t) → AreOver t
  over_back over p low =
      sym (over_renamed r (cpu_at t p)) ∙ sym (ap (λ c. is_over c) (cpu-renamed r t is p)) ∙ over (r.to p) (low_there p low)

  lock_back : (p : ℕ) → (top_frame t p).lock.index ≡ (top_frame (renamed r t) (r.to p)).lock.index
  lock_back p = sym (ap (λ (f : Frame). f.lock.index) (top-renamed r t is p))

  row_by_back : (b : Act) → row_by (renamed r t) (renamed_act r b) ≡ row_by t b
  row_by_back (act.Step p) = ap (λ c. row_of c) (cpu-renamed r t is p) ∙ row_renamed r (cpu_at t p)
  row_by_back (act.Interrupt p) = refl
  row_by_back (act.Preempt p) = refl
  row_by_back (act.Resume p) = refl
  row_by_back (act.Nudge p) = refl

-- nobody gets a new number
abbrev pub own_numbers : Renaming
own_numbers = record { to = λ p. p; back = λ p. p }

pub own_is : (n : ℕ) → IsRenaming n own_numbers
own_is n = record { undone = λ p. refl; redone = λ p. refl; others = λ p high. refl }

pub own_alike : (setup : Setup) → IsAmongAlike setup own_numbers
own_alike setup = record { programs = λ p h. refl; handlers = λ p. refl; sockets = λ p. refl }

-- so nothing is changed
pub own_same : (m : Machine) → renamed own_numbers m ≡ m
own_same m =
    let is = own_is (length m.cpus) in
    sym (twice own_numbers own_numbers m is) ∙ back own_numbers m is

-- what was told under new numbers was told before, and is of the same kind
pub record WasTold (o : Option Event) (e : Event) : Type 0 where
  pub event : Event
  pub is : o ≡ Some event
  pub kind : kind_value event.what ≡ kind_value e.what

told_before : (r : Renaming) (o : Option Event) (e : Event) → renamed_told r o ≡ Some e → WasTold o e
told_before r None e told = absurd (let z : None ≡ Some e = told in cc z)
told_before r (Some x) e told =
    let same : renamed_event r x ≡ e = (let z : Some (renamed_event r x) ≡ Some e = told in cc z) in
    record { event = x; is = refl; kind = sym (kind_renamed r x.what) ∙ ap (λ (y : Event). kind_value y.what) same }

pub not_both : (b : Bool) → b ≡ true → b ≡ false → ⊥
not_both b is_so not_so = cc

-- An act on the state that stands for another does what the act on that does, and leads on to one that stands for
-- what is behind that.
pub record GoesOn (plan : Plan) (setup : Setup) (t s : Machine) (a : Act) : Type 0 where
  pub act : Act
  pub move : IsMove plan.extras setup act
  pub stands : StandsFor plan setup (after t act) (after s a)
  pub told : (e : Event) → (next s a).1 ≡ Some e → WasTold (next t act).1 e

module _ (plan : Plan) (setup : Setup) (begun : IsBegun plan setup) where
  pub many : (t : Machine) → IsReached plan setup t → length t.cpus ≡ cpus_of setup
  many t r = (reached_such laws plan setup begun t r).cpus

  same : (t : Machine) → IsReached plan setup t → t.setup ≡ setup
  same t r = (reached_such laws plan setup begun t r).setup

  names : (t : Machine) → IsReached plan setup t → (p : ℕ) → HasNames t p
  names t r p =
      let all = plan.before.items ++ r.acts in
      let low = range_append (cpus_of setup) plan.before.items r.acts begun.range (in_range plan.extras setup r.acts r.moves) in
      subst (λ (m : Machine). HasNames m p)
      (sym (r.there ∙ ap (λ m. bare m) (sym (after_append plan.before.items r.acts (at_rest setup)))))
      (bare_names (machine_after (at_rest setup) all) p (schedules_have_names setup all p begun.lawful low))

  first : length (start_of plan setup).cpus ≡ cpus_of setup
  first = many (bare (start_of plan setup)) (reached_start laws plan setup begun)

  module _ (r : Renaming) (fits : Fits plan setup r) where
    pub is_for : (t : Machine) → IsReached plan setup t → IsRenaming (length t.cpus) r
    is_for t reached = subst (λ (n : ℕ). IsRenaming n r) (sym (many t reached)) fits.fits.is

    pub goes : (t : Machine) → IsReached plan setup t → (b : Act)
        → next (renamed r t) (renamed_act r b) ≡ renamed_answer r (next t b)
    goes t reached b =
        renamed_goes_on r t b (is_for t reached)
        (subst (λ (z : Setup). IsAmongAlike z r) (sym (same t reached)) fits.fits.alike) (names t reached (processor_of b))

    pub after_renamed : (t : Machine) → IsReached plan setup t → (b : Act)
        → after (renamed r t) (renamed_act r b) ≡ renamed r (after t b)
    after_renamed t reached b =
        ap (λ (x : Answer). bare x.0) (goes t reached b) ∙ bare_renamed r (next t b).0

    -- the way back fits too
    pub back_fits : Fits plan setup (reversed r)
    back_fits = record {
      fits = (compose setup (cpus_of setup) r r fits.fits fits.fits).back;
      starts =
          ap (λ m. renamed (reversed r) m) (sym fits.starts)
          ∙ back r (start_of plan setup) (subst (λ (n : ℕ). IsRenaming n r) (sym first) fits.fits.is);
    }

    to_low : (p : ℕ) → p < cpus_of setup → r.to p < cpus_of setup
    to_low p low =
        comes_low (reversed r) (cpus_of setup) back_fits.fits.is (r.to p)
        (subst (λ (k : ℕ). k < cpus_of setup) (sym (fits.fits.is.undone p)) low)

    pub move_renamed : (a : Act) → IsMove plan.extras setup a → IsMove plan.extras setup (renamed_act r a)
    move_renamed (act.Step p) move = to_low p move
    move_renamed (act.Interrupt p) move =
        (to_low p move.0, subst (λ (k : ℕ). 0 < k) (sym (fits.fits.alike.handlers p)) move.1)
    move_renamed (act.Preempt p) move = (move.0, to_low p move.1)
    move_renamed (act.Resume p) move = (move.0, to_low p move.1)
    move_renamed (act.Nudge p) move = (move.0, to_low p move.1)

    -- what is reached is reached under new numbers
    carried : (acts : List Act) (s : Machine) → IsReached plan setup s → IsReached plan setup (renamed r s)
        → AreMoves plan.extras setup acts → IsReached plan setup (renamed r (run s acts))
    carried [] s one other moves = other
    carried (a ∷ acts) s one other moves =
        carried acts (after s a) (reached_then laws plan setup begun s a one moves.0)
        (subst (λ (m : Machine). IsReached plan setup m) (after_renamed s one a)
        (reached_then laws plan setup begun (renamed r s) (renamed_act r a) other (move_renamed a moves.0))) moves.1

    pub start_renamed : renamed r (bare (start_of plan setup)) ≡ bare (start_of plan setup)
    start_renamed = sym (bare_renamed r (start_of plan setup)) ∙ ap (λ m. bare m) fits.starts

    pub reached_renamed : (t : Machine) → IsReached plan setup t → IsReached plan setup (renamed r t)
    reached_renamed t reached =
        let start = reached_start laws plan setup begun in
        subst (λ (m : Machine). IsReached plan setup (renamed r m))
        (run_bare reached.acts (start_of plan setup) ∙ sym reached.there)
        (carried reached.acts (bare (start_of plan setup)) start
        (subst (λ (m : Machine). IsReached plan setup m) (sym start_renamed) start) reached.moves)

  -- one behind the other fits
  pub both_fit : (r q : Renaming) → Fits plan setup r → Fits plan setup q → Fits plan setup (composed r q)
  both_fit r q one other = record {
    fits = (compose setup (cpus_of setup) q r other.fits one.fits).both;
    starts =
        sym (twice r q (start_of plan setup) (subst (λ (n : ℕ). IsRenaming n q) (sym first) other.fits.is))
        ∙ ap (λ m. renamed r m) other.starts ∙ one.starts;
  }

  pub own_fits : Fits plan setup own_numbers
  own_fits = record {
    fits = record { is = own_is (cpus_of setup); alike = own_alike setup };
    starts = own_same (start_of plan setup);
  }

  -- who is alike stands for the other
  pub stands_alike : (t s : Machine) → AreAlike t s → StandsFor plan setup t s
  stands_alike t s alike = record {
    renaming = own_numbers;
    fits = own_fits;
    alike = ap (λ m. bared m) (own_same t) ∙ alike;
    plain = λ e. alike;
  }

  pub stands_self : (t : Machine) → IsReached plan setup t → StandsFor plan setup t t
  stands_self t reached = stands_alike t t refl

  pub stands_then : (u t s : Machine) → IsReached plan setup u → StandsFor plan setup u t → StandsFor plan setup t s
      → StandsFor plan setup u s
  stands_then u t s reached one other =
      let r = one.renaming in
      let q = other.renaming in
      record {
        renaming = composed q r;
        fits = both_fit q r other.fits one.fits;
        alike =
            ap (λ m. bared m) (sym (twice q r u (is_for r one.fits u reached)))
            ∙ alike_stays q (renamed r u) t one.alike ∙ other.alike;
        plain = λ e. one.plain e ∙ other.plain e;
      }

  pub stands_back : (t s : Machine) → IsReached plan setup t → StandsFor plan setup t s → StandsFor plan setup s t
  stands_back t s reached st =
      let r = st.renaming in
      record {
        renaming = reversed r;
        fits = back_fits r st.fits;
        alike =
            sym (alike_stays (reversed r) (renamed r t) s st.alike)
            ∙ ap (λ m. bared m) (back r t (is_for r st.fits t reached));
        plain = λ e. sym (st.plain e);
      }

  module _ (t s : Machine) (one : IsReached plan setup t) (other : IsReached plan setup s) (st : StandsFor plan setup t s) where
    abbrev r : Renaming
    r = st.renaming

    is : IsRenaming (length t.cpus) r
    is = is_for r st.fits t one

    back_is : IsRenaming (length t.cpus) (reversed r)
    back_is = is_for (reversed r) (back_fits r st.fits) t one

    there : IsReached plan setup (renamed r t)
    there = reached_renamed r st.fits t one

    -- the act under its old number
    abbrev old : Act → Act
    old a = renamed_act (reversed r) a

    came : (a : Act) → renamed_act r (old a) ≡ a
    came a = act_back r (cpus_of setup) st.fits.fits.is a

    old_move : (a : Act) → IsMove plan.extras setup a → IsMove plan.extras setup (old a)
    old_move a move = move_renamed (reversed r) (back_fits r st.fits) a move

    answers : (a : Act) → renamed_answer r (next t (old a)) ≡ next (renamed r t) a
    answers a = sym (goes r st.fits t one (old a)) ∙ ap (λ c. next (renamed r t) c) (came a)

    folded_step : (a : Act) → IsMove plan.extras setup a → plan.folds ≡ true → GoesOn plan setup t s a
    folded_step a move folds =
        let on = reached_alike laws plan setup begun (renamed r t) s a there other st.alike in
        let over : renamed r (after t (old a)) ≡ after (renamed r t) a =
        sym (after_renamed r st.fits t one (old a)) ∙ ap (λ c. after (renamed r t) c) (came a) in
        record {
          act = old a;
          move = old_move a move;
          stands = record {
            renaming = r;
            fits = st.fits;
            alike = ap (λ m. bared m) over ∙ after_alike (renamed r t) s st.alike a on;
            plain = λ not_so. absurd (not_both plan.folds folds not_so);
          };
          told = λ e told. told_before r (next t (old a)).1 e (ap (λ (x : Answer). x.1) (answers a) ∙ on.tells ∙ told);
        }

    plain_step : (a : Act) → IsMove plan.extras setup a → plan.folds ≡ false → GoesOn plan setup t s a
    plain_step a move not_so =
        let alike = st.plain not_so in
        let on = reached_alike laws plan setup begun t s a one other alike in
        record {
          act = a;
          move = move;
          stands = stands_alike (after t a) (after s a) (after_alike t s alike a on);
          told = λ e told. record { event = e; is = on.tells ∙ told; kind = refl };
        }

    pub steps : (a : Act) → IsMove plan.extras setup a → GoesOn plan setup t s a
    steps a move = by plan.folds refl
      where
        by : (b : Bool) → plan.folds ≡ b → GoesOn plan setup t s a
        by true folds = folded_step a move folds
        by false not_so = plain_step a move not_so

    -- if no act changes the one, but for what nobody reads, none changes the other
    pub still_stands : ((b : Act) → IsMove plan.extras setup b → AreAlike (after t b) t) → (a : Act)
        → IsMove plan.extras setup a → AreAlike (after s a) s
    still_stands still a move =
        let on = reached_alike laws plan setup begun (renamed r t) s a there other st.alike in
        let over : renamed r (after t (old a)) ≡ after (renamed r t) a =
        sym (after_renamed r st.fits t one (old a)) ∙ ap (λ c. after (renamed r t) c) (came a) in
        sym (ap (λ m. bared m) over ∙ after_alike (renamed r t) s st.alike a on)
        ∙ alike_stays r (after t (old a)) t (still (old a) (old_move a move)) ∙ st.alike

    -- both make the same rows
    pub makes_stands : (row : Pc) → MakesRow s row → MakesRow t row
    makes_stands row x = makes_back r t is back_is row (makes_alike s (renamed r t) (sym st.alike) row x)

    pub over_stands : AreOver s → AreOver t
    over_stands over = over_back r t is back_is (over_alike s (renamed r t) (sym st.alike) over)

    does_back : (d : Deed) (a : Act) → Does d (renamed r t) a → Does d t (old a)
    does_back (deed.Row row) a x =
        sym (row_by_back r t is back_is (old a)) ∙ ap (λ c. row_by (renamed r t) c) (came a) ∙ x
    does_back (deed.Event kind) a x =
        let told = told_before r (next t (old a)).1 x.0 (ap (λ (y : Answer). y.1) (answers a) ∙ x.1) in
        (told.event, told.is, told.kind ∙ x.2)
    does_back (deed.Count n) a x =
        subst (λ (i : ℕ). 0 < i) (sym (ap (λ (y : Answer). count_value y.0.counts n) (answers a))) x

    -- an act that is sought of any processor
    folded_deed : (sought : Sought) → sought.cpu ≡ None → (a : Act) → IsMove plan.extras setup a → IsSought sought s a
        → (b : Act) × IsMove plan.extras setup b × IsSought sought t b
    folded_deed sought any a move does =
        let on = reached_alike laws plan setup begun s (renamed r t) a other there (sym st.alike) in
        let x = sought_alike s (renamed r t) (sym st.alike) a on sought does in (
          old a,
          old_move a move,
          record {
            does = does_back sought.deed a x.does;
            cpu = λ which some. absurd (none sought.cpu which any some);
            lock = λ which some.
                ap (λ p. (top_frame t p).lock.index) (processor_renamed (reversed r) a)
                ∙ lock_back r t is back_is (r.back (processor_of a))
                ∙ ap (λ p. (top_frame (renamed r t) p).lock.index) (is.redone (processor_of a))
                ∙ x.lock which some;
          },
        )
      where
        none : (o : Option ℕ) (n : ℕ) → o ≡ None → o ≡ Some n → ⊥
        none o n e f = cc

    pub deeds_stand : (sought : Sought) → (plan.folds ≡ true → sought.cpu ≡ None) → (a : Act)
        → IsMove plan.extras setup a → IsSought sought s a → (b : Act) × IsMove plan.extras setup b × IsSought sought t b
    deeds_stand sought any a move does = by plan.folds refl
      where
        by : (f : Bool) → plan.folds ≡ f → (b : Act) × IsMove plan.extras setup b × IsSought sought t b
        by true folds = folded_deed sought (any folds) a move does
        by false not_so =
            let alike = sym (st.plain not_so) in
            (a, move, sought_alike s t alike a (reached_alike laws plan setup begun s t a other one alike) sought does)

  -- the same in whole schedules
  pub record RunsOn (t s : Machine) (acts : List Act) : Type 0 where
    pub others : List Act
    pub moves : AreMoves plan.extras setup others
    pub stands : StandsFor plan setup (run t others) (run s acts)
    pub reached : IsReached plan setup (run t others)
    pub came : IsReached plan setup (run s acts)

  pub runs_on : (acts : List Act) (t s : Machine) → IsReached plan setup t → IsReached plan setup s
      → StandsFor plan setup t s → AreMoves plan.extras setup acts → RunsOn t s acts
  runs_on [] t s one other st moves = record { others = []; moves = tt; stands = st; reached = one; came = other }
  runs_on (a ∷ acts) t s one other st moves =
      let step = steps t s one other st a moves.0 in
      let more = runs_on acts (after t step.act) (after s a) (reached_then laws plan setup begun t step.act one step.move)
      (reached_then laws plan setup begun s a other moves.0) step.stands moves.1 in
      record {
        others = step.act ∷ more.others;
        moves = (step.move, more.moves);
        stands = more.stands;
        reached = more.reached;
        came = more.came;
      }
