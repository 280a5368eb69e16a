-- The setup that lines say is lawful.
use Rattle.std.proofs.Common.{◌≡◌, ◌≤◌, ◌<◌, ◌-◌, ◌==◌, ◌⊎◌, inl, inr, ℕ, Bool, true, false, List, [], ◌∷◌, ◌++◌, None, Some, length, refl, ap, ◌∙◌, arith, if◌then◌else◌}
use Rattle.std.specs.Prelude.{All, slice_get, slice_index_or}
use Rattle.std.proofs.lemmas.Bool.{cases_lt}
use Rattle.std.proofs.lemmas.Bool.Decides.{nat_tests}
use Rattle.std.proofs.lemmas.Option.{slice_get_within, get_or_from_slice_get, slice_get-get_or}
use Rattle.std.proofs.lemmas.List.{get_or_append_left, get_or_past, length-append}
use Rattle.std.proofs.Math.ListN.{length-replicate}
use Rattle.std.proofs.lemmas.List.Elements.{All-replicate, All-set, All-get_or, All-push, All-weaker, All-nil}
use Rattle.lk_names.specs.ListOf.{ListOf}
use Rattle.lk_names.specs.declared.names.Format.{Format}
use Rattle.lk_names.specs.declared.names.Format.TheVariants.{One, Two}
use Rattle.lk_names.specs.declared.names.Kind.{Kind}
use Rattle.lk_names.specs.declared.limits.TheConstants.{MAX_TURNS}
use Rattle.lk_rows.specs.Programs.{program_at, handlers_of, IsLawfulProgram, IsLawfulSetup}
use Rattle.lk_rows.specs.declared.setup.Op.{Op}
use Rattle.lk_rows.specs.declared.setup.Setup.{Setup}
use Rattle.lk_forms.specs.declared.limits.TheConstants.{MAX_CPUS, MAX_HANDLERS, MAX_OPS}
use Rattle.lk_forms.specs.Grammar.{Reading, has_go, reading_of, list_of, default_setup, given_handlers, with_more, cpus_of, most_cpus}
use Rattle.lk_forms.specs.Agrees.{IsRoomy}
use Rattle.lk_forms.specs.Keywords.{rank_of, order, fault_of_place}
use Rattle.lk_forms.specs.Ranks.{fault_of_ranks}
use Rattle.lk_forms.specs.declared.keyword.Keyword.{Keyword}
use Rattle.lk_forms.specs.declared.keyword.Keyword.TheVariants as keyword
use Rattle.lk_forms.specs.declared.answers.Sched.TheVariants.{Blank, Run, End}
use Rattle.lk_forms.proofs.Changes.{Changes, to_mode, to_cpus, to_sockets, to_threshold, to_spins, one_lock, one_program, one_handler, nothing}
use Rattle.lk_forms.proofs.Roomy.{roomy-changed, roomy-format}
use Rattle.lk_forms.proofs.Readings.{Steps, skips, begins, sets, schedules, kept}
use Rattle.lk_forms.proofs.LawfulPrograms.{lawful_program}

-- a lawful program of not too many operations
abbrev IsGood : List Kind → ListOf Op → Type 0
IsGood kinds program = IsLawfulProgram kinds program.items × (length program.items ≤ MAX_OPS)

-- not too many such handlers
abbrev AreGood : List Kind → ListOf (ListOf Op) → Type 0
AreGood kinds handlers = (length handlers.items ≤ MAX_HANDLERS) × All (λ h. IsGood kinds h) handlers.items

-- what lines make of a setup
record IsSaid (s : Setup) : Type 0 where
  roomy : IsRoomy s
  threshold : s.threshold ≤ MAX_TURNS
  spins : (0 < s.spins) × (s.spins ≤ MAX_TURNS)
  progs : All (λ program. IsGood s.locks.items program) s.progs.items
  irqs : All (λ handlers. AreGood s.locks.items handlers) s.irqs.items

-- the empty program

good_empty : (kinds : List Kind) (room : ℕ) → IsGood kinds (list_of room [])
good_empty kinds room = (
  record { declared = λ n o here. cc; fits = λ n o here. cc; tried = λ n o here tries lock. cc; ends = λ lock. refl },
  omega arith,
)

are_good_empty : (kinds : List Kind) (room : ℕ) → AreGood kinds (list_of room [])
are_good_empty kinds room = (omega arith, All-nil (λ h. IsGood kinds h))

-- one lock more

kept_kind : (kinds : List Kind) (k kind : Kind) (i : ℕ) → slice_get kinds i ≡ Some kind → slice_get (kinds ++ k ∷ []) i ≡ Some kind
kept_kind kinds k kind i here =
    let below : i < length kinds = slice_get_within kinds i kind here in
    let below_all : i < length (kinds ++ k ∷ []) = omega (arith, length-append kinds (k ∷ [])) in
    slice_get-get_or (kinds ++ k ∷ []) i kind below_all ∙ ap Some (get_or_append_left kinds (k ∷ []) kind i below ∙ get_or_from_slice_get kinds i kind kind here)

good_more : (kinds : List Kind) (k : Kind) (program : ListOf Op) → IsGood kinds program → IsGood (kinds ++ k ∷ []) program
good_more kinds k program good = (
  record {
    declared = λ n o here. kept_kind kinds k _ o.lock (good.0.declared n o here);
    fits = good.0.fits;
    tried = good.0.tried;
    ends = good.0.ends;
  },
  good.1,
)

are_good_more : (kinds : List Kind) (k : Kind) (handlers : ListOf (ListOf Op)) → AreGood kinds handlers → AreGood (kinds ++ k ∷ []) handlers
are_good_more kinds k handlers good = (good.0, All-weaker (λ h. IsGood kinds h) (λ h. IsGood (kinds ++ k ∷ []) h) (good_more kinds k) handlers.items good.1)

-- each change

said-changed : (s s' : Setup) → Changes s s' → IsSaid s → IsSaid s'
said-changed s _ (to_mode m) said = record { roomy = roomy-changed s _ (to_mode m) said.roomy; threshold = said.threshold; spins = said.spins; progs = said.progs; irqs = said.irqs }
said-changed s _ (to_cpus n some few) said = record {
  roomy = roomy-changed s _ (to_cpus n some few) said.roomy;
  threshold = said.threshold;
  spins = said.spins;
  progs = All-replicate (λ program. IsGood s.locks.items program) n (list_of 0 []) (good_empty s.locks.items 0);
  irqs = All-replicate (λ handlers. AreGood s.locks.items handlers) n (list_of MAX_HANDLERS []) (are_good_empty s.locks.items MAX_HANDLERS);
}
said-changed s _ (to_sockets ns many) said = record { roomy = roomy-changed s _ (to_sockets ns many) said.roomy; threshold = said.threshold; spins = said.spins; progs = said.progs; irqs = said.irqs }
said-changed s _ (to_threshold t within) said = record { roomy = roomy-changed s _ (to_threshold t within) said.roomy; threshold = within; spins = said.spins; progs = said.progs; irqs = said.irqs }
said-changed s _ (to_spins n some within) said = record { roomy = roomy-changed s _ (to_spins n some within) said.roomy; threshold = said.threshold; spins = (omega arith, within); progs = said.progs; irqs = said.irqs }
said-changed s _ (one_lock k few) said = record {
  roomy = roomy-changed s _ (one_lock k few) said.roomy;
  threshold = said.threshold;
  spins = said.spins;
  progs = All-weaker (λ program. IsGood s.locks.items program) (λ program. IsGood (s.locks.items ++ k ∷ []) program) (good_more s.locks.items k) s.progs.items said.progs;
  irqs = All-weaker (λ handlers. AreGood s.locks.items handlers) (λ handlers. AreGood (s.locks.items ++ k ∷ []) handlers) (are_good_more s.locks.items k) s.irqs.items said.irqs;
}
said-changed s _ (one_program p words ops below read) said = record {
  roomy = roomy-changed s _ (one_program p words ops below read) said.roomy;
  threshold = said.threshold;
  spins = said.spins;
  progs = All-set (λ program. IsGood s.locks.items program) s.progs.items p (list_of MAX_OPS ops) (lawful_program s.locks.items words ops read) said.progs;
  irqs = said.irqs;
}
said-changed s _ (one_handler p words ops below few read) said =
    let inside : p < length s.irqs.items = rw said.roomy.irqs below in
    let before = All-get_or (λ handlers. AreGood s.locks.items handlers) s.irqs.items p (list_of MAX_HANDLERS []) inside said.irqs in
    let more : AreGood s.locks.items (with_more (given_handlers s p) ops) = (
      omega (arith, length-append (given_handlers s p).items (list_of MAX_OPS ops ∷ []), few),
      All-push (λ h. IsGood s.locks.items h) (given_handlers s p).items (list_of MAX_OPS ops) before.1 (lawful_program s.locks.items words ops read),
    ) in
    record {
      roomy = roomy-changed s _ (one_handler p words ops below few read) said.roomy;
      threshold = said.threshold;
      spins = said.spins;
      progs = said.progs;
      irqs = All-set (λ handlers. AreGood s.locks.items handlers) s.irqs.items p (with_more (given_handlers s p) ops) more said.irqs;
    }
said-changed s _ nothing said = said

-- the format is no part of this
said-format : (s : Setup) (format : Format) → IsSaid s → IsSaid (record s { format = format })
said-format s format said = record { roomy = roomy-format s format said.roomy; threshold = said.threshold; spins = said.spins; progs = said.progs; irqs = said.irqs }

-- all lines

said-first : IsSaid default_setup
said-first = record {
  roomy = record { some = omega arith; few = omega arith; locks = omega arith; lock_room = refl; progs = refl; irqs = refl; irq_rooms = All-replicate (λ handlers. handlers.room ≡ MAX_HANDLERS) 1 (list_of MAX_HANDLERS []) refl };
  threshold = omega arith;
  spins = (omega arith, omega arith);
  progs = All-replicate (λ program. IsGood [] program) 1 (list_of 0 []) (good_empty [] 0);
  irqs = All-replicate (λ handlers. AreGood [] handlers) 1 (list_of MAX_HANDLERS []) (are_good_empty [] MAX_HANDLERS);
}

said-step : (r r' : Reading) → Steps r r' → IsSaid r.setup → IsSaid r'.setup
said-step r _ skips said = said
said-step r _ (begins format first) said = said-format r.setup format said
said-step r _ (sets last k s behind fine header changes) said = said-changed r.setup s changes said
said-step r _ (schedules last k args Blank behind fine schedule says) said = said
said-step r _ (schedules last k args (Run what times) behind fine schedule says) said = said
said-step r _ (schedules last k args End behind fine schedule says) said = said

said-lines : (lines : List (List ℕ)) → IsSaid (reading_of lines).setup
said-lines lines = kept (λ r. IsSaid r.setup) said-step lines said-first

-- the program of each processor, and of each handler

no_ops : (kinds : List Kind) → IsGood kinds (list_of 0 [])
no_ops kinds = good_empty kinds 0

good_at : (kinds : List Kind) (programs : List (ListOf Op)) (p : ℕ) → All (λ program. IsGood kinds program) programs → IsGood kinds (slice_index_or programs p (list_of 0 []))
good_at kinds programs p all = by_place (cases_lt p (length programs))
  where
    by_place : (p < length programs) ⊎ (length programs ≤ p) → IsGood kinds (slice_index_or programs p (list_of 0 []))
    by_place (inl less) = All-get_or (λ program. IsGood kinds program) programs p (list_of 0 []) less all
    by_place (inr past) = rw (get_or_past programs p (list_of 0 []) past) (no_ops kinds)

are_good_at : (kinds : List Kind) (irqs : List (ListOf (ListOf Op))) (p : ℕ) → All (λ handlers. AreGood kinds handlers) irqs → AreGood kinds (slice_index_or irqs p (list_of 0 []))
are_good_at kinds irqs p all = by_place (cases_lt p (length irqs))
  where
    by_place : (p < length irqs) ⊎ (length irqs ≤ p) → AreGood kinds (slice_index_or irqs p (list_of 0 []))
    by_place (inl less) = All-get_or (λ handlers. AreGood kinds handlers) irqs p (list_of 0 []) less all
    by_place (inr past) = rw (get_or_past irqs p (list_of 0 []) past) (are_good_empty kinds 0)

program_good : (s : Setup) → IsSaid s → (p h : ℕ) → IsLawfulProgram s.locks.items (program_at s p h) × (length (program_at s p h) ≤ MAX_OPS)
unfolding program_at
program_good s said p h = by_test (h == 0)
  where
    by_test : (b : Bool) → IsLawfulProgram s.locks.items (if b then (slice_index_or s.progs.items p (list_of 0 [])).items else (slice_index_or (slice_index_or s.irqs.items p (list_of 0 [])).items (h - 1) (list_of 0 [])).items)
        × (length (if b then (slice_index_or s.progs.items p (list_of 0 [])).items else (slice_index_or (slice_index_or s.irqs.items p (list_of 0 [])).items (h - 1) (list_of 0 [])).items) ≤ MAX_OPS)
    by_test true = good_at s.locks.items s.progs.items p said.progs
    by_test false = good_at s.locks.items (slice_index_or s.irqs.items p (list_of 0 [])).items (h - 1) (are_good_at s.locks.items s.irqs.items p said.irqs).1

handlers_few : (s : Setup) → IsSaid s → (p : ℕ) → handlers_of s p ≤ MAX_HANDLERS
unfolding handlers_of
handlers_few s said p = (are_good_at s.locks.items s.irqs.items p said.irqs).0

-- what lines say is a lawful setup
pub lawful_setup : (lines : List (List ℕ)) → IsLawfulSetup (reading_of lines).setup
lawful_setup lines =
    let s = (reading_of lines).setup in
    let said = said-lines lines in
    record {
      some = said.roomy.some;
      few = said.roomy.few;
      locks = said.roomy.locks;
      threshold = said.threshold;
      spins = said.spins;
      progs = said.roomy.progs;
      irqs = said.roomy.irqs;
      handlers = handlers_few s said;
      short = λ p h. (program_good s said p h).1;
      lawful = λ p h. (program_good s said p h).0;
    }

-- there are no more processors than the format has

-- nor before it is said, when there is one
abbrev IsLimited : Reading → Type 0
IsLimited r = (r.rank ≡ None → cpus_of r.setup ≤ MAX_CPUS) × (cpus_of r.setup ≤ most_cpus r.setup.format)

within_each : (format : Format) (n : ℕ) → n ≤ MAX_CPUS → n ≤ most_cpus format
within_each One n few = few
within_each Two n few = omega arith

limited-changed : (s s' : Setup) → Changes s s' → cpus_of s ≤ most_cpus s.format → cpus_of s' ≤ most_cpus s'.format
limited-changed s _ (to_mode m) few = few
limited-changed s _ (to_cpus n some most) few = rw length-replicate most
limited-changed s _ (to_sockets ns many) few = rw many few
limited-changed s _ (to_threshold t within) few = few
limited-changed s _ (to_spins n some within) few = few
limited-changed s _ (one_lock k room) few = few
limited-changed s _ (one_program p words ops below read) few = few
limited-changed s _ (one_handler p words ops below room read) few = few
limited-changed s _ nothing few = few

limited-step : (r r' : Reading) → Steps r r' → IsLimited r → IsLimited r'
limited-step r _ skips limited = limited
limited-step r _ (begins format first) limited = (λ none. cc, within_each format (cpus_of r.setup) (limited.0 first))
limited-step r _ (sets last k s behind fine header changes) limited = (λ none. cc, limited-changed r.setup s changes limited.1)
limited-step r _ (schedules last k args Blank behind fine schedule says) limited = limited
limited-step r _ (schedules last k args (Run what times) behind fine schedule says) limited = (λ none. cc, limited.1)
limited-step r _ (schedules last k args End behind fine schedule says) limited = (λ none. cc, limited.1)

pub limited_cpus : (lines : List (List ℕ)) → cpus_of (reading_of lines).setup ≤ most_cpus (reading_of lines).setup.format
limited_cpus lines = (kept IsLimited limited-step lines (λ none. omega arith, omega arith)).1

-- before `go` there are no acts

-- lines come in the order of their ranks
by_ranks : (last rank : ℕ) → fault_of_ranks order last rank ≡ None → last ≤ rank
by_ranks last rank fine = grind (arith, nat_tests, fine)

in_order : (last : ℕ) (k : Keyword) → fault_of_place last k ≡ None → last ≤ rank_of k
in_order last keyword.Format fine = cc
in_order last keyword.Mode fine = by_ranks last 1 fine
in_order last keyword.Cpus fine = by_ranks last 2 fine
in_order last keyword.Sockets fine = by_ranks last 3 fine
in_order last keyword.Threshold fine = by_ranks last 4 fine
in_order last keyword.Spins fine = by_ranks last 5 fine
in_order last keyword.Lock fine = by_ranks last 6 fine
in_order last keyword.Prog fine = by_ranks last 7 fine
in_order last keyword.Irq fine = by_ranks last 8 fine
in_order last keyword.Go fine = by_ranks last 9 fine
in_order last keyword.End fine = by_ranks last 11 fine
in_order last _ fine = by_ranks last 10 fine

no_acts-step : (r r' : Reading) → Steps r r' → (has_go r ≡ false → r.acts ≡ []) → has_go r' ≡ false → r'.acts ≡ []
no_acts-step r _ skips none early = none early
no_acts-step r _ (begins format first) none early = none (rw first refl)
no_acts-step r _ (sets last k s behind fine header changes) none early =
    let order = in_order last k fine in
    none (rw behind (grind (arith, nat_tests, early, order)))
no_acts-step r _ (schedules last k args Blank behind fine schedule says) none early = none early
no_acts-step r _ (schedules last k args (Run what times) behind fine schedule says) none early = cc
no_acts-step r _ (schedules last k args End behind fine schedule says) none early = cc

pub no_acts_before_go : (lines : List (List ℕ)) → has_go (reading_of lines) ≡ false → (reading_of lines).acts ≡ []
no_acts_before_go lines = kept (λ r. has_go r ≡ false → r.acts ≡ []) no_acts-step lines (λ early. refl)
