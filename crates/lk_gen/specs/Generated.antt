-- The generated trace of a start number.
use Rattle.std.specs.Prelude.{ℕ, ◌+◌, ◌*◌, ◌%◌, ◌/◌, List, [], ◌∷◌, ◌++◌, codes, decimal, map, replicate, zero, suc}
use Rattle.lk_names.specs.declared.names.Format.TheVariants.{One}
use Rattle.lk_names.specs.declared.events.Act.{Act}
use Rattle.lk_names.specs.declared.events.Act.TheVariants as act
use Rattle.lk_names.specs.declared.names.Kind.TheVariants.{Spin}
use Rattle.lk_names.specs.declared.names.Mode.TheVariants.{Cna}
use Rattle.lk_rows.specs.declared.setup.Verb.TheVariants.{Lock, Unlock}
use Rattle.lk_rows.specs.declared.setup.Op.{Op}
use Rattle.lk_rows.specs.declared.setup.Setup.{Setup}
use Rattle.lk_forms.specs.Grammar.{with_program, no_programs, no_handlers, list_of}
use Rattle.lk_gen.specs.Spaced.{text_of}

-- the draw behind a draw
unfoldable pub next_draw : ℕ → ℕ
next_draw x = 48271 * x % 2147483647

-- the n-th draw behind a draw
unfoldable pub draw_after : ℕ → ℕ → ℕ
draw_after zero x = x
draw_after (suc n) x = draw_after n (next_draw x)

-- n pairs `lock l unlock l`, each l a draw behind x modulo 4
unfoldable pub pair_words : ℕ → ℕ → List (List ℕ)
pair_words zero x = []
pair_words (suc n) x =
    codes "lock" ∷ decimal (next_draw x % 4) ∷ codes "unlock" ∷ decimal (next_draw x % 4) ∷ pair_words n (next_draw x)

-- the line of processor p, with the draws behind x
abbrev pub program_line : ℕ → ℕ → List (List ℕ)
program_line p x = codes "prog" ∷ decimal p ∷ pair_words 16 x

-- the programs of n processors from p on
unfoldable pub program_lines : ℕ → ℕ → ℕ → List (List (List ℕ))
program_lines zero p x = []
program_lines (suc n) p x = program_line p x ∷ program_lines n (p + 1) (draw_after 16 x)

-- a line of the schedule: a burst of eight steps of processor p
abbrev pub step_words : ℕ → List (List ℕ)
step_words p = codes "step" ∷ decimal p ∷ codes "8" ∷ []

-- n lines of the schedule
unfoldable pub step_lines : ℕ → ℕ → List (List (List ℕ))
step_lines zero x = []
step_lines (suc n) x = step_words (next_draw x % 32) ∷ step_lines n (next_draw x)

-- their acts
unfoldable pub step_acts : ℕ → ℕ → List Act
step_acts zero x = []
step_acts (suc n) x = replicate 8 (act.Step (next_draw x % 32)) ++ step_acts n (next_draw x)

-- n pairs of operations
unfoldable pub pair_ops : ℕ → ℕ → List Op
pair_ops zero x = []
pair_ops (suc n) x =
    record { verb = Lock; lock = next_draw x % 4 } ∷ record { verb = Unlock; lock = next_draw x % 4 } ∷ pair_ops n (next_draw x)

-- the setup with programs of n processors from p on
unfoldable pub with_programs : ℕ → ℕ → ℕ → Setup → Setup
with_programs zero p x s = s
with_programs (suc n) p x s =
    with_programs n (p + 1) (draw_after 16 x) (with_program s p (pair_ops 16 x))

-- the numbers from n on, so many
abbrev pub numbers : ℕ → ℕ → List ℕ
numbers zero n = []
numbers (suc k) n = n ∷ numbers k (suc n)

-- the lines before the programs: 32 processors on four sockets, a threshold, and four spinlocks
abbrev pub head_lines : List (List (List ℕ))
head_lines =
    (codes "qtrace" ∷ codes "1" ∷ [])
    ∷ (codes "mode" ∷ codes "cna" ∷ [])
    ∷ (codes "cpus" ∷ codes "32" ∷ [])
    ∷ (codes "sockets" ∷ map (λ p. decimal (p / 8)) (numbers 32 0))
    ∷ (codes "threshold" ∷ codes "16" ∷ [])
    ∷ (codes "lock" ∷ codes "0" ∷ codes "spin" ∷ [])
    ∷ (codes "lock" ∷ codes "1" ∷ codes "spin" ∷ [])
    ∷ (codes "lock" ∷ codes "2" ∷ codes "spin" ∷ [])
    ∷ (codes "lock" ∷ codes "3" ∷ codes "spin" ∷ [])
    ∷ []

-- the schedule, with the draws behind x
abbrev pub schedule_lines : ℕ → List (List (List ℕ))
schedule_lines x = step_lines 25000 x ++ (codes "end" ∷ []) ∷ []

-- all lines: the programs take 512 draws, and the schedule those behind them
abbrev pub generated_lines : ℕ → List (List (List ℕ))
generated_lines start =
    head_lines ++ (program_lines 32 0 start ++ ((codes "go" ∷ []) ∷ schedule_lines (draw_after 512 start)))

-- the text
abbrev pub generated : ℕ → List ℕ
generated start = text_of (generated_lines start)

-- its acts
abbrev pub generated_acts : ℕ → List Act
generated_acts start = step_acts 25000 (draw_after 512 start)

-- the setup before the programs
abbrev pub head_setup : Setup
head_setup =
    record {
      format = One;
      mode = Cna;
      topology = record { sockets = list_of 32 (map (λ p. p / 8) (numbers 32 0)) };
      threshold = 16;
      spins = 32768;
      locks = list_of 32 (Spin ∷ Spin ∷ Spin ∷ Spin ∷ []);
      progs = no_programs 32;
      irqs = no_handlers 32;
    }

-- its setup
abbrev pub generated_setup : ℕ → Setup
generated_setup start = with_programs 32 0 start head_setup
