-- The command line as clap is told it.
use Rattle.std.specs.Prelude.{ℕ, true, List, [], Option, None, Some, option_map, option_and_then, codes, if◌then◌else◌}
use Rattle.std.specs.Str.{bytes_eq}
use Rattle.clap.specs.Words.{App, Row, Rule, Shape, Text, first_of, new_app, new_rule, with_rule, with_subcommand}
use Rattle.clap.specs.declared.builder.action.ArgAction.TheVariants.{Set}
use Rattle.lk_words.specs.Reading.{start_of}
use Rattle.lk_words.specs.declared.asked.Reading.{Reading}
use Rattle.lk_words.specs.declared.asked.Reading.TheVariants.{Replay, Osq, Audit, Ledger, Gen, Load}

-- the number behind a command, which is read as the numbers of a trace are, and not by clap
abbrev pub number_rule : Rule
number_rule = record (new_rule (codes "n")) { required = true; action = Some Set }

-- a command with no word behind it
abbrev pub plain : Text → Shape
plain name = (new_app name).top

-- a command with a number behind it
abbrev pub numbered : Text → Shape
numbered name = (with_rule (new_app name) number_rule).top

-- no command: the words are those behind the program's name, and nothing is added that asks for help
abbrev pub bare : App
bare = record { top = record (new_app (codes "qlock")).top { no_binary_name = true; disable_help_flag = true; disable_help_subcommand = true; subcommand_required = true }; subs = [] }

-- the commands with no word behind them
abbrev pub with_plain : App
with_plain =
    with_subcommand
    (with_subcommand (with_subcommand (with_subcommand bare (plain (codes "replay"))) (plain (codes "osq")))
    (plain (codes "audit")))
    (plain (codes "ledger"))

-- and those with a number
abbrev pub qlock : App
qlock = with_subcommand (with_subcommand with_plain (numbered (codes "gen"))) (numbered (codes "load"))

-- the start number among the matches of a command
abbrev pub start_in : List Row → Option ℕ
start_in rows = option_and_then start_of (first_of (codes "n") rows)

-- what a command and its matches say
abbrev pub said_by : Text × List Row → Option Reading
said_by p =
    if bytes_eq p.0 (codes "replay") then Some Replay
    else if bytes_eq p.0 (codes "osq") then Some Osq
    else if bytes_eq p.0 (codes "audit") then Some Audit
    else if bytes_eq p.0 (codes "ledger") then Some Ledger
    else if bytes_eq p.0 (codes "gen") then option_map (λ n. Gen n) (start_in p.1)
    else if bytes_eq p.0 (codes "load") then option_map (λ n. Load n) (start_in p.1)
    else None

-- what the matches say
abbrev pub said_of : Option (Text × List Row) → Option Reading
said_of met = option_and_then said_by met
