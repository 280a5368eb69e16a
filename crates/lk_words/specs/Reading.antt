-- What the words behind the program's name ask for.
use Rattle.std.specs.Prelude.{ℕ, ◌==◌, ◌&&◌, nat_le, Bool, false, List, [], ◌∷◌, Option, None, Some, option_map, option_and_then, codes, if◌then◌else◌}
use Rattle.std.specs.Str.{bytes_eq}
use Rattle.lk_text.specs.Numbers.{number_of}
use Rattle.lk_words.specs.declared.asked.Reading.{Reading}
use Rattle.lk_words.specs.declared.asked.Reading.TheVariants.{Replay, Osq, Audit, Ledger, Gen, Load}

-- a word that begins with a hyphen
abbrev pub is_flag : List ℕ → Bool
is_flag [] = false
is_flag (b ∷ word) = b == 45

-- a start number is 1 to 2^31 - 2, the draws' modulus less one
abbrev pub as_start : ℕ → Option ℕ
as_start n = if nat_le 1 n && nat_le n 2147483646 then Some n else None

-- the start number that a word writes
abbrev pub start_of : List ℕ → Option ℕ
start_of word = option_and_then as_start (number_of word)

-- the commands with no word behind them
abbrev pub alone : List ℕ → Option Reading
alone word =
    if bytes_eq word (codes "replay") then Some Replay
    else if bytes_eq word (codes "osq") then Some Osq
    else if bytes_eq word (codes "audit") then Some Audit
    else if bytes_eq word (codes "ledger") then Some Ledger
    else None

-- the commands with a number behind them
abbrev pub with_start : List ℕ → Option ℕ → Option Reading
with_start word start =
    if bytes_eq word (codes "gen") then option_map (λ n. Gen n) start
    else if bytes_eq word (codes "load") then option_map (λ n. Load n) start
    else None

-- `replay`, `osq`, `audit`, `ledger`, `gen n` and `load n`: other words ask for nothing
abbrev pub reading_of : List (List ℕ) → Option Reading
reading_of (word ∷ []) = alone word
reading_of (word ∷ number ∷ []) = with_start word (start_of number)
reading_of _ = None
