-- What clap makes of words of which none begins with a hyphen.
use Rattle.std.proofs.Common.{◌≡◌, ℕ, Bool, true, false, List, [], ◌∷◌, Option, None, Some, codes, refl, ap, ap₂, sym, ◌∙◌, ◌||◌, ◌⊎◌, inl, inr, arith, subst, option_map, if◌then◌else◌}
use Rattle.std.specs.Prelude.{⊤, is_some, fold}
use Rattle.std.specs.Str.{bytes_eq}
use Rattle.std.specs.List.{list_any}
use Rattle.std.proofs.lemmas.Slice.Eq.{bytes_eq-Decides}
use Rattle.clap.specs.Words.{App, Shape, Text, fault_of, subcommand_of, is_simple, is_simple_and_free, built, first_of}
use Rattle.clap.specs.Kinds.{Kinds, or_else}
use Rattle.clap.specs.Faults.{level_fault, entered_fault, settle_fault, defaults_fault, check_fault, walk_fault, turn_fault}
use Rattle.clap.specs.Walk.{Walk, Names, nothing_held, walk, walk_from, walked, settled, finished, rows_after}
use Rattle.clap.specs.Simple.{entered, names_of, filled, with_index}
use Rattle.clap.proofs.OnLiterals.{clap_on_literals}
use Rattle.clap.proofs.WalkLemmas.{walk_stopped}
use Rattle.clap.proofs.FaultLemmas.{stopped_fault}
use Rattle.std.specs.Option.{option_and_then}
use Rattle.std.proofs.lemmas.Bool.{eqb-true}
use Rattle.clap.specs.Kinds.{IsAmong}
use Rattle.clap.specs.declared.error.kind.ErrorKind.{ErrorKind}
use Rattle.clap.specs.declared.error.kind.ErrorKind.TheVariants.{OutOfMemory}
use Rattle.lk_text.proofs.NumberLemmas.{number_of-other}
use Rattle.lk_words.specs.declared.asked.Reading.{Reading}
use Rattle.lk_words.specs.declared.asked.Reading.TheVariants.{Gen, Load}
use Rattle.lk_words.specs.Reading.{reading_of, is_flag, as_start, start_of, with_start}
use Rattle.lk_words.specs.Command.{qlock, said_of, plain, number_rule}

pub simple : is_simple qlock ≡ true
unfolding clap_on_literals
simple = refl

pub free : is_simple_and_free qlock ≡ true
unfolding clap_on_literals
free = refl

-- some kind of error
abbrev pub IsFilled : Kinds → Type 0
IsFilled [] = ⊥
IsFilled (k ∷ ks) = ⊤

-- The words are read as clap reads them, or both refuse them.
pub data IsExact (words : List Text) : Type 0 where
  taken : fault_of qlock words ≡ [] → said_of (subcommand_of qlock words) ≡ reading_of words → IsExact words
  refused : IsFilled (fault_of qlock words) → reading_of words ≡ None → IsExact words

-- the built command

abbrev whole : App
whole = built qlock

abbrev names : Names
names = names_of whole

abbrev start : Walk
start = walk_from nothing_held

abbrev at_command : Text → List Text → Walk
at_command name rest = record start { stopped = Some (name, rest) }

abbrev plain_built : Text → Shape
plain_built name = record (plain name) { no_binary_name = true; disable_help_flag = true; disable_help_subcommand = true; is_built = true }

abbrev numbered_built : Text → Shape
numbered_built name = record (plain_built name) { rules = with_index 1 (filled number_rule) ∷ [] }

-- what a command makes of the words behind it
abbrev below : Shape → List Text → Kinds
below s rest = level_fault s [] nothing_held rest false []

-- the level above, by where its walk ends
abbrev fault_by : Kinds → Walk → Kinds
fault_by turned w =
    or_else turned
    (or_else (entered_fault whole w.stopped)
    (or_else (settle_fault whole.top.rules whole.top.args_override_self w.held)
    (or_else (defaults_fault (settled whole.top.rules w.held).rows whole.top.rules)
    (check_fault whole.top (finished whole.top.rules w.held) (is_some (entered whole w.stopped))))))

-- the words go to the command
record GoesInto (name : Text) (s : Shape) : Type 0 where
  fault : (rest : List Text) → fault_of qlock (name ∷ rest) ≡ or_else (below s rest) []
  found : (rest : List Text) → subcommand_of qlock (name ∷ rest) ≡ Some (name, rows_after s.rules [] rest)

enters : (name : Text) (s : Shape) → walked whole.top.rules names start name ≡ at_command name [] → turn_fault whole.top names start name ≡ []
    → ((rest : List Text) → fault_by [] (at_command name rest) ≡ or_else (below s rest) [])
    → ((rest : List Text) → entered whole (Some (name, rest)) ≡ Some (name, rows_after s.rules [] rest)) → GoesInto name s
unfolding walk_fault
enters name s first quiet below_is found_is = record { fault = fault; found = found }
  where
    walk_is : (rest : List Text) → walk whole.top.rules names nothing_held (name ∷ rest) ≡ at_command name rest
    walk_is rest = ap (λ w. fold (walked whole.top.rules names) w rest) first ∙ sym (walk_stopped whole.top.rules names start name [] rest)

    turned : (rest : List Text) → walk_fault whole.top names start (name ∷ rest) ≡ []
    turned rest =
        ap₂ (λ k w. or_else k (walk_fault whole.top names w rest)) quiet first ∙ stopped_fault whole.top names start (name, []) rest

    fault : (rest : List Text) → fault_of qlock (name ∷ rest) ≡ or_else (below s rest) []
    fault rest = ap₂ fault_by (turned rest) (walk_is rest) ∙ below_is rest

    found : (rest : List Text) → subcommand_of qlock (name ∷ rest) ≡ Some (name, rows_after s.rules [] rest)
    found rest = ap (λ w. entered whole w.stopped) (walk_is rest) ∙ found_is rest

replay_enters : GoesInto (codes "replay") (plain_built (codes "replay"))
unfolding clap_on_literals
replay_enters = enters (codes "replay") (plain_built (codes "replay")) refl refl (λ rest. refl) (λ rest. refl)

osq_enters : GoesInto (codes "osq") (plain_built (codes "osq"))
unfolding clap_on_literals
osq_enters = enters (codes "osq") (plain_built (codes "osq")) refl refl (λ rest. refl) (λ rest. refl)

audit_enters : GoesInto (codes "audit") (plain_built (codes "audit"))
unfolding clap_on_literals
audit_enters = enters (codes "audit") (plain_built (codes "audit")) refl refl (λ rest. refl) (λ rest. refl)

ledger_enters : GoesInto (codes "ledger") (plain_built (codes "ledger"))
unfolding clap_on_literals
ledger_enters = enters (codes "ledger") (plain_built (codes "ledger")) refl refl (λ rest. refl) (λ rest. refl)

gen_enters : GoesInto (codes "gen") (numbered_built (codes "gen"))
unfolding clap_on_literals
gen_enters = enters (codes "gen") (numbered_built (codes "gen")) refl refl (λ rest. refl) (λ rest. refl)

load_enters : GoesInto (codes "load") (numbered_built (codes "load"))
unfolding clap_on_literals
load_enters = enters (codes "load") (numbered_built (codes "load")) refl refl (λ rest. refl) (λ rest. refl)

-- behind a command

plain_alone : (name : Text) → or_else (below (plain_built name) []) [] ≡ []
unfolding clap_on_literals
plain_alone name = refl

plain_more : (name v : Text) (vs : List Text) → is_flag v ≡ false → IsFilled (or_else (below (plain_built name) (v ∷ vs)) [])
unfolding clap_on_literals
plain_more name [] vs other = tt
plain_more name (b ∷ v) vs other = simp other tt

number_missing : (name : Text) → IsFilled (or_else (below (numbered_built name) []) [])
unfolding clap_on_literals
number_missing name = tt

number_alone : (name v : Text) → is_flag v ≡ false → or_else (below (numbered_built name) (v ∷ [])) [] ≡ []
unfolding clap_on_literals
number_alone name [] other = refl
number_alone name (b ∷ v) other = rw other (rw other refl)

number_found : (name v : Text) → is_flag v ≡ false → first_of (codes "n") (rows_after (numbered_built name).rules [] (v ∷ [])) ≡ Some v
unfolding clap_on_literals
number_found name [] other = refl
number_found name (b ∷ v) other = simp other refl

number_more : (name v u : Text) (vs : List Text) → is_flag v ≡ false → is_flag u ≡ false → IsFilled (or_else (below (numbered_built name) (v ∷ u ∷ vs)) [])
unfolding clap_on_literals
number_more name [] [] vs other more = tt
number_more name [] (c ∷ u) vs other more = rw more (rw more tt)
number_more name (b ∷ v) [] vs other more = simp other tt
number_more name (b ∷ v) (c ∷ u) vs other more = simp (other, more) tt

-- another word is no command

stray : (w : Text) (rest : List Text) → is_flag w ≡ false → bytes_eq (codes "replay") w ≡ false → bytes_eq (codes "osq") w ≡ false
    → bytes_eq (codes "audit") w ≡ false → bytes_eq (codes "ledger") w ≡ false → bytes_eq (codes "gen") w ≡ false → bytes_eq (codes "load") w ≡ false
    → IsFilled (fault_of qlock (w ∷ rest))
unfolding clap_on_literals
stray [] rest other r o a l g d = tt
stray (b ∷ w) rest other r o a l g d = simp (other, r, o, a, l, g, d) tt

-- the same test the other way round
turned_round : (name w : Text) → bytes_eq name w ≡ false → bytes_eq w name ≡ false
turned_round name w differ = by_test (bytes_eq w name) refl
  where
    by_test : (t : Bool) → bytes_eq w name ≡ t → bytes_eq w name ≡ false
    by_test true same = let is : w ≡ name = (bytes_eq-Decides w name).0 same in let back = (bytes_eq-Decides name w).1 (sym is) in cc
    by_test false same = same

reads_none : (w : Text) (rest : List Text) → bytes_eq w (codes "replay") ≡ false → bytes_eq w (codes "osq") ≡ false
    → bytes_eq w (codes "audit") ≡ false → bytes_eq w (codes "ledger") ≡ false → bytes_eq w (codes "gen") ≡ false → bytes_eq w (codes "load") ≡ false
    → reading_of (w ∷ rest) ≡ None
reads_none w [] r o a l g d = rw (r, o, a, l) refl
reads_none w (v ∷ []) r o a l g d = rw (g, d) refl
reads_none w (v ∷ u ∷ rest) r o a l g d = refl

or_false : (a b : Bool) → (a || b) ≡ false → (a ≡ false) × (b ≡ false)
or_false true b is = cc
or_false false b is = (refl, is)

by_fault : (words : List Text) (k : Kinds) → fault_of qlock words ≡ k → IsFilled k → reading_of words ≡ None → IsExact words
by_fault words k is some unread = refused (rw is some) unread

-- two words and more are none of the commands that stand alone
plain_unread : (name v : Text) (us : List Text) → ((t : Option ℕ) → with_start name t ≡ None) → reading_of (name ∷ v ∷ us) ≡ None
plain_unread name v [] no_number = no_number (start_of v)
plain_unread name v (u ∷ us) no_number = refl

plain_exact : (name : Text) (rest : List Text) → list_any is_flag rest ≡ false → GoesInto name (plain_built name)
    → said_of (Some (name, [])) ≡ reading_of (name ∷ []) → ((t : Option ℕ) → with_start name t ≡ None) → IsExact (name ∷ rest)
plain_exact name [] plain_words enters_it said no_number = taken (enters_it.fault [] ∙ plain_alone name) (ap said_of (enters_it.found []) ∙ said)
plain_exact name (v ∷ vs) plain_words enters_it said no_number =
    by_fault _ _ (enters_it.fault (v ∷ vs)) (plain_more name v vs (or_false _ _ plain_words).0) (plain_unread name v vs no_number)

replay_exact : (rest : List Text) → list_any is_flag rest ≡ false → IsExact (codes "replay" ∷ rest)
replay_exact rest plain_words = plain_exact (codes "replay") rest plain_words replay_enters refl (λ t. refl)

osq_exact : (rest : List Text) → list_any is_flag rest ≡ false → IsExact (codes "osq" ∷ rest)
osq_exact rest plain_words = plain_exact (codes "osq") rest plain_words osq_enters refl (λ t. refl)

audit_exact : (rest : List Text) → list_any is_flag rest ≡ false → IsExact (codes "audit" ∷ rest)
audit_exact rest plain_words = plain_exact (codes "audit") rest plain_words audit_enters refl (λ t. refl)

ledger_exact : (rest : List Text) → list_any is_flag rest ≡ false → IsExact (codes "ledger" ∷ rest)
ledger_exact rest plain_words = plain_exact (codes "ledger") rest plain_words ledger_enters refl (λ t. refl)

gen_exact : (rest : List Text) → list_any is_flag rest ≡ false → IsExact (codes "gen" ∷ rest)
gen_exact [] plain_words = by_fault _ _ (gen_enters.fault []) (number_missing (codes "gen")) refl
gen_exact (v ∷ []) plain_words =
    let other = (or_false (is_flag v) false plain_words).0 in
    taken (gen_enters.fault (v ∷ []) ∙ number_alone (codes "gen") v other) (ap said_of (gen_enters.found (v ∷ [])) ∙ ap read_number (number_found (codes "gen") v other))
  where
    read_number : Option Text → Option Reading
    read_number t = option_map (λ n. Gen n) (option_and_then start_of t)
gen_exact (v ∷ u ∷ us) plain_words =
    let both = or_false (is_flag v) (list_any is_flag (u ∷ us)) plain_words in
    by_fault _ _ (gen_enters.fault (v ∷ u ∷ us)) (number_more (codes "gen") v u us both.0 (or_false (is_flag u) (list_any is_flag us) both.1).0) refl

load_exact : (rest : List Text) → list_any is_flag rest ≡ false → IsExact (codes "load" ∷ rest)
load_exact [] plain_words = by_fault _ _ (load_enters.fault []) (number_missing (codes "load")) refl
load_exact (v ∷ []) plain_words =
    let other = (or_false (is_flag v) false plain_words).0 in
    taken (load_enters.fault (v ∷ []) ∙ number_alone (codes "load") v other) (ap said_of (load_enters.found (v ∷ [])) ∙ ap read_number (number_found (codes "load") v other))
  where
    read_number : Option Text → Option Reading
    read_number t = option_map (λ n. Load n) (option_and_then start_of t)
load_exact (v ∷ u ∷ us) plain_words =
    let both = or_false (is_flag v) (list_any is_flag (u ∷ us)) plain_words in
    by_fault _ _ (load_enters.fault (v ∷ u ∷ us)) (number_more (codes "load") v u us both.0 (or_false (is_flag u) (list_any is_flag us) both.1).0) refl

-- the word is this name, or it is not
by_name : (name w : Text) (P : Text → Type 0) → P name → (bytes_eq name w ≡ false → P w) → P w
by_name name w P here there = by_test (bytes_eq name w) refl
  where
    by_test : (t : Bool) → bytes_eq name w ≡ t → P w
    by_test true same = subst P ((bytes_eq-Decides name w).0 same) here
    by_test false same = there same

-- Clap takes words of which none begins with a hyphen exactly as they are read, and refuses those that are not.
pub exact : (words : List Text) → list_any is_flag words ≡ false → IsExact words
unfolding clap_on_literals
exact [] plain_words = refused tt refl
exact (w ∷ rest) plain_words =
    let P : Text → Type 0 = λ x. IsExact (x ∷ rest) in
    let both = or_false (is_flag w) (list_any is_flag rest) plain_words in
    by_name (codes "replay") w P (replay_exact rest both.1) (λ r.
    by_name (codes "osq") w P (osq_exact rest both.1) (λ o.
    by_name (codes "audit") w P (audit_exact rest both.1) (λ a.
    by_name (codes "ledger") w P (ledger_exact rest both.1) (λ l.
    by_name (codes "gen") w P (gen_exact rest both.1) (λ g.
    by_name (codes "load") w P (load_exact rest both.1) (λ d.
    refused (stray w rest both.0 r o a l g d)
    (reads_none w rest (turned_round _ w r) (turned_round _ w o) (turned_round _ w a) (turned_round _ w l) (turned_round _ w g) (turned_round _ w d))))))))

-- nor is a word read that begins with one

flag_none : (v : Text) → is_flag v ≡ true → start_of v ≡ None
flag_none [] flag = cc
flag_none (b ∷ v) flag = let is : b ≡ 45 = eqb-true b 45 flag in rw is (no_start v)
  where
    no_start : (x : Text) → start_of (45 ∷ x) ≡ None
    no_start x = ap (λ n. option_and_then as_start n) (number_of-other (45 ∷ x) 0 (omega arith) refl)

first_none : (w : Text) (rest : List Text) → is_flag w ≡ true → reading_of (w ∷ rest) ≡ None
first_none [] rest flag = cc
first_none (b ∷ w) rest flag = let is : b ≡ 45 = eqb-true b 45 flag in subst (λ x. reading_of ((x ∷ w) ∷ rest) ≡ None) (sym is) (none_of rest)
  where
    none_of : (us : List Text) → reading_of ((45 ∷ w) ∷ us) ≡ None
    none_of [] = refl
    none_of (u ∷ []) = refl
    none_of (u ∷ v ∷ us) = refl

no_start_none : (w : Text) → with_start w None ≡ None
no_start_none w = by_gen (bytes_eq w (codes "gen")) (bytes_eq w (codes "load"))
  where
    by_gen : (g d : Bool) → (if g then option_map (λ n. Gen n) None else if d then option_map (λ n. Load n) None else None) ≡ None
    by_gen true d = refl
    by_gen false true = refl
    by_gen false false = refl

pub flags_unread : (words : List Text) → list_any is_flag words ≡ true → reading_of words ≡ None
flags_unread [] flag = cc
flags_unread (w ∷ rest) flag = by_test (is_flag w) refl rest flag
  where
    by_test : (t : Bool) → is_flag w ≡ t → (us : List Text) → (t || list_any is_flag us) ≡ true → reading_of (w ∷ us) ≡ None
    by_test true is us any = first_none w us is
    by_test false is [] any = cc
    by_test false is (v ∷ []) any = ap (with_start w) (flag_none v (by_or (is_flag v) any)) ∙ no_start_none w
      where
        by_or : (b : Bool) → (b || false) ≡ true → b ≡ true
        by_or true h = refl
        by_or false h = h
    by_test false is (v ∷ u ∷ us) any = refl

-- what an answer of clap says of the words

pub ok_said : (words : List Text) → list_any is_flag words ≡ false → fault_of qlock words ≡ [] → said_of (subcommand_of qlock words) ≡ reading_of words
ok_said words plain_words none = by_case (exact words plain_words)
  where
    by_case : IsExact words → said_of (subcommand_of qlock words) ≡ reading_of words
    by_case (taken quiet said) = said
    by_case (refused some unread) = absurd (rw none at some)

pub err_said : (words : List Text) (k : ErrorKind) → list_any is_flag words ≡ false → (k ≡ OutOfMemory) ⊎ IsAmong k (fault_of qlock words) → (k ≡ OutOfMemory → ⊥) → None ≡ reading_of words
err_said words k plain_words kinds room = by_case (exact words plain_words) kinds
  where
    by_case : IsExact words → (k ≡ OutOfMemory) ⊎ IsAmong k (fault_of qlock words) → None ≡ reading_of words
    by_case _ (inl memory) = absurd (room memory)
    by_case (taken quiet said) (inr among) = absurd (rw quiet at among)
    by_case (refused some unread) (inr among) = sym unread
