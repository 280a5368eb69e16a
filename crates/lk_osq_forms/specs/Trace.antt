-- What is written for what lines say, and so the whole grammar.
use Rattle.std.specs.Prelude.{ℕ, List, [], ◌++◌, length}
use Rattle.lk_forms.specs.Texts.{end_text}
use Rattle.lk_osq.specs.Run.{Act, Occurrence, at_rest, history_from}
use Rattle.lk_stream.specs.Grammar.{Grammar as GrammarOf}
use Rattle.lk_osq_forms.specs.Texts.{lines}
use Rattle.lk_osq_forms.specs.Grammar.{Said, Header, Schedule, nothing_said, read, ending}

-- what happens in these acts, made from rest, with the number of the act in which it happens
abbrev pub history_of_run : List ℕ → List Act → List Occurrence
history_of_run rounds acts = history_from 1 (at_rest rounds) acts

-- the lines of its events
abbrev pub lines_of_run : List ℕ → List Act → List ℕ
lines_of_run rounds acts = lines (history_of_run rounds acts)

-- all that is written for it: the lines of its events, and how many acts there were
abbrev pub transcript : List ℕ → List Act → List ℕ
transcript rounds acts = lines_of_run rounds acts ++ end_text (length acts)

abbrev pub text_of : Said → List ℕ
text_of (Header rank rounds) = []
text_of (Schedule rounds acts ended) = lines_of_run rounds acts

abbrev pub closing_of : Said → List ℕ
closing_of (Header rank rounds) = []
closing_of (Schedule rounds acts ended) = end_text (length acts)

-- the grammar of the word `osq`
abbrev pub osq_grammar : GrammarOf Said
osq_grammar =
    record {
      start = nothing_said;
      read = read;
      ending = ending;
      text = text_of;
      closing =
          closing_of;
    }
