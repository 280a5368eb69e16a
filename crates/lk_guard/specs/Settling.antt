-- The balance words as a processor knows them that has the journal out.
use Rattle.std.specs.Prelude.{◌≡◌, ◌<◌, ℕ, List, [], length, Option, Some, None}
use Rattle.std.specs.List.{sum}
use Rattle.lk_names.specs.Jobs.{full}
use Rattle.lk_domain.specs.Ledgers.{Ledger, Out}

-- the words
abbrev pub words_in : Option Out → List ℕ
words_in None = []
words_in (Some out) = out.words

abbrev pub words_of : Ledger → List ℕ
words_of g = words_in g.out

-- the same with other words
abbrev pub out_with : Option Out → List ℕ → Option Out
out_with None words = None
out_with (Some out) words = Some (record out { words = words })

abbrev pub with_words : Ledger → List ℕ → Ledger
with_words g words = record g { out = out_with g.out words }

-- the journal is out, no look is open, and the words are so many balances below the limit
pub record Stands (accounts : ℕ) (g : Ledger) : Type 0 where
  pub out : Out
  pub has : g.out ≡ Some out
  pub shut : g.look ≡ None
  pub long : length (words_of g) ≡ accounts
  pub small : sum (words_of g) < full
