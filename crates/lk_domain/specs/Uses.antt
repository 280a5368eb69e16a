-- Which rows use the word of a spinlock or a wait lock in which way, by a call that goes on, in each lock
-- family.
use Rattle.std.specs.Prelude.{◌≡◌, Bool, true, false}
use Rattle.lk_names.specs.declared.names.LockName.{LockName}
use Rattle.lk_word.specs.declared.spin_word.NodeName.{NodeName}
use Rattle.lk_rows.specs.declared.parts.Pc.{Pc}
use Rattle.lk_rows.specs.declared.parts.Pc.TheVariants.{P1, P2, P4, G9, H1, E3, E5, E7, E8, E11, K2, U4}
use Rattle.lk_rows.specs.declared.setup.Verb.{Verb}
use Rattle.lk_domain.specs.Calls.{StandsOn}
use Rattle.lk_domain.specs.Plays.{ActsAs}
use Rattle.lk_domain.specs.Rows.{is_watch, is_swap, is_free, soles_by}
use Rattle.lk_domain.specs.declared.locks.moves.WordUse.{WordUse}
use Rattle.lk_domain.specs.declared.locks.moves.WordUse.TheVariants.{Looks, Takes, Frees, Pends, Clears, Claims, Stakes}
use Rattle.lk_domain.specs.declared.locks.moves.WordUse.TheVariants.{Slows, Wins, Signs, Drops}
use Rattle.lk_domain.specs.declared.view.View.{View}

abbrev pub uses : WordUse → Pc → Bool
uses Looks H1 = true
uses Looks E11 = true
uses Looks c = is_watch c
uses Takes c = is_swap c
uses Frees c = is_free c
uses Pends P1 = true
uses Pends E3 = true
uses Pends _ = false
uses Clears P2 = true
uses Clears E5 = true
uses Clears _ = false
uses Claims P4 = true
uses Claims _ = false
uses Stakes G9 = true
uses Stakes _ = false
uses Slows E7 = true
uses Slows _ = false
uses Wins E8 = true
uses Wins _ = false
uses Signs K2 = true
uses Signs _ = false
uses Drops U4 = true
uses Drops _ = false

-- it makes the lock free
abbrev pub frees : WordUse → Bool
frees Frees = true
frees Drops = true
frees _ = false

-- the newest call stands at a row of this kind, of this operation on the lock
pub record AtWord (kind : Pc → Bool) (verb : Verb) (lock : LockName) (v : View) : Type 0 where
  pub row : Pc
  pub is : kind row ≡ true
  pub stands : StandsOn v.calls verb lock row

-- which uses the word of the lock so
abbrev pub UsesWord : WordUse → LockName → Verb → View → Type 0
UsesWord how lock verb v = AtWord (uses how) verb lock v

-- it is alone in the queue of the lock, as far as it knows, and this is its own node
abbrev pub Soles : LockName → NodeName → Verb → View → Type 0
Soles lock own verb v = ActsAs (soles_by verb) v verb lock own
