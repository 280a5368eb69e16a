-- Which rows look at a flag or at a link of a node, and which hand off, in each lock family.
use Rattle.std.specs.Prelude.{◌≡◌, ◌⊎◌, Bool, true, false, Some}
use Rattle.lk_names.specs.declared.names.LockName.{LockName}
use Rattle.lk_word.specs.declared.spin_word.NodeName.{NodeName}
use Rattle.lk_rows.specs.declared.parts.Flag.{Flag}
use Rattle.lk_rows.specs.declared.parts.Flag.TheVariants.{Go}
use Rattle.lk_rows.specs.declared.parts.Pc.{Pc}
use Rattle.lk_rows.specs.declared.parts.Pc.TheVariants.{G6, W1, W4, E14, E15}
use Rattle.lk_rows.specs.declared.setup.Verb.{Verb}
use Rattle.lk_law.specs.Agree.{halts}
use Rattle.lk_domain.specs.Calls.{StandsOn}
use Rattle.lk_domain.specs.NodePlays.{AtLink, AtNext, AtOwn}
use Rattle.lk_domain.specs.declared.plan.Plan.{Plan}
use Rattle.lk_domain.specs.declared.view.View.{View}

-- a waiter that may halt looks at its flag
abbrev pub looks_flag : Pc → Bool
looks_flag W1 = true
looks_flag W4 = true
looks_flag _ = false

-- and this is its own node
pub record AtFlag (own : NodeName) (verb : Verb) (v : View) : Type 0 where
  pub lock : LockName
  pub row : Pc
  pub is : looks_flag row ≡ true
  pub stands : StandsOn v.calls verb lock row
  pub me : stands.frame.me ≡ Some own

-- it has the lock, and looks for the one behind it in its own node
pub record AtBehind (own : NodeName) (verb : Verb) (v : View) : Type 0 where
  pub lock : LockName
  pub stands : StandsOn v.calls verb lock E14
  pub me : stands.frame.me ≡ Some own

-- it hands off to the waiter of this node
pub record AtHand (to : NodeName) (verb : Verb) (v : View) : Type 0 where
  pub lock : LockName
  pub stands : StandsOn v.calls verb lock E15
  pub y : stands.frame.y ≡ Some to

-- the call looks at the flag of its own node: one that may halt only where processors halt
abbrev pub LooksFlag : Plan → NodeName → Verb → View → Type 0
LooksFlag k own verb v = AtOwn G6 own verb v ⊎ ((halts k.mode ≡ true) × AtFlag own verb v)

-- it looks at the link of its own node
abbrev pub LooksBehind : NodeName → Verb → View → Type 0
LooksBehind own verb v = AtLink own verb v ⊎ AtBehind own verb v

-- it hands off, by this flag
abbrev pub HandsTo : NodeName → Flag → Verb → View → Type 0
HandsTo to flag verb v = AtNext to flag verb v ⊎ ((flag ≡ Go) × AtHand to verb v)
