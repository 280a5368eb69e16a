-- What a reader of headers has read.
use Rattle.std.specs.Prelude.{◌≡◌, [], false, Result, Ok, Err}
use Rattle.lk_forms.specs.declared.answers.HeaderStep.{HeaderStep}
use Rattle.lk_forms.specs.declared.answers.HeaderStep.TheVariants.{More, Go}
use Rattle.lk_forms.specs.declared.answers.LineRefusal.{LineRefusal}
use Rattle.lk_osq_forms.specs.Grammar.{Said, Header, Schedule}
use Rattle.lk_osq_forms.specs.declared.header.OsqHeader.{OsqHeader}

-- what the lines so far have said
abbrev pub said_by : OsqHeader → Said
said_by header = Header header.rank header.rounds.items

-- what is said once a line was accepted
abbrev pub said_at : OsqHeader → HeaderStep → Said
said_at header More = said_by header
said_at header Go = Schedule header.rounds.items [] false

-- What a reader answers at a line, and what it has read then, where this is said with that line.
abbrev pub ReadsOn : Result Said LineRefusal → OsqHeader → OsqHeader → Result HeaderStep LineRefusal
    → Type 0
ReadsOn said old new (Ok step) = said ≡ Ok (said_at new step)
ReadsOn said old new (Err why) = (new ≡ old) × (said ≡ Err why)
