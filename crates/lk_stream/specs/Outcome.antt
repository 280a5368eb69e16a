-- What each answer to a text means, by what is seen of source and sink before it and after it.
use Rattle.std.specs.Prelude.{◌≡◌, ℕ, List, None, ◌++◌}
use Rattle.std.specs.Io.KnownBytes.{Appends, Consumes, IsAtEnd, Keeps}
use Rattle.lk_text.specs.Causes.{Rose}
use Rattle.lk_text.specs.Bytes.{AppendsFront}
use Rattle.lk_forms.specs.declared.answers.LineRefusal.{LineRefusal}
use Rattle.lk_forms.specs.declared.answers.LineRefusal.TheVariants.{Bad, Limit, Memory}
use Rattle.lk_stream.specs.Outside.{Outside}
use Rattle.lk_forms.specs.Trace.{whole_lines}
use Rattle.lk_stream.specs.Grammar.{Grammar, Saying, Good, Refused, Says, text_of, place_after}
use Rattle.lk_stream.specs.declared.answers.ReplayFault.{ReplayFault}
use Rattle.lk_stream.specs.declared.answers.ReplayFault.TheVariants as fault

-- the text is good and says this, it was read to its end, and its whole text was written
pub record Done {S : Type 0} (g : Grammar S) (old new : Outside) (said : S) : Type 0 where
  pub ends : g.ending said ≡ None
  pub good : Says g old.left (Good said)
  pub all_read : IsAtEnd new.left
  pub written : Appends old.held new.held (g.text said ++ g.closing said)

-- the text is refused at this line, and what the lines before it write was written
pub record RefusedAt {S : Type 0} (g : Grammar S) (old new : Outside) (line : ℕ)
    (why : LineRefusal) : Type 0 where
  pub said : S
  pub refused : Says g old.left (Refused line why said)
  pub written : Appends old.held new.held (g.text said)

-- a read failed, and what the whole lines write that were taken was written
pub record CutByRead {S : Type 0} (g : Grammar S) (old new : Outside) : Type 0 where
  pub rose : Rose old.reads new.reads
  pub taken : List ℕ
  pub consumed : Consumes old.left new.left taken
  pub written : Appends old.held new.held (g.text (place_after g (whole_lines taken)).said)

-- a write failed, and a front of what is written for the text was written
pub record CutByWrite {S : Type 0} (g : Grammar S) (old new : Outside) : Type 0 where
  pub rose : Rose old.writes new.writes
  pub saying : Saying S
  pub says : Says g old.left saying
  pub written : AppendsFront old.held new.held (text_of g saying)

-- the meaning of each fault
abbrev pub FaultMeans : {S : Type 0} → Grammar S → Outside → Outside → ReplayFault → Type 0
FaultMeans g old new (fault.BadInput line why) = RefusedAt g old new line (Bad why)
FaultMeans g old new (fault.Limit line which) = RefusedAt g old new line (Limit which)
FaultMeans g old new fault.ReadFault = CutByRead g old new
FaultMeans g old new fault.WriteFault = CutByWrite g old new
FaultMeans g old new fault.Memory = Keeps old.held new.held

-- the answer where a line is refused
abbrev pub refused_fault : ℕ → LineRefusal → ReplayFault
refused_fault line (Bad why) = fault.BadInput line why
refused_fault line (Limit which) = fault.Limit line which
refused_fault line Memory = fault.Memory
