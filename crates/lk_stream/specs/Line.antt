-- What one line comes to. `held` and `held_now` are what the sink held before it and holds after
-- it; `waited` and `waits` is what was waiting for the sink before it and is after it.
use Rattle.std.specs.Prelude.{◌≡◌, ℕ, List, [], ◌++◌, Option, Result, Ok, Err, IfErr, ⊤}
use Rattle.lk_text.specs.Causes.{Rose}
use Rattle.lk_text.specs.Bytes.{AppendsFront, Conveys}
use Rattle.lk_text.specs.Reader.{GaveLine}
use Rattle.lk_text.specs.declared.reader.LineReader.{LineReader}
use Rattle.lk_forms.specs.declared.answers.LineRefusal.{LineRefusal}
use Rattle.lk_forms.specs.declared.answers.LineRefusal.TheVariants.{Bad, Limit, Memory}
use Rattle.lk_stream.specs.Grammar.{Grammar}
use Rattle.lk_stream.specs.Outside.{Outside}
use Rattle.lk_stream.specs.declared.answers.Stop.{Stop}
use Rattle.lk_stream.specs.declared.answers.Stop.TheVariants.{Refused, WriteFault}

-- the line is accepted behind what was said, and what is written for it was written, or waits
pub record GoesOn {S : Type 0} (g : Grammar S) (shows : S → Type 0) (before : S) (line : List ℕ)
    (held held_now : Option (List ℕ)) (waited waits : List ℕ) : Type 0 where
  pub said : S
  pub reads : g.read before line ≡ Ok said
  pub shown : shows said
  pub more : List ℕ
  pub text : g.text said ≡ g.text before ++ more
  pub written : Conveys held held_now waited more waits

-- the line is accepted, and a write failed while what is written for it was written
pub record Fails {S : Type 0} (g : Grammar S) (before : S) (line : List ℕ)
    (held held_now : Option (List ℕ)) (waited : List ℕ) : Type 0 where
  pub said : S
  pub reads : g.read before line ≡ Ok said
  pub more : List ℕ
  pub text : g.text said ≡ g.text before ++ more
  pub written : AppendsFront held held_now (waited ++ more)

-- why the line is refused: by the grammar, or for want of memory, before anything is written
abbrev pub Refuses : {S : Type 0} → Grammar S → S → List ℕ → LineRefusal → Type 0
Refuses g before line (Bad why) = g.read before line ≡ Err (Bad why)
Refuses g before line (Limit which) = g.read before line ≡ Err (Limit which)
Refuses g before line Memory = g.text before ≡ []

-- the line is refused, and nothing was written
pub record Stays {S : Type 0} (g : Grammar S) (before : S) (line : List ℕ) (why : LineRefusal)
    (held held_now : Option (List ℕ)) (waited waits : List ℕ) : Type 0 where
  pub refuses : Refuses g before line why
  pub held_is : held_now ≡ held
  pub waits_is : waits ≡ waited

-- what each answer to a line means
abbrev pub LineMeans : {T S : Type 0} → Grammar S → (S → Type 0) → S → List ℕ → Option (List ℕ)
    → Option (List ℕ) → List ℕ → List ℕ → Result T Stop → Type 0
LineMeans g shows before line held held_now waited waits (Ok t) =
    GoesOn g shows before line held held_now waited waits
LineMeans g shows before line held held_now waited waits (Err (Refused why)) =
    Stays g before line why held held_now waited waits
LineMeans g shows before line held held_now waited waits (Err WriteFault) =
    Fails g before line held held_now waited

-- a fault of writing comes only where the sink's count of faults rose
abbrev pub StopRose : ℕ → ℕ → Stop → Type 0
StopRose writes writes_now (Refused why) = ⊤
StopRose writes writes_now WriteFault = Rose writes writes_now

-- The script has obeyed the line that the reader gave, and this came of it. `out` and `out_now` are
-- the source and the sink before it and after it.
pub record HasObeyed {T S : Type 0} (g : Grammar S) (shows shows_now : S → Type 0)
    (reader reader_now : LineReader) (waited waits : List ℕ) (out out_now : Outside)
    (done : Result T Stop) : Type 0 where
  pub line : List ℕ
  pub gave : GaveLine reader reader_now out.left out_now.left line
  pub means : (said : S) → shows said
      → LineMeans g shows_now said line out.held out_now.held waited waits done
  pub rose : IfErr done (StopRose out.writes out_now.writes)
